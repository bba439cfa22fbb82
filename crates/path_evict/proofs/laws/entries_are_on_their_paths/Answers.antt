use Rattle.path_evict.proofs.OnPaths.{on_paths}
use Rattle.path_evict.proofs.laws.entries_are_on_their_paths.Goals as goal

pub returns : goal.returns
returns c = on_paths
