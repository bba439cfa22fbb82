use Rattle.path_evict.proofs.Highest.{rest-le-length}
use Rattle.path_evict.proofs.laws.rest_is_some_of_all.Goals as goal

pub returns : goal.returns
returns c = rest-le-length
