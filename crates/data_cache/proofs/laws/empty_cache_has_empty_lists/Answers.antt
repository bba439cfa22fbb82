use Rattle.data_cache.proofs.UseLaws.{empty-mirrors}
use Rattle.data_cache.proofs.laws.empty_cache_has_empty_lists.Goals as goal

pub returns : goal.returns
returns c = empty-mirrors
