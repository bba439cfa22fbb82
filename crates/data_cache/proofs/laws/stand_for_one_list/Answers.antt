use Rattle.data_cache.proofs.ToldLaws.{one-list, stand-start}
use Rattle.data_cache.proofs.laws.stand_for_one_list.Goals as goal

pub returns-clause-one : goal.returns-clause-one
returns-clause-one c = one-list

pub returns-clause-start : goal.returns-clause-start
returns-clause-start c = stand-start
