use Rattle.data_cache.proofs.UseLaws.{row-one, row-two, row-three}
use Rattle.data_cache.proofs.laws.worked_requests.Goals as goal

pub returns-clause-one_way : goal.returns-clause-one_way
returns-clause-one_way c = row-one

pub returns-clause-two_ways : goal.returns-clause-two_ways
returns-clause-two_ways c = row-two

pub returns-clause-stored_once : goal.returns-clause-stored_once
returns-clause-stored_once c = row-three
