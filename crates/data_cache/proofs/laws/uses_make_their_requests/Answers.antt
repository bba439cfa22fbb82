use Rattle.data_cache.proofs.UseLaws.{use-requests, access-requests}
use Rattle.data_cache.proofs.laws.uses_make_their_requests.Goals as goal

pub returns-clause-uses : goal.returns-clause-uses
returns-clause-uses c = use-requests

pub returns-clause-accesses : goal.returns-clause-accesses
returns-clause-accesses c = access-requests
