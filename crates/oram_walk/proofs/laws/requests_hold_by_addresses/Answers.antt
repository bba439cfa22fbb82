use Rattle.oram_walk.proofs.HeldAfter.{request_after, fetch_after, store_after}
use Rattle.oram_walk.proofs.laws.requests_hold_by_addresses.Goals as goal

pub returns-clause-request : goal.returns-clause-request
returns-clause-request c = request_after

pub returns-clause-fetch : goal.returns-clause-fetch
returns-clause-fetch c = fetch_after

pub returns-clause-store : goal.returns-clause-store
returns-clause-store c = store_after
