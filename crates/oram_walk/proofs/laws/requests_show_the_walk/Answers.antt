use Rattle.oram_walk.proofs.Walked.{walks_over, fetch_over, store_over, start_shown}
use Rattle.oram_walk.proofs.laws.requests_show_the_walk.Goals as goal

pub returns-clause-request : goal.returns-clause-request
returns-clause-request c = walks_over

pub returns-clause-fetch : goal.returns-clause-fetch
returns-clause-fetch c = fetch_over

pub returns-clause-store : goal.returns-clause-store
returns-clause-store c = store_over

pub returns-clause-start : goal.returns-clause-start
returns-clause-start c = start_shown
