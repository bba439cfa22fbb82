use Rattle.oram_lines.proofs.FetchLaws.{fetch_answers, store_answers}
use Rattle.oram_lines.proofs.LineLaws.{wait_answers}
use Rattle.oram_lines.proofs.NotedLaws.{zeros_outside}
use Rattle.oram_lines.proofs.noted.answers_are_lines.Goals as goal

pub returns : goal.returns
returns c = record { start = zeros_outside; wait = wait_answers; fetch = fetch_answers; store = store_answers }
