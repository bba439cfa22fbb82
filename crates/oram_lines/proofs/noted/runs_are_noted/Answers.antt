use Rattle.oram_lines.proofs.NotedLaws.{runs_noted}
use Rattle.oram_lines.proofs.noted.runs_are_noted.Goals as goal

pub returns : goal.returns
returns c = record {
  lines = λ keys levels plan. runs_noted keys levels plan;
  times = λ keys levels plan. runs_noted keys levels plan;
}
