use Rattle.run_play.proofs.Halts.{halted-parts, cut-halted, halted-ends}
use Rattle.run_play.proofs.laws.halted_runs_are_cuts.Goals as goal

pub returns : goal.returns
returns c = record {
  parts = halted-parts;
  cut = cut-halted;
  ends = halted-ends;
}
