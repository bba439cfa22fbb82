use Rattle.play_run.proofs.Runs.{instruction-stands, instruction-stop-shows, time-ends, budget-ends}
use Rattle.play_run.proofs.laws.instructions_stand_in_the_play.Goals as goal

pub returns : goal.returns
returns c = record {
  ends = λ keys levels config lawful plays machine is size.
      instruction-stands keys lawful levels config plays machine is size;
  stops = λ keys levels config lawful plays stops machine is size.
      instruction-stop-shows keys lawful levels config plays machine is size stops;
  time = time-ends;
  budget = budget-ends;
}
