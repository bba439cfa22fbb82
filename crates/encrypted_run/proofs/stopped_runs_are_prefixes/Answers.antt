use Rattle.encrypted_run.proofs.StopLaws.{plan_stop, stop_refines, whole_stop}
use Rattle.encrypted_run.proofs.stopped_runs_are_prefixes.Goals as goal

pub returns : goal.returns
returns c = record {
  run = λ keys lawful levels. stop_refines keys lawful levels;
  whole = whole_stop;
  forged = λ keys lawful levels plan. plan_stop keys lawful levels plan;
}
