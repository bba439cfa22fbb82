use Rattle.encrypted_run.proofs.HonestLaws.{line_clear, instruction_clear, run_clear, whole_clear, wait_clear}
use Rattle.encrypted_run.proofs.honest_runs_are_not_blamed.Goals as goal

pub returns : goal.returns
returns c = record {
  line = line_clear;
  instruction = instruction_clear;
  run = run_clear;
  whole = whole_clear;
  wait = wait_clear;
}
