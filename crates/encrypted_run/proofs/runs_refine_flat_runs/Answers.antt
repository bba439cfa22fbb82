use Rattle.encrypted_run.proofs.RefinedLaws.{line_refines, instruction_refines, run_refines}
use Rattle.encrypted_run.proofs.runs_refine_flat_runs.Goals as goal

pub returns : goal.returns
returns c = record { line = line_refines; instruction = instruction_refines; run = run_refines }
