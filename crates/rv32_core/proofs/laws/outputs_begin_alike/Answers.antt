use Rattle.rv32_core.proofs.OutputLaws.{run-output, longer-output}
use Rattle.rv32_core.proofs.laws.outputs_begin_alike.Goals as goal

pub returns-clause-run : goal.returns-clause-run
returns-clause-run c = run-output

pub returns-clause-longer : goal.returns-clause-longer
returns-clause-longer c = longer-output
