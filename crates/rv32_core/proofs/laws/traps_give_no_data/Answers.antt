use Rattle.rv32_core.proofs.StepLines.{step_lines-fault, step_lines-trap, step_lines-finished}
use Rattle.rv32_core.proofs.laws.traps_give_no_data.Goals as goal

pub returns-clause-fault : goal.returns-clause-fault
returns-clause-fault c = step_lines-fault

pub returns-clause-trap : goal.returns-clause-trap
returns-clause-trap c = step_lines-trap

pub returns-clause-finished : goal.returns-clause-finished
returns-clause-finished c = step_lines-finished
