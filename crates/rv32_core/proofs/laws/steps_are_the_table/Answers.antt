use Rattle.rv32_core.proofs.RowSteps.{row-effected, row-stepped, row-illegal}
use Rattle.rv32_core.proofs.laws.steps_are_the_table.Goals as goal

pub returns-clause-word : goal.returns-clause-word
returns-clause-word c = row-effected

pub returns-clause-step : goal.returns-clause-step
returns-clause-step c = row-stepped

pub returns-clause-illegal : goal.returns-clause-illegal
returns-clause-illegal c = row-illegal
