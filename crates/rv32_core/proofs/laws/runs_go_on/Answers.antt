use Rattle.rv32_core.proofs.FlatRunLaws.{flat_run-goes_on, flat_run-budget, flat_run-instructions}
use Rattle.rv32_core.proofs.laws.runs_go_on.Goals as goal

pub returns-clause-parts : goal.returns-clause-parts
returns-clause-parts c = flat_run-goes_on

pub returns-clause-budget : goal.returns-clause-budget
returns-clause-budget c = flat_run-budget

pub returns-clause-at_most : goal.returns-clause-at_most
returns-clause-at_most c = flat_run-instructions
