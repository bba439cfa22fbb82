use Rattle.std.proofs.Common.{refl}
use Rattle.rv32_core.proofs.RunLaws.{run_plan-none, run_plan-next, served-run_plan, asked-run_plan, Asks-run_plan}
use Rattle.rv32_core.proofs.RunLaws.{step_plan-keeps}
use Rattle.rv32_core.proofs.laws.run_is_one_plan.Goals as goal

pub returns-clause-none : goal.returns-clause-none
returns-clause-none c = run_plan-none

pub returns-clause-next : goal.returns-clause-next
returns-clause-next c = run_plan-next

pub returns-clause-flat : goal.returns-clause-flat
returns-clause-flat c = λ n before machine memory. served-run_plan machine.core.base n before machine memory refl

pub returns-clause-lines : goal.returns-clause-lines
returns-clause-lines c = λ n before cost machine memory fits. asked-run_plan machine.core n before cost machine
    memory refl refl fits

pub returns-clause-inside : goal.returns-clause-inside
returns-clause-inside c = λ n before machine is. Asks-run_plan machine.core.base machine.core.size n before
    machine is refl refl

pub returns-clause-outcomes : goal.returns-clause-outcomes
returns-clause-outcomes c = step_plan-keeps
