use Rattle.rv32_core.proofs.ItemLaws.{run_items-none, run_items-next, run_items-last, run_items-parts}
use Rattle.rv32_core.proofs.laws.items_go_on.Goals as goal

pub returns-clause-none : goal.returns-clause-none
returns-clause-none c = run_items-none

pub returns-clause-next : goal.returns-clause-next
returns-clause-next c = run_items-next

pub returns-clause-last : goal.returns-clause-last
returns-clause-last c = run_items-last

pub returns-clause-parts : goal.returns-clause-parts
returns-clause-parts c = run_items-parts
