use Rattle.std.proofs.Common.{arith}
use Rattle.asc_base.proofs.Families.{children_few, parent_above, siblings_share, child_index-lt}
use Rattle.asc_base.proofs.laws.families_are_ordered.Goals as goal

pub returns-clause-place : goal.returns-clause-place
returns-clause-place c = child_index-lt

pub returns-clause-few : goal.returns-clause-few
returns-clause-few c lines layers address first number inside children =
    let few = children_few lines layers address first number inside children in (few.0, few.1)

pub returns-clause-below : goal.returns-clause-below
returns-clause-below c lines layers address first number place inside children within =
    omega (arith, within, (children_few lines layers address first number inside children).2)

pub returns-clause-above : goal.returns-clause-above
returns-clause-above c = parent_above

pub returns-clause-siblings : goal.returns-clause-siblings
returns-clause-siblings c = siblings_share
