use Rattle.asc_base.proofs.Families.{parent_of_child, child_of_parent}
use Rattle.asc_base.proofs.laws.parents_and_children.Goals as goal

pub returns-clause-parent_of_child : goal.returns-clause-parent_of_child
returns-clause-parent_of_child c = parent_of_child

pub returns-clause-child_of_parent : goal.returns-clause-child_of_parent
returns-clause-child_of_parent c = child_of_parent
