use Rattle.leaf_function.proofs.Found.{table_leaf_below}
use Rattle.leaf_function.proofs.Leaves.{leaf_below}
use Rattle.leaf_function.proofs.laws.leaves_are_below.Goals as goal

pub returns-clause-keyed : goal.returns-clause-keyed
returns-clause-keyed c = leaf_below

pub returns-clause-table : goal.returns-clause-table
returns-clause-table c = table_leaf_below
