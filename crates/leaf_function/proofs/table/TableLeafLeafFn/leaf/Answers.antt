use Rattle.leaf_function.specs.Table.{same_point}
use Rattle.leaf_function.proofs.Found.{found_below}
use Rattle.leaf_function.proofs.table.TableLeafLeafFn.leaf.Goals as goal

pub returns-in-Some-clause-below : goal.returns-in-Some-clause-below
returns-in-Some-clause-below c =
    rw (← c.self.view_is) (found_below c.self.inside.pairs.items c.self.inside.levels
    (λ pair. same_point pair.0 c.args.point) c.in-Some.leaf c.self.invariant.0
    (rw c.deref.ensures.value at c.in-Some.ensures))
