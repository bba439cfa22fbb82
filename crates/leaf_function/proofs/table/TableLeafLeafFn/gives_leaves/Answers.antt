use Rattle.leaf_function.specs.Table.{Table}
use Rattle.leaf_function.proofs.Found.{table_leaf_below}
use Rattle.leaf_function.proofs.table.TableLeafLeafFn.gives_leaves.Goals as goal

pub returns : goal.returns
returns c point =
    let inside = c.self.inside in
    let table : Table = record { pairs = inside.pairs.items; rest = inside.rest.0; levels = inside.levels } in
    rw (← c.self.view_is) (table_leaf_below table point c.self.invariant.0 c.self.invariant.1)
