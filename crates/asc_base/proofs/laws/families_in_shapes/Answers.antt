use Rattle.std.proofs.Common.{arith}
use Rattle.asc_base.proofs.Families.{children_few, parent_above}
use Rattle.asc_base.proofs.Layers.{layer_of-lt}
use Rattle.asc_base.proofs.ShapeFacts.{shape_layered}
use Rattle.asc_base.proofs.laws.families_in_shapes.Goals as goal

pub returns-clause-layer : goal.returns-clause-layer
returns-clause-layer c shape address is_shape within =
    layer_of-lt shape.lines shape.layers address (omega (arith, within, (shape_layered shape is_shape).total))

pub returns-clause-parent : goal.returns-clause-parent
returns-clause-parent c shape address above is_shape within parent =
    let total = (shape_layered shape is_shape).total in
    let over = parent_above shape.lines shape.layers address above (omega (arith, within, total)) parent in
    (over.0, omega (arith, over.1, total))

pub returns-clause-few : goal.returns-clause-few
returns-clause-few c shape address first number is_shape within children =
    let total = (shape_layered shape is_shape).total in
    let few = children_few shape.lines shape.layers address first number (omega (arith, within, total)) children in
    (few.0, few.1)

pub returns-clause-children : goal.returns-clause-children
returns-clause-children c shape address first number place is_shape within children below =
    let total = (shape_layered shape is_shape).total in
    let few = children_few shape.lines shape.layers address first number (omega (arith, within, total)) children in
    omega (arith, within, below, few.2)
