use Rattle.std.proofs.Common.{arith}
use Rattle.asc_base.proofs.ShapeFacts.{shape_layered}
use Rattle.asc_base.proofs.laws.shapes_are_small.Goals as goal

pub returns-clause-layers : goal.returns-clause-layers
returns-clause-layers c shape is_shape =
    let facts = shape_layered shape is_shape in
    (facts.layers_from, facts.layers_to)

pub returns-clause-total : goal.returns-clause-total
returns-clause-total c shape is_shape = (shape_layered shape is_shape).total_to

pub returns-clause-levels : goal.returns-clause-levels
returns-clause-levels c shape is_shape =
    let facts = shape_layered shape is_shape in
    (facts.levels_from, facts.levels_to)

pub returns-clause-buckets : goal.returns-clause-buckets
returns-clause-buckets c shape is_shape = omega (arith, (shape_layered shape is_shape).buckets)

pub returns-clause-most_buckets : goal.returns-clause-most_buckets
returns-clause-most_buckets c shape is_shape = (shape_layered shape is_shape).buckets_to

pub returns-clause-blocks : goal.returns-clause-blocks
returns-clause-blocks c shape is_shape = (shape_layered shape is_shape).total
