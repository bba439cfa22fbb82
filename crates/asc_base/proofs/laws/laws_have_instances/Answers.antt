use Rattle.std.proofs.Common.{refl, lit≤}
use Rattle.asc_base.specs.Greatest.{least, greatest}
use Rattle.asc_base.specs.Lookup.{without_first, changed_first, promoted_first}
use Rattle.asc_base.specs.Shape.{shape_of, layered}
use Rattle.asc_base.specs.TreeShape.{layer_count, layer_first, top_layer, levels_of, layer_of, index_of, parent_of}
use Rattle.asc_base.specs.TreeShape.{child_index_of, children_of, bucket_of, shared_of}
use Rattle.asc_base.proofs.laws.laws_have_instances.Goals as goal

pub returns-clause-shape : goal.returns-clause-shape
unfolding shape_of layered
returns-clause-shape c = record { lines_from = lit≤ tt; lines_to = lit≤ tt; rooted = (1, lit≤ tt, refl) }

pub returns-clause-layers : goal.returns-clause-layers
unfolding shape_of layered top_layer least layer_count layer_first levels_of greatest
returns-clause-layers c = (refl, refl, refl)

pub returns-clause-line : goal.returns-clause-line
unfolding layer_of parent_of child_index_of index_of greatest layer_first layer_count
returns-clause-line c = (refl, refl, refl)

pub returns-clause-block : goal.returns-clause-block
unfolding layer_of parent_of children_of index_of greatest layer_first layer_count
returns-clause-block c = (refl, refl, refl)

pub returns-clause-path : goal.returns-clause-path
unfolding bucket_of shared_of greatest
returns-clause-path c = (refl, refl, refl)

pub returns-clause-taken : goal.returns-clause-taken
unfolding without_first
returns-clause-taken c = refl

pub returns-clause-changed : goal.returns-clause-changed
unfolding changed_first
returns-clause-changed c = refl

pub returns-clause-promoted : goal.returns-clause-promoted
unfolding promoted_first without_first
returns-clause-promoted c = refl
