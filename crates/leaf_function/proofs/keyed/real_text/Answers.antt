use Rattle.std.proofs.Common.{refl}
use Rattle.leaf_function.specs.Leaf.{point_text}
use Rattle.leaf_function.proofs.keyed.real_text.Goals as goal

pub returns : goal.returns
unfolding point_text
returns c = rw (
  c.copy_from_slice.ensures.after,
  c.copy_from_slice-2.ensures.after,
  c.copy_from_slice-3.ensures.after,
  c.to_be_bytes.ensures,
  c.to_be_bytes-2.ensures,
  c.to_be_bytes-3.ensures,
) refl
