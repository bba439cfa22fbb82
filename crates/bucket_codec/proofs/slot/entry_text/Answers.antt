use Rattle.std.proofs.Common.{append-nil, refl}
use Rattle.bucket_codec.specs.Slot.{entry_text}
use Rattle.bucket_codec.proofs.slot.entry_text.Goals as goal

pub returns : goal.returns
unfolding entry_text
returns c = rw (
  c.copy_from_slice.ensures.after,
  c.copy_from_slice-2.ensures.after,
  c.copy_from_slice-3.ensures.after,
  c.copy_from_slice-4.ensures.after,
  c.copy_from_slice-5.ensures.after,
  c.to_be_bytes.ensures,
  c.to_be_bytes-2.ensures,
  append-nil,
) refl
