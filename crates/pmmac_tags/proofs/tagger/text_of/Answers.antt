use Rattle.std.proofs.Common.{append-nil, refl}
use Rattle.pmmac_tags.specs.Tag.{message_text}
use Rattle.pmmac_tags.proofs.tagger.text_of.Goals as goal

pub returns : goal.returns
unfolding message_text
returns c = rw (
  c.copy_from_slice.ensures.after,
  c.copy_from_slice-2.ensures.after,
  c.copy_from_slice-3.ensures.after,
  c.copy_from_slice-4.ensures.after,
  c.to_be_bytes.ensures,
  c.to_be_bytes-2.ensures,
  c.to_be_bytes-3.ensures,
  append-nil,
) refl
