use Rattle.std.proofs.Common.{◌≤◌, length, length-drop, drop, refl, arith}
use Rattle.std.proofs.lemmas.List.{take_all}
use Rattle.bucket_codec.specs.Bucket.{body_in}
use Rattle.bucket_codec.proofs.codec.opened_body.Goals as goal

pub returns : goal.returns
unfolding body_in
returns c =
    let long : length (drop 8 c.args.bytes.now) ≤ 368 = omega (arith, length-drop 8 c.args.bytes.now, c.told-bytes) in
    rw (
      c.mask.ensures,
      c.pad_of.ensures,
      c.seed_of.ensures,
      c.copy_from_slice.ensures.after,
      take_all 368 (drop 8 c.args.bytes.now) long,
    ) refl
