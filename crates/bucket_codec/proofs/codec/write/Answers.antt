use Rattle.std.proofs.Common.{◌≡◌, ◌++◌, length, refl, ◌∙◌}
use Rattle.std.specs.Int.{w64, to_be_bytes}
use Rattle.bucket_codec.proofs.Lists.{two_parts}
use Rattle.bucket_codec.proofs.codec.write.Goals as goal

pub returns : goal.returns
returns c =
    let seed = c.copy_from_slice.new.self in
    let body = c.copy_from_slice-2.new.self in
    let eight : length seed ≡ 8 = rw (c.copy_from_slice.ensures.after, c.to_be_bytes.ensures) refl in
    let parts : seed ++ body ≡ to_be_bytes w64 c.args.seed ++ c.args.body.now =
    rw (c.copy_from_slice.ensures.after, c.to_be_bytes.ensures, c.copy_from_slice-2.ensures.after) refl in
    two_parts seed body c.args.into.now 8 368 eight c.told-into ∙ parts
