use Rattle.std.proofs.Common.{◌<◌, length, add-one, arith}
use Rattle.bucket_codec.proofs.Pads.{masked-none, masked-more}
use Rattle.bucket_codec.proofs.pad.mask.Goals as goal

pub loop-place-init : goal.loop-place-init
loop-place-init c = masked-none c.args.pad.now c.args.bytes.now

pub loop-place-preserved : goal.loop-place-preserved
loop-place-preserved c =
    let in_pad : c.loop-place.place < length c.args.pad.now = omega arith in
    let in_bytes : c.loop-place.place < length c.args.bytes.now = omega arith in
    rw (c.loop-place.invariant, add-one)
    (masked-more c.args.pad.now c.args.bytes.now c.loop-place.place in_pad in_bytes)
