use Rattle.std.proofs.Common.{◌^◌, ◌<◌, ◌≤◌, refl, arith}
use Rattle.std.proofs.Math.Pow.{pow_mono}
use Rattle.bucket_codec.proofs.slot.is_leaf.Goals as goal

pub returns-then-levels-ge32 : goal.returns-then-levels-ge32
returns-then-levels-ge32 c =
    let most : 2 ^ 32 ≤ 2 ^ c.args.levels = pow_mono {i = 32} {j = c.args.levels} c.if-levels-ge32.true in
    let below : c.args.leaf < 2 ^ c.args.levels = omega arith in
    (λ h. below, λ h. refl)
