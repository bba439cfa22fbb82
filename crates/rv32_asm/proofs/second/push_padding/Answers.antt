use Rattle.std.proofs.Common.{◌≡◌, ◌≤◌, true, unsigned_abs, arith}
use Rattle.std.proofs.lemmas.Grind.{common_steps}
use Rattle.rv32_asm.specs.Values.{is_multiple}
use Rattle.rv32_asm.proofs.Multiples.{positive}
use Rattle.rv32_asm.proofs.second.push_padding.Goals as goal

pub padding-requires : goal.padding-requires
padding-requires c =
    let is : is_multiple c.args.multiple ≡ true = grind (arith, common_steps) in
    let some : 1 ≤ unsigned_abs c.args.multiple = positive c.args.multiple is in
    grind (arith, common_steps, some)
