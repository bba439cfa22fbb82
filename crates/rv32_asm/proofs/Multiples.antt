-- A power of two that a statement may name is at least 1.
use Rattle.std.proofs.Common.{◌≡◌, ℤ, pos, negsuc, suc, zero, ◌≤◌, arith, true, unsigned_abs}
use Rattle.rv32_asm.specs.Values.{is_multiple, multiples}

pub positive : (number : ℤ) → is_multiple number ≡ true → 1 ≤ unsigned_abs number
unfolding multiples
positive (pos zero) is = absurd (cc)
positive (pos (suc n)) is = omega arith
positive (negsuc n) is = omega arith
