-- The least and the greatest number at which a test holds.
use Rattle.std.specs.Prelude.{ℕ, Bool, if◌then◌else◌}
use Rattle.std.proofs.Common.{zero, suc}

-- the least number up to `bound` at which the test holds, and `bound` where it holds at none of them
unfoldable pub least : (ℕ → Bool) → ℕ → ℕ
least holds zero = 0
least holds (suc bound) = (if holds 0 then 0 else suc (least (λ k. holds (suc k)) bound))

-- the greatest number up to `bound` at which the test holds, and 0 where it holds at none of them
unfoldable pub greatest : (ℕ → Bool) → ℕ → ℕ
greatest holds zero = 0
greatest holds (suc bound) = (if holds (suc bound) then suc bound else greatest holds bound)
