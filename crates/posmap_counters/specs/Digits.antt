-- A number as a fixed number of digits in a base.
use Rattle.std.specs.Prelude.{ℕ, ◌/◌, ◌%◌, ◌^◌, List, [], ◌∷◌}
use Rattle.std.proofs.Common.{zero, suc}

-- the last `count` digits of a number in a base, the highest first
unfoldable pub digits : ℕ → ℕ → ℕ → List ℕ
digits base zero number = []
digits base (suc count) number = number / base ^ count % base ∷ digits base count number
