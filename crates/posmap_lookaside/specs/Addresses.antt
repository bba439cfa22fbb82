-- A list of addresses of position-map blocks, the most recent first.
use Rattle.std.specs.Prelude.{ℕ, ◌≤◌, nat_eq, List}
use Rattle.std.specs.List.{count_by}
use Rattle.asc_base.specs.Lookup.{promoted_first}

-- the list with an address in front, where it has it
abbrev pub used : List ℕ → ℕ → List ℕ
used list address = promoted_first (λ held. nat_eq held address) list

-- no address is there twice
abbrev pub AreDistinct : List ℕ → Type 0
AreDistinct list = (address : ℕ) → count_by (λ held. nat_eq held address) list ≤ 1
