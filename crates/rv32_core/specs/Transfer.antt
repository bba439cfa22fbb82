-- How bytes are moved between the memory and a file: in pieces, each in one line, in rising order.
use Rattle.std.specs.Prelude.{ℕ, ◌+◌, ◌-◌, ◌%◌, ◌<◌, ◌≤◌, ◌^◌, ◌==◌, if◌then◌else◌, min, List, [], ◌∷◌, ◌++◌, take}
use Rattle.std.specs.Prelude.{drop, zero, suc}
use Rattle.request_plan.specs.Plan.{Plan, Done as Outcome, Ask}
use Rattle.rv32_core.specs.Access.{Access, Load, Store}

-- so many bytes from an address on are none, or all in the memory; and they end at an address
pub record IsRange (base size address count : ℕ) : Type 0 where
  pub above : 0 < count → base ≤ address
  pub below : 0 < count → address + count ≤ base + size
  pub ends : address + count < 2 ^ 32

-- The first pieces, at most so many, of a range of bytes that is cut where a line of 64 bytes ends.
-- A piece is its address and its length.
unfoldable pub pieces_within : ℕ → ℕ → ℕ → List (ℕ × ℕ)
pieces_within zero address count = []
pieces_within (suc most) address count =
    if count == 0 then []
    else (let part = min count (64 - address % 64) in (address, part) ∷ pieces_within most
    (address + part) (count - part))

-- All pieces of so many bytes from an address on: there are no more of them than bytes.
abbrev pub pieces : ℕ → ℕ → List (ℕ × ℕ)
pieces address count = pieces_within count address count

-- The bytes are stored piece by piece.
abbrev pub stores_plan : List ℕ → List (ℕ × ℕ) → Plan Access (List ℕ) (Unit {0}) (Unit {0})
stores_plan bytes [] = Outcome tt
stores_plan bytes (piece ∷ rest) = Ask (Store (piece.0) (take (piece.1) bytes)) tt
    (λ _. stores_plan (drop (piece.1) bytes) rest)

-- The pieces are loaded and appended to what there is.
abbrev pub loads_plan : List ℕ → List (ℕ × ℕ) → Plan Access (List ℕ) (Unit {0}) (List ℕ)
loads_plan so_far [] = Outcome so_far
loads_plan so_far (piece ∷ rest) = Ask (Load (piece.0) (piece.1)) tt (λ bytes. loads_plan (so_far ++ bytes) rest)
