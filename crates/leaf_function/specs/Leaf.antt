-- Which leaf a key gives a point. All numbers are written high byte first.
use Rattle.std.specs.Prelude.{ℕ, ◌%◌, ◌^◌, ◌<◌, List, ◌∷◌, ◌++◌, take, codes}
use Rattle.std.specs.Int.{w16, w32, w64, to_be_bytes, from_be_bytes}
use Rattle.asc_base.specs.declared.block.Point.{Point}
use Rattle.asc_base.specs.declared.block.Point.TheVariants.{Real, Dummy}
use Rattle.hmac_sha.specs.Hmac.{hmac, derive}

-- the text of a point: 00, the address (4 bytes), the group's count (8) and the own count (2) of a block under a
-- counter; 01 and the number (8) of a dummy
unfoldable pub point_text : Point → List ℕ
point_text (Real address counter) =
    0x00 ∷ (to_be_bytes w32 address.0 ++ (to_be_bytes w64 counter.group ++ to_be_bytes w16 counter.own))
point_text (Dummy number) = 0x01 ∷ to_be_bytes w64 number

-- the numbers of a point are in the ranges of their types
abbrev pub IsPoint : Point → Type 0
IsPoint (Real address counter) = (address.0 < 2 ^ 32) × (counter.group < 2 ^ 64) × (counter.own < 2 ^ 16)
IsPoint (Dummy number) = number < 2 ^ 64

-- the key of leaves that a master key gives
unfoldable pub leaf_key : List ℕ → List ℕ
leaf_key master = derive master (codes "ascend leaf")

-- the first four bytes of the code of the point's text, as a number, modulo the number of leaves
unfoldable pub leaf : List ℕ → ℕ → Point → ℕ
leaf key levels point = from_be_bytes w32 (take 4 (hmac key (point_text point))) % 2 ^ levels

-- every value is one of the leaves of a tree with so many levels below the root
abbrev pub AreLeaves : ℕ → (Point → ℕ) → Type 0
AreLeaves levels leaf_of = (point : Point) → leaf_of point < 2 ^ levels

-- what is seen of a keyed leaf function: its derived key, and the levels of its tree below the root
pub record Keyed : Type 0 where
  pub key : List ℕ
  pub levels : ℕ
