-- Two stretches meet exactly where they have a byte in common, so a line is touched exactly where the file part covers
-- an address of it.
use Rattle.std.proofs.Common.{◌≡◌, ℕ, ◌+◌, ◌≤◌, ◌<◌, arith, true, max, ◌&&◌, ◌==◌, nat_le, nat_lt, min, refl, ltb-true}
use Rattle.std.proofs.Common.{lt-ltb}
use Rattle.std.proofs.lemmas.Bool.Decides.{nat_tests}
use Rattle.elf_loader.specs.declared.header.ProgramHeader.{ProgramHeader}
use Rattle.elf_loader.specs.Layout.{covers, meets, touches}

pub meets_common : (a m b n : ℕ) → meets a m b n ≡ true → (x : ℕ) × ((a ≤ x) × (x < a + m) × (b ≤ x) × (x < b + n))
meets_common a m b n met =
    let below : max a b < min (a + m) (b + n) = ltb-true (max a b) (min (a + m) (b + n)) met in
    (max a b, (omega arith, omega arith, omega arith, omega arith))

pub common_meets : (a m b n x : ℕ) → a ≤ x → x < a + m → b ≤ x → x < b + n → meets a m b n ≡ true
common_meets a m b n x from_a to_a from_b to_b = lt-ltb (max a b) (min (a + m) (b + n)) (omega arith)

covered : (kind v n start x : ℕ) → (kind == 1 && nat_lt (max v start) (min (v + n) (start + 64))) ≡ true
    → x ≡ max v start →
    (kind == 1 && nat_le v x && nat_lt x (v + n)) ≡ true
covered kind v n start x touched at = grind (arith, nat_tests)

inside_line : (kind v n start x : ℕ) → (kind == 1 && nat_lt (max v start) (min (v + n) (start + 64))) ≡ true
    → x ≡ max v start →
    x < start + 64
inside_line kind v n start x touched at = grind (arith, nat_tests)

touching : (kind v n start x : ℕ) → (kind == 1 && nat_le v x && nat_lt x (v + n)) ≡ true → start ≤ x → x < start + 64 →
    (kind == 1 && nat_lt (max v start) (min (v + n) (start + 64))) ≡ true
touching kind v n start x in_part from to = grind (arith, nat_tests)

-- a line that is touched has an address that the file part covers
pub touches-covers : (header : ProgramHeader) (start : ℕ) → touches header start ≡ true →
    (x : ℕ) × ((start ≤ x) × (x < start + 64) × (covers header x ≡ true))
touches-covers header start touched =
    let x : ℕ = max header.address start in (
      x,
      (
        omega arith,
        inside_line header.kind header.address header.file_size start x touched refl,
        covered header.kind header.address header.file_size start x touched refl,
      ),
    )

-- the line of an address that the file part covers is touched
pub covers-touches : (header : ProgramHeader) (start x : ℕ) → start ≤ x → x < start + 64 → covers header x ≡ true →
    touches header start ≡ true
covers-touches header start x from to in_part =
    touching header.kind header.address header.file_size start x in_part from to
