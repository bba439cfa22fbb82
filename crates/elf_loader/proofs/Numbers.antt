-- The bytes of the numbers that stand in a file.
use Rattle.std.proofs.Common.{◌≡◌, ℕ, ◌+◌, ◌-◌, ◌≤◌, ◌<◌, List, [], ◌∷◌, length, get_or, take, drop, refl, arith}
use Rattle.std.proofs.Common.{drop-cons, add-one}
use Rattle.std.specs.Int.{from_le_bytes, w16, w32}
use Rattle.elf_loader.specs.Elf.{half, word}

-- the bytes from one place on are the byte there and those from the next place on
from_next : (file : List ℕ) (i j : ℕ) → j ≡ i + 1 → i < length file → drop i file ≡ get_or file i 0 ∷ drop j file
from_next file i j e h = rw (e, add-one) (drop-cons file i 0 h)

two_bytes : (file : List ℕ) (at n : ℕ) → n ≡ 2 → at + 2 ≤ length file →
    take n (drop at file) ≡ get_or file at 0 ∷ get_or file (at + 1) 0 ∷ []
two_bytes file at n two long =
    let e0 : drop at file ≡ get_or file at 0 ∷ drop (at + 1) file = from_next file at (at + 1) refl (omega arith) in
    let e1 : drop (at + 1) file ≡ get_or file (at + 1) 0 ∷ drop (at + 2) file =
    from_next file (at + 1) (at + 2) (omega arith) (omega arith) in
    rw (two, e0, e1) refl

pub half_read : (file : List ℕ) (at : ℕ) → at + 2 ≤ length file →
    from_le_bytes w16 (get_or file at 0 ∷ get_or file (at + 1) 0 ∷ []) ≡ half file at
unfolding half
half_read file at long = rw (two_bytes file at (at + 2 - at) (omega arith) long) refl

four_bytes : (file : List ℕ) (at n : ℕ) → n ≡ 4 → at + 4 ≤ length file →
    take n (drop at file) ≡
    get_or file at 0 ∷ get_or file (at + 1) 0 ∷ get_or file (at + 2) 0 ∷ get_or file (at + 3) 0 ∷ []
four_bytes file at n four long =
    let e0 : drop at file ≡ get_or file at 0 ∷ drop (at + 1) file = from_next file at (at + 1) refl (omega arith) in
    let e1 : drop (at + 1) file ≡ get_or file (at + 1) 0 ∷ drop (at + 2) file =
    from_next file (at + 1) (at + 2) (omega arith) (omega arith) in
    let e2 : drop (at + 2) file ≡ get_or file (at + 2) 0 ∷ drop (at + 3) file =
    from_next file (at + 2) (at + 3) (omega arith) (omega arith) in
    let e3 : drop (at + 3) file ≡ get_or file (at + 3) 0 ∷ drop (at + 4) file =
    from_next file (at + 3) (at + 4) (omega arith) (omega arith) in
    rw (four, e0, e1, e2, e3) refl

pub word_read : (file : List ℕ) (at : ℕ) → at + 4 ≤ length file →
    from_le_bytes w32 (get_or file at 0 ∷ get_or file (at + 1) 0 ∷ get_or file (at + 2) 0 ∷ get_or file (at + 3) 0 ∷ [])
    ≡ word file at
unfolding word
word_read file at long = rw (four_bytes file at (at + 4 - at) (omega arith) long) refl
