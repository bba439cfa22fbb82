-- Bytes, and the numbers that they spell.
use Rattle.std.proofs.Common.{◌≡◌, ℕ, zero, suc, ◌/◌, ◌^◌, ◌<◌, Bool, true, false, ◌&&◌, List, [], ◌∷◌, get_or}
use Rattle.std.proofs.Common.{refl, sym, ap, ◌∙◌, lit<}
use Rattle.std.specs.Int.{w16, w32, w64, to_be_bytes, from_be_bytes, byte_at, bytes_high_first}
use Rattle.std.proofs.lemmas.List.{get_or_default}
use Rattle.std.proofs.lemmas.List.Elements.{All-head, All-tail, All-nil, All-cons}
use Rattle.std.proofs.lemmas.Nat.{from_be_bytes-to_be_bytes_2, from_be_bytes-to_be_bytes_4}
use Rattle.std.proofs.lemmas.Nat.{from_be_bytes-to_be_bytes_8, mod_below}
use Rattle.asc_base.specs.Bytes.{AreBytes}

-- numbers with the same bytes, of two, four and eight of them
pub number_of_2 : (m n : ℕ) → m < 2 ^ 16 → n < 2 ^ 16 → to_be_bytes w16 m ≡ to_be_bytes w16 n → m ≡ n
number_of_2 m n h k e =
    sym (from_be_bytes-to_be_bytes_2 m h) ∙ ap (from_be_bytes w16) e ∙ from_be_bytes-to_be_bytes_2 n k

pub number_of_4 : (m n : ℕ) → m < 2 ^ 32 → n < 2 ^ 32 → to_be_bytes w32 m ≡ to_be_bytes w32 n → m ≡ n
number_of_4 m n h k e =
    sym (from_be_bytes-to_be_bytes_4 m h) ∙ ap (from_be_bytes w32) e ∙ from_be_bytes-to_be_bytes_4 n k

pub number_of_8 : (m n : ℕ) → m < 2 ^ 64 → n < 2 ^ 64 → to_be_bytes w64 m ≡ to_be_bytes w64 n → m ≡ n
number_of_8 m n h k e =
    sym (from_be_bytes-to_be_bytes_8 m h) ∙ ap (from_be_bytes w64) e ∙ from_be_bytes-to_be_bytes_8 n k

-- bytes by their places: also past the end, where a list reads as 0
pub byte_of : (bytes : List ℕ) (i : ℕ) → AreBytes bytes → get_or bytes i 0 < 256
byte_of [] i all = lit< tt
byte_of (x ∷ xs) zero all = All-head (λ b. b < 256) x xs all
byte_of (x ∷ xs) (suc i) all = byte_of xs i (All-tail (λ b. b < 256) x xs all)

pub bytes_at : (bytes : List ℕ) → ((i : ℕ) → get_or bytes i 0 < 256) → AreBytes bytes
bytes_at bytes each k d below = rw (get_or_default bytes k d 0 below) (each k)

-- each byte of a number is one
pub byte_at-below : (place n : ℕ) → byte_at place n < 256
byte_at-below zero n = mod_below n 256 (lit< tt)
byte_at-below (suc place) n = mod_below (n / 256 ^ suc place) 256 (lit< tt)

pub bytes-number : (k n : ℕ) → AreBytes (bytes_high_first k n)
bytes-number zero n = All-nil (λ b. b < 256)
bytes-number (suc k) n =
    All-cons (λ b. b < 256) (byte_at k n) (bytes_high_first k n) (byte_at-below k n) (bytes-number k n)

-- two tests that hold together
pub both : (p q : Bool) → (p && q) ≡ true → (p ≡ true) × (q ≡ true)
both true true e = (refl, refl)
both true false e = absurd (cc)
both false q e = absurd (cc)
