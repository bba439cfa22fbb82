-- Splices of places that lie apart come to the same in either order, and leave each other's bytes.
use Rattle.std.proofs.Common.{◌≡◌, ◌⊎◌, ℕ, ◌+◌, ◌-◌, ◌*◌, ◌<◌, ◌≤◌, List, ◌++◌, length, take, drop, sym, ap, ◌∙◌, arith}
use Rattle.std.proofs.Common.{length-append, append_assoc, inl, inr}
use Rattle.std.proofs.Math.Seq.{take-append-add, drop-append-add}
use Rattle.std.proofs.lemmas.List.{take-take, take-append-le, drop-append-le, drop-drop, drop-take, length-take-le}
use Rattle.rv32_core.specs.Access.{slice_of, spliced}
use Rattle.data_cache.proofs.Parts.{part_of_line, other-patched}

-- ---- a list with bytes put in, up to a place and from a place on
whole-front : (m x : List ℕ) (a : ℕ) → a ≤ length m → length (take a m ++ x) ≡ a + length x
whole-front m x a inside = length-append (take a m) x ∙ ap (λ n. n + length x) (length-take-le a m inside)

take-behind : (m x : List ℕ) (a more : ℕ) → a ≤ length m
    → take ((a + length x) + more) (spliced m a x) ≡ (take a m ++ x) ++ take more (drop (a + length x) m)
take-behind m x a more inside =
    ap (λ n. take (n + more) (spliced m a x)) (sym (whole-front m x a inside))
    ∙ take-append-add (take a m ++ x) (drop (a + length x) m) more

drop-behind : (m x : List ℕ) (a more : ℕ) → a ≤ length m
    → drop ((a + length x) + more) (spliced m a x) ≡ drop ((a + length x) + more) m
drop-behind m x a more inside =
    ap (λ n. drop (n + more) (spliced m a x)) (sym (whole-front m x a inside))
    ∙ drop-append-add (take a m ++ x) (drop (a + length x) m) more
    ∙ drop-drop more (a + length x) m

take-before : (m y : List ℕ) (b n : ℕ) → n ≤ b → b ≤ length m → take n (spliced m b y) ≡ take n m
take-before m y b n before inside =
    let la : length (take b m) ≡ b = length-take-le b m inside in
    ap (take n) (append_assoc (take b m) y (drop (b + length y) m))
    ∙ take-append-le n (take b m) (y ++ drop (b + length y) m) (omega (arith, la))
    ∙ take-take n b m before

drop-before : (m y : List ℕ) (b n : ℕ) → n ≤ b → b ≤ length m
    → drop n (spliced m b y) ≡ (take (b - n) (drop n m) ++ y) ++ drop (b + length y) m
drop-before m y b n before inside =
    let la : length (take b m) ≡ b = length-take-le b m inside in
    let e : n + (b - n) ≡ b = omega arith in
    ap (drop n) (append_assoc (take b m) y (drop (b + length y) m))
    ∙ drop-append-le n (take b m) (y ++ drop (b + length y) m) (omega (arith, la))
    ∙ ap (λ l. l ++ (y ++ drop (b + length y) m)) (ap (λ k. drop n (take k m)) (sym e) ∙ drop-take n (b - n) m)
    ∙ sym (append_assoc (take (b - n) (drop n m)) y (drop (b + length y) m))

-- ---- two places apart
spliced-apart : (m x y : List ℕ) (a b : ℕ) → a + length x ≤ b → b + length y ≤ length m
    → spliced (spliced m a x) b y ≡ spliced (spliced m b y) a x
spliced-apart m x y a b apart inside =
    let c : ℕ = b - (a + length x) in
    let e : (a + length x) + c ≡ b = omega arith in
    let d : (a + length x) + (c + length y) ≡ b + length y = omega arith in
    let before : take b (spliced m a x) ≡ (take a m ++ x) ++ take c (drop (a + length x) m) =
    ap (λ n. take n (spliced m a x)) (sym e) ∙ take-behind m x a c (omega arith) in
    let behind : drop (b + length y) (spliced m a x) ≡ drop (b + length y) m =
    ap (λ n. drop n (spliced m a x)) (sym d) ∙ drop-behind m x a (c + length y) (omega arith)
    ∙ ap (λ n. drop n m) d in
    ap (λ l. (l ++ y) ++ drop (b + length y) (spliced m a x)) before
    ∙ ap (λ l. (((take a m ++ x) ++ take c (drop (a + length x) m)) ++ y) ++ l) behind
    ∙ ap (λ l. l ++ drop (b + length y) m) (append_assoc (take a m ++ x) (take c (drop (a + length x) m)) y)
    ∙ append_assoc (take a m ++ x) (take c (drop (a + length x) m) ++ y) (drop (b + length y) m)
    ∙ sym (ap (λ l. (l ++ x) ++ drop (a + length x) (spliced m b y)) (take-before m y b a (omega arith) (omega arith))
    ∙ ap (λ l. (take a m ++ x) ++ l) (drop-before m y b (a + length x) apart (omega arith)))

apart : (n m : ℕ) → (n ≡ m → ⊥) → (n < m) ⊎ (m < n)
apart n m ne = grind arith

-- A line that is put in whole, and bytes that are put into another line.
pub lines-commute : (m x y : List ℕ) (n l place : ℕ) → (n ≡ l → ⊥) → length x ≡ 64 → place + length y ≤ 64
    → 64 * n + 64 ≤ length m → 64 * l + 64 ≤ length m
    → spliced (spliced m (64 * l + place) y) (64 * n) x ≡ spliced (spliced m (64 * n) x) (64 * l + place) y
lines-commute m x y n l place ne whole fits room other = elim (apart n l ne) [
  | inl less ↦ sym (spliced-apart m x y (64 * n) (64 * l + place) (omega arith) (omega arith))
  | inr more ↦ spliced-apart m y x (64 * l + place) (64 * n) (omega arith) (omega arith)
]

-- Bytes of a line, where another line is put in.
pub slice-elsewhere : (m x : List ℕ) (n l place count : ℕ) → (n ≡ l → ⊥) → length x ≡ 64 → place + count ≤ 64
    → 64 * n + 64 ≤ length m
    → slice_of (spliced m (64 * n) x) (64 * l + place) count ≡ slice_of m (64 * l + place) count
slice-elsewhere m x n l place count ne whole fits room =
    part_of_line (spliced m (64 * n) x) l place count fits
    ∙ ap (λ z. take count (drop place z)) (other-patched m n l x whole room (λ e. ne (sym e)))
    ∙ sym (part_of_line m l place count fits)
