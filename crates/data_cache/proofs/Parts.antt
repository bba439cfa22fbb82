-- lines as parts of a list of bytes
use Rattle.std.proofs.Common.{suc, ◌≡◌, ℕ, ◌+◌, ◌-◌, ◌*◌, ◌<◌, ◌≤◌, List, [], ◌∷◌, ◌++◌, length, take, drop, refl, sym}
use Rattle.std.proofs.Common.{ap, ◌∙◌, arith, length-append, length-drop, length-take, append_assoc, append-nil, inl}
use Rattle.std.proofs.Common.{inr, ◌⊎◌}
use Rattle.std.proofs.lemmas.List.{take-take, take-append-le, drop-drop, drop_at, drop-append-le, drop-take}
use Rattle.std.proofs.lemmas.List.{length-take-le, drop_all, take-append-drop}
use Rattle.std.proofs.lemmas.Grind.{common_steps}
use Rattle.rv32_core.specs.Access.{spliced}
use Rattle.data_cache.specs.CacheLists.{line_in}

-- what is dropped and taken, by a sum
drop-take_sum : (a b c : ℕ) (xs : List ℕ) → a + b ≡ c → drop a (take c xs) ≡ take b (drop a xs)
drop-take_sum a b c xs e = rw (← e) (drop-take a b xs)

drop-drop_sum : (a b c : ℕ) (xs : List ℕ) → a + b ≡ c → drop b (drop a xs) ≡ drop c xs
drop-drop_sum a b c xs e = drop-drop b a xs ∙ ap (λ n. drop n xs) e

take_past : (p q : List ℕ) (j : ℕ) → take (length p + j) (p ++ q) ≡ p ++ take j q
take_past [] q j = grind (arith, common_steps)
take_past (x ∷ p) q j =
    let e : suc (length p) + j ≡ suc (length p + j) = omega arith in
    ap (λ k. take k (x ∷ (p ++ q))) e ∙ ap (λ xs. x ∷ xs) (take_past p q j)

-- a part of a line is a part of the list
pub part_of_line : (mem : List ℕ) (n offset len : ℕ) → offset + len ≤ 64
    → take len (drop (64 * n + offset) mem) ≡ take len (drop offset (line_in mem n))
part_of_line mem n offset len h =
    ap (take len) (sym (drop-drop_sum (64 * n) offset (64 * n + offset) mem refl))
    ∙ sym (take-take len (64 - offset) (drop offset (drop (64 * n) mem)) (omega arith))
    ∙ ap (take len) (sym (drop-take_sum offset (64 - offset) 64 (drop (64 * n) mem) (omega arith)))

-- before the bytes that are put in, and behind them, all is as it was
pub line-before : (mem : List ℕ) (at m : ℕ) (bytes : List ℕ) → at + length bytes ≤ length mem → 64 * m + 64 ≤ at
    → line_in (spliced mem at bytes) m ≡ line_in mem m
line-before mem at m bytes h g =
    let la : length (take at mem) ≡ at = length-take-le at mem (omega arith) in
    ap (λ xs. take 64 (drop (64 * m) xs)) (append_assoc (take at mem) bytes (drop (at + length bytes) mem))
    ∙ ap (take 64) (drop-append-le (64 * m) (take at mem) (bytes ++ drop (at + length bytes) mem) (omega arith))
    ∙ take-append-le 64 (drop (64 * m) (take at mem)) (bytes ++ drop (at + length bytes) mem) (simp
    (length-drop, la) (omega arith))
    ∙ ap (take 64) (drop-take_sum (64 * m) (at - 64 * m) at mem (omega arith))
    ∙ take-take 64 (at - 64 * m) (drop (64 * m) mem) (omega arith)

pub line-behind : (mem : List ℕ) (at m : ℕ) (bytes : List ℕ) → at + length bytes ≤ length mem
    → at + length bytes ≤ 64 * m → line_in (spliced mem at bytes) m ≡ line_in mem m
line-behind mem at m bytes h g =
    let la : length (take at mem) ≡ at = length-take-le at mem (omega arith) in
    let lb : length (take at mem ++ bytes) ≡ at + length bytes = length-append (take at mem) bytes
    ∙ ap (λ n. n + length bytes) la in
    let e : at + length bytes + (64 * m - (at + length bytes)) ≡ 64 * m = omega arith in
    ap (take 64)
    (sym (drop-drop_sum (at + length bytes) (64 * m - (at + length bytes)) (64 * m) (spliced mem at bytes) e)
    ∙ ap (drop (64 * m - (at + length bytes))) (drop_at (take at mem ++ bytes) (drop (at + length bytes) mem)
    (at + length bytes) lb)
    ∙ drop-drop_sum (at + length bytes) (64 * m - (at + length bytes)) (64 * m) mem e)

-- the line itself
pub line-spliced : (mem : List ℕ) (n offset : ℕ) (bytes : List ℕ) → offset + length bytes ≤ 64
    → 64 * n + 64 ≤ length mem
    → line_in (spliced mem (64 * n + offset) bytes) n
    ≡ take offset (line_in mem n) ++ bytes ++ drop (offset + length bytes) (line_in mem n)
line-spliced mem n offset bytes h g =
    let at : ℕ = 64 * n + offset in
    let rest : List ℕ = drop (64 * n + offset + length bytes) mem in
    let front : List ℕ = take offset (drop (64 * n) mem) in
    let j : ℕ = 64 - (offset + length bytes) in
    let la : length (take (64 * n + offset) mem)
    ≡ 64 * n + offset = length-take-le (64 * n + offset) mem (omega arith) in
    let lf : length (take offset (drop (64 * n) mem))
    ≡ offset = length-take-le offset (drop (64 * n) mem) (simp length-drop (omega arith)) in
    let lp : length (take offset (drop (64 * n) mem) ++ bytes)
    ≡ offset + length bytes = length-append (take offset (drop (64 * n) mem)) bytes
    ∙ ap (λ k. k + length bytes) lf in
    let e : length (take offset (drop (64 * n) mem) ++ bytes) + (64 - (offset + length bytes)) ≡ 64 = omega arith in
    let one : drop (64 * n) (spliced mem (64 * n + offset) bytes)
    ≡ (take offset (drop (64 * n) mem) ++ bytes) ++ drop (64 * n + offset + length bytes) mem =
    ap (drop (64 * n)) (append_assoc (take (64 * n + offset) mem) bytes (drop (64 * n + offset + length bytes) mem))
    ∙ drop-append-le (64 * n) (take (64 * n + offset) mem) (bytes ++ drop (64 * n + offset + length bytes) mem)
    (omega arith)
    ∙ ap (λ xs. xs ++ (bytes ++ drop (64 * n + offset + length bytes) mem)) (drop-take_sum (64 * n) offset
    (64 * n + offset) mem refl)
    ∙ sym (append_assoc (take offset (drop (64 * n) mem)) bytes (drop (64 * n + offset + length bytes) mem)) in
    let two : take 64 ((take offset (drop (64 * n) mem) ++ bytes) ++ drop (64 * n + offset + length bytes) mem)
    ≡ (take offset (drop (64 * n) mem) ++ bytes) ++ take (64 - (offset + length bytes)) (drop
    (64 * n + offset + length bytes) mem) =
    ap (λ k. take k ((take offset (drop (64 * n) mem) ++ bytes) ++ drop (64 * n + offset + length bytes) mem)) (sym e)
    ∙ take_past (take offset (drop (64 * n) mem) ++ bytes) (drop (64 * n + offset + length bytes) mem) (64 -
    (offset + length bytes)) in
    let three : drop (offset + length bytes) (line_in mem n)
    ≡ take (64 - (offset + length bytes)) (drop (64 * n + offset + length bytes) mem) =
    drop-take_sum (offset + length bytes) (64 - (offset + length bytes)) 64 (drop (64 * n) mem) (omega arith)
    ∙ ap (take (64 - (offset + length bytes))) (drop-drop_sum (64 * n) (offset + length bytes)
    (64 * n + offset + length bytes) mem (omega arith)) in
    let four : take offset (line_in mem n)
    ≡ take offset (drop (64 * n) mem) = take-take offset 64 (drop (64 * n) mem) (omega arith) in
    ap (take 64) one ∙ two ∙ ap (λ xs. (take offset (drop (64 * n) mem) ++ bytes) ++ xs) (sym three)
    ∙ ap (λ xs. (xs ++ bytes) ++ drop (offset + length bytes) (line_in mem n)) (sym four)

apart : (n m : ℕ) → (m ≡ n → ⊥) → (m < n) ⊎ (n < m)
apart n m ne = grind arith

-- a write inside line n changes no other line
pub other_line : (mem : List ℕ) (n offset m : ℕ) (bytes : List ℕ) → offset + length bytes ≤ 64
    → 64 * n + 64 ≤ length mem → (m ≡ n → ⊥) → line_in (spliced mem (64 * n + offset) bytes) m ≡ line_in mem m
other_line mem n offset m bytes h g ne = elim (apart n m ne) [
  | inl l ↦ line-before mem (64 * n + offset) m bytes
      (omega arith) (omega arith)
  | inr l ↦ line-behind mem (64 * n + offset) m bytes (omega arith) (omega arith)
]

-- a whole line that is put in
pub line-patched : (mem : List ℕ) (n : ℕ) (bytes : List ℕ) → length bytes ≡ 64 → 64 * n + 64 ≤ length mem
    → line_in (spliced mem (64 * n) bytes) n ≡ bytes
line-patched mem n bytes h g =
    let e : 64 * n + 0 ≡ 64 * n = omega arith in
    let w : length (line_in mem n) ≤ 64 = simp (length-take, length-drop) (omega arith) in
    let tail : drop (0 + length bytes) (line_in mem n)
    ≡ [] = drop_all (0 + length bytes) (line_in mem n) (omega arith) in
    ap (λ at. line_in (spliced mem at bytes) n) (sym e)
    ∙ line-spliced mem n 0 bytes (omega arith) g
    ∙ ap (λ xs. bytes ++ xs) tail ∙ append-nil bytes

pub other-patched : (mem : List ℕ) (n m : ℕ) (bytes : List ℕ) → length bytes ≡ 64 → 64 * n + 64 ≤ length mem
    → (m ≡ n → ⊥) → line_in (spliced mem (64 * n) bytes) m ≡ line_in mem m
other-patched mem n m bytes h g ne =
    let e : 64 * n + 0 ≡ 64 * n = omega arith in
    ap (λ at. line_in (spliced mem at bytes) m) (sym e) ∙ other_line mem n 0 m bytes (omega arith) g ne

-- a line that takes its own place changes nothing
pub patched_own : (mem : List ℕ) (n : ℕ) → 64 * n + 64 ≤ length mem → spliced mem (64 * n) (line_in mem n) ≡ mem
patched_own mem n h =
    let ll : length (line_in mem n) ≡ 64 = length-take-le 64 (drop (64 * n) mem) (simp length-drop (omega arith)) in
    let tail : drop (64 * n + length (line_in mem n)) mem
    ≡ drop 64 (drop (64 * n) mem) = ap (λ k. drop (64 * n + k) mem) ll
    ∙ sym (drop-drop_sum (64 * n) 64 (64 * n + 64) mem refl) in
    append_assoc (take (64 * n) mem) (line_in mem n) (drop (64 * n + length (line_in mem n)) mem)
    ∙ ap (λ xs. take (64 * n) mem ++ (line_in mem n ++ xs)) tail
    ∙ ap (λ xs. take (64 * n) mem ++ xs) (take-append-drop 64 (drop (64 * n) mem))
    ∙ take-append-drop (64 * n) mem
