-- Pieces of a range of bytes, and plans over them: one piece more, and what serving them by a list of bytes does.
use Rattle.std.proofs.Common.{◌≡◌, ℕ, ◌+◌, ◌-◌, ◌%◌, ◌^◌, ◌<◌, ◌≤◌, ◌==◌, min, false, List, [], ◌∷◌, ◌++◌, Result, Ok}
use Rattle.std.proofs.Common.{Err, refl, sym, ap, subst, ◌∙◌, arith, zero, suc, take, drop, length, inl, inr}
use Rattle.std.proofs.Common.{append_assoc, append-nil, length-append, length-drop}
use Rattle.std.proofs.Math.Seq.{drop-append-add}
use Rattle.std.proofs.lemmas.Bool.{cases_lt}
use Rattle.std.proofs.lemmas.Bool.Decides.{nat_tests}
use Rattle.std.proofs.lemmas.Grind.{common_steps}
use Rattle.std.proofs.lemmas.List.{take-append-drop, take-take, take_all, take_at, drop-drop, drop-take, drop_all}
use Rattle.std.proofs.lemmas.List.{length-take-le}
use Rattle.request_plan.specs.Plan.{Plan, Ask, Ends, Stops}
use Rattle.request_plan.specs.Play.{served}
use Rattle.rv32_core.specs.Access.{Access, Load, Store, access_bytes, slice_of, spliced}
use Rattle.rv32_core.specs.Transfer.{IsRange, pieces_within, pieces, stores_plan, loads_plan}

-- how long the first piece is
abbrev pub first_length : ℕ → ℕ → ℕ
first_length address count = min count (64 - address % 64)

-- no byte, no piece
pub pieces_within-none : (most address : ℕ) → pieces_within most address 0 ≡ []
unfolding pieces_within
pieces_within-none zero address = refl
pieces_within-none (suc most) address = refl

-- the first piece, and those of what is left
pub pieces_within-more : (most address count : ℕ) → 0 < count
    → pieces_within (suc most) address count
    ≡ (address, first_length address count) ∷ pieces_within most (address + first_length address count)
    (count - first_length address count)
unfolding pieces_within
pieces_within-more most address count some = let no : (count == 0) ≡ false = grind (arith, nat_tests) in rw no refl

-- it is all the same how many pieces there may be, where there may be as many as bytes
pub pieces_within-enough : (most more address count : ℕ) → count ≤ most → count ≤ more
    → pieces_within most address count ≡ pieces_within more address count
pieces_within-enough zero more address count h g =
    let none : count ≡ 0 = omega arith in
    ap (pieces_within zero address) none ∙ pieces_within-none zero address ∙ sym (pieces_within-none more address)
    ∙ ap (pieces_within more address) (sym none)
pieces_within-enough (suc most) more address zero h g = pieces_within-none (suc most) address
    ∙ sym (pieces_within-none more address)
pieces_within-enough (suc most) zero address (suc count) h g = absurd (omega arith)
pieces_within-enough (suc most) (suc more) address (suc count) h g =
    let part = first_length address (suc count) in
    let some : 0 < part = omega arith in
    let fits : suc count - part ≤ most = omega arith in
    let fits' : suc count - part ≤ more = omega arith in
    pieces_within-more most address (suc count) (omega arith)
    ∙ ap (λ l. (address, part) ∷ l) (pieces_within-enough most more (address + part) (suc count - part) fits fits')
    ∙ sym (pieces_within-more more address (suc count) (omega arith))

-- the first piece of a range, and the pieces of what is left
pub pieces-more : (address count : ℕ) → 0 < count
    → pieces address count ≡ (address, first_length address count) ∷ pieces (address + first_length address count)
    (count - first_length address count)
pieces-more address zero some = absurd (omega arith)
pieces-more address (suc count) some =
    let part = first_length address (suc count) in
    let one : 0 < part = omega arith in
    pieces_within-more count address (suc count) some
    ∙ ap (λ l. (address, part) ∷ l) (pieces_within-enough count (suc count - part) (address + part) (suc count - part)
    (omega arith) (omega arith))

-- the first store of a range, and the stores of what is left
stores_plan-more : (address part : ℕ) (bytes piece later : List ℕ) → 0 < length bytes
    → part ≡ first_length address (length bytes)
    → piece ≡ take part bytes → later ≡ drop part bytes
    → stores_plan bytes (pieces address (length bytes)) ≡ Ask (Store address piece) tt
    (λ _. stores_plan later (pieces (address + part) (length later)))
stores_plan-more address part bytes piece later some first front back =
    let left : length bytes - part ≡ length later = sym (ap length back ∙ length-drop part bytes) in
    ap (stores_plan bytes) (pieces-more address (length bytes) some)
    ∙ ap (λ (n : ℕ). stores_plan bytes ((address, n) ∷ pieces (address + n) (length bytes - n))) (sym first)
    ∙ ap (λ (n : ℕ). stores_plan bytes ((address, part) ∷ pieces (address + part) n)) left
    ∙ ap (λ (l : List ℕ). let p : Plan Access (List ℕ) (Unit {0}) (Unit {0}) = Ask (Store address l) tt
    (λ _. stores_plan (drop part bytes) (pieces (address + part) (length later))) in p) (sym front)
    ∙ ap (λ (l : List ℕ). let p : Plan Access (List ℕ) (Unit {0}) (Unit {0}) = Ask (Store address piece) tt
    (λ _. stores_plan l (pieces (address + part) (length later))) in p) (sym back)

-- the first load of a range, and the loads of what is left
loads_plan-more : (address count part : ℕ) (so_far : List ℕ) → 0 < count → part ≡ first_length address count
    → loads_plan so_far (pieces address count) ≡ Ask (Load address part) tt
    (λ bytes. loads_plan (so_far ++ bytes) (pieces (address + part) (count - part)))
loads_plan-more address count part so_far some first =
    ap (loads_plan so_far) (pieces-more address count some)
    ∙ ap (λ (n : ℕ). loads_plan so_far ((address, n) ∷ pieces (address + n) (count - n))) (sym first)

module _ {S E : Type 0} (step : S → Access → Result (List ℕ) E → S → Type 0) where
  -- one piece is stored, and the rest after it
  pub stores_on : (address part : ℕ) (bytes piece later : List ℕ) → 0 < length bytes
      → part ≡ first_length address (length bytes)
      → piece ≡ take part bytes → later ≡ drop part bytes
      → (s m t : S) (answer : List ℕ) → step s (Store address piece) (Ok answer) m
      → Ends step (stores_plan later (pieces (address + part) (length later))) m t tt
      → Ends step (stores_plan bytes (pieces address (length bytes))) s t tt
  stores_on address part bytes piece later some first front back s m t answer one rest =
      subst (λ p. Ends step p s t tt) (sym (stores_plan-more address part bytes piece later some first front back))
      (answer, m, one, rest)

  -- a store of the rest is stopped
  pub stores_stop_later : (address part : ℕ) (bytes piece later : List ℕ) → 0 < length bytes
      → part ≡ first_length address (length bytes)
      → piece ≡ take part bytes → later ≡ drop part bytes
      → (s m t : S) (answer : List ℕ) (stop : E) → step s (Store address piece) (Ok answer) m
      → Stops step (stores_plan later (pieces (address + part) (length later))) m t stop tt
      → Stops step (stores_plan bytes (pieces address (length bytes))) s t stop tt
  stores_stop_later address part bytes piece later some first front back s m t answer stop one rest =
      subst (λ p. Stops step p s t stop tt)
      (sym (stores_plan-more address part bytes piece later some first front back)) (inr (answer, m, one, rest))

  -- the store of the first piece is stopped
  pub stores_stop : (address part : ℕ) (bytes piece later : List ℕ) → 0 < length bytes
      → part ≡ first_length address (length bytes)
      → piece ≡ take part bytes → later ≡ drop part bytes
      → (s t : S) (stop : E) → step s (Store address piece) (Err stop) t
      → Stops step (stores_plan bytes (pieces address (length bytes))) s t stop tt
  stores_stop address part bytes piece later some first front back s t stop one =
      subst (λ p. Stops step p s t stop tt)
      (sym (stores_plan-more address part bytes piece later some first front back)) (inl (one, refl))

  -- with no byte left
  pub stores_over : (address : ℕ) (bytes : List ℕ) (s : S) → length bytes ≡ 0
      → Ends step (stores_plan bytes (pieces address (length bytes))) s s tt
  stores_over address bytes s none =
      subst (λ l. Ends step (stores_plan bytes l) s s tt) (sym (ap (λ n. pieces address n) none
      ∙ pieces_within-none 0 address)) (refl, refl)

  -- one piece is loaded, and the rest after it
  pub loads_on : (address count part : ℕ) (so_far : List ℕ) → 0 < count → part ≡ first_length address count
      → (s m t : S) (loaded bytes end : List ℕ) → step s (Load address part) (Ok bytes) m → loaded ≡ so_far ++ bytes
      → Ends step (loads_plan loaded (pieces (address + part) (count - part))) m t end
      → Ends step (loads_plan so_far (pieces address count)) s t end
  loads_on address count part so_far some first s m t loaded bytes end one is rest =
      subst (λ p. Ends step p s t end) (sym (loads_plan-more address count part so_far some first))
      (bytes, m, one, subst (λ l. Ends step (loads_plan l (pieces (address + part) (count - part))) m t end) is rest)

  -- a load of the rest is stopped
  pub loads_stop_later : (address count part : ℕ) (so_far : List ℕ) → 0 < count → part ≡ first_length address count
      → (s m t : S) (loaded bytes : List ℕ) (stop : E) → step s (Load address part) (Ok bytes) m
      → loaded ≡ so_far ++ bytes
      → Stops step (loads_plan loaded (pieces (address + part) (count - part))) m t stop tt
      → Stops step (loads_plan so_far (pieces address count)) s t stop tt
  loads_stop_later address count part so_far some first s m t loaded bytes stop one is rest =
      subst (λ p. Stops step p s t stop tt) (sym (loads_plan-more address count part so_far some first))
      (inr (
        bytes,
        m,
        one,
        subst
            (λ l. Stops step (loads_plan l (pieces (address + part) (count - part))) m t stop tt) is rest,
      ))

  -- the load of the first piece is stopped
  pub loads_stop : (address count part : ℕ) (so_far : List ℕ) → 0 < count → part ≡ first_length address count
      → (s t : S) (stop : E) → step s (Load address part) (Err stop) t
      → Stops step (loads_plan so_far (pieces address count)) s t stop tt
  loads_stop address count part so_far some first s t stop one =
      subst (λ p. Stops step p s t stop tt) (sym (loads_plan-more address count part so_far some first))
      (inl (one, refl))

  -- with no byte left
  pub loads_over : (address count : ℕ) (so_far : List ℕ) (s : S) → count ≡ 0
      → Ends step (loads_plan so_far (pieces address count)) s s so_far
  loads_over address count so_far s none =
      subst (λ l. Ends step (loads_plan so_far l) s s so_far) (sym (ap (λ n. pieces address n) none
      ∙ pieces_within-none 0 address)) (refl, refl)

-- what is left of a range behind its first piece is a range
pub range-later : (base size address count part left : ℕ) → IsRange base size address count → part ≤ count
    → left ≡ count - part
    → IsRange base size (address + part) left
range-later base size address count part left range fits is = record {
  above = λ some. (let low : base ≤ address = range.above (omega arith) in omega arith);
  below = λ some. (let high : address + count ≤ base + size = range.below (omega arith) in omega arith);
  ends = (let end : address + count < 2 ^ 32 = range.ends in omega arith);
}

-- a list up to a place in a splice's end, and behind it
take-spliced : (memory bytes : List ℕ) (offset : ℕ) → take (offset + length bytes) (spliced memory offset bytes)
    ≡ take offset memory ++ bytes
take-spliced memory bytes offset = elim (cases_lt (length memory) offset) [
  | inr inside ↦ take_at (take offset memory ++ bytes) (drop (offset + length bytes) memory) (offset + length bytes)
      (grind (arith, common_steps))
  | inl outside ↦
      let none : drop (offset + length bytes) memory ≡ [] = drop_all (offset + length bytes) memory (omega arith) in
      rw none (take_all (offset + length bytes) ((take offset memory ++ bytes) ++ []) (grind (arith, common_steps))
      ∙ append-nil (take offset memory ++ bytes))
]

drop-spliced : (memory bytes : List ℕ) (offset more : ℕ)
    → drop ((offset + length bytes) + more) (spliced memory offset bytes) ≡ drop ((offset + length bytes) + more) memory
drop-spliced memory bytes offset more = elim (cases_lt (length memory) offset) [
  | inr inside ↦
      let whole : length (take offset memory ++ bytes) ≡ offset + length bytes = grind (arith, common_steps) in
      ap (λ n. drop (n + more) (spliced memory offset bytes)) (sym whole)
      ∙ drop-append-add (take offset memory ++ bytes) (drop (offset + length bytes) memory) more
      ∙ drop-drop more (offset + length bytes) memory
  | inl outside ↦
      let none : drop (offset + length bytes) memory ≡ [] = drop_all (offset + length bytes) memory (omega arith) in
      drop_all ((offset + length bytes) + more) (spliced memory offset bytes) (rw none (grind (arith, common_steps)))
      ∙ sym (drop_all ((offset + length bytes) + more) memory (omega arith))
]

-- one splice after another, of bytes that follow each other
pub spliced-spliced : (memory first second : List ℕ) (offset : ℕ)
    → spliced (spliced memory offset first) (offset + length first) second ≡ spliced memory offset (first ++ second)
spliced-spliced memory first second offset =
    ap (λ l. (l ++ second) ++ drop ((offset + length first) + length second) (spliced memory offset first))
    (take-spliced memory first offset)
    ∙ ap (λ l. ((take offset memory ++ first) ++ second) ++ l) (drop-spliced memory first offset (length second))
    ∙ ap (λ l. l ++ drop ((offset + length first) + length second) memory)
    (append_assoc (take offset memory) first second)
    ∙ ap (λ n. (take offset memory ++ (first ++ second)) ++ drop n memory)
    (let e : (offset + length first) + length second ≡ offset
    + length (first ++ second) = omega (arith, length-append first second) in e)

-- a splice of no byte
pub spliced-none : (memory : List ℕ) (offset : ℕ) → spliced memory offset [] ≡ memory
spliced-none memory offset =
    ap (λ l. l ++ drop (offset + 0) memory) (append-nil (take offset memory))
    ∙ ap (λ n. take offset memory ++ drop n memory) (let e : offset + 0 ≡ offset = omega arith in e)
    ∙ take-append-drop offset memory

-- so many elements, and so many more
take-add : (first second : ℕ) (list : List ℕ) → take first list ++ take second (drop first list)
    ≡ take (first + second) list
take-add first second list =
    ap (λ l. l ++ take second (drop first list)) (sym (take-take first (first + second) list (omega arith)))
    ∙ ap (λ l. take first (take (first + second) list) ++ l) (sym (drop-take first second list))
    ∙ take-append-drop first (take (first + second) list)

-- one slice after another
pub slice_of-append : (memory : List ℕ) (offset first second : ℕ)
    → slice_of memory offset first ++ slice_of memory (offset + first) second ≡ slice_of memory offset (first + second)
slice_of-append memory offset first second =
    ap (λ l. slice_of memory offset first ++ take second l) (sym (drop-drop first offset memory))
    ∙ take-add first second (drop offset memory)

-- Stores of all pieces of a range are one splice.
served-stores_within : (base most address : ℕ) (bytes memory : List ℕ) → length bytes ≤ most
    → (0 < length bytes → base ≤ address)
    → served (access_bytes base) (stores_plan bytes (pieces_within most address (length bytes))) memory
    ≡ (tt, spliced memory (address - base) bytes)
served-stores_within base most address [] memory fits above =
    ap (λ l. served (access_bytes base) (stores_plan [] l) memory) (pieces_within-none most address)
    ∙ ap (λ (m : List ℕ). let r : Unit {0} × List ℕ = (tt, m) in r) (sym (spliced-none memory (address - base)))
served-stores_within base zero address (b ∷ bs) memory fits above = absurd (omega arith)
served-stores_within base (suc most) address (b ∷ bs) memory fits above =
    let bytes : List ℕ = b ∷ bs in
    let count : ℕ = length bytes in
    let part : ℕ = first_length address count in
    let some : 0 < count = omega arith in
    let low : base ≤ address = above some in
    let first : length (take part bytes) ≡ part = length-take-le part bytes (omega arith) in
    let left : length (drop part bytes) ≡ count - part = length-drop part bytes in
    let later = served-stores_within base most (address + part) (drop part bytes)
    (spliced memory (address - base) (take part bytes))
    (omega (arith, left)) (λ _. omega arith)
    in
    ap (λ l. served (access_bytes base) (stores_plan bytes l) memory) (pieces_within-more most address count some)
    ∙ ap (λ n. served (access_bytes base) (stores_plan (drop part bytes) (pieces_within most (address + part) n))
    (spliced memory (address - base) (take part bytes))) (sym left)
    ∙ later
    ∙ ap (λ (n : ℕ). let r : Unit {0}
    × List ℕ = (tt, spliced (spliced memory (address - base) (take part bytes)) n (drop part bytes)) in r)
    (let e : (address + part) - base ≡ (address - base) + length (take part bytes) = omega (arith, first) in e)
    ∙ ap (λ (m : List ℕ). let r : Unit {0} × List ℕ = (tt, m) in r)
    (spliced-spliced memory (take part bytes) (drop part bytes) (address - base)
    ∙ ap (λ l. spliced memory (address - base) l) (take-append-drop part bytes))

pub served-stores_plan : (base address count : ℕ) (bytes memory : List ℕ) → length bytes ≡ count
    → (0 < count → base ≤ address)
    → served (access_bytes base) (stores_plan bytes (pieces address count)) memory
    ≡ (tt, spliced memory (address - base) bytes)
served-stores_plan base address count bytes memory all above =
    ap (λ n. served (access_bytes base) (stores_plan bytes (pieces address n)) memory) (sym all)
    ∙ served-stores_within base (length bytes) address bytes memory (omega arith) (λ some. above (omega arith))

-- Loads of all pieces of a range append one slice.
served-loads_within : (base most address count : ℕ) (so_far memory : List ℕ) → count ≤ most
    → (0 < count → base ≤ address)
    → served (access_bytes base) (loads_plan so_far (pieces_within most address count)) memory
    ≡ (so_far ++ slice_of memory (address - base) count, memory)
served-loads_within base most address zero so_far memory fits above =
    ap (λ l. served (access_bytes base) (loads_plan so_far l) memory) (pieces_within-none most address)
    ∙ ap (λ (l : List ℕ). let r : List ℕ × List ℕ = (l, memory) in r) (sym (append-nil so_far))
served-loads_within base zero address (suc n) so_far memory fits above = absurd (omega arith)
served-loads_within base (suc most) address (suc n) so_far memory fits above =
    let count : ℕ = suc n in
    let part : ℕ = first_length address count in
    let some : 0 < count = omega arith in
    let low : base ≤ address = above some in
    let piece : List ℕ = slice_of memory (address - base) part in
    let later = served-loads_within base most (address + part) (count - part) (so_far ++ piece) memory (omega arith)
    (λ _. omega arith) in
    ap (λ l. served (access_bytes base) (loads_plan so_far l) memory) (pieces_within-more most address count some)
    ∙ later
    ∙ ap (λ (l : List ℕ). let r : List ℕ × List ℕ = (l, memory) in r)
    (append_assoc so_far piece (slice_of memory ((address + part) - base) (count - part))
    ∙ ap (λ l. so_far ++ l)
    (ap (λ k. piece ++ slice_of memory k (count - part)) (let e : (address + part) - base ≡ (address - base)
    + part = omega arith in e)
    ∙ slice_of-append memory (address - base) part (count - part)
    ∙ ap (slice_of memory (address - base)) (let e : part + (count - part) ≡ count = omega arith in e)))

pub served-loads_plan : (base address count : ℕ) (so_far memory : List ℕ) → (0 < count → base ≤ address)
    → served (access_bytes base) (loads_plan so_far (pieces address count)) memory
    ≡ (so_far ++ slice_of memory (address - base) count, memory)
served-loads_plan base address count so_far memory above = served-loads_within base count address count so_far memory
    (omega arith) above
