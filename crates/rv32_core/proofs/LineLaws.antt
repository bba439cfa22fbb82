-- Lines: those of a range are those of its pieces, those that a step asks for, and that they rise and lie in the
-- memory.
use Rattle.std.proofs.Common.{◌≡◌, ℕ, ◌+◌, ◌-◌, ◌%◌, ◌<◌, ◌≤◌, ◌==◌, false, List, [], ◌∷◌, ◌++◌, refl, sym, ap, subst}
use Rattle.std.proofs.Common.{◌∙◌, arith, zero, suc, drop, inl, inr}
use Rattle.std.proofs.lemmas.Bool.{cases_lt}
use Rattle.std.proofs.lemmas.Bool.Decides.{nat_tests}
use Rattle.request_plan.specs.Plan.{Plan, Done as Outcome, Ask, bind}
use Rattle.rv32_core.specs.Access.{Access}
use Rattle.rv32_core.specs.Transfer.{pieces_within, pieces, stores_plan, loads_plan}
use Rattle.rv32_core.specs.Machine.{CoreState}
use Rattle.rv32_core.specs.LineList.{Read, Write, LineUse, line_of, lines_from, lines_of, used, AsksLines, asked_lines}
use Rattle.rv32_core.proofs.TransferLaws.{first_length, pieces_within-none, pieces_within-more}

-- ---- the lines of a range
-- of no byte
pub lines_of-none : (core : CoreState) (address : ℕ) → lines_of core address 0 ≡ []
lines_of-none core address = refl

-- of some
pub lines_of-some : (core : CoreState) (address count : ℕ) → 0 < count
    → lines_of core address count ≡ lines_from (line_of core address) (line_of core (address + count - 1)
    + 1 - line_of core address)
lines_of-some core address count some = let no : (count == 0) ≡ false = grind (arith, nat_tests) in rw no refl

pub lines_from-none : (line : ℕ) → lines_from line 0 ≡ []
unfolding lines_from
lines_from-none line = refl

lines_from-one : (line : ℕ) → lines_from line 1 ≡ line ∷ []
unfolding lines_from
lines_from-one line = refl

pub lines_from-more : (line more : ℕ) → lines_from line (suc more) ≡ line ∷ lines_from (line + 1) more
unfolding lines_from
lines_from-more line more = refl

-- where all its bytes lie in one line
pub lines_of-one : (core : CoreState) (address count : ℕ) → core.base % 64 ≡ 0 → core.base ≤ address → 0 < count
    → address % 64 + count ≤ 64 → lines_of core address count ≡ line_of core address ∷ []
lines_of-one core address count lines low some fits =
    lines_of-some core address count some
    ∙ ap (lines_from (line_of core address)) (let e : line_of core (address + count - 1) + 1 - line_of core address
    ≡ 1 = omega arith in e)
    ∙ lines_from-one (line_of core address)

-- the line of its first piece, and the lines of what is left
pub lines_of-more : (core : CoreState) (address count : ℕ) → core.base % 64 ≡ 0 → core.base ≤ address → 0 < count
    → lines_of core address count
    ≡ line_of core address ∷ lines_of core (address + first_length address count) (count - first_length address count)
lines_of-more core address count lines low some = elim (cases_lt (64 - address % 64) count) [
  | inr fits ↦
      lines_of-one core address count lines low some (omega arith)
      ∙ ap (λ l. line_of core address ∷ l)
      (sym (ap (lines_of core (address + first_length address count)) (let e : count - first_length address count
      ≡ 0 = omega arith in e)))
  | inl over ↦
      let part : ℕ = 64 - address % 64 in
      let first : first_length address count ≡ part = omega arith in
      let next : line_of core (address + part) ≡ line_of core address + 1 = omega arith in
      let last : (address + part) + (count - part) - 1 ≡ address + count - 1 = omega arith in
      let left : line_of core (address + count - 1) + 1 - line_of core address
      ≡ suc (line_of core (address + count - 1) + 1 - (line_of core address + 1)) = omega arith in
      lines_of-some core address count some
      ∙ ap (lines_from (line_of core address)) left
      ∙ lines_from-more (line_of core address) (line_of core (address + count - 1) + 1 - (line_of core address + 1))
      ∙ ap (λ l. line_of core address ∷ l)
      (ap (λ a. lines_from (line_of core address + 1) (line_of core a + 1 - (line_of core address + 1))) (sym last)
      ∙ ap (λ n. lines_from n (line_of core ((address + part) + (count - part) - 1) + 1 - n)) (sym next)
      ∙ sym (lines_of-some core (address + part) (count - part) (omega arith))
      ∙ ap (λ n. lines_of core (address + n) (count - n)) (sym first))
]

-- ---- what asks for lines
-- one plan after another
pub AsksLines-bind : {B C A D : Type 0} (core : CoreState) (put : B → C) (p : Plan Access (List ℕ) B A) (next : A
    → Plan Access (List ℕ) C D)
    (lines more : List LineUse) → AsksLines core p lines → ((a : A) → AsksLines core (next a) more)
    → AsksLines core (bind put p next) (lines ++ more)
AsksLines-bind core put (Outcome a) next lines more h g = subst (λ l. AsksLines core (next a) (l ++ more)) (sym h) (g a)
AsksLines-bind core put (Ask access left k) next [] more h g = absurd h
AsksLines-bind core put (Ask access left k) next (first ∷ others) more h g =
    (h.0, λ bytes. AsksLines-bind core put (k bytes) next others more (h.1 bytes) g)

-- a plan, and then nothing more
pub AsksLines-last : {B C A D : Type 0} (core : CoreState) (put : B
    → C) (p : Plan Access (List ℕ) B A) (outcome : A → D)
    (lines : List LineUse) → AsksLines core p lines → AsksLines core (bind put p (λ a. Outcome (outcome a))) lines
AsksLines-last core put (Outcome a) outcome lines h = h
AsksLines-last core put (Ask access left k) outcome [] h = absurd h
AsksLines-last core put (Ask access left k) outcome (first ∷ others) h =
    (h.0, λ bytes. AsksLines-last core put (k bytes) outcome others (h.1 bytes))

-- each server is asked for them
pub AsksLines-asked : {H B A : Type 0} (core : CoreState) (serve : H → Access
    → List ℕ × H) (p : Plan Access (List ℕ) B A) (held : H)
    (lines : List LineUse) → AsksLines core p lines → asked_lines core serve p held ≡ lines
AsksLines-asked core serve (Outcome a) held lines h = sym h
AsksLines-asked core serve (Ask access left k) held [] h = absurd h
AsksLines-asked core serve (Ask access left k) held (first ∷ others) h =
    ap (λ (l : LineUse). l ∷ asked_lines core serve (k ((serve held access).0)) ((serve held access).1)) (h.0)
    ∙ ap (λ l. first ∷ l) (AsksLines-asked core serve (k ((serve held access).0)) ((serve held access).1) others
    (h.1 ((serve held access).0)))

-- the stores of a range ask for its lines, whatever bytes are stored
stores_within-lines : (core : CoreState) (most address count : ℕ) (bytes : List ℕ) → core.base % 64 ≡ 0
    → (0 < count → core.base ≤ address) → count ≤ most
    → AsksLines core (stores_plan bytes (pieces_within most address count)) (used Write (lines_of core address count))
stores_within-lines core most address zero bytes lines low fits =
    subst (λ l. AsksLines core (stores_plan bytes l) []) (sym (pieces_within-none most address)) refl
stores_within-lines core zero address (suc n) bytes lines low fits = absurd (omega arith)
stores_within-lines core (suc most) address (suc n) bytes lines low fits =
    let count : ℕ = suc n in
    let part : ℕ = first_length address count in
    let base : core.base ≤ address = low (omega arith) in
    let rest = stores_within-lines core most (address + part) (count - part) (drop part bytes) lines
    (λ _. omega arith) (omega arith) in
    subst (λ l. AsksLines core (stores_plan bytes l) (used Write (lines_of core address count)))
    (sym (pieces_within-more most address count (omega arith)))
    (subst
    (λ l. AsksLines core (stores_plan bytes ((address, part) ∷ pieces_within most (address + part) (count - part)))
    (used Write l))
    (sym (lines_of-more core address count lines base (omega arith)))
    (refl, λ _. rest))

pub stores_plan-lines : (core : CoreState) (address count : ℕ) (bytes : List ℕ) → core.base % 64 ≡ 0
    → (0 < count → core.base ≤ address)
    → AsksLines core (stores_plan bytes (pieces address count)) (used Write (lines_of core address count))
stores_plan-lines core address count bytes lines low = stores_within-lines core count address count bytes lines
    low (omega arith)

-- and so do the loads
loads_within-lines : (core : CoreState) (most address count : ℕ) (so_far : List ℕ) → core.base % 64 ≡ 0
    → (0 < count → core.base ≤ address) → count ≤ most
    → AsksLines core (loads_plan so_far (pieces_within most address count)) (used Read (lines_of core address count))
loads_within-lines core most address zero so_far lines low fits =
    subst (λ l. AsksLines core (loads_plan so_far l) []) (sym (pieces_within-none most address)) refl
loads_within-lines core zero address (suc n) so_far lines low fits = absurd (omega arith)
loads_within-lines core (suc most) address (suc n) so_far lines low fits =
    let count : ℕ = suc n in
    let part : ℕ = first_length address count in
    let base : core.base ≤ address = low (omega arith) in
    subst (λ l. AsksLines core (loads_plan so_far l) (used Read (lines_of core address count)))
    (sym (pieces_within-more most address count (omega arith)))
    (subst
    (λ l. AsksLines core (loads_plan so_far ((address, part) ∷ pieces_within most (address + part) (count - part)))
    (used Read l))
    (sym (lines_of-more core address count lines base (omega arith))) (
      refl,
      λ bytes. loads_within-lines core most (address + part) (count - part) (so_far ++ bytes) lines
          (λ _. omega arith) (omega arith),
    ))

pub loads_plan-lines : (core : CoreState) (address count : ℕ) (so_far : List ℕ) → core.base % 64 ≡ 0
    → (0 < count → core.base ≤ address)
    → AsksLines core (loads_plan so_far (pieces address count)) (used Read (lines_of core address count))
loads_plan-lines core address count so_far lines low = loads_within-lines core count address count so_far lines
    low (omega arith)
