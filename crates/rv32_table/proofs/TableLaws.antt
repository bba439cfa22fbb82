-- The table is the same as the fields.
use Rattle.std.proofs.Common.{◌≡◌, ℕ, ◌<◌, ◌^◌, refl, sym, ◌∙◌, subst, arith, suc, List, [], ◌∷◌}
use Rattle.std.specs.Prelude.{Option, Some, None, option_map, find, All}
use Rattle.std.proofs.lemmas.List.Elements.{All-nil, All-cons}
use Rattle.rv32_table.specs.Fields.{opcode_of}
use Rattle.rv32_table.specs.Fits.{Fits}
use Rattle.rv32_table.specs.ByFields.{by_opcode}
use Rattle.rv32_table.specs.Encoded.{encoded}
use Rattle.rv32_table.specs.Table.{Row, table, Matches, is_match, instruction_of, decoded}
use Rattle.rv32_table.specs.declared.instruction.Instr.{Instr}
use Rattle.rv32_table.proofs.ListLaws.{◌▹◌, HasRow, EachRow, if-case, find-each, find-none}
use Rattle.rv32_table.proofs.RowsByFields.{rows-by_opcode}
use Rattle.rv32_table.proofs.RowsEncoded.{rows-encoded}
use Rattle.rv32_table.specs.Meaning.{meaning_of, register_meaning, branch_meaning, load_meaning}
use Rattle.rv32_table.proofs.Existence.{exists}

-- by what was found in the table, and by what the fields say
from_found : (w : ℕ) → w < 2 ^ 32 → (found : Option Row) (fields : Option Instr) → find (is_match w) table ≡ found
    → by_opcode (opcode_of w) w ≡ fields → option_map (λ (r : Row). instruction_of r.form w) found ≡ fields
from_found w fits (Some r) fields e f =
    sym (find-each (λ (x : Row). by_opcode (opcode_of w) w ≡ Some (instruction_of x.form w)) w table r
    (rows-by_opcode w fits) e) ∙ f
from_found w fits None None e f = refl
from_found w fits None (Some i) e f =
    let has : HasRow w table = exists w i fits f
    in absurd (find-none w table has.place has.row e has.stands has.matches)

pub decoded-by_opcode : (w : ℕ) → w < 2 ^ 32 → decoded w ≡ by_opcode (opcode_of w) w
unfolding decoded
decoded-by_opcode w fits = from_found w fits (find (is_match w) table) (by_opcode (opcode_of w) w) refl refl

-- what a word is fits, and has this word
pub record Returns (word : ℕ) (instr : Instr) : Type 0 where
  pub fits : Fits instr
  pub word_is : encoded instr ≡ word

returns_from : (w : ℕ) → w < 2 ^ 32 → (found : Option Row) (i : Instr) → find (is_match w) table ≡ found
    → option_map (λ (r : Row). instruction_of r.form w) found ≡ Some i → Returns w i
returns_from w fits None i e f = absurd (cc)
returns_from w fits (Some r) i e f =
    let both : Fits (instruction_of r.form w) × (encoded (instruction_of r.form w) ≡ w) =
    find-each (λ (x : Row). Fits (instruction_of x.form w) × (encoded (instruction_of x.form w) ≡ w)) w table r
    (rows-encoded w fits) e in
    let same : instruction_of r.form w ≡ i = cc in
    subst (Returns w) same (record { fits = both.0; word_is = both.1 })

pub decoded-returns : (w : ℕ) (i : Instr) → w < 2 ^ 32 → decoded w ≡ Some i → Returns w i
unfolding decoded
decoded-returns w i fits e = returns_from w fits (find (is_match w) table) i refl e

-- ---- a word is illegal exactly where it matches no row
none-each : (word : ℕ) (rows : List Row) → find (is_match word) rows ≡ None → All (λ r. Matches word r → ⊥) rows
none-each word [] e = All-nil (λ r. Matches word r → ⊥)
none-each word (x ∷ xs) e =
    All-cons (λ r. Matches word r → ⊥) x xs (λ m. find-none word (x ∷ xs) 0 x e refl m)
    (if-case (All (λ r. Matches word r → ⊥) xs) (is_match word x) (Some x) (find (is_match word) xs) None e
    (λ t same. absurd (cc)) (λ t rest. none-each word xs rest))

each-none : (word : ℕ) (rows : List Row) → All (λ r. Matches word r → ⊥) rows → EachRow (λ r. Matches word r → ⊥) rows
each-none word [] all = tt
each-none word (x ∷ xs) all = (all 0 x (omega arith), each-none word xs (λ k d below. all (suc k) d (omega arith)))

pub outside-decoded : (word : ℕ) → All (λ r. Matches word r → ⊥) table → decoded word ≡ None
unfolding decoded
outside-decoded word all = from (find (is_match word) table) refl
  where
    from : (found : Option Row) → find (is_match word) table ≡ found
        → option_map (λ (r : Row). instruction_of r.form word) found ≡ None
    from None e = refl
    from (Some r) e = absurd (find-each (λ (x : Row). ⊥) word table r (each-none word table all) e)

pub decoded-outside : (word : ℕ) → decoded word ≡ None → All (λ r. Matches word r → ⊥) table
unfolding decoded
decoded-outside word none = none-each word table (no_map (find (is_match word) table) none)
  where
    no_map : (found : Option Row) → option_map (λ (x : Row). instruction_of x.form word) found ≡ None → found ≡ None
    no_map None e = refl
    no_map (Some x) e = absurd (cc)

-- ---- a row's meaning is that of the instruction that it makes of a word
each-all : (P : Row → Type 0) (rows : List Row) → EachRow P rows → All P rows
each-all P [] each = All-nil P
each-all P (x ∷ xs) each = All-cons P x xs each.0 (each-all P xs each.1)

pub table-meanings : (word : ℕ) → All (λ r. r.meaning ≡ meaning_of (instruction_of r.form word)) table
unfolding table register_meaning branch_meaning load_meaning
table-meanings word =
    each-all (λ r. r.meaning ≡ meaning_of (instruction_of r.form word)) table
    (refl ▹ refl ▹ refl ▹ refl ▹ refl ▹ refl ▹ refl ▹ refl ▹ refl ▹ refl ▹ refl ▹ refl ▹ refl ▹ refl
    ▹ refl ▹ refl ▹ refl ▹ refl ▹ refl ▹ refl ▹ refl ▹ refl ▹ refl ▹ refl ▹ refl ▹ refl ▹ refl ▹ refl
    ▹ refl ▹ refl ▹ refl ▹ refl ▹ refl ▹ refl ▹ refl ▹ refl ▹ refl ▹ refl ▹ refl ▹ refl ▹ refl ▹ refl
    ▹ refl ▹ refl ▹ refl ▹ refl ▹ refl ▹ refl ▹ refl ▹ tt)
