-- What `parse` gives at a number of the command line.
use Rattle.std.proofs.Common.{◌≡◌, ℕ, ◌<◌, ◌≤◌, ◌^◌, true, false, ◌&&◌, cond, not, List, [], ◌∷◌, length}
use Rattle.std.proofs.Common.{Some, None, Result, Ok, refl, sym, ap, ◌∙◌, arith}
use Rattle.std.specs.Prelude.{◌||◌, ◌==◌, nat_le}
use Rattle.std.proofs.lemmas.Bool.Decides.{nat_tests}
use Rattle.std.specs.Char.{is_ascii_digit}
use Rattle.std.specs.List.{list_all}
use Rattle.std.specs.Result.{result_ok}
use Rattle.std.specs.Str.{all_ascii_digits}
use Rattle.std.specs.Str.Parse.{digits_value, ParsesUnsigned}
use Rattle.std.proofs.lemmas.Str.Parse.{IsNumeralModel, numerals_by_value, tells_all_ascii_digits, parse_gives}
use Rattle.std.proofs.lemmas.Str.Parse.{digits_value_short}
use Rattle.asc_base.proofs.Bytes.{both}
use Rattle.ascend_words.specs.Numbers.{is_number, number_of}

digits_same : (text : List ℕ) → list_all is_ascii_digit text ≡ all_ascii_digits text
digits_same [] = refl
digits_same (c ∷ cs) = ap (λ rest. is_ascii_digit c && rest) (digits_same cs)

own : IsNumeralModel (λ ds. all_ascii_digits ds ≡ true) (digits_value 10)
own = numerals_by_value _ tells_all_ascii_digits

le_nine : (n : ℕ) → nat_le n 9 ≡ true → n ≤ 9
le_nine n e = grind (arith, nat_tests)

-- a text of at most ten digits is read as their value
ten_digits : {E : Type 0} (text : List ℕ) (r : Result ℕ E) → ParsesUnsigned 64 10 text r
    → all_ascii_digits text ≡ true → 0 < length text → length text ≤ 10 → r ≡ Ok (digits_value 10 text)
ten_digits text r h digits some short =
    let value : digits_value 10 text < 10 ^ 10 = digits_value_short own text 10 digits short in
    parse_gives own 64 text r h digits some (omega (arith, value))

as_number : (text : List ℕ) → is_number text ≡ true → number_of text ≡ Some (digits_value 10 text)
unfolding number_of
as_number text e = ap (λ b. cond b (Some (digits_value 10 text)) None) e

pub parsed : {E : Type 0} (text : List ℕ) (r : Result ℕ E) → ParsesUnsigned 64 10 text r → is_number text ≡ true
    → result_ok r ≡ number_of text
parsed [] r h e = absurd (let no : ⊥ = cc in no)
parsed (first ∷ more) r h e =
    let form = both (list_all is_ascii_digit (first ∷ more) && nat_le (length more) 9)
    (not (first == 48) || length more == 0) e in
    let short = both (list_all is_ascii_digit (first ∷ more)) (nat_le (length more) 9) form.0 in
    let nine = le_nine (length more) short.1 in
    ap result_ok (ten_digits (first ∷ more) r h (sym (digits_same (first ∷ more)) ∙ short.0) (omega arith)
    (omega (arith, nine)))
    ∙ sym (as_number (first ∷ more) e)

pub not_number : (text : List ℕ) → is_number text ≡ false → None ≡ number_of text
unfolding number_of
not_number text e = sym (ap (λ b. cond b (Some (digits_value 10 text)) None) e)
