-- Numbers in a line.
use Rattle.std.proofs.Common.{◌≡◌, ℕ, zero, suc, ◌+◌, ◌-◌, ◌*◌, ◌^◌, ◌<◌, ◌≤◌, List, [], ◌∷◌, ◌++◌, length, get_or}
use Rattle.std.proofs.Common.{take, drop, refl, sym, ◌∙◌, ap, subst, arith, true, false}
use Rattle.std.specs.Char.{is_ascii_digit, IsAsciiDigit, digit_value}
use Rattle.std.specs.Fmt.{decimal, digits}
use Rattle.std.specs.Str.Parse.{AllDigits, digits_value}
use Rattle.std.proofs.lemmas.Fmt.{decimal_nonempty, first_decimal, length-decimal-le}
use Rattle.std.proofs.lemmas.Fmt.{decimal-digits_value, decimal_injective, digits_decimal}
use Rattle.std.proofs.lemmas.Str.{digit_value_digit}
use Rattle.std.proofs.lemmas.Int.Digits.{digits_value_more}
use Rattle.std.proofs.Math.Seq.{drop-cons}
use Rattle.std.proofs.lemmas.Str.Parse.{digit_at, digits_value-take-le}
use Rattle.std.proofs.lemmas.Str.Parse.{IsNumeralModel, tells_digits, numerals_by_value, digits_value_short}
use Rattle.bus_trace.specs.Grammar.{IsShort}
use Rattle.bus_trace.specs.Reading.{BeginsNoDigit, BeginsNumber}
use Rattle.std.specs.Prelude.{◌==◌}
use Rattle.std.proofs.lemmas.Bool.{eqb-true}
use Rattle.std.proofs.lemmas.List.{append_cancel_left, nil_from_length}
use Rattle.bus_trace.specs.Trace.{spaced, line}

pub digit_has_value : (c : ℕ) → is_ascii_digit c ≡ true → digit_value c < 10
digit_has_value c is =
    let range : IsAsciiDigit c = grind (arith, is) in
    omega (arith, digit_value_digit c range, range)

pub no_digit : (c : ℕ) → is_ascii_digit c ≡ false → ¬ IsAsciiDigit c
no_digit c is = λ range. grind (arith, is, range)

pub own : IsNumeralModel (AllDigits 10) (digits_value 10)
own = numerals_by_value (AllDigits 10) tells_digits

-- a number of at most ten digits is below 2 ^ 64
pub short_fits : (n : ℕ) → IsShort n → n < 2 ^ 64
short_fits n short = omega (arith, short)

pub ten_digits : (ds : List ℕ) → AllDigits 10 ds → length ds ≤ 10 → IsShort (digits_value 10 ds)
ten_digits ds are few = digits_value_short own ds 10 are few

-- one to ten digits of which the first is 0 only if it is alone are a number's
pub is_number : (ds : List ℕ) → AllDigits 10 ds → 0 < length ds → length ds ≤ 10
    → (get_or ds 0 0 ≡ 48 → length ds ≡ 1) → ds ≡ decimal (digits_value 10 ds)
is_number ds are some few first =
    sym (decimal-digits_value own ds are some first (short_fits _ (ten_digits ds are few)))

-- a number has one to ten digits, of which the first is 0 only if it is alone
pub number_nonempty : (n : ℕ) → IsShort n → 0 < length (decimal n)
number_nonempty n short = decimal_nonempty n (short_fits n short)

pub number_few : (n : ℕ) → IsShort n → length (decimal n) ≤ 10
number_few n short = length-decimal-le 10 n (omega arith) short (short_fits n short)

pub number_digits : (n : ℕ) → IsShort n → AllDigits 10 (decimal n)
number_digits n short = digits_decimal own n (short_fits n short)

zero_alone : length (decimal 0) ≡ 1
unfolding digits
zero_alone = refl

pub number_first : (n : ℕ) → IsShort n → get_or (decimal n) 0 0 ≡ 48 → length (decimal n) ≡ 1
number_first zero short first = zero_alone
number_first (suc n) short first =
    absurd (omega (arith, first_decimal (suc n) (omega arith) (short_fits (suc n) short), first))

-- two texts that begin with digits and go on without one are cut at the same place
pub cut_at_digits : (a b r s : List ℕ) → AllDigits 10 a → AllDigits 10 b → BeginsNoDigit r → BeginsNoDigit s
    → a ++ r ≡ b ++ s → (a ≡ b) × (r ≡ s)
cut_at_digits [] [] r s da db nr ns e = (refl, e)
cut_at_digits [] (y ∷ b) [] s da db nr ns e = absurd (let no : ⊥ = cc in no)
cut_at_digits [] (y ∷ b) (x ∷ r) s da db nr ns e =
    let same : x ≡ y = cc in
    absurd (nr (rw same ((tells_digits).parts y b db).0))
cut_at_digits (x ∷ a) [] r [] da db nr ns e = absurd (let no : ⊥ = cc in no)
cut_at_digits (x ∷ a) [] r (y ∷ s) da db nr ns e =
    let same : y ≡ x = cc in
    absurd (ns (rw same ((tells_digits).parts x a da).0))
cut_at_digits (x ∷ a) (y ∷ b) r s da db nr ns e =
    let heads : x ≡ y = cc in
    let tails : a ++ r ≡ b ++ s = cc in
    let more = cut_at_digits a b r s da.1 db.1 nr ns tails in
    (cc (heads, more.0), more.1)

abbrev after_space : List ℕ → List ℕ
after_space [] = []
after_space (c ∷ cs) = cs

-- a number that stands first is one alone
pub numbers_tell : (text : List ℕ) (m n : ℕ) (r s : List ℕ) → BeginsNumber text m r → BeginsNumber text n s
    → (m ≡ n) × (r ≡ s)
numbers_tell text m n r s one other =
    let cut = cut_at_digits (decimal m) (decimal n) r s (number_digits m one.short) (number_digits n other.short)
    one.ends other.ends (ap after_space (sym one.parts ∙ other.parts)) in
    (decimal_injective m n (short_fits m one.short) (short_fits n other.short) cut.0, cut.1)

-- where no digit follows, digits that are no number stand for none
pub no_number : (text ds rest : List ℕ) → text ≡ 32 ∷ (ds ++ rest) → AllDigits 10 ds → BeginsNoDigit rest
    → ((n : ℕ) → IsShort n → ds ≡ decimal n → ⊥) → (n : ℕ) (r : List ℕ) → BeginsNumber text n r → ⊥
no_number text ds rest parts are ends none n r begins =
    none n begins.short
    (cut_at_digits ds (decimal n) rest r are (number_digits n begins.short) ends begins.ends
    (ap after_space (sym parts ∙ begins.parts))).0

-- a number, and others behind it
pub begins_spaced : (n : ℕ) (ns : List ℕ) → IsShort n → BeginsNumber (spaced (n ∷ ns)) n (spaced ns)
begins_spaced n ns short = record { short = short; parts = refl; ends = ends ns }
  where
    space : ¬ IsAsciiDigit 32
    space range = omega (arith, range)

    ends : (ms : List ℕ) → BeginsNoDigit (spaced ms)
    ends [] = tt
    ends (m ∷ ms) = space

-- no digit stands first from a place on that has none
pub ends_here : (text : List ℕ) (k : ℕ) → k < length text → is_ascii_digit (get_or text k 0) ≡ false
    → BeginsNoDigit (drop k text)
ends_here text k small is =
    let none : ¬ IsAsciiDigit (get_or text k 0) = no_digit (get_or text k 0) is in
    rw (drop-cons text k 0) none

-- one digit more
pub one_more_digit : (ds : List ℕ) (k : ℕ) → AllDigits 10 ds → k < length ds
    → digits_value 10 (take (k + 1) ds) ≡ digits_value 10 (take k ds) * 10 + (get_or ds k 0 - 48)
one_more_digit ds k are small =
    digits_value_more 10 ds k small
    ∙ ap (λ d. digits_value 10 (take k ds) * 10 + d)
    (let is = digit_value_digit (get_or ds k 0) (digit_at ds k are small) in omega (arith, is))

-- what so many digits say is below what all say
pub grows_to : (ds : List ℕ) (k : ℕ) → AllDigits 10 ds → length ds ≤ 10 → k < length ds
    → digits_value 10 (take k ds) * 10 + (get_or ds k 0 - 48) < 10 ^ 10
grows_to ds k are few small =
    omega (
      arith,
      one_more_digit ds k are small,
      digits_value-take-le 10 ds (k + 1) (omega arith),
      ten_digits ds are few,
    )

-- numbers, one after the other
pub spaced_first : (text : List ℕ) (n : ℕ) (rest ns : List ℕ) → BeginsNumber text n rest → rest ≡ spaced ns
    → text ≡ spaced (n ∷ ns)
spaced_first text n rest ns begins same = begins.parts ∙ ap (λ r. 32 ∷ (decimal n ++ r)) same

pub spaced_tells : (text : List ℕ) (m n : ℕ) (rest ns : List ℕ) → BeginsNumber text m rest → IsShort n
    → text ≡ spaced (n ∷ ns) → (m ≡ n) × (rest ≡ spaced ns)
spaced_tells text m n rest ns begins short same =
    numbers_tell text m n rest (spaced ns) begins (subst (λ t. BeginsNumber t n (spaced ns)) (sym same)
    (begins_spaced n ns short))

pub spaced_none : (text : List ℕ) → ((n : ℕ) (rest : List ℕ) → BeginsNumber text n rest → ⊥)
    → (n : ℕ) (ns : List ℕ) → IsShort n → text ≡ spaced (n ∷ ns) → ⊥
spaced_none text none n ns short same =
    none n (spaced ns) (subst (λ t. BeginsNumber t n (spaced ns)) (sym same) (begins_spaced n ns short))

-- what stands behind a word
pub behind_is : (text word rest ns : List ℕ) → text ≡ word ++ rest → text ≡ line word ns → rest ≡ spaced ns
behind_is text word rest ns parts same = append_cancel_left word rest (spaced ns) (sym parts ∙ same)

pub nothing_left : (rest : List ℕ) → (length rest == 0) ≡ true → rest ≡ []
nothing_left rest is = nil_from_length rest (eqb-true (length rest) 0 is)

pub something_left : (rest : List ℕ) → (length rest == 0) ≡ false → rest ≡ [] → ⊥
something_left [] is same = cc
something_left (x ∷ rest) is same = cc

-- the numbers of a line
pub one_is : (text word after : List ℕ) (n : ℕ) (rest : List ℕ) → text ≡ word ++ after → BeginsNumber after n rest
    → rest ≡ [] → text ≡ line word (n ∷ [])
one_is text word after n rest parts begins nil = parts ∙ ap (λ t. word ++ t) (spaced_first after n rest [] begins nil)

pub three_are : (text word after : List ℕ) (x y z : ℕ) (second third rest : List ℕ) → text ≡ word ++ after
    → BeginsNumber after x second → BeginsNumber second y third → BeginsNumber third z rest → rest ≡ []
    → text ≡ line word (x ∷ y ∷ z ∷ [])
three_are text word after x y z second third rest parts one two three nil =
    parts ∙ ap (λ t. word ++ t) (spaced_first after x second (y ∷ z ∷ []) one (spaced_first second y third (z ∷ [])
    two (spaced_first third z rest [] three nil)))

pub some_left : (rest : List ℕ) → (length rest == 0) ≡ false → 0 < length rest
some_left [] is = absurd (let no : ⊥ = cc in no)
some_left (x ∷ rest) is = omega arith
