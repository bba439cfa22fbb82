-- Registers and numbers read from where they are written.
use Rattle.std.proofs.Common.{◌≡◌, ◌∙◌, ℕ, suc, ◌+◌, ◌^◌, ◌<◌, ◌≤◌, List, [], ◌∷◌, ◌++◌, length, take, drop, ap, sym}
use Rattle.std.proofs.Common.{refl, arith, rules, Bool, true, false}
use Rattle.std.specs.Prelude.{◌==◌, ◌&&◌, ◌||◌, cond, not, if◌then◌else◌, ℤ, pos, negsuc, neg_ℤ, bytes_eq, nat_le}
use Rattle.std.specs.Prelude.{codes, Option, Some, None, option_map}
use Rattle.std.specs.List.{list_all, prefix_len}
use Rattle.std.specs.Fmt.{decimal, digits, signed_decimal}
use Rattle.std.proofs.Math.Seq.{take-append_seam, drop-append_seam}
use Rattle.std.proofs.lemmas.Bool.{leb-true}
use Rattle.std.proofs.lemmas.Fmt.{decimal_nonempty}
use Rattle.rv32_asm.specs.Scanning.{is_blank, is_part, is_name, begins_name, numbered, named, register_of, number_of}
use Rattle.rv32_asm.specs.Scanning.{natural, after_blanks, part_length}
use Rattle.rv32_asm.specs.Operands.{is_end, part_of, behind_part, lone}
use Rattle.rv32_asm.proofs.TestLaws.{and_first, and_second, holds_below, below, all_weaker, prefix_all, if_false}
use Rattle.rv32_asm.proofs.DecimalLaws.{is_digit, decimal_is, decimal_of}

-- a register, a number or a label, as it stands
pub record IsPart (part : List ℕ) : Type 0 where
  pub all : list_all is_part part ≡ true
  pub first : (rest : List ℕ) → prefix_len is_blank (part ++ rest) ≡ 0

pub behind_space : (text : List ℕ) → prefix_len is_blank text ≡ 0 → after_blanks (32 ∷ text) ≡ text
behind_space text none = ap (λ n. drop (1 + n) (32 ∷ text)) none

pub behind_none : (text : List ℕ) → prefix_len is_blank text ≡ 0 → after_blanks text ≡ text
behind_none text none = ap (λ n. drop n text) none

abbrev with_rest : {A : Type 0} → List ℕ → A → A × List ℕ
with_rest rest value = (value, rest)

-- A part that stands behind blanks, and what follows it.
module _ (text part rest : List ℕ) (stands : after_blanks text ≡ part ++ rest) (is : IsPart part)
    (ends : part_length rest ≡ 0) where
  pub part_is : part_of text ≡ part
  part_is =
      ap (λ t. take (part_length t) t) stands
      ∙ ap (λ n. take n (part ++ rest)) (prefix_all is_part part rest is.all ends)
      ∙ take-append_seam part rest

  pub rest_is : behind_part text ≡ rest
  rest_is =
      ap (λ t. drop (part_length t) t) stands
      ∙ ap (λ n. drop n (part ++ rest)) (prefix_all is_part part rest is.all ends)
      ∙ drop-append_seam part rest

  -- read with what follows it, or as the last operand
  pub read_at : {A : Type 0} (read : List ℕ → Option A) (value : A) → read part ≡ Some value
      → option_map (with_rest (behind_part text)) (read (part_of text)) ≡ Some (value, rest)
  read_at read value e =
      ap (λ r. option_map (with_rest r) (read (part_of text))) rest_is
      ∙ ap (λ p. option_map (with_rest rest) (read p)) part_is
      ∙ ap (option_map (with_rest rest)) e

  pub read_last : {A : Type 0} (read : List ℕ → Option A) → rest ≡ [] → lone read text ≡ read part
  read_last read none =
      ap (λ r. if is_end r then read (part_of text) else None) (rest_is ∙ none)
      ∙ ap read part_is

-- a register and a number as they are written
abbrev pub register_text : ℕ → List ℕ
register_text register = 120 ∷ decimal register

abbrev is_register : Option ℕ → ℕ → Bool
is_register (Some found) register = found == register
is_register None register = false

abbrev is_right : ℕ → Bool
is_right register =
    is_register (register_of (register_text register)) register && list_all is_part (register_text register)

all_right : (register : ℕ) → register < 32 → is_right register ≡ true
unfolding digits numbered named
all_right register small = below is_right 32 register refl small

found_register : (found : Option ℕ) (register : ℕ) → is_register found register ≡ true → found ≡ Some register
found_register (Some found) register e = let same : found ≡ register = search rules in ap Some same
found_register None register e = absurd (cc)

pub register_is : (register : ℕ) → register < 32 → register_of (register_text register) ≡ Some register
register_is register small =
    found_register (register_of (register_text register)) register
    (and_first (is_register (register_of (register_text register)) register)
    (list_all is_part (register_text register)) (all_right register small))

pub register_part : (register : ℕ) → register < 32 → IsPart (register_text register)
register_part register small = record {
  all = and_second (is_register (register_of (register_text register)) register)
      (list_all is_part (register_text register)) (all_right register small);
  first = λ rest. refl;
}

-- at most ten digits
abbrev pub IsShort : ℤ → Type 0
IsShort (pos n) = n < 10 ^ 10
IsShort (negsuc n) = suc n < 10 ^ 10

-- what each digit passes
pub digit_passes : (test : ℕ → Bool) → holds_below (λ byte. not (is_digit byte) || test byte) 58 ≡ true → (byte : ℕ)
    → is_digit byte ≡ true → test byte ≡ true
digit_passes test all byte digit =
    let most : byte ≤ 57 = leb-true byte 57 (and_second (nat_le 48 byte) (nat_le byte 57) digit) in
    let holds : (not (is_digit byte) || test byte) ≡ true =
    below (λ b. not (is_digit b) || test b) 58 byte all (omega arith) in
    ap (λ d. not d || test byte) (sym digit) ∙ holds

not_true : (test : Bool) → not test ≡ true → test ≡ false
not_true true e = absurd (cc)
not_true false e = refl

second_false : (one other : Bool) → other ≡ false → (one && other) ≡ false
second_false true other e = e
second_false false other e = refl

first_false : (one other : Bool) → one ≡ false → (one && other) ≡ false
first_false one other e = ap (λ o. o && other) e

-- what is known of digits
pub record AreDigits (digits : List ℕ) : Type 0 where
  pub number : number_of digits ≡ natural 10 10 digits
  pub part : IsPart digits
  pub no_name : is_name digits ≡ false

no_prefix : (first : ℕ) (more : List ℕ) → list_all is_digit more ≡ true
    → bytes_eq (take 2 (first ∷ more)) (codes "0x") ≡ false
no_prefix first [] all = second_false (first == 48) false refl
no_prefix first (second ∷ more) all =
    second_false (first == 48) ((second == 120) && true)
    (first_false (second == 120) true
    (not_true (second == 120) (digit_passes (λ b. not (b == 120)) refl second
    (and_first (is_digit second) (list_all is_digit more) all))))

pub are_digits : (digits : List ℕ) → list_all is_digit digits ≡ true → 0 < length digits → AreDigits digits
are_digits [] all some = absurd (omega arith)
are_digits (first ∷ more) all some =
    let digit : is_digit first ≡ true = and_first (is_digit first) (list_all is_digit more) all in
    let rest : list_all is_digit more ≡ true = and_second (is_digit first) (list_all is_digit more) all in
    let positive : (first == 45) ≡ false = not_true (first == 45)
    (digit_passes (λ b. not (b == 45)) refl first digit) in
    let sharp : is_blank first ≡ false = not_true (is_blank first)
    (digit_passes (λ b. not (is_blank b)) refl first digit) in
    let letter : begins_name first ≡ false =
    not_true (begins_name first) (digit_passes (λ b. not (begins_name b)) refl first digit) in
    record {
      number = if_false (first == 45) positive _ _
          ∙ if_false (bytes_eq (take 2 (first ∷ more)) (codes "0x")) (no_prefix first more rest) _ _;
      part = record {
        all = all_weaker is_digit is_part (digit_passes is_part refl) (first ∷ more) all;
        first = λ rest. ap (λ b. cond b (1 + prefix_len is_blank (more ++ rest)) 0) sharp;
      };
      no_name = first_false (begins_name first) _ letter;
    }

pub decimal_digits : (n : ℕ) → n < 10 ^ 10 → AreDigits (decimal n)
decimal_digits n small =
    let word : n < 2 ^ 64 = omega arith in
    are_digits (decimal n) (decimal_is n word).all (decimal_nonempty n word)

pub number_is : (number : ℤ) → IsShort number → number_of (signed_decimal number) ≡ Some number
number_is (pos n) short = (decimal_digits n short).number ∙ ap (option_map pos) (decimal_of n short)
number_is (negsuc n) short = ap (λ d. option_map neg_ℤ (option_map pos d)) (decimal_of (suc n) short)

pub number_part : (number : ℤ) → IsShort number → IsPart (signed_decimal number)
number_part (pos n) short = (decimal_digits n short).part
number_part (negsuc n) short = record {
  all = (decimal_digits (suc n) short).part.all;
  first = λ rest. refl;
}

pub number_no_name : (number : ℤ) → IsShort number → is_name (signed_decimal number) ≡ false
number_no_name (pos n) short = (decimal_digits n short).no_name
number_no_name (negsuc n) short = refl
