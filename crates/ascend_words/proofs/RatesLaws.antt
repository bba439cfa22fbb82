-- How the rates of a text are read, part by part.
use Rattle.std.proofs.Common.{◌≡◌, ◌≢◌, suc, ℕ, ◌+◌, ◌<◌, ◌≤◌, Bool}
use Rattle.std.proofs.Common.{true, false, cond, eqb, List, [], ◌∷◌, ◌++◌, length}
use Rattle.std.proofs.Common.{get_or, Option, Some, None, refl, sym, ap, ◌∙◌, append_assoc, length-append, arith}
use Rattle.std.specs.Prelude.{◌-◌, nat_le, option_map, option_and_then, replicate, slice_set}
use Rattle.std.proofs.lemmas.Bool.Decides.{nat_tests}
use Rattle.asc_base.specs.declared.settings.WideRates.{WideRates}
use Rattle.ascend_words.specs.Numbers.{number_of, numbers_of, parts_of, rates_of, wide_rates, with_byte}

-- no byte of a text is a comma
abbrev pub LacksComma : List ℕ → Type 0
LacksComma text = (i : ℕ) → i < length text → get_or text i 0 ≢ 44

no_comma : (x : ℕ) → x ≢ 44 → eqb x 44 ≡ false
no_comma x h = grind (arith, nat_tests)

rest_lacks : (x : ℕ) (xs : List ℕ) → LacksComma (x ∷ xs) → LacksComma xs
rest_lacks x xs h i inside = h (suc i) (omega arith)

-- the part before the first comma, and a text without one
pub first_part : (front rest : List ℕ) → LacksComma front → parts_of (front ++ 44 ∷ rest) ≡ front ∷ parts_of rest
first_part [] rest h = refl
first_part (x ∷ xs) rest h =
    ap (λ b. cond b ([] ∷ parts_of (xs ++ 44 ∷ rest)) (with_byte x (parts_of (xs ++ 44 ∷ rest))))
    (no_comma x (h 0 (omega arith)))
    ∙ ap (with_byte x) (first_part xs rest (rest_lacks x xs h))

pub one_part : (text : List ℕ) → LacksComma text → parts_of text ≡ text ∷ []
one_part [] h = refl
one_part (x ∷ xs) h =
    ap (λ b. cond b ([] ∷ parts_of xs) (with_byte x (parts_of xs))) (no_comma x (h 0 (omega arith)))
    ∙ ap (with_byte x) (one_part xs (rest_lacks x xs h))

some_with : (x : ℕ) (parts : List (List ℕ)) → 1 ≤ length (with_byte x parts)
some_with x [] = omega arith
some_with x (part ∷ parts) = omega arith

-- there is a part
some_part : (text : List ℕ) → 1 ≤ length (parts_of text)
some_part [] = omega arith
some_part (x ∷ xs) = go (eqb x 44)
  where
    go : (b : Bool) → 1 ≤ length (cond b ([] ∷ parts_of xs) (with_byte x (parts_of xs)))
    go true = omega arith
    go false = some_with x (parts_of xs)

-- so many rates were read, which were found, and the rest is left
pub record Reading (text : List ℕ) (found : WideRates) (rest : List ℕ) (i : ℕ) : Type 0 where
  pub numbers : List ℕ
  pub counted : length numbers ≡ i
  pub holds : found ≡ wide_rates numbers
  pub parts : length (parts_of text) ≡ i + length (parts_of rest)
  pub all : numbers_of (parts_of text) ≡ option_map (λ more. numbers ++ more) (numbers_of (parts_of rest))

map_nothing : (o : Option (List ℕ)) → o ≡ option_map (λ more. [] ++ more) o
map_nothing None = refl
map_nothing (Some xs) = refl

pub reads_none : (text : List ℕ) (found : WideRates) → found ≡ wide_rates [] → Reading text found text 0
reads_none text found e = record {
  numbers = [];
  counted = refl;
  holds = e;
  parts = omega arith;
  all = map_nothing (numbers_of (parts_of text));
}

map_twice : (numbers : List ℕ) (n : ℕ) (o : Option (List ℕ))
    → option_map (λ more. numbers ++ more) (option_map (λ more. n ∷ more) o)
    ≡ option_map (λ more. (numbers ++ n ∷ []) ++ more) o
map_twice numbers n None = refl
map_twice numbers n (Some xs) = ap Some (sym (append_assoc numbers (n ∷ []) xs))

-- the numbers of parts whose first is one
numbers_first : (part : List ℕ) (parts : List (List ℕ)) (n : ℕ) → number_of part ≡ Some n
    → numbers_of (part ∷ parts) ≡ option_map (λ more. n ∷ more) (numbers_of parts)
numbers_first part parts n e =
    ap (option_and_then (λ number. option_map (λ more. number ∷ more) (numbers_of parts))) e

numbers_no : (part : List ℕ) (parts : List (List ℕ)) → number_of part ≡ None → numbers_of (part ∷ parts) ≡ None
numbers_no part parts e =
    ap (option_and_then (λ number. option_map (λ more. number ∷ more) (numbers_of parts))) e

-- one number more, or none
last_is : (numbers : List ℕ) (o : Option ℕ)
    → option_map (λ rate. wide_rates (numbers ++ rate ∷ [])) o
    ≡ option_map wide_rates (option_map (λ more. numbers ++ more)
    (option_and_then (λ number. option_map (λ more. number ∷ more) (Some [])) o))
last_is numbers None = refl
last_is numbers (Some n) = refl

module _ (text : List ℕ) (found : WideRates) (rest : List ℕ) (i : ℕ) (reading : Reading text found rest i) where
  pub reads_more : (part more : List ℕ) (next : WideRates) (n : ℕ) → rest ≡ part ++ 44 ∷ more → LacksComma part
      → number_of part ≡ Some n
      → ((numbers : List ℕ) → found ≡ wide_rates numbers → next ≡ wide_rates (numbers ++ n ∷ []))
      → Reading text next more (i + 1)
  reads_more part more next n split lacks is step =
      let parts : parts_of rest ≡ part ∷ parts_of more = ap parts_of split ∙ first_part part more lacks in
      record {
        numbers = reading.numbers ++ n ∷ [];
        counted = length-append reading.numbers (n ∷ []) ∙ ap (λ k. k + 1) reading.counted;
        holds = step reading.numbers reading.holds;
        parts = omega (arith, reading.parts, ap length parts);
        all = reading.all ∙ ap (λ p. option_map (λ more. reading.numbers ++ more) (numbers_of p)) parts
            ∙ ap (option_map (λ more. reading.numbers ++ more)) (numbers_first part (parts_of more) n is)
            ∙ map_twice reading.numbers n (numbers_of (parts_of more));
      }

  -- of at most sixteen parts
  rates_are : length (parts_of text) ≤ 16 → rates_of text ≡ numbers_of (parts_of text)
  unfolding rates_of
  rates_are few =
      let yes : nat_le (length (parts_of text)) 16 ≡ true = grind (arith, nat_tests, few) in
      ap (λ b. cond b (numbers_of (parts_of text)) None) yes

  nothing : numbers_of (parts_of text) ≡ None → rates_of text ≡ None
  unfolding rates_of
  nothing none = go (nat_le (length (parts_of text)) 16)
    where
      go : (b : Bool) → cond b (numbers_of (parts_of text)) None ≡ None
      go true = none
      go false = refl

  pub ends_with : (result : Option WideRates) → LacksComma rest → i < 16
      → ((numbers : List ℕ) → found ≡ wide_rates numbers
      → result ≡ option_map (λ rate. wide_rates (numbers ++ rate ∷ [])) (number_of rest))
      → result ≡ option_map wide_rates (rates_of text)
  ends_with result lacks few step =
      let parts : parts_of rest ≡ rest ∷ [] = one_part rest lacks in
      let all : numbers_of (parts_of text) ≡ option_map (λ more. reading.numbers ++ more) (numbers_of (rest ∷ [])) =
      reading.all ∙ ap (λ p. option_map (λ more. reading.numbers ++ more) (numbers_of p)) parts in
      let same = rates_are (omega (arith, reading.parts, ap length parts, few)) ∙ all in
      step reading.numbers reading.holds ∙ last_is reading.numbers (number_of rest)
      ∙ sym (ap (option_map wide_rates) same)

  pub part_without : (part more : List ℕ) → rest ≡ part ++ 44 ∷ more → LacksComma part → number_of part ≡ None
      → None ≡ option_map wide_rates (rates_of text)
  part_without part more split lacks is =
      let none : numbers_of (parts_of text) ≡ None =
      reading.all ∙ ap (λ p. option_map (λ more. reading.numbers ++ more) (numbers_of p))
      (ap parts_of split ∙ first_part part more lacks)
      ∙ ap (option_map (λ more. reading.numbers ++ more)) (numbers_no part (parts_of more) is) in
      sym (ap (option_map wide_rates) (nothing none))

  pub too_many : 16 ≤ i → None ≡ option_map wide_rates (rates_of text)
  unfolding rates_of
  too_many past =
      let some = some_part rest in
      let no : nat_le (length (parts_of text)) 16 ≡ false = grind (arith, nat_tests, reading.parts, some, past) in
      sym (ap (λ b. option_map wide_rates (cond b (numbers_of (parts_of text)) None)) no)

-- a number set behind others
set_behind : (xs : List ℕ) (y : ℕ) (ys : List ℕ) (v : ℕ)
    → slice_set (xs ++ y ∷ ys) (length xs) v ≡ (xs ++ v ∷ []) ++ ys
set_behind [] y ys v = refl
set_behind (x ∷ xs) y ys v = ap (λ l. x ∷ l) (set_behind xs y ys v)

zeros_split : (n : ℕ) → n < 16 → replicate {A = ℕ} (16 - n) 0 ≡ 0 ∷ replicate {A = ℕ} (16 - (n + 1)) 0
zeros_split n few = ap (λ k. replicate {A = ℕ} k 0) (let e : 16 - n ≡ suc (16 - (n + 1)) = omega arith in e)

pub with_more : (list : List ℕ) (count : ℕ) (rate : ℕ) (numbers : List ℕ) → count < 16
    → list ≡ numbers ++ replicate (16 - length numbers) 0 → count ≡ length numbers
    → slice_set list count rate ≡ (numbers ++ rate ∷ []) ++ replicate (16 - length (numbers ++ rate ∷ [])) 0
with_more list count rate numbers few is counted =
    let n = length numbers in
    let small : n < 16 = omega (arith, few, counted) in
    let more : length (numbers ++ rate ∷ []) ≡ n + 1 = length-append numbers (rate ∷ []) in
    ap (λ l. slice_set l count rate) (is ∙ ap (λ z. numbers ++ z) (zeros_split n small))
    ∙ ap (λ k. slice_set (numbers ++ 0 ∷ replicate (16 - (n + 1)) 0) k rate) counted
    ∙ set_behind numbers 0 (replicate (16 - (n + 1)) 0) rate
    ∙ ap (λ k. (numbers ++ rate ∷ []) ++ replicate (16 - k) 0) (sym more)

pub with_rate_is : (rates : WideRates) (rate : ℕ) (numbers : List ℕ) → rates.count < 16 → rates ≡ wide_rates numbers
    → ◌≡◌ {A = WideRates} (record { list = slice_set rates.list rates.count rate; count = rates.count + 1 })
    (wide_rates (numbers ++ rate ∷ []))
with_rate_is rates rate numbers few e =
    let list : rates.list ≡ numbers ++ replicate (16 - length numbers) 0 = ap (λ (r : WideRates). r.list) e in
    let count : rates.count ≡ length numbers = ap (λ (r : WideRates). r.count) e in
    let made : List ℕ → ℕ → WideRates = λ l n. record { list = l; count = n } in
    ap (λ l. made l (rates.count + 1)) (with_more rates.list rates.count rate numbers few list count)
    ∙ ap (λ n. made ((numbers ++ rate ∷ []) ++ replicate (16 - length (numbers ++ rate ∷ [])) 0) n)
    (ap (λ k. k + 1) count ∙ sym (length-append numbers (rate ∷ [])))
