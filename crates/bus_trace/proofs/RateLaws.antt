-- The rates of a line.
use Rattle.std.proofs.Common.{◌≡◌, ℕ, ◌^◌, ◌<◌, ◌≤◌, List, [], ◌∷◌, ◌++◌, length, take, refl, sym, ◌∙◌, ap}
use Rattle.std.proofs.Common.{subst, arith, append_assoc, append-nil, length-append, All, ◌⊎◌, inl, inr}
use Rattle.std.specs.List.{AllByRecursion}
use Rattle.std.specs.Fmt.{decimal}
use Rattle.std.proofs.lemmas.List.Elements.{All-from_recursion, recursion_from_All}
use Rattle.asc_base.specs.Settings.{AreRates, IsFromTo, IsPowerTo}
use Rattle.bus_trace.specs.Grammar.{IsShort, AreShort, IsSeen}
use Rattle.bus_trace.specs.Reading.{BeginsNumber, AreNumbers, AreAllRates, Holds, IsFound, IsList, IsOutside}
use Rattle.bus_trace.specs.Reading.{HasRates, IsIllFormed, IsItem, IsShortItem, MayBeRates, item_line, seen_with}
use Rattle.bus_trace.specs.declared.lines.Item.{Item}
use Rattle.bus_trace.specs.declared.lines.Item.TheVariants.{Access, End}
use Rattle.bus_trace.specs.declared.trace.Seen.{Seen}
use Rattle.asc_base.specs.declared.settings.Rates.{Rates}
use Rattle.std.specs.List.Sorted.{IsStrictlyIncreasing}
use Rattle.std.specs.Prelude.{codes, replicate}
use Rattle.std.proofs.Math.Pow.{pow_mono}
use Rattle.std.proofs.Common.{◌-◌, get_or}
use Rattle.std.proofs.lemmas.List.{take_all, take_at}
use Rattle.bus_trace.specs.declared.rates.Found.{Found}
use Rattle.bus_trace.specs.Trace.{spaced, line}
use Rattle.bus_trace.proofs.NumberLaws.{begins_spaced, spaced_tells, spaced_none, behind_is}
use Rattle.std.proofs.lemmas.List.{append_cancel_left}

pub spaced-append : (xs ys : List ℕ) → spaced (xs ++ ys) ≡ spaced xs ++ spaced ys
spaced-append [] ys = refl
spaced-append (x ∷ xs) ys =
    ap (λ t. 32 ∷ t) (ap (λ t. decimal x ++ t) (spaced-append xs ys) ∙ sym (append_assoc (decimal x) (spaced xs)
    (spaced ys)))

-- numbers are told by their text
pub spaced_injective : (xs ys : List ℕ) → AllByRecursion IsShort xs → AllByRecursion IsShort ys
    → spaced xs ≡ spaced ys → xs ≡ ys
spaced_injective [] [] sx sy same = refl
spaced_injective [] (y ∷ ys) sx sy same = absurd (let no : ⊥ = cc in no)
spaced_injective (x ∷ xs) [] sx sy same = absurd (let no : ⊥ = cc in no)
spaced_injective (x ∷ xs) (y ∷ ys) sx sy same =
    let told = spaced_tells (spaced (x ∷ xs)) x y (spaced xs) ys (begins_spaced x xs sx.0) sy.0 same in
    let more : xs ≡ ys = spaced_injective xs ys sx.1 sy.1 told.1 in
    ap (λ n. n ∷ xs) told.0 ∙ ap (λ ns. y ∷ ns) more

pub line_injective : (word xs ys : List ℕ) → AllByRecursion IsShort xs → AllByRecursion IsShort ys
    → line word xs ≡ line word ys → xs ≡ ys
line_injective word xs ys sx sy same =
    spaced_injective xs ys sx sy (append_cancel_left word (spaced xs) (spaced ys) same)

-- there are at most 16 rates
pub power_few : (count : ℕ) → IsPowerTo 4 count → (1 ≤ count) × (count ≤ 16)
power_few count (power, few, same) =
    let low = pow_mono {i = 0} {j = power} (omega arith) in
    let high = pow_mono {i = power} {j = 4} few in
    (omega (arith, same, low), omega (arith, same, high))

pub whole_bounds : (rates : List ℕ) → AreAllRates rates → All (IsFromTo 64 1048576) rates
whole_bounds rates are =
    subst (All (IsFromTo 64 1048576)) (take_all (length rates) rates (omega arith)) are.bounds

-- rates are short numbers, and some
pub rates_are_numbers : (rates : List ℕ) → AreAllRates rates → AreNumbers rates
rates_are_numbers rates are = record {
  some = λ none. omega (arith, (power_few (length rates) are.power).0, ap length none);
  short = λ k d small. omega (arith, whole_bounds rates are k d small);
}

pub rates_may_be : (rates : List ℕ) → AreAllRates rates → MayBeRates rates
rates_may_be rates are = record {
  few = (power_few (length rates) are.power).1;
  small = λ k d small. omega (arith, whole_bounds rates are k d small);
}

pub rates_short : (rates : List ℕ) → AreAllRates rates → AllByRecursion IsShort rates
rates_short rates are = recursion_from_All IsShort rates (rates_are_numbers rates are).short

-- the numbers that stand first in the list
pub numbers_first : (rates : Rates) (numbers : List ℕ) → HasRates rates numbers → take rates.count rates.list ≡ numbers
numbers_first rates numbers has =
    ap (take rates.count) has.list ∙ ap (λ k. take k (numbers ++ replicate (16 - length numbers) 0)) has.count
    ∙ take_at numbers (replicate (16 - length numbers) 0) (length numbers) refl

-- what is said of the list is said of them
pub list_of_rates : (rates : Rates) (numbers : List ℕ) → HasRates rates numbers → AreAllRates numbers
    → AreRates rates.list rates.count
list_of_rates rates numbers has are =
    let first : take (length numbers) numbers ≡ take rates.count rates.list =
    take_all (length numbers) numbers (omega arith) ∙ sym (numbers_first rates numbers has) in
    record {
      power = subst (IsPowerTo 4) (sym has.count) are.power;
      rise = subst IsStrictlyIncreasing first are.rise;
      bounds = subst (All (IsFromTo 64 1048576)) first are.bounds;
    }

pub rates_of_list : (rates : Rates) (numbers : List ℕ) → HasRates rates numbers → AreRates rates.list rates.count
    → AreAllRates numbers
rates_of_list rates numbers has are =
    let first : take rates.count rates.list ≡ take (length numbers) numbers =
    numbers_first rates numbers has ∙ sym (take_all (length numbers) numbers (omega arith)) in
    record {
      power = subst (IsPowerTo 4) has.count are.power;
      rise = subst IsStrictlyIncreasing first are.rise;
      bounds = subst (All (IsFromTo 64 1048576)) first are.bounds;
    }

-- numbers of a line that aren't rates
pub rates_outside : (text word after numbers : List ℕ) → text ≡ word ++ after → IsList after numbers
    → ¬ AreAllRates numbers → IsOutside (line word) AreNumbers AreAllRates text
rates_outside text word after numbers parts list not = record {
  said = numbers;
  form = list.are;
  written = parts ∙ ap (λ t. word ++ t) list.written;
  outside = λ other are same.
      (let one : numbers ≡ other = line_injective word numbers other
      (recursion_from_All IsShort numbers list.are.short) (rates_short other are)
      (sym (parts ∙ ap (λ t. word ++ t) list.written) ∙ same) in
      not (subst AreAllRates (sym one) are));
}

pub rates_ill_formed : (text word after : List ℕ) → text ≡ word ++ after
    → ((numbers : List ℕ) → ¬ IsList after numbers) → IsIllFormed (line word) AreNumbers text
rates_ill_formed text word after parts none = λ numbers are same.
    none numbers (record { are = are; written = behind_is text word after numbers parts same })

pub one_injective : (word : List ℕ) (m n : ℕ) → IsShort m → IsShort n → line word (m ∷ []) ≡ line word (n ∷ [])
    → m ≡ n
one_injective word m n sm sn same =
    let both : m ∷ [] ≡ n ∷ [] = line_injective word (m ∷ []) (n ∷ []) (sm, tt) (sn, tt) same in cc

pub number_outside : (text word : List ℕ) (least most n : ℕ) → most < 10 ^ 10 → IsShort n → text ≡ line word (n ∷ [])
    → (n < least) ⊎ (most < n)
    → IsOutside (λ (n : ℕ). line word (n ∷ [])) IsShort (IsFromTo least most) text
number_outside text word least most n fits short written out = record {
  said = n;
  form = short;
  written = written;
  outside = λ other range same.
      (let one : n ≡ other = one_injective word n other short (omega (arith, range)) (sym written ∙ same) in
      elim out [ inl low ↦ omega (arith, one, range, low) | inr high ↦ omega (arith, one, range, high) ]);
}

-- a text is some numbers
abbrev pub AreSome : List ℕ → Type 0
AreSome text = (numbers : List ℕ) × IsList text numbers

-- so many numbers were read, which were found, and the rest is left
pub record HasRead (text : List ℕ) (found : Found) (rest : List ℕ) : Type 0 where
  pub numbers : List ℕ
  pub short : AllByRecursion IsShort numbers
  pub holds : Holds found numbers
  pub parts : text ≡ spaced numbers ++ rest
  pub others : AreSome text → AreSome rest

pub read_nothing : (text : List ℕ) (found : Found) → Holds found [] → HasRead text found text
read_nothing text found holds =
    record { numbers = []; short = tt; holds = holds; parts = refl; others = λ some. some }

short-append : (xs ys : List ℕ) → AllByRecursion IsShort xs → AllByRecursion IsShort ys
    → AllByRecursion IsShort (xs ++ ys)
short-append [] ys sx sy = sy
short-append (x ∷ xs) ys sx sy = (sx.0, short-append xs ys sx.1 sy)

-- with the next number, where more are left
some_after : (rest after : List ℕ) (n : ℕ) → BeginsNumber rest n after → (after ≡ [] → ⊥) → AreSome rest → AreSome after
some_after rest after n begins left ([], list) = absurd (list.are.some refl)
some_after rest after n begins left (m ∷ ms, list) =
    let shorts = recursion_from_All IsShort (m ∷ ms) list.are.short in
    let told = spaced_tells rest n m after ms begins shorts.0 list.written in (
      ms,
      record {
        are = record {
          some = λ none. left (told.1 ∙ ap spaced none);
          short = All-from_recursion IsShort ms shorts.1;
        };
        written = told.1;
      },
    )

grown : (text : List ℕ) (found : Found) (rest after : List ℕ) (n : ℕ) (read : HasRead text found rest)
    → BeginsNumber rest n after → text ≡ spaced (read.numbers ++ n ∷ []) ++ after
grown text found rest after n read begins =
    read.parts ∙ ap (λ t. spaced read.numbers ++ t) (begins.parts
    ∙ ap (λ t. 32 ∷ (t ++ after)) (sym (append-nil (decimal n))))
    ∙ sym (append_assoc (spaced read.numbers) (spaced (n ∷ [])) after)
    ∙ ap (λ t. t ++ after) (sym (spaced-append read.numbers (n ∷ [])))

pub read_next : (text : List ℕ) (found more : Found) (rest after : List ℕ) (n : ℕ) → HasRead text found rest
    → BeginsNumber rest n after → (after ≡ [] → ⊥)
    → ((numbers : List ℕ) → Holds found numbers → Holds more (numbers ++ n ∷ [])) → HasRead text more after
read_next text found more rest after n read begins left holds = record {
  numbers = read.numbers ++ n ∷ [];
  short = short-append read.numbers (n ∷ []) read.short (begins.short, tt);
  holds = holds read.numbers read.holds;
  parts = grown text found rest after n read begins;
  others = λ some. some_after rest after n begins left (read.others some);
}

-- and where none are
pub read_last : (text : List ℕ) (found more : Found) (rest after : List ℕ) (n : ℕ) → HasRead text found rest
    → BeginsNumber rest n after → after ≡ []
    → ((numbers : List ℕ) → Holds found numbers → Holds more (numbers ++ n ∷ [])) → IsFound text more
read_last text found more rest after n read begins nil holds = record {
  numbers = read.numbers ++ n ∷ [];
  list = record {
    are = record {
      some = λ none. omega (arith, length-append read.numbers (n ∷ []), ap length none);
      short = All-from_recursion IsShort (read.numbers ++ n ∷ [])
          (short-append read.numbers (n ∷ []) read.short (begins.short, tt));
    };
    written = grown text found rest after n read begins ∙ ap (λ t. spaced (read.numbers ++ n ∷ []) ++ t) nil
        ∙ append-nil (spaced (read.numbers ++ n ∷ []));
  };
  holds = holds read.numbers read.holds;
}

-- where no number stands first, the text isn't some numbers
pub read_none : (text : List ℕ) (found : Found) (rest : List ℕ) → HasRead text found rest
    → ((n : ℕ) (after : List ℕ) → BeginsNumber rest n after → ⊥) → (numbers : List ℕ) → ¬ IsList text numbers
read_none text found rest read none numbers = λ list. no (read.others (numbers, list))
  where
    no : AreSome rest → ⊥
    no ([], list) = list.are.some refl
    no (m ∷ ms, list) = spaced_none rest none m ms (recursion_from_All IsShort (m ∷ ms) list.are.short).0 list.written

-- a number takes some bytes
pub number_shrinks : (rest after : List ℕ) (n : ℕ) → BeginsNumber rest n after → length after < length rest
number_shrinks rest after n begins = omega (arith, ap length begins.parts, length-append (decimal n) after)

-- an access whose numbers are out of their ranges, and an end that is
pub seen_short : (levels : ℕ) (seen : Seen) → levels ≤ 20 → IsSeen levels seen → AreShort seen
seen_short levels seen low is =
    let leaves = pow_mono {i = levels} {j = 20} low in
    record { start = omega (arith, is.start); leaf = omega (arith, is.leaf, leaves); moves = omega (arith, is.moves) }

three_injective : (word : List ℕ) (x y z : ℕ) (other : Seen) → IsShort x → IsShort y → IsShort z → AreShort other
    → line word (x ∷ y ∷ z ∷ []) ≡ line word (other.start ∷ other.leaf.0 ∷ other.moves ∷ [])
    → other ≡ seen_with x y z
three_injective word x y z other sx sy sz short same =
    let all : x ∷ y ∷ z ∷ [] ≡ other.start ∷ other.leaf.0 ∷ other.moves ∷ [] =
    line_injective word (x ∷ y ∷ z ∷ []) (other.start ∷ other.leaf.0 ∷ other.moves ∷ []) (sx, (sy, (sz, tt)))
    (short.start, (short.leaf, (short.moves, tt))) same in
    let one : other.start ≡ x = cc in
    let two : other.leaf.0 ≡ y = cc in
    let three : other.moves ≡ z = cc in
    ap (λ s. seen_with s other.leaf.0 other.moves) one ∙ ap (λ l. seen_with x l other.moves) two
    ∙ ap (λ m. seen_with x y m) three

pub seen_outside : (text : List ℕ) (levels x y z : ℕ) → levels ≤ 20 → IsShort x → IsShort y → IsShort z
    → text ≡ line (codes "access") (x ∷ y ∷ z ∷ []) → ¬ IsSeen levels (seen_with x y z)
    → IsOutside item_line IsShortItem (IsItem levels) text
seen_outside text levels x y z low sx sy sz written not = record {
  said = Access (seen_with x y z);
  form = record { start = sx; leaf = sy; moves = sz };
  written = written;
  outside = out;
}
  where
    out : (other : Item) → IsItem levels other → text ≡ item_line other → ⊥
    out (Access other) is same =
        let one = three_injective (codes "access") x y z other sx sy sz (seen_short levels other low is)
        (sym written ∙ same) in
        not (subst (IsSeen levels) one is)
    out (End end) is same =
        let n : 97 ≡ 101 = ap (λ t. get_or t 0 0) (sym written ∙ same) in omega (arith, n)

pub end_outside : (text : List ℕ) (levels end : ℕ) → IsShort end → text ≡ line (codes "end") (end ∷ [])
    → 536870912 < end → IsOutside item_line IsShortItem (IsItem levels) text
end_outside text levels end short written late = record {
  said = End end;
  form = short;
  written = written;
  outside = out;
}
  where
    out : (other : Item) → IsItem levels other → text ≡ item_line other → ⊥
    out (Access other) is same =
        let n : 101 ≡ 97 = ap (λ t. get_or t 0 0) (sym written ∙ same) in omega (arith, n)
    out (End other) is same =
        let one = one_injective (codes "end") end other short (omega (arith, is)) (sym written ∙ same) in
        omega (arith, one, is, late)
