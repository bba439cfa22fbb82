-- What can stand in each place of a trace, and the fault where something else does.
use Rattle.std.proofs.Common.{◌≡◌, ℕ, ◌+◌, ◌-◌, ◌<◌, ◌≤◌, ◌⊎◌, inl, inr, List, [], ◌∷◌, ◌++◌, length}
use Rattle.std.proofs.Common.{take, drop, get_or, map, max, All, refl, sym, ◌∙◌, ap, subst, arith, rules, append_assoc}
use Rattle.std.proofs.Common.{append-nil}
use Rattle.std.specs.Prelude.{codes, fold}
use Rattle.std.specs.List.{AllByRecursion}
use Rattle.std.proofs.lemmas.List.Elements.{All-append, All-from_recursion, recursion_from_All}
use Rattle.asc_base.specs.Settings.{IsFromTo, greatest_rate}
use Rattle.asc_base.specs.TreeShape.{olat_of}
use Rattle.bus_schedule.specs.Timetable.{Public, count_of}
use Rattle.bus_trace.specs.declared.fault.TraceFault.{TraceFault}
use Rattle.bus_trace.specs.declared.fault.TraceFault.TheVariants.{Bad, NoMemory}
use Rattle.bus_trace.specs.declared.fault.TraceKind.{TraceKind}
use Rattle.bus_trace.specs.declared.fault.TraceKind.TheVariants.{Form, Range, Cut, Extra}
use Rattle.bus_trace.specs.declared.lines.Item.{Item}
use Rattle.bus_trace.specs.declared.lines.Item.TheVariants.{Access, End}
use Rattle.bus_trace.specs.declared.trace.Seen.{Seen}
use Rattle.bus_trace.specs.Trace.{TraceLists, Line, line, lines_of, header_lines, access_line, end_line, text_of}
use Rattle.bus_trace.specs.Grammar.{IsHeader, IsSeen, IsTrace, IsShort, AreShort, IsForm}
use Rattle.bus_trace.specs.Reader.{Begins, IsOpen, FaultAfter, form, range, cut}
use Rattle.bus_trace.specs.Reading.{AreAllRates, AreNumbers, HasFault, IsFaultOf, IsAnything, IsItem}
use Rattle.bus_trace.specs.Reading.{IsShortItem, RefusesLine, TakesLine, item_line, title_line}
use Rattle.bus_trace.proofs.TextLaws.{text_of_join, text_of_one}
use Rattle.bus_trace.proofs.RateLaws.{rates_are_numbers, seen_short, line_injective, one_injective}
use Rattle.bus_trace.proofs.RateLaws.{power_few, rates_short}

-- What can stand behind these lines: each form and nothing else, and in the ranges nothing else either.
pub record IsPlace {A : Type 0} (good : List Line) (write : A → Line) (InForm InRange : A → Type 0) : Type 0 where
  pub opened : IsOpen good
  pub form_only : (bad : Line) → Begins IsForm (good ++ bad ∷ []) → (said : A) × InForm said × (bad ≡ write said)
  pub form_any : (said : A) → InForm said → Begins IsForm (good ++ write said ∷ [])
  pub range_only : (bad : Line) → Begins IsTrace (good ++ bad ∷ []) → (said : A) × InRange said × (bad ≡ write said)

-- one line more
more_lines : (text rest after : List ℕ) (good : List Line) (l : Line) → text ≡ text_of good ++ rest
    → rest ≡ l ++ 10 ∷ after → text ≡ text_of (good ++ l ∷ []) ++ after
more_lines text rest after good l parts begins =
    parts ∙ ap (λ r. text_of good ++ r) (begins ∙ sym (append_assoc l (10 ∷ []) after))
    ∙ sym (append_assoc (text_of good) (l ++ 10 ∷ []) after)
    ∙ ap (λ t. t ++ after) (ap (λ t. text_of good ++ t) (sym (text_of_one l)) ∙ sym (text_of_join good (l ∷ [])))

pub took_line : {A : Type 0} (write : A → Line) (InRange : A → Type 0) (text rest after : List ℕ) (good : List Line)
    (said : A) → text ≡ text_of good ++ rest → TakesLine write InRange rest said after
    → text ≡ text_of (good ++ write said ∷ []) ++ after
took_line write InRange text rest after good said parts takes =
    more_lines text rest after good (write said) parts
    (takes.begins.parts ∙ ap (λ l. l ++ 10 ∷ after) takes.says.written)

-- the fault of the line behind these
fault_after : {A : Type 0} (write : A → Line) (InForm InRange : A → Type 0) (text rest : List ℕ) (good : List Line)
    (kind : TraceKind) → IsPlace good write InForm InRange → text ≡ text_of good ++ rest
    → HasFault write InForm InRange rest kind → FaultAfter good text kind
fault_after write InForm InRange text rest good Form place parts has =
    form has.line has.rest (more_lines text rest has.rest good has.line parts has.begins.parts) has.begins.unended
    place.opened
    (λ begins. let is = place.form_only has.line begins in has.fault is.0 is.1 is.2)
fault_after write InForm InRange text rest good Range place parts has =
    range has.line has.rest (more_lines text rest has.rest good has.line parts has.begins.parts)
    (subst (λ l. Begins IsForm (good ++ l ∷ [])) (sym has.fault.written) (place.form_any has.fault.said has.fault.form))
    place.opened
    (λ begins. let is = place.range_only has.line begins in has.fault.outside is.0 is.1 is.2)
fault_after write InForm InRange text rest good Cut place parts has = cut rest parts has place.opened
fault_after write InForm InRange text rest good Extra place parts has = absurd has

pub first_fault : {A : Type 0} (write : A → Line) (InForm InRange : A → Type 0) (text rest : List ℕ)
    (good : List Line) (number : ℕ) (fault : TraceFault) → IsPlace good write InForm InRange
    → text ≡ text_of good ++ rest → number ≡ length good + 1 → RefusesLine write InForm InRange number rest fault
    → IsFaultOf text fault
first_fault write InForm InRange text rest good number (Bad at kind) place parts counted refused =
    (good, fault_after write InForm InRange text rest good kind place parts refused.1, refused.0 ∙ counted)
first_fault write InForm InRange text rest good number NoMemory place parts counted refused = tt

-- ---- traces with a given header

abbrev pub header_with : (levels : ℕ) (rates : List ℕ) (first epoch leak : ℕ) → Public
header_with levels rates first epoch leak =
    record { levels = levels; rates = rates; first = first; epoch = epoch; leak = leak }

-- without an access
abbrev pub trace_with : Public → TraceLists
trace_with h = record { header = h; accesses = []; end = 0 }

pub header_trace : (h : Public) → IsHeader h → IsTrace (trace_with h)
header_trace h is = record { header = is; accesses = λ k d small. absurd (omega (arith, small)); end = omega arith }

pub form_with : (levels : ℕ) (rates : List ℕ) (first epoch leak : ℕ) → IsShort levels → AreNumbers rates
    → IsShort first → IsShort epoch → IsShort leak → IsForm (trace_with (header_with levels rates first epoch leak))
form_with levels rates first epoch leak l r f e k = record {
  levels = l;
  some = r.some;
  rates = r.short;
  first = f;
  epoch = e;
  leak = k;
  accesses = λ k d small. absurd (omega (arith, small));
  end = omega arith;
}

fold-max-le : (list : List ℕ) (start most : ℕ) → start ≤ most → AllByRecursion (IsFromTo 64 most) list
    → fold max start list ≤ most
fold-max-le [] start most within all = within
fold-max-le (x ∷ list) start most within all = fold-max-le list (max start x) most (omega (arith, all.0)) all.1

greatest_few : (rates : List ℕ) → AreAllRates rates → greatest_rate rates (length rates) ≤ 1048576
greatest_few rates are =
    fold-max-le (take (length rates) rates) 0 1048576 (omega arith)
    (recursion_from_All (IsFromTo 64 1048576) (take (length rates) rates) are.bounds)

-- the greatest epoch is in its range, whatever the levels and the rates
pub great_epoch : (levels : ℕ) (rates : List ℕ) → IsFromTo 1 20 levels → AreAllRates rates
    → IsFromTo (olat_of levels + greatest_rate rates (length rates)) 268435456 268435456
great_epoch levels rates l r = (omega (arith, greatest_few rates r, l), omega arith)

pub header_is : (levels : ℕ) (rates : List ℕ) (first epoch leak : ℕ) → IsFromTo 1 20 levels → AreAllRates rates
    → first < length rates → IsFromTo (olat_of levels + greatest_rate rates (length rates)) 268435456 epoch → leak ≤ 60
    → IsHeader (header_with levels rates first epoch leak)
header_is levels rates first epoch leak l r f e k =
    record { levels = l; rates = r; first = f; epoch = e; leak = k }

-- a header with the rest of its numbers in their ranges
abbrev pub begun_with : (levels : ℕ) (rates : List ℕ) (first : ℕ) → Public
begun_with levels rates first = header_with levels rates first 268435456 0

pub begun_is : (levels : ℕ) (rates : List ℕ) (first : ℕ) → IsFromTo 1 20 levels → AreAllRates rates
    → first < length rates → IsHeader (begun_with levels rates first)
begun_is levels rates first l r f = header_is levels rates first 268435456 0 l r f (great_epoch levels rates l r)
    (omega arith)

some_rates : (rates : List ℕ) → AreAllRates rates → 0 < length rates
some_rates rates are = omega (arith, (power_few (length rates) are.power).0)

-- one rate alone
one_rate : AreAllRates (64 ∷ [])
one_rate = search (rules, arith)

-- what is in the ranges is in the form
pub trace_is_form : (t : TraceLists) → IsTrace t → IsForm t
trace_is_form t is = record {
  levels = omega (arith, is.header.levels);
  some = (rates_are_numbers t.header.rates is.header.rates).some;
  rates = (rates_are_numbers t.header.rates is.header.rates).short;
  first = omega (arith, is.header.first, (power_few (count_of t.header) is.header.rates.power).1);
  epoch = omega (arith, is.header.epoch);
  leak = omega (arith, is.header.leak);
  accesses = λ k d small.
      seen_short t.header.levels (get_or t.accesses k d) (omega (arith, is.header.levels)) (is.accesses k d small);
  end = omega (arith, is.end);
}

-- ---- the header's places

abbrev pub levels_line : ℕ → Line
levels_line n = line (codes "levels") (n ∷ [])

abbrev pub first_line : ℕ → Line
first_line n = line (codes "first") (n ∷ [])

abbrev pub epoch_line : ℕ → Line
epoch_line n = line (codes "epoch") (n ∷ [])

abbrev pub leak_line : ℕ → Line
leak_line n = line (codes "leak") (n ∷ [])

pub title_place : IsPlace [] title_line IsAnything IsAnything
title_place =
    let is : IsHeader (begun_with 13 (64 ∷ []) 0) = begun_is 13 (64 ∷ []) 0 (omega arith, omega arith) one_rate
    (omega arith) in
    record {
      opened = (title_line tt, (trace_with (begun_with 13 (64 ∷ []) 0), header_trace _ is, _, refl));
      form_only = λ bad begins. (tt, tt, sym (ap (λ ls. get_or ls 0 []) begins.3));
      form_any = λ said any. (trace_with (begun_with 13 (64 ∷ []) 0), trace_is_form _ (header_trace _ is), _, refl);
      range_only = λ bad begins. (tt, tt, sym (ap (λ ls. get_or ls 0 []) begins.3));
    }

abbrev pub title : Line
title = title_line tt

pub levels_place : IsPlace (title ∷ []) levels_line IsShort (IsFromTo 1 20)
levels_place =
    let is : IsHeader (begun_with 13 (64 ∷ []) 0) = begun_is 13 (64 ∷ []) 0 (omega arith, omega arith) one_rate
    (omega arith) in
    record {
      opened = (levels_line 13, (trace_with (begun_with 13 (64 ∷ []) 0), header_trace _ is, _, refl));
      form_only = λ bad begins.
          (begins.0.header.levels, begins.1.levels, sym (ap (λ ls. get_or ls 1 []) begins.3));
      form_any = λ said short. (
        trace_with (begun_with said (64 ∷ []) 0),
        form_with said (64 ∷ []) 0 268435456 0 short (rates_are_numbers (64 ∷ []) one_rate) (omega arith)
            (omega arith) (omega arith),
        _,
        refl,
      );
      range_only = λ bad begins.
          (begins.0.header.levels, begins.1.header.levels, sym (ap (λ ls. get_or ls 1 []) begins.3));
    }

pub rates_place : (levels : ℕ) → IsFromTo 1 20 levels
    → IsPlace (title ∷ levels_line levels ∷ []) (line (codes "rates")) AreNumbers AreAllRates
rates_place levels l =
    let is : IsHeader (begun_with levels (64 ∷ []) 0) = begun_is levels (64 ∷ []) 0 l one_rate (omega arith) in
    record {
      opened = (
        line (codes "rates") (64 ∷ []),
        (trace_with (begun_with levels (64 ∷ []) 0), header_trace _ is, _, refl),
      );
      form_only = λ bad begins. (
        begins.0.header.rates,
        record { some = begins.1.some; short = begins.1.rates },
        sym (ap (λ ls. get_or ls 2 []) begins.3),
      );
      form_any = λ said are. (
        trace_with (begun_with levels said 0),
        form_with levels said 0 268435456 0 (omega (arith, l)) are (omega arith) (omega arith) (omega arith),
        _,
        refl,
      );
      range_only = λ bad begins.
          (begins.0.header.rates, begins.1.header.rates, sym (ap (λ ls. get_or ls 2 []) begins.3));
    }

-- rates are told by their line
same_rates : (rates others : List ℕ) → AreAllRates rates → AreAllRates others
    → line (codes "rates") rates ≡ line (codes "rates") others → rates ≡ others
same_rates rates others are also same =
    line_injective (codes "rates") rates others (rates_short rates are) (rates_short others also) same

same_levels : (levels others : ℕ) → IsFromTo 1 20 levels → IsFromTo 1 20 others
    → levels_line levels ≡ levels_line others → levels ≡ others
same_levels levels others is also same =
    one_injective (codes "levels") levels others (omega (arith, is)) (omega (arith, also)) same

pub first_place : (levels : ℕ) (rates : List ℕ) (count : ℕ) → IsFromTo 1 20 levels → AreAllRates rates
    → count ≡ length rates
    → IsPlace (title ∷ levels_line levels ∷ line (codes "rates") rates ∷ []) first_line IsShort (IsFromTo 0 (count - 1))
first_place levels rates count l r counted =
    let some : 0 < length rates = some_rates rates r in
    let is : IsHeader (begun_with levels rates 0) = begun_is levels rates 0 l r some in
    record {
      opened = (first_line 0, (trace_with (begun_with levels rates 0), header_trace _ is, _, refl));
      form_only = λ bad begins.
          (begins.0.header.first, begins.1.first, sym (ap (λ ls. get_or ls 3 []) begins.3));
      form_any = λ said short. (
        trace_with (begun_with levels rates said),
        form_with levels rates said 268435456 0 (omega (arith, l)) (rates_are_numbers rates r) short (omega arith)
            (omega arith),
        _,
        refl,
      );
      range_only = λ bad begins.
          (let same : begins.0.header.rates ≡ rates = same_rates begins.0.header.rates rates begins.1.header.rates r
          (ap (λ ls. get_or ls 2 []) begins.3) in (
            begins.0.header.first,
            (omega arith, omega (arith, begins.1.header.first, ap length same, counted, some)),
            sym (ap (λ ls. get_or ls 3 []) begins.3),
          ));
    }

pub epoch_place : (levels : ℕ) (rates : List ℕ) (first least : ℕ) → IsFromTo 1 20 levels → AreAllRates rates
    → first < length rates → least ≡ olat_of levels + greatest_rate rates (length rates)
    → IsPlace (title ∷ levels_line levels ∷ line (codes "rates") rates ∷ first_line first ∷ []) epoch_line IsShort
    (IsFromTo least 268435456)
epoch_place levels rates first least l r f from =
    let is : IsHeader (begun_with levels rates first) = begun_is levels rates first l r f in
    let few : length rates ≤ 16 = (power_few (length rates) r.power).1 in
    record {
      opened = (epoch_line 268435456, (trace_with (begun_with levels rates first), header_trace _ is, _, refl));
      form_only = λ bad begins.
          (begins.0.header.epoch, begins.1.epoch, sym (ap (λ ls. get_or ls 4 []) begins.3));
      form_any = λ said short. (
        trace_with (header_with levels rates first said 0),
        form_with levels rates first said 0 (omega (arith, l)) (rates_are_numbers rates r) (omega (arith, f, few)) short
            (omega arith),
        _,
        refl,
      );
      range_only = λ bad begins.
          (let same : begins.0.header.rates ≡ rates = same_rates begins.0.header.rates rates begins.1.header.rates r
          (ap (λ ls. get_or ls 2 []) begins.3) in
          let also : begins.0.header.levels ≡ levels = same_levels begins.0.header.levels levels
          begins.1.header.levels l (ap (λ ls. get_or ls 1 []) begins.3) in (
            begins.0.header.epoch,
            (
              omega (arith, begins.1.header.epoch, also, from, ap (λ rs. greatest_rate rs (length rs)) same),
              omega (arith, begins.1.header.epoch),
            ),
            sym (ap (λ ls. get_or ls 4 []) begins.3),
          ));
    }

pub leak_place : (levels : ℕ) (rates : List ℕ) (first epoch : ℕ) → IsFromTo 1 20 levels → AreAllRates rates
    → first < length rates → IsFromTo (olat_of levels + greatest_rate rates (length rates)) 268435456 epoch
    → IsPlace (title ∷ levels_line levels ∷ line (codes "rates") rates ∷ first_line first ∷ epoch_line epoch ∷ [])
    leak_line IsShort (IsFromTo 0 60)
leak_place levels rates first epoch l r f e =
    let few : length rates ≤ 16 = (power_few (length rates) r.power).1 in
    record {
      opened = (
        leak_line 0,
        (
          trace_with (header_with levels rates first epoch 0),
          header_trace _ (header_is levels rates first epoch 0 l r f e (omega arith)),
          _,
          refl,
        ),
      );
      form_only = λ bad begins.
          (begins.0.header.leak, begins.1.leak, sym (ap (λ ls. get_or ls 5 []) begins.3));
      form_any = λ said short. (
        trace_with (header_with levels rates first epoch said),
        form_with levels rates first epoch said (omega (arith, l)) (rates_are_numbers rates r)
            (omega (arith, f, few)) (omega (arith, e)) short,
        _,
        refl,
      );
      range_only = λ bad begins.
          (begins.0.header.leak, (omega arith, begins.1.header.leak), sym (ap (λ ls. get_or ls 5 []) begins.3));
    }

-- ---- behind the header

-- the line after these is an access of the trace or its end
item_at : (P : Seen → Type 0) (xs acc : List Seen) (e : ℕ) (bad : Line) (more : List Line) → AllByRecursion P xs
    → map access_line xs ++ end_line e ∷ [] ≡ (map access_line acc ++ bad ∷ []) ++ more
    → ((seen : Seen) × P seen × (bad ≡ access_line seen)) ⊎ (bad ≡ end_line e)
item_at P [] [] e bad more all same = inr (sym (ap (λ ls. get_or ls 0 []) same))
item_at P [] (a ∷ acc) e bad more all same =
    let n : 101 ≡ 97 = ap (λ (ls : List Line). get_or (get_or ls 0 []) 0 0) same in absurd (omega (arith, n))
item_at P (x ∷ xs) [] e bad more all same = inl (x, all.0, sym (ap (λ ls. get_or ls 0 []) same))
item_at P (x ∷ xs) (a ∷ acc) e bad more all same =
    item_at P xs acc e bad more all.1 (ap (λ (ls : List Line). drop 1 ls) same)

with_access : (acc : List Seen) (seen : Seen) (e : ℕ)
    → map access_line (acc ++ seen ∷ []) ++ end_line e ∷ []
    ≡ (map access_line acc ++ access_line seen ∷ []) ++ end_line e ∷ []
with_access [] seen e = refl
with_access (x ∷ acc) seen e = ap (λ (ls : List Line). access_line x ∷ ls) (with_access acc seen e)

abbrev pub behind_header : Public → List Seen → List Line
behind_header h acc = header_lines h ++ map access_line acc

abbrev pub trace_of_items : Public → List Seen → ℕ → TraceLists
trace_of_items h acc e = record { header = h; accesses = acc; end = e }

pub All-push : (P : Seen → Type 0) (acc : List Seen) (seen : Seen) → All P acc → P seen → All P (acc ++ seen ∷ [])
All-push P acc seen all one = All-append P acc (seen ∷ []) all (All-from_recursion P (seen ∷ []) (one, tt))

pub items_place : (h : Public) (acc : List Seen) → IsHeader h → All (IsSeen h.levels) acc
    → IsPlace (behind_header h acc) item_line IsShortItem (IsItem h.levels)
items_place h acc is all =
    let whole : IsTrace (trace_of_items h acc 0) = record { header = is; accesses = all; end = omega arith } in
    let shorts : IsForm (trace_of_items h acc 0) = trace_is_form (trace_of_items h acc 0) whole in
    record {
      opened = (end_line 0, (trace_of_items h acc 0, whole, [], sym (append-nil (lines_of (trace_of_items h acc 0)))));
      form_only = λ bad begins. only_form begins.0 bad begins.1 begins.2 begins.3;
      form_any = any shorts;
      range_only = λ bad begins. only_range begins.0 bad begins.1 begins.2 begins.3;
    }
  where
    only_form : (t : TraceLists) (bad : Line) → IsForm t → (more : List Line)
        → lines_of t ≡ (behind_header h acc ++ bad ∷ []) ++ more
        → (said : Item) × IsShortItem said × (bad ≡ item_line said)
    only_form t bad short more same =
        elim (item_at AreShort t.accesses acc t.end bad more (recursion_from_All AreShort t.accesses short.accesses)
        (ap (λ (ls : List Line). drop 6 ls) same)) [
          | inl access ↦ (Access access.0, access.1, access.2)
          | inr end ↦ (End t.end, short.end, end)
        ]

    only_range : (t : TraceLists) (bad : Line) → IsTrace t → (more : List Line)
        → lines_of t ≡ (behind_header h acc ++ bad ∷ []) ++ more
        → (said : Item) × IsItem h.levels said × (bad ≡ item_line said)
    only_range t bad ranges more same =
        let levels : t.header.levels ≡ h.levels = same_levels t.header.levels h.levels ranges.header.levels is.levels
        (ap (λ ls. get_or ls 1 []) same) in
        elim (item_at (IsSeen t.header.levels) t.accesses acc t.end bad more
        (recursion_from_All (IsSeen t.header.levels) t.accesses ranges.accesses)
        (ap (λ (ls : List Line). drop 6 ls) same)) [
          | inl access ↦ (Access access.0, subst (λ l. IsSeen l access.0) levels access.1, access.2)
          | inr end ↦ (End t.end, ranges.end, end)
        ]

    any : IsForm (trace_of_items h acc 0) → (said : Item) → IsShortItem said
        → Begins IsForm (behind_header h acc ++ item_line said ∷ [])
    any shorts (Access seen) short = (
      trace_of_items h (acc ++ seen ∷ []) 0,
      record {
        levels = shorts.levels;
        some = shorts.some;
        rates = shorts.rates;
        first = shorts.first;
        epoch = shorts.epoch;
        leak = shorts.leak;
        accesses = All-push AreShort acc seen shorts.accesses short;
        end = shorts.end;
      },
      end_line 0 ∷ [],
      ap (λ (ls : List Line). header_lines h ++ ls) (with_access acc seen 0),
    )
    any shorts (End e) short = (
      trace_of_items h acc e,
      record {
        levels = shorts.levels;
        some = shorts.some;
        rates = shorts.rates;
        first = shorts.first;
        epoch = shorts.epoch;
        leak = shorts.leak;
        accesses = shorts.accesses;
        end = short;
      },
      [],
      sym (append-nil (lines_of (trace_of_items h acc e))),
    )

-- a whole trace
pub ended : (h : Public) (acc : List Seen) (e : ℕ) → IsHeader h → All (IsSeen h.levels) acc → e ≤ 536870912
    → IsTrace (trace_of_items h acc e)
ended h acc e is all within = record { header = is; accesses = all; end = within }
