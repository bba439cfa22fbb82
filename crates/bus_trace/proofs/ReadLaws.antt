-- How far a text is read.
use Rattle.std.proofs.Common.{◌≡◌, ℕ, ◌+◌, ◌-◌, ◌≤◌, ◌<◌, List, [], ◌∷◌}
use Rattle.std.proofs.Common.{◌++◌, length, map, All, refl, sym, ◌∙◌, ap, arith}
use Rattle.std.proofs.Common.{subst, append-nil, length-append}
use Rattle.std.specs.Prelude.{codes}
use Rattle.std.proofs.lemmas.List.{length-map, map-append}
use Rattle.bus_trace.specs.declared.lines.Item.{Item}
use Rattle.asc_base.specs.Settings.{IsFromTo, greatest_rate}
use Rattle.asc_base.specs.TreeShape.{olat_of}
use Rattle.bus_schedule.specs.Timetable.{Public}
use Rattle.bus_trace.specs.declared.fault.TraceFault.{TraceFault}
use Rattle.bus_trace.specs.declared.fault.TraceFault.TheVariants.{Bad, NoMemory}
use Rattle.bus_trace.specs.declared.fault.TraceKind.{TraceKind}
use Rattle.bus_trace.specs.declared.trace.Trace.{Trace}
use Rattle.bus_trace.proofs.OneTrace.{no_fault, one_trace}
use Rattle.bus_trace.proofs.OneFault.{one_fault}
use Rattle.std.proofs.Common.{◌⊎◌, inl, inr, Result, Ok, Err}
use Rattle.std.specs.Prelude.{MatchResult}
use Rattle.bus_trace.specs.Trace.{TraceLists, lists_of}
use Rattle.bus_trace.specs.declared.fault.TraceKind.TheVariants.{Extra}
use Rattle.bus_trace.specs.declared.lines.Item.TheVariants.{Access, End}
use Rattle.bus_trace.specs.declared.trace.Seen.{Seen}
use Rattle.bus_trace.specs.Trace.{Line, line, access_line, end_line, header_lines, lines_of, text_of}
use Rattle.bus_trace.specs.Grammar.{IsHeader, IsSeen, IsShort, TraceText}
use Rattle.bus_trace.specs.Reader.{IsFirstFault, extra}
use Rattle.bus_trace.specs.Reading.{AreAllRates, AreNumbers, IsAnything, IsFaultOf, IsItem, IsShortItem, RefusesLine}
use Rattle.bus_trace.specs.Reading.{TakesLine, item_line, title_line}
use Rattle.bus_trace.proofs.TextLaws.{text_of_none}
use Rattle.bus_trace.proofs.RateLaws.{power_few}
use Rattle.bus_trace.proofs.PlaceLaws.{All-push, behind_header, ended, epoch_line, epoch_place, first_fault}
use Rattle.bus_trace.proofs.PlaceLaws.{first_line, first_place, header_is, header_with, items_place, leak_line}
use Rattle.bus_trace.proofs.PlaceLaws.{leak_place, levels_line, levels_place, rates_place, title, title_place}
use Rattle.bus_trace.proofs.PlaceLaws.{took_line, trace_of_items}

-- ---- the header, line by line

pub record AfterTitle (text rest : List ℕ) : Type 0 where
  pub parts : text ≡ text_of (title ∷ []) ++ rest

pub record AfterLevels (text : List ℕ) (levels : ℕ) (rest : List ℕ) : Type 0 where
  pub levels_are : IsFromTo 1 20 levels
  pub parts : text ≡ text_of (title ∷ levels_line levels ∷ []) ++ rest

pub record AfterRates (text : List ℕ) (levels : ℕ) (rates : List ℕ) (rest : List ℕ) : Type 0 where
  pub levels_are : IsFromTo 1 20 levels
  pub rates_are : AreAllRates rates
  pub parts : text ≡ text_of (title ∷ levels_line levels ∷ line (codes "rates") rates ∷ []) ++ rest

pub record AfterFirst (text : List ℕ) (levels : ℕ) (rates : List ℕ) (first : ℕ) (rest : List ℕ) : Type 0 where
  pub levels_are : IsFromTo 1 20 levels
  pub rates_are : AreAllRates rates
  pub first_is : first < length rates
  pub parts : text ≡ text_of (title ∷ levels_line levels ∷ line (codes "rates") rates ∷ first_line first ∷ []) ++ rest

pub record AfterEpoch (text : List ℕ) (levels : ℕ) (rates : List ℕ) (first epoch : ℕ) (rest : List ℕ) : Type 0 where
  pub levels_are : IsFromTo 1 20 levels
  pub rates_are : AreAllRates rates
  pub first_is : first < length rates
  pub epoch_is : IsFromTo (olat_of levels + greatest_rate rates (length rates)) 268435456 epoch
  pub parts : text
      ≡ text_of (title ∷ levels_line levels ∷ line (codes "rates") rates ∷ first_line first ∷ epoch_line epoch ∷ [])
      ++ rest

nothing_read : (text : List ℕ) → text ≡ text_of [] ++ text
nothing_read text = ap (λ t. t ++ text) (sym text_of_none)

pub title_read : (text rest : List ℕ) → TakesLine title_line IsAnything text tt rest → AfterTitle text rest
title_read text rest takes =
    record { parts = took_line title_line IsAnything text text rest [] tt (nothing_read text) takes }

pub levels_read : (text rest after : List ℕ) (levels : ℕ) → AfterTitle text rest
    → TakesLine levels_line (IsFromTo 1 20) rest levels after → AfterLevels text levels after
levels_read text rest after levels read takes = record {
  levels_are = takes.says.ranges;
  parts = took_line levels_line (IsFromTo 1 20) text rest after (title ∷ []) levels read.parts takes;
}

pub rates_read : (text rest after : List ℕ) (levels : ℕ) (rates : List ℕ) → AfterLevels text levels rest
    → TakesLine (line (codes "rates")) AreAllRates rest rates after → AfterRates text levels rates after
rates_read text rest after levels rates read takes = record {
  levels_are = read.levels_are;
  rates_are = takes.says.ranges;
  parts = took_line (line (codes "rates")) AreAllRates text rest after
      (title ∷ levels_line levels ∷ []) rates read.parts
      takes;
}

pub first_read : (text rest after : List ℕ) (levels : ℕ) (rates : List ℕ) (count first : ℕ)
    → AfterRates text levels rates rest → count ≡ length rates
    → TakesLine first_line (IsFromTo 0 (count - 1)) rest first after → AfterFirst text levels rates first after
first_read text rest after levels rates count first read counted takes = record {
  levels_are = read.levels_are;
  rates_are = read.rates_are;
  first_is = omega (arith, takes.says.ranges, counted, (power_few (length rates) read.rates_are.power).0);
  parts = took_line first_line (IsFromTo 0 (count - 1)) text rest after
      (title ∷ levels_line levels ∷ line (codes "rates") rates ∷ []) first read.parts takes;
}

pub epoch_read : (text rest after : List ℕ) (levels : ℕ) (rates : List ℕ) (first least epoch : ℕ)
    → AfterFirst text levels rates first rest → least ≡ olat_of levels + greatest_rate rates (length rates)
    → TakesLine epoch_line (IsFromTo least 268435456) rest epoch after → AfterEpoch text levels rates first epoch after
epoch_read text rest after levels rates first least epoch read from takes = record {
  levels_are = read.levels_are;
  rates_are = read.rates_are;
  first_is = read.first_is;
  epoch_is = subst (λ l. IsFromTo l 268435456 epoch) from takes.says.ranges;
  parts = took_line epoch_line (IsFromTo least 268435456) text rest after
      (title ∷ levels_line levels ∷ line (codes "rates") rates ∷ first_line first ∷ []) epoch read.parts takes;
}

pub header_read : (text rest after : List ℕ) (levels : ℕ) (rates : List ℕ) (first epoch leak : ℕ)
    → AfterEpoch text levels rates first epoch rest → TakesLine leak_line (IsFromTo 0 60) rest leak after
    → (text ≡ text_of (header_lines (header_with levels rates first epoch leak)) ++ after)
    × IsHeader (header_with levels rates first epoch leak)
header_read text rest after levels rates first epoch leak read takes = (
  took_line leak_line (IsFromTo 0 60) text rest after
      (title ∷ levels_line levels ∷ line (codes "rates") rates ∷ first_line first ∷ epoch_line epoch ∷
      []) leak read.parts
      takes,
  header_is levels rates first epoch leak read.levels_are read.rates_are read.first_is read.epoch_is
      takes.says.ranges.1,
)

pub title_fault : (text : List ℕ) (fault : TraceFault) → RefusesLine title_line IsAnything IsAnything 1 text fault
    → IsFaultOf text fault
title_fault text fault refused =
    first_fault title_line IsAnything IsAnything text text [] 1 fault title_place (nothing_read text) refl refused

pub levels_fault : (text rest : List ℕ) (fault : TraceFault) → AfterTitle text rest
    → RefusesLine levels_line IsShort (IsFromTo 1 20) 2 rest fault → IsFaultOf text fault
levels_fault text rest fault read refused =
    first_fault levels_line IsShort (IsFromTo 1 20) text rest (title ∷ []) 2 fault levels_place read.parts refl refused

pub rates_fault : (text rest : List ℕ) (levels : ℕ) (fault : TraceFault) → AfterLevels text levels rest
    → RefusesLine (line (codes "rates")) AreNumbers AreAllRates 3 rest fault → IsFaultOf text fault
rates_fault text rest levels fault read refused =
    first_fault (line (codes "rates")) AreNumbers AreAllRates text rest (title ∷ levels_line levels ∷ []) 3 fault
    (rates_place levels read.levels_are) read.parts refl refused

pub first_fault_at : (text rest : List ℕ) (levels : ℕ) (rates : List ℕ) (count : ℕ) (fault : TraceFault)
    → AfterRates text levels rates rest → count ≡ length rates
    → RefusesLine first_line IsShort (IsFromTo 0 (count - 1)) 4 rest fault → IsFaultOf text fault
first_fault_at text rest levels rates count fault read counted refused =
    first_fault first_line IsShort (IsFromTo 0 (count - 1)) text rest
    (title ∷ levels_line levels ∷ line (codes "rates") rates ∷ []) 4 fault
    (first_place levels rates count read.levels_are read.rates_are counted) read.parts refl refused

pub epoch_fault : (text rest : List ℕ) (levels : ℕ) (rates : List ℕ) (first least : ℕ) (fault : TraceFault)
    → AfterFirst text levels rates first rest → least ≡ olat_of levels + greatest_rate rates (length rates)
    → RefusesLine epoch_line IsShort (IsFromTo least 268435456) 5 rest fault → IsFaultOf text fault
epoch_fault text rest levels rates first least fault read from refused =
    first_fault epoch_line IsShort (IsFromTo least 268435456) text rest
    (title ∷ levels_line levels ∷ line (codes "rates") rates ∷ first_line first ∷ []) 5 fault
    (epoch_place levels rates first least read.levels_are read.rates_are read.first_is from) read.parts refl refused

pub leak_fault : (text rest : List ℕ) (levels : ℕ) (rates : List ℕ) (first epoch : ℕ) (fault : TraceFault)
    → AfterEpoch text levels rates first epoch rest
    → RefusesLine leak_line IsShort (IsFromTo 0 60) 6 rest fault → IsFaultOf text fault
leak_fault text rest levels rates first epoch fault read refused =
    first_fault leak_line IsShort (IsFromTo 0 60) text rest
    (title ∷ levels_line levels ∷ line (codes "rates") rates ∷ first_line first ∷ epoch_line epoch ∷ []) 6 fault
    (leak_place levels rates first epoch read.levels_are read.rates_are read.first_is read.epoch_is)
    read.parts refl refused

-- ---- behind the header

-- So many accesses were read behind the header, the next line has this number, and the rest is left.
pub record HasItems (h : Public) (text : List ℕ) (acc : List Seen) (number : ℕ) (rest : List ℕ) : Type 0 where
  pub ranges : All (IsSeen h.levels) acc
  pub counted : number ≡ 7 + length acc
  pub bounded : number + length rest ≤ 7 + length text
  pub parts : (whole : List ℕ) → whole ≡ text_of (header_lines h) ++ text
      → whole ≡ text_of (behind_header h acc) ++ rest

pub no_items : (h : Public) (text : List ℕ) → HasItems h text [] 7 text
no_items h text = record {
  ranges = λ k d small. absurd (omega (arith, small));
  counted = refl;
  bounded = omega arith;
  parts = λ whole is. is;
}

-- a line takes a byte at least
pub line_shrinks : (h : Public) (rest after : List ℕ) (item : Item)
    → TakesLine item_line (IsItem h.levels) rest item after → length after < length rest
line_shrinks h rest after item takes =
    omega (arith, ap length takes.begins.parts, length-append takes.line (10 ∷ after))

pub access_read : (h : Public) (text rest after : List ℕ) (acc more : List Seen) (number : ℕ) (seen : Seen)
    → HasItems h text acc number rest → TakesLine item_line (IsItem h.levels) rest (Access seen) after
    → more ≡ acc ++ seen ∷ [] → HasItems h text more (number + 1) after
access_read h text rest after acc more number seen has takes grown = record {
  ranges = subst (All (IsSeen h.levels)) (sym grown)
      (All-push (IsSeen h.levels) acc seen has.ranges takes.says.ranges);
  counted = omega (arith, has.counted, ap length grown, length-append acc (seen ∷ []));
  bounded = omega (arith, has.bounded, line_shrinks h rest after (Access seen) takes);
  parts = λ whole is.
      took_line item_line (IsItem h.levels) whole rest after (behind_header h acc) (Access seen)
      (has.parts whole is) takes
      ∙ ap (λ ls. text_of ls ++ after) (one_more acc seen ∙ ap (behind_header h) (sym grown));
}
  where
    one_more : (acc : List Seen) (seen : Seen)
        → behind_header h acc ++ access_line seen ∷ [] ≡ behind_header h (acc ++ seen ∷ [])
    one_more acc seen = ap (λ (ls : List Line). header_lines h ++ ls) (sym (map-append access_line acc (seen ∷ [])))

-- the lines behind a header, and what follows them
lines_counted : (h : Public) (acc : List Seen) → length (behind_header h acc) ≡ 6 + length acc
lines_counted h acc = omega (arith, length-map acc access_line)

pub item_fault : (h : Public) (text rest : List ℕ) (acc : List Seen) (number : ℕ) (fault : TraceFault) → IsHeader h
    → HasItems h text acc number rest → RefusesLine item_line IsShortItem (IsItem h.levels) number rest fault
    → (whole : List ℕ) → whole ≡ text_of (header_lines h) ++ text → IsFaultOf whole fault
item_fault h text rest acc number fault is has refused whole parts =
    first_fault item_line IsShortItem (IsItem h.levels) whole rest (behind_header h acc) number fault
    (items_place h acc is has.ranges) (has.parts whole parts) (omega (arith, has.counted, lines_counted h acc)) refused

end_parts : (h : Public) (text rest after : List ℕ) (acc : List Seen) (number end : ℕ) → HasItems h text acc number rest
    → TakesLine item_line (IsItem h.levels) rest (End end) after
    → (whole : List ℕ) → whole ≡ text_of (header_lines h) ++ text
    → whole ≡ text_of (lines_of (trace_of_items h acc end)) ++ after
end_parts h text rest after acc number end has takes whole parts =
    took_line item_line (IsItem h.levels) whole rest after (behind_header h acc) (End end) (has.parts whole parts) takes

pub end_read : (h : Public) (text rest after : List ℕ) (acc : List Seen) (number end : ℕ) → IsHeader h
    → HasItems h text acc number rest → TakesLine item_line (IsItem h.levels) rest (End end) after → after ≡ []
    → (whole : List ℕ) → whole ≡ text_of (header_lines h) ++ text → TraceText whole (trace_of_items h acc end)
end_read h text rest after acc number end is has takes none whole parts = record {
  ranges = ended h acc end is has.ranges takes.says.ranges;
  lines = end_parts h text rest after acc number end has takes whole parts
      ∙ ap (λ r. text_of (lines_of (trace_of_items h acc end)) ++ r) none
      ∙ append-nil (text_of (lines_of (trace_of_items h acc end)));
}

pub end_fault : (h : Public) (text rest after : List ℕ) (acc : List Seen) (number end : ℕ) → IsHeader h
    → HasItems h text acc number rest → TakesLine item_line (IsItem h.levels) rest (End end) after → (after ≡ [] → ⊥)
    → (whole : List ℕ) → whole ≡ text_of (header_lines h) ++ text → IsFirstFault whole (number + 1) Extra
end_fault h text rest after acc number end is has takes some whole parts = (
  lines_of (trace_of_items h acc end),
  extra after (end_parts h text rest after acc number end has takes whole parts) some
      (trace_of_items h acc end, ended h acc end is has.ranges takes.says.ranges, refl),
  omega (arith, has.counted, all_counted),
)
  where
    all_counted : length (lines_of (trace_of_items h acc end)) ≡ 7 + length acc
    all_counted = omega (arith, length-append (map access_line acc) (end_line end ∷ []), length-map acc access_line)

-- what was read, by the name that a match gives it
pub as_item : (h : Public) (rest after : List ℕ) (item named : Item) → item ≡ named
    → TakesLine item_line (IsItem h.levels) rest item after → TakesLine item_line (IsItem h.levels) rest named after
as_item h rest after item named same takes =
    subst (λ (x : Item). TakesLine item_line (IsItem h.levels) rest x after) same takes

-- ---- the answer, for a trace's text and for one with a fault

no_trace : (text : List ℕ) (line : ℕ) (kind : TraceKind) (t : TraceLists) → TraceText text t
    → IsFirstFault text line kind → ⊥
no_trace text line kind t is first = no_fault first.0 text kind t is first.1

pub found_trace : (text : List ℕ) (t : TraceLists) (r : Result Trace TraceFault) → TraceText text t
    → MatchResult r (λ trace. TraceText text (lists_of trace)) (IsFaultOf text)
    → MatchResult r (λ trace. lists_of trace ≡ t) (λ fault. fault ≡ NoMemory)
found_trace text t (Ok trace) is found = one_trace text (lists_of trace) t found is
found_trace text t (Err (Bad line kind)) is found = absurd (no_trace text line kind t is found)
found_trace text t (Err NoMemory) is found = refl

pub found_fault : (text : List ℕ) (line : ℕ) (kind : TraceKind) (r : Result Trace TraceFault)
    → IsFirstFault text line kind
    → MatchResult r (λ trace. TraceText text (lists_of trace)) (IsFaultOf text)
    → MatchResult r (λ trace. ⊥) (λ fault. (fault ≡ Bad line kind) ⊎ (fault ≡ NoMemory))
found_fault text line kind (Ok trace) first found = absurd (no_trace text line kind (lists_of trace) found first)
found_fault text line kind (Err (Bad at other)) first found =
    let same = one_fault text at line other kind found first in
    inl (ap (λ n. Bad n other) same.0 ∙ ap (λ k. Bad line k) same.1)
found_fault text line kind (Err NoMemory) first found = inr refl
