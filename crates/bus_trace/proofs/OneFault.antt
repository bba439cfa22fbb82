-- A text has one first fault at most.
use Rattle.std.proofs.Common.{◌≡◌, ℕ, ◌+◌, ◌⊎◌, inl, inr, List, [], ◌∷◌, ◌++◌, length, refl, sym, ◌∙◌, ap, subst}
use Rattle.std.proofs.Common.{append_assoc, append-nil}
use Rattle.std.proofs.lemmas.List.{append_cancel_left}
use Rattle.bus_trace.specs.declared.fault.TraceKind.{TraceKind}
use Rattle.bus_trace.specs.declared.fault.TraceKind.TheVariants.{Form, Range, Cut, Extra}
use Rattle.bus_trace.specs.Trace.{Line, text_of}
use Rattle.bus_trace.specs.Grammar.{IsTrace, IsForm}
use Rattle.bus_trace.specs.Reader.{Begins, IsOpen, IsWhole, FaultAfter, IsFirstFault, form, range, cut, extra}
use Rattle.bus_trace.proofs.TextLaws.{text_of_none, text_of_join, text_of_one}
use Rattle.bus_trace.proofs.PlaceLaws.{trace_is_form}
use Rattle.bus_trace.proofs.OneTrace.{NoFeed, AreLines, begun_form, begun_lines, cut_line, feed_free, lines-split}
use Rattle.bus_trace.proofs.OneTrace.{lines_no_feed, lines_tell, open_lines, open_not_whole, text_then}

-- The text's first lines are these, which begin a trace, and they can't go on as it does.
record StopsAt (good : List Line) (text : List ℕ) : Type 0 where
  rest : List ℕ
  parts : text ≡ text_of good ++ rest
  lines : AreLines good
  trace : Begins IsTrace good
  no_more : (m : Line) (more : List Line) (r : List ℕ) → rest ≡ text_of (m ∷ more) ++ r → AreLines (m ∷ more)
      → Begins IsTrace (good ++ m ∷ more) → ⊥

first_of : (good more : List Line) (m : Line) → Begins IsTrace (good ++ m ∷ more) → Begins IsTrace (good ++ m ∷ [])
first_of good more m begins = (
  begins.0,
  begins.1,
  more ++ begins.2,
  begins.3 ∙ ap (λ ls. ls ++ begins.2) (sym (append_assoc good (m ∷ []) more))
      ∙ append_assoc (good ++ m ∷ []) more begins.2,
)

open_begins : (good : List Line) → IsOpen good → Begins IsTrace good
open_begins good opened =
    let begins = opened.1 in
    (begins.0, begins.1, opened.0 ∷ begins.2, begins.3 ∙ append_assoc good (opened.0 ∷ []) begins.2)

whole_begins : (good : List Line) → IsWhole good → Begins IsTrace good
whole_begins good whole = (whole.0, whole.1, [], whole.2 ∙ sym (append-nil good))

line_parts : (text rest : List ℕ) (good : List Line) (bad : Line) → text ≡ text_of (good ++ bad ∷ []) ++ rest
    → text ≡ text_of good ++ (bad ++ 10 ∷ rest)
line_parts text rest good bad parts =
    parts ∙ ap (λ t. t ++ rest) (text_of_join good (bad ∷ []) ∙ ap (λ t. text_of good ++ t) (text_of_one bad))
    ∙ append_assoc (text_of good) (bad ++ 10 ∷ []) rest ∙ ap (λ t. text_of good ++ t) (append_assoc bad (10 ∷ []) rest)

-- at a line that no trace has there
stops_at_line : (good : List Line) (text rest : List ℕ) (bad : Line) → text ≡ text_of (good ++ bad ∷ []) ++ rest
    → NoFeed bad → IsOpen good → ¬ Begins IsTrace (good ++ bad ∷ []) → StopsAt good text
stops_at_line good text rest bad parts free opened not = record {
  rest = bad ++ 10 ∷ rest;
  parts = line_parts text rest good bad parts;
  lines = open_lines good opened;
  trace = open_begins good opened;
  no_more = λ m more r same are begins.
      (let one = cut_line bad m rest (text_of more ++ r) free are.0 (same ∙ text_then m more r) in
      not (subst (λ l. Begins IsTrace (good ++ l ∷ [])) (sym one.0) (first_of good more m begins)));
}

feed_of : (m : Line) (rest : List ℕ) → NoFeed (m ++ 10 ∷ rest) → ⊥
feed_of [] rest free = free.0 refl
feed_of (x ∷ l) rest free = feed_of l rest free.1

last_free : (good : List Line) (bad : Line) → AreLines (good ++ bad ∷ []) → NoFeed bad
last_free good bad all = (lines-split good (bad ∷ []) all).1.0

stops : (good : List Line) (text : List ℕ) (kind : TraceKind) → FaultAfter good text kind → StopsAt good text
stops good text Form (form bad rest parts unended opened not) =
    stops_at_line good text rest bad parts (feed_free bad unended) opened
    (λ begins. not (begun_form (good ++ bad ∷ []) begins))
stops good text Range (range bad rest parts begins opened not) =
    stops_at_line good text rest bad parts (last_free good bad (begun_lines (good ++ bad ∷ []) begins)) opened not
stops good text Cut (cut rest parts unended opened) = record {
  rest = rest;
  parts = parts;
  lines = open_lines good opened;
  trace = open_begins good opened;
  no_more = λ m more r same are begins.
      feed_of m (text_of more ++ r) (subst NoFeed (same ∙ text_then m more r) (feed_free rest unended));
}
stops good text Extra (extra rest parts some whole) = record {
  rest = rest;
  parts = parts;
  lines = subst AreLines whole.2 (lines_no_feed whole.0 (trace_is_form whole.0 whole.1));
  trace = whole_begins good whole;
  no_more = λ m more r same are begins.
      (let none = (lines_tell begins.0 whole.0 (m ∷ more ++ begins.2) (trace_is_form begins.0 begins.1)
      (trace_is_form whole.0 whole.1)
      (begins.3 ∙ append_assoc good (m ∷ more) begins.2 ∙ ap (λ ls. ls ++ (m ∷ more ++ begins.2)) (sym whole.2))).1 in
      let no : ⊥ = cc in no);
}

-- of two lists of lines that stand first in a text, one goes on from the other
meet : (good other : List Line) (r s : List ℕ) → AreLines good → AreLines other
    → text_of good ++ r ≡ text_of other ++ s
    → ((more : List Line) × (other ≡ good ++ more) × (r ≡ text_of more ++ s) × AreLines more)
    ⊎ ((more : List Line) × (good ≡ other ++ more) × (s ≡ text_of more ++ r) × AreLines more)
meet [] other r s a b same = inl (other, refl, ap (λ t. t ++ r) (sym text_of_none) ∙ same, b)
meet (g ∷ good) [] r s a b same = inr (g ∷ good, refl, ap (λ t. t ++ s) (sym text_of_none) ∙ sym same, a)
meet (g ∷ good) (o ∷ other) r s a b same =
    let one = cut_line g o (text_of good ++ r) (text_of other ++ s) a.0 b.0
    (sym (text_then g good r) ∙ same ∙ text_then o other s) in
    elim (meet good other r s a.1 b.1 one.1) [
      | inl more ↦ inl (more.0, ap (λ h. h ∷ other) (sym one.0) ∙ ap (λ t. g ∷ t) more.1, more.2, more.3)
      | inr more ↦ inr (more.0, ap (λ h. h ∷ good) one.0 ∙ ap (λ t. o ∷ t) more.1, more.2, more.3)
    ]

not_further : (good other more : List Line) (text s : List ℕ) (one : StopsAt good text) → Begins IsTrace other
    → other ≡ good ++ more → one.rest ≡ text_of more ++ s → AreLines more → good ≡ other
not_further good other [] text s one trace same left are = sym (append-nil good) ∙ sym same
not_further good other (m ∷ more) text s one trace same left are =
    absurd (one.no_more m more s left are (subst (Begins IsTrace) same trace))

same_lines : (good other : List Line) (text : List ℕ) → StopsAt good text → StopsAt other text → good ≡ other
same_lines good other text one two =
    elim (meet good other one.rest two.rest one.lines two.lines (sym one.parts ∙ two.parts)) [
      | inl more ↦ not_further good other more.0 text two.rest one two.trace more.1 more.2 more.3
      | inr more ↦ sym (not_further other good more.0 text one.rest two one.trace more.1 more.2 more.3)
    ]

-- ---- the kinds

open_or_whole : (good : List Line) → IsOpen good → IsWhole good → ⊥
open_or_whole good opened whole = open_not_whole good whole.0 (trace_is_form whole.0 whole.1) opened whole.2

line_or_cut : (good : List Line) (text r s : List ℕ) (bad : Line) → text ≡ text_of (good ++ bad ∷ []) ++ r
    → text ≡ text_of good ++ s → NoFeed s → ⊥
line_or_cut good text r s bad parts others free =
    feed_of bad r (subst NoFeed (append_cancel_left (text_of good) s (bad ++ 10 ∷ r)
    (sym others ∙ line_parts text r good bad parts)) free)

form_or_range : (good : List Line) (text r s : List ℕ) (bad other : Line) → text ≡ text_of (good ++ bad ∷ []) ++ r
    → text ≡ text_of (good ++ other ∷ []) ++ s → NoFeed bad → NoFeed other → ¬ Begins IsForm (good ++ bad ∷ [])
    → Begins IsForm (good ++ other ∷ []) → ⊥
form_or_range good text r s bad other parts others a b not begins =
    let one = cut_line bad other r s a b (append_cancel_left (text_of good) (bad ++ 10 ∷ r) (other ++ 10 ∷ s)
    (sym (line_parts text r good bad parts) ∙ line_parts text s good other others)) in
    not (subst (λ l. Begins IsForm (good ++ l ∷ [])) (sym one.0) begins)

same_kind : (good : List Line) (text : List ℕ) (kind other : TraceKind) → FaultAfter good text kind
    → FaultAfter good text other → kind ≡ other
same_kind good text Form Form one two = refl
same_kind good text Range Range one two = refl
same_kind good text Cut Cut one two = refl
same_kind good text Extra Extra one two = refl
same_kind good text Form Range (form b r p u o n) (range b' r' p' g' o' n') =
    absurd (form_or_range good text r r' b b' p p' (feed_free b u)
    (last_free good b' (begun_lines (good ++ b' ∷ []) g'))
    n g')
same_kind good text Range Form (range b' r' p' g' o' n') (form b r p u o n) =
    absurd (form_or_range good text r r' b b' p p' (feed_free b u)
    (last_free good b' (begun_lines (good ++ b' ∷ []) g'))
    n g')
same_kind good text Form Cut (form b r p u o n) (cut s q v o') =
    absurd (line_or_cut good text r s b p q (feed_free s v))
same_kind good text Cut Form (cut s q v o') (form b r p u o n) =
    absurd (line_or_cut good text r s b p q (feed_free s v))
same_kind good text Range Cut (range b r p g o n) (cut s q v o') =
    absurd (line_or_cut good text r s b p q (feed_free s v))
same_kind good text Cut Range (cut s q v o') (range b r p g o n) =
    absurd (line_or_cut good text r s b p q (feed_free s v))
same_kind good text Form Extra (form b r p u o n) (extra s q v w) = absurd (open_or_whole good o w)
same_kind good text Extra Form (extra s q v w) (form b r p u o n) = absurd (open_or_whole good o w)
same_kind good text Range Extra (range b r p g o n) (extra s q v w) = absurd (open_or_whole good o w)
same_kind good text Extra Range (extra s q v w) (range b r p g o n) = absurd (open_or_whole good o w)
same_kind good text Cut Extra (cut r p u o) (extra s q v w) = absurd (open_or_whole good o w)
same_kind good text Extra Cut (extra s q v w) (cut r p u o) = absurd (open_or_whole good o w)

pub one_fault : (text : List ℕ) (number other : ℕ) (kind also : TraceKind) → IsFirstFault text number kind
    → IsFirstFault text other also → (number ≡ other) × (kind ≡ also)
one_fault text number other kind also one two =
    let same = same_lines one.0 two.0 text (stops one.0 text kind one.1) (stops two.0 text also two.1) in (
      one.2 ∙ ap (λ ls. length ls + 1) same ∙ sym two.2,
      same_kind two.0 text kind also (subst (λ ls. FaultAfter ls text kind) same one.1) two.1,
    )
