use Rattle.std.proofs.Common.{◌≡◌, List, [], ◌∷◌, ◌++◌, get_or, drop, refl, ap, ◌∙◌, sym}
use Rattle.std.proofs.Common.{arith, rules, append-nil, lit<}
use Rattle.std.specs.Prelude.{codes}
use Rattle.std.specs.Fmt.{decimal, digits}
use Rattle.std.proofs.lemmas.Fmt.{decimal_injective}
use Rattle.bus_trace.specs.Trace.{TraceLists, Line, lines_of, text_of}
use Rattle.bus_trace.specs.Grammar.{IsTrace, IsForm}
use Rattle.bus_trace.specs.Reader.{form, range, cut, extra}
use Rattle.bus_trace.specs.Rows.{default_public, idle_trace}
use Rattle.bus_trace.proofs.laws.trace_rows.Goals as goal

idle : IsTrace idle_trace
idle = search rules

-- the same with a level too many
abbrev high : TraceLists
high = record { header = record default_public { levels = 21 }; accesses = []; end = 12 }

high_form : IsForm high
high_form = search (rules, arith)

pub returns-clause-header : goal.returns-clause-header
unfolding digits
returns-clause-header c = refl

pub returns-clause-lines : goal.returns-clause-lines
unfolding digits
returns-clause-lines c = refl

pub returns-clause-cut : goal.returns-clause-cut
unfolding digits text_of
returns-clause-cut c =
    ([], cut (codes "ascend trace 1") refl (search rules) (codes "ascend trace 1", (idle_trace, idle, _, refl)), refl)

other_first : (t : TraceLists) (more : List Line) → lines_of t ≡ codes "ascend trace 2" ∷ more → ⊥
other_first t more e = let n : 49 ≡ 50 = ap (λ (ls : List Line). get_or (get_or ls 0 []) 13 0) e in omega (arith, n)

pub returns-clause-form : goal.returns-clause-form
unfolding digits text_of
returns-clause-form c = (
  [],
  form (codes "ascend trace 2") [] refl (search rules) (codes "ascend trace 1", (idle_trace, idle, _, refl))
      (λ begins. other_first begins.0 begins.2 begins.3),
  refl,
)

levels_21 : (t : TraceLists) (more : List Line) → IsTrace t
    → lines_of t ≡ codes "ascend trace 1" ∷ codes "levels 21" ∷ more → ⊥
unfolding digits
levels_21 t more is e =
    let text : decimal t.header.levels ++ [] ≡ codes "21" = ap (λ (ls : List Line). drop 7 (get_or ls 1 [])) e in
    let twenty : decimal 21 ≡ codes "21" = refl in
    let same = decimal_injective t.header.levels 21 (omega (arith, is.header.levels.1)) (lit< tt)
    (sym (append-nil (decimal t.header.levels)) ∙ text ∙ sym twenty) in
    omega (arith, is.header.levels.1, same)

pub returns-clause-range : goal.returns-clause-range
unfolding digits text_of
returns-clause-range c = (
  codes "ascend trace 1" ∷ [],
  range (codes "levels 21") [] refl (high, high_form, _, refl)
      (codes "levels 13", (idle_trace, idle, _, refl)) (λ begins. levels_21 begins.0 begins.2 begins.1 begins.3),
  refl,
)

pub returns-clause-extra : goal.returns-clause-extra
returns-clause-extra c =
    (lines_of idle_trace, extra (codes "\n") refl (λ e. cc) (idle_trace, idle, refl), refl)
