-- The desk meets what the laws of a layer that may refuse ask of single steps, and those of what is carried along.
use Rattle.std.proofs.Common.{◌≡◌, ℕ, zero, suc, ◌-◌, ◌<◌, true, false}
use Rattle.std.proofs.Common.{refl, sym, ap, subst, inl, inr, ◌∙◌, arith}
use Rattle.request_plan.specs.Plan.{Plan, Done, Ask, Ends, Stops, Reply, Refuses, Gives, Refused, Ended, caught}
use Rattle.request_plan.specs.Laws.{AnswersKeep, Within, GivesBelow, RefusesBelow, AnswersCarry, StopsCarry}
use Rattle.request_plan.specs.Press.{PressState, loaded, with_sheet, Prints, hand_out, sheets_plan}
use Rattle.request_plan.specs.Press.{HandsUpTo, DeskState, HasSoundPress, desk_plan, HandsOut, AsksFor}
use Rattle.request_plan.specs.Press.{AsksForRest, IsRest}
use Rattle.request_plan.specs.declared.press.Halted.{Halted}
use Rattle.request_plan.specs.declared.press.Halted.TheVariants.{NoPaper, Jammed}
use Rattle.request_plan.proofs.PressLaws.{press-keeps}
use Rattle.request_plan.proofs.Keeps.{Ends-narrows, Ends-carries, Stops-carries}
use Rattle.request_plan.proofs.Through.{Ends-caught, chain_below}

-- a plan of a request at a desk
abbrev DeskPlan : Type 0
DeskPlan = Plan (Unit {0}) ℕ (Unit {0}) (Reply Halted ℕ ℕ)

pub desk-keeps : AnswersKeep HandsOut HasSoundPress
desk-keeps s t q x h sound = press-keeps s.press t.press q x (h.1) sound

-- a desk with some left asks its press
plan-some : (left : ℕ) (q : Unit {0}) → 0 < left
    → desk_plan left q ≡ Ask tt tt (λ number. Done (Gives (left - 1) number))
plan-some zero q some = absurd (omega arith)
plan-some (suc n) q some =
    let e : n ≡ suc n - 1 = omega arith in
    ap (λ (k : ℕ). let p : DeskPlan = Ask tt tt (λ number. Done (Gives k number)) in p) e

-- one with none refuses
plan-none : (left : ℕ) (q : Unit {0}) → left ≡ 0 → desk_plan left q ≡ Done (Refuses NoPaper)
plan-none left q e = rw e refl

pub desk-gives : GivesBelow Prints (Within HasSoundPress HandsOut)
    (λ (d : DeskState). d.press) (λ (d : DeskState). d.left) desk_plan
desk-gives s t q x h =
    subst (λ (p : DeskPlan). Ends Prints p s.press t.press (Gives t.left x))
    (sym (plan-some s.left q ((h.1).0)))
    (x, t.press, (h.1).1, (ap (λ k. Gives k x) ((h.1).2), refl))

pub desk-refuses : RefusesBelow Prints (Within HasSoundPress HandsOut)
    (λ (d : DeskState). d.press) (λ (d : DeskState). d.left) (λ (d : DeskState). tt)
    (λ (stop : Halted). stop) (λ (stop : Halted). stop) desk_plan
desk-refuses s t q e h =
    elim ((h.1).1) [
      | inl none ↦ inl (
          subst (λ (p : DeskPlan). Ends Prints p s.press t.press (Refuses e))
          (sym (plan-none s.left q (none.0)))
          (ap Refuses (none.1), none.2)
          )
      | inr stopped ↦ inr (
          subst (λ (p : DeskPlan). Stops Prints p s.press t.press e tt)
          (sym (plan-some s.left q (stopped.0)))
          (inl (stopped.1, refl))
          )
    ]

-- a plan that asks for some sheets
asks-next : (n : ℕ) (q : Unit {0}) (b : ℕ) (k : ℕ → Plan (Unit {0}) ℕ ℕ ℕ) → AsksFor n (Ask q b k)
    → (b ≡ n) × ((x : ℕ) → AsksFor (n - 1) (k x))
asks-next zero q b k h = absurd h
asks-next (suc n) q b k h =
    let e : n ≡ suc n - 1 = omega arith in (h.0, λ x. subst (λ m. AsksFor m (k x)) e (h.1 x))

pub desk-carries : AnswersCarry HandsOut AsksForRest
desk-carries s t q b k x known h =
    subst (λ m. AsksFor m (k x)) (sym h.2) ((asks-next s.left q b k known).1 x)

pub desk-stops : StopsCarry HandsOut AsksForRest IsRest
desk-stops s t q b k e known h = (asks-next s.left q b k known).0 ∙ sym h.0

-- so many sheets, one after another, are so many
pub asks-sheets : (n : ℕ) → AsksFor n (sheets_plan n)
asks-sheets zero = tt
asks-sheets (suc zero) = (refl, λ x. tt)
asks-sheets (suc (suc n)) = (refl, λ x. asks-sheets (suc n))

-- a plan that asks for no more asks for none
asks-done : (n : ℕ) (a : ℕ) → AsksFor n (Done a) → n ≡ 0
asks-done zero a h = refl
asks-done (suc n) a h = absurd h

pub rest_at_end : (start end : DeskState) (last : ℕ)
    → Ends HandsOut (sheets_plan start.left) start end last → end.left ≡ 0
rest_at_end start end last h =
    asks-done end.left last
    (Ends-carries HandsOut AsksForRest desk-carries (sheets_plan start.left) start end last h (asks-sheets start.left))

pub rest_at_stop : (start end : DeskState) (stop : Halted) (left : ℕ)
    → Stops HandsOut (sheets_plan start.left) start end stop left → left ≡ end.left
rest_at_stop start end stop left h =
    Stops-carries HandsOut AsksForRest IsRest desk-carries desk-stops (sheets_plan start.left) start end stop left h
    (asks-sheets start.left)

-- ---- rows
-- A press with paper for three and without a jam prints two, or three; one that jams after two prints two.
abbrev two : PressState
two = record { sheets = 2; paper = 1; sound = 7; jammed = false }

abbrev three : PressState
three = record { sheets = 3; paper = 0; sound = 6; jammed = false }

abbrev before_jam : PressState
before_jam = record { sheets = 2; paper = 1; sound = 0; jammed = false }

abbrev jam : PressState
jam = record { sheets = 2; paper = 1; sound = 0; jammed = true }

-- a desk over a press
abbrev desk : PressState → ℕ → DeskState
desk press left = record { press = press; left = left }

pub two_handed : Ends HandsOut (sheets_plan 2) (desk (loaded 3 9) 2) (desk two 0) 2
two_handed = (
  1,
  desk (with_sheet (loaded 3 9)) 1,
  (omega arith, (refl, omega arith, omega arith, refl, refl), refl),
  (2, desk two 0, (omega arith, (refl, omega arith, omega arith, refl, refl), refl), (refl, refl)),
)

pub two_handed_below : Ends Prints (caught desk_plan (sheets_plan 2) 2) (loaded 3 9) two (Ended 0 2)
two_handed_below =
    Ends-caught Prints (Within HasSoundPress HandsOut) (λ (d : DeskState). d.press) (λ (d : DeskState). d.left)
    desk_plan desk-gives (sheets_plan 2) (desk (loaded 3 9) 2) (desk two 0) 2
    ((Ends-narrows HandsOut HasSoundPress desk-keeps (sheets_plan 2) (desk (loaded 3 9) 2) (desk two 0) 2 refl
    two_handed).0)

pub third_refused : Stops HandsOut (sheets_plan 3) (desk (loaded 3 9) 2) (desk two 0) NoPaper 1
third_refused = inr (
  1,
  desk (with_sheet (loaded 3 9)) 1,
  (omega arith, (refl, omega arith, omega arith, refl, refl), refl),
  inr (
    2,
    desk two 0,
    (omega arith, (refl, omega arith, omega arith, refl, refl), refl),
    inl ((refl, inl (refl, refl, refl)), refl),
  ),
)

pub third_jams : Stops HandsOut (sheets_plan 3) (desk (loaded 3 2) 3) (desk jam 1) Jammed 1
third_jams = inr (
  1,
  desk (with_sheet (loaded 3 2)) 2,
  (omega arith, (refl, omega arith, omega arith, refl, refl), refl),
  inr (
    2,
    desk before_jam 1,
    (omega arith, (refl, omega arith, omega arith, refl, refl), refl),
    inl ((refl, inr (omega arith, (refl, inr (refl, omega arith, refl)))), refl),
  ),
)

-- Of the two stops the law's answer is a refusal for the first, and for the second a stop below.
pub third_refused_below : Ends Prints (caught desk_plan (sheets_plan 3) 2) (loaded 3 9) two (Refused NoPaper 1)
third_refused_below = (
  1,
  with_sheet (loaded 3 9),
  (refl, omega arith, omega arith, refl, refl),
  (2, two, (refl, omega arith, omega arith, refl, refl), (refl, refl)),
)

pub third_jams_below : Stops Prints (caught desk_plan (sheets_plan 3) 3) (loaded 3 2) jam Jammed (tt, 1)
third_jams_below = inr (
  1,
  with_sheet (loaded 3 2),
  (refl, omega arith, omega arith, refl, refl),
  inr (
    2,
    before_jam,
    (refl, omega arith, omega arith, refl, refl),
    inl ((refl, inr (refl, omega arith, refl)), refl),
  ),
)

-- The same where a request is one that comes to what its plan comes to.
pub by_plans : Ends (HandsUpTo 2) (sheets_plan 2) (loaded 3 9) two 2
by_plans = (
  1,
  with_sheet (loaded 3 9),
  (1, with_sheet (loaded 3 9), (refl, omega arith, omega arith, refl, refl), (refl, refl)),
  (2, two, (2, two, (refl, omega arith, omega arith, refl, refl), (refl, refl)), (refl, refl)),
)

pub by_plans_below : Ends Prints (caught (λ (held : Unit {0}) (q : Unit {0}). hand_out 2 q) (sheets_plan 2) tt)
    (loaded 3 9) two (Ended tt 2)
by_plans_below = chain_below Prints (hand_out 2) (sheets_plan 2) (loaded 3 9) two 2 by_plans

pub refused_by_plans : Stops (HandsUpTo 2) (sheets_plan 3) (loaded 3 9) three NoPaper 1
refused_by_plans = inr (
  1,
  with_sheet (loaded 3 9),
  (1, with_sheet (loaded 3 9), (refl, omega arith, omega arith, refl, refl), (refl, refl)),
  inr (
    2,
    two,
    (2, two, (refl, omega arith, omega arith, refl, refl), (refl, refl)),
    inl (inl (3, three, (refl, omega arith, omega arith, refl, refl), (refl, refl)), refl),
  ),
)

pub refused_by_plans_below : Ends Prints
    (caught (λ (held : Unit {0}) (q : Unit {0}). hand_out 2 q) (sheets_plan 3) tt)
    (loaded 3 9) three (Refused NoPaper 1)
refused_by_plans_below = (
  1,
  with_sheet (loaded 3 9),
  (refl, omega arith, omega arith, refl, refl),
  (
    2,
    two,
    (refl, omega arith, omega arith, refl, refl),
    (3, three, (refl, omega arith, omega arith, refl, refl), (refl, refl)),
  ),
)

pub jams_by_plans : Stops (HandsUpTo 9) (sheets_plan 3) (loaded 3 2) jam Jammed 1
jams_by_plans = inr (
  1,
  with_sheet (loaded 3 2),
  (1, with_sheet (loaded 3 2), (refl, omega arith, omega arith, refl, refl), (refl, refl)),
  inr (
    2,
    before_jam,
    (2, before_jam, (refl, omega arith, omega arith, refl, refl), (refl, refl)),
    inl (inr (inl ((refl, inr (refl, omega arith, refl)), refl)), refl),
  ),
)

pub jams_by_plans_below : Stops Prints
    (caught (λ (held : Unit {0}) (q : Unit {0}). hand_out 9 q) (sheets_plan 3) tt)
    (loaded 3 2) jam Jammed (tt, 1)
jams_by_plans_below = inr (
  1,
  with_sheet (loaded 3 2),
  (refl, omega arith, omega arith, refl, refl),
  inr (
    2,
    before_jam,
    (refl, omega arith, omega arith, refl, refl),
    inl ((refl, inr (refl, omega arith, refl)), refl),
  ),
)
