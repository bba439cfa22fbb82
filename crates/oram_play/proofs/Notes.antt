-- The answers of a run of a plan, which can be noted; and a play against a memory whose lines they are.
use Rattle.std.proofs.Common.{◌≡◌, ◌+◌, ◌++◌, ℕ, [], ◌∷◌, refl, sym, ap, ◌∙◌, subst, append-nil, append_assoc}
use Rattle.request_plan.specs.Plan.{Done, Ask, Ends}
use Rattle.request_plan.specs.Play.{play}
use Rattle.asc_base.specs.declared.block.Line.{Line}
use Rattle.oram_contents.specs.Entries.{Keys}
use Rattle.oram_frontend.specs.Access.{SlotStep}
use Rattle.oram_lines.specs.Noted.{Answers, NotedState, NotedStep, AreAnswersIn, lines_behind}
use Rattle.oram_walk.specs.Front.{FrontState}
use Rattle.oram_walk.specs.Memory.{memory, put_line, put_back}
use Rattle.oram_walk.specs.Plans.{FrontPlan}
use Rattle.oram_walk.specs.Request.{Slot, Append, Answer, Room, Steps, nothing}
use Rattle.oram_walk.specs.declared.slots.Seen.{Seen}
use Rattle.rate_enforcer.specs.PortStep.{PortState}
use Rattle.oram_play.proofs.Alike.{AlikeInTime}

module _ (keys : Keys) (levels : ℕ) where
  -- what was answered in a run
  abbrev pub answers_of : {A : Type 0} (plan : FrontPlan A) (s t : PortState) (outcome : FrontState × A)
      → Ends (Steps (SlotStep keys levels)) plan s t outcome → Answers
  answers_of (Done a) s t outcome ends = []
  answers_of (Ask (Slot access) b k) s t outcome (x, mid, one, rest) =
      (Slot access, x) ∷ answers_of (k x) mid t outcome rest
  answers_of (Ask (Append message) b k) s t outcome (x, mid, one, rest) =
      (Append message, x) ∷ answers_of (k x) mid t outcome rest
  answers_of (Ask (Answer line value) b k) s t outcome (x, mid, one, rest) =
      (Answer line value, x) ∷ answers_of (k x) mid t outcome rest
  answers_of (Ask Room b k) s t outcome (x, mid, one, rest) = answers_of (k x) mid t outcome rest

  abbrev at : PortState → Answers → NotedState
  at s answers = record { port = s; answers = answers }

  -- it is a run in which they are noted
  pub noted : {A : Type 0} (plan : FrontPlan A) (s t : PortState) (before : Answers) (outcome : FrontState × A)
      → (ends : Ends (Steps (SlotStep keys levels)) plan s t outcome)
      → Ends (Steps (NotedStep keys levels)) plan (at s before) (at t (before ++ answers_of plan s t outcome ends))
      outcome
  noted (Done a) s t before outcome ends = (
    ends.0,
    ap (λ l. at t l) (append-nil before) ∙ ap (λ (u : PortState). at u before) ends.1,
  )
  noted (Ask (Slot access) b k) s t before outcome (x, mid, one, rest) =
      let more = answers_of (k x) mid t outcome rest in
      let now : Answers = before ++ (Slot access, x) ∷ [] in (
        x,
        at mid now,
        (one, refl),
        subst (λ l. Ends (Steps (NotedStep keys levels)) (k x) (at mid now) (at t l) outcome)
            (append_assoc before ((Slot access, x) ∷ []) more) (noted (k x) mid t now outcome rest),
      )
  noted (Ask (Append message) b k) s t before outcome (x, mid, one, rest) =
      let more = answers_of (k x) mid t outcome rest in
      let now : Answers = before ++ (Append message, x) ∷ [] in (
        x,
        at mid now,
        (one, refl),
        subst (λ l. Ends (Steps (NotedStep keys levels)) (k x) (at mid now) (at t l) outcome)
            (append_assoc before ((Append message, x) ∷ []) more) (noted (k x) mid t now outcome rest),
      )
  noted (Ask (Answer line value) b k) s t before outcome (x, mid, one, rest) =
      let more = answers_of (k x) mid t outcome rest in
      let now : Answers = before ++ (Answer line value, x) ∷ [] in (
        x,
        at mid now,
        (one, refl),
        subst (λ l. Ends (Steps (NotedStep keys levels)) (k x) (at mid now) (at t l) outcome)
            (append_assoc before ((Answer line value, x) ∷ []) more) (noted (k x) mid t now outcome rest),
      )
  noted (Ask Room b k) s t before outcome (x, mid, one, rest) = (
    x,
    at mid before,
    (one.0, ap (λ (u : PortState). at u before) one.1),
    noted (k x) mid t before outcome rest,
  )

  -- a play against a memory comes to the same front end, to a related outcome, and to these lines
  abbrev pub IsPlayed : {A : Type 0} → (A → A → Type 0) → FrontPlan A → (lines last : ℕ → Line) → FrontState × A
      → Type 0
  IsPlayed R other lines last outcome =
      let played = play (memory 0) other lines in
      (played.held ≡ last) × ((played.outcome).0 ≡ outcome.0) × R outcome.1 (played.outcome).1

  pub played : {A : Type 0} (R : A → A → Type 0) (plan other : FrontPlan A) (s t : PortState)
      (outcome : FrontState × A) (ends : Ends (Steps (SlotStep keys levels)) plan s t outcome) (lines : ℕ → Line)
      → AlikeInTime R plan other → AreAnswersIn lines (answers_of plan s t outcome ends)
      → IsPlayed R other lines (lines_behind lines (answers_of plan s t outcome ends)) outcome
  played {A} R (Done a) (Done d) s t outcome ends lines h are = (
    refl,
    h.0 ∙ ap (λ (o : FrontState × A). o.0) (sym ends.0),
    subst (λ (o : FrontState × A). R o.1 d.1) (sym ends.0) h.1,
  )
  played R (Done a) (Ask r c l) s t outcome ends lines h are = absurd h
  played R (Ask q b k) (Done d) s t outcome ends lines h are = absurd h
  played R (Ask (Slot access) b k) (Ask r c l) s t outcome (x, mid, one, rest) lines h are =
      let answer : Seen = record { line = lines access.address.0; end = h.0.0 + 0 } in
      let after : ℕ → Line = put_back lines access.address.0 access.purpose in
      subst (λ q. IsPlayed R (Ask q c l) lines (lines_behind after (answers_of (k x) mid t outcome rest)) outcome)
      (sym h.0.1)
      (played R (k x) (l answer) mid t outcome rest after (h.1 x answer (sym are.0)) are.1)
  played R (Ask (Append message) b k) (Ask r c l) s t outcome (x, mid, one, rest) lines h are =
      let after : ℕ → Line = put_line lines message.address.0 message.line in
      subst (λ q. IsPlayed R (Ask q c l) lines (lines_behind after (answers_of (k x) mid t outcome rest)) outcome)
      (sym h.0.1) (played R (k x) (l nothing) mid t outcome rest after (h.1 x nothing tt) are.1)
  played R (Ask (Answer line value) b k) (Ask r c l) s t outcome (x, mid, one, rest) lines h are =
      subst (λ q. IsPlayed R (Ask q c l) lines (lines_behind lines (answers_of (k x) mid t outcome rest)) outcome)
      (sym h.0.1) (played R (k x) (l nothing) mid t outcome rest lines (h.1 x nothing tt) are.1)
  played R (Ask Room b k) (Ask r c l) s t outcome (x, mid, one, rest) lines h are =
      subst (λ q. IsPlayed R (Ask q c l) lines (lines_behind lines (answers_of (k x) mid t outcome rest)) outcome)
      (sym h.0.1) (played R (k x) (l nothing) mid t outcome rest lines (h.1 x nothing tt) are)
