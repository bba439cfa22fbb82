-- A plan of a front end that is served by a memory: what is shown, and what is left.
use Rattle.std.proofs.Common.{◌≡◌, ℕ, List, [], ◌++◌, refl, sym, ap, ◌∙◌, append_assoc}
use Rattle.request_plan.specs.Plan.{Plan, Done, Ask, bind}
use Rattle.request_plan.specs.Play.{play, bare, marked}
use Rattle.request_plan.proofs.Plays.{bare-marked, bare-append}
use Rattle.asc_base.specs.declared.block.Line.{Line}
use Rattle.oram_walk.specs.Front.{FrontState}
use Rattle.oram_walk.specs.Memory.{Shown, memory}
use Rattle.oram_walk.specs.Plans.{FrontPlan, on}
use Rattle.oram_walk.specs.Request.{Request}
use Rattle.oram_walk.specs.declared.slots.Seen.{Seen}

abbrev pub Lines : Type 0
Lines = ℕ → Line

module _ (cycles : ℕ) where
  -- what is shown, and the lines and the outcome at the end
  abbrev pub told : {B A : Type 0} → Plan Request Seen B A → Lines → List Shown
  told (Done a) lines = []
  told (Ask q b k) lines =
      let turn = memory cycles lines q in
      turn.records ++ told (k turn.answer) turn.held

  abbrev pub left : {B A : Type 0} → Plan Request Seen B A → Lines → Lines × A
  left (Done a) lines = (lines, a)
  left (Ask q b k) lines =
      let turn = memory cycles lines q in
      left (k turn.answer) turn.held

  told-bind : {B C A D : Type 0} (put : B → C) (plan : Plan Request Seen B A) (next : A → Plan Request Seen C D)
      (lines : Lines) → told (bind put plan next) lines
      ≡ told plan lines ++ told (next ((left plan lines).1)) ((left plan lines).0)
  told-bind put (Done a) next lines = refl
  told-bind put (Ask q b k) next lines =
      let turn = memory cycles lines q in
      ap (λ shown. turn.records ++ shown) (told-bind put (k turn.answer) next turn.held)
      ∙ sym (append_assoc turn.records (told (k turn.answer) turn.held)
      (told (next ((left (k turn.answer) turn.held).1)) ((left (k turn.answer) turn.held).0)))

  left-bind : {B C A D : Type 0} (put : B → C) (plan : Plan Request Seen B A) (next : A → Plan Request Seen C D)
      (lines : Lines) → left (bind put plan next) lines ≡ left (next ((left plan lines).1)) ((left plan lines).0)
  left-bind put (Done a) next lines = refl
  left-bind put (Ask q b k) next lines =
      let turn = memory cycles lines q in
      left-bind put (k turn.answer) next turn.held

  -- the play has the same
  pub play-told : {B A : Type 0} (plan : Plan Request Seen B A) (lines : Lines)
      → bare ((play (memory cycles) plan lines).records) ≡ told plan lines
  play-told (Done a) lines = refl
  play-told (Ask q b k) lines =
      let turn = memory cycles lines q in
      bare-append (marked b turn.records) ((play (memory cycles) (k turn.answer) turn.held).records)
      ∙ ap (λ shown. shown ++ bare ((play (memory cycles) (k turn.answer) turn.held).records))
      (bare-marked b turn.records)
      ∙ ap (λ shown. turn.records ++ shown) (play-told (k turn.answer) turn.held)

  pub play-left : {B A : Type 0} (plan : Plan Request Seen B A) (lines : Lines)
      → ((play (memory cycles) plan lines).held, (play (memory cycles) plan lines).outcome) ≡ left plan lines
  play-left (Done a) lines = refl
  play-left (Ask q b k) lines =
      let turn = memory cycles lines q in
      play-left (k turn.answer) turn.held

  -- A plan shows these, and leaves these lines, this state and this outcome.
  pub record Goes {A : Type 0} (plan : FrontPlan A) (lines : Lines) (shown : List Shown) (later : Lines)
      (now : FrontState) (a : A) : Type 0 where
    pub shows : told plan lines ≡ shown
    pub ends : left plan lines ≡ (later, (now, a))

  -- one plan after another
  pub goes_on : {A B : Type 0} (plan : FrontPlan A) (next : FrontState → A → FrontPlan B) (lines middle later : Lines)
      (xs ys : List Shown) (now last : FrontState) (a : A) (b : B)
      → Goes plan lines xs middle now a → Goes (next now a) middle ys later last b
      → Goes (on plan next) lines (xs ++ ys) later last b
  goes_on {A} plan next lines middle later xs ys now last a b first second = record {
    shows = told-bind (λ (s : FrontState). s) plan (λ (s, x). next s x) lines
        ∙ ap (λ (r : Lines × (FrontState × A)). told plan lines ++ told (next ((r.1).0) ((r.1).1)) (r.0)) first.ends
        ∙ ap (λ shown. told plan lines ++ shown) second.shows
        ∙ ap (λ shown. shown ++ ys) first.shows;
    ends = left-bind (λ (s : FrontState). s) plan (λ (s, x). next s x) lines
        ∙ ap (λ (r : Lines × (FrontState × A)). left (next ((r.1).0) ((r.1).1)) (r.0)) first.ends
        ∙ second.ends;
  }
