-- A plan of requests for lines that an encrypted memory answers takes the slots of the plan's play.
use Rattle.std.proofs.Common.{◌≡◌, ◌<◌, ◌⊎◌, inl, inr, ℕ, ◌+◌, List, [], ◌∷◌, ◌++◌, Option, Some, None, Ok, Err}
use Rattle.std.proofs.Common.{refl, sym, ap, ◌∙◌, subst, append_assoc, append-nil}
use Rattle.asc_base.specs.declared.block.Line.{Line}
use Rattle.asc_base.specs.declared.settings.Config.{Config}
use Rattle.asc_base.specs.declared.stop.Stop.{Stop}
use Rattle.asc_base.specs.declared.stop.Stop.TheVariants.{Integrity, StashFull, TimeUp, Device, NoMemory}
use Rattle.data_cache.specs.Lines.{LineRequest, Fetch, Store}
use Rattle.oram_contents.specs.Entries.{Keys, AreKeys}
use Rattle.oram_contents.specs.Forgery.{Forgery}
use Rattle.oram_frontend.specs.Oram.{OramStep, Fetch as OramFetch, Store as OramStore}
use Rattle.oram_lines.proofs.LineLaws.{forgery_call, forgery_stop}
use Rattle.oram_play.specs.Playing.{called, LeavesOf, IsCut}
use Rattle.rate_enforcer.specs.PortStep.{PortState}
use Rattle.request_plan.specs.Plan.{Plan, Done, Ask, Ends, Stops}
use Rattle.request_plan.specs.Play.{Played, play, bare, marked}
use Rattle.run_play.specs.Halt as cut
use Rattle.run_play.specs.Requests.{Standing, Taken, data_line, requested, request_slots}
use Rattle.run_play.specs.Slots.{Slot, Numbers}
use Rattle.run_play.specs.Turns.{unless_late, answered, line_slots}
use Rattle.run_play.proofs.Lines.{too_late}
use Rattle.run_play.proofs.Turns.{bare-turn}
use Rattle.play_run.specs.Follows.{Follows, with_fetches, IsCutIn, StopLeaves}
use Rattle.play_run.specs.Given.{IsWhole, RequestPlays, RequestStops}
use Rattle.play_run.specs.Timed.{TimedState, TimedStep, CanAsk, answers_serve}
use Rattle.play_run.proofs.Kept.{AreLeft, left-at, counted-fetches, request-left, request-numbers}
use Rattle.play_run.proofs.Kept.{request-late-numbers}

-- ---- a stop in some slots is one in all of a play
cut-of : (levels : ℕ) (slots taken : List Slot) (stop : cut.Stop) (numbers : Numbers) (new : PortState)
    → AreLeft numbers taken → IsCut levels slots taken stop new → IsCutIn levels (slots ++ taken) stop numbers new
cut-of levels slots taken stop numbers new left h = record {
  before = slots ++ h.before;
  slot = h.slot;
  later = h.later;
  are = ap (λ l. slots ++ l) h.are ∙ sym (append_assoc slots h.before (h.slot ∷ h.later));
  fits = h.fits;
  said = h.said;
  last = h.last;
  left = left-at numbers h.before h.later h.slot (subst (AreLeft numbers) h.are left);
}

pub cut-more : (levels : ℕ) (all more : List Slot) (stop : cut.Stop) (numbers : Numbers) (new : PortState)
    → IsCutIn levels all stop numbers new → IsCutIn levels (all ++ more) stop numbers new
cut-more levels all more stop numbers new h = record {
  before = h.before;
  slot = h.slot;
  later = h.later ++ more;
  are = ap (λ l. l ++ more) h.are ∙ append_assoc h.before (h.slot ∷ h.later) more;
  fits = h.fits;
  said = h.said;
  last = h.last;
  left = h.left;
}

-- what a request's stop leaves
pub leaves-of : (levels : ℕ) (slots : List Slot) (taken : Taken) (numbers : Numbers) (stop : Stop) (new : PortState)
    → AreLeft numbers taken.slots
    → ((at : ℕ) → taken.standing.late ≡ Some at → taken.standing.numbers ≡ numbers)
    → LeavesOf levels slots taken stop new
    → StopLeaves levels (slots ++ taken.slots) taken.standing numbers stop new
leaves-of levels slots taken numbers (Integrity evidence) new left same (stop, is, h) =
    (stop, is, cut-of levels slots taken.slots stop numbers new left h)
leaves-of levels slots taken numbers (StashFull held) new left same (stop, is, h) =
    (stop, is, cut-of levels slots taken.slots stop numbers new left h)
leaves-of levels slots taken numbers (TimeUp at) new left same h = (h.0, same at h.0, h.1, h.2)
leaves-of levels slots taken numbers Device new left same (stop, is, h) =
    (stop, is, cut-of levels slots taken.slots stop numbers new left h)
leaves-of levels slots taken numbers NoMemory new left same h = tt

-- and of more slots behind, of which there are none where one came too late
pub leaves-more : (levels : ℕ) (all more : List Slot) (after later : Standing) (numbers : Numbers) (stop : Stop)
    (new : PortState) → ((at : ℕ) → after.late ≡ Some at → (more ≡ []) × (later ≡ after))
    → StopLeaves levels all after numbers stop new → StopLeaves levels (all ++ more) later numbers stop new
leaves-more levels all more after later numbers (Integrity evidence) new none (stop, is, h) =
    (stop, is, cut-more levels all more stop numbers new h)
leaves-more levels all more after later numbers (StashFull held) new none (stop, is, h) =
    (stop, is, cut-more levels all more stop numbers new h)
leaves-more levels all more after later numbers (TimeUp at) new none h =
    let same = none at h.0 in
    subst (λ l. StopLeaves levels l later numbers (TimeUp at) new)
    (sym (ap (λ l. all ++ l) same.0 ∙ append-nil all))
    (subst (λ (s : Standing). StopLeaves levels all s numbers (TimeUp at) new) (sym same.1) h)
leaves-more levels all more after later numbers Device new none (stop, is, h) =
    (stop, is, cut-more levels all more stop numbers new h)
leaves-more levels all more after later numbers NoMemory new none h = tt

module _ (keys : Keys) (lawful : AreKeys keys) (levels : ℕ) where
  -- ---- a forgery stays
  pub forged-line : (s t : TimedState) (request : LineRequest) (bytes : List ℕ)
      → TimedStep keys levels keys.shape.lines s request (Ok bytes) t → Forgery keys s.oram.port.tap.log
      → Forgery keys t.oram.port.tap.log
  forged-line s t (Fetch line) bytes h f =
      forgery_call keys lawful levels s.oram t.oram (OramFetch s.clock line) _ h.0 f
  forged-line s t (Store line value) bytes h f =
      forgery_call keys lawful levels s.oram t.oram (OramStore s.clock line (record { 0 = value })) _ h.0 f

  pub forged-ends : {B A : Type 0} (plan : Plan LineRequest (List ℕ) B A) (s t : TimedState) (outcome : A)
      → Ends (TimedStep keys levels keys.shape.lines) plan s t outcome → Forgery keys s.oram.port.tap.log
      → Forgery keys t.oram.port.tap.log
  forged-ends (Done x) s t outcome ends f =
      subst (λ (u : TimedState). Forgery keys u.oram.port.tap.log) (sym ends.1) f
  forged-ends (Ask q b k) s t outcome (x, mid, one, rest) f =
      forged-ends (k x) mid t outcome rest (forged-line s mid q x one f)

  forged-stopped : (s t : TimedState) (request : LineRequest) (stop : Stop)
      → TimedStep keys levels keys.shape.lines s request (Err stop) t → Forgery keys s.oram.port.tap.log
      → Forgery keys t.oram.port.tap.log
  forged-stopped s t (Fetch line) stop h f =
      forgery_stop keys lawful levels s.oram t.oram (OramFetch s.clock line) stop h.0 f
  forged-stopped s t (Store line value) stop h f =
      forgery_stop keys lawful levels s.oram t.oram (OramStore s.clock line (record { 0 = value })) stop h.0 f

  pub forged-stops : {B A : Type 0} (plan : Plan LineRequest (List ℕ) B A) (s t : TimedState) (stop : Stop) (left : B)
      → Stops (TimedStep keys levels keys.shape.lines) plan s t stop left → Forgery keys s.oram.port.tap.log
      → Forgery keys t.oram.port.tap.log
  forged-stops (Done x) s t stop left stops f = absurd stops
  forged-stops (Ask q b k) s t stop left (inl one) f = forged-stopped s t q stop one.0 f
  forged-stops (Ask q b k) s t stop left (inr (x, mid, one, rest)) f =
      forged-stops (k x) mid t stop left rest (forged-line s mid q x one f)

  module _ (config : Config) (request_plays : RequestPlays keys levels config) where
    -- ---- one request
    pub line-plays : (request : LineRequest) (bytes : List ℕ) (slots : List Slot) (now : Standing) (s t : TimedState)
        → Follows keys levels config slots now s → TimedStep keys levels keys.shape.lines s request (Ok bytes) t
        → Forgery keys t.oram.port.tap.log
        ⊎ (let taken = request_slots config now request in
        Follows keys levels config (slots ++ taken.slots) taken.standing t × (bytes ≡ answered now.data_lines request))
    line-plays (Fetch line) bytes slots now s t x h =
        elim (request_plays slots now s.oram t.oram (Fetch line)
        (record { line = Some (record { 0 = bytes }); end = t.clock }) x.plays h.4 tt
        (subst (λ c. OramStep keys levels s.oram (OramFetch c line)
        (Ok (record { line = Some (record { 0 = bytes }); end = t.clock })) t.oram) x.clock h.0)) [
          | inl forged ↦ inl forged
          | inr (plays, end, told) ↦
              (let same : ◌≡◌ {A = Line} (record { 0 = bytes }) (record { 0 = data_line now.data_lines line }) = cc in
              inr (
                record {
                  plays = plays;
                  clock = end;
                  fetches = h.1 ∙ (ap (λ n. n + 1) x.fetches
                      ∙ sym (ap (λ (n : Numbers). n.fetches)
                      (request-numbers config now (Fetch line) plays.in_time)));
                },
                ap (λ (l : Line). l.0) same,
              ))
        ]
    line-plays (Store line value) bytes slots now s t x h =
        elim (request_plays slots now s.oram t.oram (Store line value)
        (record { line = None; end = t.clock }) x.plays h.4 h.5
        (subst (λ c. OramStep keys levels s.oram (OramStore c line (record { 0 = value }))
        (Ok (record { line = None; end = t.clock })) t.oram) x.clock h.0)) [
          | inl forged ↦ inl forged
          | inr (plays, end, told) ↦ inr (
            record {
              plays = plays;
              clock = end;
              fetches = h.1 ∙ (x.fetches
                  ∙ sym (ap (λ (n : Numbers). n.fetches)
                  (request-numbers config now (Store line value) plays.in_time)));
            },
            h.2,
          )
        ]

    -- the play goes on after the slots of the first request
    abbrev after_first : {B A : Type 0} → B → Plan LineRequest (List ℕ) B A → Taken → Played Slot Standing B A
    after_first left plan first =
        let rest = play (line_slots config) plan first.standing in
        record { records = marked left first.slots ++ rest.records; held = rest.held; outcome = rest.outcome }

    -- where none came too late before it
    unless-fresh : (taken : Taken) (now : Standing) (o : Option ℕ) → o ≡ None → unless_late o taken now ≡ taken
    unless-fresh taken now None is = refl
    unless-fresh taken now (Some l) is = absurd cc

    play-ask : {B A : Type 0} (request : LineRequest) (left : B) (next : List ℕ → Plan LineRequest (List ℕ) B A)
        (now : Standing) → now.late ≡ None
        → play (line_slots config) (Ask request left next) now
        ≡ after_first left (next (answered now.data_lines request)) (request_slots config now request)
    play-ask request left next now fresh =
        ap (λ (t : Taken). after_first left (next (answered now.data_lines request)) t)
        (unless-fresh (request_slots config now request) now now.late fresh)

    all-slots : {B A : Type 0} (left : B) (plan : Plan LineRequest (List ℕ) B A) (slots : List Slot) (first : Taken)
        → slots ++ bare (after_first left plan first).records
        ≡ (slots ++ first.slots) ++ bare (play (line_slots config) plan first.standing).records
    all-slots left plan slots first =
        let rest = bare (play (line_slots config) plan first.standing).records in
        ap (λ l. slots ++ l) (bare-turn left first.slots (play (line_slots config) plan first.standing).records)
        ∙ sym (append_assoc slots first.slots rest)

    -- ---- a plan of them
    pub plan-plays : {B A : Type 0} (plan : Plan LineRequest (List ℕ) B A) (slots : List Slot) (now : Standing)
        (s t : TimedState) (outcome : A) → Follows keys levels config slots now s
        → Ends (TimedStep keys levels keys.shape.lines) plan s t outcome
        → Forgery keys t.oram.port.tap.log
        ⊎ (let whole = play (line_slots config) plan now in
        Follows keys levels config (slots ++ bare whole.records) whole.held t × (outcome ≡ whole.outcome))
    plan-plays (Done a) slots now s t outcome x ends = inr (
      subst (λ l. Follows keys levels config l now t) (sym (append-nil slots))
          (subst (λ (u : TimedState). Follows keys levels config slots now u) (sym ends.1) x),
      ends.0,
    )
    plan-plays {B} {A} (Ask request left next) slots now s t outcome x (bytes, mid, one, rest) =
        let taken : Taken = request_slots config now request in
        let answer : List ℕ = answered now.data_lines request in
        let more = play (line_slots config) (next answer) taken.standing in
        elim (line-plays request bytes slots now s mid x one) [
          | inl forged ↦ inl (forged-ends (next bytes) mid t outcome rest forged)
          | inr (y, is) ↦ elim (plan-plays (next answer) (slots ++ taken.slots) taken.standing mid t outcome y
              (subst (λ b. Ends (TimedStep keys levels keys.shape.lines) (next b) mid t outcome) is rest)) [
                | inl forged ↦ inl forged
                | inr (z, same) ↦ inr (subst
                    (λ (p : Played Slot Standing B A).
                    Follows keys levels config (slots ++ bare p.records) p.held t × (outcome ≡ p.outcome))
                    (sym (play-ask request left next now x.plays.in_time)) (
                      subst (λ l. Follows keys levels config l more.held t)
                          (sym (all-slots left (next answer) slots taken)) z,
                      same,
                    ))
              ]
        ]

    module _ (request_stops : RequestStops keys levels config) where
      -- ---- one request that is stopped
      line-stops : (request : LineRequest) (stop : Stop) (slots : List Slot) (now : Standing) (s t : TimedState)
          → Follows keys levels config slots now s → CanAsk levels keys.shape.lines s
          → TimedStep keys levels keys.shape.lines s request (Err stop) t
          → Forgery keys t.oram.port.tap.log
          ⊎ (let taken = request_slots config now request in
          StopLeaves levels (slots ++ taken.slots) taken.standing (with_fetches now.numbers t.fetches) stop
          t.oram.port)
      line-stops request stop slots now s t x ask h =
          let step = parts request h in
          elim (request_stops slots now s.oram t.oram request stop x.plays ask.serving.going step.0 step.1
          (subst (λ c. OramStep keys levels s.oram (called c request) (Err stop) t.oram) x.clock step.2)) [
            | inl forged ↦ inl forged
            | inr leaves ↦
                (let numbers : now.numbers ≡ with_fetches now.numbers t.fetches =
                ap (λ n. with_fetches now.numbers n) (sym (step.3 ∙ x.fetches)) in
                inr (subst (λ (n : Numbers). StopLeaves levels (slots ++ (request_slots config now request).slots)
                (request_slots config now request).standing n stop t.oram.port) numbers
                (leaves-of levels slots (request_slots config now request) now.numbers stop t.oram.port
                (request-left config now request) (request-late-numbers config now request) leaves)))
          ]
        where
          parts : (q : LineRequest) → TimedStep keys levels keys.shape.lines s q (Err stop) t
              → (requested q < keys.shape.lines) × IsWhole q
              × OramStep keys levels s.oram (called s.clock q) (Err stop) t.oram × (t.fetches ≡ s.fetches)
          parts (Fetch line) g = (g.3, tt, g.0, g.1)
          parts (Store line value) g = (g.3, g.4, g.0, g.1)

      -- after a slot that came too late a play takes no slot
      quiet : {B A : Type 0} (plan : Plan LineRequest (List ℕ) B A) (now : Standing) (at : ℕ) → now.late ≡ Some at
          → let whole = play (line_slots config) plan now in
          (bare whole.records ≡ []) × (whole.held ≡ now)
      quiet plan now at is = let t = too_late config plan now at is in (t.slots, t.held)

      -- ---- a plan of which one is stopped
      pub plan-stops : {B A : Type 0} (plan : Plan LineRequest (List ℕ) B A) (slots : List Slot) (now : Standing)
          (s t : TimedState) (stop : Stop) (left : B) → Follows keys levels config slots now s
          → CanAsk levels keys.shape.lines s → Stops (TimedStep keys levels keys.shape.lines) plan s t stop left
          → Forgery keys t.oram.port.tap.log
          ⊎ (let whole = play (line_slots config) plan now in
          StopLeaves levels (slots ++ bare whole.records) whole.held (with_fetches now.numbers t.fetches) stop
          t.oram.port)
      plan-stops (Done a) slots now s t stop left x ask stops = absurd stops
      plan-stops {B} {A} (Ask request b next) slots now s t stop left x ask (inl (one, is)) =
          let taken : Taken = request_slots config now request in
          let answer : List ℕ = answered now.data_lines request in
          let more = play (line_slots config) (next answer) taken.standing in
          let numbers : Numbers = with_fetches now.numbers t.fetches in
          elim (line-stops request stop slots now s t x ask one) [
            | inl forged ↦ inl forged
            | inr leaves ↦ inr (subst
                (λ (p : Played Slot Standing B A).
                StopLeaves levels (slots ++ bare p.records) p.held numbers stop t.oram.port)
                (sym (play-ask request b next now x.plays.in_time))
                (subst (λ l. StopLeaves levels l more.held numbers stop t.oram.port)
                (sym (all-slots b (next answer) slots taken))
                (leaves-more levels (slots ++ taken.slots) (bare more.records) taken.standing more.held numbers stop
                t.oram.port (quiet (next answer) taken.standing) leaves)))
          ]
      plan-stops {B} {A} (Ask request b next) slots now s t stop left x ask (inr (bytes, mid, one, rest)) =
          let taken : Taken = request_slots config now request in
          let answer : List ℕ = answered now.data_lines request in
          let more = play (line_slots config) (next answer) taken.standing in
          let numbers : Numbers = with_fetches now.numbers t.fetches in
          elim (line-plays request bytes slots now s mid x one) [
            | inl forged ↦ inl (forged-stops (next bytes) mid t stop left rest forged)
            | inr (y, is) ↦ elim (plan-stops (next answer) (slots ++ taken.slots) taken.standing mid t stop left y
                (answers_serve keys levels keys.shape.lines s mid request bytes one)
                (subst (λ z. Stops (TimedStep keys levels keys.shape.lines) (next z) mid t stop left) is rest)) [
                  | inl forged ↦ inl forged
                  | inr leaves ↦
                      (let same : with_fetches taken.standing.numbers t.fetches ≡ numbers =
                      ap (λ (n : Numbers). with_fetches n t.fetches)
                      (request-numbers config now request y.plays.in_time)
                      ∙ counted-fetches request now.numbers t.fetches in
                      inr (subst
                      (λ (p : Played Slot Standing B A).
                      StopLeaves levels (slots ++ bare p.records) p.held numbers stop t.oram.port)
                      (sym (play-ask request b next now x.plays.in_time))
                      (subst (λ l. StopLeaves levels l more.held numbers stop t.oram.port)
                      (sym (all-slots b (next answer) slots taken))
                      (subst (λ (n : Numbers). StopLeaves levels ((slots ++ taken.slots) ++ bare more.records) more.held
                      n
                      stop t.oram.port) same leaves))))
                ]
          ]
