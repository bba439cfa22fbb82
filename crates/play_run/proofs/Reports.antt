-- A report is a play's where the log says the play's events.
use Rattle.std.proofs.Common.{◌≡◌, ℕ, ◌+◌, List, [], ◌∷◌, ◌++◌, Option, Some, None, cond, length, refl, sym, ap, ◌∙◌}
use Rattle.std.proofs.Common.{arith, inl}
use Rattle.std.specs.List.{flat_map, sum_by, count_by}
use Rattle.std.proofs.lemmas.List.Sums.{sum_by-append, sum_by-cons}
use Rattle.asc_base.specs.declared.block.Message.{Message}
use Rattle.asc_base.specs.declared.settings.Config.{Config}
use Rattle.bus_schedule.specs.Shown.{indices_of, code_of}
use Rattle.bus_schedule.specs.Timetable.{Public, public_of, count_of}
use Rattle.bus_watch.specs.Log.{LogLists}
use Rattle.bus_watch.specs.declared.log.Event.{Event}
use Rattle.bus_watch.specs.declared.log.Event.TheVariants.{Access, Drawn, Tagged, Accepted, Chosen, Answered}
use Rattle.epoch_learner.specs.LearnerRule.{real_count}
use Rattle.rate_enforcer.specs.Counts.{is_dummy, is_real}
use Rattle.run_play.specs.Play.{Play, PlayEnding}
use Rattle.run_play.specs.PlayEvents.{PlayEvent, Starts, Draws, Tags, Chooses, said_of, said_of_all, tags_of}
use Rattle.run_play.specs.PlayEvents.{chooses_of}
use Rattle.run_play.specs.PlayEvents.{slot_events, play_events, real_in, dummies_in, PlayReport, report_of}
use Rattle.run_play.specs.Slots.{Slot, Numbers, dummy_count}
use Rattle.run_play.proofs.Events.{log-shows}
use Rattle.play_run.specs.Shows.{Shows, RunShows, shown_report, IsPlayed}

-- what an event of a play counts, where a start counts so
abbrev start_counts : (Option ℕ → ℕ) → PlayEvent → ℕ
start_counts count (Starts start asked) = count asked
start_counts count (Draws point) = 0
start_counts count (Tags message) = 0
start_counts count (Chooses index) = 0

-- what is said of all, in sum
all-counts : {X Y : Type 0} (f : Y → ℕ) (g : X → List Y) (h : X → ℕ) → ((x : X) → sum_by f (g x) ≡ h x) → (xs : List X)
    → sum_by f (flat_map g xs) ≡ sum_by h xs
all-counts f g h each [] = refl
all-counts f g h each (x ∷ xs) =
    sum_by-append f (g x) (flat_map g xs)
    ∙ (ap (λ n. n + sum_by f (flat_map g xs)) (each x)
    ∙ (ap (λ n. h x + n) (all-counts f g h each xs) ∙ sym (sum_by-cons h x xs)))

real-event : (event : Event) → sum_by (start_counts real_count) (said_of event) ≡ cond (is_real event) 1 0
real-event (Access start None) = refl
real-event (Access start (Some asked)) = refl
real-event (Drawn point leaf) = refl
real-event (Tagged message) = refl
real-event (Accepted message tag) = refl
real-event (Chosen index) = refl
real-event (Answered line value) = refl

dummy-event : (event : Event) → sum_by (start_counts dummy_count) (said_of event) ≡ cond (is_dummy event) 1 0
dummy-event (Access start None) = refl
dummy-event (Access start (Some asked)) = refl
dummy-event (Drawn point leaf) = refl
dummy-event (Tagged message) = refl
dummy-event (Accepted message tag) = refl
dummy-event (Chosen index) = refl
dummy-event (Answered line value) = refl

module _ (count : Option ℕ → ℕ) where
  no-count : (put : Option Message) (chosen : Option ℕ) (appended : Option Message)
      → sum_by (start_counts count) (tags_of put ++ chooses_of chosen ++ tags_of appended) ≡ 0
  no-count None None None = refl
  no-count None None (Some appended) = refl
  no-count None (Some index) None = refl
  no-count None (Some index) (Some appended) = refl
  no-count (Some put) None None = refl
  no-count (Some put) None (Some appended) = refl
  no-count (Some put) (Some index) None = refl
  no-count (Some put) (Some index) (Some appended) = refl

  slot-count : (slot : Slot) → sum_by (start_counts count) (slot_events slot) ≡ count slot.asked
  slot-count slot =
      let rest : List PlayEvent = tags_of slot.put ++ chooses_of slot.chosen ++ tags_of slot.appended in
      let a = sum_by-cons (start_counts count) (Starts slot.start slot.asked) (Draws slot.point ∷ rest) in
      let b = sum_by-cons (start_counts count) (Draws slot.point) rest in
      let c = no-count slot.put slot.chosen slot.appended in
      omega (arith, a, b, c)

  slots-count : (slots : List Slot)
      → sum_by (start_counts count) (play_events slots) ≡ sum_by (λ (s : Slot). count s.asked) slots
  slots-count slots = all-counts (start_counts count) slot_events (λ (s : Slot). count s.asked) slot-count slots

module _ (events : List Event) (slots : List Slot) (is : said_of_all events ≡ play_events slots) where
  real-counts : count_by is_real events ≡ real_in slots
  real-counts =
      sym (all-counts (start_counts real_count) said_of (λ e. cond (is_real e) 1 0) real-event events)
      ∙ (ap (sum_by (start_counts real_count)) is ∙ slots-count real_count slots)

  dummy-counts : count_by is_dummy events ≡ dummies_in slots
  dummy-counts =
      sym (all-counts (start_counts dummy_count) said_of (λ e. cond (is_dummy e) 1 0) dummy-event events)
      ∙ (ap (sum_by (start_counts dummy_count)) is ∙ slots-count dummy_count slots)

-- The report that a log counts is the play's.
report-is : (p : Public) (run : Play) (ending : PlayEnding) (numbers : Numbers) (last : ℕ) (log : LogLists)
    → Shows run ending numbers last log → shown_report p ending numbers last log ≡ report_of p run
report-is p run ending numbers last log x =
    let real = real-counts log.events run.slots x.events in
    let dummies = dummy-counts log.events run.slots x.events in
    let indices = (log-shows log.events run.slots x.events).1 in
    let made : PlayEnding → Numbers → ℕ → ℕ → ℕ → List ℕ → PlayReport =
    (λ e n l r d i. record {
      ending = e;
      instructions = n.instructions;
      cycles = n.cycles;
      last = l;
      fetches = n.fetches;
      real = r;
      dummies = d;
      choices = length i;
      code = code_of (count_of p) i;
    }) in
    ap (λ e. made e numbers last (count_by is_real log.events) (count_by is_dummy log.events)
    (indices_of log.events)) (sym x.ending)
    ∙ (ap (λ n. made run.ending n last (count_by is_real log.events) (count_by is_dummy log.events)
    (indices_of log.events)) (sym x.numbers)
    ∙ (ap (λ l. made run.ending run.numbers l (count_by is_real log.events) (count_by is_dummy log.events)
    (indices_of log.events)) (sym x.last)
    ∙ (ap (λ r. made run.ending run.numbers run.last r (count_by is_dummy log.events) (indices_of log.events)) real
    ∙ (ap (λ d. made run.ending run.numbers run.last (real_in run.slots) d (indices_of log.events)) dummies
    ∙ ap (λ i. made run.ending run.numbers run.last (real_in run.slots) (dummies_in run.slots) i) indices))))

pub shown-played : (config : Config) (whole : Play) (ending : PlayEnding) (numbers : Numbers) (last : ℕ) (log :
    LogLists)
    → RunShows config.shape.levels whole ending numbers last log
    → IsPlayed config whole (shown_report (public_of config) ending numbers last log) log
shown-played config whole ending numbers last log (run, is, x) = record {
  run = run;
  is = inl is;
  events = x.events;
  report_is = report-is (public_of config) run ending numbers last log x;
}
