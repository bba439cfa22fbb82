-- Appends and answers between slots, and the pace of a port.
use Rattle.std.proofs.Common.{◌≡◌, ◌<◌, ℕ, List, [], ◌∷◌, ◌++◌, length, Option, Some, None, refl, sym, ap, ◌∙◌}
use Rattle.std.proofs.Common.{subst, append-nil, append_assoc, length-append}
use Rattle.std.specs.Prelude.{option_to_list}
use Rattle.std.specs.List.{All}
use Rattle.std.proofs.lemmas.List.{map-append}
use Rattle.std.proofs.lemmas.List.Concat.{flat_map-append}
use Rattle.std.proofs.lemmas.List.Sums.{sum_by-append}
use Rattle.asc_base.specs.TreeShape.{olat_of}
use Rattle.asc_base.specs.declared.block.Line.{Line}
use Rattle.asc_base.specs.declared.block.Message.{Message}
use Rattle.asc_base.specs.declared.block.Point.{Point}
use Rattle.bus_schedule.specs.Shown.{code_of, starts_of}
use Rattle.bus_schedule.specs.Scheduled.{log_code}
use Rattle.bus_schedule.specs.Timetable.{Public, public_of, count_of, beat_at, end_at}
use Rattle.bus_schedule.proofs.TimetableLaws.{length-starts}
use Rattle.bus_schedule.specs.declared.beat.Beat.{Beat}
use Rattle.bus_watch.specs.Log.{LogLists}
use Rattle.bus_watch.specs.declared.log.Event.TheVariants.{Tagged, Answered}
use Rattle.epoch_learner.specs.Heard.{nothing_heard}
use Rattle.epoch_learner.specs.Learner.{Follows, Remembers}
use Rattle.oram_contents.specs.Entries.{Keys}
use Rattle.oram_contents.specs.Starts.{empty_log}
use Rattle.oram_frontend.specs.Slots.{IsServedAppend, IsServedAnswer}
use Rattle.rate_enforcer.specs.PortStep.{PortState, Resting}
use Rattle.rate_enforcer.specs.declared.clock.Clock.{Clock}
use Rattle.run_play.specs.OnTime.{heard_in, IsPace}
use Rattle.run_play.specs.PlayEvents.{Tags, said_of, said_of_all, slot_events, play_events, starts_in, indices_in}
use Rattle.run_play.specs.PlayEvents.{dummies_in, code_in}
use Rattle.run_play.specs.Slots.{Pace, Numbers, Slot, first_pace, dummy_count}
use Rattle.run_play.proofs.Events.{log-shows, log-tells}
use Rattle.run_play.proofs.IsPaced.{pace-start}
use Rattle.run_play.proofs.Paces.{Paced, is-pace, from-pace, heard-last}
use Rattle.oram_play.specs.Taken.{HasTaken, IsPaceOf, with_appended}

-- ---- a message that is appended
-- other slots with the same starts, choices and dummies leave the same pace
same-pace : (p : Public) (slots others : List Slot) (pace : Pace) → starts_in others ≡ starts_in slots
    → indices_in others ≡ indices_in slots → dummies_in others ≡ dummies_in slots → length others ≡ length slots
    → heard_in p others ≡ heard_in p slots → IsPace p slots pace → IsPace p others pace
same-pace p slots others pace begun indices dummies long heard is =
    let h : Paced p slots pace = from-pace p slots pace is in
    is-pace p others pace
    (record {
      code = h.code;
      count = h.count;
      code_is = h.code_is ∙ ap (code_of (count_of p)) (sym indices);
      counted = long ∙ h.counted;
      begun = begun ∙ h.begun;
      beat = h.beat;
      heard = h.heard ∙ sym heard;
      ended = h.ended;
      dummies = h.dummies ∙ sym dummies;
      within = subst (λ l. All (λ index. index < count_of p) l) (sym indices) h.within;
      fell = ap length indices ∙ h.fell;
    })

appended-pace : (p : Public) (slots : List Slot) (slot : Slot) (message : Message) (pace : Pace)
    → IsPace p (slots ++ slot ∷ []) pace → IsPace p (slots ++ with_appended slot message ∷ []) pace
appended-pace p slots slot message pace is =
    let other : Slot = with_appended slot message in
    same-pace p (slots ++ slot ∷ []) (slots ++ other ∷ []) pace
    (map-append (λ (s : Slot). s.start) slots (other ∷ [])
    ∙ sym (map-append (λ (s : Slot). s.start) slots (slot ∷ [])))
    (flat_map-append (λ (s : Slot). option_to_list s.chosen) slots (other ∷ [])
    ∙ sym (flat_map-append (λ (s : Slot). option_to_list s.chosen) slots (slot ∷ [])))
    (sum_by-append (λ (s : Slot). dummy_count s.asked) slots (other ∷ [])
    ∙ sym (sum_by-append (λ (s : Slot). dummy_count s.asked) slots (slot ∷ [])))
    (length-append slots (other ∷ []) ∙ sym (length-append slots (slot ∷ [])))
    (heard-last (olat_of p.levels) nothing_heard slots other
    ∙ sym (heard-last (olat_of p.levels) nothing_heard slots slot)) is

-- its event stands behind those of the slot
abbrev bare : ℕ → Option ℕ → Point → Option Message → Option ℕ → Option Message → Numbers → Slot
bare start asked point put chosen appended numbers = record {
  start = start;
  asked = asked;
  point = point;
  put = put;
  chosen = chosen;
  appended = appended;
  left = numbers;
}

bare-appended : (start : ℕ) (asked : Option ℕ) (point : Point) (put : Option Message) (chosen : Option ℕ)
    (numbers : Numbers) (message : Message)
    → slot_events (bare start asked point put chosen None numbers) ++ Tags message ∷ []
    ≡ slot_events (bare start asked point put chosen (Some message) numbers)
bare-appended start asked point None None numbers message = refl
bare-appended start asked point None (Some index) numbers message = refl
bare-appended start asked point (Some put) None numbers message = refl
bare-appended start asked point (Some put) (Some index) numbers message = refl

pub slot-appended : (slot : Slot) (message : Message) → slot.appended ≡ None
    → slot_events slot ++ Tags message ∷ [] ≡ slot_events (with_appended slot message)
slot-appended slot message none =
    ap (λ appended. slot_events (bare slot.start slot.asked slot.point slot.put slot.chosen appended slot.left)
    ++ Tags message ∷ []) none
    ∙ bare-appended slot.start slot.asked slot.point slot.put slot.chosen slot.left message

pub last-events : (slots : List Slot) (slot : Slot)
    → play_events (slots ++ slot ∷ []) ≡ play_events slots ++ slot_events slot
last-events slots slot =
    flat_map-append slot_events slots (slot ∷ []) ∙ ap (λ l. play_events slots ++ l) (append-nil (slot_events slot))

pub append-taken : (keys : Keys) (message : Message) (old new : PortState) (slots : List Slot) (slot : Slot)
    (pace : Pace) → IsServedAppend keys message old new → HasTaken old (slots ++ slot ∷ []) pace → slot.appended ≡ None
    → HasTaken new (slots ++ with_appended slot message ∷ []) pace
append-taken keys message old new slots slot pace x had none = record {
  said = ap said_of_all x.events
      ∙ flat_map-append said_of old.tap.log.events (Tagged message ∷ [])
      ∙ ap (λ l. l ++ Tags message ∷ []) (had.said ∙ last-events slots slot)
      ∙ append_assoc (play_events slots) (slot_events slot) (Tags message ∷ [])
      ∙ ap (λ l. play_events slots ++ l) (slot-appended slot message none)
      ∙ sym (last-events slots (with_appended slot message));
  pace = subst (λ (c : Clock). IsPace (public_of c.config) (slots ++ with_appended slot message ∷ []) pace)
      (sym x.clock) (appended-pace (public_of old.clock.config) slots slot message pace had.pace);
  dummies = had.dummies ∙ ap (λ (c : Clock). c.dummies) (sym x.clock);
}

-- ---- a line that is answered
pub answer-taken : (line : ℕ) (value : Line) (old new : PortState) (slots : List Slot) (pace : Pace)
    → IsServedAnswer line value old new → HasTaken old slots pace → HasTaken new slots pace
answer-taken line value old new slots pace x had = record {
  said = ap said_of_all x.events
      ∙ flat_map-append said_of old.tap.log.events (Answered line value ∷ [])
      ∙ append-nil (said_of_all old.tap.log.events) ∙ had.said;
  pace = subst (λ (c : Clock). IsPace (public_of c.config) slots pace) (sym x.clock) had.pace;
  dummies = had.dummies ∙ ap (λ (c : Clock). c.dummies) (sym x.clock);
}

-- ---- the pace of a port
pub start-taken : (s : PortState) → s.tap.log ≡ empty_log → s.clock.dummies ≡ 0
    → HasTaken s [] (first_pace (public_of s.clock.config))
start-taken s log dummies = record {
  said = ap (λ (l : LogLists). said_of_all l.events) log;
  pace = pace-start (public_of s.clock.config);
  dummies = sym dummies;
}

pub pace-of : (levels notes : ℕ) (s : PortState) (slots : List Slot) (pace : Pace) → HasTaken s slots pace
    → Resting notes levels s → IsPaceOf s pace
pace-of levels notes s slots pace had r =
    let p = public_of s.clock.config in
    let shows = log-shows s.tap.log.events slots had.said in
    let code : log_code p s.tap.log ≡ code_in p slots = ap (code_of (count_of p)) shows.1 in
    let one : length (starts_of s.tap.log.events) ≡ r.done =
    ap length r.stands.between.begun ∙ length-starts p (log_code p s.tap.log) r.done in
    let two : length (starts_of s.tap.log.events) ≡ length slots =
    ap length (shows.0 ∙ had.pace.starts) ∙ length-starts p (code_in p slots) (length slots) in
    let long : r.done ≡ length slots = sym one ∙ two in
    let beat : beat_at p (log_code p s.tap.log) r.done ≡ pace.beat =
    ap (λ c. beat_at p c r.done) code ∙ ap (beat_at p (code_in p slots)) long ∙ sym had.pace.beat in
    record {
      next = ap (λ (b : Beat). b.next) (sym beat) ∙ sym r.stands.next_is;
      last = had.pace.ended ∙ ap (end_at p (code_in p slots)) (sym long)
          ∙ ap (λ c. end_at p c r.done) (sym code) ∙ sym r.stands.last_is;
      follows = subst (λ b. Follows s.clock.config b s.clock.learner) beat r.stands.step.follows;
      remembers = subst (Remembers s.clock.learner) (log-tells p s.tap.log.events slots had.said ∙ sym had.pace.heard)
          r.stands.step.remembers;
    }
