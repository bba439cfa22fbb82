-- What is accepted and answered changes no verdict on a log; so a full stash that a run's log shows, where no reply was
-- altered, is one of its play.
use Rattle.std.proofs.Common.{◌≡◌, ◌+◌, ◌⊎◌, inl, inr, ℕ, suc, List, [], ◌∷◌, ◌++◌, length, map, Option, None, Some}
use Rattle.std.proofs.Common.{take, refl, sym, ◌∙◌, ap, ap₂, subst, append_assoc}
use Rattle.std.specs.Prelude.{slice_get}
use Rattle.std.specs.List.{flat_map}
use Rattle.std.specs.Option.{option_map_or}
use Rattle.asc_base.specs.declared.block.Entry.{Entry}
use Rattle.asc_base.specs.declared.block.Leaf.{Leaf}
use Rattle.asc_base.specs.declared.block.Message.{Message}
use Rattle.asc_base.specs.declared.block.Point.{Point}
use Rattle.asc_base.specs.declared.block.Point.TheVariants.{Real, Dummy}
use Rattle.asc_base.specs.declared.settings.Config.{Config}
use Rattle.asc_base.specs.declared.shape.Shape.{Shape}
use Rattle.asc_base.specs.declared.stop.Evidence.{Evidence}
use Rattle.asc_base.specs.declared.stop.Stop.{Stop}
use Rattle.asc_base.specs.declared.stop.Stop.TheVariants as why
use Rattle.bus_watch.specs.Log.{LogLists}
use Rattle.bus_watch.specs.declared.log.Event.{Event}
use Rattle.bus_watch.specs.declared.log.Event.TheVariants.{Access, Drawn, Tagged, Accepted, Chosen, Answered}
use Rattle.log_replay.specs.Judged.{verdict_on}
use Rattle.log_replay.specs.Order.{Behind, Nothing, Appends, Answers, SlotNotes, accepted_events, chosen_events}
use Rattle.log_replay.specs.Order.{behind_events, events_of, LogOrder}
use Rattle.oram_contents.specs.Entries.{Keys}
use Rattle.oram_contents.specs.Fold.{Fold, after_event, fold_events}
use Rattle.oram_contents.specs.Starts.{first_fold}
use Rattle.oram_contents.specs.Verdict.{event_verdict, events_verdict, first_of, open_verdict, put_events}
use Rattle.play_run.specs.Shows.{IsRunOf, IsPlayed, IsOwn, IsWholePlay}
use Rattle.play_run.proofs.Whole.{played-whole}
use Rattle.run_play.specs.Halt as cut
use Rattle.run_play.specs.Halt.{Overfull, ending_of, halt, cut_at, unprepared}
use Rattle.run_play.specs.Play as how
use Rattle.run_play.specs.Play.{Play, PlayEnding}
use Rattle.run_play.specs.PlayEvents.{PlayReport, play_events, said_of_all}
use Rattle.run_play.specs.Slots.{Slot}
use Rattle.run_play.proofs.Halts.{halt-numbers}
use Rattle.secure_machine.specs.Full.{noted, log_of, NoSlotIsFull}
use Rattle.secure_machine.specs.Judged.{ShowsEnding}
use Rattle.secure_machine.specs.Plays.{play_ending, play_report}
use Rattle.secure_machine.specs.declared.report.Ending.{Ending}
use Rattle.secure_machine.specs.declared.report.Ending.TheVariants.{Exit, Trap, Budget, TimeUp, StashFull, Integrity}
use Rattle.secure_machine.specs.declared.report.Ending.TheVariants.{Device}
use Rattle.secure_machine.specs.declared.report.Report.{Report}

first_none : (x : Option Stop) → first_of x None ≡ x
first_none None = refl
first_none (Some stop) = refl

first_twice : (x y z : Option Stop) → first_of (first_of x y) z ≡ first_of x (first_of y z)
first_twice None y z = refl
first_twice (Some stop) y z = refl

-- the next slot starts, or nothing comes
abbrev StartsSlot : List Event → Type 0
StartsSlot [] = Unit {0}
StartsSlot (Access start asked ∷ later) = Unit {0}
StartsSlot (Drawn point leaf ∷ later) = ⊥
StartsSlot (Tagged m ∷ later) = ⊥
StartsSlot (Accepted m t ∷ later) = ⊥
StartsSlot (Chosen index ∷ later) = ⊥
StartsSlot (Answered line value ∷ later) = ⊥

module _ (keys : Keys) where
  -- each leaf is its point's, and an answer is the last event of its slot
  abbrev IsPlain : List Event → Type 0
  IsPlain [] = Unit {0}
  IsPlain (Access start asked ∷ later) = IsPlain later
  IsPlain (Drawn point leaf ∷ later) = (leaf ≡ record { 0 = keys.leaf_of point }) × IsPlain later
  IsPlain (Tagged m ∷ later) = IsPlain later
  IsPlain (Accepted m t ∷ later) = IsPlain later
  IsPlain (Chosen index ∷ later) = IsPlain later
  IsPlain (Answered line value ∷ later) = StartsSlot later × IsPlain later

  accepted_plain : (p : Point) (found : Option Entry) (later : List Event) → IsPlain later
      → IsPlain (accepted_events p found ++ later)
  accepted_plain (Real a c) None later plain = plain
  accepted_plain (Real a c) (Some e) later plain = plain
  accepted_plain (Dummy n) found later plain = plain

  put_plain : (put : Option Message) (later : List Event) → IsPlain later → IsPlain (put_events put ++ later)
  put_plain None later plain = plain
  put_plain (Some m) later plain = plain

  chosen_plain : (index : Option ℕ) (later : List Event) → IsPlain later → IsPlain (chosen_events index ++ later)
  chosen_plain None later plain = plain
  chosen_plain (Some index) later plain = plain

  starts_slot : (slots : List SlotNotes) → StartsSlot (flat_map (events_of keys) slots)
  starts_slot [] = tt
  starts_slot (s ∷ later) = tt

  behind_plain : (b : Behind) (slots : List SlotNotes) → IsPlain (flat_map (events_of keys) slots)
      → IsPlain (behind_events b ++ flat_map (events_of keys) slots)
  behind_plain Nothing slots plain = plain
  behind_plain (Appends m) slots plain = plain
  behind_plain (Answers line value) slots plain = (starts_slot slots, plain)

  -- the events of slots are
  slots_plain : (slots : List SlotNotes) → IsPlain (flat_map (events_of keys) slots)
  slots_plain [] = tt
  slots_plain (s ∷ later) =
      let rest = flat_map (events_of keys) later in
      let behind = behind_events s.behind in
      let chosen = chosen_events s.chosen in
      let put = put_events s.put in
      let found = accepted_events s.point s.found in
      let apart : (found ++ (put ++ (chosen ++ behind))) ++ rest ≡ found ++ (put ++ (chosen ++ (behind ++ rest))) =
      append_assoc found (put ++ (chosen ++ behind)) rest
      ∙ ap (λ l. found ++ l) (append_assoc put (chosen ++ behind) rest
      ∙ ap (λ l. put ++ l) (append_assoc chosen behind rest)) in (
        refl,
        subst IsPlain (sym apart) (accepted_plain s.point s.found (put ++ (chosen ++ (behind ++ rest)))
            (put_plain s.put (chosen ++ (behind ++ rest)) (chosen_plain s.chosen (behind ++ rest)
            (behind_plain s.behind later (slots_plain later))))),
      )

  module _ (stash : ℕ) where
    -- what events show to be wrong from a fold on, up to the open path, where no reply was altered
    abbrev shows : List Event → Fold → Option Stop
    shows [] f = open_verdict keys stash f.path f.now
    shows (e ∷ later) f = first_of (event_verdict keys stash [] 0 e f) (shows later (after_event keys [] 0 e f))

    same_event : (n : ℕ) (e : Event) (f : Fold) → event_verdict keys stash [] n e f ≡ event_verdict keys stash [] 0 e f
    same_event n (Access start asked) f = refl
    same_event n (Drawn p x) f = refl
    same_event n (Accepted m t) f = refl
    same_event n (Tagged m) f = refl
    same_event n (Chosen index) f = refl
    same_event n (Answered line value) f = refl

    same_fold : (n : ℕ) (e : Event) (f : Fold) → after_event keys [] n e f ≡ after_event keys [] 0 e f
    same_fold n (Access start asked) f = refl
    same_fold n (Drawn p x) f = refl
    same_fold n (Accepted m t) f = refl
    same_fold n (Tagged m) f = refl
    same_fold n (Chosen index) f = refl
    same_fold n (Answered line value) f = refl

    shown : (n : ℕ) (events : List Event) (f : Fold)
        → first_of (events_verdict keys stash [] n events f)
        (let g = fold_events keys [] n events f in open_verdict keys stash g.path g.now) ≡ shows events f
    shown n [] f = refl
    shown n (e ∷ later) f =
        let g = after_event keys [] n e f in
        let h = fold_events keys [] (n + 1) later g in
        first_twice (event_verdict keys stash [] n e f) (events_verdict keys stash [] (n + 1) later g)
        (open_verdict keys stash h.path h.now)
        ∙ ap₂ first_of (same_event n e f) (shown (n + 1) later g ∙ ap (shows later) (same_fold n e f))

    -- what is accepted and answered shows nothing
    skimmed : (events : List Event) (f : Fold) → IsPlain events
        → shows events f ≡ shows (map (noted keys) (said_of_all events)) f
    skimmed [] f plain = refl
    skimmed (Access start asked ∷ later) f plain =
        ap (first_of (event_verdict keys stash [] 0 (Access start asked) f))
        (skimmed later (after_event keys [] 0 (Access start asked) f) plain)
    skimmed (Drawn p x ∷ later) f plain =
        ap₂ (λ (y : Leaf) v. first_of (event_verdict keys stash [] 0 (Drawn p y) f) v) plain.0
        (skimmed later (after_event keys [] 0 (Drawn p x) f) plain.1
        ∙ ap (λ (y : Leaf). shows (map (noted keys) (said_of_all later)) (after_event keys [] 0 (Drawn p y) f)) plain.0)
    skimmed (Tagged m ∷ later) f plain =
        ap (first_of (event_verdict keys stash [] 0 (Tagged m) f))
        (skimmed later (after_event keys [] 0 (Tagged m) f) plain)
    skimmed (Accepted m t ∷ later) f plain = skimmed later f plain
    skimmed (Chosen index ∷ later) f plain =
        ap (first_of (event_verdict keys stash [] 0 (Chosen index) f))
        (skimmed later (after_event keys [] 0 (Chosen index) f) plain)
    skimmed (Answered line value ∷ []) f plain = first_none (open_verdict keys stash f.path f.now)
    skimmed (Answered line value ∷ Access start asked ∷ later) f plain =
        skimmed (Access start asked ∷ later) f plain.1
    skimmed (Answered line value ∷ Drawn p x ∷ later) f plain = absurd plain.0
    skimmed (Answered line value ∷ Tagged m ∷ later) f plain = absurd plain.0
    skimmed (Answered line value ∷ Accepted m t ∷ later) f plain = absurd plain.0
    skimmed (Answered line value ∷ Chosen index ∷ later) f plain = absurd plain.0
    skimmed (Answered line value ∷ Answered number bytes ∷ later) f plain = absurd plain.0

    -- The verdict on the log of a play, where no reply was altered, is that on what the play says of it.
    said_verdict : (log : LogLists) (run : Play) → LogOrder keys log → log.altered ≡ []
        → said_of_all log.events ≡ play_events run.slots
        → verdict_on keys stash log ≡ verdict_on keys stash (log_of keys run)
    said_verdict log run order none said =
        let first = first_fold keys in
        let events = flat_map (events_of keys) order.slots in
        ap (λ altered. verdict_on keys stash (record log { altered = altered })) none
        ∙ shown 0 log.events first ∙ ap (λ es. shows es first) order.events
        ∙ skimmed events first (slots_plain order.slots)
        ∙ ap (λ es. shows (map (noted keys) (said_of_all es)) first) (sym order.events)
        ∙ ap (λ es. shows (map (noted keys) es) first) said
        ∙ sym (shown 0 (map (noted keys) (play_events run.slots)) first)

none_beyond : (slots : List Slot) → slice_get slots (length slots) ≡ None
none_beyond [] = refl
none_beyond (slot ∷ later) = none_beyond later

-- a play that is cut behind all its slots is left as it is
beyond : (levels : ℕ) (whole : Play) (stop : cut.Stop) → halt levels whole (suc (length whole.slots)) stop ≡ whole
beyond levels whole stop =
    ap (λ slot. option_map_or (cut_at levels stop (take (length whole.slots) whole.slots)) slot whole)
    (none_beyond whole.slots)

-- where a play is cut, or whole, that ends by a full stash
record IsFullAt (levels : ℕ) (whole run : Play) (held : ℕ) : Type 0 where
  k : ℕ
  stop : cut.Stop
  ends : ending_of stop ≡ how.StashFull held
  is : run ≡ halt levels whole k stop

whole_full : (levels : ℕ) (whole run : Play) (held : ℕ) → run ≡ whole → IsFullAt levels whole run held
whole_full levels whole run held is = record {
  k = suc (length whole.slots);
  stop = Overfull held;
  ends = refl;
  is = is ∙ sym (beyond levels whole (Overfull held));
}

full_at : (levels : ℕ) (whole run : Play) (held : ℕ) → IsRunOf levels whole run ⊎ (run ≡ unprepared)
    → run.ending ≡ how.StashFull held → IsFullAt levels whole run held
full_at levels whole run held (inl (inl is)) ends = whole_full levels whole run held is
full_at levels whole run held (inl (inr h)) ends = record {
  k = suc h.before;
  stop = h.stop;
  ends = sym (ap (λ (r : Play). r.ending) h.is ∙ (halt-numbers levels whole h.before h.stop h.slot h.at).1) ∙ ends;
  is = h.is;
}
full_at levels whole run held (inr is) ends =
    let bad : how.Device ≡ how.StashFull held = sym (ap (λ (r : Play). r.ending) is) ∙ ends in cc

-- A full stash that a run's log shows is one of its play, where no reply was altered.
pub never_full : (keys : Keys) (stash : ℕ) (config : Config) (whole : Play) (report : PlayReport) (log : LogLists)
    → keys.shape ≡ config.shape → IsPlayed config whole report log → LogOrder keys log → log.altered ≡ []
    → NoSlotIsFull keys stash whole → (held : ℕ) → report.ending ≡ how.StashFull held
    → verdict_on keys stash log ≡ Some (why.StashFull held) → ⊥
never_full keys stash config whole report log shape played order none room held ends full =
    let at = full_at config.shape.levels whole played.run held played.is
    (sym (ap (λ (r : PlayReport). r.ending) played.report_is) ∙ ends) in
    let same : verdict_on keys stash log ≡ verdict_on keys stash (log_of keys played.run) =
    said_verdict keys stash log played.run order none played.events in
    let cut_is : played.run ≡ halt keys.shape.levels whole at.k at.stop =
    at.is ∙ ap (λ n. halt n whole at.k at.stop) (ap (λ (s : Shape). s.levels) (sym shape)) in
    room at.k at.stop held at.ends
    (ap (λ (r : Play). verdict_on keys stash (log_of keys r)) (sym cut_is) ∙ sym same ∙ full)

module _ (keys : Keys) (config : Config) (whole : Play) (report : Report) (log : LogLists)
    (shape : keys.shape ≡ config.shape) (played : IsPlayed config whole (play_report report) log)
    (order : LogOrder keys log) (none : log.altered ≡ [])
    (shows : ShowsEnding keys config.stash report.ending log)
    (blamed : (evidence : Evidence) → report.ending ≡ Integrity evidence → ⊥) (failed : report.ending ≡ Device → ⊥)
    (room : NoSlotIsFull keys config.stash whole) where
  own_if : (ending : Ending) → report.ending ≡ ending → IsOwn (play_ending report.ending)
  own_if (Exit status) is = subst (λ e. IsOwn (play_ending e)) (sym is) tt
  own_if (Trap kind pc) is = subst (λ e. IsOwn (play_ending e)) (sym is) tt
  own_if Budget is = subst (λ e. IsOwn (play_ending e)) (sym is) tt
  own_if (TimeUp at) is = subst (λ e. IsOwn (play_ending e)) (sym is) tt
  own_if (StashFull held) is = absurd (never_full keys config.stash config whole (play_report report) log shape played
      order none room held (ap play_ending is) (subst (λ e. ShowsEnding keys config.stash e log) is shows).wrong)
  own_if (Integrity evidence) is = absurd (blamed evidence is)
  own_if Device is = absurd (failed is)

  -- A run without altered replies, which no failure ended, and of whose play no slot is full, ends by itself or by the
  -- time, and is the whole play.
  pub ends_itself : IsOwn (play_ending report.ending)
  ends_itself = own_if report.ending refl

  pub completes : IsWholePlay config whole (play_report report) log
  completes = played-whole config whole (play_report report) log played ends_itself
