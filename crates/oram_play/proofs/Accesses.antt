-- An answered access takes its slot, and those that pass before it.
use Rattle.std.proofs.Common.{◌≡◌, ◌<◌, ◌⊎◌, ℕ, zero, suc, ◌+◌, List, [], ◌∷◌, ◌++◌, Option, Some, None, refl}
use Rattle.std.proofs.Common.{sym, ap, ◌∙◌, subst, arith, append_assoc, inl, inr, eq-or-lt_of_le}
use Rattle.std.specs.Prelude.{min}
use Rattle.std.specs.List.{All}
use Rattle.std.proofs.lemmas.List.{append_cancel_left, map-append}
use Rattle.std.proofs.lemmas.List.Concat.{flat_map-append}
use Rattle.std.proofs.lemmas.List.Elements.{All-pop}
use Rattle.asc_base.specs.Settings.{IsConfig}
use Rattle.asc_base.specs.TreeShape.{olat_of}
use Rattle.asc_base.specs.declared.block.Entry.{Entry}
use Rattle.asc_base.specs.declared.block.Line.{Line}
use Rattle.asc_base.specs.declared.block.Counter.{Counter}
use Rattle.asc_base.specs.declared.block.Message.{Message}
use Rattle.asc_base.specs.declared.block.Point.{Point}
use Rattle.asc_base.specs.declared.block.Point.TheVariants.{Real}
use Rattle.asc_base.specs.declared.settings.Config.{Config}
use Rattle.bus_schedule.specs.Asked.{ServesPromptly, IsFirstFrom}
use Rattle.bus_schedule.specs.Shown.{starts_of, AreSilent}
use Rattle.bus_schedule.specs.Timetable.{Public, public_of, count_of}
use Rattle.bus_schedule.proofs.AskedLaws.{serves-each}
use Rattle.bus_schedule.proofs.ScheduledLaws.{silent-none, silent-one, silent-append}
use Rattle.bus_watch.specs.Log.{LogLists}
use Rattle.bus_watch.specs.declared.log.Event.{Event}
use Rattle.bus_watch.specs.declared.log.Event.TheVariants.{Access as Starts, Drawn, Tagged, Accepted}
use Rattle.epoch_learner.specs.Heard.{nothing_heard, ChoosesByRule}
use Rattle.epoch_learner.specs.Stands.{Stands}
use Rattle.epoch_learner.specs.declared.Learner.{Learner}
use Rattle.oram_contents.specs.Contents.{Contents}
use Rattle.oram_contents.specs.Entries.{Keys, message_of}
use Rattle.oram_contents.specs.Slots.{drawn_events}
use Rattle.oram_contents.specs.Steps.{accepted}
use Rattle.oram_contents.specs.Verdict.{line_found}
use Rattle.oram_frontend.specs.Slots.{Keeps, SlotOf, IsServedSlot}
use Rattle.oram_walk.specs.declared.slots.Access.{Access}
use Rattle.oram_walk.specs.declared.slots.Purpose.{Purpose}
use Rattle.oram_walk.specs.declared.slots.Purpose.TheVariants.{Refill, Keep, Replace}
use Rattle.oram_walk.specs.declared.slots.Seen.{Seen}
use Rattle.rate_enforcer.specs.Clock.{chosen_events}
use Rattle.rate_enforcer.specs.PortStep.{PortState, contents}
use Rattle.run_play.specs.OnTime.{IsPace}
use Rattle.run_play.specs.PlayEvents.{said_of, said_of_all, tags_of, starts_in}
use Rattle.run_play.specs.Slots.{Pace, Numbers, Slot, Passed, passed, pace_after, slot_next, dummy_next}
use Rattle.run_play.proofs.Events.{log-shows}
use Rattle.run_play.proofs.IsPaced.{pace-slot}
use Rattle.run_play.proofs.PlaysOnTime.{some-rate}
use Rattle.epoch_learner.specs.Stands.{AreDone, ChoosesAtEnds}
use Rattle.oram_play.specs.Taken.{HasTaken, put_in, asked_start, asked_slots}
use Rattle.oram_play.proofs.Due.{HasSlot, due, said-more, by-rule-before}
use Rattle.oram_play.proofs.Passes.{Said, HasEnd, end-noted, ends-before, waited, dummies_after, waited-dummies}
use Rattle.oram_play.proofs.Passes.{passes-said, Early, waited-rises, passed-waited}

-- what a port that stands between two slots knows of its log
pub record Knows (config : Config) (log : LogLists) : Type 0 where
  pub is_config : IsConfig config
  pub done : AreDone (public_of config) log.events
  pub rule : ChoosesByRule (public_of config) log.events
  pub ends : ChoosesAtEnds (public_of config) log.events
  pub prompt : ServesPromptly log.events

pub stands-knows : (config : Config) (n last next : ℕ) (learner : Learner) (log : LogLists)
    → Stands config n last next learner log → Knows config log
stands-knows config n last next learner log s = record {
  is_config = s.step.follows.is_of.is_config;
  done = record {
    count = n;
    begun = s.between.begun;
    indices = s.between.chosen.indices;
    fell = s.between.chosen.fell;
  };
  rule = s.step.rule;
  ends = s.step.ends;
  prompt = s.step.prompt;
}

-- ---- the events of an access
-- what is noted in its slot, behind its start
record HasNotes (keys : Keys) (access : Access) (old log : List Event) (start : ℕ) (put : Option Message) : Type 0 where
  pub asked : Option ℕ
  pub notes : List Event
  pub silent : AreSilent notes
  pub said : said_of_all notes ≡ tags_of put
  pub events : log ≡ old ++ (drawn_events keys start asked (Real access.address access.counter) ++ notes)

pub accepted-silent : (a : ℕ) (c : Counter) (found : Option Entry) → AreSilent (accepted a c found)
accepted-silent a c None = silent-none
accepted-silent a c (Some e) = silent-one (Accepted (message_of a c e.line.0) e.tag) refl refl refl

pub accepted-said : (a : ℕ) (c : Counter) (found : Option Entry) → said_of_all (accepted a c found) ≡ []
accepted-said a c None = refl
accepted-said a c (Some e) = refl

pub tagged-silent : (a : ℕ) (c : Counter) (found : Option Entry) (message : Message)
    → AreSilent (accepted a c found ++ Tagged message ∷ [])
tagged-silent a c found message =
    silent-append (accepted a c found) (Tagged message ∷ []) (accepted-silent a c found)
    (silent-one (Tagged message) refl refl refl)

pub tagged-said : (a : ℕ) (c : Counter) (found : Option Entry) (message : Message)
    → said_of_all (accepted a c found ++ Tagged message ∷ []) ≡ tags_of (Some message)
tagged-said a c found message =
    flat_map-append said_of (accepted a c found) (Tagged message ∷ [])
    ∙ ap (λ l. l ++ said_of_all (Tagged message ∷ [])) (accepted-said a c found)

slot-notes : (keys : Keys) (access : Access) (purpose : Purpose) (old log : LogLists) (now after : Contents) (start : ℕ)
    (found : Option Entry) → SlotOf keys access purpose old log now after start found
    → HasNotes keys access old.events log.events start (put_in access (record { 0 = line_found found }) purpose)
slot-notes keys access Refill old log now after start found s = record {
  asked = s.asked;
  notes = accepted access.address.0 access.counter found;
  silent = accepted-silent access.address.0 access.counter found;
  said = accepted-said access.address.0 access.counter found;
  events = s.events_are;
}
slot-notes keys access Keep old log now after start found s =
    let message : Message = message_of access.address.0 access.next (line_found found) in
    record {
      asked = s.asked;
      notes = accepted access.address.0 access.counter found ++ Tagged message ∷ [];
      silent = tagged-silent access.address.0 access.counter found message;
      said = tagged-said access.address.0 access.counter found message;
      events = s.events_are;
    }
slot-notes keys access (Replace value) old log now after start found s =
    let message : Message = message_of access.address.0 access.next value.0 in
    record {
      asked = s.asked;
      notes = accepted access.address.0 access.counter found ++ Tagged message ∷ [];
      silent = tagged-silent access.address.0 access.counter found message;
      said = tagged-said access.address.0 access.counter found message;
      events = s.events_are;
    }

-- who asked for a slot
asked-same : (start : ℕ) (a b : Option ℕ) (xs ys : List Event) → Starts start a ∷ xs ≡ Starts start b ∷ ys → a ≡ b
asked-same start a b xs ys e = cc

-- an access's slot with the choice at its end
record HasAccess (keys : Keys) (access : Access) (line : Line) (old new : LogLists) (start : ℕ) : Type 0 where
  pub chosen : Option ℕ
  pub slot : HasSlot old.events new.events start (Some access.asked) (Real access.address access.counter)
      (put_in access line access.purpose) chosen
  pub later : List Event
  pub parts : new.events ≡ old.events ++ Starts start (Some access.asked) ∷ later

access-noted : (keys : Keys) (access : Access) (seen : Seen) (old new : PortState)
    → (x : IsServedSlot keys access seen old new) → HasAccess keys access seen.line x.mid new.tap.log x.start
access-noted keys access seen old new x =
    let point : Point = Real access.address access.counter in
    let n = slot-notes keys access access.purpose x.mid x.log x.between (contents new) x.start x.found x.slot in
    let end : HasEnd x.log new.tap.log = end-noted x.log new.tap.log x.ends in
    let asked : n.asked ≡ Some access.asked =
    asked-same x.start n.asked (Some access.asked) _ _
    (append_cancel_left x.mid.events (drawn_events keys x.start n.asked point ++ n.notes)
    (drawn_events keys x.start (Some access.asked) point ++ x.begins.0) (sym n.events ∙ x.begins.1)) in
    let line : record { 0 = line_found x.found } ≡ seen.line = (λ i. record { 0 = sym x.line i }) in
    let all : new.tap.log.events
    ≡ x.mid.events
    ++ (drawn_events keys x.start (Some access.asked) point ++ (n.notes ++ chosen_events end.chosen)) =
    end.events ∙ ap (λ l. l ++ chosen_events end.chosen) n.events
    ∙ append_assoc x.mid.events (drawn_events keys x.start n.asked point ++ n.notes) (chosen_events end.chosen)
    ∙ ap (λ a. x.mid.events ++ (drawn_events keys x.start a point ++ (n.notes ++ chosen_events end.chosen))) asked in
    record {
      chosen = end.chosen;
      slot = record {
        leaf = record { 0 = keys.leaf_of point };
        notes = n.notes;
        silent = n.silent;
        said = n.said ∙ ap (λ l. tags_of (put_in access l access.purpose)) line;
        events = all;
      };
      later = Drawn point (record { 0 = keys.leaf_of point }) ∷ (n.notes ++ chosen_events end.chosen);
      parts = all;
    }

-- ---- which slots pass before it
module _ (p : Public) (some : 0 < count_of p) (numbers : Numbers) where
  early-last : (k asked : ℕ) (pace : Pace) (slots : List Slot)
      → All (λ other. other < asked) (starts_in (slots ++ dummies_after p some numbers (suc k) pace))
      → (waited p some numbers k pace).beat.next < asked
  early-last k asked pace slots all =
      let last : Slot = dummy_next p (waited p some numbers k pace) numbers in
      let is : starts_in (slots ++ dummies_after p some numbers (suc k) pace)
      ≡ starts_in (slots ++ dummies_after p some numbers k pace) ++ last.start ∷ [] =
      ap starts_in (sym (append_assoc slots (dummies_after p some numbers k pace) (last ∷ [])))
      ∙ map-append (λ (s : Slot). s.start) (slots ++ dummies_after p some numbers k pace) (last ∷ []) in
      (All-pop (λ other. other < asked) (starts_in (slots ++ dummies_after p some numbers (suc k) pace))
      (starts_in (slots ++ dummies_after p some numbers k pace)) (Some last.start) is all).1

  pub early-to : (k j asked : ℕ) (pace : Pace) → (waited p some numbers k pace).beat.next < asked → (j ≡ k) ⊎ (j < k)
      → (waited p some numbers j pace).beat.next < asked
  early-to k j asked pace last (inl same) =
      subst (λ i. (waited p some numbers i pace).beat.next < asked) (sym same) last
  early-to k j asked pace last (inr before) =
      let up = waited-rises p some numbers k pace j before in omega (arith, up, last)

  pub early-by : (k asked : ℕ) (pace : Pace) (slots : List Slot)
      → All (λ other. other < asked) (starts_in (slots ++ dummies_after p some numbers k pace))
      → Early p some numbers k asked pace
  early-by zero asked pace slots all j less = absurd (omega (arith, less))
  early-by (suc k) asked pace slots all j less =
      early-to k j asked pace (early-last k asked pace slots all) (eq-or-lt_of_le (omega (arith, less)))

-- ---- the access
-- what its slots leave, where these pass before it
record HasServed (config : Config) (numbers : Numbers) (access : Access) (seen : Seen) (slots : List Slot)
    (new : PortState) (before : Passed) : Type 0 where
  pub said : Said (public_of config) new.tap.log.events
      (slots ++ (before.slots ++ slot_next (public_of config) before.pace numbers (Some access.asked)
      (Real access.address access.counter) (put_in access seen.line access.purpose) None ∷ []))
      (pace_after (public_of config) before.pace (Some access.asked))
  pub dummies : before.pace.dummies ≡ new.clock.dummies
  pub early : before.pace.beat.next < config.time
  pub end : seen.end ≡ before.pace.beat.next + olat_of config.shape.levels

module _ (keys : Keys) (levels least : ℕ) (access : Access) (seen : Seen) (old new : PortState)
    (x : IsServedSlot keys access seen old new) (keeps : Keeps keys levels least old new) where
  abbrev config : Config
  config = old.clock.config

  abbrev p : Public
  p = public_of config

  knows : Knows config new.tap.log
  knows =
      let r = keeps.rests.2 in
      subst (λ (c : Config). Knows c new.tap.log) keeps.config
      (stands-knows new.clock.config r.done new.clock.last new.clock.next new.clock.learner new.tap.log r.stands)

  some : 0 < count_of p
  some = some-rate config knows.is_config

  in-time : x.start < config.time
  in-time =
      let r = keeps.rests.2 in
      let time : new.clock.last < config.time + olat_of config.shape.levels =
      subst (λ (c : Config). new.clock.last < c.time + olat_of c.shape.levels) keeps.config r.in_time in
      omega (arith, time, x.last, x.end)

  module _ (slots : List Slot) (pace : Pace) (numbers : Numbers) (had : HasTaken old slots pace) where
    noted : HasAccess keys access seen.line x.mid new.tap.log x.start
    noted = access-noted keys access seen old new x

    abbrev before : Pace
    before = waited p some numbers x.passed pace

    abbrev dummies : List Slot
    dummies = dummies_after p some numbers x.passed pace

    said-before : Said p x.mid.events (slots ++ dummies) before
    said-before =
        let old_said : Said p old.tap.log.events slots pace = record { said = had.said; paced = had.pace } in
        passes-said p some numbers keys x.passed old.tap.log x.mid (contents old) x.between slots pace old.clock.dummies
        x.passes (sym had.dummies) old_said
        (knows.ends x.mid.events noted.later x.start (Some access.asked) noted.parts)
        (ends-before p x.mid.events (Starts x.start (Some access.asked) ∷ noted.later)
        (subst (ChoosesAtEnds p) noted.parts knows.ends))
        (by-rule-before p.rates (olat_of p.levels) nothing_heard x.mid.events
        (Starts x.start (Some access.asked) ∷ noted.later) (subst (ChoosesByRule p) noted.parts knows.rule))

    start-is : x.start ≡ before.beat.next
    start-is =
        (due x.mid.events new.tap.log.events x.start (Some access.asked) (Real access.address access.counter)
        (put_in access seen.line access.purpose) p (slots ++ dummies) before said-before.paced said-before.said
        knows.done noted.chosen noted.slot knows.rule).start_is

    abbrev its : Slot
    its = slot_next p before numbers (Some access.asked) (Real access.address access.counter)
        (put_in access seen.line access.purpose) None

    said-after : Said p new.tap.log.events ((slots ++ dummies) ++ its ∷ []) (pace_after p before (Some access.asked))
    said-after = record {
      said = said-more x.mid.events new.tap.log.events x.start (Some access.asked)
          (Real access.address access.counter) (put_in access seen.line access.purpose) p (slots ++ dummies) before
          said-before.paced said-before.said knows.done numbers noted.chosen noted.slot knows.rule;
      paced = pace-slot p some (slots ++ dummies) before numbers (Some access.asked)
          (Real access.address access.counter) (put_in access seen.line access.purpose) None said-before.paced;
    }

    first : IsFirstFrom access.asked (starts_of x.mid.events) x.start
    first = serves-each x.mid.events noted.later x.start access.asked
        (subst ServesPromptly noted.parts knows.prompt)

    early : Early p some numbers x.passed (min access.asked config.time) pace
    early j less =
        let all : All (λ other. other < access.asked) (starts_in (slots ++ dummies)) =
        subst (All (λ other. other < access.asked)) (log-shows x.mid.events (slots ++ dummies) said-before.said).0
        first.others in
        let one = early-by p some numbers x.passed access.asked pace slots all j less in
        let two = waited-rises p some numbers x.passed pace j less in
        omega (arith, one, two, start-is, in-time)

    served : HasServed config numbers access seen slots new (record { slots = dummies; pace = before })
    served = record {
      said = subst (λ l. Said p new.tap.log.events l (pace_after p before (Some access.asked)))
          (append_assoc slots dummies (its ∷ [])) said-after;
      dummies = omega (arith, waited-dummies p some numbers x.passed pace, had.dummies, x.dummies);
      early = omega (arith, start-is, in-time);
      end = omega (arith, x.end, start-is);
    }

    access-served : let before = passed p numbers (min access.asked config.time) pace in
        HasServed config numbers access seen slots new before
    access-served =
        subst (HasServed config numbers access seen slots new)
        (sym
        (passed-waited p some numbers x.passed (min access.asked config.time) pace early
        (omega (arith, first.from, start-is)))) served

    -- The access takes its slots, and its answer is of their end.
    pub access-taken : let taken = asked_slots config numbers pace access seen.line None in
        HasTaken new (slots ++ taken.slots) taken.pace
        × (asked_start config numbers pace access < config.time)
        × (seen.end ≡ asked_start config numbers pace access + olat_of config.shape.levels)
    access-taken =
        let s = access-served in
        let taken = asked_slots config numbers pace access seen.line None in (
          record {
            said = s.said.said;
            pace = subst (λ (c : Config). IsPace (public_of c) (slots ++ taken.slots) taken.pace) (sym keeps.config)
                s.said.paced;
            dummies = let same = s.dummies in omega (arith, same);
          },
          s.early,
          s.end,
        )
