-- A port that waits takes the dummies that start before a time.
use Rattle.std.proofs.Common.{◌≡◌, ◌<◌, ◌≤◌, ℕ, zero, suc, ◌+◌, ◌-◌, List, ◌++◌, None, sym, ap, ◌∙◌, subst, arith}
use Rattle.std.proofs.Common.{eq-or-lt_of_le}
use Rattle.std.specs.Prelude.{max}
use Rattle.asc_base.specs.TreeShape.{olat_of}
use Rattle.asc_base.specs.declared.settings.Config.{Config}
use Rattle.bus_schedule.specs.Timetable.{Public, public_of, count_of}
use Rattle.epoch_learner.specs.Heard.{with_access}
use Rattle.epoch_learner.proofs.StandLaws.{stands_apart}
use Rattle.oram_contents.specs.Entries.{Keys}
use Rattle.oram_contents.specs.Slots.{ArePasses}
use Rattle.oram_frontend.specs.Slots.{FitKeys}
use Rattle.oram_frontend.proofs.SlotLaws.{keys_fit}
use Rattle.rate_enforcer.specs.PortStep.{PortState, Resting, HasIdled, contents}
use Rattle.run_play.specs.OnTime.{IsPace}
use Rattle.run_play.specs.Slots.{Pace, Numbers, Slot, Passed, passed, choice_next}
use Rattle.run_play.proofs.Keeping.{next-later}
use Rattle.run_play.proofs.Paces.{heard-ended}
use Rattle.run_play.proofs.PlaysOnTime.{some-rate}
use Rattle.oram_play.specs.Taken.{HasTaken, IsPaceOf}
use Rattle.oram_play.proofs.Accesses.{Knows, stands-knows, early-to}
use Rattle.oram_play.proofs.Between.{pace-of}
use Rattle.oram_play.proofs.Passes.{Said, waited, dummies_after, waited-dummies, passes-said, Early, passed-waited}

module _ (p : Public) (some : 0 < count_of p) (numbers : Numbers) where
  -- dummies start no earlier than the first of them
  waited-far : (k : ℕ) (pace : Pace) → pace.beat.next ≤ (waited p some numbers k pace).beat.next
  waited-far zero pace = omega arith
  waited-far (suc k) pace =
      omega (arith, waited-far k pace, next-later p (waited p some numbers k pace) None)

  -- the end of the last of them
  ended-last : (k : ℕ) (pace : Pace)
      → (waited p some numbers (suc k) pace).heard.ended ≡ (waited p some numbers k pace).beat.next + olat_of p.levels
  ended-last k pace =
      let last : Pace = waited p some numbers k pace in
      heard-ended
      (with_access last.heard (record { start = last.beat.next; asked = None }) (last.beat.next + olat_of p.levels))
      (choice_next p last None)

  -- The last one starts before the time, where it ends so early: it starts behind the last end.
  early-waited : (k time : ℕ) (pace : Pace) → pace.heard.ended ≤ pace.beat.next
      → (waited p some numbers k pace).heard.ended < max pace.heard.ended time + olat_of p.levels
      → Early p some numbers k time pace
  early-waited zero time pace behind last j less = absurd (omega (arith, less))
  early-waited (suc k) time pace behind last j less =
      let begun : (waited p some numbers k pace).beat.next < time =
      omega (arith, behind, last, ended-last k pace, waited-far k pace) in
      early-to p some numbers k j time pace begun (eq-or-lt_of_le (omega (arith, less)))

module _ (keys : Keys) (levels notes time end : ℕ) (old new : PortState) (slots : List Slot) (pace : Pace)
    (numbers : Numbers) (fits : FitKeys keys old) (rests : Resting notes levels old) (had : HasTaken old slots pace)
    (h : HasIdled keys.leaf_of levels time end old new) where
  abbrev config : Config
  config = old.clock.config

  abbrev p : Public
  p = public_of config

  knows : Knows config new.tap.log
  knows =
      let r = h.rests notes rests in
      subst (λ (c : Config). Knows c new.tap.log) h.same.config
      (stands-knows new.clock.config r.done new.clock.last new.clock.next new.clock.learner new.tap.log r.stands)

  some : 0 < count_of p
  some = some-rate config knows.is_config

  abbrev k : ℕ
  k = new.clock.dummies - old.clock.dummies

  passes : ArePasses keys k old.tap.log new.tap.log (contents old) (contents new) old.clock.dummies
  passes = subst (λ (x : Keys). ArePasses x k old.tap.log new.tap.log (contents old) (contents new) old.clock.dummies)
      (keys_fit keys old fits) (h.passed keys.tags)

  said : Said p new.tap.log.events (slots ++ dummies_after p some numbers k pace) (waited p some numbers k pace)
  said = passes-said p some numbers keys k old.tap.log new.tap.log (contents old) (contents new) slots pace
      old.clock.dummies passes (sym had.dummies) (record { said = had.said; paced = had.pace }) knows.done knows.ends
      knows.rule

  has : HasTaken new (slots ++ dummies_after p some numbers k pace) (waited p some numbers k pace)
  has = record {
    said = said.said;
    pace = subst (λ (c : Config). IsPace (public_of c) (slots ++ dummies_after p some numbers k pace)
        (waited p some numbers k pace)) (sym h.same.config) said.paced;
    dummies = let more = h.more in omega (arith, waited-dummies p some numbers k pace, had.dummies, more);
  }

  -- what stands before it and after it
  before : IsPaceOf old pace
  before = pace-of levels notes old slots pace had rests

  after : IsPaceOf new (waited p some numbers k pace)
  after = pace-of levels notes new (slots ++ dummies_after p some numbers k pace) (waited p some numbers k pace) has
      (h.rests notes rests)

  early : Early p some numbers k time pace
  early =
      let apart = stands_apart rests.stands in
      early-waited p some numbers k time pace (omega (arith, before.next, before.last, apart))
      (let last = h.early in omega (arith, last, before.last, after.last))

  waits : passed p numbers time pace
      ≡ record { slots = dummies_after p some numbers k pace; pace = waited p some numbers k pace }
  waits = passed-waited p some numbers k time pace early (omega (arith, after.next, h.reached))

  pub wait-taken : let more = passed p numbers time pace in
      HasTaken new (slots ++ more.slots) more.pace × (end ≡ max time more.pace.heard.ended)
  wait-taken =
      subst (λ (more : Passed). HasTaken new (slots ++ more.slots) more.pace × (end ≡ max time more.pace.heard.ended))
      (sym waits) (has, h.end_is ∙ ap (max time) (sym after.last))
