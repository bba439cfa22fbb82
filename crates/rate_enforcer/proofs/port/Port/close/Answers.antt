use Rattle.std.proofs.Common.{◌≡◌, ◌≤◌, ◌∙◌, ◌+◌, ◌++◌, ◌∷◌, [], ℕ, Option, Some, None, Err, length, refl, ap, sym}
use Rattle.std.proofs.Common.{subst, arith, List, ◌⊎◌, ◌<◌}
use Rattle.std.specs.Prelude.{⊤}
use Rattle.unified_tree.specs.Stops.{IfWritten}
use Rattle.unified_tree.specs.declared.stop.TreeStop.{TreeStop}
use Rattle.unified_tree.specs.declared.stop.TreeStop.TheVariants as tree
use Rattle.asc_base.specs.declared.stop.Stop.{Stop}
use Rattle.asc_base.specs.TreeShape.{olat_of}
use Rattle.bus_watch.specs.Path.{writes, reads_end}
use Rattle.bus_watch.proofs.MadeLaws.{ran_none, ran_then, silent_events}
use Rattle.epoch_learner.specs.Learner.{choice_by_sums}
use Rattle.epoch_learner.proofs.StandLaws.{stands_apart}
use Rattle.rate_enforcer.specs.Clock.{chosen_events}
use Rattle.rate_enforcer.specs.State.{Stopped}
use Rattle.rate_enforcer.specs.Stops.{RanStop, stop_after}
use Rattle.rate_enforcer.specs.declared.clock.Clock.{Clock}
use Rattle.rate_enforcer.proofs.StateLaws.{at_end, rested, write_stops, write_stopped}
use Rattle.asc_base.specs.declared.stop.Stop.TheVariants.{StashFull}
use Rattle.bus_watch.specs.declared.bus.BusStop.{BusStop}
use Rattle.bus_watch.specs.declared.log.Event.{Event}
use Rattle.bus_watch.specs.declared.log.Event.TheVariants.{Chosen}
use Rattle.oram_contents.specs.Contents.{Contents}
use Rattle.unified_tree.proofs.Slots.{write_is}
use Rattle.oram_contents.specs.PathWritten.{places_of}
use Rattle.oram_stash.proofs.Apart.{AreApart-where_placed}
use Rattle.oram_stash.specs.Entries.{AreApart}
use Rattle.unified_tree.specs.Slot.{contents_of}
use Rattle.unified_tree.specs.Tree.{TreeState}
use Rattle.rate_enforcer.specs.Breaks.{WriteStops}
use Rattle.rate_enforcer.proofs.Breaks.{write_breaks}
use Rattle.rate_enforcer.specs.Served.{keys_of}
use Rattle.rate_enforcer.proofs.Steps.{of_slot, used_so, kept_as}
use Rattle.rate_enforcer.proofs.Counted.{counted_ended, counted_still, stop_silent}
use Rattle.rate_enforcer.proofs.port.Port.close.Goals as goal

one_choice : (choice : Option ℕ) → length (chosen_events choice) ≤ 1
one_choice None = omega arith
one_choice (Some index) = omega arith

-- what a refusal says of the end
ended_of : (A B C : Type 0) (stop : TreeStop) → IfWritten (Err stop) A (λ _. B × C) (λ _. ⊤)
    → IfWritten (Err stop) ⊤ (λ _. B) (λ _. ⊤)
ended_of A B C (tree.BadSlot bucket slot) h = h
ended_of A B C (tree.OffPath bucket slot) h = h
ended_of A B C (tree.Doubled address) h = h
ended_of A B C (tree.Full held) h = h.0
ended_of A B C tree.Device h = h
ended_of A B C tree.NoMemory h = h

pub end_slot-requires-clause-at_end : goal.end_slot-requires-clause-at_end
end_slot-requires-clause-at_end g c =
    let o = c.requires.opens in
    record {
      done = o.done;
      leaf = c.args.slot.leaf.0;
      stands = at_end c.args.slot c.args.self.now.tree o c.in-Ok.ensures.ran.made;
      early = o.is_open.early;
      end_is = omega (arith, c.olat.ensures, o.is_open.starts);
    }

pub returns-in-Ok-clause-rests : goal.returns-in-Ok-clause-rests
returns-in-Ok-clause-rests g c notes o =
    let clock = c.args.self.now.clock in
    let end : ℕ = c.args.slot.start + c.olat.result in
    let end_is : end ≡ c.args.slot.start + olat_of clock.config.shape.levels = omega (arith, c.olat.ensures) in
    rested c.args.slot c.args.self.now.tree c.write_path.new.self c.end_slot.new.self end
    (chosen_events (choice_by_sums clock.learner end)) o c.in-Ok.ensures.ran.made end_is
    (c.end_slot.ensures.stands o.done c.args.slot.leaf.0
    (at_end c.args.slot c.args.self.now.tree o c.in-Ok.ensures.ran.made))
    (one_choice (choice_by_sums clock.learner end)) c.end_slot.ensures.ran.made c.end_slot.ensures.clock
    c.write_path.ensures.kept c.in-Ok.ensures.seed c.in-Ok.ensures.path c.in-Ok.ensures.few
    (subst AreApart (sym c.in-Ok.ensures.hand) (AreApart-where_placed _
    (places_of c.args.self.now.tree.shape.levels c.args.slot.leaf.0 c.args.self.now.tree.hand) c.args.self.now.tree.hand
    o.is_for.apart))

pub returns-in-Ok-clause-next : goal.returns-in-Ok-clause-next
returns-in-Ok-clause-next g c =
    let o = c.requires.opens in
    let apart = (stands_apart (c.end_slot.ensures.stands o.done c.args.slot.leaf.0
    (at_end c.args.slot c.args.self.now.tree o c.in-Ok.ensures.ran.made))).0 in
    omega (arith, apart, c.olat.ensures, o.is_open.starts)

pub returns-in-Ok-clause-ran : goal.returns-in-Ok-clause-ran
returns-in-Ok-clause-ran g c =
    let clock = c.args.self.now.clock in
    record {
      moves = writes c.args.self.now.tree.shape.levels c.args.slot.start c.args.slot.leaf.0 ++ [];
      events = [] ++ chosen_events (choice_by_sums clock.learner (c.args.slot.start + c.olat.result));
      ran = ran_then g.M.UntrustedMemory.state g.W.Watch.state c.in-Ok.ensures.ran c.end_slot.ensures.ran;
    }

pub returns-in-Err-clause-ran_err : goal.returns-in-Err-clause-ran_err
returns-in-Err-clause-ran_err g c =
    let m = g.M.UntrustedMemory.state in
    let t = g.W.Watch.state in
    subst (λ (x : Stop). RanStop m t x c.args.bus.now c.write_path.new.bus) (sym c.stop_of-stop.ensures)
    (write_stops m t c.args.slot.start c.args.slot.leaf.0 c.in-Err.stop c.args.self.now.tree c.write_path.new.self
    c.in-Err.ensures.ran (ran_none m t c.args.bus.now))

pub returns-in-Err-clause-stopped : goal.returns-in-Err-clause-stopped
returns-in-Err-clause-stopped g c =
    let m = g.M.UntrustedMemory.state in
    let t = g.W.Watch.state in
    let clock = c.args.self.now.clock in
    let make = λ (n : ℕ) (s : Stop). let k : Clock = record clock { last = n; stop = Some s } in k in
    let is = c.stop_at.ensures.clock ∙ ap (λ n. make n c.stop_of-stop.result) c.ended-last.ensures
    ∙ ap (λ s. make c.write_path.new.self.ended s) c.stop_of-stop.ensures in
    subst (λ (x : Stop). Stopped clock.config c.stop_at.new.self.clock x (t c.write_path.new.bus.tap.now).log)
    (sym c.stop_of-stop.ensures)
    (write_stopped m t c.args.bus.now c.write_path.new.bus c.args.slot c.in-Err.stop c.args.self.now.tree
    c.write_path.new.self c.stop_at.new.self.clock c.requires.opens c.in-Err.ensures.ran
    (ended_of (c.write_path.new.self.ended ≡ c.args.self.now.tree.ended)
    (c.write_path.new.self.ended ≡ reads_end c.args.self.now.tree.shape.levels c.args.slot.start)
    (c.write_path.new.self.seed ≡ c.args.self.now.tree.seed) c.in-Err.stop c.in-Err.ensures.refused) is)

pub returns-in-Ok-clause-written : goal.returns-in-Ok-clause-written
returns-in-Ok-clause-written g c =
    let t = g.W.Watch.state in
    let tree = c.args.self.now.tree in
    ap (λ b. let d : Contents = record {
      hand = c.write_path.new.self.hand;
      mirror = b;
      seed = c.write_path.new.self.seed;
    } in d)
    c.end_slot.ensures.mirror
    ∙ write_is (keys_of tree [] (λ _. 0)) (t c.args.bus.now.tap.now) (t c.write_path.new.bus.tap.now) tree
    c.write_path.new.self c.args.slot.leaf.0 refl refl c.in-Ok.ensures.hand c.in-Ok.ensures.mirror c.in-Ok.ensures.seed

pub returns-in-Ok-clause-ended : goal.returns-in-Ok-clause-ended
returns-in-Ok-clause-ended g c =
    let t = g.W.Watch.state in
    let e = c.end_slot.ensures.ended in
    let silent = silent_events c.in-Ok.ensures.ran.made in
    record {
      altered = e.altered ∙ c.write_path.ensures.altered;
      events = subst (λ (x : List Event). ((t c.end_slot.new.bus.tap.now).log.events ≡ x)
          ⊎ ((index : ℕ) × ((t c.end_slot.new.bus.tap.now).log.events ≡ x ++ Chosen index ∷ []))) silent e.events;
    }

full_of : (stop : TreeStop) (held rest stash : ℕ) (A B Same : Type 0) (Q R : BusStop → Type 0)
    → stop_after stop ≡ StashFull held → IfWritten (Err stop) A (λ n. (n ≡ rest) × (stash < n)) Q
    → IfWritten (Err stop) B (λ _. Same) R → (held ≡ rest) × (stash < held) × Same
full_of (tree.BadSlot bucket slot) held rest stash A B Same Q R is full ran = absurd full
full_of (tree.OffPath bucket slot) held rest stash A B Same Q R is full ran = absurd full
full_of (tree.Doubled address) held rest stash A B Same Q R is full ran = absurd full
full_of (tree.Full n) held rest stash A B Same Q R is full ran =
    let same : n ≡ held = cc in (sym same ∙ full.0, omega (arith, full.1, same), ran)
full_of tree.Device held rest stash A B Same Q R is full ran = cc
full_of tree.NoMemory held rest stash A B Same Q R is full ran = cc

pub returns-in-Err-clause-full : goal.returns-in-Err-clause-full
returns-in-Err-clause-full g c held is =
    full_of c.in-Err.stop held _ _ _ _ _ _ _ (sym c.stop_of-stop.ensures ∙ is) c.in-Err.ensures.full
    c.in-Err.ensures.ran

pub returns-in-Err-clause-breaks : goal.returns-in-Err-clause-breaks
returns-in-Err-clause-breaks g c tags =
    let t = g.W.Watch.state in
    let old = c.args.self.now.tree in
    let leaf_of = g.L.LeafFn.leaf_of c.args.self.now.leaves in
    let before = t c.args.bus.now.tap.now in
    let tap = t c.write_path.new.bus.tap.now in
    subst (λ (x : TreeState). WriteStops (keys_of old tags leaf_of) old.stash c.stop_of-stop.result before.log tap.log
    (contents_of old before) (contents_of x tap) c.args.slot.start c.args.slot.leaf.0) (sym c.stop_at.ensures.tree)
    (subst (λ (x : Stop). WriteStops (keys_of old tags leaf_of) old.stash x before.log tap.log
    (contents_of old before) (contents_of c.write_path.new.self tap) c.args.slot.start c.args.slot.leaf.0)
    (sym c.stop_of-stop.ensures)
    (write_breaks g.M.UntrustedMemory.state t c.args.bus.now c.write_path.new.bus tags leaf_of old
    c.write_path.new.self c.args.slot.start c.args.slot.leaf.0 c.in-Err.stop c.write_path.ensures.altered
    c.in-Err.ensures.hand_err c.in-Err.ensures.ran c.in-Err.ensures.full c.in-Err.ensures.refused))

pub returns-in-Ok-clause-counts : goal.returns-in-Ok-clause-counts
returns-in-Ok-clause-counts g c counted =
    let t = g.W.Watch.state in
    let is = c.end_slot.ensures.clock in
    counted_ended c.args.self.now.clock c.end_slot.new.self (t c.args.bus.now.tap.now).log
    (t c.end_slot.new.bus.tap.now).log (returns-in-Ok-clause-ended g c)
    (returns-in-Ok-clause-rests g c 0 c.requires.opens).stands.step.code (ap (λ (x : Clock). x.config) is)
    (ap (λ (x : Clock). x.dummies) is) (ap (λ (x : Clock). x.real) is) counted

pub returns-in-Err-clause-counts : goal.returns-in-Err-clause-counts
returns-in-Err-clause-counts g c counted =
    let t = g.W.Watch.state in
    let is = c.stop_at.ensures.clock in
    counted_still c.args.self.now.clock c.stop_at.new.self.clock (t c.args.bus.now.tap.now).log
    (t c.write_path.new.bus.tap.now).log
    (stop_silent _ _ c.stop_of-stop.result _ _ _ _ _ _ (returns-in-Err-clause-breaks g c []))
    (ap (λ (x : Clock). x.config) is) (ap (λ (x : Clock). x.learner) is) (ap (λ (x : Clock). x.dummies) is)
    (ap (λ (x : Clock). x.real) is) counted

pub returns-in-Ok-clause-step : goal.returns-in-Ok-clause-step
returns-in-Ok-clause-step g c =
    let clock = c.args.self.now.clock in
    let now = c.end_slot.new.self in
    let is = c.end_slot.ensures.clock in
    let path = c.requires.opens.is_open.path in (
      refl,
      record {
        path = record { start = c.args.slot.start; leaf = c.args.slot.leaf };
        on = path;
        same = record { config = ap (λ (x : Clock). x.config) is; tree = c.write_path.ensures.kept };
        used = used_so g.M.UntrustedMemory.state g.W.Watch.state c.args.bus.now c.end_slot.new.bus clock now
            c.args.self.now.tree c.write_path.new.self (returns-in-Ok-clause-ran g c);
        rests = λ notes leaf o. returns-in-Ok-clause-rests g c notes (of_slot c.args.slot o.slot path o.opens);
        end_is = omega (arith, c.olat.ensures);
        last = ap (λ (x : Clock). x.last) is;
        dummies = ap (λ (x : Clock). x.dummies) is;
        real = ap (λ (x : Clock). x.real) is;
        written = returns-in-Ok-clause-written g c;
        ends = returns-in-Ok-clause-ended g c;
        counts = returns-in-Ok-clause-counts g c;
      },
    )

pub returns-in-Err-clause-step : goal.returns-in-Err-clause-step
returns-in-Err-clause-step g c =
    let is = c.stop_at.ensures.clock in
    let ran = returns-in-Err-clause-ran_err g c in
    record {
      path = record { start = c.args.slot.start; leaf = c.args.slot.leaf };
      on = c.requires.opens.is_open.path;
      same = record {
        config = ap (λ (x : Clock). x.config) is;
        tree = kept_as c.args.self.now.tree c.write_path.new.self c.stop_at.new.self.tree c.write_path.ensures.kept
            c.stop_at.ensures.tree;
      };
      end = ran.end;
      is_end = ran.is_end;
      used = used_so g.M.UntrustedMemory.state g.W.Watch.state c.args.bus.now c.write_path.new.bus
          c.args.self.now.clock c.stop_at.new.self.clock c.args.self.now.tree c.stop_at.new.self.tree ran.ran;
      stopped = returns-in-Err-clause-stopped g c;
      next = ap (λ (x : Clock). x.next) is;
      dummies = ap (λ (x : Clock). x.dummies) is;
      real = ap (λ (x : Clock). x.real) is;
      counts = returns-in-Err-clause-counts g c;
      breaks = returns-in-Err-clause-breaks g c;
    }
