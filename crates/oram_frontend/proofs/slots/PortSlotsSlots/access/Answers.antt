use Rattle.std.proofs.Common.{Ok, Err, MatchResult, refl, subst}
use Rattle.asc_base.specs.declared.stop.Stop.{Stop}
use Rattle.oram_frontend.specs.Access.{SlotStep}
use Rattle.oram_walk.specs.Request.{Slot}
use Rattle.oram_walk.specs.declared.slots.Seen.{Seen}
use Rattle.rate_enforcer.specs.PortStep.{PortState, port_of}
use Rattle.rate_enforcer.specs.Served.{keys_of}
use Rattle.oram_frontend.proofs.Below.{both_with, ok_with}
use Rattle.oram_frontend.proofs.PortLaws.{rests_once}
use Rattle.oram_frontend.proofs.slots.PortSlotsSlots.access.Goals as goal

pub returns-clause-step : goal.returns-clause-step
returns-clause-step g c =
    let port = c.args.self.now.port.now in
    let keys = keys_of port.tree c.args.self.now.tagger.now (g.L.LeafFn.leaf_of port.leaves) in
    let levels = g.L.LeafFn.levels port.leaves in
    let old : g.row.M.Denot → g.row.W.Denot → PortState = λ m t. port_of port.clock port.tree
    (g.M.UntrustedMemory.state m) (g.W.Watch.state t) in
    let new : PortState = port_of c.access.new.port.clock c.access.new.port.tree
    (g.M.UntrustedMemory.state c.access.new.bus.memory.now) (g.W.Watch.state c.access.new.bus.tap.now) in
    let both : g.row.M.Denot → g.row.W.Denot → Type 0 = λ m t. MatchResult c.access.result
    (λ (seen : Seen). SlotStep keys levels (old m t) (Slot c.args.access.now) (Ok seen) new)
    (λ (stop : Stop). SlotStep keys levels (old m t) (Slot c.args.access.now) (Err stop) new) in
    both_with
    (λ (seen : Seen). SlotStep keys levels (old c.args.self.now.memory.now c.args.self.now.tap.now)
    (Slot c.args.access.now) (Ok seen) new)
    (λ (stop : Stop). SlotStep keys levels (old c.args.self.now.memory.now c.args.self.now.tap.now)
    (Slot c.args.access.now) (Err stop) new) c.access.result
    (subst (λ m. both m c.args.self.now.tap.now) c.new-bus.ensures.memory
    (subst (λ t. both c.new-bus.result.memory.now t) c.new-bus.ensures.tap c.access.ensures.comes))
    (record {
      memory = refl;
      tap = refl;
      port = refl;
      tagger = refl;
      leaves = c.access.ensures.leaves;
      config = c.access.ensures.config;
      tree = c.access.ensures.kept;
    })

pub returns-clause-ended : goal.returns-clause-ended
returns-clause-ended g c =
    ok_with c.access.result c.access.ensures.rests c.access.ensures.spare (λ r room. (rests_once r, r, room))
