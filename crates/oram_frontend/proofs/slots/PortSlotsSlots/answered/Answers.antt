use Rattle.std.proofs.Common.{Ok, refl, subst}
use Rattle.oram_frontend.specs.Access.{SlotStep}
use Rattle.oram_walk.specs.Request.{Answer, nothing}
use Rattle.rate_enforcer.specs.PortStep.{PortState, port_of}
use Rattle.rate_enforcer.specs.Served.{keys_of}
use Rattle.oram_frontend.proofs.slots.PortSlotsSlots.answered.Goals as goal

pub returns-clause-step : goal.returns-clause-step
returns-clause-step g c =
    let port = c.args.self.now.port.now in
    let keys = keys_of port.tree c.args.self.now.tagger.now (g.L.LeafFn.leaf_of port.leaves) in
    let levels = g.L.LeafFn.levels port.leaves in
    let new : PortState = port_of port.clock port.tree (g.M.UntrustedMemory.state c.answer.new.bus.memory.now)
    (g.W.Watch.state c.answer.new.bus.tap.now) in (
      subst (λ m. SlotStep keys levels (port_of port.clock port.tree (g.M.UntrustedMemory.state m)
          (g.W.Watch.state c.args.self.now.tap.now)) (Answer c.args.line c.args.value.now) (Ok nothing) new)
          c.new-bus.ensures.memory
          (subst (λ t. SlotStep keys levels (port_of port.clock port.tree
          (g.M.UntrustedMemory.state c.new-bus.result.memory.now) (g.W.Watch.state t))
          (Answer c.args.line c.args.value.now) (Ok nothing) new) c.new-bus.ensures.tap
          (c.answer.ensures.comes keys levels port.clock port.tree)),
      record {
        memory = refl;
        tap = refl;
        port = refl;
        tagger = refl;
        leaves = refl;
        config = refl;
        tree = record { shape = refl; stash = refl; key = refl };
      },
    )
