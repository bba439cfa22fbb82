use Rattle.std.proofs.Common.{Ok, Err, subst}
use Rattle.rate_enforcer.specs.PortStep.{PortState, PortStep, Close, told, port_of}
use Rattle.rate_enforcer.specs.Served.{keys_of}
use Rattle.oram_frontend.proofs.Finish.{finish_ends, finish_stops}
use Rattle.oram_frontend.proofs.access.finish.Goals as goal

pub returns-in-Ok-clause-comes : goal.returns-in-Ok-clause-comes
returns-in-Ok-clause-comes g c =
    let back = c.put_back.new in
    let n : PortState = port_of back.port.clock back.port.tree (g.M.UntrustedMemory.state back.bus.memory.now)
    (g.W.Watch.state back.bus.tap.now) in
    let t : PortState = port_of c.close.new.self.clock c.close.new.self.tree
    (g.M.UntrustedMemory.state c.close.new.bus.memory.now) (g.W.Watch.state c.close.new.bus.tap.now) in
    finish_ends (keys_of c.args.port.now.tree c.args.tagger.now (g.L.LeafFn.leaf_of c.args.port.now.leaves))
    (g.L.LeafFn.levels c.args.port.now.leaves) c.args.access.now c.args.found c.line_of-line.result _ _ n t c.in-Ok.end
    c.line_of-line.ensures (c.accept.ensures.plan _ _ _ _) c.put_back.ensures.plan
    (subst (λ (leaves : g.row.L.Denot). PortStep (g.L.LeafFn.leaf_of leaves) (g.L.LeafFn.levels leaves) n Close
    (Ok (told c.in-Ok.end)) t) c.put_back.ensures.leaves c.in-Ok.ensures.step)

pub returns-in-Ok-clause-rests : goal.returns-in-Ok-clause-rests
returns-in-Ok-clause-rests g c = c.in-Ok.ensures.rests 1 c.put_back.ensures.opens

pub returns-in-Err-clause-comes : goal.returns-in-Err-clause-comes
returns-in-Err-clause-comes g c =
    let back = c.put_back.new in
    let n : PortState = port_of back.port.clock back.port.tree (g.M.UntrustedMemory.state back.bus.memory.now)
    (g.W.Watch.state back.bus.tap.now) in
    let t : PortState = port_of c.close.new.self.clock c.close.new.self.tree
    (g.M.UntrustedMemory.state c.close.new.bus.memory.now) (g.W.Watch.state c.close.new.bus.tap.now) in
    finish_stops (keys_of c.args.port.now.tree c.args.tagger.now (g.L.LeafFn.leaf_of c.args.port.now.leaves))
    (g.L.LeafFn.levels c.args.port.now.leaves) c.args.access.now c.args.found c.line_of-line.result _ _ n t
    c.in-Err.stop c.line_of-line.ensures (c.accept.ensures.plan _ _ _ _) c.put_back.ensures.plan
    (subst (λ (leaves : g.row.L.Denot). PortStep (g.L.LeafFn.leaf_of leaves) (g.L.LeafFn.levels leaves) n Close
    (Err c.in-Err.stop) t) c.put_back.ensures.leaves c.in-Err.ensures.step)
