use Rattle.std.proofs.Common.{refl, subst, ap, None, Ok}
use Rattle.oram_frontend.specs.Oram.{OramStep, CanServe, Store}
use Rattle.secure_machine.specs.Same.{oram_over, keys_in, timed_of}
use Rattle.secure_machine.proofs.Asked.{stored}
use Rattle.secure_machine.proofs.store.TimedLinesLineStore.store.Goals as goal

pub returns-in-Ok : goal.returns-in-Ok
returns-in-Ok g c =
    let self = c.args.self.now in
    let levels = g.L.LeafFn.levels self.oram.now.port.leaves in
    let keys = keys_in g.L.LeafFn.leaf_of self in
    let new = oram_over g.M.UntrustedMemory.state g.W.Watch.state c.store.new.self c.store.new.bus.memory.now
    c.store.new.bus.tap.now in
    let Steps : g.row.M.Denot → g.row.W.Denot → Type 0 = λ m t. OramStep keys levels
    (oram_over g.M.UntrustedMemory.state g.W.Watch.state self.oram.now m t)
    (Store self.clock c.args.line c.args.value.now)
    (Ok (record { line = None; end = c.in-Ok.end })) new in
    let step = subst (λ m. Steps m self.tap.now) c.new-bus.ensures.memory
    (subst (λ t. Steps c.new-bus.result.memory.now t) c.new-bus.ensures.tap c.in-Ok.ensures.step) in
    let serves = subst (λ n. CanServe c.store.new.self.front c.store.new.self.port.clock c.store.new.self.port.tree n
    (g.M.UntrustedMemory.state c.store.new.bus.memory.now) (g.W.Watch.state c.store.new.bus.tap.now))
    (ap g.L.LeafFn.levels c.store.ensures.leaves) c.in-Ok.ensures.serves in (
      record {
        memory = refl;
        tap = refl;
        oram = refl;
        count = refl;
        tagger = c.store.ensures.tagger;
        leaves = c.store.ensures.leaves;
        tree = c.store.ensures.kept;
      },
      (
        step,
        refl,
        refl,
        stored keys levels self.count (timed_of g.M.UntrustedMemory.state g.W.Watch.state self) new c.args.line
            c.in-Ok.end c.args.value.now c.requires.ready (record { shape = refl; pads = refl }) step serves
            c.in-Ok.ensures.last,
        c.requires.line,
        c.are_whole.ensures,
      ),
    )
