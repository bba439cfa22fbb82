use Rattle.std.proofs.Common.{arith, ◌≡◌, ℕ, List, refl, sym, subst, ap, Some, Ok}
use Rattle.oram_frontend.specs.Oram.{OramStep, CanServe, Fetch}
use Rattle.secure_machine.specs.Same.{oram_over, keys_in, timed_of}
use Rattle.secure_machine.proofs.Asked.{fetched, few_fetches}
use Rattle.secure_machine.proofs.store.TimedLinesLineStore.fetch.Goals as goal

pub overflow_add-self : goal.overflow_add-self
overflow_add-self g c =
    omega (
      arith,
      few_fetches (g.L.LeafFn.levels c.args.self.now.oram.now.port.leaves) c.args.self.now.count
          (timed_of g.M.UntrustedMemory.state g.W.Watch.state c.args.self.now) c.requires.ready,
    )

pub returns-in-Ok : goal.returns-in-Ok
returns-in-Ok g c =
    let self = c.args.self.now in
    let levels = g.L.LeafFn.levels self.oram.now.port.leaves in
    let keys = keys_in g.L.LeafFn.leaf_of self in
    let new = oram_over g.M.UntrustedMemory.state g.W.Watch.state c.fetch.new.self c.fetch.new.bus.memory.now
    c.fetch.new.bus.tap.now in
    let Steps : g.row.M.Denot → g.row.W.Denot → List ℕ → Type 0 = λ m t bytes. OramStep keys levels
    (oram_over g.M.UntrustedMemory.state g.W.Watch.state self.oram.now m t) (Fetch self.clock c.args.line)
    (Ok (record { line = Some (record { 0 = bytes }); end = c.in-Ok.end })) new in
    let same : c.line_of.result.0 ≡ c.in-Ok.value.0 = c.line_of.ensures.bytes in
    let step = subst (λ m. Steps m self.tap.now c.line_of.result.0) c.new-bus.ensures.memory
    (subst (λ t. Steps c.new-bus.result.memory.now t c.line_of.result.0) c.new-bus.ensures.tap
    (subst (Steps c.new-bus.result.memory.now c.new-bus.result.tap.now) (sym same) c.in-Ok.ensures.step)) in
    let serves = subst (λ n. CanServe c.fetch.new.self.front c.fetch.new.self.port.clock c.fetch.new.self.port.tree n
    (g.M.UntrustedMemory.state c.fetch.new.bus.memory.now) (g.W.Watch.state c.fetch.new.bus.tap.now))
    (ap g.L.LeafFn.levels c.fetch.ensures.leaves) c.in-Ok.ensures.serves in (
      record {
        memory = refl;
        tap = refl;
        oram = refl;
        count = refl;
        tagger = c.fetch.ensures.tagger;
        leaves = c.fetch.ensures.leaves;
        tree = c.fetch.ensures.kept;
      },
      (
        step,
        refl,
        c.line_of.ensures.line,
        fetched keys levels self.count (timed_of g.M.UntrustedMemory.state g.W.Watch.state self) new c.args.line
            c.in-Ok.end (record { 0 = c.line_of.result.0 }) c.requires.ready
            (record { shape = refl; pads = refl }) step serves
            c.in-Ok.ensures.last,
        c.requires.line,
      ),
    )
