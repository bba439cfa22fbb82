use Rattle.std.proofs.Common.{◌≡◌, Ok, Err, MatchResult, ap, sym, subst, ◌∙◌, refl, ℕ}
use Rattle.asc_base.specs.Settings.{IsConfig}
use Rattle.asc_base.specs.declared.stop.Stop.TheVariants.{Integrity}
use Rattle.oram_contents.specs.Entries.{Keys}
use Rattle.oram_stash.proofs.Apart.{held-gone}
use Rattle.oram_stash.specs.Entries.{held}
use Rattle.rate_enforcer.proofs.Breaks.{same_keys}
use Rattle.rate_enforcer.specs.PortStep.{PortState, PortStep, Take, Abort, told, took, port_of}
use Rattle.rate_enforcer.specs.Served.{keys_of}
use Rattle.oram_frontend.specs.Access.{FinishStep}
use Rattle.oram_frontend.proofs.Finish.{refused, went_on_both, few_left}
use Rattle.oram_frontend.proofs.access.access.Goals as goal

pub take-found-requires : goal.take-found-requires
take-found-requires g c = record { is_open = (c.in-Ok.ensures.opens 0 c.requires.rests).is_open }

pub abort-requires : goal.abort-requires
abort-requires g c =
    record { is_open = (c.take-found.ensures.opens 3 _ _ (c.in-Ok.ensures.opens 0 c.requires.rests)).is_open }

pub returns-in-Some-clause-comes : goal.returns-in-Some-clause-comes
returns-in-Some-clause-comes g c =
    let memory = g.M.UntrustedMemory.state c.open.new.bus.memory.now in
    let tap = g.W.Watch.state c.open.new.bus.tap.now in
    let two : PortState = port_of c.take-found.new.self.clock c.take-found.new.self.tree memory tap in
    let one : PortState = port_of c.open.new.self.clock c.open.new.self.tree memory tap in
    let new : PortState = port_of c.abort.new.self.clock c.abort.new.self.tree memory tap in
    let keys = keys_of c.args.port.now.tree c.args.tagger.now (g.L.LeafFn.leaf_of c.args.port.now.leaves) in
    refused keys (g.L.LeafFn.levels c.args.port.now.leaves) c.args.access.now c.take-found.result c.in-Some.evidence
    _ one two new c.abort.result (sym (c.judge.ensures keys refl) ∙ c.in-Some.is) c.in-Ok.ensures.step
    (subst (λ (leaves : g.row.L.Denot). PortStep (g.L.LeafFn.leaf_of leaves) (g.L.LeafFn.levels leaves) one
    (Take c.args.access.now.address) (Ok (took c.take-found.result)) two) c.in-Ok.ensures.leaves
    (c.take-found.ensures.step memory tap))
    (subst (λ (leaves : g.row.L.Denot). PortStep (g.L.LeafFn.leaf_of leaves) (g.L.LeafFn.levels leaves) two
    (Abort (Integrity c.in-Some.evidence)) (Ok (told c.abort.result)) new)
    (c.take-found.ensures.leaves ∙ c.in-Ok.ensures.leaves) (c.abort.ensures.step memory tap))

pub finish-requires-clause-opens : goal.finish-requires-clause-opens
finish-requires-clause-opens g c = c.take-found.ensures.opens 3 _ _ (c.in-Ok.ensures.opens 0 c.requires.rests)

pub finish-requires-clause-absent : goal.finish-requires-clause-absent
finish-requires-clause-absent g c =
    ap (λ hand. held hand c.args.access.now.address) c.take-found.ensures.hand
    ∙ held-gone c.open.new.self.tree.hand c.args.access.now.address
    (c.in-Ok.ensures.opens 0 c.requires.rests).is_for.apart

pub finish-requires-clause-few : goal.finish-requires-clause-few
finish-requires-clause-few g c =
    let o = c.in-Ok.ensures.opens 0 c.requires.rests in
    let is : IsConfig c.args.port.now.clock.config = subst IsConfig c.in-Ok.ensures.config o.is_open.is_config in
    few_left c.args.port.now.clock.config c.open.new.self.tree.hand c.take-found.new.self.tree.hand
    c.args.access.now.address is c.take-found.ensures.hand c.in-Ok.ensures.few

pub returns-clause-comes : goal.returns-clause-comes
returns-clause-comes g c =
    let memory = g.M.UntrustedMemory.state c.open.new.bus.memory.now in
    let tap = g.W.Watch.state c.open.new.bus.tap.now in
    let two : PortState = port_of c.take-found.new.self.clock c.take-found.new.self.tree memory tap in
    let one : PortState = port_of c.open.new.self.clock c.open.new.self.tree memory tap in
    let new : PortState = port_of c.finish.new.port.clock c.finish.new.port.tree
    (g.M.UntrustedMemory.state c.finish.new.bus.memory.now) (g.W.Watch.state c.finish.new.bus.tap.now) in
    let leaf = g.L.LeafFn.leaf_of c.args.port.now.leaves in
    let keys = keys_of c.args.port.now.tree c.args.tagger.now leaf in
    let same : c.take-found.new.self.leaves ≡ c.args.port.now.leaves =
    c.take-found.ensures.leaves ∙ c.in-Ok.ensures.leaves in
    let both : Keys → ℕ → Type 0 = λ k n. MatchResult c.finish.result
    (λ seen. FinishStep k n c.args.access.now c.take-found.result two (Ok seen) new)
    (λ stop. FinishStep k n c.args.access.now c.take-found.result two (Err stop) new) in
    went_on_both keys (g.L.LeafFn.levels c.args.port.now.leaves) c.args.access.now c.take-found.result
    _ one two new c.finish.result (sym (c.judge.ensures keys refl) ∙ c.in_default.is) c.in-Ok.ensures.step
    (subst (λ (leaves : g.row.L.Denot). PortStep (g.L.LeafFn.leaf_of leaves) (g.L.LeafFn.levels leaves) one
    (Take c.args.access.now.address) (Ok (took c.take-found.result)) two) c.in-Ok.ensures.leaves
    (c.take-found.ensures.step memory tap))
    (subst (λ k. both k (g.L.LeafFn.levels c.args.port.now.leaves))
    (same_keys c.open.new.self.tree c.take-found.new.self.tree c.args.tagger.now leaf c.take-found.ensures.kept
    ∙ same_keys c.args.port.now.tree c.open.new.self.tree c.args.tagger.now leaf c.in-Ok.ensures.kept)
    (subst (λ (leaves : g.row.L.Denot). both (keys_of c.take-found.new.self.tree c.args.tagger.now
    (g.L.LeafFn.leaf_of leaves)) (g.L.LeafFn.levels leaves)) same c.finish.ensures.comes))
