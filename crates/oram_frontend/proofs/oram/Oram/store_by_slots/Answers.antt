use Rattle.std.proofs.Common.{◌∙◌, ℕ, sym, ap, subst}
use Rattle.unified_tree.specs.Tree.{IsSameTree}
use Rattle.asc_base.specs.declared.stop.Stop.{Stop}
use Rattle.request_plan.specs.Plan.{Ends, Stops}
use Rattle.oram_walk.specs.Plans.{store_plan}
use Rattle.oram_walk.specs.Request.{Steps}
use Rattle.oram_frontend.specs.Same.{IsSameSlots}
use Rattle.oram_frontend.proofs.Through.{by_result, on_ok_so, ok_so, err_so, SlotsStep}
use Rattle.oram_frontend.proofs.Through.{ends_through, stops_through, ends_from, stops_from}
use Rattle.oram_frontend.proofs.oram.Oram.store_by_slots.Goals as goal
use Rattle.oram_frontend.proofs.oram.Oram.store_by_slots.Given as given

-- the slots are still those of the port
kept : (g : given.Over) (c : goal.After-store g) → IsSameSlots c.new-slots.result c.store.new.slots
kept g c =
    let step = SlotsStep g.M.UntrustedMemory.state g.W.Watch.state g.L.LeafFn.leaf_of g.L.LeafFn.levels in
    let plan = store_plan c.args.self.now.front c.args.asked c.args.line c.args.value.now in
    by_result (IsSameSlots c.new-slots.result c.store.new.slots)
    (λ (end : ℕ). Ends (Steps step) plan c.new-slots.result c.store.new.slots (c.store.new.self, end))
    (λ (stop : Stop). Stops (Steps step) plan c.new-slots.result c.store.new.slots stop c.store.new.self)
    c.store.result c.store.ensures.ok c.store.ensures.err
    (λ end ends. (ends_through _ _ _ _ plan c.new-slots.result c.store.new.slots (c.store.new.self, end) ends).1)
    (λ stop stops. (stops_through _ _ _ _ plan c.new-slots.result c.store.new.slots stop c.store.new.self stops).1)

pub shape_of-bus : goal.shape_of-bus
shape_of-bus g c = sym ((kept g c).tap ∙ c.new-slots.ensures.same_tap)

pub shape_of-bus-2 : goal.shape_of-bus-2
shape_of-bus-2 g c = sym ((kept g c).memory ∙ c.new-slots.ensures.same_memory)

pub shape_of-self : goal.shape_of-self
shape_of-self g c = sym ((kept g c).port ∙ c.new-slots.ensures.same_port)

pub returns-clause-ok : goal.returns-clause-ok
returns-clause-ok g c =
    let step = SlotsStep g.M.UntrustedMemory.state g.W.Watch.state g.L.LeafFn.leaf_of g.L.LeafFn.levels in
    let plan = store_plan c.args.self.now.front c.args.asked c.args.line c.args.value.now in
    ok_so (λ (end : ℕ). Ends (Steps step) plan c.new-slots.result c.store.new.slots (c.store.new.self, end)) _
    c.store.result c.store.ensures.ok
    (λ end ends. ends_from g.M.UntrustedMemory.state g.W.Watch.state g.L.LeafFn.leaf_of g.L.LeafFn.levels
    c.new-slots.result c.args.self.now.port c.args.bus.now.memory.now c.args.bus.now.tap.now c.args.self.now.tagger
    c.new-slots.ensures.port c.new-slots.ensures.memory c.new-slots.ensures.tap c.new-slots.ensures.tagger plan
    c.store.new.slots (c.store.new.self, end) ends)

pub returns-clause-err : goal.returns-clause-err
returns-clause-err g c =
    let step = SlotsStep g.M.UntrustedMemory.state g.W.Watch.state g.L.LeafFn.leaf_of g.L.LeafFn.levels in
    let plan = store_plan c.args.self.now.front c.args.asked c.args.line c.args.value.now in
    err_so (λ (stop : Stop). Stops (Steps step) plan c.new-slots.result c.store.new.slots stop c.store.new.self) _
    c.store.result c.store.ensures.err
    (λ stop stops. stops_from g.M.UntrustedMemory.state g.W.Watch.state g.L.LeafFn.leaf_of g.L.LeafFn.levels
    c.new-slots.result c.args.self.now.port c.args.bus.now.memory.now c.args.bus.now.tap.now c.args.self.now.tagger
    c.new-slots.ensures.port c.new-slots.ensures.memory c.new-slots.ensures.tap c.new-slots.ensures.tagger plan
    c.store.new.slots stop c.store.new.self stops)

pub returns-clause-leaves : goal.returns-clause-leaves
returns-clause-leaves g c = (kept g c).leaves ∙ ap (λ port. port.leaves) c.new-slots.ensures.port

pub returns-clause-serves : goal.returns-clause-serves
returns-clause-serves g c =
    on_ok_so c.store.result _ _ c.store.ensures.rests (λ rests. record {
      rests = rests;
      shape = c.store.ensures.shape ∙ c.requires.serves.shape
          ∙ sym ((kept g c).tree.shape ∙ ap (λ port. port.tree.shape) c.new-slots.ensures.port);
    })

pub returns-clause-config : goal.returns-clause-config
returns-clause-config g c = (kept g c).config ∙ ap (λ port. port.clock.config) c.new-slots.ensures.port

pub returns-clause-kept : goal.returns-clause-kept
returns-clause-kept g c =
    subst (λ (port : _). IsSameTree port.tree c.store.new.slots.port.now.tree) c.new-slots.ensures.port (kept g c).tree
