use Rattle.std.proofs.Common.{◌≡◌, ◌≤◌, ◌-◌}
use Rattle.request_plan.specs.Plan.{Ends, Stops}
use Rattle.asc_base.specs.Shape.{children_in}
use Rattle.oram_walk.specs.Front.{IsFront}
use Rattle.oram_walk.specs.Plans.{family_plan, children_plan}
use Rattle.oram_walk.specs.Request.{Steps}
use Rattle.oram_walk.proofs.front.Front.move_children.Given as goal

-- what is left to move makes the whole, and the slots rest
abbrev pub invariant-loop-child : goal.invariant-loop-child
invariant-loop-child g l =
    let step = Steps g.S.Slots.step in
    record {
      shape : l.self.shape ≡ l.fn.self.shape;
      whole : IsFront l.self;
      total : g.S.Slots.total l.slots ≡ g.S.Slots.total l.fn.slots;
      rests : g.S.Slots.rests l.slots;
      last : g.S.Slots.last l.slots ≤ l.end;
      ends : (new : _) (end : _)
          → Ends step (children_plan l.group l.first.0 l.child (l.number - l.child) l.self l.end) l.slots new end
          → Ends step (family_plan l.fn.group (children_in l.fn.self.shape l.fn.parent) l.fn.self l.fn.asked)
          l.fn.slots new end;
      stops : (new : _) (stop : _) (left : _)
          → Stops step (children_plan l.group l.first.0 l.child (l.number - l.child) l.self l.end) l.slots new stop left
          → Stops step (family_plan l.fn.group (children_in l.fn.self.shape l.fn.parent) l.fn.self l.fn.asked)
          l.fn.slots new stop left;
    }
