-- The parts of a front end's plans, one after another.
use Rattle.std.proofs.Common.{◌≡◌, ℕ, suc, ◌+◌, ◌-◌, ◌<◌, Result, Some, is_some, false, refl, sym, ap, ◌∙◌, subst}
use Rattle.std.proofs.Common.{arith}
use Rattle.asc_base.specs.Shape.{parent_in}
use Rattle.asc_base.specs.declared.block.Address.{Address}
use Rattle.asc_base.specs.declared.block.Counter.{Counter}
use Rattle.asc_base.specs.declared.block.Line.{Line}
use Rattle.asc_base.specs.declared.stop.Stop.{Stop}
use Rattle.posmap_counters.specs.Counters.{next_group}
use Rattle.posmap_counters.specs.Group.{GroupState, child_counter, group_in}
use Rattle.posmap_lookaside.specs.Held.{held_at, promoted}
use Rattle.request_plan.specs.Plan.{Ends, Stops}
use Rattle.oram_walk.specs.Front.{FrontState, counter_in, with_held}
use Rattle.oram_walk.specs.Plans.{FrontPlan, on, child_plan, children_plan, refilled, refill_plan, walk_plan}
use Rattle.oram_walk.specs.Request.{Request}
use Rattle.oram_walk.specs.declared.slots.Seen.{Seen}
use Rattle.oram_walk.proofs.Sequence.{ends_on, stops_on, stops_on_next}

-- one child before those that are left
abbrev pub one_more : GroupState → ℕ → ℕ → ℕ → FrontState → ℕ → FrontPlan ℕ
one_more group first child number state asked =
    on (child_plan state asked (record { 0 = first + child }) (child_counter group child)
    (next_group (child_counter group child)))
    (λ now end. children_plan group first (child + 1) (number - (child + 1)) now end)

-- what is left of a family, while one child is left
pub children_left : (group : GroupState) (first child number asked : ℕ) (state : FrontState) → child < number
    → children_plan group first child (number - child) state asked ≡ one_more group first child number state asked
children_left group first child number asked state below =
    let more : number - child ≡ suc (number - (child + 1)) = omega arith in
    rw more refl

-- the block that a refill holds
pub same_held : (state : FrontState) (address : Address) (line : Line) (counter : Counter) (group : GroupState)
    → counter ≡ counter_in state address → group ≡ group_in line.0
    → record { address = address; counter = counter; group = group } ≡ refilled state address line
same_held state address line counter group is_counter is_group = cc

-- the walk, while one layer is left, to a block whose parent isn't held
abbrev pub walk_further : ℕ → FrontState → ℕ → Address → FrontPlan ℕ
walk_further above state asked parent =
    on (walk_plan (above - 1) (with_held state (promoted state.held parent)) asked parent)
    (λ later end. refill_plan later end parent)

pub walk_left : (above asked : ℕ) (state : FrontState) (address parent : Address) → 0 < above
    → parent_in state.shape address ≡ Some parent → is_some (held_at state.held parent) ≡ false
    → walk_plan above state asked address ≡ walk_further above state asked parent
walk_left above asked state address parent some at none =
    let more : above ≡ suc (above - 1) = omega arith in
    subst (λ k. walk_plan k state asked address ≡ walk_further above state asked parent) (sym more)
    (rw (at, none) refl)

module _ {S : Type 0} (step : S → Request → Result Seen Stop → S → Type 0) (group : GroupState) (first child number : ℕ)
    (below : child < number) (asked : ℕ) (state : FrontState) (counter next : Counter)
    (is_counter : counter ≡ child_counter group child) (is_next : next ≡ next_group (child_counter group child)) where
  -- the child's own part, by the counters that it is given
  abbrev one : FrontPlan ℕ
  one = child_plan state asked (record { 0 = first + child }) counter next

  abbrev rest : FrontState → ℕ → FrontPlan ℕ
  rest now end = children_plan group first (child + 1) (number - (child + 1)) now end

  parts_are : on one rest ≡ children_plan group first child (number - child) state asked
  parts_are =
      ap (λ c. on (child_plan state asked (record { 0 = first + child }) c next) rest) is_counter
      ∙ ap (λ n. on (child_plan state asked (record { 0 = first + child }) (child_counter group child) n) rest) is_next
      ∙ sym (children_left group first child number asked state below)

  pub child_ends : (now : FrontState) (end : ℕ) (s m t : S) (d : FrontState × ℕ) → Ends step one s m (now, end)
      → Ends step (rest now end) m t d → Ends step (children_plan group first child (number - child) state asked) s t d
  child_ends now end s m t d here later =
      subst (λ (plan : FrontPlan ℕ). Ends step plan s t d) parts_are (ends_on step one rest s m t now end d here later)

  pub child_stops : (s t : S) (stop : Stop) (left : FrontState) → Stops step one s t stop left
      → Stops step (children_plan group first child (number - child) state asked) s t stop left
  child_stops s t stop left here =
      subst (λ (plan : FrontPlan ℕ). Stops step plan s t stop left) parts_are
      (stops_on step one rest s t stop left here)

  pub child_stops_later : (now : FrontState) (end : ℕ) (s m t : S) (stop : Stop) (left : FrontState)
      → Ends step one s m (now, end) → Stops step (rest now end) m t stop left
      → Stops step (children_plan group first child (number - child) state asked) s t stop left
  child_stops_later now end s m t stop left here later =
      subst (λ (plan : FrontPlan ℕ). Stops step plan s t stop left) parts_are
      (stops_on_next step one rest s m t now end stop left here later)

module _ {S : Type 0} (step : S → Request → Result Seen Stop → S → Type 0) (above asked : ℕ) (state before : FrontState)
    (address parent : Address) (some : 0 < above) (at : parent_in state.shape address ≡ Some parent)
    (none : is_some (held_at state.held parent) ≡ false)
    (same : before ≡ with_held state (promoted state.held parent)) where
  abbrev first : FrontPlan ℕ
  first = walk_plan (above - 1) before asked parent

  abbrev then_refill : FrontState → ℕ → FrontPlan ℕ
  then_refill now end = refill_plan now end parent

  walk_is : on first then_refill ≡ walk_plan above state asked address
  walk_is =
      ap (λ (f : FrontState). on (walk_plan (above - 1) f asked parent) then_refill) same
      ∙ sym (walk_left above asked state address parent some at none)

  pub walk_ends : (now : FrontState) (end : ℕ) (s m t : S) (d : FrontState × ℕ) → Ends step first s m (now, end)
      → Ends step (then_refill now end) m t d → Ends step (walk_plan above state asked address) s t d
  walk_ends now end s m t d here later =
      subst (λ (plan : FrontPlan ℕ). Ends step plan s t d) walk_is
      (ends_on step first then_refill s m t now end d here later)

  pub walk_stops : (s t : S) (stop : Stop) (left : FrontState) → Stops step first s t stop left
      → Stops step (walk_plan above state asked address) s t stop left
  walk_stops s t stop left here =
      subst (λ (plan : FrontPlan ℕ). Stops step plan s t stop left) walk_is
      (stops_on step first then_refill s t stop left here)

  pub walk_stops_later : (now : FrontState) (end : ℕ) (s m t : S) (stop : Stop) (left : FrontState)
      → Ends step first s m (now, end) → Stops step (then_refill now end) m t stop left
      → Stops step (walk_plan above state asked address) s t stop left
  walk_stops_later now end s m t stop left here later =
      subst (λ (plan : FrontPlan ℕ). Stops step plan s t stop left) walk_is
      (stops_on_next step first then_refill s m t now end stop left here later)
