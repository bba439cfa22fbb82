-- Calls that stop are there: memory may be wanted before a slot begins, in a walk and in a wait.
use Rattle.std.proofs.Common.{◌≡◌, ◌<◌, inl, inr, ℕ, zero, suc, [], Option, None, Err, is_some}
use Rattle.std.proofs.Common.{refl, sym, ap, subst, arith}
use Rattle.std.specs.Option.{option_map_or}
use Rattle.request_plan.specs.Plan.{Done, Ask, Stops}
use Rattle.request_plan.proofs.Chains.{Stops-bind}
use Rattle.asc_base.specs.Shape.{parent_in}
use Rattle.asc_base.specs.declared.block.Address.{Address}
use Rattle.asc_base.specs.declared.block.Point.{Point}
use Rattle.asc_base.specs.declared.block.Point.TheVariants.{Real}
use Rattle.asc_base.specs.declared.stop.Stop.TheVariants.{NoMemory}
use Rattle.bus_watch.specs.RunEnd.{Whole}
use Rattle.bus_watch.proofs.MadeLaws.{made_none}
use Rattle.epoch_learner.proofs.StandLaws.{stands_next, stands_pace, stands_apart}
use Rattle.oram_contents.specs.Entries.{Keys}
use Rattle.oram_frontend.specs.Access.{SlotStep}
use Rattle.oram_frontend.specs.Oram.{OramState, OramStep, Fetch, Wait}
use Rattle.oram_walk.specs.Front.{FrontState, counter_in, full_by, stepped, with_held}
use Rattle.oram_walk.specs.Plans.{FrontPlan, on, step_plan, full_plan, visit_plan, refill_plan, found_plan, walk_plan}
use Rattle.oram_walk.specs.Plans.{request_plan}
use Rattle.oram_walk.specs.Request.{Slot, Answer, Steps}
use Rattle.oram_walk.specs.declared.slots.Access.{Access}
use Rattle.oram_walk.specs.declared.slots.Purpose.TheVariants.{Keep}
use Rattle.posmap_lookaside.specs.Held.{held_at, promoted}
use Rattle.rate_enforcer.proofs.WholeSlots.{rests_whole}
use Rattle.rate_enforcer.specs.PortStep.{PortState, PortStep, Resting, Used, IsSamePort, KeepsCount, OpenStopped, Idle}
use Rattle.rate_enforcer.specs.PortStep.{IdleStopped}
use Rattle.rate_enforcer.specs.State.{Stopped}
use Rattle.oram_lines.specs.Lines.{Lines, HoldsLines, wanting, wanted}

module _ (keys : Keys) (levels : ℕ) where
  -- memory is wanted before a slot begins
  module _ (s : PortState) (notes : ℕ) (rests : Resting notes levels s) where
    same : IsSamePort s (wanting s)
    same = record { config = refl; tree = record { shape = refl; stash = refl; key = refl } }

    unused : Used Whole s (wanting s)
    unused = record { moves = []; events = []; made = made_none s.memory s.tap }

    stopped : Stopped s.clock.config (wanting s).clock NoMemory s.tap.log
    stopped = record {
      kept = refl;
      same = refl;
      ends = inl (stands_next rests.stands);
      pace = stands_pace s.clock.last rests.stands (omega arith) (omega (arith, stands_apart rests.stands));
      in_time = rests.in_time;
    }

    counts : KeepsCount s (wanting s)
    counts c = record { dummies = c.dummies; real = c.real; code = c.code; leaves = c.leaves }

    open_wants : (asked : ℕ) (point : Point) → s.clock.next < s.clock.config.time
        → OpenStopped keys.leaf_of levels asked point NoMemory s (wanting s)
    open_wants asked point early = record {
      going = rests.going;
      same = same;
      end = Whole;
      is_end = inl refl;
      used = unused;
      stopped = stopped;
      counts = counts;
      breaks = λ tags. inr (
        record {
          done = 0;
          mid = s.tap.log;
          between = Rattle.rate_enforcer.specs.PortStep.contents s;
          passed = (refl, refl);
          few = tt;
          stops = inl (refl, refl, rests_whole rests);
        },
        early,
      );
    }

    idle_wants : (time : ℕ) → s.clock.next < time → IdleStopped keys.leaf_of levels time NoMemory s (wanting s)
    idle_wants time early = record {
      going = rests.going;
      early = early;
      same = same;
      end = Whole;
      is_end = inl refl;
      used = unused;
      stopped = stopped;
      real = refl;
      counts = counts;
      breaks = λ tags. record {
        done = 0;
        mid = s.tap.log;
        between = Rattle.rate_enforcer.specs.PortStep.contents s;
        passed = (refl, refl);
        few = tt;
        stops = inl (inl (refl, refl, rests_whole rests));
      };
    }

    access_wants : (access : Access) → s.clock.next < s.clock.config.time
        → SlotStep keys levels s (Slot access) (Err NoMemory) (wanting s)
    access_wants access early =
        inr (inl (inr (open_wants access.asked (Real access.address access.counter) early), refl))

  -- the walk to a block of the top layer asks for nothing
  no_walk : (layers : ℕ) (front : FrontState) (asked : ℕ) (a : Address) → parent_in front.shape a ≡ None
      → walk_plan layers front asked a ≡ Done (front, asked)
  no_walk zero front asked a top = refl
  no_walk (suc above) front asked a top =
      ap (λ (o : Option Address). option_map_or (λ parent.
      let now = with_held front (promoted front.held parent) in
      found_plan (is_some (held_at front.held parent)) now asked
      (on (walk_plan above now asked parent) (λ later end. refill_plan later end parent))) o (Done (front, asked))) top

  -- A fetch of a line of the top layer wants memory, or a wait.
  pub fetch_wants : (lines : Lines) (o : OramState) (asked line : ℕ) → HoldsLines keys levels lines o → o.stop ≡ None
      → parent_in o.front.shape (record { 0 = line }) ≡ None → o.port.clock.next < o.port.clock.config.time
      → OramStep keys levels o (Fetch asked line) (Err NoMemory) (wanted (stepped o.front (record { 0 = line })) o)
  fetch_wants lines o asked line x serves top early =
      inr (
        (serves, refl),
        Stops-bind (Steps (SlotStep keys levels)) (λ (state : FrontState). state)
            (request_plan o.front asked a Keep) (λ (now, seen). Ask (Answer line seen.line) now (λ _. Done (now, seen)))
            o.port (wanting o.port) NoMemory (stepped o.front a) requested,
      )
    where
      a : Address
      a = record { 0 = line }

      access : Access
      access = record {
        asked = asked;
        address = a;
        counter = counter_in o.front a;
        next = counter_in (stepped o.front a) a;
        purpose = Keep;
      }

      visited : Stops (Steps (SlotStep keys levels)) (visit_plan o.front asked a Keep) o.port (wanting o.port) NoMemory
          (stepped o.front a)
      visited = subst (λ (p : Option Address). Stops (Steps (SlotStep keys levels))
          (on (full_plan o.front asked (full_by o.front a p)) (λ now end. step_plan now end a Keep)) o.port
          (wanting o.port) NoMemory (stepped o.front a)) (sym top)
          (inl (access_wants o.port (x.stands.rests.0) (x.stands.rests.2) access early, refl))

      requested : Stops (Steps (SlotStep keys levels)) (request_plan o.front asked a Keep) o.port (wanting o.port)
          NoMemory (stepped o.front a)
      requested = subst (λ (walk : FrontPlan ℕ). Stops (Steps (SlotStep keys levels))
          (on walk (λ now end. visit_plan now end a Keep)) o.port (wanting o.port) NoMemory (stepped o.front a))
          (sym (no_walk o.front.shape.layers o.front asked a top)) visited

  pub wait_wants : (lines : Lines) (o : OramState) (time : ℕ) → HoldsLines keys levels lines o → o.stop ≡ None
      → o.port.clock.next < time → OramStep keys levels o (Wait time) (Err NoMemory) (wanted o.front o)
  wait_wants lines o time x serves early =
      inr ((serves, refl), refl, inr (idle_wants o.port (x.stands.rests.0) (x.stands.rests.2) time early))
