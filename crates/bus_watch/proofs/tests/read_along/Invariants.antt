use Rattle.std.proofs.Common.{false, [], ◌≡◌, ◌+◌, ◌-◌}
use Rattle.bus_watch.specs.Made.{Ran}
use Rattle.bus_watch.specs.Path.{along}
use Rattle.bus_watch.specs.Ready.{IsReady}
use Rattle.bus_watch.specs.RunEnd.{Whole}
use Rattle.bus_watch.proofs.tests.read_along.Given as goal

abbrev pub invariant-loop-level : goal.invariant-loop-level
invariant-loop-level g l =
    let m = g.M.UntrustedMemory.state in
    let t = g.W.Watch.state in
    record {
      end : l.level-end ≡ l.shape.levels + 1;
      ran : Ran m t Whole (along l.shape.levels false l.start l.leaf.0 l.level) [] l.fn.bus l.bus;
      ready : IsReady l.shape.buckets (l.shape.levels + 1 - l.level) 0 (m l.bus.memory.now) (t l.bus.tap.now);
    }
