use Rattle.std.proofs.Common.{◌≡◌, ◌+◌, ◌-◌, true, []}
use Rattle.bus_watch.specs.Path.{along, writes_start}
use Rattle.bus_watch.specs.Made.{Ran}
use Rattle.bus_watch.specs.Ready.{IsReady}
use Rattle.bus_watch.specs.RunEnd.{Whole}
use Rattle.oram_contents.specs.PathWritten.{sealed}
use Rattle.unified_tree.proofs.writes.write_buckets.Given as goal

abbrev pub invariant-loop-level : goal.invariant-loop-level
invariant-loop-level g l =
    let m = g.M.UntrustedMemory.state in
    let t = g.W.Watch.state in
    let levels = l.shape.levels in
    record {
      end : l.level-end ≡ levels + 1;
      ran : Ran m t Whole (along levels true (writes_start levels l.start) l.leaf.0 l.level) [] l.fn.bus l.bus;
      ready : IsReady l.shape.buckets (levels + 1 - l.level) 0 (m l.bus.memory.now) (t l.bus.tap.now);
      altered : (t l.bus.tap.now).log.altered ≡ (t l.fn.bus.tap.now).log.altered;
      mirror : (t l.bus.tap.now).mirror
          ≡ sealed l.codec levels l.leaf.0 l.seed l.hand.entries (t l.fn.bus.tap.now).mirror l.level;
    }
