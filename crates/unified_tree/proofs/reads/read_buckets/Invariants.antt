use Rattle.std.proofs.Common.{◌≡◌, ◌≤◌, ◌+◌, ◌-◌, false, [], length, vec_capacity}
use Rattle.bus_watch.specs.Path.{along}
use Rattle.bus_watch.specs.Made.{Ran}
use Rattle.bus_watch.specs.Ready.{IsReady}
use Rattle.bus_watch.specs.RunEnd.{Whole}
use Rattle.unified_tree.specs.Reads.{log_after}
use Rattle.unified_tree.proofs.reads.read_buckets.Given as goal

abbrev pub invariant-loop-level : goal.invariant-loop-level
invariant-loop-level g l =
    let m = g.M.UntrustedMemory.state in
    let t = g.W.Watch.state in
    let levels = l.shape.levels in
    record {
      end : l.level-end ≡ levels + 1;
      ran : Ran m t Whole (along levels false l.start l.leaf.0 l.level) [] l.fn.bus l.bus;
      ready : IsReady l.shape.buckets (levels + 1 - l.level) 0 (m l.bus.memory.now) (t l.bus.tap.now);
      mirror : (t l.bus.tap.now).mirror ≡ (t l.fn.bus.tap.now).mirror;
      count : length l.texts.items ≡ l.level;
      room : levels + 1 ≤ vec_capacity l.texts;
      capacity : vec_capacity l.fn.texts ≤ vec_capacity l.texts;
      log : (t l.bus.tap.now).log
          ≡ log_after levels l.start l.leaf.0 (t l.fn.bus.tap.now).mirror 0 (t l.fn.bus.tap.now).log l.texts.items;
    }
