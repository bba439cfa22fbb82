use Rattle.std.proofs.Common.{◌≡◌, ◌<◌, ◌+◌, ◌-◌, ◌≤◌, ℕ, List, max}
use Rattle.asc_base.specs.TreeShape.{olat_of}
use Rattle.bus_watch.specs.RunEnd.{Whole}
use Rattle.unified_tree.specs.Slot.{contents_of}
use Rattle.rate_enforcer.specs.Served.{keys_of, HavePassed}
use Rattle.unified_tree.specs.Tree.{IsSameTree}
use Rattle.rate_enforcer.specs.Counts.{IsCounted}
use Rattle.rate_enforcer.specs.State.{Rests}
use Rattle.rate_enforcer.specs.Stops.{RanTo}
use Rattle.rate_enforcer.proofs.port.Port.pass_until.Given as goal

abbrev pub invariant-loop-self : goal.invariant-loop-self
invariant-loop-self g l =
    let m = g.M.UntrustedMemory.state in
    let t = g.W.Watch.state in
    record {
      leaves : l.self.leaves ≡ l.fn.self.leaves;
      kept : IsSameTree l.fn.self.tree l.self.tree;
      config : l.self.clock.config ≡ l.fn.self.clock.config;
      rests : (notes : ℕ) → Rests notes l.fn.self.clock l.fn.self.tree (g.L.LeafFn.levels l.fn.self.leaves)
          (m l.fn.bus.memory.now) (t l.fn.bus.tap.now) → Rests notes l.self.clock l.self.tree
          (g.L.LeafFn.levels l.self.leaves) (m l.bus.memory.now) (t l.bus.tap.now);
      last : l.self.clock.last < max l.fn.self.clock.last l.time + olat_of l.fn.self.clock.config.shape.levels;
      more : l.fn.self.clock.dummies ≤ l.self.clock.dummies;
      counts : IsCounted l.fn.self.clock (t l.fn.bus.tap.now).log → IsCounted l.self.clock (t l.bus.tap.now).log;
      real : l.self.clock.real ≡ l.fn.self.clock.real;
      passed : (tags : List ℕ) → HavePassed (keys_of l.fn.self.tree tags (g.L.LeafFn.leaf_of l.fn.self.leaves))
          l.fn.self.tree.stash (l.self.clock.dummies - l.fn.self.clock.dummies) (t l.fn.bus.tap.now).log
          (t l.bus.tap.now).log (contents_of l.fn.self.tree (t l.fn.bus.tap.now))
          (contents_of l.self.tree (t l.bus.tap.now)) l.fn.self.clock.dummies;
      ran : RanTo m t Whole l.fn.bus l.bus;
    }

abbrev pub decreases-loop-self : goal.decreases-loop-self
decreases-loop-self g l = l.time - l.self.clock.next
