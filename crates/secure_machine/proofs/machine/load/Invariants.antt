use Rattle.std.proofs.Common.{◌≡◌, ◌≤◌, ℕ, List, take, drop, ◌+◌}
use Rattle.data_cache.specs.Cached.{StandsAs}
use Rattle.data_cache.specs.CacheLists.{Sets}
use Rattle.fed_run.specs.Fed.{sets_along}
use Rattle.rv32_core.specs.LineList.{WholeWrite, used}
use Rattle.secure_machine.specs.Fed.{noted, over_image}
use Rattle.asc_base.specs.Settings.{IsConfig}
use Rattle.asc_base.specs.TreeShape.{olat_of}
use Rattle.asc_base.specs.declared.settings.Config.{Config}
use Rattle.encrypted_run.specs.Refined.{loaded}
use Rattle.oram_contents.specs.Entries.{AreKeys}
use Rattle.run_play.specs.Play.{Play}
use Rattle.rv32_core.specs.Machine.{Machine}
use Rattle.secure_machine.specs.Plays.{CallsInPlay, InImage}
use Rattle.secure_machine.specs.Refines.{Knows}
use Rattle.secure_machine.specs.Same.{keys_in}
use Rattle.data_cache.specs.Contents.{CacheBelow}
use Rattle.secure_machine.specs.Runs.{Onwards}
use Rattle.secure_machine.specs.Spent.{ClockSpent}
use Rattle.secure_machine.proofs.machine.load.Given as goal

-- so many lines are written
abbrev pub invariant-loop-at : goal.invariant-loop-at
invariant-loop-at g l = record {
  onwards : Onwards g.M.UntrustedMemory.state g.W.Watch.state g.L.LeafFn.leaf_of g.L.LeafFn.levels l.fn.lines l.lines;
  below : CacheBelow l.lines.count l.cache;
  refines : (memory : List ℕ) → AreKeys (keys_in g.L.LeafFn.leaf_of l.fn.lines)
      → Knows g.M.UntrustedMemory.state g.W.Watch.state g.L.LeafFn.leaf_of g.L.LeafFn.levels l.fn.cache
      memory l.fn.lines
      → Knows g.M.UntrustedMemory.state g.W.Watch.state g.L.LeafFn.leaf_of g.L.LeafFn.levels l.cache
      (loaded l.fn.image.bytes.items (take l.at l.fn.image.marked.items) memory) l.lines;
  fed : (ways : ℕ) (sets : Sets) → StandsAs l.fn.lines.count ways l.fn.cache (over_image l.fn.image sets)
      → (noted g.W.Watch.state l.lines ≡ noted g.W.Watch.state l.fn.lines)
      × StandsAs l.lines.count ways l.cache
      (over_image l.fn.image (sets_along ways sets (used WholeWrite (take l.at l.fn.image.marked.items))));
  plays : (config : Config) (whole : Play) (machine : Machine) → AreKeys (keys_in g.L.LeafFn.leaf_of l.fn.lines)
      → CallsInPlay g.M.UntrustedMemory.state g.W.Watch.state g.L.LeafFn.leaf_of g.L.LeafFn.levels config l.fn.lines
      → IsConfig config
      → InImage g.M.UntrustedMemory.state g.W.Watch.state g.L.LeafFn.leaf_of g.L.LeafFn.levels config whole 0
      l.fn.image.bytes.items machine l.fn.image.marked.items l.fn.cache l.fn.lines
      → InImage g.M.UntrustedMemory.state g.W.Watch.state g.L.LeafFn.leaf_of g.L.LeafFn.levels config whole
      (config.time + olat_of config.shape.levels + l.at) l.fn.image.bytes.items machine
      (drop l.at l.fn.image.marked.items) l.cache l.lines;
  spends : (config : Config) (levels costs : ℕ) → l.fn.lines.clock ≤ config.time + olat_of config.shape.levels
      → ClockSpent g.M.UntrustedMemory.state g.W.Watch.state g.L.LeafFn.levels config levels costs l.fn.lines
      → ClockSpent g.M.UntrustedMemory.state g.W.Watch.state g.L.LeafFn.levels config levels (costs + l.at) l.lines
      × (l.lines.clock ≤ config.time + olat_of config.shape.levels + l.at);
}
