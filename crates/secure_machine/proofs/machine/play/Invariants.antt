use Rattle.std.proofs.Common.{◌≡◌, ◌≤◌, ◌*◌, ◌⊎◌, ℕ, List, ◌+◌, length}
use Rattle.data_cache.specs.Cached.{StandsAs}
use Rattle.data_cache.specs.CacheLists.{Sets}
use Rattle.asc_base.specs.Settings.{IsConfig}
use Rattle.asc_base.specs.TreeShape.{olat_of}
use Rattle.asc_base.specs.declared.settings.Config.{Config}
use Rattle.data_cache.specs.Contents.{CacheBelow}
use Rattle.encrypted_run.specs.Refined.{loaded}
use Rattle.oram_contents.specs.Entries.{AreKeys}
use Rattle.rv32_core.specs.Machine.{IsCore}
use Rattle.rv32_core.specs.StepPlan.{machine_of}
use Rattle.secure_machine.specs.Fed.{over_image, over_loaded}
use Rattle.run_play.specs.Play.{Play}
use Rattle.secure_machine.specs.Plays.{CallsInPlay, InImage, InRun}
use Rattle.secure_machine.specs.Refines.{IsForged, StandFor, Knows}
use Rattle.secure_machine.specs.Runs.{Onwards}
use Rattle.secure_machine.specs.Same.{keys_in}
use Rattle.secure_machine.proofs.FedChains.{FedSoFar}
use Rattle.secure_machine.proofs.FlatLaws.{Reaches}
use Rattle.secure_machine.specs.Spent.{ClockSpent}
use Rattle.secure_machine.proofs.SpentRuns.{SpentSoFar}
use Rattle.secure_machine.proofs.machine.play.Given as goal

-- so many instructions are finished
abbrev pub invariant-loop-before : goal.invariant-loop-before
invariant-loop-before g l = record {
  onwards : Onwards g.M.UntrustedMemory.state g.W.Watch.state g.L.LeafFn.leaf_of g.L.LeafFn.levels l.fn.lines l.lines;
  below : CacheBelow l.lines.count l.cache;
  base : l.fn.base ≡ l.core.base;
  size : l.core.size ≡ 64 * l.lines.count;
  core : IsCore l.fn.core → IsCore l.core;
  refines : (memory : List ℕ) → AreKeys (keys_in g.L.LeafFn.leaf_of l.fn.lines) → IsCore l.fn.core
      → Knows g.M.UntrustedMemory.state g.W.Watch.state g.L.LeafFn.leaf_of g.L.LeafFn.levels l.fn.cache
      memory l.fn.lines
      → IsForged g.M.UntrustedMemory.state g.W.Watch.state g.L.LeafFn.leaf_of g.L.LeafFn.levels l.lines
      ⊎ ((now : List ℕ) × Reaches l.before (machine_of l.fn.core l.fn.files)
      (loaded l.fn.image.bytes.items l.fn.image.marked.items memory) (machine_of l.core l.files) now
      × StandFor g.M.UntrustedMemory.state g.W.Watch.state g.L.LeafFn.leaf_of g.L.LeafFn.levels l.cache now l.lines);
  fed : (ways : ℕ) (sets : Sets) → IsCore l.fn.core
      → StandsAs l.fn.lines.count ways l.fn.cache (over_image l.fn.image sets)
      → FedSoFar g.W.Watch.state ways l.before (machine_of l.fn.core l.fn.files)
      (over_loaded ways l.fn.image sets) l.fn.lines l.lines l.cache (machine_of l.core l.files);
  plays : (config : Config) (whole : Play) (left : ℕ) → AreKeys (keys_in g.L.LeafFn.leaf_of l.fn.lines)
      → CallsInPlay g.M.UntrustedMemory.state g.W.Watch.state g.L.LeafFn.leaf_of g.L.LeafFn.levels config l.fn.lines
      → IsConfig config → IsCore l.fn.core → config.budget ≡ l.fn.budget
      → InImage g.M.UntrustedMemory.state g.W.Watch.state g.L.LeafFn.leaf_of g.L.LeafFn.levels config whole 0
      l.fn.image.bytes.items (machine_of l.fn.core l.fn.files) l.fn.image.marked.items l.fn.cache l.fn.lines
      → l.before + left ≡ l.fn.budget
      → InRun g.M.UntrustedMemory.state g.W.Watch.state g.L.LeafFn.leaf_of g.L.LeafFn.levels config whole l.before left
      (machine_of l.core l.files) l.cache l.lines;
  spends : (config : Config) (levels costs ways : ℕ) (sets : Sets) → IsCore l.fn.core
      → StandsAs l.fn.lines.count ways l.fn.cache (over_image l.fn.image sets)
      → l.fn.lines.clock ≤ config.time + olat_of config.shape.levels
      → ClockSpent g.M.UntrustedMemory.state g.W.Watch.state g.L.LeafFn.levels config levels costs l.fn.lines
      → SpentSoFar g.M.UntrustedMemory.state g.W.Watch.state g.L.LeafFn.levels config levels
      (costs + length l.fn.image.marked.items) ways l.before (machine_of l.fn.core l.fn.files)
      (over_loaded ways l.fn.image sets) l.fn.lines l.lines l.cache (machine_of l.core l.files);
}
