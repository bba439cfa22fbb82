-- What contracts see of lines with a clock, and lines that are still over the same memory, tap and encrypted memory.
use Rattle.std.specs.Prelude.{◌≡◌, ℕ}
use Rattle.asc_base.specs.declared.block.Point.{Point}
use Rattle.asc_outside.specs.Memory.{MemoryState}
use Rattle.bus_watch.specs.Log.{TapState}
use Rattle.oram_contents.specs.Entries.{Keys}
use Rattle.oram_frontend.specs.Oram.{OramState, oram_of}
use Rattle.oram_frontend.specs.declared.oram.Oram.{Oram}
use Rattle.rate_enforcer.specs.Served.{keys_of}
use Rattle.unified_tree.specs.Tree.{IsSameTree}
use Rattle.play_run.specs.Timed.{TimedState}
use Rattle.secure_machine.specs.declared.lines.TimedLines.{TimedLines}

-- an encrypted memory over this memory and this tap
abbrev pub oram_over : {M W L : Type 0} → (M → MemoryState) → (W → TapState) → Oram L → M → W → OramState
oram_over memory_of tap_of oram memory tap =
    oram_of oram.front oram.port.clock oram.port.tree oram.stop (memory_of memory) (tap_of tap)

-- an encrypted memory with a clock, over what it was lent
abbrev pub timed_of : {M W L : Type 0} → (M → MemoryState) → (W → TapState) → TimedLines M W L → TimedState
timed_of memory_of tap_of lines = record {
  oram = oram_over memory_of tap_of lines.oram.now lines.memory.now lines.tap.now;
  clock = lines.clock;
  fetches = lines.fetches;
}

-- its keys
abbrev pub keys_in : {M W L : Type 0} → (L → Point → ℕ) → TimedLines M W L → Keys
keys_in leaf_of lines =
    keys_of lines.oram.now.port.tree lines.oram.now.tagger (leaf_of lines.oram.now.port.leaves)

-- the references are the same, and there are as many lines; behind them the tags, the leaf function and the
-- tree are
pub record IsSameLines {M W L : Type 0} (old new : TimedLines M W L) : Type 0 where
  pub memory : new.memory.ghost_name ≡ old.memory.ghost_name
  pub tap : new.tap.ghost_name ≡ old.tap.ghost_name
  pub oram : new.oram.ghost_name ≡ old.oram.ghost_name
  pub count : new.count ≡ old.count
  pub tagger : new.oram.now.tagger ≡ old.oram.now.tagger
  pub leaves : new.oram.now.port.leaves ≡ old.oram.now.port.leaves
  pub tree : IsSameTree old.oram.now.port.tree new.oram.now.port.tree
