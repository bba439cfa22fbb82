-- Slots of a port that are still over the same memory, tap and port.
use Rattle.std.specs.Prelude.{◌≡◌}
use Rattle.unified_tree.specs.Tree.{IsSameTree}
use Rattle.oram_frontend.specs.declared.slots.PortSlots.{PortSlots}

-- the references are the same; behind them the keys of tags, the leaf function, the configuration, and the tree's
-- shape, stash and key are
pub record IsSameSlots {M W L : Type 0} (old new : PortSlots M W L) : Type 0 where
  pub memory : new.memory.ghost_name ≡ old.memory.ghost_name
  pub tap : new.tap.ghost_name ≡ old.tap.ghost_name
  pub port : new.port.ghost_name ≡ old.port.ghost_name
  pub tagger : new.tagger.now ≡ old.tagger.now
  pub leaves : new.port.now.leaves ≡ old.port.now.leaves
  pub config : new.port.now.clock.config ≡ old.port.now.clock.config
  pub tree : IsSameTree old.port.now.tree new.port.now.tree
