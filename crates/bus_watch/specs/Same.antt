-- A bus that is still over the same memory and the same tap.
use Rattle.std.specs.Prelude.{◌≡◌}
use Rattle.bus_watch.specs.declared.bus.Bus.{Bus}

-- the two references are the same; what stands behind them may have changed
pub record IsSameBus {M W : Type 0} (old new : Bus M W) : Type 0 where
  pub memory : new.memory.ghost_name ≡ old.memory.ghost_name
  pub tap : new.tap.ghost_name ≡ old.tap.ghost_name
