-- When a port can serve, and what its calls leave.
use Rattle.std.specs.Prelude.{◌≡◌, ◌+◌, ◌*◌, ◌^◌, ◌<◌, ◌≤◌, ℕ, None, Some, length, min}
use Rattle.asc_base.specs.Settings.{IsConfig}
use Rattle.asc_base.specs.TreeShape.{olat_of}
use Rattle.asc_base.specs.declared.settings.Config.{Config}
use Rattle.asc_base.specs.declared.stop.Stop.{Stop}
use Rattle.asc_outside.specs.Memory.{MemoryState}
use Rattle.bus_schedule.specs.Scheduled.{log_code}
use Rattle.bus_schedule.specs.Shown.{starts_of}
use Rattle.bus_schedule.specs.Timetable.{public_of, end_at, first_from}
use Rattle.bus_watch.specs.Log.{TapState, LogLists}
use Rattle.bus_watch.specs.Path.{reads}
use Rattle.bus_watch.specs.Ready.{IsReady}
use Rattle.epoch_learner.specs.Stands.{Stands, StandsIn, KeepsPace}
use Rattle.oram_stash.specs.Entries.{AreApart}
use Rattle.unified_tree.specs.Tree.{TreeState}
use Rattle.rate_enforcer.specs.Stops.{EndsAt}
use Rattle.rate_enforcer.specs.declared.clock.Clock.{Clock}
use Rattle.rate_enforcer.specs.declared.port.OpenSlot.{OpenSlot}

-- A tree is made for a clock's configuration, and so is a leaf function with so many levels; fewer seeds were used than
-- cycles passed. Addresses at hand differ.
pub record IsFor (clock : Clock) (tree : TreeState) (levels : ℕ) : Type 0 where
  pub shape : tree.shape ≡ clock.config.shape
  pub stash : tree.stash ≡ clock.config.stash
  pub levels_are : levels ≡ clock.config.shape.levels
  pub seed : tree.seed ≤ clock.next
  pub apart : AreApart tree.hand

-- Between two slots: the learner and the log stand where the timetable does, no path is open, and the bus has room for
-- all slots that start before the time of the settings, with six events each, and for so many events more.
pub record Rests (notes : ℕ) (clock : Clock) (tree : TreeState) (levels : ℕ) (memory : MemoryState) (tap : TapState)
    : Type 0 where
  pub going : clock.stop ≡ None
  pub done : ℕ
  pub stands : Stands clock.config done clock.last clock.next clock.learner tap.log
  pub in_time : clock.last < clock.config.time + olat_of clock.config.shape.levels
  pub dummies : clock.dummies < clock.next
  pub real : clock.real < clock.next
  pub left : ℕ
  pub enough : clock.config.time ≤ clock.next + left * olat_of clock.config.shape.levels
  pub room : IsReady clock.config.shape.buckets (2 * (clock.config.shape.levels + 1) * left) (6 * left + notes)
      memory tap
  pub is_for : IsFor clock tree levels
  pub path : tree.path ≡ None
  pub few : length tree.hand ≤ clock.config.stash

-- A slot is the one that is open: it is the next one, and the tree's path.
pub record IsOpen (clock : Clock) (slot : OpenSlot) (tree : TreeState) : Type 0 where
  pub is_config : IsConfig clock.config
  pub early : clock.next < clock.config.time
  pub starts : slot.start ≡ clock.next
  pub path : tree.path ≡ Some (record { start = slot.start; leaf = slot.leaf })

-- In a slot after its reads: the learner has seen it, and there is room for its writes, for so many events, for the
-- choice at its end and for all slots behind it.
pub record Opens (notes : ℕ) (clock : Clock) (slot : OpenSlot) (tree : TreeState) (levels : ℕ) (memory : MemoryState)
    (tap : TapState) : Type 0 where
  pub going : clock.stop ≡ None
  pub is_open : IsOpen clock slot tree
  pub leaf_in : slot.leaf.0 < 2 ^ clock.config.shape.levels
  pub done : ℕ
  pub stands : StandsIn clock.config done clock.next slot.leaf.0
      (reads clock.config.shape.levels clock.next slot.leaf.0) clock.learner tap.log
  pub dummies : clock.dummies ≤ clock.next
  pub real : clock.real ≤ clock.next
  pub left : ℕ
  pub enough : clock.config.time ≤ clock.next + (left * olat_of clock.config.shape.levels
      + olat_of clock.config.shape.levels)
  pub room : IsReady clock.config.shape.buckets
      (2 * (clock.config.shape.levels + 1) * left + (clock.config.shape.levels + 1)) (6 * left + (notes + 1)) memory tap
  pub is_for : IsFor clock tree levels

-- A stopped clock: it keeps its stop, and its last end is the one that the stop leaves, up to which the log keeps the
-- pace, and which comes less than a slot's cycles after the time of the settings.
pub record Stopped (config : Config) (clock : Clock) (stop : Stop) (log : LogLists) : Type 0 where
  pub kept : clock.stop ≡ Some stop
  pub same : clock.config ≡ config
  pub ends : EndsAt stop config.shape.levels clock.learner.rate clock.next clock.last
  pub pace : KeepsPace config clock.last log
  pub in_time : clock.last < config.time + olat_of config.shape.levels

-- No slot is left: the first that starts at or after the smaller of the time asked and the time of the settings would
-- start at this one, which isn't before that of the settings. The last end is that of the slots that started, 0 before
-- the first. The log keeps the pace up to each time from the last end to this one.
pub record IsUp (config : Config) (at asked : ℕ) (clock : Clock) (log : LogLists) : Type 0 where
  pub next : at ≡ clock.next
  pub late : config.time ≤ at
  pub first : at ≡ first_from (public_of config) (log_code (public_of config) log) (min asked config.time)
  pub ended : clock.last ≡ end_at (public_of config) (log_code (public_of config) log) (length (starts_of log.events))
  pub pace : (end : ℕ) → clock.last ≤ end → end ≤ at → KeepsPace config end log
