-- What decides where choices fall, and whose it is.
use Rattle.std.specs.Prelude.{◌≡◌}
use Rattle.bus_schedule.specs.Timetable.{Public, choices_of}
use Rattle.bus_schedule.specs.declared.beat.Timing.{Timing}

-- the numbers are those of a public part
pub record IsTimingOf (p : Public) (timing : Timing) : Type 0 where
  pub levels : timing.levels ≡ p.levels
  pub epoch : timing.epoch ≡ p.epoch
  pub most : timing.most ≡ choices_of p
