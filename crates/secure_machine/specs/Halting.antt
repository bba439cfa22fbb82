-- The end of a run that an instruction's answer stands for, and the stop that lines keep.
use Rattle.std.specs.Prelude.{◌≡◌, ◌+◌, ℕ, Some, min}
use Rattle.asc_base.specs.declared.stop.Stop.{Stop}
use Rattle.secure_machine.specs.declared.lines.TimedLines.{TimedLines}
use Rattle.secure_machine.specs.declared.machine.Cause.TheVariants.{Ends, Stops}
use Rattle.secure_machine.specs.declared.machine.Halt.{Halt}
use Rattle.secure_machine.specs.declared.machine.Halt.TheVariants as short
use Rattle.secure_machine.specs.declared.machine.Halted.{Halted}
use Rattle.secure_machine.specs.declared.report.Ending.TheVariants.{Exit, Trap, TimeUp}

module _ {M W L : Type 0} where
  -- the time of the settings
  abbrev pub time_of : TimedLines M W L → ℕ
  time_of s = s.oram.now.port.clock.config.time

  -- this holds of the stop that the lines keep
  abbrev pub OfStop : TimedLines M W L → (Stop → Type 0) → Type 0
  OfStop s Holds = (stop : Stop) → s.oram.now.stop ≡ Some stop → Holds stop

  -- After so many instructions and from this clock on the next one didn't go on, and left these lines; so a run ends.
  -- Where time is up it ends at that clock, and the slots up to the time of the settings are still to be done. An exit
  -- is an instruction more, and the run ends at the clock behind it, with the slots up to there that start in time. At
  -- a trap it ends at the clock before it, and with the slots up to there; and a stop leaves that clock too.
  abbrev pub IsEndOf : Halt → (before start : ℕ) → TimedLines M W L → Halted → Type 0
  IsEndOf short.TimeUp before start s halted = halted ≡ record {
    instructions = before;
    cycles = start;
    cause = Ends (TimeUp start) (time_of s);
  }
  IsEndOf (short.Exit status) before start s halted = halted ≡ record {
    instructions = before + 1;
    cycles = s.clock;
    cause = Ends (Exit status) (min s.clock (time_of s));
  }
  IsEndOf (short.Trap kind pc) before start s halted = halted ≡ record {
    instructions = before;
    cycles = start;
    cause = Ends (Trap kind pc) start;
  }
  IsEndOf short.Stop before start s halted = (stop : Stop) × (s.oram.now.stop ≡ Some stop)
      × (halted ≡ record { instructions = before; cycles = start; cause = Stops stop })

  -- this holds of the end for which a halt stands
  abbrev pub OfEnd : Halt → (before start : ℕ) → TimedLines M W L → (Halted → Type 0) → Type 0
  OfEnd halt before start s Holds = (halted : Halted) → IsEndOf halt before start s halted → Holds halted
