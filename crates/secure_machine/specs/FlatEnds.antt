-- How a run comes to its end as a flat run does.
use Rattle.std.specs.Prelude.{◌≡◌, ◌+◌, ℕ, List, Option, None, Some}
use Rattle.encrypted_run.specs.Refined.{IsPrefix}
use Rattle.asc_base.specs.declared.stop.Stop.{Stop}
use Rattle.asc_base.specs.declared.stop.Stop.TheVariants as why
use Rattle.rv32_core.specs.FlatMachine.{flat_step}
use Rattle.rv32_core.specs.FlatRun.{flat_run, Exited, Trapped, Budget as FlatBudget}
use Rattle.rv32_core.specs.Machine.{Machine}
use Rattle.rv32_core.specs.declared.outcome.Ended.{Ended}
use Rattle.rv32_core.specs.declared.outcome.Ended.TheVariants as how
use Rattle.secure_machine.specs.declared.machine.Cause.{Cause}
use Rattle.secure_machine.specs.declared.machine.Cause.TheVariants.{Ends, Stops}
use Rattle.secure_machine.specs.declared.machine.Halted.{Halted}
use Rattle.secure_machine.specs.declared.report.Ending.{Ending}
use Rattle.secure_machine.specs.declared.report.Ending.TheVariants.{Exit, Trap, Budget, TimeUp, StashFull, Integrity}
use Rattle.secure_machine.specs.declared.report.Ending.TheVariants.{Device}

-- the flat machine's next instruction ends so, and leaves this machine
abbrev pub StepsTo : Machine → List ℕ → Ended → Machine → Type 0
StepsTo machine memory ended last =
    ((flat_step machine memory).done.ended ≡ ended) × ((flat_step machine memory).machine ≡ last)

-- no instruction more finishes
abbrev pub StaysAt : ℕ → ℕ → Machine → Machine → Type 0
StaysAt before instructions machine last = (instructions ≡ before) × (last ≡ machine)

-- After so many instructions a run comes to its end at a machine and its bytes: the next instruction exits, and is
-- finished; or it traps, and isn't; or it isn't begun, or is stopped, and nothing of it is done.
abbrev pub EndsFlat : (before instructions : ℕ) → Machine → List ℕ → Ending → Machine → Type 0
EndsFlat before instructions machine memory (Exit status) last =
    (instructions ≡ before + 1) × StepsTo machine memory (how.Exit status) last
EndsFlat before instructions machine memory (Trap kind pc) last =
    (instructions ≡ before) × StepsTo machine memory (how.Trap kind pc) last
EndsFlat before instructions machine memory Budget last = StaysAt before instructions machine last
EndsFlat before instructions machine memory (TimeUp at) last = StaysAt before instructions machine last
EndsFlat before instructions machine memory (StashFull held) last = StaysAt before instructions machine last
EndsFlat before instructions machine memory (Integrity evidence) last = StaysAt before instructions machine last
EndsFlat before instructions machine memory Device last = StaysAt before instructions machine last

abbrev pub CauseFlat : (before instructions : ℕ) → Machine → List ℕ → Cause → Machine → Type 0
CauseFlat before instructions machine memory (Ends ending until) last =
    EndsFlat before instructions machine memory ending last
CauseFlat before instructions machine memory (Stops stop) last = StaysAt before instructions machine last

abbrev pub HaltsFlat : ℕ → Machine → List ℕ → Halted → Machine → Type 0
HaltsFlat before machine memory halted last =
    CauseFlat before halted.instructions machine memory halted.cause last

-- How the flat machine's run ends after so many instructions, where a run over an encrypted memory ends so. At an exit
-- it has exited with this status, and at a trap the next instruction traps so. Where the budget or the time was used up
-- it goes on. After a stop nothing is said of how it ends: the stop may have come behind an exit or a trap.
abbrev pub FlatEnds : (instructions : ℕ) → Machine → List ℕ → Ending → Type 0
FlatEnds instructions machine memory (Exit status) = (flat_run instructions machine memory).ending ≡ Exited status
FlatEnds instructions machine memory (Trap kind pc) =
    (flat_run (instructions + 1) machine memory).ending ≡ Trapped kind pc
FlatEnds instructions machine memory Budget = (flat_run instructions machine memory).ending ≡ FlatBudget
FlatEnds instructions machine memory (TimeUp at) = (flat_run instructions machine memory).ending ≡ FlatBudget
FlatEnds instructions machine memory (StashFull held) = Unit {0}
FlatEnds instructions machine memory (Integrity evidence) = Unit {0}
FlatEnds instructions machine memory Device = Unit {0}

-- Instructions, ending and the machine that is left, with the output, are those of the flat run from a machine and its
-- bytes: it finishes as many, leaves this machine, and ends so.
pub record IsFlat (instructions : ℕ) (machine : Machine) (memory : List ℕ) (ending : Ending) (last : Machine) : Type 0
  where
    pub finished : (flat_run instructions machine memory).instructions ≡ instructions
    pub leaves : (flat_run instructions machine memory).machine ≡ last
    pub ends : FlatEnds instructions machine memory ending

-- the same where no more instructions come, by itself or by a stop
abbrev pub CauseRuns : (instructions : ℕ) → Machine → List ℕ → Cause → Machine → Type 0
CauseRuns instructions machine memory (Ends ending until) last = IsFlat instructions machine memory ending last
CauseRuns instructions machine memory (Stops stop) last = IsPrefix instructions machine memory last

abbrev pub HaltsRun : Machine → List ℕ → Halted → Machine → Type 0
HaltsRun machine memory halted last = CauseRuns halted.instructions machine memory halted.cause last

-- the ending that a stop is, if any
abbrev pub ending_by : Stop → Option Ending
ending_by (why.Integrity evidence) = Some (Integrity evidence)
ending_by (why.StashFull held) = Some (StashFull held)
ending_by (why.TimeUp at) = Some (TimeUp at)
ending_by why.Device = Some Device
ending_by why.NoMemory = None
