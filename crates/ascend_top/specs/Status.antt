-- The status of a command, by how it ends.
use Rattle.std.specs.Prelude.{ℕ, Result, Ok, Err}
use Rattle.rv32_core.specs.FlatRun.{FlatEnding, Exited, Trapped, Budget}
use Rattle.secure_machine.specs.declared.report.Ending.{Ending}
use Rattle.secure_machine.specs.declared.report.Ending.TheVariants as run_ending
use Rattle.ascend_top.specs.Made.{Made, Encrypted, Ran, Assembled, Listed, Held}
use Rattle.ascend_top.specs.declared.refusal.Refusal.{Refusal}
use Rattle.ascend_top.specs.declared.refusal.Refusal.TheVariants.{Usage, OutOfRange, Elf, KeyLength, TooLong, Host}
use Rattle.ascend_top.specs.declared.refusal.Refusal.TheVariants.{NoMemory, NumberOutOfRange, Assembler, Trace, Fails}

-- the status of a command whose run ended so
abbrev pub status_of_ending : FlatEnding → ℕ
status_of_ending (Exited status) = 0
status_of_ending (Trapped kind pc) = 1
status_of_ending Budget = 9

-- the status of a command whose run over encrypted memory ended so
abbrev pub status_of_run : Ending → ℕ
status_of_run (run_ending.Exit status) = 0
status_of_run (run_ending.Trap kind pc) = 1
status_of_run (run_ending.Integrity evidence) = 6
status_of_run (run_ending.StashFull held) = 7
status_of_run (run_ending.TimeUp at) = 8
status_of_run run_ending.Budget = 9
status_of_run run_ending.Device = 10

-- the status of a command that is refused so
abbrev pub status_of_refusal : Refusal → ℕ
status_of_refusal (Usage word) = 2
status_of_refusal (Elf fault) = 3
status_of_refusal (OutOfRange setting) = 4
status_of_refusal (NumberOutOfRange name) = 4
status_of_refusal (Assembler number kind) = 4
status_of_refusal (Trace number kind) = 4
status_of_refusal (KeyLength length) = 4
status_of_refusal Host = 5
status_of_refusal NoMemory = 11
status_of_refusal (Fails number found wanted) = 12
status_of_refusal (TooLong source) = 13

-- the status of a command that came to this
abbrev pub status_of_made : Made → ℕ
status_of_made (Encrypted run) = status_of_run run.report.ending
status_of_made (Ran report) = status_of_ending report.ending
status_of_made (Assembled file) = 0
status_of_made (Listed text) = 0
status_of_made (Held code bits) = 0

-- the status of a command that ends so
abbrev pub status_of : Result Made Refusal → ℕ
status_of (Ok made) = status_of_made made
status_of (Err refusal) = status_of_refusal refusal
