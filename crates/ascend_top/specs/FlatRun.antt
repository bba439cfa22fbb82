-- The flat run of a program file, and what is reported of a run.
use Rattle.std.specs.Prelude.{ℕ, List, [], Option, Some, None, unwrap_or}
use Rattle.asc_base.specs.declared.settings.Settings.{Settings}
use Rattle.asc_outside.specs.Host.{Files}
use Rattle.elf_loader.specs.Elf.{entry_of}
use Rattle.elf_loader.specs.Layout.{image_bytes, first_break}
use Rattle.rv32_core.specs.FlatRun.{FlatRun, FlatEnding, Exited, Trapped, Budget, flat_run, machine_at_start}
use Rattle.rv32_core.specs.FlatRun.{output_limit}
use Rattle.ascend_words.specs.Grammar.{Pair}
use Rattle.ascend_words.specs.Settings.{text_in, settings_of}
use Rattle.ascend_words.specs.declared.table.Name.{Name}
use Rattle.ascend_words.specs.declared.table.Name.TheVariants.{Elf, Input}
use Rattle.ascend_top.specs.declared.status.Ending.{Ending}
use Rattle.ascend_top.specs.declared.status.Ending.TheVariants.{Exit, Trap, Budget as OutOfBudget}
use Rattle.ascend_top.specs.declared.commands.flat.Outcome.{Outcome}

-- what is reported of a run: how many instructions finished, how it ended, and its output
pub record Report : Type 0 where
  pub instructions : ℕ
  pub ending : FlatEnding
  pub output : List ℕ

-- the report of a flat run
abbrev pub report_of : FlatRun → Report
report_of run = record { instructions = run.instructions; ending = run.ending; output = run.machine.files.output }

-- how a run ended, as the flat run has it
abbrev pub ending_of : Ending → FlatEnding
ending_of (Exit status) = Exited status
ending_of (Trap kind pc) = Trapped kind pc
ending_of OutOfBudget = Budget

-- what a run came to, as a report
abbrev pub outcome_report : Outcome → Report
outcome_report outcome =
    record { instructions = outcome.instructions; ending = ending_of outcome.ending; output = outcome.output.items }

-- a flat run of at most so many instructions, from a start over bytes and an input
abbrev pub run_over : (budget entry base size heap : ℕ) → (bytes input : List ℕ) → FlatRun
run_over budget entry base size heap bytes input =
    flat_run budget (machine_at_start entry base size heap input output_limit) bytes

-- the flat run of a program file over an input, with these settings
unfoldable pub flat_of : Settings → (elf input : List ℕ) → FlatRun
flat_of settings elf input =
    run_over settings.budget (entry_of elf) settings.base settings.size (first_break settings.base settings.size elf)
    (image_bytes settings.base settings.size elf) input

-- the file that a name is given
abbrev pub file_in : List Pair → Name → List ℕ
file_in given name = unwrap_or (text_in given name) []

-- the bytes of a file
abbrev pub bytes_in : Files → List ℕ → List ℕ
bytes_in files name = unwrap_or (files name) []

-- the input: that of the file that is named, and else empty
abbrev pub input_as : Files → Option (List ℕ) → List ℕ
input_as files None = []
input_as files (Some name) = bytes_in files name

abbrev pub input_in : Files → List Pair → List ℕ
input_in files given = input_as files (text_in given Input)

-- the report of the flat run that words ask for, where the ELF file is read of these files, and then the input of those
unfoldable pub flat_report : List Pair → Files → Files → Report
flat_report given files later =
    report_of (flat_of (settings_of given) (bytes_in files (file_in given Elf)) (input_in later given))
