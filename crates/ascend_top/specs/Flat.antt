-- The command `flat`: it judges the settings and reads the ELF file and the input, and after the run it writes the
-- output and prints the report. `run` has the same steps after its run.
use Rattle.std.specs.Prelude.{ℕ, List, [], ◌∷◌, Option, Some, None}
use Rattle.asc_base.specs.declared.settings.Settings.{Settings}
use Rattle.ascend_words.specs.Grammar.{Pair}
use Rattle.ascend_words.specs.Settings.{text_in, settings_of}
use Rattle.ascend_words.specs.declared.table.Name.TheVariants.{Elf, Input, Output}
use Rattle.ascend_top.specs.FlatRun.{Report, file_in}
use Rattle.ascend_top.specs.Steps.{Step, Judges, Reads, Writes, Prints, Anything, AnElf}
use Rattle.ascend_top.specs.Texts.{report_text}
use Rattle.ascend_top.specs.declared.refusal.Source.TheVariants.{Elf as ElfFile, Input as InputFile}

-- the input is read where a file is named
abbrev pub input_steps : Option (List ℕ) → List Step
input_steps None = []
input_steps (Some name) = Reads InputFile name Anything ∷ []

-- the ELF file, for the memory of these settings, and the input
abbrev pub program_steps : Settings → List Pair → List Step
program_steps settings given =
    Reads ElfFile (file_in given Elf) (AnElf settings.base settings.size) ∷ input_steps (text_in given Input)

abbrev pub flat_steps : List Pair → List Step
flat_steps given = Judges (settings_of given) ∷ program_steps (settings_of given) given

-- the steps after a run with this report
abbrev pub report_steps : List Pair → Report → List Step
report_steps given report = Writes (file_in given Output) report.output ∷ Prints (report_text report) ∷ []
