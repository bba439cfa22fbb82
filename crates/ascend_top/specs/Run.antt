-- The command `run`. Before its run it has the steps of `flat`, and reads the key file before the ELF file. The run is
-- over encrypted memory. After it the output file is written, and that of the trace where one is named, and the report
-- is printed.
use Rattle.std.specs.Prelude.{◌≡◌, ◌⊎◌, ℕ, List, [], ◌∷◌, length, Option, Some, Result, Ok, Err}
use Rattle.asc_base.specs.Settings.{AreAllowed, IsConfig, config_of}
use Rattle.asc_outside.specs.Host.{Files, HostState}
use Rattle.bus_schedule.specs.Timetable.{public_of}
use Rattle.bus_trace.specs.Grammar.{TraceText}
use Rattle.bus_trace.specs.OfLog.{trace_of}
use Rattle.elf_loader.specs.Memory.{IsImage}
use Rattle.ascend_words.specs.Grammar.{Pair}
use Rattle.ascend_words.specs.Settings.{settings_of, text_in}
use Rattle.ascend_words.specs.declared.table.Command.{Command}
use Rattle.ascend_words.specs.declared.table.Command.TheVariants.{Gen, Run}
use Rattle.ascend_words.specs.declared.table.Name.TheVariants.{Key, Output, Trace}
use Rattle.ascend_top.specs.EncryptedRun.{IsRunOf, Wants}
use Rattle.ascend_top.specs.Lent.{Lent}
use Rattle.ascend_top.specs.Flat.{program_steps}
use Rattle.ascend_top.specs.FlatRun.{bytes_in, file_in}
use Rattle.ascend_top.specs.Gen.{IsGenerated}
use Rattle.ascend_top.specs.Parts.{IsProgramOf}
use Rattle.ascend_top.specs.Steps.{AllDone, IsRefused, Step, Judges, Prints, Reads, Shows, Writes, AKey, key_length}
use Rattle.ascend_top.specs.Steps.{where_named}
use Rattle.ascend_top.specs.Texts.{run_text}
use Rattle.ascend_top.specs.declared.commands.flat.Program.{Program}
use Rattle.ascend_top.specs.declared.commands.run.Begin.{Begin}
use Rattle.ascend_top.specs.declared.commands.run.Encrypted.{Encrypted}
use Rattle.ascend_top.specs.declared.refusal.Refusal.{Refusal}
use Rattle.ascend_top.specs.declared.refusal.Refusal.TheVariants.{NoMemory}
use Rattle.ascend_top.specs.declared.refusal.Source.TheVariants.{Key as KeyFile}

abbrev pub run_steps : List Pair → List Step
run_steps given =
    Judges (settings_of given) ∷ Reads KeyFile (file_in given Key) AKey ∷ program_steps (settings_of given) given

-- the steps after a run that came to this
abbrev pub run_report_steps : List Pair → Encrypted → List Step
run_report_steps given run =
    Writes (file_in given Output) run.report.output.items
    ∷ where_named (text_in given Trace) run.trace.items (Prints (run_text run.report run.altered) ∷ [])

-- what program it is that a command runs: that of the files that the words name, or the one that they make
abbrev pub IsProgramBy : Command → List Pair → Option Files → Program → Type 0
IsProgramBy Run given told program = Shows told (λ files. Shows told (λ later. IsProgramOf given files later program))
IsProgramBy Gen given told program = IsGenerated given program
IsProgramBy command given told program = ⊥

-- A run of a command begins so by words: their settings are in their ranges and give the configuration, there is an
-- image of its memory, and a key, which is that of the file that the words name where files are told. The program is
-- the command's.
pub record IsBegin (command : Command) (given : List Pair) (told : Option Files) (begin : Begin) : Type 0 where
  pub allowed : AreAllowed (settings_of given)
  pub config : begin.program.config ≡ config_of (settings_of given)
  pub is_config : IsConfig begin.program.config
  pub image : IsImage begin.program.config.base begin.program.config.size begin.program.image
  pub key_length : length begin.key ≡ key_length
  pub key : (files : Files) → told ≡ Some files → begin.key ≡ bytes_in files (file_in given Key)
  pub program : IsProgramBy command given told begin.program

-- A run that began so comes to this: it ran; it counts the altered replies; and where a file is named for its trace,
-- the text is that of the log's trace up to the reported end.
pub record IsOutcome (given : List Pair) (begin : Begin) (lent : Lent) (run : Encrypted) : Type 0 where
  pub runs : IsRunOf begin.program.config begin.program.image begin.program.input.items begin.key lent run.report
  pub altered : run.altered ≡ length lent.tap'.log.altered
  pub trace : (name : List ℕ) → text_in given Trace ≡ Some name
      → TraceText run.trace.items (trace_of (public_of begin.program.config) lent.tap'.log run.report.last)

-- a command's run by words, over files that are told or not
pub record IsRun (command : Command) (given : List Pair) (told : Option Files) (lent : Lent) (run : Encrypted)
    : Type 0 where
  pub begin : Begin
  pub begins : IsBegin command given told begin
  pub outcome : IsOutcome given begin lent run

-- the same of one that wanted memory
pub record RunWants (command : Command) (given : List Pair) (told : Option Files) (lent : Lent) : Type 0 where
  pub begin : Begin
  pub begins : IsBegin command given told begin
  pub wants : Wants begin.program.config begin.program.image begin.program.input.items begin.key lent

-- A run that began so, and the steps after it, end so: all of these were done; or the run wanted memory; or one of
-- them was refused.
abbrev pub BegunEnds : List Pair → Begin → Lent → Result Encrypted Refusal → HostState → HostState → Type 0
BegunEnds given begin lent (Ok run) old new =
    IsOutcome given begin lent run × AllDone (run_report_steps given run) old new
BegunEnds given begin lent (Err refusal) old new =
    ((refusal ≡ NoMemory) × (new ≡ old)
    × Wants begin.program.config begin.program.image begin.program.input.items begin.key lent)
    ⊎ ((run : Encrypted) × IsOutcome given begin lent run × IsRefused (run_report_steps given run) refusal old new)
