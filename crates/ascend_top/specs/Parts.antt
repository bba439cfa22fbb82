-- What the parts of a command say.
use Rattle.std.specs.Prelude.{◌≡◌, ◌⊎◌, ℕ, ◌≤◌}
use Rattle.std.specs.Prelude.{List, [], ◌∷◌, length, Some, IfSome, Result, Ok, Err}
use Rattle.asc_base.specs.Memory.{IsMemory}
use Rattle.asc_base.specs.Settings.{AreAllowed, IsConfig, config_of}
use Rattle.asc_base.specs.declared.settings.Config.{Config}
use Rattle.asc_base.specs.declared.settings.Settings.{Settings}
use Rattle.asc_outside.specs.Host.{HostState, Files, Reads as ReadsFile}
use Rattle.asc_outside.specs.declared.host.HostFault.{HostFault}
use Rattle.asc_outside.specs.declared.host.HostFault.TheVariants.{Failed, TooLong as TooLongFile}
use Rattle.asc_outside.specs.declared.host.HostFault.TheVariants.{NoMemory as OutOfMemory}
use Rattle.elf_loader.specs.Elf.{entry_of}
use Rattle.elf_loader.specs.Layout.{image_bytes, first_break, marked_lines}
use Rattle.elf_loader.specs.Memory.{IsImage}
use Rattle.elf_loader.specs.declared.image.Image.{Image}
use Rattle.rv32_core.specs.FlatRun.{FlatRun}
use Rattle.ascend_words.specs.Grammar.{Pair}
use Rattle.ascend_words.specs.declared.table.Name.TheVariants.{Elf}
use Rattle.ascend_top.specs.Flat.{report_steps}
use Rattle.ascend_top.specs.FlatRun.{Report, bytes_in, ending_of, file_in, input_in, report_of, run_over}
use Rattle.ascend_top.specs.Steps.{AllDone, AsksMore, IsRefused, limit_of}
use Rattle.ascend_top.specs.declared.commands.flat.Program.{Program}
use Rattle.ascend_top.specs.declared.refusal.Refusal.{Refusal}
use Rattle.ascend_top.specs.declared.refusal.Refusal.TheVariants.{TooLong, Host, NoMemory}
use Rattle.ascend_top.specs.declared.refusal.Source.{Source}
use Rattle.ascend_top.specs.declared.status.Ending.{Ending}

-- why a command is refused whose host refuses to read a file
abbrev pub unread : Source → HostFault → Refusal
unread source Failed = Host
unread source TooLongFile = TooLong source
unread source OutOfMemory = NoMemory

-- why one is whose host refuses to write or print; it never says that these are too long
abbrev pub unwritten : HostFault → Refusal
unwritten Failed = Host
unwritten TooLongFile = Host
unwritten OutOfMemory = NoMemory

-- the settings are in their ranges, and give the configuration; so its numbers are theirs
pub record IsConfigOf (settings : Settings) (config : Config) : Type 0 where
  pub allowed : AreAllowed settings
  pub made : config ≡ config_of settings
  pub is_config : IsConfig config
  pub memory : IsMemory config.base config.size
  pub base : config.base ≡ settings.base
  pub size : config.size ≡ settings.size
  pub budget : config.budget ≡ settings.budget

-- a file was read, and has these bytes
pub record WasRead (source : Source) (name bytes : List ℕ) (old new : HostState) : Type 0 where
  pub told : IfSome old.files (λ files. files name ≡ Some bytes)
  pub within : length bytes ≤ limit_of source
  pub files : new.files ≡ old.files
  pub printed : new.printed ≡ old.printed
  pub later : old.faults ≤ new.faults
  pub asked : AsksMore old.asked (ReadsFile name ∷ []) new.asked

-- an image is that of an ELF file
pub record IsImageOf (base size : ℕ) (elf : List ℕ) (image : Image) : Type 0 where
  pub bytes : image.bytes.items ≡ image_bytes base size elf
  pub entry : image.entry ≡ entry_of elf
  pub heap : image.heap ≡ first_break base size elf
  pub marked : image.marked.items ≡ marked_lines base size elf

-- what a run needs of its program: an image of a memory
pub record CanRun (program : Program) : Type 0 where
  pub memory : IsMemory program.config.base program.config.size
  pub image : IsImage program.config.base program.config.size program.image

-- a program is that of the files that words name: its image is that of the ELF file, which is read of these files, and
-- its input that of the input file, which is read of those, and else empty
pub record IsProgramOf (given : List Pair) (files later : Files) (program : Program) : Type 0 where
  pub image : IsImageOf program.config.base program.config.size (bytes_in files (file_in given Elf)) program.image
  pub input : program.input.items ≡ input_in later given

-- the report of a program's flat run
abbrev pub program_report : Program → Report
program_report program =
    report_of (run_over program.config.budget program.image.entry program.config.base program.config.size
    program.image.heap program.image.bytes.items program.input.items)

-- a flat run finishes so many instructions, ends so, and has this output
pub record EndsAs (run : FlatRun) (instructions : ℕ) (end : Ending) (output : List ℕ) : Type 0 where
  pub finished : instructions ≡ run.instructions
  pub ending : ending_of end ≡ run.ending
  pub written : output ≡ run.machine.files.output

-- A run and the steps after it end so, where this is the run's report: all were done, or there was no memory for the
-- run, or one was refused.
abbrev pub RunEnds : List Pair → Report → Result Report Refusal → HostState → HostState → Type 0
RunEnds given expected (Ok report) old new = (report ≡ expected) × AllDone (report_steps given report) old new
RunEnds given expected (Err refusal) old new =
    ((refusal ≡ NoMemory) × (new ≡ old))
    ⊎ ((report : Report) × (report ≡ expected) × IsRefused (report_steps given report) refusal old new)
