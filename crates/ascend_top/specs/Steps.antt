-- The steps of commands. Each has the call that it asks of the host, what it takes to be done, and the refusals that it
-- may end with, each with its cause.
use Rattle.std.specs.Prelude.{◌≡◌, ◌⊎◌, ℕ, ◌≤◌, ◌<◌, ◌%◌, ◌^◌, IsOk, Err, List, [], ◌∷◌, ◌++◌, length, Option}
use Rattle.std.specs.Prelude.{IfSome, None, Some, option_map}
use Rattle.asc_base.specs.Settings.{AreAllowed, IsFirstFault as IsFirstSetting}
use Rattle.asc_base.specs.declared.settings.Settings.{Settings}
use Rattle.asc_outside.specs.Host.{HostCall, Reads as ReadsFile, Writes as WritesFile, Prints as PrintsText}
use Rattle.asc_outside.specs.Host.{HostState, Files, IsLonger, OthersStay}
use Rattle.asc_outside.specs.Rose.{Rose}
use Rattle.elf_loader.specs.Faults.{IsFaultless, IsFirstFault}
use Rattle.bus_trace.specs.Grammar.{TraceText}
use Rattle.bus_trace.specs.Reader.{IsFirstFault as IsFirstTraceFault}
use Rattle.bus_trace.specs.Trace.{TraceLists}
use Rattle.trace_checker.specs.Checker.{Says}
use Rattle.trace_checker.specs.declared.verdict.Verdict.{Verdict}
use Rattle.trace_checker.specs.declared.verdict.Verdict.TheVariants.{Holds, Fails as FailsAt}
use Rattle.rv32_asm.specs.File.{assembled}
use Rattle.rv32_asm.specs.declared.fault.AsmFault.TheVariants.{Bad}
use Rattle.ascend_words.specs.declared.table.Name.{Name}
use Rattle.ascend_words.specs.declared.table.Name.TheVariants.{At, Seed, Words}
use Rattle.ascend_top.specs.declared.refusal.Refusal.{Refusal}
use Rattle.ascend_top.specs.declared.refusal.Refusal.TheVariants.{Usage, OutOfRange, Elf, KeyLength, TooLong, Host}
use Rattle.ascend_top.specs.declared.refusal.Refusal.TheVariants.{NoMemory, NumberOutOfRange, Assembler, Trace, Fails}
use Rattle.ascend_top.specs.declared.refusal.Source.{Source}
use Rattle.ascend_top.specs.declared.refusal.Source.TheVariants.{Key as KeyFile, Elf as ElfFile, Input as InputFile}
use Rattle.ascend_top.specs.declared.refusal.Source.TheVariants.{Text as TextFile, Trace as TraceFile}

-- the length of a key, in bytes
abbrev pub key_length : ℕ
key_length = 32

-- the greatest length of a file that is read, in bytes
abbrev pub limit_of : Source → ℕ
limit_of KeyFile = key_length
limit_of ElfFile = 16777216
limit_of InputFile = 1048576
limit_of TextFile = 4194304
limit_of TraceFile = 67108864

-- the bytes are a trace's text, of which a check says this
pub record IsChecked (bytes : List ℕ) (verdict : Verdict) : Type 0 where
  pub trace : TraceLists
  pub is : TraceText bytes trace
  pub says : Says trace verdict

-- what the bytes of a file that is read have to be: anything, a key, an ELF file for a memory, the text of a program
-- that begins at a place, or a trace that holds
pub data Rule : Type 0 where
  Anything : Rule
  AKey : Rule
  AnElf : (base size : ℕ) → Rule
  AText : (at : ℕ) → Rule
  ATrace : Rule

-- bytes keep a rule
abbrev pub Keeps : Rule → List ℕ → Type 0
Keeps Anything bytes = Unit {0}
Keeps AKey bytes = length bytes ≡ key_length
Keeps (AnElf base size) bytes = IsFaultless base size bytes
Keeps (AText at) bytes = IsOk (assembled at bytes)
Keeps ATrace bytes = (code : ℕ) × (bits : ℕ) × IsChecked bytes (Holds code bits)

-- bytes break a rule, and this refusal says how
abbrev pub Breaks : Rule → List ℕ → Refusal → Type 0
Breaks AKey bytes (KeyLength count) = (length bytes ≡ count) × (count < key_length)
Breaks (AnElf base size) bytes (Elf fault) = IsFirstFault base size bytes fault
Breaks (AText at) bytes (Assembler number kind) = assembled at bytes ≡ Err (Bad number kind)
Breaks ATrace bytes (Trace number kind) = IsFirstTraceFault bytes number kind
Breaks ATrace bytes (Fails number found wanted) = IsChecked bytes (FailsAt number found wanted)
Breaks rule bytes refusal = ⊥

-- the numbers that a name may be given: a place is a multiple of four below 4,294,901,760, a program is made from a
-- number below 2^32, and has 1 to 65,536 data words
abbrev pub IsInRange : Name → ℕ → Type 0
IsInRange At number = (number % 4 ≡ 0) × (number < 4_294_901_760)
IsInRange Seed number = number < 2 ^ 32
IsInRange Words number = (1 ≤ number) × (number ≤ 65_536)
IsInRange name number = Unit {0}

-- A step of a command: it judges the settings, judges the number of a name, reads the file of this name, loads these
-- bytes, which no file has to have, as a program into the memory of `size` bytes from `base` on, writes these bytes to
-- the file of this name, or prints this text.
pub data Step : Type 0 where
  Judges : Settings → Step
  JudgesNumber : Name → (number : ℕ) → Step
  Reads : Source → (name : List ℕ) → Rule → Step
  Loads : (bytes : List ℕ) → (base size : ℕ) → Step
  Writes : (name bytes : List ℕ) → Step
  Prints : (text : List ℕ) → Step

-- the write of a file, where one is named, and then these steps
abbrev pub where_named : Option (List ℕ) → (bytes : List ℕ) → List Step → List Step
where_named None bytes steps = steps
where_named (Some name) bytes steps = Writes name bytes ∷ steps

-- the call that a step asks of the host, if it asks one
abbrev pub calls_of : Step → List HostCall
calls_of (Judges settings) = []
calls_of (JudgesNumber name number) = []
calls_of (Reads source name rule) = ReadsFile name ∷ []
calls_of (Loads bytes base size) = []
calls_of (Writes name bytes) = WritesFile name ∷ []
calls_of (Prints text) = PrintsText ∷ []

-- what a step prints
abbrev pub print_of : Step → List ℕ
print_of (Judges settings) = []
print_of (JudgesNumber name number) = []
print_of (Reads source name rule) = []
print_of (Loads bytes base size) = []
print_of (Writes name bytes) = []
print_of (Prints text) = text

-- a file is there, within its limit, and its bytes keep the rule
pub record IsRight (files : Files) (source : Source) (name : List ℕ) (rule : Rule) : Type 0 where
  pub bytes : List ℕ
  pub is : files name ≡ Some bytes
  pub within : length bytes ≤ limit_of source
  pub keeps : Keeps rule bytes

-- a file is there, within its limit, and its bytes break the rule so
pub record IsWrong (files : Files) (source : Source) (name : List ℕ) (rule : Rule) (refusal : Refusal) : Type 0 where
  pub bytes : List ℕ
  pub is : files name ≡ Some bytes
  pub within : length bytes ≤ limit_of source
  pub breaks : Breaks rule bytes refusal

-- what it takes over these files that a step is done
abbrev pub IsDone : Files → Step → Type 0
IsDone files (Judges settings) = AreAllowed settings
IsDone files (JudgesNumber name number) = IsInRange name number
IsDone files (Reads source name rule) = IsRight files source name rule
IsDone files (Loads bytes base size) = IsFaultless base size bytes
IsDone files (Writes name bytes) = Unit {0}
IsDone files (Prints text) = Unit {0}

-- the cause over these files of each refusal of a read: a file that is too long is named before what its bytes are
abbrev pub IsReadCause : Files → Source → List ℕ → Rule → Refusal → Type 0
IsReadCause files source name rule (TooLong other) = (other ≡ source) × IsLonger files name (limit_of source)
IsReadCause files source name rule (KeyLength count) = IsWrong files source name rule (KeyLength count)
IsReadCause files source name rule (Elf fault) = IsWrong files source name rule (Elf fault)
IsReadCause files source name rule (Assembler number kind) = IsWrong files source name rule (Assembler number kind)
IsReadCause files source name rule (Trace number kind) = IsWrong files source name rule (Trace number kind)
IsReadCause files source name rule (Fails number found wanted) =
    IsWrong files source name rule (Fails number found wanted)
IsReadCause files source name rule Host = Unit {0}
IsReadCause files source name rule NoMemory = Unit {0}
IsReadCause files source name rule (Usage word) = ⊥
IsReadCause files source name rule (OutOfRange setting) = ⊥
IsReadCause files source name rule (NumberOutOfRange other) = ⊥

-- a setting that isn't in its range is named, the first of the settings' table
abbrev pub IsSettingCause : Settings → Refusal → Type 0
IsSettingCause settings (OutOfRange setting) = IsFirstSetting settings setting
IsSettingCause settings NoMemory = Unit {0}
IsSettingCause settings refusal = ⊥

-- a number that isn't in its name's range
abbrev pub IsNumberCause : Name → ℕ → Refusal → Type 0
IsNumberCause name number (NumberOutOfRange other) = (other ≡ name) × ¬ IsInRange name number
IsNumberCause name number NoMemory = Unit {0}
IsNumberCause name number refusal = ⊥

-- bytes that are loaded have a fault, the first
abbrev pub IsLoadCause : (base size : ℕ) → List ℕ → Refusal → Type 0
IsLoadCause base size bytes (Elf fault) = IsFirstFault base size bytes fault
IsLoadCause base size bytes NoMemory = Unit {0}
IsLoadCause base size bytes refusal = ⊥

-- a write and a print are refused where the host fails or there is no memory
abbrev pub IsWriteCause : Refusal → Type 0
IsWriteCause Host = Unit {0}
IsWriteCause NoMemory = Unit {0}
IsWriteCause refusal = ⊥

-- the cause over these files of a step's refusal
abbrev pub IsCause : Files → Step → Refusal → Type 0
IsCause files (Judges settings) refusal = IsSettingCause settings refusal
IsCause files (JudgesNumber name number) refusal = IsNumberCause name number refusal
IsCause files (Reads source name rule) refusal = IsReadCause files source name rule refusal
IsCause files (Loads bytes base size) refusal = IsLoadCause base size bytes refusal
IsCause files (Writes name bytes) refusal = IsWriteCause refusal
IsCause files (Prints text) refusal = IsWriteCause refusal

-- a list of calls that is told has these more
abbrev pub AsksMore : Option (List HostCall) → List HostCall → Option (List HostCall) → Type 0
AsksMore old calls new = new ≡ option_map (λ before. before ++ calls) old

-- a text that is told has these bytes more
abbrev pub PrintsMore : Option (List ℕ) → List ℕ → Option (List ℕ) → Type 0
PrintsMore old text new = new ≡ option_map (λ before. before ++ text) old

-- what a step that is done leaves of the files: a write puts its bytes there, every other leaves all as they were
abbrev pub LeavesFiles : Step → Option Files → Option Files → Type 0
LeavesFiles (Judges settings) old new = new ≡ old
LeavesFiles (JudgesNumber name number) old new = new ≡ old
LeavesFiles (Reads source name rule) old new = new ≡ old
LeavesFiles (Loads bytes base size) old new = new ≡ old
LeavesFiles (Writes name bytes) old new = OthersStay name old new × IfSome new (λ files. files name ≡ Some bytes)
LeavesFiles (Prints text) old new = new ≡ old

-- Over some files: those that are told. Where none are, a host may show any, and others at another step.
unfoldable pub Shows : Option Files → (Files → Type 0) → Type 0
Shows (Some files) Says = Says files
Shows None Says = (files : Files) × Says files

-- A step was done: the files were right, and what it prints was printed. Its call was asked once, and no other.
pub record Does (step : Step) (old new : HostState) : Type 0 where
  pub done : Shows old.files (λ files. IsDone files step)
  pub files : LeavesFiles step old.files new.files
  pub printed : PrintsMore old.printed (print_of step) new.printed
  pub later : old.faults ≤ new.faults
  pub asked : AsksMore old.asked (calls_of step) new.asked

-- what a step that is refused leaves of the files: after a refused write nothing is said of its one file
abbrev pub SparesFiles : Step → Option Files → Option Files → Type 0
SparesFiles (Judges settings) old new = new ≡ old
SparesFiles (JudgesNumber name number) old new = new ≡ old
SparesFiles (Reads source name rule) old new = new ≡ old
SparesFiles (Loads bytes base size) old new = new ≡ old
SparesFiles (Writes name bytes) old new = OthersStay name old new
SparesFiles (Prints text) old new = new ≡ old

-- what a step that is refused leaves printed: after a refused print nothing is said of it
abbrev pub SparesPrinted : Step → Option (List ℕ) → Option (List ℕ) → Type 0
SparesPrinted (Judges settings) old new = new ≡ old
SparesPrinted (JudgesNumber name number) old new = new ≡ old
SparesPrinted (Reads source name rule) old new = new ≡ old
SparesPrinted (Loads bytes base size) old new = new ≡ old
SparesPrinted (Writes name bytes) old new = new ≡ old
SparesPrinted (Prints text) old new = Unit {0}

-- the calls that a step asked that is refused so: its own, which is not among them where there was no memory for it
abbrev pub AsksAtEnd : Step → Refusal → Option (List HostCall) → Option (List HostCall) → Type 0
AsksAtEnd step NoMemory old new = (new ≡ old) ⊎ AsksMore old (calls_of step) new
AsksAtEnd step refusal old new = AsksMore old (calls_of step) new

-- A step was refused so. A failure of the host is one that it counts.
pub record Refuses (step : Step) (refusal : Refusal) (old new : HostState) : Type 0 where
  pub cause : Shows old.files (λ files. IsCause files step refusal)
  pub fault : refusal ≡ Host → Rose old.faults new.faults
  pub files : SparesFiles step old.files new.files
  pub printed : SparesPrinted step old.printed new.printed
  pub later : old.faults ≤ new.faults
  pub asked : AsksAtEnd step refusal old.asked new.asked

-- these steps were all done, in turn
abbrev pub AllDone : List Step → HostState → HostState → Type 0
AllDone [] old new = new ≡ old
AllDone (step ∷ steps) old new = (mid : HostState) × Does step old mid × AllDone steps mid new

-- these steps were done, in turn, up to one that was refused so
abbrev pub IsRefused : List Step → Refusal → HostState → HostState → Type 0
IsRefused [] refusal old new = ⊥
IsRefused (step ∷ steps) refusal old new =
    Refuses step refusal old new ⊎ ((mid : HostState) × Does step old mid × IsRefused steps refusal mid new)
