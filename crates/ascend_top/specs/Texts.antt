-- What a command prints. Each text is a line, or some lines, each ended by a line feed.
use Rattle.std.specs.Prelude.{ℕ, List, [], ◌∷◌, ◌++◌, Option, Some, None, codes}
use Rattle.std.specs.Fmt.{decimal}
use Rattle.asc_base.specs.declared.stop.Evidence.{Evidence}
use Rattle.asc_base.specs.declared.stop.Evidence.TheVariants.{BadSlot, OffPath, Doubled, Missing, Unexpected, BadTag}
use Rattle.asc_base.specs.declared.settings.Setting.{Setting}
use Rattle.asc_base.specs.declared.settings.Setting.TheVariants.{Size, Base, Sets, Ways, Plb, Roots, Ic, Stash}
use Rattle.asc_base.specs.declared.settings.Setting.TheVariants.{Budget as BudgetSetting, Time, Leak, Rates, First}
use Rattle.asc_base.specs.declared.settings.Setting.TheVariants.{Epoch}
use Rattle.elf_loader.specs.declared.fault.ElfFault.{ElfFault}
use Rattle.elf_loader.specs.declared.fault.ElfFault.TheVariants.{Short, Magic, Class, Order, Version, FileType}
use Rattle.elf_loader.specs.declared.fault.ElfFault.TheVariants.{Machine, Compressed, HeaderSize, Table, Interp}
use Rattle.elf_loader.specs.declared.fault.ElfFault.TheVariants.{Segment, Outside, Overlap, Entry}
use Rattle.elf_loader.specs.declared.fault.ElfFault.TheVariants.{NoMemory as NoElfMemory}
use Rattle.rv32_core.specs.declared.outcome.TrapKind.{TrapKind}
use Rattle.rv32_core.specs.declared.outcome.TrapKind.TheVariants.{FetchFault, Illegal, FetchMisaligned}
use Rattle.rv32_core.specs.declared.outcome.TrapKind.TheVariants.{LoadMisaligned, StoreMisaligned, LoadFault}
use Rattle.rv32_core.specs.declared.outcome.TrapKind.TheVariants.{StoreFault, Breakpoint, OutputLimit}
use Rattle.rv32_core.specs.FlatRun.{FlatEnding, Exited, Trapped, Budget}
use Rattle.rv32_asm.specs.declared.fault.AsmKind.{AsmKind}
use Rattle.rv32_asm.specs.declared.fault.AsmKind.TheVariants as asm_kind
use Rattle.bus_trace.specs.declared.fault.TraceKind.{TraceKind}
use Rattle.bus_trace.specs.declared.fault.TraceKind.TheVariants.{Form, Range, Cut, Extra}
use Rattle.secure_machine.specs.declared.report.Ending.{Ending}
use Rattle.secure_machine.specs.declared.report.Ending.TheVariants as run_ending
use Rattle.secure_machine.specs.declared.report.Report.{Report as RunReport}
use Rattle.ascend_words.specs.Tables.{name_text}
use Rattle.ascend_words.specs.declared.table.Name.{Name}
use Rattle.ascend_words.specs.declared.table.Name.TheVariants.{Key, Elf as ElfName, Input, Text, Trace as TraceName}
use Rattle.ascend_top.specs.FlatRun.{Report}
use Rattle.ascend_top.specs.declared.refusal.Refusal.{Refusal}
use Rattle.ascend_top.specs.declared.refusal.Refusal.TheVariants.{Usage, OutOfRange, Elf, KeyLength, TooLong, Host}
use Rattle.ascend_top.specs.declared.refusal.Refusal.TheVariants.{NoMemory, NumberOutOfRange, Assembler, Trace, Fails}
use Rattle.ascend_top.specs.declared.refusal.Source.{Source}
use Rattle.ascend_top.specs.declared.refusal.Source.TheVariants.{Key as KeyFile, Elf as ElfFile, Input as InputFile}
use Rattle.ascend_top.specs.declared.refusal.Source.TheVariants.{Text as TextFile, Trace as TraceFile}

-- a line with this text
abbrev pub line : List ℕ → List ℕ
line text = text ++ 10 ∷ []

-- the kind of a trap, as it is printed
abbrev pub kind_text : TrapKind → List ℕ
kind_text FetchFault = codes "FetchFault"
kind_text Illegal = codes "Illegal"
kind_text FetchMisaligned = codes "FetchMisaligned"
kind_text LoadMisaligned = codes "LoadMisaligned"
kind_text StoreMisaligned = codes "StoreMisaligned"
kind_text LoadFault = codes "LoadFault"
kind_text StoreFault = codes "StoreFault"
kind_text Breakpoint = codes "Breakpoint"
kind_text OutputLimit = codes "OutputLimit"

-- the ending, as it is printed
abbrev pub ending_text : FlatEnding → List ℕ
ending_text (Exited status) = codes "end exit " ++ decimal status
ending_text (Trapped kind pc) = codes "end trap " ++ kind_text kind ++ codes " " ++ decimal pc
ending_text Budget = codes "end budget"

-- the report of a run: how it ended, and how many instructions finished
abbrev pub report_text : Report → List ℕ
report_text report = line (ending_text report.ending) ++ line (codes "instructions " ++ decimal report.instructions)

-- the evidence that the memory was altered, as it is printed
abbrev pub evidence_text : Evidence → List ℕ
evidence_text (BadSlot bucket slot) = codes "BadSlot " ++ decimal bucket ++ codes " " ++ decimal slot
evidence_text (OffPath bucket slot) = codes "OffPath " ++ decimal bucket ++ codes " " ++ decimal slot
evidence_text (Doubled address) = codes "Doubled " ++ decimal address.0
evidence_text (Missing address counter) = codes "Missing " ++ decimal address.0
evidence_text (Unexpected address) = codes "Unexpected " ++ decimal address.0
evidence_text (BadTag message found computed) = codes "BadTag " ++ decimal message.address.0

-- the ending of a run over encrypted memory, as it is printed
abbrev pub run_ending_text : Ending → List ℕ
run_ending_text (run_ending.Exit status) = codes "end exit " ++ decimal status
run_ending_text (run_ending.Trap kind pc) = codes "end trap " ++ kind_text kind ++ codes " " ++ decimal pc
run_ending_text run_ending.Budget = codes "end budget"
run_ending_text (run_ending.TimeUp at) = codes "end time " ++ decimal at
run_ending_text (run_ending.StashFull held) = codes "end stash " ++ decimal held
run_ending_text (run_ending.Integrity evidence) = codes "end integrity " ++ evidence_text evidence
run_ending_text run_ending.Device = codes "end device"

-- the report of such a run, with the number of altered replies
abbrev pub run_text : RunReport → ℕ → List ℕ
run_text report altered =
    line (run_ending_text report.ending)
    ++ line (codes "instructions " ++ decimal report.instructions)
    ++ line (codes "cycles " ++ decimal report.cycles)
    ++ line (codes "last " ++ decimal report.last)
    ++ line (codes "fetches " ++ decimal report.fetches)
    ++ line (codes "real " ++ decimal report.real)
    ++ line (codes "dummies " ++ decimal report.dummies)
    ++ line (codes "choices " ++ decimal report.choices)
    ++ line (codes "code " ++ decimal report.code)
    ++ line (codes "altered " ++ decimal altered)

-- the fault of an ELF file, as it is printed: its name, and the index of the program header where it has one
abbrev pub fault_text : ElfFault → List ℕ
fault_text Short = codes "Short"
fault_text Magic = codes "Magic"
fault_text Class = codes "Class"
fault_text Order = codes "Order"
fault_text Version = codes "Version"
fault_text FileType = codes "FileType"
fault_text Machine = codes "Machine"
fault_text Compressed = codes "Compressed"
fault_text HeaderSize = codes "HeaderSize"
fault_text Table = codes "Table"
fault_text Interp = codes "Interp"
fault_text (Segment index) = codes "Segment " ++ decimal index
fault_text (Outside index) = codes "Outside " ++ decimal index
fault_text (Overlap index) = codes "Overlap " ++ decimal index
fault_text Entry = codes "Entry"
fault_text NoElfMemory = codes "NoMemory"

-- a setting, as it is printed
abbrev pub setting_text : Setting → List ℕ
setting_text Size = codes "size"
setting_text Base = codes "base"
setting_text Sets = codes "sets"
setting_text Ways = codes "ways"
setting_text Plb = codes "plb"
setting_text Roots = codes "roots"
setting_text Ic = codes "ic"
setting_text Stash = codes "stash"
setting_text BudgetSetting = codes "budget"
setting_text Time = codes "time"
setting_text Leak = codes "leak"
setting_text Rates = codes "rates"
setting_text First = codes "first"
setting_text Epoch = codes "epoch"

-- what is wrong in a line of a text that is assembled, as it is printed
abbrev pub asm_kind_text : AsmKind → List ℕ
asm_kind_text asm_kind.Byte = codes "Byte"
asm_kind_text asm_kind.Label = codes "Label"
asm_kind_text asm_kind.Word = codes "Word"
asm_kind_text asm_kind.Operands = codes "Operands"
asm_kind_text asm_kind.TooLong = codes "TooLong"
asm_kind_text asm_kind.Unknown = codes "Unknown"
asm_kind_text asm_kind.Range = codes "Range"

-- the line of its fault
abbrev pub asm_line : ℕ → AsmKind → List ℕ
asm_line number kind = codes "asm line " ++ (decimal number ++ (codes " " ++ line (asm_kind_text kind)))

-- what is wrong with a line of a trace, as it is printed
abbrev pub trace_kind_text : TraceKind → List ℕ
trace_kind_text Form = codes "Form"
trace_kind_text Range = codes "Range"
trace_kind_text Cut = codes "Cut"
trace_kind_text Extra = codes "Extra"

-- what is printed of a text that is no trace's, and of a trace that fails
abbrev pub trace_text : ℕ → TraceKind → List ℕ
trace_text number kind = line (codes "trace line " ++ decimal number ++ codes " " ++ trace_kind_text kind)

abbrev pub fails_text : ℕ → ℕ → ℕ → List ℕ
fails_text number found wanted =
    line (codes "fails line " ++ decimal number ++ codes " found " ++ decimal found ++ codes " wanted "
    ++ decimal wanted)

-- what is printed of a trace that holds
abbrev pub held_text : ℕ → ℕ → List ℕ
held_text code bits = line (codes "holds code " ++ decimal code ++ codes " bits " ++ decimal bits)

-- the name that a file that is read is given by
abbrev pub name_of : Source → Name
name_of KeyFile = Key
name_of ElfFile = ElfName
name_of InputFile = Input
name_of TextFile = Text
name_of TraceFile = TraceName

-- what is printed of a refusal, if anything is
abbrev pub refusal_text : Refusal → Option (List ℕ)
refusal_text (Usage word) = Some (line (codes "usage word " ++ decimal word))
refusal_text (OutOfRange setting) = Some (line (codes "setting " ++ setting_text setting))
refusal_text (NumberOutOfRange name) = Some (line (codes "setting " ++ name_text name))
refusal_text (Assembler number kind) = Some (asm_line number kind)
refusal_text (Trace number kind) = Some (trace_text number kind)
refusal_text (Fails number found wanted) = Some (fails_text number found wanted)
refusal_text (Elf fault) = Some (line (codes "elf " ++ fault_text fault))
refusal_text (KeyLength length) = Some (line (codes "key length " ++ decimal length))
refusal_text (TooLong source) = Some (line (codes "long " ++ name_text (name_of source)))
refusal_text Host = None
refusal_text NoMemory = None
