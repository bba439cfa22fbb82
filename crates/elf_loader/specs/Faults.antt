-- What makes a file no program for this machine: one test for each fault, and the files that have none
-- (System V gABI, "ELF Header" and "Program Header"; RISC-V psABI, "File Header").
use Rattle.std.specs.Prelude.{◌≡◌, ◌≢◌, ◌⊎◌, ℕ, ◌+◌, ◌*◌, ◌%◌, ◌<◌, ◌≤◌, List, length, slice_index, false, nat_eq}
use Rattle.std.specs.Prelude.{bit_and, IsTrue}
use Rattle.std.specs.List.{starts_with}
use Rattle.elf_loader.specs.declared.fault.ElfFault.{ElfFault}
use Rattle.elf_loader.specs.declared.fault.ElfFault.TheVariants.{Short, Magic, Class, Order, Version, FileType, Machine}
use Rattle.elf_loader.specs.declared.fault.ElfFault.TheVariants.{Compressed, HeaderSize, Table, Interp, Segment}
use Rattle.elf_loader.specs.declared.fault.ElfFault.TheVariants.{Outside, Overlap, Entry, NoMemory}
use Rattle.elf_loader.specs.declared.header.ProgramHeader.{ProgramHeader}
use Rattle.elf_loader.specs.Elf.{magic, file_type, machine_of, entry_of, header_offset, flags_of, header_size}
use Rattle.elf_loader.specs.Elf.{header_count, header_at}
use Rattle.elf_loader.specs.Layout.{meets}

-- the file ends before its ELF header does
abbrev pub IsShort : List ℕ → Type 0
IsShort file = length file < 52

-- the first four bytes aren't an ELF file's
abbrev pub HasOtherMagic : List ℕ → Type 0
HasOtherMagic file = starts_with nat_eq file magic ≡ false

-- EI_CLASS isn't ELFCLASS32
abbrev pub HasOtherClass : List ℕ → Type 0
HasOtherClass file = slice_index file 4 ≢ 1

-- EI_DATA isn't ELFDATA2LSB
abbrev pub HasOtherOrder : List ℕ → Type 0
HasOtherOrder file = slice_index file 5 ≢ 1

-- EI_VERSION isn't EV_CURRENT
abbrev pub HasOtherVersion : List ℕ → Type 0
HasOtherVersion file = slice_index file 6 ≢ 1

-- e_type isn't ET_EXEC
abbrev pub HasOtherType : List ℕ → Type 0
HasOtherType file = file_type file ≢ 2

-- e_machine isn't EM_RISCV
abbrev pub HasOtherMachine : List ℕ → Type 0
HasOtherMachine file = machine_of file ≢ 243

-- bit 0 of e_flags, EF_RISCV_RVC, is set; no other flag counts
abbrev pub IsCompressed : List ℕ → Type 0
IsCompressed file = bit_and (flags_of file) 1 ≢ 0

-- there are program headers, and they aren't those of a 32-bit file
abbrev pub HasOtherHeaderSize : List ℕ → Type 0
HasOtherHeaderSize file = (header_count file ≢ 0) × (header_size file ≢ 32)

-- there are more than 256 program headers, or their table ends beyond the file
abbrev pub HasNoTable : List ℕ → Type 0
HasNoTable file = (256 < header_count file) ⊎ (length file < header_offset file + 32 * header_count file)

-- PT_INTERP
abbrev pub IsInterpreter : ProgramHeader → Type 0
IsInterpreter header = header.kind ≡ 3

-- PT_LOAD
abbrev pub IsLoad : ProgramHeader → Type 0
IsLoad header = header.kind ≡ 1

-- a PT_LOAD that has more bytes in the file than in the memory, or bytes beyond the file
abbrev pub IsBadSegment : List ℕ → ProgramHeader → Type 0
IsBadSegment file header =
    IsLoad header × ((header.memory_size < header.file_size) ⊎ (length file < header.offset + header.file_size))

-- a PT_LOAD that takes memory, not all of it in the memory of `size` bytes from `base` on
abbrev pub IsOutside : ℕ → ℕ → ProgramHeader → Type 0
IsOutside base size header =
    IsLoad header × (0 < header.memory_size)
    × ((header.address < base) ⊎ (base + size < header.address + header.memory_size))

-- two PT_LOADs that both take a byte of memory
abbrev pub ShareMemory : ProgramHeader → ProgramHeader → Type 0
ShareMemory one other =
    IsLoad one × IsLoad other × IsTrue (meets one.address one.memory_size other.address other.memory_size)

-- a PT_LOAD takes a byte of memory that one of lower index takes too
abbrev pub OverlapsLower : List ℕ → ℕ → Type 0
OverlapsLower file index = (lower : ℕ) × (lower < index) × ShareMemory (header_at file index) (header_at file lower)

-- e_entry isn't a multiple of four in the memory
abbrev pub HasOtherEntry : ℕ → ℕ → List ℕ → Type 0
HasOtherEntry base size file =
    (entry_of file % 4 ≢ 0) ⊎ ((entry_of file < base) ⊎ (base + size ≤ entry_of file))

-- the file has this fault, of this index where it has one
abbrev pub IsFault : ℕ → ℕ → List ℕ → ElfFault → Type 0
IsFault base size file Short = IsShort file
IsFault base size file Magic = HasOtherMagic file
IsFault base size file Class = HasOtherClass file
IsFault base size file Order = HasOtherOrder file
IsFault base size file Version = HasOtherVersion file
IsFault base size file FileType = HasOtherType file
IsFault base size file Machine = HasOtherMachine file
IsFault base size file Compressed = IsCompressed file
IsFault base size file HeaderSize = HasOtherHeaderSize file
IsFault base size file Table = HasNoTable file
IsFault base size file Interp = (index : ℕ) × (index < header_count file) × IsInterpreter (header_at file index)
IsFault base size file (Segment index) = (index < header_count file) × IsBadSegment file (header_at file index)
IsFault base size file (Outside index) = (index < header_count file) × IsOutside base size (header_at file index)
IsFault base size file (Overlap index) = (index < header_count file) × OverlapsLower file index
IsFault base size file Entry = HasOtherEntry base size file
IsFault base size file NoMemory = ⊥

-- the file has no fault
abbrev pub IsFaultless : ℕ → ℕ → List ℕ → Type 0
IsFaultless base size file = (fault : ElfFault) → ¬ IsFault base size file fault

-- the place of a fault in the order of the kinds
abbrev pub place_of : ElfFault → ℕ
place_of Short = 0
place_of Magic = 1
place_of Class = 2
place_of Order = 3
place_of Version = 4
place_of FileType = 5
place_of Machine = 6
place_of Compressed = 7
place_of HeaderSize = 8
place_of Table = 9
place_of Interp = 10
place_of (Segment index) = 11
place_of (Outside index) = 12
place_of (Overlap index) = 13
place_of Entry = 14
place_of NoMemory = 15

-- the index of the program header that is at fault, and 0 where the fault names none
abbrev pub index_of : ElfFault → ℕ
index_of Short = 0
index_of Magic = 0
index_of Class = 0
index_of Order = 0
index_of Version = 0
index_of FileType = 0
index_of Machine = 0
index_of Compressed = 0
index_of HeaderSize = 0
index_of Table = 0
index_of Interp = 0
index_of (Segment index) = index
index_of (Outside index) = index
index_of (Overlap index) = index
index_of Entry = 0
index_of NoMemory = 0

-- a fault is named before another: its kind comes before, or it is of the same kind and has the lower index
abbrev pub Precedes : ElfFault → ElfFault → Type 0
Precedes one other =
    (place_of one < place_of other) ⊎ ((place_of one ≡ place_of other) × (index_of one < index_of other))

-- of all that the file has this fault is named first
pub record IsFirstFault (base size : ℕ) (file : List ℕ) (fault : ElfFault) : Type 0 where
  pub present : IsFault base size file fault
  pub first : (other : ElfFault) → Precedes other fault → ¬ IsFault base size file other

-- the file has no fault of a kind before that of this one
abbrev pub IsClearBefore : ℕ → ℕ → List ℕ → ElfFault → Type 0
IsClearBefore base size file kind = (fault : ElfFault) → place_of fault < place_of kind → ¬ IsFault base size file fault

-- the file has no fault up to Segment, none of which depends on the memory: its program headers stand in it, and so do
-- the file parts of its segments
abbrev pub IsReadable : List ℕ → Type 0
IsReadable file = (base size : ℕ) → IsClearBefore base size file (Outside 0)

-- the ELF header and all program headers are in the file
pub record HasTable (file : List ℕ) : Type 0 where
  pub long : 52 ≤ length file
  pub few : header_count file ≤ 256
  pub within : header_offset file + 32 * header_count file ≤ length file
