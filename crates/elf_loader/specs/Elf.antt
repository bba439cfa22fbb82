-- The ELF header and the program headers of a 32-bit little-endian file (System V gABI, "ELF Header" and
-- "Program Header"). A file is the list of its bytes.
use Rattle.std.specs.Prelude.{ℕ, ◌+◌, ◌*◌, List, [], ◌∷◌, map}
use Rattle.std.specs.List.{slice_range, range_with_len}
use Rattle.std.specs.Int.{from_le_bytes, w16, w32}
use Rattle.elf_loader.specs.declared.header.ProgramHeader.{ProgramHeader}

-- the number of two bytes, the lowest first, that stands at an offset (an Elf32_Half)
unfoldable pub half : List ℕ → ℕ → ℕ
half file at = from_le_bytes w16 (slice_range file at (at + 2))

-- the number of four bytes, the lowest first, that stands at an offset (an Elf32_Word, _Addr or _Off)
unfoldable pub word : List ℕ → ℕ → ℕ
word file at = from_le_bytes w32 (slice_range file at (at + 4))

-- e_ident[EI_MAG0] to e_ident[EI_MAG3]: 0x7f, 'E', 'L', 'F'
abbrev pub magic : List ℕ
magic = 0x7f ∷ 0x45 ∷ 0x4c ∷ 0x46 ∷ []

-- e_type
abbrev pub file_type : List ℕ → ℕ
file_type file = half file 16

-- e_machine
abbrev pub machine_of : List ℕ → ℕ
machine_of file = half file 18

-- e_entry: the address of the first instruction
abbrev pub entry_of : List ℕ → ℕ
entry_of file = word file 24

-- e_phoff: the offset of the program header table
abbrev pub header_offset : List ℕ → ℕ
header_offset file = word file 28

-- e_flags (RISC-V psABI, "File Header")
abbrev pub flags_of : List ℕ → ℕ
flags_of file = word file 36

-- e_phentsize: the bytes of one program header
abbrev pub header_size : List ℕ → ℕ
header_size file = half file 42

-- e_phnum: how many program headers there are
abbrev pub header_count : List ℕ → ℕ
header_count file = half file 44

-- the program header that stands at an offset: p_type, p_offset, p_vaddr, p_filesz, p_memsz and p_flags
unfoldable pub header_from : List ℕ → ℕ → ProgramHeader
header_from file at = record {
  kind = word file at;
  offset = word file (at + 4);
  address = word file (at + 8);
  file_size = word file (at + 16);
  memory_size = word file (at + 20);
  flags = word file (at + 24);
}

-- the program header of an index, counted from 0
abbrev pub header_at : List ℕ → ℕ → ProgramHeader
header_at file index = header_from file (header_offset file + 32 * index)

-- the program headers of the indices below a number, in the table's order
abbrev pub first_headers : List ℕ → ℕ → List ProgramHeader
first_headers file count = map (header_at file) (range_with_len 0 count)

-- all program headers
abbrev pub headers : List ℕ → List ProgramHeader
headers file = first_headers file (header_count file)
