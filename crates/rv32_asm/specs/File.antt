-- The ELF file of a program: its ELF header, one program header, and the program's bytes (System V gABI, "ELF Header"
-- and
-- "Program Header"; RISC-V psABI, "File Header"). The fields stand in the order of the file, each with its name.
use Rattle.std.specs.Prelude.{ℕ, List, [], ◌∷◌, ◌++◌, length, Result, Ok}
use Rattle.std.specs.List.{flat_map}
use Rattle.std.specs.Int.{to_le_bytes, w16, w32}
use Rattle.rv32_asm.specs.Passes.{◌>>>◌, program_of}
use Rattle.rv32_asm.specs.declared.fault.AsmFault.{AsmFault}

-- numbers of two bytes, and of four, the lowest byte of each first
abbrev pub halves : List ℕ → List ℕ
halves numbers = flat_map (λ number. to_le_bytes w16 number) numbers

abbrev pub words : List ℕ → List ℕ
words numbers = flat_map (λ number. to_le_bytes w32 number) numbers

-- e_ident: the magic number, ELFCLASS32, ELFDATA2LSB, EV_CURRENT, and nine zero bytes
abbrev pub identity : List ℕ
identity = 0x7f ∷ 0x45 ∷ 0x4c ∷ 0x46 ∷ 1 ∷ 1 ∷ 1 ∷ 0 ∷ 0 ∷ 0 ∷ 0 ∷ 0 ∷ 0 ∷ 0 ∷ 0 ∷ 0 ∷ []

-- The ELF header: e_ident; e_type ET_EXEC and e_machine EM_RISCV; e_version, e_entry, e_phoff, e_shoff and e_flags;
-- e_ehsize, e_phentsize, e_phnum, e_shentsize, e_shnum and e_shstrndx.
abbrev pub elf_header : ℕ → List ℕ
elf_header at =
    identity ++ (halves (2 ∷ 243 ∷ []) ++ (words (1 ∷ at ∷ 52 ∷ 0 ∷ 0 ∷ []) ++ halves (52 ∷ 32 ∷ 1 ∷ 0 ∷ 0 ∷ 0 ∷ [])))

-- The program header: p_type PT_LOAD, p_offset, p_vaddr, p_paddr, p_filesz, p_memsz, p_flags (readable, writable and
-- executable) and p_align.
abbrev pub program_header : ℕ → ℕ → List ℕ
program_header at count = words (1 ∷ 84 ∷ at ∷ at ∷ count ∷ count ∷ 7 ∷ 4 ∷ [])

-- The file of a program whose first byte has the place `at`.
abbrev pub file_of : ℕ → List ℕ → List ℕ
file_of at bytes = elf_header at ++ (program_header at (length bytes) ++ bytes)

-- The file of the program that a text is at a place, or the text's first fault.
abbrev pub assembled : ℕ → List ℕ → Result (List ℕ) AsmFault
assembled at text = program_of at text >>> λ bytes. Ok (file_of at bytes)
