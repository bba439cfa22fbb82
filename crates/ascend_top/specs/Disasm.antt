-- The command `disasm`: it judges the settings, reads the ELF file, and prints the statements of its program.
use Rattle.std.specs.Prelude.{ℕ, ◌+◌, ◌/◌, ◌%◌, ◌^◌, ◌==◌, nat_lt, Bool, ◌&&◌, if◌then◌else◌, List, [], ◌∷◌, ◌++◌, take}
use Rattle.std.specs.Prelude.{drop, codes}
use Rattle.std.specs.List.{flat_map}
use Rattle.std.specs.Int.{from_le_bytes, w32}
use Rattle.asc_outside.specs.Host.{Files}
use Rattle.elf_loader.specs.Elf.{headers}
use Rattle.elf_loader.specs.Layout.{is_load}
use Rattle.elf_loader.specs.declared.header.ProgramHeader.{ProgramHeader}
use Rattle.rv32_asm.specs.Disassembly.{text_of}
use Rattle.ascend_words.specs.Grammar.{Pair}
use Rattle.ascend_words.specs.Settings.{settings_of}
use Rattle.ascend_words.specs.declared.table.Name.TheVariants.{Elf}
use Rattle.ascend_top.specs.FlatRun.{bytes_in, file_in}
use Rattle.ascend_top.specs.Steps.{Step, Judges, Reads, Prints, AnElf}
use Rattle.ascend_top.specs.declared.refusal.Source.TheVariants.{Elf as ElfFile}

-- a hexadecimal digit in lower case
abbrev pub hex_digit : ℕ → ℕ
hex_digit digit = if nat_lt digit 10 then 48 + digit else 87 + digit

-- eight of them, the highest first
abbrev pub hex : ℕ → List ℕ
hex number =
    hex_digit (number / 2 ^ 28 % 16) ∷ hex_digit (number / 2 ^ 24 % 16) ∷ hex_digit (number / 2 ^ 20 % 16)
    ∷ hex_digit (number / 2 ^ 16 % 16) ∷ hex_digit (number / 2 ^ 12 % 16) ∷ hex_digit (number / 2 ^ 8 % 16)
    ∷ hex_digit (number / 2 ^ 4 % 16) ∷ hex_digit (number % 16) ∷ []

-- the same and a space
abbrev pub column : ℕ → List ℕ
column number = hex number ++ codes " "

-- the line of a word at an address
abbrev pub word_line : ℕ → ℕ → List ℕ
word_line address number = column address ++ (column number ++ (text_of number ++ 10 ∷ []))

-- the lines of bytes from an address on, one for each whole word; the lowest byte of a word comes first
abbrev pub lines_of : ℕ → List ℕ → List ℕ
lines_of address (one ∷ two ∷ three ∷ four ∷ rest) =
    word_line address (from_le_bytes w32 (one ∷ two ∷ three ∷ four ∷ [])) ++ lines_of (address + 4) rest
lines_of address rest = []

-- whether a segment is a PT_LOAD with bit 0 of p_flags, PF_X
abbrev pub is_executable : ProgramHeader → Bool
is_executable header = is_load header && header.flags % 2 == 1

-- the lines of a segment's file part
abbrev pub segment_lines : List ℕ → ProgramHeader → List ℕ
segment_lines file header =
    if is_executable header then lines_of header.address (take header.file_size (drop header.offset file)) else []

-- the lines of a file, in the order of its program headers
unfoldable pub listing_of : List ℕ → List ℕ
listing_of file = flat_map (segment_lines file) (headers file)

abbrev pub disasm_steps : List Pair → List Step
disasm_steps given =
    Judges (settings_of given)
    ∷ Reads ElfFile (file_in given Elf) (AnElf (settings_of given).base (settings_of given).size) ∷ []

-- the lines of the file that words name, over these files
abbrev pub disasm_listing : List Pair → Files → List ℕ
disasm_listing given files = listing_of (bytes_in files (file_in given Elf))

-- the step after it
abbrev pub print_steps : List ℕ → List Step
print_steps text = Prints text ∷ []
