-- The generator: the text of a program that hashes a list of words, and the words, which are made from a seed.
use Rattle.std.specs.Prelude.{ℕ, zero, suc, ◌+◌, ◌*◌, ◌/◌, ◌%◌, ◌^◌, pos, neg_ℤ, List, [], ◌∷◌, ◌++◌, map, codes}
use Rattle.std.specs.List.{flat_map}
use Rattle.std.specs.Fmt.{decimal}
use Rattle.rv32_table.specs.Encoded.{encoded}
use Rattle.rv32_table.specs.declared.instruction.BranchOp.TheVariants.{Bne}
use Rattle.rv32_table.specs.declared.instruction.LoadOp.TheVariants.{Lw}
use Rattle.rv32_table.specs.declared.instruction.StoreOp.TheVariants.{Sw}
use Rattle.rv32_table.specs.declared.instruction.ImmOp.TheVariants.{Addi, Slli}
use Rattle.rv32_table.specs.declared.instruction.RegOp.TheVariants.{Add}
use Rattle.rv32_table.specs.declared.instruction.Instr.{Instr}
use Rattle.rv32_table.specs.declared.instruction.Instr.TheVariants.{Lui, Branch, Load, Store, OpImm, Op, Ecall}
use Rattle.rv32_asm.specs.File.{words, file_of}

-- the number that follows one: a linear congruence modulo 2^64
abbrev pub number_after : ℕ → ℕ
number_after number = (number * 6_364_136_223_846_793_005 + 1_442_695_040_888_963_407) % 2 ^ 64

-- the seed, and the numbers that follow it, counted from 0
abbrev pub number_at : ℕ → ℕ → ℕ
number_at seed zero = seed
number_at seed (suc index) = number_after (number_at seed index)

-- A data word, counted from 0, is the high half of the number that follows the one of its index.
abbrev pub data_word : ℕ → ℕ → ℕ
data_word seed index = number_at seed (suc index) / 2 ^ 32

-- the first data words of a seed
abbrev pub data_words : ℕ → ℕ → List ℕ
data_words seed zero = []
data_words seed (suc count) = data_words seed count ++ data_word seed count ∷ []

-- The lines of the program up to its data. It reads the count, takes each word in turn into the hash, puts the hash
-- into the word's place, writes the last hash as the output's four bytes, and exits with 0.
unfoldable pub program_lines : List (List ℕ)
program_lines =
    codes " la s0, count"
    ∷ codes " lw s1, 0(s0)"
    ∷ codes " addi s0, s0, 4"
    ∷ codes " li a0, 0"
    ∷ codes "next:"
    ∷ codes " lw t0, 0(s0)"
    ∷ codes " slli t1, a0, 5"
    ∷ codes " add a0, a0, t1"
    ∷ codes " add a0, a0, t0"
    ∷ codes " sw a0, 0(s0)"
    ∷ codes " addi s0, s0, 4"
    ∷ codes " addi s1, s1, -1"
    ∷ codes " bne s1, zero, next"
    ∷ codes " la a1, count"
    ∷ codes " sw a0, 0(a1)"
    ∷ codes " li a0, 1"
    ∷ codes " li a2, 4"
    ∷ codes " li a7, 64"
    ∷ codes " ecall"
    ∷ codes " li a0, 0"
    ∷ codes " li a7, 93"
    ∷ codes " ecall"
    ∷ codes "count:"
    ∷ []

-- the line of a number
abbrev pub number_line : ℕ → List ℕ
number_line number = codes " .word " ++ decimal number

-- a line with its line feed
abbrev pub ended : List ℕ → List ℕ
ended line = line ++ 10 ∷ []

abbrev pub text_of_lines : List (List ℕ) → List ℕ
text_of_lines lines = flat_map ended lines

-- The data: the count, and behind it as many data words.
abbrev pub program_data : ℕ → ℕ → List ℕ
program_data seed count = count ∷ data_words seed count

-- The text that is made from a seed and a count.
abbrev pub generated_text : ℕ → ℕ → List ℕ
generated_text seed count = text_of_lines (program_lines ++ map number_line (program_data seed count))

-- where the program begins
abbrev pub start : ℕ
start = 65_536

-- The instructions that the program's lines are: `la` and `li` are two each, and the data stands 116 bytes behind the
-- first of them.
unfoldable pub program : List Instr
program =
    Lui 8 0x1_0000 ∷ OpImm Addi 8 8 (pos 116)
    ∷ Load Lw 9 8 (pos 0)
    ∷ OpImm Addi 8 8 (pos 4)
    ∷ Lui 10 0 ∷ OpImm Addi 10 10 (pos 0)
    ∷ Load Lw 5 8 (pos 0)
    ∷ OpImm Slli 6 10 (pos 5)
    ∷ Op Add 10 10 6
    ∷ Op Add 10 10 5
    ∷ Store Sw 8 10 (pos 0)
    ∷ OpImm Addi 8 8 (pos 4)
    ∷ OpImm Addi 9 9 (neg_ℤ (pos 1))
    ∷ Branch Bne 9 0 (neg_ℤ (pos 28))
    ∷ Lui 11 0x1_0000 ∷ OpImm Addi 11 11 (pos 116)
    ∷ Store Sw 11 10 (pos 0)
    ∷ Lui 10 0 ∷ OpImm Addi 10 10 (pos 1)
    ∷ Lui 12 0 ∷ OpImm Addi 12 12 (pos 4)
    ∷ Lui 17 0 ∷ OpImm Addi 17 17 (pos 64)
    ∷ Ecall
    ∷ Lui 10 0 ∷ OpImm Addi 10 10 (pos 0)
    ∷ Lui 17 0 ∷ OpImm Addi 17 17 (pos 93)
    ∷ Ecall
    ∷ []

-- the words of the program with its data
abbrev pub generated_words : ℕ → ℕ → List ℕ
generated_words seed count = map encoded program ++ program_data seed count

-- the file of the program with its data
abbrev pub generated_file : ℕ → ℕ → List ℕ
generated_file seed count = file_of start (words (generated_words seed count))
