-- The statement that names a word's own row of the instruction table.
use Rattle.std.specs.Prelude.{ℕ, ◌/◌, ◌^◌, ◌==◌, ℤ, if◌then◌else◌, List, ◌++◌, Option, Some, None, codes}
use Rattle.std.specs.Fmt.{decimal, signed_decimal}
use Rattle.rv32_table.specs.Table.{decoded}
use Rattle.rv32_table.specs.declared.instruction.Instr.{Instr}
use Rattle.rv32_table.specs.declared.instruction.Instr.TheVariants.{Lui, Auipc, Jal, Jalr, Branch, Load, Store, OpImm}
use Rattle.rv32_table.specs.declared.instruction.Instr.TheVariants.{Op, Fence, FenceI, Ecall, Ebreak}
use Rattle.rv32_asm.specs.Words.{branch_word, load_word, store_word, immediate_word, register_word}

-- a word's statement where it has no other: its number
abbrev pub number_text : ℕ → List ℕ
number_text word = codes ".word " ++ decimal word

-- a register and the high twenty bits of an immediate
abbrev pub upper_text : List ℕ → ℕ → ℕ → List ℕ
upper_text name rd imm = name ++ codes " x" ++ decimal rd ++ codes ", " ++ decimal (imm / 2 ^ 12)

-- a register, and a number in front of a register in round brackets
abbrev pub access_text : List ℕ → ℕ → ℤ → ℕ → List ℕ
access_text name register imm rs1 =
    name ++ codes " x" ++ decimal register ++ codes ", " ++ signed_decimal imm ++ codes "(x" ++ decimal rs1 ++ codes ")"

-- two registers and a number
abbrev pub number_operand_text : List ℕ → ℕ → ℕ → ℤ → List ℕ
number_operand_text name first second number =
    name ++ codes " x" ++ decimal first ++ codes ", x" ++ decimal second ++ codes ", " ++ signed_decimal number

-- three registers
abbrev pub registers_text : List ℕ → ℕ → ℕ → ℕ → List ℕ
registers_text name rd rs1 rs2 =
    name ++ codes " x" ++ decimal rd ++ codes ", x" ++ decimal rs1 ++ codes ", x" ++ decimal rs2

-- The fence that has a statement orders every access before it against every one after it.
abbrev pub fence_text : ℕ → ℕ → List ℕ
fence_text word rest = if rest == 0x0ff0_0000 then codes "fence" else number_text word

abbrev pub fence_i_text : ℕ → ℕ → List ℕ
fence_i_text word rest = if rest == 0 then codes "fence.i" else number_text word

-- the statement of a word that is an instruction
abbrev pub instruction_text : ℕ → Instr → List ℕ
instruction_text word (Lui rd imm) = upper_text (codes "lui") rd imm
instruction_text word (Auipc rd imm) = upper_text (codes "auipc") rd imm
instruction_text word (Jal rd offset) = codes "jal x" ++ decimal rd ++ codes ", " ++ signed_decimal offset
instruction_text word (Jalr rd rs1 imm) = access_text (codes "jalr") rd imm rs1
instruction_text word (Branch op rs1 rs2 offset) = number_operand_text (branch_word op) rs1 rs2 offset
instruction_text word (Load op rd rs1 imm) = access_text (load_word op) rd imm rs1
instruction_text word (Store op rs1 rs2 imm) = access_text (store_word op) rs2 imm rs1
instruction_text word (OpImm op rd rs1 imm) = number_operand_text (immediate_word op) rd rs1 imm
instruction_text word (Op op rd rs1 rs2) = registers_text (register_word op) rd rs1 rs2
instruction_text word (Fence rest) = fence_text word rest
instruction_text word (FenceI rest) = fence_i_text word rest
instruction_text word Ecall = codes "ecall"
instruction_text word Ebreak = codes "ebreak"

-- the statement of a word, by the instruction that it is
abbrev pub text_of_decoded : ℕ → Option Instr → List ℕ
text_of_decoded word (Some instr) = instruction_text word instr
text_of_decoded word None = number_text word

-- The statement of a word, without a line feed.
abbrev pub text_of : ℕ → List ℕ
text_of word = text_of_decoded word (decoded word)
