-- The numbers of statements: their ranges, and the instructions that have them.
use Rattle.std.specs.Prelude.{ℕ, ◌*◌, ◌%◌, ◌^◌, nat_lt, ℤ, pos, neg_ℤ, ◌-ℤ◌, int_le, int_rem, unsigned_abs, Bool, false}
use Rattle.std.specs.Prelude.{◌&&◌, if◌then◌else◌, List, [], ◌∷◌, Option, Some, None}
use Rattle.std.specs.List.{list_any}
use Rattle.std.specs.Ordering.{int_eq}
use Rattle.rv32_table.specs.Fits.{is_shift}
use Rattle.rv32_table.specs.Meaning.{low_word}
use Rattle.rv32_table.specs.declared.instruction.ImmOp.{ImmOp}
use Rattle.rv32_table.specs.declared.instruction.ImmOp.TheVariants.{Addi}
use Rattle.rv32_table.specs.declared.instruction.Instr.{Instr}
use Rattle.rv32_table.specs.declared.instruction.Instr.TheVariants.{Lui, Auipc, Jal, Jalr, Branch, Load, Store, OpImm}
use Rattle.rv32_table.specs.declared.instruction.Instr.TheVariants.{Op, Fence, FenceI, Ecall, Ebreak}

-- a number from one to another
abbrev pub is_from_to : ℤ → ℤ → ℤ → Bool
is_from_to low high number = int_le low number && int_le number high

-- the powers of two to 4096
unfoldable pub multiples : List ℤ
multiples =
    pos 1 ∷ pos 2 ∷ pos 4 ∷ pos 8 ∷ pos 16 ∷ pos 32 ∷ pos 64 ∷ pos 128 ∷ pos 256 ∷ pos 512 ∷ pos 1_024 ∷ pos 2_048
    ∷ pos 4_096 ∷ []

abbrev pub is_multiple : ℤ → Bool
is_multiple number = list_any (λ multiple. int_eq multiple number) multiples

-- the numbers that an immediate of twelve bits may be
abbrev pub is_immediate : ℤ → Bool
is_immediate number = is_from_to (neg_ℤ (pos 2_048)) (pos 2_047) number

abbrev pub is_even : ℤ → Bool
is_even number = int_eq (int_rem number (pos 2)) (pos 0)

-- the immediate of an operation is a shift amount or has twelve bits
abbrev pub is_operand : ImmOp → ℤ → Bool
is_operand op number = if is_shift op then is_from_to (pos 0) (pos 31) number else is_immediate number

-- The numbers that an instruction may have: the high twenty bits of an immediate, an even offset, an immediate.
abbrev pub takes_number : Instr → ℤ → Bool
takes_number (Lui rd imm) number = is_from_to (pos 0) (pos 1_048_575) number
takes_number (Auipc rd imm) number = is_from_to (pos 0) (pos 1_048_575) number
takes_number (Jal rd offset) number = is_from_to (neg_ℤ (pos 1_048_576)) (pos 1_048_575) number && is_even number
takes_number (Jalr rd rs1 imm) number = is_immediate number
takes_number (Branch op rs1 rs2 offset) number = is_from_to (neg_ℤ (pos 4_096)) (pos 4_095) number && is_even number
takes_number (Load op rd rs1 imm) number = is_immediate number
takes_number (Store op rs1 rs2 imm) number = is_immediate number
takes_number (OpImm op rd rs1 imm) number = is_operand op number
takes_number (Op op rd rs1 rs2) number = false
takes_number (Fence rest) number = false
takes_number (FenceI rest) number = false
takes_number Ecall number = false
takes_number Ebreak number = false

-- The instruction with a number that it takes.
abbrev pub with_number : Instr → ℤ → Instr
with_number (Lui rd imm) number = Lui rd (unsigned_abs number * 2 ^ 12)
with_number (Auipc rd imm) number = Auipc rd (unsigned_abs number * 2 ^ 12)
with_number (Jal rd offset) number = Jal rd number
with_number (Jalr rd rs1 imm) number = Jalr rd rs1 number
with_number (Branch op rs1 rs2 offset) number = Branch op rs1 rs2 number
with_number (Load op rd rs1 imm) number = Load op rd rs1 number
with_number (Store op rs1 rs2 imm) number = Store op rs1 rs2 number
with_number (OpImm op rd rs1 imm) number = OpImm op rd rs1 number
with_number (Op op rd rs1 rs2) number = Op op rd rs1 rs2
with_number (Fence rest) number = Fence rest
with_number (FenceI rest) number = FenceI rest
with_number Ecall number = Ecall
with_number Ebreak number = Ebreak

-- none where the number is out of its range
abbrev pub numbered : Instr → ℤ → Option Instr
numbered instr number = if takes_number instr number then Some (with_number instr number) else None

-- the low twelve bits of a word, as a signed number
abbrev pub low_part : ℕ → ℤ
low_part word = if nat_lt (word % 2 ^ 12) 2_048 then pos (word % 2 ^ 12) else pos (word % 2 ^ 12) -ℤ pos (2 ^ 12)

-- Two instructions that put a word into a register: LUI the rest, ADDI the low part.
abbrev pub upper_of : ℕ → ℕ → Instr
upper_of rd word = Lui rd (low_word (pos word -ℤ low_part word))

abbrev pub lower_of : ℕ → ℕ → Instr
lower_of rd word = OpImm Addi rd rd (low_part word)
