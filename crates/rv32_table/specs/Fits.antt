-- The instructions that have a word.
use Rattle.std.specs.Prelude.{◌≡◌, ℕ, ◌-◌, ◌/◌, ◌%◌, ◌^◌, ◌<◌, ℤ, pos, neg_ℤ, ◌≤ℤ◌, ◌<ℤ◌, int_rem, Bool, true, false}
use Rattle.std.specs.Prelude.{MatchBool}
use Rattle.rv32_table.specs.declared.instruction.ImmOp.{ImmOp}
use Rattle.rv32_table.specs.declared.instruction.ImmOp.TheVariants.{Addi, Slti, Sltiu, Xori, Ori, Andi, Slli, Srli}
use Rattle.rv32_table.specs.declared.instruction.ImmOp.TheVariants.{Srai}
use Rattle.rv32_table.specs.declared.instruction.Instr.{Instr}
use Rattle.rv32_table.specs.declared.instruction.Instr.TheVariants.{Lui, Auipc, Jal, Jalr, Branch, Load, Store, OpImm}
use Rattle.rv32_table.specs.declared.instruction.Instr.TheVariants.{Op, Fence, FenceI, Ecall, Ebreak}

-- a number that so many bits can be in two's complement
pub record IsSigned (count : ℕ) (number : ℤ) : Type 0 where
  pub low : neg_ℤ (pos (2 ^ (count - 1))) ≤ℤ number
  pub high : number <ℤ pos (2 ^ (count - 1))

-- an even number that so many bits can be in two's complement
pub record IsOffset (count : ℕ) (number : ℤ) : Type 0 where
  pub range : IsSigned count number
  pub even : int_rem number (pos 2) ≡ pos 0

-- a shift amount of 32 bits
pub record IsAmount (number : ℤ) : Type 0 where
  pub low : pos 0 ≤ℤ number
  pub high : number <ℤ pos 32

-- the operations whose immediate is a shift amount
abbrev pub is_shift : ImmOp → Bool
is_shift Slli = true
is_shift Srli = true
is_shift Srai = true
is_shift Addi = false
is_shift Slti = false
is_shift Sltiu = false
is_shift Xori = false
is_shift Ori = false
is_shift Andi = false

-- the immediate that an operation takes
abbrev pub IsImmediate : ImmOp → ℤ → Type 0
IsImmediate op number = MatchBool (is_shift op) (IsAmount number) (IsSigned 12 number)

-- a word whose low twelve bits are zero
pub record IsUpper (number : ℕ) : Type 0 where
  pub range : number < 2 ^ 32
  pub low : number % 2 ^ 12 ≡ 0

-- a word whose opcode and funct3 are zero
pub record IsRest (number : ℕ) : Type 0 where
  pub range : number < 2 ^ 32
  pub opcode : number % 2 ^ 7 ≡ 0
  pub funct3 : number / 2 ^ 12 % 2 ^ 3 ≡ 0

-- Registers are below 32, immediates are in their form's range, offsets are even.
abbrev pub Fits : Instr → Type 0
Fits (Lui rd imm) = (rd < 32) × IsUpper imm
Fits (Auipc rd imm) = (rd < 32) × IsUpper imm
Fits (Jal rd offset) = (rd < 32) × IsOffset 21 offset
Fits (Jalr rd rs1 imm) = (rd < 32) × (rs1 < 32) × IsSigned 12 imm
Fits (Branch op rs1 rs2 offset) = (rs1 < 32) × (rs2 < 32) × IsOffset 13 offset
Fits (Load op rd rs1 imm) = (rd < 32) × (rs1 < 32) × IsSigned 12 imm
Fits (Store op rs1 rs2 imm) = (rs1 < 32) × (rs2 < 32) × IsSigned 12 imm
Fits (OpImm op rd rs1 imm) = (rd < 32) × (rs1 < 32) × IsImmediate op imm
Fits (Op op rd rs1 rs2) = (rd < 32) × (rs1 < 32) × (rs2 < 32)
Fits (Fence rest) = IsRest rest
Fits (FenceI rest) = IsRest rest
Fits Ecall = Unit {0}
Fits Ebreak = Unit {0}
