-- The instruction table. (RISC-V unprivileged manual, RV32/64G Instruction Set Listings: RV32I 2.1, M 2.0, Zifencei
-- 2.0)
use Rattle.std.specs.Prelude.{◌≡◌, ℕ, ℤ, pos, Bool, ◌==◌, List, [], ◌∷◌, Option, option_map, find, bit_and, bit_or}
use Rattle.std.specs.Prelude.{bit_xor}
use Rattle.rv32_table.specs.Fields.{rd_of, rs1_of, rs2_of, immediate_i, immediate_s, immediate_b, immediate_u}
use Rattle.rv32_table.specs.Fields.{immediate_j, rest_of}
use Rattle.rv32_table.specs.Meaning.{Meaning, SetsUpper, SetsFromBoth, SetsFromImmediate, Links, Branches, Loads}
use Rattle.rv32_table.specs.Meaning.{Stores, Passes, CallsHost, BreaksOff}
use Rattle.rv32_table.specs.Meaning.{upper_value, auipc_value, from_pc, from_register, is_equal, is_unequal}
use Rattle.rv32_table.specs.Meaning.{is_less_signed, is_not_less_signed, is_less_unsigned, is_not_less_unsigned}
use Rattle.rv32_table.specs.Meaning.{extended_byte, extended_half, as_it_is}
use Rattle.rv32_table.specs.Meaning.{sum_of, difference_of, shifted_left, one_if_less_signed, one_if_less_unsigned}
use Rattle.rv32_table.specs.Meaning.{shifted_right, shifted_right_signed, low_product, high_product_signed}
use Rattle.rv32_table.specs.Meaning.{high_product_mixed, high_product_unsigned, quotient_signed, quotient_unsigned}
use Rattle.rv32_table.specs.Meaning.{remainder_signed, remainder_unsigned}
use Rattle.rv32_table.specs.declared.instruction.BranchOp.TheVariants.{Beq, Bne, Blt, Bge, Bltu, Bgeu}
use Rattle.rv32_table.specs.declared.instruction.LoadOp.TheVariants.{Lb, Lh, Lw, Lbu, Lhu}
use Rattle.rv32_table.specs.declared.instruction.StoreOp.TheVariants.{Sb, Sh, Sw}
use Rattle.rv32_table.specs.declared.instruction.ImmOp.TheVariants.{Addi, Slti, Sltiu, Xori, Ori, Andi, Slli, Srli}
use Rattle.rv32_table.specs.declared.instruction.ImmOp.TheVariants.{Srai}
use Rattle.rv32_table.specs.declared.instruction.RegOp.TheVariants.{Add, Sub, Sll, Slt, Sltu, Xor, Srl, Sra, Or, And}
use Rattle.rv32_table.specs.declared.instruction.RegOp.TheVariants.{Mul, Mulh, Mulhsu, Mulhu, Div, Divu, Rem, Remu}
use Rattle.rv32_table.specs.declared.instruction.Instr.{Instr}
use Rattle.rv32_table.specs.declared.instruction.Instr.TheVariants.{Lui, Auipc, Jal, Jalr, Branch, Load, Store, OpImm}
use Rattle.rv32_table.specs.declared.instruction.Instr.TheVariants.{Op, Fence, FenceI, Ecall, Ebreak}

-- A form, and the instruction that it makes of the fields of a word in the order of the manual's assembler: of rd, rs1
-- and rs2; of rd, rs1 and an immediate; of rs1, rs2 and an immediate; of rd and an immediate.
pub data Form : Type 0 where
  FormR : (ℕ → ℕ → ℕ → Instr) → Form
  FormI : (ℕ → ℕ → ℤ → Instr) → Form
  FormShift : (ℕ → ℕ → ℤ → Instr) → Form
  FormS : (ℕ → ℕ → ℤ → Instr) → Form
  FormB : (ℕ → ℕ → ℤ → Instr) → Form
  FormU : (ℕ → ℕ → Instr) → Form
  FormJ : (ℕ → ℤ → Instr) → Form
  FormFence : (ℕ → Instr) → Form
  FormWhole : Instr → Form

-- the instruction that a word is in a form
abbrev pub instruction_of : Form → ℕ → Instr
instruction_of (FormR make) word = make (rd_of word) (rs1_of word) (rs2_of word)
instruction_of (FormI make) word = make (rd_of word) (rs1_of word) (immediate_i word)
instruction_of (FormShift make) word = make (rd_of word) (rs1_of word) (pos (rs2_of word))
instruction_of (FormS make) word = make (rs1_of word) (rs2_of word) (immediate_s word)
instruction_of (FormB make) word = make (rs1_of word) (rs2_of word) (immediate_b word)
instruction_of (FormU make) word = make (rd_of word) (immediate_u word)
instruction_of (FormJ make) word = make (rd_of word) (immediate_j word)
instruction_of (FormFence make) word = make (rest_of word)
instruction_of (FormWhole instr) word = instr

-- A row: the bits that are fixed, what they are, the form and the name of the instruction, and what it means. What the
-- words for a meaning say stands in Meaning.
pub record Row : Type 0 where
  pub mask : ℕ
  pub value : ℕ
  pub form : Form
  pub meaning : Meaning

abbrev pub row : ℕ → ℕ → Form → Meaning → Row
row mask value form meaning = record { mask = mask; value = value; form = form; meaning = meaning }

-- The table. Its rows to EBREAK are those of RV32I, Base Integer Instruction Set 2.1.
unfoldable pub table : List Row
table =
    row 0x0000_007f 0x0000_0037 (FormU Lui) (SetsUpper upper_value)
    ∷ row 0x0000_007f 0x0000_0017 (FormU Auipc) (SetsUpper auipc_value)
    ∷ row 0x0000_007f 0x0000_006f (FormJ Jal) (Links from_pc)
    ∷ row 0x0000_707f 0x0000_0067 (FormI Jalr) (Links from_register)
    ∷ row 0x0000_707f 0x0000_0063 (FormB (Branch Beq)) (Branches is_equal)
    ∷ row 0x0000_707f 0x0000_1063 (FormB (Branch Bne)) (Branches is_unequal)
    ∷ row 0x0000_707f 0x0000_4063 (FormB (Branch Blt)) (Branches is_less_signed)
    ∷ row 0x0000_707f 0x0000_5063 (FormB (Branch Bge)) (Branches is_not_less_signed)
    ∷ row 0x0000_707f 0x0000_6063 (FormB (Branch Bltu)) (Branches is_less_unsigned)
    ∷ row 0x0000_707f 0x0000_7063 (FormB (Branch Bgeu)) (Branches is_not_less_unsigned)
    ∷ row 0x0000_707f 0x0000_0003 (FormI (Load Lb)) (Loads 1 extended_byte)
    ∷ row 0x0000_707f 0x0000_1003 (FormI (Load Lh)) (Loads 2 extended_half)
    ∷ row 0x0000_707f 0x0000_2003 (FormI (Load Lw)) (Loads 4 as_it_is)
    ∷ row 0x0000_707f 0x0000_4003 (FormI (Load Lbu)) (Loads 1 as_it_is)
    ∷ row 0x0000_707f 0x0000_5003 (FormI (Load Lhu)) (Loads 2 as_it_is)
    ∷ row 0x0000_707f 0x0000_0023 (FormS (Store Sb)) (Stores 1)
    ∷ row 0x0000_707f 0x0000_1023 (FormS (Store Sh)) (Stores 2)
    ∷ row 0x0000_707f 0x0000_2023 (FormS (Store Sw)) (Stores 4)
    ∷ row 0x0000_707f 0x0000_0013 (FormI (OpImm Addi)) (SetsFromImmediate sum_of)
    ∷ row 0x0000_707f 0x0000_2013 (FormI (OpImm Slti)) (SetsFromImmediate one_if_less_signed)
    ∷ row 0x0000_707f 0x0000_3013 (FormI (OpImm Sltiu)) (SetsFromImmediate one_if_less_unsigned)
    ∷ row 0x0000_707f 0x0000_4013 (FormI (OpImm Xori)) (SetsFromImmediate bit_xor)
    ∷ row 0x0000_707f 0x0000_6013 (FormI (OpImm Ori)) (SetsFromImmediate bit_or)
    ∷ row 0x0000_707f 0x0000_7013 (FormI (OpImm Andi)) (SetsFromImmediate bit_and)
    ∷ row 0xfe00_707f 0x0000_1013 (FormShift (OpImm Slli)) (SetsFromImmediate shifted_left)
    ∷ row 0xfe00_707f 0x0000_5013 (FormShift (OpImm Srli)) (SetsFromImmediate shifted_right)
    ∷ row 0xfe00_707f 0x4000_5013 (FormShift (OpImm Srai)) (SetsFromImmediate shifted_right_signed)
    ∷ row 0xfe00_707f 0x0000_0033 (FormR (Op Add)) (SetsFromBoth sum_of)
    ∷ row 0xfe00_707f 0x4000_0033 (FormR (Op Sub)) (SetsFromBoth difference_of)
    ∷ row 0xfe00_707f 0x0000_1033 (FormR (Op Sll)) (SetsFromBoth shifted_left)
    ∷ row 0xfe00_707f 0x0000_2033 (FormR (Op Slt)) (SetsFromBoth one_if_less_signed)
    ∷ row 0xfe00_707f 0x0000_3033 (FormR (Op Sltu)) (SetsFromBoth one_if_less_unsigned)
    ∷ row 0xfe00_707f 0x0000_4033 (FormR (Op Xor)) (SetsFromBoth bit_xor)
    ∷ row 0xfe00_707f 0x0000_5033 (FormR (Op Srl)) (SetsFromBoth shifted_right)
    ∷ row 0xfe00_707f 0x4000_5033 (FormR (Op Sra)) (SetsFromBoth shifted_right_signed)
    ∷ row 0xfe00_707f 0x0000_6033 (FormR (Op Or)) (SetsFromBoth bit_or)
    ∷ row 0xfe00_707f 0x0000_7033 (FormR (Op And)) (SetsFromBoth bit_and)
    ∷ row 0x0000_707f 0x0000_000f (FormFence Fence) Passes
    ∷ row 0xffff_ffff 0x0000_0073 (FormWhole Ecall) CallsHost
    ∷ row 0xffff_ffff 0x0010_0073 (FormWhole Ebreak) BreaksOff
    -- Zifencei, Instruction-Fetch Fence 2.0
    ∷ row 0x0000_707f 0x0000_100f (FormFence FenceI) Passes
    -- M, Integer Multiplication and Division 2.0
    ∷ row 0xfe00_707f 0x0200_0033 (FormR (Op Mul)) (SetsFromBoth low_product)
    ∷ row 0xfe00_707f 0x0200_1033 (FormR (Op Mulh)) (SetsFromBoth high_product_signed)
    ∷ row 0xfe00_707f 0x0200_2033 (FormR (Op Mulhsu)) (SetsFromBoth high_product_mixed)
    ∷ row 0xfe00_707f 0x0200_3033 (FormR (Op Mulhu)) (SetsFromBoth high_product_unsigned)
    ∷ row 0xfe00_707f 0x0200_4033 (FormR (Op Div)) (SetsFromBoth quotient_signed)
    ∷ row 0xfe00_707f 0x0200_5033 (FormR (Op Divu)) (SetsFromBoth quotient_unsigned)
    ∷ row 0xfe00_707f 0x0200_6033 (FormR (Op Rem)) (SetsFromBoth remainder_signed)
    ∷ row 0xfe00_707f 0x0200_7033 (FormR (Op Remu)) (SetsFromBoth remainder_unsigned)
    ∷ []

-- the bits of a word that a row fixes are what it says
abbrev pub Matches : ℕ → Row → Type 0
Matches word r = bit_and word r.mask ≡ r.value

-- the same as a test
abbrev pub is_match : ℕ → Row → Bool
is_match word r = bit_and word r.mask == r.value

-- The instruction that a word is, by the row that it matches. It is illegal, none, where there is no such row.
unfoldable pub decoded : ℕ → Option Instr
decoded word = option_map (λ (r : Row). instruction_of r.form word) (find (is_match word) table)
