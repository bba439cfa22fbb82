-- The word of an instruction, by its fields. (RISC-V unprivileged manual, RV32I, Base Instruction Formats and Immediate
-- Encoding Variants)
use Rattle.std.specs.Prelude.{ℕ, ◌+◌, ◌*◌, ◌^◌, ℤ, if◌then◌else◌}
use Rattle.std.specs.Int.{w32, cast_unsigned}
use Rattle.rv32_table.specs.Fields.{bits}
use Rattle.rv32_table.specs.Fits.{is_shift}
use Rattle.rv32_table.specs.declared.instruction.BranchOp.{BranchOp}
use Rattle.rv32_table.specs.declared.instruction.BranchOp.TheVariants.{Beq, Bne, Blt, Bge, Bltu, Bgeu}
use Rattle.rv32_table.specs.declared.instruction.LoadOp.{LoadOp}
use Rattle.rv32_table.specs.declared.instruction.LoadOp.TheVariants.{Lb, Lh, Lw, Lbu, Lhu}
use Rattle.rv32_table.specs.declared.instruction.StoreOp.{StoreOp}
use Rattle.rv32_table.specs.declared.instruction.StoreOp.TheVariants.{Sb, Sh, Sw}
use Rattle.rv32_table.specs.declared.instruction.ImmOp.{ImmOp}
use Rattle.rv32_table.specs.declared.instruction.ImmOp.TheVariants.{Addi, Slti, Sltiu, Xori, Ori, Andi, Slli, Srli}
use Rattle.rv32_table.specs.declared.instruction.ImmOp.TheVariants.{Srai}
use Rattle.rv32_table.specs.declared.instruction.RegOp.{RegOp}
use Rattle.rv32_table.specs.declared.instruction.RegOp.TheVariants.{Add, Sub, Sll, Slt, Sltu, Xor, Srl, Sra, Or, And}
use Rattle.rv32_table.specs.declared.instruction.RegOp.TheVariants.{Mul, Mulh, Mulhsu, Mulhu, Div, Divu, Rem, Remu}
use Rattle.rv32_table.specs.declared.instruction.Instr.{Instr}
use Rattle.rv32_table.specs.declared.instruction.Instr.TheVariants.{Lui, Auipc, Jal, Jalr, Branch, Load, Store, OpImm}
use Rattle.rv32_table.specs.declared.instruction.Instr.TheVariants.{Op, Fence, FenceI, Ecall, Ebreak}

abbrev pub branch_funct3 : BranchOp → ℕ
branch_funct3 Beq = 0
branch_funct3 Bne = 1
branch_funct3 Blt = 4
branch_funct3 Bge = 5
branch_funct3 Bltu = 6
branch_funct3 Bgeu = 7

abbrev pub load_funct3 : LoadOp → ℕ
load_funct3 Lb = 0
load_funct3 Lh = 1
load_funct3 Lw = 2
load_funct3 Lbu = 4
load_funct3 Lhu = 5

abbrev pub store_funct3 : StoreOp → ℕ
store_funct3 Sb = 0
store_funct3 Sh = 1
store_funct3 Sw = 2

abbrev pub immediate_funct3 : ImmOp → ℕ
immediate_funct3 Addi = 0
immediate_funct3 Slti = 2
immediate_funct3 Sltiu = 3
immediate_funct3 Xori = 4
immediate_funct3 Ori = 6
immediate_funct3 Andi = 7
immediate_funct3 Slli = 1
immediate_funct3 Srli = 5
immediate_funct3 Srai = 5

-- what bits 31 to 25 of a shift are, and of the others are not fixed
abbrev pub shift_funct7 : ImmOp → ℕ
shift_funct7 Addi = 0
shift_funct7 Slti = 0
shift_funct7 Sltiu = 0
shift_funct7 Xori = 0
shift_funct7 Ori = 0
shift_funct7 Andi = 0
shift_funct7 Slli = 0
shift_funct7 Srli = 0
shift_funct7 Srai = 0b010_0000

abbrev pub register_funct3 : RegOp → ℕ
register_funct3 Add = 0
register_funct3 Sub = 0
register_funct3 Sll = 1
register_funct3 Slt = 2
register_funct3 Sltu = 3
register_funct3 Xor = 4
register_funct3 Srl = 5
register_funct3 Sra = 5
register_funct3 Or = 6
register_funct3 And = 7
register_funct3 Mul = 0
register_funct3 Mulh = 1
register_funct3 Mulhsu = 2
register_funct3 Mulhu = 3
register_funct3 Div = 4
register_funct3 Divu = 5
register_funct3 Rem = 6
register_funct3 Remu = 7

abbrev pub register_funct7 : RegOp → ℕ
register_funct7 Add = 0
register_funct7 Sub = 0b010_0000
register_funct7 Sll = 0
register_funct7 Slt = 0
register_funct7 Sltu = 0
register_funct7 Xor = 0
register_funct7 Srl = 0
register_funct7 Sra = 0b010_0000
register_funct7 Or = 0
register_funct7 And = 0
register_funct7 Mul = 1
register_funct7 Mulh = 1
register_funct7 Mulhsu = 1
register_funct7 Mulhu = 1
register_funct7 Div = 1
register_funct7 Divu = 1
register_funct7 Rem = 1
register_funct7 Remu = 1

-- the word with these fields: opcode, rd, funct3, rs1, rs2, funct7
unfoldable pub word_of : ℕ → ℕ → ℕ → ℕ → ℕ → ℕ → ℕ
word_of opcode rd funct3 rs1 rs2 funct7 =
    opcode + rd * 2 ^ 7 + funct3 * 2 ^ 12 + rs1 * 2 ^ 15 + rs2 * 2 ^ 20 + funct7 * 2 ^ 25

-- so many bits of a number in two's complement, from one on
abbrev pub part : ℤ → ℕ → ℕ → ℕ
part number low count = bits (cast_unsigned w32 number) low count

-- Form I: bits 4 to 0 of the immediate stand at rs2, and bits 11 to 5 at funct7.
abbrev pub word_i : ℕ → ℕ → ℕ → ℕ → ℤ → ℕ
word_i opcode rd funct3 rs1 imm = word_of opcode rd funct3 rs1 (part imm 0 5) (part imm 5 7)

-- Form S: bits 4 to 0 of the immediate stand at rd, and bits 11 to 5 at funct7.
abbrev pub word_s : ℕ → ℕ → ℕ → ℕ → ℤ → ℕ
word_s opcode funct3 rs1 rs2 imm = word_of opcode (part imm 0 5) funct3 rs1 rs2 (part imm 5 7)

-- Form B: bits 4 to 1 and 11 of the offset stand at rd, and bits 12 and 10 to 5 at funct7.
abbrev pub word_b : ℕ → ℕ → ℕ → ℕ → ℤ → ℕ
word_b opcode funct3 rs1 rs2 offset =
    word_of opcode (part offset 1 4 * 2 + part offset 11 1) funct3 rs1 rs2
    (part offset 12 1 * 2 ^ 6 + part offset 5 6)

-- Form U: the immediate has twelve zero bits below.
abbrev pub word_u : ℕ → ℕ → ℕ → ℕ
word_u opcode rd imm = opcode + rd * 2 ^ 7 + imm

-- Form J: above rd stand bits 20, 10 to 1, 11 and 19 to 12 of the offset.
abbrev pub word_j : ℕ → ℕ → ℤ → ℕ
word_j opcode rd offset =
    opcode + rd * 2 ^ 7
    + part offset 12 8 * 2 ^ 12 + part offset 11 1 * 2 ^ 20 + part offset 1 10 * 2 ^ 21 + part offset 20 1 * 2 ^ 31

-- an operation with an immediate, which is a shift amount or not
abbrev pub word_op_imm : ImmOp → ℕ → ℕ → ℤ → ℕ
word_op_imm op rd rs1 imm =
    if is_shift op
    then word_of 0b001_0011 rd (immediate_funct3 op) rs1 (part imm 0 5) (shift_funct7 op)
    else word_i 0b001_0011 rd (immediate_funct3 op) rs1 imm

abbrev pub encoded : Instr → ℕ
encoded (Lui rd imm) = word_u 0b011_0111 rd imm
encoded (Auipc rd imm) = word_u 0b001_0111 rd imm
encoded (Jal rd offset) = word_j 0b110_1111 rd offset
encoded (Jalr rd rs1 imm) = word_i 0b110_0111 rd 0 rs1 imm
encoded (Branch op rs1 rs2 offset) = word_b 0b110_0011 (branch_funct3 op) rs1 rs2 offset
encoded (Load op rd rs1 imm) = word_i 0b000_0011 rd (load_funct3 op) rs1 imm
encoded (Store op rs1 rs2 imm) = word_s 0b010_0011 (store_funct3 op) rs1 rs2 imm
encoded (OpImm op rd rs1 imm) = word_op_imm op rd rs1 imm
encoded (Op op rd rs1 rs2) = word_of 0b011_0011 rd (register_funct3 op) rs1 rs2 (register_funct7 op)
encoded (Fence rest) = 0b000_1111 + rest
encoded (FenceI rest) = 0b000_1111 + 2 ^ 12 + rest
encoded Ecall = 0x0000_0073
encoded Ebreak = 0x0010_0073
