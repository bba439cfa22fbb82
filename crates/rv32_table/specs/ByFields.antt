-- The same by cases on the fields of a word: opcode, funct3, funct7.
use Rattle.std.specs.Prelude.{ℕ, pos, ◌==◌, if◌then◌else◌, Option, Some, None, option_map}
use Rattle.rv32_table.specs.Fields.{rd_of, funct3_of, rs1_of, rs2_of, funct7_of, immediate_i, immediate_s, immediate_b}
use Rattle.rv32_table.specs.Fields.{immediate_u, immediate_j, rest_of}
use Rattle.rv32_table.specs.declared.instruction.BranchOp.{BranchOp}
use Rattle.rv32_table.specs.declared.instruction.BranchOp.TheVariants.{Beq, Bne, Blt, Bge, Bltu, Bgeu}
use Rattle.rv32_table.specs.declared.instruction.LoadOp.{LoadOp}
use Rattle.rv32_table.specs.declared.instruction.LoadOp.TheVariants.{Lb, Lh, Lw, Lbu, Lhu}
use Rattle.rv32_table.specs.declared.instruction.StoreOp.{StoreOp}
use Rattle.rv32_table.specs.declared.instruction.StoreOp.TheVariants.{Sb, Sh, Sw}
use Rattle.rv32_table.specs.declared.instruction.ImmOp.{ImmOp}
use Rattle.rv32_table.specs.declared.instruction.ImmOp.TheVariants.{Addi, Slti, Sltiu, Xori, Ori, Andi, Slli, Srli}
use Rattle.rv32_table.specs.declared.instruction.ImmOp.TheVariants.{Srai}
use Rattle.rv32_table.specs.declared.instruction.RegOp.{RegOp}
use Rattle.rv32_table.specs.declared.instruction.RegOp.TheVariants.{Add, Sub, Sll, Slt, Sltu, Xor, Srl, Sra, Or, And}
use Rattle.rv32_table.specs.declared.instruction.RegOp.TheVariants.{Mul, Mulh, Mulhsu, Mulhu, Div, Divu, Rem, Remu}
use Rattle.rv32_table.specs.declared.instruction.Instr.{Instr}
use Rattle.rv32_table.specs.declared.instruction.Instr.TheVariants.{Lui, Auipc, Jal, Jalr, Branch, Load, Store, OpImm}
use Rattle.rv32_table.specs.declared.instruction.Instr.TheVariants.{Op, Fence, FenceI, Ecall, Ebreak}

abbrev pub branch_at : ℕ → Option BranchOp
branch_at funct3 =
    if funct3 == 0 then Some Beq
    else (if funct3 == 1 then Some Bne
    else (if funct3 == 4 then Some Blt
    else (if funct3 == 5 then Some Bge
    else (if funct3 == 6 then Some Bltu
    else (if funct3 == 7 then Some Bgeu else None)))))

abbrev pub load_at : ℕ → Option LoadOp
load_at funct3 =
    if funct3 == 0 then Some Lb
    else (if funct3 == 1 then Some Lh
    else (if funct3 == 2 then Some Lw
    else (if funct3 == 4 then Some Lbu
    else (if funct3 == 5 then Some Lhu else None))))

abbrev pub store_at : ℕ → Option StoreOp
store_at funct3 =
    if funct3 == 0 then Some Sb
    else (if funct3 == 1 then Some Sh
    else (if funct3 == 2 then Some Sw else None))

abbrev pub immediate_at : ℕ → Option ImmOp
immediate_at funct3 =
    if funct3 == 0 then Some Addi
    else (if funct3 == 2 then Some Slti
    else (if funct3 == 3 then Some Sltiu
    else (if funct3 == 4 then Some Xori
    else (if funct3 == 6 then Some Ori
    else (if funct3 == 7 then Some Andi else None)))))

abbrev pub plain_shift_at : ℕ → Option ImmOp
plain_shift_at funct3 =
    if funct3 == 1 then Some Slli
    else (if funct3 == 5 then Some Srli else None)

abbrev pub sign_shift_at : ℕ → Option ImmOp
sign_shift_at funct3 = if funct3 == 5 then Some Srai else None

abbrev pub shift_at : ℕ → ℕ → Option ImmOp
shift_at funct7 funct3 =
    if funct7 == 0 then plain_shift_at funct3
    else (if funct7 == 0b010_0000 then sign_shift_at funct3 else None)

abbrev pub plain_at : ℕ → Option RegOp
plain_at funct3 =
    if funct3 == 0 then Some Add
    else (if funct3 == 1 then Some Sll
    else (if funct3 == 2 then Some Slt
    else (if funct3 == 3 then Some Sltu
    else (if funct3 == 4 then Some Xor
    else (if funct3 == 5 then Some Srl
    else (if funct3 == 6 then Some Or
    else (if funct3 == 7 then Some And else None)))))))

abbrev pub other_at : ℕ → Option RegOp
other_at funct3 =
    if funct3 == 0 then Some Sub
    else (if funct3 == 5 then Some Sra else None)

abbrev pub multiply_at : ℕ → Option RegOp
multiply_at funct3 =
    if funct3 == 0 then Some Mul
    else (if funct3 == 1 then Some Mulh
    else (if funct3 == 2 then Some Mulhsu
    else (if funct3 == 3 then Some Mulhu
    else (if funct3 == 4 then Some Div
    else (if funct3 == 5 then Some Divu
    else (if funct3 == 6 then Some Rem
    else (if funct3 == 7 then Some Remu else None)))))))

abbrev pub register_at : ℕ → ℕ → Option RegOp
register_at funct7 funct3 =
    if funct7 == 0 then plain_at funct3
    else (if funct7 == 0b010_0000 then other_at funct3
    else (if funct7 == 1 then multiply_at funct3 else None))

-- the instructions of each opcode with a funct3
abbrev pub jump_by_fields : ℕ → Option Instr
jump_by_fields word =
    if funct3_of word == 0 then Some (Jalr (rd_of word) (rs1_of word) (immediate_i word)) else None

abbrev pub branch_by_fields : ℕ → Option Instr
branch_by_fields word =
    option_map (λ op. Branch op (rs1_of word) (rs2_of word) (immediate_b word)) (branch_at (funct3_of word))

abbrev pub load_by_fields : ℕ → Option Instr
load_by_fields word =
    option_map (λ op. Load op (rd_of word) (rs1_of word) (immediate_i word)) (load_at (funct3_of word))

abbrev pub store_by_fields : ℕ → Option Instr
store_by_fields word =
    option_map (λ op. Store op (rs1_of word) (rs2_of word) (immediate_s word)) (store_at (funct3_of word))

abbrev pub shift_by_fields : ℕ → Option Instr
shift_by_fields word =
    option_map (λ op. OpImm op (rd_of word) (rs1_of word) (pos (rs2_of word)))
    (shift_at (funct7_of word) (funct3_of word))

abbrev pub immediate_by_fields : ℕ → Option Instr
immediate_by_fields word =
    option_map (λ op. OpImm op (rd_of word) (rs1_of word) (immediate_i word)) (immediate_at (funct3_of word))

abbrev pub op_imm_by_fields : ℕ → Option Instr
op_imm_by_fields word =
    if funct3_of word == 1 then shift_by_fields word
    else (if funct3_of word == 5 then shift_by_fields word else immediate_by_fields word)

abbrev pub op_by_fields : ℕ → Option Instr
op_by_fields word =
    option_map (λ op. Op op (rd_of word) (rs1_of word) (rs2_of word))
    (register_at (funct7_of word) (funct3_of word))

abbrev pub fence_by_fields : ℕ → Option Instr
fence_by_fields word =
    if funct3_of word == 0 then Some (Fence (rest_of word))
    else (if funct3_of word == 1 then Some (FenceI (rest_of word)) else None)

abbrev pub system_by_fields : ℕ → Option Instr
system_by_fields word =
    if word == 0x0000_0073 then Some Ecall
    else (if word == 0x0010_0073 then Some Ebreak else None)

-- the instructions of each opcode
abbrev pub by_opcode : ℕ → ℕ → Option Instr
by_opcode opcode word =
    if opcode == 0b011_0111 then Some (Lui (rd_of word) (immediate_u word))
    else (if opcode == 0b001_0111 then Some (Auipc (rd_of word) (immediate_u word))
    else (if opcode == 0b110_1111 then Some (Jal (rd_of word) (immediate_j word))
    else (if opcode == 0b110_0111 then jump_by_fields word
    else (if opcode == 0b110_0011 then branch_by_fields word
    else (if opcode == 0b000_0011 then load_by_fields word
    else (if opcode == 0b010_0011 then store_by_fields word
    else (if opcode == 0b001_0011 then op_imm_by_fields word
    else (if opcode == 0b011_0011 then op_by_fields word
    else (if opcode == 0b000_1111 then fence_by_fields word
    else (if opcode == 0b111_0011 then system_by_fields word else None))))))))))
