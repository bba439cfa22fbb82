-- The words of the statements that are instructions: their names in lower case.
use Rattle.std.specs.Prelude.{ℕ, List, codes}
use Rattle.rv32_table.specs.declared.instruction.BranchOp.{BranchOp}
use Rattle.rv32_table.specs.declared.instruction.BranchOp.TheVariants.{Beq, Bne, Blt, Bge, Bltu, Bgeu}
use Rattle.rv32_table.specs.declared.instruction.LoadOp.{LoadOp}
use Rattle.rv32_table.specs.declared.instruction.LoadOp.TheVariants.{Lb, Lh, Lw, Lbu, Lhu}
use Rattle.rv32_table.specs.declared.instruction.StoreOp.{StoreOp}
use Rattle.rv32_table.specs.declared.instruction.StoreOp.TheVariants.{Sb, Sh, Sw}
use Rattle.rv32_table.specs.declared.instruction.ImmOp.{ImmOp}
use Rattle.rv32_table.specs.declared.instruction.ImmOp.TheVariants.{Addi, Slti, Sltiu, Xori, Ori, Andi, Slli, Srli}
use Rattle.rv32_table.specs.declared.instruction.ImmOp.TheVariants.{Srai}
use Rattle.rv32_table.specs.declared.instruction.RegOp.{RegOp}
use Rattle.rv32_table.specs.declared.instruction.RegOp.TheVariants.{Add, Sub, Sll, Slt, Sltu, Xor, Srl, Sra, Or, And}
use Rattle.rv32_table.specs.declared.instruction.RegOp.TheVariants.{Mul, Mulh, Mulhsu, Mulhu, Div, Divu, Rem, Remu}

-- the word of a branch
abbrev pub branch_word : BranchOp → List ℕ
branch_word Beq = codes "beq"
branch_word Bne = codes "bne"
branch_word Blt = codes "blt"
branch_word Bge = codes "bge"
branch_word Bltu = codes "bltu"
branch_word Bgeu = codes "bgeu"

-- the word of a load
abbrev pub load_word : LoadOp → List ℕ
load_word Lb = codes "lb"
load_word Lh = codes "lh"
load_word Lw = codes "lw"
load_word Lbu = codes "lbu"
load_word Lhu = codes "lhu"

-- the word of a store
abbrev pub store_word : StoreOp → List ℕ
store_word Sb = codes "sb"
store_word Sh = codes "sh"
store_word Sw = codes "sw"

-- the word of an operation on a register and an immediate
abbrev pub immediate_word : ImmOp → List ℕ
immediate_word Addi = codes "addi"
immediate_word Slti = codes "slti"
immediate_word Sltiu = codes "sltiu"
immediate_word Xori = codes "xori"
immediate_word Ori = codes "ori"
immediate_word Andi = codes "andi"
immediate_word Slli = codes "slli"
immediate_word Srli = codes "srli"
immediate_word Srai = codes "srai"

-- the word of an operation on two registers
abbrev pub register_word : RegOp → List ℕ
register_word Add = codes "add"
register_word Sub = codes "sub"
register_word Sll = codes "sll"
register_word Slt = codes "slt"
register_word Sltu = codes "sltu"
register_word Xor = codes "xor"
register_word Srl = codes "srl"
register_word Sra = codes "sra"
register_word Or = codes "or"
register_word And = codes "and"
register_word Mul = codes "mul"
register_word Mulh = codes "mulh"
register_word Mulhsu = codes "mulhsu"
register_word Mulhu = codes "mulhu"
register_word Div = codes "div"
register_word Divu = codes "divu"
register_word Rem = codes "rem"
register_word Remu = codes "remu"
