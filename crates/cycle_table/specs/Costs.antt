-- The cycles of each instruction. The numbers are this project's own.
use Rattle.std.specs.Prelude.{ℕ, ◌+◌, Bool, if◌then◌else◌}
use Rattle.rv32_table.specs.declared.instruction.RegOp.{RegOp}
use Rattle.rv32_table.specs.declared.instruction.RegOp.TheVariants.{Add, Sub, Sll, Slt, Sltu, Xor, Srl, Sra, Or, And}
use Rattle.rv32_table.specs.declared.instruction.RegOp.TheVariants.{Mul, Mulh, Mulhsu, Mulhu, Div, Divu, Rem, Remu}
use Rattle.rv32_table.specs.declared.instruction.Instr.{Instr}
use Rattle.rv32_table.specs.declared.instruction.Instr.TheVariants.{Lui, Auipc, Jal, Jalr, Branch, Load, Store, OpImm}
use Rattle.rv32_table.specs.declared.instruction.Instr.TheVariants.{Op, Fence, FenceI, Ecall, Ebreak}

-- what is no jump, no access to memory, no multiplication, no division and no host call
abbrev pub plain_cost : ℕ
plain_cost = 1

-- a taken jump or branch
abbrev pub jump_cost : ℕ
jump_cost = 2

-- a load or a store
abbrev pub access_cost : ℕ
access_cost = 2

abbrev pub multiply_cost : ℕ
multiply_cost = 3

-- a division, for the quotient or the remainder
abbrev pub divide_cost : ℕ
divide_cost = 34

-- a host call that moves so many bytes
abbrev pub call_cost : ℕ → ℕ
call_cost moved = 10 + moved

-- an operation on registers
abbrev pub register_cost : RegOp → ℕ
register_cost Add = plain_cost
register_cost Sub = plain_cost
register_cost Sll = plain_cost
register_cost Slt = plain_cost
register_cost Sltu = plain_cost
register_cost Xor = plain_cost
register_cost Srl = plain_cost
register_cost Sra = plain_cost
register_cost Or = plain_cost
register_cost And = plain_cost
register_cost Mul = multiply_cost
register_cost Mulh = multiply_cost
register_cost Mulhsu = multiply_cost
register_cost Mulhu = multiply_cost
register_cost Div = divide_cost
register_cost Divu = divide_cost
register_cost Rem = divide_cost
register_cost Remu = divide_cost

-- an instruction, by whether its branch is taken and how many bytes its host call moves
abbrev pub cost_of : Instr → Bool → ℕ → ℕ
cost_of (Lui rd imm) taken moved = plain_cost
cost_of (Auipc rd imm) taken moved = plain_cost
cost_of (Jal rd offset) taken moved = jump_cost
cost_of (Jalr rd rs1 imm) taken moved = jump_cost
cost_of (Branch op rs1 rs2 offset) taken moved = if taken then jump_cost else plain_cost
cost_of (Load op rd rs1 imm) taken moved = access_cost
cost_of (Store op rs1 rs2 imm) taken moved = access_cost
cost_of (OpImm op rd rs1 imm) taken moved = plain_cost
cost_of (Op op rd rs1 rs2) taken moved = register_cost op
cost_of (Fence rest) taken moved = plain_cost
cost_of (FenceI rest) taken moved = plain_cost
cost_of Ecall taken moved = call_cost moved
cost_of Ebreak taken moved = plain_cost
