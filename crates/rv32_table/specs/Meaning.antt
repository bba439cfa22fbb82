-- What the rows of the table mean, over whole numbers; the table itself has each meaning's name beside the row.
-- (RISC-V unprivileged manual, RV32I 2.1 and M 2.0)
-- A value of 32 bits is a number below 2^32: its unsigned reading.
use Rattle.std.specs.Prelude.{ℕ, ◌+◌, ◌-◌, ◌*◌, ◌/◌, ◌%◌, ◌^◌, nat_lt, nat_le, ℤ, pos, ◌+ℤ◌, ◌-ℤ◌, ◌*ℤ◌, int_lt}
use Rattle.std.specs.Prelude.{int_div, int_rem, unsigned_abs, bit_and, bit_or, bit_xor, Bool, not, ◌==◌, if◌then◌else◌}
use Rattle.std.specs.Int.{int_div_euclid, int_rem_euclid}
use Rattle.rv32_table.specs.Fields.{signed}
use Rattle.rv32_table.specs.declared.instruction.BranchOp.{BranchOp}
use Rattle.rv32_table.specs.declared.instruction.BranchOp.TheVariants.{Beq, Bne, Blt, Bge, Bltu, Bgeu}
use Rattle.rv32_table.specs.declared.instruction.LoadOp.{LoadOp}
use Rattle.rv32_table.specs.declared.instruction.LoadOp.TheVariants.{Lb, Lh, Lw, Lbu, Lhu}
use Rattle.rv32_table.specs.declared.instruction.StoreOp.{StoreOp}
use Rattle.rv32_table.specs.declared.instruction.StoreOp.TheVariants.{Sb, Sh, Sw}
use Rattle.rv32_table.specs.declared.instruction.ImmOp.{ImmOp}
use Rattle.rv32_table.specs.declared.instruction.ImmOp.TheVariants.{Addi, Slti, Sltiu, Xori, Ori, Andi, Slli, Srli}
use Rattle.rv32_table.specs.declared.instruction.ImmOp.TheVariants.{Srai}
use Rattle.rv32_table.specs.declared.instruction.RegOp.{RegOp}
use Rattle.rv32_table.specs.declared.instruction.RegOp.TheVariants.{Add, Sub, Sll, Slt, Sltu, Xor, Srl, Sra, Or, And}
use Rattle.rv32_table.specs.declared.instruction.RegOp.TheVariants.{Mul, Mulh, Mulhsu, Mulhu, Div, Divu, Rem, Remu}
use Rattle.rv32_table.specs.declared.instruction.Instr.{Instr}
use Rattle.rv32_table.specs.declared.instruction.Instr.TheVariants.{Lui, Auipc, Jal, Jalr, Branch, Load, Store, OpImm}
use Rattle.rv32_table.specs.declared.instruction.Instr.TheVariants.{Op, Fence, FenceI, Ecall, Ebreak}

-- the signed reading of a value: that in two's complement
abbrev pub signed_of : ℕ → ℤ
signed_of value = signed 32 value

-- the low word of a whole number: the number modulo 2^32
abbrev pub low_word : ℤ → ℕ
low_word number = unsigned_abs (int_rem_euclid number (pos (2 ^ 32)))

-- the high word of a whole number: the low word of its quotient by 2^32, rounded down
abbrev pub high_word : ℤ → ℕ
high_word number = low_word (int_div_euclid number (pos (2 ^ 32)))

-- a comparison's answer
abbrev pub one_if : Bool → ℕ
one_if test = if test then 1 else 0

-- a shift amount is the low five bits
abbrev pub amount_of : ℕ → ℕ
amount_of value = value % 2 ^ 5

-- what a quotient by zero is: all bits set (M, Division Operations)
abbrev pub all_ones : ℕ
all_ones = 2 ^ 32 - 1

-- What an operation answers for the values x of rs1 and y of rs2. Sums, differences and products wrap. (RV32I, Integer
-- Register-Register Operations)
abbrev pub sum_of : ℕ → ℕ → ℕ
sum_of x y = (x + y) % 2 ^ 32

abbrev pub difference_of : ℕ → ℕ → ℕ
difference_of x y = low_word (pos x -ℤ pos y)

-- whether x is less, both signed
abbrev pub is_less_signed : ℕ → ℕ → Bool
is_less_signed x y = int_lt (signed_of x) (signed_of y)

-- whether x is less, both unsigned
abbrev pub is_less_unsigned : ℕ → ℕ → Bool
is_less_unsigned x y = nat_lt x y

abbrev pub one_if_less_signed : ℕ → ℕ → ℕ
one_if_less_signed x y = one_if (is_less_signed x y)

abbrev pub one_if_less_unsigned : ℕ → ℕ → ℕ
one_if_less_unsigned x y = one_if (is_less_unsigned x y)

abbrev pub shifted_left : ℕ → ℕ → ℕ
shifted_left x y = x * 2 ^ amount_of y % 2 ^ 32

-- A shift to the right rounds down, the arithmetic one by the signed reading.
abbrev pub shifted_right : ℕ → ℕ → ℕ
shifted_right x y = x / 2 ^ amount_of y

abbrev pub shifted_right_signed : ℕ → ℕ → ℕ
shifted_right_signed x y = low_word (int_div_euclid (signed_of x) (pos (2 ^ amount_of y)))

-- the low word of a product, and the high word by each reading of both (M, Multiplication Operations)
abbrev pub low_product : ℕ → ℕ → ℕ
low_product x y = x * y % 2 ^ 32

abbrev pub high_product_signed : ℕ → ℕ → ℕ
high_product_signed x y = high_word (signed_of x *ℤ signed_of y)

-- x is signed, and y is unsigned
abbrev pub high_product_mixed : ℕ → ℕ → ℕ
high_product_mixed x y = high_word (signed_of x *ℤ pos y)

abbrev pub high_product_unsigned : ℕ → ℕ → ℕ
high_product_unsigned x y = high_word (pos x *ℤ pos y)

-- A quotient rounds toward zero, and a remainder has the sign of the dividend; by zero, the quotient has all bits set
-- and the remainder is the dividend. The only quotient out of range, that of -2^31 by -1, is 2^31 and wraps to -2^31.
-- (M, Division Operations)
abbrev pub quotient_signed : ℕ → ℕ → ℕ
quotient_signed x y = if y == 0 then all_ones else low_word (int_div (signed_of x) (signed_of y))

abbrev pub quotient_unsigned : ℕ → ℕ → ℕ
quotient_unsigned x y = if y == 0 then all_ones else x / y

abbrev pub remainder_signed : ℕ → ℕ → ℕ
remainder_signed x y = if y == 0 then x else low_word (int_rem (signed_of x) (signed_of y))

abbrev pub remainder_unsigned : ℕ → ℕ → ℕ
remainder_unsigned x y = if y == 0 then x else x % y

-- what each operation on two registers answers
unfoldable pub register_meaning : RegOp → ℕ → ℕ → ℕ
register_meaning Add x y = sum_of x y
register_meaning Sub x y = difference_of x y
register_meaning Sll x y = shifted_left x y
register_meaning Slt x y = one_if_less_signed x y
register_meaning Sltu x y = one_if_less_unsigned x y
register_meaning Xor x y = bit_xor x y
register_meaning Srl x y = shifted_right x y
register_meaning Sra x y = shifted_right_signed x y
register_meaning Or x y = bit_or x y
register_meaning And x y = bit_and x y
register_meaning Mul x y = low_product x y
register_meaning Mulh x y = high_product_signed x y
register_meaning Mulhsu x y = high_product_mixed x y
register_meaning Mulhu x y = high_product_unsigned x y
register_meaning Div x y = quotient_signed x y
register_meaning Divu x y = quotient_unsigned x y
register_meaning Rem x y = remainder_signed x y
register_meaning Remu x y = remainder_unsigned x y

-- the operation on registers that an operation with an immediate is
abbrev pub register_form : ImmOp → RegOp
register_form Addi = Add
register_form Slti = Slt
register_form Sltiu = Sltu
register_form Xori = Xor
register_form Ori = Or
register_form Andi = And
register_form Slli = Sll
register_form Srli = Srl
register_form Srai = Sra

-- An operation with an immediate is that on the value of rs1 and the sign-extended immediate, which SLTIU reads as an
-- unsigned number. (RV32I, Integer Register-Immediate Instructions)
abbrev pub immediate_meaning : ImmOp → ℕ → ℤ → ℕ
immediate_meaning op x imm = register_meaning (register_form op) x (low_word imm)

-- whether both are equal
abbrev pub is_equal : ℕ → ℕ → Bool
is_equal x y = x == y

abbrev pub is_unequal : ℕ → ℕ → Bool
is_unequal x y = not (is_equal x y)

abbrev pub is_not_less_signed : ℕ → ℕ → Bool
is_not_less_signed x y = not (is_less_signed x y)

abbrev pub is_not_less_unsigned : ℕ → ℕ → Bool
is_not_less_unsigned x y = nat_le y x

-- whether a branch is taken, for the values of rs1 and rs2 (RV32I, Conditional Branches)
unfoldable pub branch_meaning : BranchOp → ℕ → ℕ → Bool
branch_meaning Beq x y = is_equal x y
branch_meaning Bne x y = is_unequal x y
branch_meaning Blt x y = is_less_signed x y
branch_meaning Bge x y = is_not_less_signed x y
branch_meaning Bltu x y = is_less_unsigned x y
branch_meaning Bgeu x y = is_not_less_unsigned x y

-- where a jump or a taken branch leads that is relative to pc (RV32I, Control Transfer Instructions)
abbrev pub target_of : ℕ → ℤ → ℕ
target_of pc offset = low_word (pos pc +ℤ offset)

-- where JALR leads, for the value of rs1: the sum with its lowest bit cleared (RV32I, Unconditional Jumps)
abbrev pub jump_target : ℕ → ℤ → ℕ
jump_target x imm = target_of x imm / 2 * 2

-- what AUIPC puts into rd (RV32I, Integer Register-Immediate Instructions)
abbrev pub auipc_value : ℕ → ℕ → ℕ
auipc_value pc imm = (pc + imm) % 2 ^ 32

-- the address of a load or a store, for the value of rs1 (RV32I, Load and Store Instructions)
abbrev pub address_of : ℕ → ℤ → ℕ
address_of x imm = target_of x imm

-- how many bytes a load has
abbrev pub load_width : LoadOp → ℕ
load_width Lb = 1
load_width Lh = 2
load_width Lw = 4
load_width Lbu = 1
load_width Lhu = 2

-- the word of a byte with its sign extended
abbrev pub extended_byte : ℕ → ℕ
extended_byte loaded = low_word (signed 8 loaded)

-- the word of two bytes with their sign extended
abbrev pub extended_half : ℕ → ℕ
extended_half loaded = low_word (signed 16 loaded)

-- zeros extended, or all four bytes
abbrev pub as_it_is : ℕ → ℕ
as_it_is loaded = loaded

-- what a load puts into rd, for the number that its bytes are
unfoldable pub load_meaning : LoadOp → ℕ → ℕ
load_meaning Lb loaded = extended_byte loaded
load_meaning Lh loaded = extended_half loaded
load_meaning Lw loaded = as_it_is loaded
load_meaning Lbu loaded = as_it_is loaded
load_meaning Lhu loaded = as_it_is loaded

-- how many bytes a store has; they are the low bytes of the value of rs2
abbrev pub store_width : StoreOp → ℕ
store_width Sb = 1
store_width Sh = 2
store_width Sw = 4

-- what LUI puts into rd (RV32I, Integer Register-Immediate Instructions)
abbrev pub upper_value : ℕ → ℕ → ℕ
upper_value pc imm = imm

-- where JAL leads, for the pc and the value of rs1, which it doesn't read
abbrev pub from_pc : ℕ → ℕ → ℤ → ℕ
from_pc pc x offset = target_of pc offset

-- where JALR leads, for the pc, which it doesn't read, and the value of rs1
abbrev pub from_register : ℕ → ℕ → ℤ → ℕ
from_register pc x imm = jump_target x imm

-- What an instruction does, for the values x of rs1 and y of rs2, its immediate and the program counter. The next
-- instruction follows, but for jumps and taken branches.
pub data Meaning : Type 0 where
  -- rd gets a value of the pc and of the immediate, whose low twelve bits are zero
  SetsUpper : (ℕ → ℕ → ℕ) → Meaning
  -- rd gets a value of x and y
  SetsFromBoth : (ℕ → ℕ → ℕ) → Meaning
  -- rd gets a value of x and of the word that the sign-extended immediate is
  SetsFromImmediate : (ℕ → ℕ → ℕ) → Meaning
  -- rd gets the address after the instruction, and the program goes on at a target of the pc, x and the immediate
  Links : (ℕ → ℕ → ℤ → ℕ) → Meaning
  -- where the test of x and y is true, the program goes on at pc plus the offset
  Branches : (ℕ → ℕ → Bool) → Meaning
  -- rd gets what is made of the number that so many bytes are at x plus the immediate, the least first
  Loads : ℕ → (ℕ → ℕ) → Meaning
  -- so many low bytes of y are stored at x plus the immediate, the least first
  Stores : ℕ → Meaning
  -- nothing: one hart's accesses and fetches are in order
  Passes : Meaning
  -- the host is called
  CallsHost : Meaning
  -- a trap to the debugger
  BreaksOff : Meaning

-- the meaning of an instruction by its name
abbrev pub meaning_of : Instr → Meaning
meaning_of (Lui rd imm) = SetsUpper upper_value
meaning_of (Auipc rd imm) = SetsUpper auipc_value
meaning_of (Jal rd offset) = Links from_pc
meaning_of (Jalr rd rs1 imm) = Links from_register
meaning_of (Branch op rs1 rs2 offset) = Branches (branch_meaning op)
meaning_of (Load op rd rs1 imm) = Loads (load_width op) (load_meaning op)
meaning_of (Store op rs1 rs2 imm) = Stores (store_width op)
meaning_of (OpImm op rd rs1 imm) = SetsFromImmediate (register_meaning (register_form op))
meaning_of (Op op rd rs1 rs2) = SetsFromBoth (register_meaning op)
meaning_of (Fence rest) = Passes
meaning_of (FenceI rest) = Passes
meaning_of Ecall = CallsHost
meaning_of Ebreak = BreaksOff
