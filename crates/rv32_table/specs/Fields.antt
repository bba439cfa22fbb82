-- The fields and the immediates of a word. (RISC-V unprivileged manual, RV32I, Base Instruction Formats and Immediate
-- Encoding Variants)
use Rattle.std.specs.Prelude.{ℕ, ◌+◌, ◌-◌, ◌*◌, ◌/◌, ◌%◌, ◌^◌, nat_lt, ℤ, pos, ◌-ℤ◌, if◌then◌else◌}

-- so many bits of a word, from one on
abbrev pub bits : ℕ → ℕ → ℕ → ℕ
bits word low count = word / 2 ^ low % 2 ^ count

-- the whole number that so many bits are in two's complement
abbrev pub signed : ℕ → ℕ → ℤ
signed count value = if nat_lt value (2 ^ (count - 1)) then pos value else (pos value -ℤ pos (2 ^ count))

-- bits 6 to 0
abbrev pub opcode_of : ℕ → ℕ
opcode_of word = word % 2 ^ 7

-- bits 11 to 7
abbrev pub rd_of : ℕ → ℕ
rd_of word = bits word 7 5

-- bits 14 to 12
abbrev pub funct3_of : ℕ → ℕ
funct3_of word = bits word 12 3

-- bits 19 to 15
abbrev pub rs1_of : ℕ → ℕ
rs1_of word = bits word 15 5

-- bits 24 to 20, where the immediate shifts have their amount
abbrev pub rs2_of : ℕ → ℕ
rs2_of word = bits word 20 5

-- bits 31 to 25
abbrev pub funct7_of : ℕ → ℕ
funct7_of word = bits word 25 7

-- Form I: bits 31 to 20, sign-extended.
abbrev pub immediate_i : ℕ → ℤ
immediate_i word = signed 12 (bits word 20 12)

-- Form S: bits 31 to 25 and 11 to 7, sign-extended.
abbrev pub immediate_s : ℕ → ℤ
immediate_s word = signed 12 (bits word 25 7 * 2 ^ 5 + bits word 7 5)

-- Form B: bit 31, bit 7, bits 30 to 25, bits 11 to 8 and a zero bit, sign-extended.
abbrev pub immediate_b : ℕ → ℤ
immediate_b word =
    signed 13 (bits word 31 1 * 2 ^ 12 + bits word 7 1 * 2 ^ 11 + bits word 25 6 * 2 ^ 5 + bits word 8 4 * 2)

-- Form U: bits 31 to 12, with twelve zero bits below.
abbrev pub immediate_u : ℕ → ℕ
immediate_u word = bits word 12 20 * 2 ^ 12

-- Form J: bit 31, bits 19 to 12, bit 20, bits 30 to 21 and a zero bit, sign-extended.
abbrev pub immediate_j : ℕ → ℤ
immediate_j word =
    signed 21 (bits word 31 1 * 2 ^ 20 + bits word 12 8 * 2 ^ 12 + bits word 20 1 * 2 ^ 11 + bits word 21 10 * 2)

-- the word with its opcode and its funct3 cleared
abbrev pub rest_of : ℕ → ℕ
rest_of word = bits word 15 17 * 2 ^ 15 + bits word 7 5 * 2 ^ 7
