-- A word of fields has these fields, and a word is that of its fields.
use Rattle.std.proofs.Common.{◌≡◌, ℕ, ◌^◌, ◌<◌, arith}
use Rattle.rv32_table.specs.Fields.{opcode_of, rd_of, funct3_of, rs1_of, rs2_of, funct7_of}
use Rattle.rv32_table.specs.Encoded.{word_of}

-- numbers that are fields
pub record AreFields (opcode rd funct3 rs1 rs2 funct7 : ℕ) : Type 0 where
  pub opcode_below : opcode < 2 ^ 7
  pub rd_below : rd < 2 ^ 5
  pub funct3_below : funct3 < 2 ^ 3
  pub rs1_below : rs1 < 2 ^ 5
  pub rs2_below : rs2 < 2 ^ 5
  pub funct7_below : funct7 < 2 ^ 7

-- the fields of a word
pub record HasFields (word opcode rd funct3 rs1 rs2 funct7 : ℕ) : Type 0 where
  pub opcode_is : opcode_of word ≡ opcode
  pub rd_is : rd_of word ≡ rd
  pub funct3_is : funct3_of word ≡ funct3
  pub rs1_is : rs1_of word ≡ rs1
  pub rs2_is : rs2_of word ≡ rs2
  pub funct7_is : funct7_of word ≡ funct7
  pub word_below : word < 2 ^ 32

pub word_of-fields : (opcode rd funct3 rs1 rs2 funct7 : ℕ) → AreFields opcode rd funct3 rs1 rs2 funct7
    → HasFields (word_of opcode rd funct3 rs1 rs2 funct7) opcode rd funct3 rs1 rs2 funct7
unfolding word_of
word_of-fields opcode rd funct3 rs1 rs2 funct7 fits = record {
  opcode_is = omega arith;
  rd_is = omega arith;
  funct3_is = omega arith;
  rs1_is = omega arith;
  rs2_is = omega arith;
  funct7_is = omega arith;
  word_below = omega arith;
}

pub fields-word_of : (word : ℕ) → word < 2 ^ 32
    → word_of (opcode_of word) (rd_of word) (funct3_of word) (rs1_of word) (rs2_of word) (funct7_of word) ≡ word
unfolding word_of
fields-word_of word fits = omega arith
