-- What a word has under a mask of the table, by its fields.
use Rattle.std.proofs.Common.{◌≡◌, ℕ, ◌+◌, ◌*◌, ◌/◌, ◌%◌, ◌^◌, ◌<◌, sym, ◌∙◌, ap, arith}
use Rattle.std.specs.Prelude.{bit_and}
use Rattle.std.proofs.lemmas.Nat.{and_mask, and_block, shr_split}
use Rattle.rv32_table.specs.Fields.{opcode_of, funct3_of, funct7_of}

-- a word under 0x7f is its opcode
pub and-opcode : (word : ℕ) → bit_and word 0x7f ≡ opcode_of word
and-opcode word = and_mask word 7

-- a word under 0x707f is its opcode and its funct3
pub and-funct3 : (word : ℕ) → bit_and word 0x707f ≡ funct3_of word * 2 ^ 12 + opcode_of word
and-funct3 word =
    let low : word % 2 ^ 12 < 2 ^ 12 = omega arith in
    let whole : word / 2 ^ 12 * 2 ^ 12 + word % 2 ^ 12 ≡ word = shr_split word 12 in
    let parts : bit_and (word / 2 ^ 12 * 2 ^ 12 + word % 2 ^ 12) (7 * 2 ^ 12 + 0x7f)
    ≡ bit_and (word / 2 ^ 12) 7 * 2 ^ 12 + bit_and (word % 2 ^ 12) 0x7f =
    and_block 12 (word / 2 ^ 12) 7 (word % 2 ^ 12) 0x7f low (omega arith) in
    let high : bit_and (word / 2 ^ 12) 7 ≡ word / 2 ^ 12 % 2 ^ 3 = and_mask (word / 2 ^ 12) 3 in
    let under : bit_and (word % 2 ^ 12) 0x7f ≡ word % 2 ^ 12 % 2 ^ 7 = and_mask (word % 2 ^ 12) 7 in
    let same : word % 2 ^ 12 % 2 ^ 7 ≡ word % 2 ^ 7 = omega arith in
    ap (λ (w : ℕ). bit_and w 0x707f) (sym whole) ∙ parts ∙ (cc)

-- a word under 0xfe00707f is its opcode, its funct3 and its funct7
pub and-funct7 : (word : ℕ) → word < 2 ^ 32
    → bit_and word 0xfe00_707f ≡ funct7_of word * 2 ^ 25 + (funct3_of word * 2 ^ 12 + opcode_of word)
and-funct7 word fits =
    let low : word % 2 ^ 25 < 2 ^ 25 = omega arith in
    let whole : word / 2 ^ 25 * 2 ^ 25 + word % 2 ^ 25 ≡ word = shr_split word 25 in
    let parts : bit_and (word / 2 ^ 25 * 2 ^ 25 + word % 2 ^ 25) (127 * 2 ^ 25 + 0x707f)
    ≡ bit_and (word / 2 ^ 25) 127 * 2 ^ 25 + bit_and (word % 2 ^ 25) 0x707f =
    and_block 25 (word / 2 ^ 25) 127 (word % 2 ^ 25) 0x707f low (omega arith) in
    let high : bit_and (word / 2 ^ 25) 127 ≡ word / 2 ^ 25 % 2 ^ 7 = and_mask (word / 2 ^ 25) 7 in
    let under : bit_and (word % 2 ^ 25) 0x707f ≡ funct3_of (word % 2 ^ 25) * 2 ^ 12
    + opcode_of (word % 2 ^ 25) = and-funct3 (word % 2 ^ 25) in
    let opcodes : word % 2 ^ 25 % 2 ^ 7 ≡ word % 2 ^ 7 = omega arith in
    let functs : word % 2 ^ 25 / 2 ^ 12 % 2 ^ 3 ≡ word / 2 ^ 12 % 2 ^ 3 = omega arith in
    ap (λ (w : ℕ). bit_and w 0xfe00_707f) (sym whole) ∙ parts ∙ (cc)

-- a word under 0xffffffff is itself
pub and-whole : (word : ℕ) → word < 2 ^ 32 → bit_and word 0xffff_ffff ≡ word
and-whole word fits =
    let masked : bit_and word 0xffff_ffff ≡ word % 2 ^ 32 = and_mask word 32 in
    let same : word % 2 ^ 32 ≡ word = omega arith in
    masked ∙ same
