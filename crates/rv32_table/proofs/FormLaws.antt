-- Each form both ways: a word is that of its fields and its immediate, and the word of fields and an immediate has
-- them.
use Rattle.std.proofs.Common.{◌≡◌, ℕ, ◌+◌, ◌*◌, ◌/◌, ◌%◌, ◌^◌, ◌<◌, ◌∙◌, ap, arith}
use Rattle.std.specs.Prelude.{ℤ, pos, negsuc, int_rem}
use Rattle.std.specs.Int.{w32, cast_unsigned}
use Rattle.std.proofs.lemmas.Int.{ints}
use Rattle.rv32_table.specs.Fields.{bits, signed, opcode_of, rd_of, funct3_of, rs1_of, rs2_of, funct7_of, immediate_i}
use Rattle.rv32_table.specs.Fields.{immediate_s, immediate_b, immediate_u, immediate_j, rest_of}
use Rattle.rv32_table.specs.Fits.{IsSigned, IsOffset, IsAmount, IsUpper, IsRest}
use Rattle.rv32_table.specs.Encoded.{part, word_of, word_i, word_s, word_b, word_u, word_j}
use Rattle.rv32_table.proofs.WordLaws.{HasFields, word_of-fields, fields-word_of}
use Rattle.rv32_table.proofs.Immediates.{cast-signed_12, cast-signed_13, cast-signed_21, IsSigned-signed_12}
use Rattle.rv32_table.proofs.Immediates.{IsSigned-signed_13, IsSigned-signed_21, signed-cast_12, signed-cast_13}
use Rattle.rv32_table.proofs.Immediates.{signed-cast_21}

-- the halves of twelve bits
low_of_12 : (u v : ℕ) → u % 2 ^ 12 ≡ v → u / 2 ^ 0 % 2 ^ 5 ≡ v % 2 ^ 5
low_of_12 u v e = omega arith

high_of_12 : (u v : ℕ) → u % 2 ^ 12 ≡ v → u / 2 ^ 5 % 2 ^ 7 ≡ v / 2 ^ 5
high_of_12 u v e = omega arith

both_of_12 : (u : ℕ) → u / 2 ^ 5 % 2 ^ 7 * 2 ^ 5 + u / 2 ^ 0 % 2 ^ 5 ≡ u % 2 ^ 12
both_of_12 u = omega arith

-- ---- Form I
twelve_is : (w : ℕ) → bits w 20 12 ≡ funct7_of w * 2 ^ 5 + rs2_of w
twelve_is w = omega arith

pub back_i : (w : ℕ) → w < 2 ^ 32 → word_i (opcode_of w) (rd_of w) (funct3_of w) (rs1_of w) (immediate_i w) ≡ w
back_i w fits =
    let bound : bits w 20 12 < 4096 = omega arith in
    let cast : cast_unsigned w32 (immediate_i w) % 2 ^ 12 ≡ bits w 20 12 = cast-signed_12 (bits w 20 12) bound in
    let low : part (immediate_i w) 0 5 ≡ rs2_of w =
    low_of_12 (cast_unsigned w32 (immediate_i w)) (bits w 20 12) cast ∙ (omega arith) in
    let high : part (immediate_i w) 5 7 ≡ funct7_of w =
    high_of_12 (cast_unsigned w32 (immediate_i w)) (bits w 20 12) cast ∙ (omega arith) in
    ap (λ (a : ℕ). word_of (opcode_of w) (rd_of w) (funct3_of w) (rs1_of w) a (part (immediate_i w) 5 7)) low
    ∙ ap (λ (a : ℕ). word_of (opcode_of w) (rd_of w) (funct3_of w) (rs1_of w) (rs2_of w) a) high
    ∙ fields-word_of w fits

pub IsSigned-immediate_i : (w : ℕ) → IsSigned 12 (immediate_i w)
IsSigned-immediate_i w = IsSigned-signed_12 (bits w 20 12) (omega arith)

-- the word of fields and an immediate has them
pub record HasI (word opcode rd funct3 rs1 : ℕ) (imm : ℤ) : Type 0 where
  pub opcode_is : opcode_of word ≡ opcode
  pub rd_is : rd_of word ≡ rd
  pub funct3_is : funct3_of word ≡ funct3
  pub rs1_is : rs1_of word ≡ rs1
  pub imm_is : immediate_i word ≡ imm
  pub word_below : word < 2 ^ 32

pub forth_i : (opcode rd funct3 rs1 : ℕ) (imm : ℤ) → opcode < 2 ^ 7 → rd < 2 ^ 5 → funct3 < 2 ^ 3 → rs1 < 2 ^ 5
    → IsSigned 12 imm → HasI (word_i opcode rd funct3 rs1 imm) opcode rd funct3 rs1 imm
forth_i opcode rd funct3 rs1 imm a b c d range =
    let u : ℕ = cast_unsigned w32 imm in
    let w : ℕ = word_i opcode rd funct3 rs1 imm in
    let has : HasFields w opcode rd funct3 rs1 (part imm 0 5) (part imm 5 7) =
    word_of-fields opcode rd funct3 rs1 (part imm 0 5) (part imm 5 7)
    (record {
      opcode_below = a;
      rd_below = b;
      funct3_below = c;
      rs1_below = d;
      rs2_below = omega arith;
      funct7_below = omega arith;
    }) in
    let whole : bits w 20 12 ≡ u % 2 ^ 12 =
    twelve_is w ∙ ap (λ (x : ℕ). x * 2 ^ 5 + rs2_of w) has.funct7_is
    ∙ ap (λ (x : ℕ). part imm 5 7 * 2 ^ 5 + x) has.rs2_is ∙ both_of_12 u in
    record {
      opcode_is = has.opcode_is;
      rd_is = has.rd_is;
      funct3_is = has.funct3_is;
      rs1_is = has.rs1_is;
      imm_is = ap (signed 12) whole ∙ signed-cast_12 imm range;
      word_below = has.word_below;
    }

-- ---- Form I with a shift amount
pub back_shift : (w : ℕ) → w < 2 ^ 32
    → word_of (opcode_of w) (rd_of w) (funct3_of w) (rs1_of w) (part (pos (rs2_of w)) 0 5) (funct7_of w) ≡ w
back_shift w fits =
    let low : part (pos (rs2_of w)) 0 5 ≡ rs2_of w = omega arith in
    ap (λ (a : ℕ). word_of (opcode_of w) (rd_of w) (funct3_of w) (rs1_of w) a (funct7_of w)) low
    ∙ fields-word_of w fits

pub IsAmount-rs2 : (w : ℕ) → IsAmount (pos (rs2_of w))
IsAmount-rs2 w = record { low = omega (arith, ints); high = omega (arith, ints) }

-- a shift amount is its low five bits
pub part-amount : (amount : ℤ) → IsAmount amount → pos (part amount 0 5) ≡ amount
part-amount amount range = part-amount_by_cases amount range
  where
    part-amount_by_cases : (amount : ℤ) → IsAmount amount → pos (part amount 0 5) ≡ amount
    part-amount_by_cases (pos n) range =
        let below : n < 32 = omega (arith, ints, range.high) in
        let same : n / 2 ^ 0 % 2 ^ 5 ≡ n = omega arith in
        ap pos same
    part-amount_by_cases (negsuc n) range = absurd (omega (arith, ints, range.low))

-- ---- Form S
pub back_s : (w : ℕ) → w < 2 ^ 32 → word_s (opcode_of w) (funct3_of w) (rs1_of w) (rs2_of w) (immediate_s w) ≡ w
back_s w fits =
    let v : ℕ = bits w 25 7 * 2 ^ 5 + bits w 7 5 in
    let bound : bits w 25 7 * 2 ^ 5 + bits w 7 5 < 4096 = omega arith in
    let cast : cast_unsigned w32 (immediate_s w) % 2 ^ 12 ≡ bits w 25 7 * 2 ^ 5 + bits w 7 5 = cast-signed_12 v bound in
    let low : part (immediate_s w) 0 5 ≡ rd_of w =
    low_of_12 (cast_unsigned w32 (immediate_s w)) (bits w 25 7 * 2 ^ 5 + bits w 7 5) cast ∙ (omega arith) in
    let high : part (immediate_s w) 5 7 ≡ funct7_of w =
    high_of_12 (cast_unsigned w32 (immediate_s w)) (bits w 25 7 * 2 ^ 5 + bits w 7 5) cast ∙ (omega arith) in
    ap (λ (a : ℕ). word_of (opcode_of w) a (funct3_of w) (rs1_of w) (rs2_of w) (part (immediate_s w) 5 7)) low
    ∙ ap (λ (a : ℕ). word_of (opcode_of w) (rd_of w) (funct3_of w) (rs1_of w) (rs2_of w) a) high
    ∙ fields-word_of w fits

pub IsSigned-immediate_s : (w : ℕ) → IsSigned 12 (immediate_s w)
IsSigned-immediate_s w = IsSigned-signed_12 (bits w 25 7 * 2 ^ 5 + bits w 7 5) (omega arith)

pub record HasS (word opcode funct3 rs1 rs2 : ℕ) (imm : ℤ) : Type 0 where
  pub opcode_is : opcode_of word ≡ opcode
  pub funct3_is : funct3_of word ≡ funct3
  pub rs1_is : rs1_of word ≡ rs1
  pub rs2_is : rs2_of word ≡ rs2
  pub imm_is : immediate_s word ≡ imm
  pub word_below : word < 2 ^ 32

pub forth_s : (opcode funct3 rs1 rs2 : ℕ) (imm : ℤ) → opcode < 2 ^ 7 → funct3 < 2 ^ 3 → rs1 < 2 ^ 5 → rs2 < 2 ^ 5
    → IsSigned 12 imm → HasS (word_s opcode funct3 rs1 rs2 imm) opcode funct3 rs1 rs2 imm
forth_s opcode funct3 rs1 rs2 imm a b c d range =
    let u : ℕ = cast_unsigned w32 imm in
    let w : ℕ = word_s opcode funct3 rs1 rs2 imm in
    let has : HasFields w opcode (part imm 0 5) funct3 rs1 rs2 (part imm 5 7) =
    word_of-fields opcode (part imm 0 5) funct3 rs1 rs2 (part imm 5 7)
    (record {
      opcode_below = a;
      rd_below = omega arith;
      funct3_below = b;
      rs1_below = c;
      rs2_below = d;
      funct7_below = omega arith;
    }) in
    let whole : bits w 25 7 * 2 ^ 5 + bits w 7 5 ≡ u % 2 ^ 12 =
    ap (λ (x : ℕ). x * 2 ^ 5 + rd_of w) has.funct7_is
    ∙ ap (λ (x : ℕ). part imm 5 7 * 2 ^ 5 + x) has.rd_is ∙ both_of_12 u in
    record {
      opcode_is = has.opcode_is;
      funct3_is = has.funct3_is;
      rs1_is = has.rs1_is;
      rs2_is = has.rs2_is;
      imm_is = ap (signed 12) whole ∙ signed-cast_12 imm range;
      word_below = has.word_below;
    }

-- ---- Form B
-- thirteen bits, of which the lowest is zero, by the parts that stand together
abbrev thirteen : ℕ → ℕ → ℕ → ℕ → ℕ
thirteen top next middle low = top * 2 ^ 12 + next * 2 ^ 11 + middle * 2 ^ 5 + low * 2

record IsThirteen (u top next middle low : ℕ) : Type 0 where
  top_below : top < 2
  next_below : next < 2
  middle_below : middle < 2 ^ 6
  low_below : low < 2 ^ 4
  whole : u % 2 ^ 13 ≡ thirteen top next middle low

low_of_13 : (u top next middle low : ℕ) → IsThirteen u top next middle low → u / 2 ^ 1 % 2 ^ 4 ≡ low
low_of_13 u top next middle low h = omega arith

next_of_13 : (u top next middle low : ℕ) → IsThirteen u top next middle low → u / 2 ^ 11 % 2 ^ 1 ≡ next
next_of_13 u top next middle low h = omega arith

top_of_13 : (u top next middle low : ℕ) → IsThirteen u top next middle low → u / 2 ^ 12 % 2 ^ 1 ≡ top
top_of_13 u top next middle low h = omega arith

middle_of_13 : (u top next middle low : ℕ) → IsThirteen u top next middle low → u / 2 ^ 5 % 2 ^ 6 ≡ middle
middle_of_13 u top next middle low h = omega arith

all_of_13 : (u : ℕ) → u % 2 ≡ 0
    → thirteen (u / 2 ^ 12 % 2 ^ 1) (u / 2 ^ 11 % 2 ^ 1) (u / 2 ^ 5 % 2 ^ 6) (u / 2 ^ 1 % 2 ^ 4) ≡ u % 2 ^ 13
all_of_13 u even = omega arith

is_thirteen : (w : ℕ)
    → IsThirteen (cast_unsigned w32 (immediate_b w)) (bits w 31 1) (bits w 7 1) (bits w 25 6) (bits w 8 4)
is_thirteen w = record {
  top_below = omega arith;
  next_below = omega arith;
  middle_below = omega arith;
  low_below = omega arith;
  whole = cast-signed_13 (thirteen (bits w 31 1) (bits w 7 1) (bits w 25 6) (bits w 8 4)) (omega arith);
}

low_field : (w : ℕ) → bits w 8 4 * 2 + bits w 7 1 ≡ rd_of w
low_field w = omega arith

high_field : (w : ℕ) → bits w 31 1 * 2 ^ 6 + bits w 25 6 ≡ funct7_of w
high_field w = omega arith

pub back_b : (w : ℕ) → w < 2 ^ 32 → word_b (opcode_of w) (funct3_of w) (rs1_of w) (rs2_of w) (immediate_b w) ≡ w
back_b w fits =
    let z : ℤ = immediate_b w in
    let u : ℕ = cast_unsigned w32 (immediate_b w) in
    let low : part (immediate_b w) 1 4 * 2 + part (immediate_b w) 11 1 ≡ rd_of w =
    ap (λ (x : ℕ). x * 2 + part (immediate_b w) 11 1) (low_of_13 _ _ _ _ _ (is_thirteen w))
    ∙ ap (λ (x : ℕ). bits w 8 4 * 2 + x) (next_of_13 _ _ _ _ _ (is_thirteen w)) ∙ low_field w in
    let high : part (immediate_b w) 12 1 * 2 ^ 6 + part (immediate_b w) 5 6 ≡ funct7_of w =
    ap (λ (x : ℕ). x * 2 ^ 6 + part (immediate_b w) 5 6) (top_of_13 _ _ _ _ _ (is_thirteen w))
    ∙ ap (λ (x : ℕ). bits w 31 1 * 2 ^ 6 + x) (middle_of_13 _ _ _ _ _ (is_thirteen w)) ∙ high_field w in
    ap (λ (a : ℕ). word_of (opcode_of w) a (funct3_of w) (rs1_of w) (rs2_of w)
    (part (immediate_b w) 12 1 * 2 ^ 6 + part (immediate_b w) 5 6)) low
    ∙ ap (λ (a : ℕ). word_of (opcode_of w) (rd_of w) (funct3_of w) (rs1_of w) (rs2_of w) a) high
    ∙ fields-word_of w fits

-- an even number is even as 32 bits, and the other way
even_bits : (z : ℤ) → int_rem z (pos 2) ≡ pos 0 → IsSigned 21 z → cast_unsigned w32 z % 2 ≡ 0
even_bits (pos n) even range = omega (arith, ints, even)
even_bits (negsuc n) even range =
    let below : n < 1048576 = omega (arith, ints, range.low) in
    omega (arith, ints, even)

-- bits in two's complement that are even are an even number
even_number : (z : ℤ) → cast_unsigned w32 z % 2 ≡ 0 → IsSigned 21 z → int_rem z (pos 2) ≡ pos 0
even_number (pos n) even range = omega (arith, ints, even)
even_number (negsuc n) even range =
    let below : n < 1048576 = omega (arith, ints, range.low) in
    omega (arith, ints, even)

wider : (z : ℤ) → IsSigned 13 z → IsSigned 21 z
wider z range = record { low = omega (arith, ints, range.low); high = omega (arith, ints, range.high) }

even_of_13 : (u top next middle low : ℕ) → IsThirteen u top next middle low → u % 2 ≡ 0
even_of_13 u top next middle low h = omega arith

pub IsOffset-immediate_b : (w : ℕ) → IsOffset 13 (immediate_b w)
IsOffset-immediate_b w =
    let range : IsSigned 13 (immediate_b w) =
    IsSigned-signed_13 (thirteen (bits w 31 1) (bits w 7 1) (bits w 25 6) (bits w 8 4)) (omega arith) in
    record {
      range = range;
      even = even_number (immediate_b w) (even_of_13 _ _ _ _ _ (is_thirteen w)) (wider (immediate_b w) range);
    }

pub record HasB (word opcode funct3 rs1 rs2 : ℕ) (offset : ℤ) : Type 0 where
  pub opcode_is : opcode_of word ≡ opcode
  pub funct3_is : funct3_of word ≡ funct3
  pub rs1_is : rs1_of word ≡ rs1
  pub rs2_is : rs2_of word ≡ rs2
  pub offset_is : immediate_b word ≡ offset
  pub word_below : word < 2 ^ 32

-- the parts of both fields that the offset is in
bits_of_both : (w top next middle low : ℕ) → next < 2 → middle < 2 ^ 6 → rd_of w ≡ low * 2 + next
    → funct7_of w ≡ top * 2 ^ 6 + middle
    → thirteen (bits w 31 1) (bits w 7 1) (bits w 25 6) (bits w 8 4) ≡ thirteen top next middle low
bits_of_both w top next middle low a b rd funct7 =
    let first : bits w 7 1 ≡ next = omega arith in
    let second : bits w 8 4 ≡ low = omega arith in
    let third : bits w 25 6 ≡ middle = omega arith in
    let fourth : bits w 31 1 ≡ top = omega arith in
    cc

pub forth_b : (opcode funct3 rs1 rs2 : ℕ) (offset : ℤ) → opcode < 2 ^ 7 → funct3 < 2 ^ 3 → rs1 < 2 ^ 5 → rs2 < 2 ^ 5
    → IsOffset 13 offset → HasB (word_b opcode funct3 rs1 rs2 offset) opcode funct3 rs1 rs2 offset
forth_b opcode funct3 rs1 rs2 offset a b c d fits =
    let u : ℕ = cast_unsigned w32 offset in
    let w : ℕ = word_b opcode funct3 rs1 rs2 offset in
    let low : ℕ = part offset 1 4 * 2 + part offset 11 1 in
    let high : ℕ = part offset 12 1 * 2 ^ 6 + part offset 5 6 in
    let has : HasFields w opcode low funct3 rs1 rs2 high =
    word_of-fields opcode low funct3 rs1 rs2 high
    (record {
      opcode_below = a;
      rd_below = omega arith;
      funct3_below = b;
      rs1_below = c;
      rs2_below = d;
      funct7_below = omega arith;
    }) in
    let even : u % 2 ≡ 0 = even_bits offset fits.even (wider offset fits.range) in
    let whole : thirteen (bits w 31 1) (bits w 7 1) (bits w 25 6) (bits w 8 4) ≡ u % 2 ^ 13 =
    bits_of_both w (part offset 12 1) (part offset 11 1) (part offset 5 6) (part offset 1 4)
    (omega arith) (omega arith) has.rd_is has.funct7_is ∙ all_of_13 u even in
    record {
      opcode_is = has.opcode_is;
      funct3_is = has.funct3_is;
      rs1_is = has.rs1_is;
      rs2_is = has.rs2_is;
      offset_is = ap (signed 13) whole ∙ signed-cast_13 offset fits.range;
      word_below = has.word_below;
    }

-- ---- Form J
-- 21 bits, of which the lowest is zero, by the parts that stand together
abbrev twenty_one : ℕ → ℕ → ℕ → ℕ → ℕ
twenty_one top middle next low = top * 2 ^ 20 + middle * 2 ^ 12 + next * 2 ^ 11 + low * 2

record IsTwentyOne (u top middle next low : ℕ) : Type 0 where
  top_below : top < 2
  middle_below : middle < 2 ^ 8
  next_below : next < 2
  low_below : low < 2 ^ 10
  whole : u % 2 ^ 21 ≡ twenty_one top middle next low

low_of_21 : (u top middle next low : ℕ) → IsTwentyOne u top middle next low → u / 2 ^ 1 % 2 ^ 10 ≡ low
low_of_21 u top middle next low h = omega arith

next_of_21 : (u top middle next low : ℕ) → IsTwentyOne u top middle next low → u / 2 ^ 11 % 2 ^ 1 ≡ next
next_of_21 u top middle next low h = omega arith

middle_of_21 : (u top middle next low : ℕ) → IsTwentyOne u top middle next low → u / 2 ^ 12 % 2 ^ 8 ≡ middle
middle_of_21 u top middle next low h = omega arith

top_of_21 : (u top middle next low : ℕ) → IsTwentyOne u top middle next low → u / 2 ^ 20 % 2 ^ 1 ≡ top
top_of_21 u top middle next low h = omega arith

even_of_21 : (u top middle next low : ℕ) → IsTwentyOne u top middle next low → u % 2 ≡ 0
even_of_21 u top middle next low h = omega arith

all_of_21 : (u : ℕ) → u % 2 ≡ 0
    → twenty_one (u / 2 ^ 20 % 2 ^ 1) (u / 2 ^ 12 % 2 ^ 8) (u / 2 ^ 11 % 2 ^ 1) (u / 2 ^ 1 % 2 ^ 10) ≡ u % 2 ^ 21
all_of_21 u even = omega arith

is_twenty_one : (w : ℕ)
    → IsTwentyOne (cast_unsigned w32 (immediate_j w)) (bits w 31 1) (bits w 12 8) (bits w 20 1) (bits w 21 10)
is_twenty_one w = record {
  top_below = omega arith;
  middle_below = omega arith;
  next_below = omega arith;
  low_below = omega arith;
  whole = cast-signed_21 (twenty_one (bits w 31 1) (bits w 12 8) (bits w 20 1) (bits w 21 10)) (omega arith);
}

whole_j : (w middle next low top : ℕ) → w < 2 ^ 32 → middle ≡ bits w 12 8 → next ≡ bits w 20 1 → low ≡ bits w 21 10
    → top ≡ bits w 31 1
    → opcode_of w + rd_of w * 2 ^ 7 + middle * 2 ^ 12 + next * 2 ^ 20 + low * 2 ^ 21 + top * 2 ^ 31 ≡ w
whole_j w middle next low top fits a b c d = omega arith

pub back_j : (w : ℕ) → w < 2 ^ 32 → word_j (opcode_of w) (rd_of w) (immediate_j w) ≡ w
back_j w fits =
    whole_j w (part (immediate_j w) 12 8) (part (immediate_j w) 11 1) (part (immediate_j w) 1 10)
    (part (immediate_j w) 20 1) fits
    (middle_of_21 _ _ _ _ _ (is_twenty_one w)) (next_of_21 _ _ _ _ _ (is_twenty_one w))
    (low_of_21 _ _ _ _ _ (is_twenty_one w)) (top_of_21 _ _ _ _ _ (is_twenty_one w))

pub IsOffset-immediate_j : (w : ℕ) → IsOffset 21 (immediate_j w)
IsOffset-immediate_j w =
    let range : IsSigned 21 (immediate_j w) =
    IsSigned-signed_21 (twenty_one (bits w 31 1) (bits w 12 8) (bits w 20 1) (bits w 21 10)) (omega arith) in
    record {
      range = range;
      even = even_number (immediate_j w) (even_of_21 _ _ _ _ _ (is_twenty_one w)) range;
    }

pub record HasJ (word opcode rd : ℕ) (offset : ℤ) : Type 0 where
  pub opcode_is : opcode_of word ≡ opcode
  pub rd_is : rd_of word ≡ rd
  pub offset_is : immediate_j word ≡ offset
  pub word_below : word < 2 ^ 32

record PartsJ (opcode rd middle next low top : ℕ) : Type 0 where
  opcode_below : opcode < 2 ^ 7
  rd_below : rd < 2 ^ 5
  middle_below : middle < 2 ^ 8
  next_below : next < 2
  low_below : low < 2 ^ 10
  top_below : top < 2

-- a word that is put together of these parts has them
record HasPartsJ (w opcode rd middle next low top : ℕ) : Type 0 where
  opcode_is : opcode_of w ≡ opcode
  rd_is : rd_of w ≡ rd
  middle_is : bits w 12 8 ≡ middle
  next_is : bits w 20 1 ≡ next
  low_is : bits w 21 10 ≡ low
  top_is : bits w 31 1 ≡ top
  word_below : w < 2 ^ 32

parts_j : (opcode rd middle next low top : ℕ) → PartsJ opcode rd middle next low top
    → HasPartsJ (opcode + rd * 2 ^ 7 + middle * 2 ^ 12 + next * 2 ^ 20 + low * 2 ^ 21
    + top * 2 ^ 31) opcode rd middle next low top
parts_j opcode rd middle next low top h = record {
  opcode_is = omega arith;
  rd_is = omega arith;
  middle_is = omega arith;
  next_is = omega arith;
  low_is = omega arith;
  top_is = omega arith;
  word_below = omega arith;
}

twenty_one_same : (w top middle next low : ℕ) → bits w 31 1 ≡ top → bits w 12 8 ≡ middle → bits w 20 1 ≡ next
    → bits w 21 10 ≡ low
    → twenty_one (bits w 31 1) (bits w 12 8) (bits w 20 1) (bits w 21 10) ≡ twenty_one top middle next low
twenty_one_same w top middle next low a b c d = cc

pub forth_j : (opcode rd : ℕ) (offset : ℤ) → opcode < 2 ^ 7 → rd < 2 ^ 5 → IsOffset 21 offset
    → HasJ (word_j opcode rd offset) opcode rd offset
forth_j opcode rd offset a b fits =
    let u : ℕ = cast_unsigned w32 offset in
    let w : ℕ = word_j opcode rd offset in
    let has : HasPartsJ w opcode rd (part offset 12 8) (part offset 11 1) (part offset 1 10) (part offset 20 1) =
    parts_j opcode rd (part offset 12 8) (part offset 11 1) (part offset 1 10) (part offset 20 1)
    (record {
      opcode_below = a;
      rd_below = b;
      middle_below = omega arith;
      next_below = omega arith;
      low_below = omega arith;
      top_below = omega arith;
    }) in
    let even : u % 2 ≡ 0 = even_bits offset fits.even fits.range in
    let whole : twenty_one (bits w 31 1) (bits w 12 8) (bits w 20 1) (bits w 21 10) ≡ u % 2 ^ 21 =
    twenty_one_same w (part offset 20 1) (part offset 12 8) (part offset 11 1) (part offset 1 10)
    has.top_is has.middle_is has.next_is has.low_is ∙ all_of_21 u even in
    record {
      opcode_is = has.opcode_is;
      rd_is = has.rd_is;
      offset_is = ap (signed 21) whole ∙ signed-cast_21 offset fits.range;
      word_below = has.word_below;
    }

-- ---- Form U
pub back_u : (w : ℕ) → w < 2 ^ 32 → word_u (opcode_of w) (rd_of w) (immediate_u w) ≡ w
back_u w fits = omega arith

pub IsUpper-immediate_u : (w : ℕ) → IsUpper (immediate_u w)
IsUpper-immediate_u w = record { range = omega arith; low = omega arith }

pub record HasU (word opcode rd imm : ℕ) : Type 0 where
  pub opcode_is : opcode_of word ≡ opcode
  pub rd_is : rd_of word ≡ rd
  pub imm_is : immediate_u word ≡ imm
  pub word_below : word < 2 ^ 32

pub forth_u : (opcode rd imm : ℕ) → opcode < 2 ^ 7 → rd < 2 ^ 5 → IsUpper imm
    → HasU (word_u opcode rd imm) opcode rd imm
forth_u opcode rd imm a b fits = record {
  opcode_is = omega arith;
  rd_is = omega arith;
  imm_is = omega arith;
  word_below = omega arith;
}

-- ---- fences
pub back_rest : (w : ℕ) → w < 2 ^ 32 → opcode_of w + funct3_of w * 2 ^ 12 + rest_of w ≡ w
back_rest w fits = omega arith

pub IsRest-rest_of : (w : ℕ) → IsRest (rest_of w)
IsRest-rest_of w = record { range = omega arith; opcode = omega arith; funct3 = omega arith }

pub record HasRest (word opcode funct3 rest : ℕ) : Type 0 where
  pub opcode_is : opcode_of word ≡ opcode
  pub funct3_is : funct3_of word ≡ funct3
  pub rest_is : rest_of word ≡ rest
  pub word_below : word < 2 ^ 32

pub forth_rest : (opcode funct3 rest : ℕ) → opcode < 2 ^ 7 → funct3 < 2 ^ 3 → IsRest rest
    → HasRest (opcode + funct3 * 2 ^ 12 + rest) opcode funct3 rest
forth_rest opcode funct3 rest a b fits = record {
  opcode_is = omega arith;
  funct3_is = omega arith;
  rest_is = omega arith;
  word_below = omega arith;
}
