-- What each row of the table is as a word again.
use Rattle.std.proofs.Common.{◌≡◌, ℕ, ◌+◌, ◌*◌, ◌<◌, ◌^◌, sym, ◌∙◌, ap, lit<, arith}
use Rattle.std.specs.Prelude.{pos}
use Rattle.rv32_table.specs.Fields.{opcode_of, rd_of, funct3_of, rs1_of, rs2_of, immediate_i, immediate_s, immediate_b}
use Rattle.rv32_table.specs.Fields.{immediate_u, immediate_j, rest_of}
use Rattle.rv32_table.specs.Fits.{Fits}
use Rattle.rv32_table.specs.Encoded.{encoded, part, word_of, word_i, word_s, word_b, word_u, word_j}
use Rattle.rv32_table.specs.Table.{table, Matches, instruction_of}
use Rattle.rv32_table.proofs.ListLaws.{◌▹◌, EachRow}
use Rattle.rv32_table.proofs.FieldLaws.{AtFunct3, AtFunct7, at_opcode, at_funct3, at_funct7, at_whole}
use Rattle.rv32_table.proofs.FormLaws.{back_i, back_shift, back_s, back_b, back_j, back_u, back_rest}
use Rattle.rv32_table.proofs.FormLaws.{IsSigned-immediate_i, IsAmount-rs2, IsSigned-immediate_s, IsOffset-immediate_b}
use Rattle.rv32_table.proofs.FormLaws.{IsOffset-immediate_j, IsUpper-immediate_u, IsRest-rest_of}
use Rattle.rv32_table.proofs.WordLaws.{fields-word_of}

whole_i : (w o n : ℕ) → w < 2 ^ 32 → AtFunct3 w o n → word_i o (rd_of w) n (rs1_of w) (immediate_i w) ≡ w
whole_i w o n fits h =
    ap (λ (x : ℕ). word_i x (rd_of w) n (rs1_of w) (immediate_i w)) (sym h.opcode_is)
    ∙ ap (λ (x : ℕ). word_i (opcode_of w) (rd_of w) x (rs1_of w) (immediate_i w)) (sym h.funct3_is) ∙ back_i w fits

whole_s : (w o n : ℕ) → w < 2 ^ 32 → AtFunct3 w o n → word_s o n (rs1_of w) (rs2_of w) (immediate_s w) ≡ w
whole_s w o n fits h =
    ap (λ (x : ℕ). word_s x n (rs1_of w) (rs2_of w) (immediate_s w)) (sym h.opcode_is)
    ∙ ap (λ (x : ℕ). word_s (opcode_of w) x (rs1_of w) (rs2_of w) (immediate_s w)) (sym h.funct3_is) ∙ back_s w fits

whole_b : (w o n : ℕ) → w < 2 ^ 32 → AtFunct3 w o n → word_b o n (rs1_of w) (rs2_of w) (immediate_b w) ≡ w
whole_b w o n fits h =
    ap (λ (x : ℕ). word_b x n (rs1_of w) (rs2_of w) (immediate_b w)) (sym h.opcode_is)
    ∙ ap (λ (x : ℕ). word_b (opcode_of w) x (rs1_of w) (rs2_of w) (immediate_b w)) (sym h.funct3_is) ∙ back_b w fits

whole_u : (w o : ℕ) → w < 2 ^ 32 → opcode_of w ≡ o → word_u o (rd_of w) (immediate_u w) ≡ w
whole_u w o fits e = ap (λ (x : ℕ). word_u x (rd_of w) (immediate_u w)) (sym e) ∙ back_u w fits

whole_j : (w o : ℕ) → w < 2 ^ 32 → opcode_of w ≡ o → word_j o (rd_of w) (immediate_j w) ≡ w
whole_j w o fits e = ap (λ (x : ℕ). word_j x (rd_of w) (immediate_j w)) (sym e) ∙ back_j w fits

whole_r : (w o n m : ℕ) → w < 2 ^ 32 → AtFunct7 w o n m → word_of o (rd_of w) n (rs1_of w) (rs2_of w) m ≡ w
whole_r w o n m fits h =
    ap (λ (x : ℕ). word_of x (rd_of w) n (rs1_of w) (rs2_of w) m) (sym h.opcode_is)
    ∙ ap (λ (x : ℕ). word_of (opcode_of w) (rd_of w) x (rs1_of w) (rs2_of w) m) (sym h.funct3_is)
    ∙ ap (λ (x : ℕ). word_of (opcode_of w) (rd_of w) (funct3_of w) (rs1_of w) (rs2_of w) x) (sym h.funct7_is)
    ∙ fields-word_of w fits

whole_shift : (w o n m : ℕ) → w < 2 ^ 32 → AtFunct7 w o n m
    → word_of o (rd_of w) n (rs1_of w) (part (pos (rs2_of w)) 0 5) m ≡ w
whole_shift w o n m fits h =
    ap (λ (x : ℕ). word_of x (rd_of w) n (rs1_of w) (part (pos (rs2_of w)) 0 5) m) (sym h.opcode_is)
    ∙ ap (λ (x : ℕ). word_of (opcode_of w) (rd_of w) x (rs1_of w) (part (pos (rs2_of w)) 0 5) m) (sym h.funct3_is)
    ∙ ap (λ (x : ℕ). word_of (opcode_of w) (rd_of w) (funct3_of w) (rs1_of w) (part (pos (rs2_of w)) 0 5) x)
    (sym h.funct7_is)
    ∙ back_shift w fits

whole_fence : (w o n : ℕ) → w < 2 ^ 32 → AtFunct3 w o n → o + n * 2 ^ 12 + rest_of w ≡ w
whole_fence w o n fits h =
    ap (λ (x : ℕ). x + n * 2 ^ 12 + rest_of w) (sym h.opcode_is)
    ∙ ap (λ (x : ℕ). opcode_of w + x * 2 ^ 12 + rest_of w) (sym h.funct3_is) ∙ back_rest w fits

-- the registers of a word are registers
rd_fits : (w : ℕ) → rd_of w < 32
rd_fits w = omega arith

rs1_fits : (w : ℕ) → rs1_of w < 32
rs1_fits w = omega arith

rs2_fits : (w : ℕ) → rs2_of w < 32
rs2_fits w = omega arith

pub rows-encoded : (w : ℕ) → w < 2 ^ 32
    → EachRow (λ r. Matches w r → Fits (instruction_of r.form w) × (encoded (instruction_of r.form w) ≡ w)) table
unfolding table
rows-encoded w fits =
    (λ e. ((rd_fits w, IsUpper-immediate_u w), whole_u w 55 fits (at_opcode w 55 e)))
    ▹ (λ e. ((rd_fits w, IsUpper-immediate_u w), whole_u w 23 fits (at_opcode w 23 e)))
    ▹ (λ e. ((rd_fits w, IsOffset-immediate_j w), whole_j w 111 fits (at_opcode w 111 e)))
    ▹ (λ e. ((rd_fits w, rs1_fits w, IsSigned-immediate_i w), whole_i w 103 0 fits (at_funct3 w 103 0 (lit< tt) e)))
    ▹ (λ e. ((rs1_fits w, rs2_fits w, IsOffset-immediate_b w), whole_b w 99 0 fits (at_funct3 w 99 0 (lit< tt) e)))
    ▹ (λ e. ((rs1_fits w, rs2_fits w, IsOffset-immediate_b w), whole_b w 99 1 fits (at_funct3 w 99 1 (lit< tt) e)))
    ▹ (λ e. ((rs1_fits w, rs2_fits w, IsOffset-immediate_b w), whole_b w 99 4 fits (at_funct3 w 99 4 (lit< tt) e)))
    ▹ (λ e. ((rs1_fits w, rs2_fits w, IsOffset-immediate_b w), whole_b w 99 5 fits (at_funct3 w 99 5 (lit< tt) e)))
    ▹ (λ e. ((rs1_fits w, rs2_fits w, IsOffset-immediate_b w), whole_b w 99 6 fits (at_funct3 w 99 6 (lit< tt) e)))
    ▹ (λ e. ((rs1_fits w, rs2_fits w, IsOffset-immediate_b w), whole_b w 99 7 fits (at_funct3 w 99 7 (lit< tt) e)))
    ▹ (λ e. ((rd_fits w, rs1_fits w, IsSigned-immediate_i w), whole_i w 3 0 fits (at_funct3 w 3 0 (lit< tt) e)))
    ▹ (λ e. ((rd_fits w, rs1_fits w, IsSigned-immediate_i w), whole_i w 3 1 fits (at_funct3 w 3 1 (lit< tt) e)))
    ▹ (λ e. ((rd_fits w, rs1_fits w, IsSigned-immediate_i w), whole_i w 3 2 fits (at_funct3 w 3 2 (lit< tt) e)))
    ▹ (λ e. ((rd_fits w, rs1_fits w, IsSigned-immediate_i w), whole_i w 3 4 fits (at_funct3 w 3 4 (lit< tt) e)))
    ▹ (λ e. ((rd_fits w, rs1_fits w, IsSigned-immediate_i w), whole_i w 3 5 fits (at_funct3 w 3 5 (lit< tt) e)))
    ▹ (λ e. ((rs1_fits w, rs2_fits w, IsSigned-immediate_s w), whole_s w 35 0 fits (at_funct3 w 35 0 (lit< tt) e)))
    ▹ (λ e. ((rs1_fits w, rs2_fits w, IsSigned-immediate_s w), whole_s w 35 1 fits (at_funct3 w 35 1 (lit< tt) e)))
    ▹ (λ e. ((rs1_fits w, rs2_fits w, IsSigned-immediate_s w), whole_s w 35 2 fits (at_funct3 w 35 2 (lit< tt) e)))
    ▹ (λ e. ((rd_fits w, rs1_fits w, IsSigned-immediate_i w), whole_i w 19 0 fits (at_funct3 w 19 0 (lit< tt) e)))
    ▹ (λ e. ((rd_fits w, rs1_fits w, IsSigned-immediate_i w), whole_i w 19 2 fits (at_funct3 w 19 2 (lit< tt) e)))
    ▹ (λ e. ((rd_fits w, rs1_fits w, IsSigned-immediate_i w), whole_i w 19 3 fits (at_funct3 w 19 3 (lit< tt) e)))
    ▹ (λ e. ((rd_fits w, rs1_fits w, IsSigned-immediate_i w), whole_i w 19 4 fits (at_funct3 w 19 4 (lit< tt) e)))
    ▹ (λ e. ((rd_fits w, rs1_fits w, IsSigned-immediate_i w), whole_i w 19 6 fits (at_funct3 w 19 6 (lit< tt) e)))
    ▹ (λ e. ((rd_fits w, rs1_fits w, IsSigned-immediate_i w), whole_i w 19 7 fits (at_funct3 w 19 7 (lit< tt) e)))
    ▹
    (λ e. (
      (rd_fits w, rs1_fits w, IsAmount-rs2 w),
      whole_shift w 19 1 0 fits
          (at_funct7 w 19 1 0 fits (lit< tt) (lit< tt) e),
    ))
    ▹
    (λ e. (
      (rd_fits w, rs1_fits w, IsAmount-rs2 w),
      whole_shift w 19 5 0 fits
          (at_funct7 w 19 5 0 fits (lit< tt) (lit< tt) e),
    ))
    ▹
    (λ e. (
      (rd_fits w, rs1_fits w, IsAmount-rs2 w),
      whole_shift w 19 5 32 fits
          (at_funct7 w 19 5 32 fits (lit< tt) (lit< tt) e),
    ))
    ▹
    (λ e. (
      (rd_fits w, rs1_fits w, rs2_fits w),
      whole_r w 51 0 0 fits
          (at_funct7 w 51 0 0 fits (lit< tt) (lit< tt) e),
    ))
    ▹
    (λ e. (
      (rd_fits w, rs1_fits w, rs2_fits w),
      whole_r w 51 0 32 fits
          (at_funct7 w 51 0 32 fits (lit< tt) (lit< tt) e),
    ))
    ▹
    (λ e. (
      (rd_fits w, rs1_fits w, rs2_fits w),
      whole_r w 51 1 0 fits
          (at_funct7 w 51 1 0 fits (lit< tt) (lit< tt) e),
    ))
    ▹
    (λ e. (
      (rd_fits w, rs1_fits w, rs2_fits w),
      whole_r w 51 2 0 fits
          (at_funct7 w 51 2 0 fits (lit< tt) (lit< tt) e),
    ))
    ▹
    (λ e. (
      (rd_fits w, rs1_fits w, rs2_fits w),
      whole_r w 51 3 0 fits
          (at_funct7 w 51 3 0 fits (lit< tt) (lit< tt) e),
    ))
    ▹
    (λ e. (
      (rd_fits w, rs1_fits w, rs2_fits w),
      whole_r w 51 4 0 fits
          (at_funct7 w 51 4 0 fits (lit< tt) (lit< tt) e),
    ))
    ▹
    (λ e. (
      (rd_fits w, rs1_fits w, rs2_fits w),
      whole_r w 51 5 0 fits
          (at_funct7 w 51 5 0 fits (lit< tt) (lit< tt) e),
    ))
    ▹
    (λ e. (
      (rd_fits w, rs1_fits w, rs2_fits w),
      whole_r w 51 5 32 fits
          (at_funct7 w 51 5 32 fits (lit< tt) (lit< tt) e),
    ))
    ▹
    (λ e. (
      (rd_fits w, rs1_fits w, rs2_fits w),
      whole_r w 51 6 0 fits
          (at_funct7 w 51 6 0 fits (lit< tt) (lit< tt) e),
    ))
    ▹
    (λ e. (
      (rd_fits w, rs1_fits w, rs2_fits w),
      whole_r w 51 7 0 fits
          (at_funct7 w 51 7 0 fits (lit< tt) (lit< tt) e),
    ))
    ▹ (λ e. (IsRest-rest_of w, whole_fence w 15 0 fits (at_funct3 w 15 0 (lit< tt) e)))
    ▹ (λ e. (tt, sym (at_whole w 0x0000_0073 fits e)))
    ▹ (λ e. (tt, sym (at_whole w 0x0010_0073 fits e)))
    ▹ (λ e. (IsRest-rest_of w, whole_fence w 15 1 fits (at_funct3 w 15 1 (lit< tt) e)))
    ▹
    (λ e. (
      (rd_fits w, rs1_fits w, rs2_fits w),
      whole_r w 51 0 1 fits
          (at_funct7 w 51 0 1 fits (lit< tt) (lit< tt) e),
    ))
    ▹
    (λ e. (
      (rd_fits w, rs1_fits w, rs2_fits w),
      whole_r w 51 1 1 fits
          (at_funct7 w 51 1 1 fits (lit< tt) (lit< tt) e),
    ))
    ▹
    (λ e. (
      (rd_fits w, rs1_fits w, rs2_fits w),
      whole_r w 51 2 1 fits
          (at_funct7 w 51 2 1 fits (lit< tt) (lit< tt) e),
    ))
    ▹
    (λ e. (
      (rd_fits w, rs1_fits w, rs2_fits w),
      whole_r w 51 3 1 fits
          (at_funct7 w 51 3 1 fits (lit< tt) (lit< tt) e),
    ))
    ▹
    (λ e. (
      (rd_fits w, rs1_fits w, rs2_fits w),
      whole_r w 51 4 1 fits
          (at_funct7 w 51 4 1 fits (lit< tt) (lit< tt) e),
    ))
    ▹
    (λ e. (
      (rd_fits w, rs1_fits w, rs2_fits w),
      whole_r w 51 5 1 fits
          (at_funct7 w 51 5 1 fits (lit< tt) (lit< tt) e),
    ))
    ▹
    (λ e. (
      (rd_fits w, rs1_fits w, rs2_fits w),
      whole_r w 51 6 1 fits
          (at_funct7 w 51 6 1 fits (lit< tt) (lit< tt) e),
    ))
    ▹
    (λ e. (
      (rd_fits w, rs1_fits w, rs2_fits w),
      whole_r w 51 7 1 fits
          (at_funct7 w 51 7 1 fits (lit< tt) (lit< tt) e),
    ))
    ▹ tt
