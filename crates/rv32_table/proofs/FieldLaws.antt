-- What a word is by its fields, at each opcode.
use Rattle.std.proofs.Common.{◌≡◌, ℕ, ◌+◌, ◌*◌, ◌^◌, ◌<◌, refl, sym, ◌∙◌, ap, arith}
use Rattle.std.specs.Prelude.{pos, ◌==◌, if◌then◌else◌, bit_and, Option, Some, None, option_map}
use Rattle.rv32_table.specs.Fields.{opcode_of, rd_of, funct3_of, rs1_of, rs2_of, funct7_of, immediate_i, immediate_s}
use Rattle.rv32_table.specs.Fields.{immediate_b, immediate_u, immediate_j, rest_of}
use Rattle.rv32_table.specs.ByFields.{by_opcode, branch_at, load_at, store_at, immediate_at, shift_at, register_at}
use Rattle.rv32_table.proofs.Masks.{and-opcode, and-funct3, and-funct7, and-whole}
use Rattle.rv32_table.specs.declared.instruction.Instr.{Instr}
use Rattle.rv32_table.specs.declared.instruction.Instr.TheVariants.{Lui, Auipc, Jal, Jalr, Branch, Load, Store, OpImm}
use Rattle.rv32_table.specs.declared.instruction.Instr.TheVariants.{Op, Fence, FenceI, Ecall, Ebreak}

-- the fields of a word that the masks fix
pub record AtFunct3 (word opcode funct3 : ℕ) : Type 0 where
  pub opcode_is : opcode_of word ≡ opcode
  pub funct3_is : funct3_of word ≡ funct3

pub record AtFunct7 (word opcode funct3 funct7 : ℕ) : Type 0 where
  pub opcode_is : opcode_of word ≡ opcode
  pub funct3_is : funct3_of word ≡ funct3
  pub funct7_is : funct7_of word ≡ funct7

-- ---- from a mask to the fields
pub at_opcode : (word opcode : ℕ) → bit_and word 0x7f ≡ opcode → opcode_of word ≡ opcode
at_opcode word opcode matches = sym (and-opcode word) ∙ matches

pub at_funct3 : (word opcode funct3 : ℕ) → opcode < 128 → bit_and word 0x707f ≡ funct3 * 2 ^ 12 + opcode
    → AtFunct3 word opcode funct3
at_funct3 word opcode funct3 below matches =
    let same : funct3_of word * 2 ^ 12 + opcode_of word ≡ funct3 * 2 ^ 12 + opcode = sym (and-funct3 word) ∙ matches in
    record { opcode_is = omega arith; funct3_is = omega arith }

pub at_funct7 : (word opcode funct3 funct7 : ℕ) → word < 2 ^ 32 → opcode < 128 → funct3 < 8
    → bit_and word 0xfe00_707f ≡ funct7 * 2 ^ 25 + (funct3 * 2 ^ 12 + opcode) → AtFunct7 word opcode funct3 funct7
at_funct7 word opcode funct3 funct7 fits a b matches =
    let same : funct7_of word * 2 ^ 25 + (funct3_of word * 2 ^ 12 + opcode_of word) ≡ funct7 * 2 ^ 25
    + (funct3 * 2 ^ 12 + opcode) =
    sym (and-funct7 word fits) ∙ matches in
    record { opcode_is = omega arith; funct3_is = omega arith; funct7_is = omega arith }

pub at_whole : (word value : ℕ) → word < 2 ^ 32 → bit_and word 0xffff_ffff ≡ value → word ≡ value
at_whole word value fits matches = sym (and-whole word fits) ∙ matches

-- ---- and back
pub under_opcode : (word opcode : ℕ) → opcode_of word ≡ opcode → bit_and word 0x7f ≡ opcode
under_opcode word opcode e = and-opcode word ∙ e

pub under_funct3 : (word opcode funct3 : ℕ) → AtFunct3 word opcode funct3
    → bit_and word 0x707f ≡ funct3 * 2 ^ 12 + opcode
under_funct3 word opcode funct3 h =
    let same : funct3_of word * 2 ^ 12 + opcode_of word ≡ funct3 * 2 ^ 12 + opcode = omega arith in
    and-funct3 word ∙ same

pub under_funct7 : (word opcode funct3 funct7 : ℕ) → word < 2 ^ 32 → AtFunct7 word opcode funct3 funct7
    → bit_and word 0xfe00_707f ≡ funct7 * 2 ^ 25 + (funct3 * 2 ^ 12 + opcode)
under_funct7 word opcode funct3 funct7 fits h =
    let same : funct7_of word * 2 ^ 25 + (funct3_of word * 2 ^ 12 + opcode_of word) ≡ funct7 * 2 ^ 25
    + (funct3 * 2 ^ 12 + opcode) =
    omega arith in
    and-funct7 word fits ∙ same

pub under_whole : (word value : ℕ) → word < 2 ^ 32 → word ≡ value → bit_and word 0xffff_ffff ≡ value
under_whole word value fits e = and-whole word fits ∙ e

-- ---- what a word is
pub by_lui : (w : ℕ) → opcode_of w ≡ 0x37 → by_opcode (opcode_of w) w ≡ Some (Lui (rd_of w) (immediate_u w))
by_lui w o = ap (λ (x : ℕ). by_opcode x w) o

pub by_auipc : (w : ℕ) → opcode_of w ≡ 0x17 → by_opcode (opcode_of w) w ≡ Some (Auipc (rd_of w) (immediate_u w))
by_auipc w o = ap (λ (x : ℕ). by_opcode x w) o

pub by_jal : (w : ℕ) → opcode_of w ≡ 0x6f → by_opcode (opcode_of w) w ≡ Some (Jal (rd_of w) (immediate_j w))
by_jal w o = ap (λ (x : ℕ). by_opcode x w) o

pub by_jalr : (w n : ℕ) → AtFunct3 w 0x67 n
    → by_opcode (opcode_of w) w ≡ (if n == 0 then Some (Jalr (rd_of w) (rs1_of w) (immediate_i w)) else None)
by_jalr w n h =
    ap (λ (x : ℕ). by_opcode x w) h.opcode_is
    ∙ ap (λ (x : ℕ). if x == 0 then Some (Jalr (rd_of w) (rs1_of w) (immediate_i w)) else None) h.funct3_is

pub by_branch : (w n : ℕ) → AtFunct3 w 0x63 n
    → by_opcode (opcode_of w) w ≡ option_map (λ op. Branch op (rs1_of w) (rs2_of w) (immediate_b w)) (branch_at n)
by_branch w n h =
    ap (λ (x : ℕ). by_opcode x w) h.opcode_is
    ∙ ap (λ (x : ℕ). option_map (λ op. Branch op (rs1_of w) (rs2_of w) (immediate_b w)) (branch_at x)) h.funct3_is

pub by_load : (w n : ℕ) → AtFunct3 w 0x03 n
    → by_opcode (opcode_of w) w ≡ option_map (λ op. Load op (rd_of w) (rs1_of w) (immediate_i w)) (load_at n)
by_load w n h =
    ap (λ (x : ℕ). by_opcode x w) h.opcode_is
    ∙ ap (λ (x : ℕ). option_map (λ op. Load op (rd_of w) (rs1_of w) (immediate_i w)) (load_at x)) h.funct3_is

pub by_store : (w n : ℕ) → AtFunct3 w 0x23 n
    → by_opcode (opcode_of w) w ≡ option_map (λ op. Store op (rs1_of w) (rs2_of w) (immediate_s w)) (store_at n)
by_store w n h =
    ap (λ (x : ℕ). by_opcode x w) h.opcode_is
    ∙ ap (λ (x : ℕ). option_map (λ op. Store op (rs1_of w) (rs2_of w) (immediate_s w)) (store_at x)) h.funct3_is

-- an operation with an immediate, with this funct7 and funct3
abbrev pub op_imm_with : ℕ → ℕ → ℕ → Option Instr
op_imm_with w m n =
    if n == 1 then option_map (λ op. OpImm op (rd_of w) (rs1_of w) (pos (rs2_of w))) (shift_at m n)
    else (if n == 5 then option_map (λ op. OpImm op (rd_of w) (rs1_of w) (pos (rs2_of w))) (shift_at m n)
    else option_map (λ op. OpImm op (rd_of w) (rs1_of w) (immediate_i w)) (immediate_at n))

pub by_op_imm : (w n m : ℕ) → AtFunct7 w 0x13 n m → by_opcode (opcode_of w) w ≡ op_imm_with w m n
by_op_imm w n m h =
    ap (λ (x : ℕ). by_opcode x w) h.opcode_is
    ∙ ap (λ (x : ℕ). op_imm_with w x (funct3_of w)) h.funct7_is
    ∙ ap (λ (x : ℕ). op_imm_with w m x) h.funct3_is

pub any_funct7 : (w o n : ℕ) → AtFunct3 w o n → AtFunct7 w o n (funct7_of w)
any_funct7 w o n h = record { opcode_is = h.opcode_is; funct3_is = h.funct3_is; funct7_is = refl }

pub by_op : (w n m : ℕ) → AtFunct7 w 0x33 n m
    → by_opcode (opcode_of w) w ≡ option_map (λ op. Op op (rd_of w) (rs1_of w) (rs2_of w)) (register_at m n)
by_op w n m h =
    ap (λ (x : ℕ). by_opcode x w) h.opcode_is
    ∙ ap (λ (x : ℕ). option_map (λ op. Op op (rd_of w) (rs1_of w) (rs2_of w)) (register_at x (funct3_of w))) h.funct7_is
    ∙ ap (λ (x : ℕ). option_map (λ op. Op op (rd_of w) (rs1_of w) (rs2_of w)) (register_at m x)) h.funct3_is

pub by_fence : (w n : ℕ) → AtFunct3 w 0x0f n
    → by_opcode (opcode_of w) w
    ≡ (if n == 0 then Some (Fence (rest_of w)) else (if n == 1 then Some (FenceI (rest_of w)) else None))
by_fence w n h =
    ap (λ (x : ℕ). by_opcode x w) h.opcode_is
    ∙ ap (λ (x : ℕ). if x == 0 then Some (Fence (rest_of w)) else
    (if x == 1 then Some (FenceI (rest_of w)) else None)) h.funct3_is

pub by_ecall : (w : ℕ) → w ≡ 0x73 → by_opcode (opcode_of w) w ≡ Some Ecall
by_ecall w e = ap (λ (x : ℕ). by_opcode (opcode_of x) x) e

pub by_ebreak : (w : ℕ) → w ≡ 0x0010_0073 → by_opcode (opcode_of w) w ≡ Some Ebreak
by_ebreak w e = ap (λ (x : ℕ). by_opcode (opcode_of x) x) e
