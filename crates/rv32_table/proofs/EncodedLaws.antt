-- The word of an instruction that fits is this instruction.
use Rattle.std.proofs.Common.{◌≡◌, ℕ, ◌+◌, ◌*◌, ◌%◌, ◌<◌, ◌^◌, refl, ◌∙◌, ap, lit<, arith}
use Rattle.std.specs.Prelude.{ℤ, pos, Some, option_map}
use Rattle.rv32_table.specs.Fields.{opcode_of, rd_of, rs1_of, rs2_of, funct7_of, immediate_i, immediate_s, immediate_b}
use Rattle.rv32_table.specs.Fields.{immediate_u, immediate_j}
use Rattle.rv32_table.specs.Fits.{Fits, IsSigned, IsAmount, IsRest}
use Rattle.rv32_table.specs.ByFields.{by_opcode, branch_at, load_at, store_at, register_at}
use Rattle.rv32_table.specs.Encoded.{encoded, part, word_of, word_i, word_s, word_b, word_u, word_j, branch_funct3}
use Rattle.rv32_table.specs.Encoded.{load_funct3, store_funct3, register_funct3, register_funct7}
use Rattle.rv32_table.specs.Table.{decoded}
use Rattle.rv32_table.proofs.FieldLaws.{any_funct7, op_imm_with, by_lui, by_auipc, by_jal, by_jalr, by_branch, by_load}
use Rattle.rv32_table.proofs.FieldLaws.{by_store, by_op_imm, by_op, by_fence}
use Rattle.rv32_table.proofs.FormLaws.{HasI, HasS, HasB, HasU, HasJ, HasRest, forth_i, forth_s, forth_b, forth_u}
use Rattle.rv32_table.proofs.FormLaws.{forth_j, forth_rest, part-amount}
use Rattle.rv32_table.proofs.WordLaws.{AreFields, HasFields, word_of-fields}
use Rattle.rv32_table.proofs.TableLaws.{decoded-by_opcode}
use Rattle.rv32_table.specs.declared.instruction.BranchOp.{BranchOp}
use Rattle.rv32_table.specs.declared.instruction.BranchOp.TheVariants.{Beq, Bne, Blt, Bge, Bltu, Bgeu}
use Rattle.rv32_table.specs.declared.instruction.LoadOp.{LoadOp}
use Rattle.rv32_table.specs.declared.instruction.LoadOp.TheVariants.{Lb, Lh, Lw, Lbu, Lhu}
use Rattle.rv32_table.specs.declared.instruction.StoreOp.{StoreOp}
use Rattle.rv32_table.specs.declared.instruction.StoreOp.TheVariants.{Sb, Sh, Sw}
use Rattle.rv32_table.specs.declared.instruction.ImmOp.{ImmOp}
use Rattle.rv32_table.specs.declared.instruction.ImmOp.TheVariants.{Addi, Slti, Sltiu, Xori, Ori, Andi, Slli, Srli}
use Rattle.rv32_table.specs.declared.instruction.ImmOp.TheVariants.{Srai}
use Rattle.rv32_table.specs.declared.instruction.RegOp.{RegOp}
use Rattle.rv32_table.specs.declared.instruction.RegOp.TheVariants.{Add, Sub, Sll, Slt, Sltu, Xor, Srl, Sra, Or, And}
use Rattle.rv32_table.specs.declared.instruction.RegOp.TheVariants.{Mul, Mulh, Mulhsu, Mulhu, Div, Divu, Rem, Remu}
use Rattle.rv32_table.specs.declared.instruction.Instr.{Instr}
use Rattle.rv32_table.specs.declared.instruction.Instr.TheVariants.{Lui, Auipc, Jal, Jalr, Branch, Load, Store, OpImm}
use Rattle.rv32_table.specs.declared.instruction.Instr.TheVariants.{Op, Fence, FenceI, Ecall, Ebreak}

branch_funct3-below : (op : BranchOp) → branch_funct3 op < 2 ^ 3
branch_funct3-below Beq = lit< tt
branch_funct3-below Bne = lit< tt
branch_funct3-below Blt = lit< tt
branch_funct3-below Bge = lit< tt
branch_funct3-below Bltu = lit< tt
branch_funct3-below Bgeu = lit< tt

branch_at-branch_funct3 : (op : BranchOp) → branch_at (branch_funct3 op) ≡ Some op
branch_at-branch_funct3 Beq = refl
branch_at-branch_funct3 Bne = refl
branch_at-branch_funct3 Blt = refl
branch_at-branch_funct3 Bge = refl
branch_at-branch_funct3 Bltu = refl
branch_at-branch_funct3 Bgeu = refl

load_funct3-below : (op : LoadOp) → load_funct3 op < 2 ^ 3
load_funct3-below Lb = lit< tt
load_funct3-below Lh = lit< tt
load_funct3-below Lw = lit< tt
load_funct3-below Lbu = lit< tt
load_funct3-below Lhu = lit< tt

load_at-load_funct3 : (op : LoadOp) → load_at (load_funct3 op) ≡ Some op
load_at-load_funct3 Lb = refl
load_at-load_funct3 Lh = refl
load_at-load_funct3 Lw = refl
load_at-load_funct3 Lbu = refl
load_at-load_funct3 Lhu = refl

store_funct3-below : (op : StoreOp) → store_funct3 op < 2 ^ 3
store_funct3-below Sb = lit< tt
store_funct3-below Sh = lit< tt
store_funct3-below Sw = lit< tt

store_at-store_funct3 : (op : StoreOp) → store_at (store_funct3 op) ≡ Some op
store_at-store_funct3 Sb = refl
store_at-store_funct3 Sh = refl
store_at-store_funct3 Sw = refl

register_funct3-below : (op : RegOp) → register_funct3 op < 2 ^ 3
register_funct3-below Add = lit< tt
register_funct3-below Sub = lit< tt
register_funct3-below Sll = lit< tt
register_funct3-below Slt = lit< tt
register_funct3-below Sltu = lit< tt
register_funct3-below Xor = lit< tt
register_funct3-below Srl = lit< tt
register_funct3-below Sra = lit< tt
register_funct3-below Or = lit< tt
register_funct3-below And = lit< tt
register_funct3-below Mul = lit< tt
register_funct3-below Mulh = lit< tt
register_funct3-below Mulhsu = lit< tt
register_funct3-below Mulhu = lit< tt
register_funct3-below Div = lit< tt
register_funct3-below Divu = lit< tt
register_funct3-below Rem = lit< tt
register_funct3-below Remu = lit< tt

register_funct7-below : (op : RegOp) → register_funct7 op < 2 ^ 7
register_funct7-below Add = lit< tt
register_funct7-below Sub = lit< tt
register_funct7-below Sll = lit< tt
register_funct7-below Slt = lit< tt
register_funct7-below Sltu = lit< tt
register_funct7-below Xor = lit< tt
register_funct7-below Srl = lit< tt
register_funct7-below Sra = lit< tt
register_funct7-below Or = lit< tt
register_funct7-below And = lit< tt
register_funct7-below Mul = lit< tt
register_funct7-below Mulh = lit< tt
register_funct7-below Mulhsu = lit< tt
register_funct7-below Mulhu = lit< tt
register_funct7-below Div = lit< tt
register_funct7-below Divu = lit< tt
register_funct7-below Rem = lit< tt
register_funct7-below Remu = lit< tt

register_at-register_funct3 : (op : RegOp) → register_at (register_funct7 op) (register_funct3 op) ≡ Some op
register_at-register_funct3 Add = refl
register_at-register_funct3 Sub = refl
register_at-register_funct3 Sll = refl
register_at-register_funct3 Slt = refl
register_at-register_funct3 Sltu = refl
register_at-register_funct3 Xor = refl
register_at-register_funct3 Srl = refl
register_at-register_funct3 Sra = refl
register_at-register_funct3 Or = refl
register_at-register_funct3 And = refl
register_at-register_funct3 Mul = refl
register_at-register_funct3 Mulh = refl
register_at-register_funct3 Mulhsu = refl
register_at-register_funct3 Mulhu = refl
register_at-register_funct3 Div = refl
register_at-register_funct3 Divu = refl
register_at-register_funct3 Rem = refl
register_at-register_funct3 Remu = refl

-- ---- an instruction's word by its fields
jalr-encoded : (rd rs1 : ℕ) (imm : ℤ) → rd < 32 → rs1 < 32 → IsSigned 12 imm
    → by_opcode (opcode_of (word_i 0x67 rd 0 rs1 imm)) (word_i 0x67 rd 0 rs1 imm) ≡ Some (Jalr rd rs1 imm)
jalr-encoded rd rs1 imm a b c =
    let w : ℕ = word_i 0x67 rd 0 rs1 imm in
    let h : HasI w 0x67 rd 0 rs1 imm = forth_i 0x67 rd 0 rs1 imm (lit< tt) a (lit< tt) b c in
    by_jalr w 0 (record { opcode_is = h.opcode_is; funct3_is = h.funct3_is })
    ∙ ap (λ (x : ℕ). Some (Jalr x (rs1_of w) (immediate_i w))) h.rd_is
    ∙ ap (λ (x : ℕ). Some (Jalr rd x (immediate_i w))) h.rs1_is
    ∙ ap (λ (x : ℤ). Some (Jalr rd rs1 x)) h.imm_is

branch-encoded : (op : BranchOp) (rs1 rs2 : ℕ) (offset : ℤ) → Fits (Branch op rs1 rs2 offset)
    → by_opcode (opcode_of (encoded (Branch op rs1 rs2 offset))) (encoded (Branch op rs1 rs2 offset))
    ≡ Some (Branch op rs1 rs2 offset)
branch-encoded op rs1 rs2 offset fits =
    let w : ℕ = word_b 0x63 (branch_funct3 op) rs1 rs2 offset in
    let h : HasB w 0x63 (branch_funct3 op) rs1 rs2 offset =
    forth_b 0x63 (branch_funct3 op) rs1 rs2 offset (lit< tt) (branch_funct3-below op) fits.0 fits.1 fits.2 in
    by_branch w (branch_funct3 op) (record { opcode_is = h.opcode_is; funct3_is = h.funct3_is })
    ∙ ap (option_map (λ x. Branch x (rs1_of w) (rs2_of w) (immediate_b w))) (branch_at-branch_funct3 op)
    ∙ ap (λ (x : ℕ). Some (Branch op x (rs2_of w) (immediate_b w))) h.rs1_is
    ∙ ap (λ (x : ℕ). Some (Branch op rs1 x (immediate_b w))) h.rs2_is
    ∙ ap (λ (x : ℤ). Some (Branch op rs1 rs2 x)) h.offset_is

load-encoded : (op : LoadOp) (rd rs1 : ℕ) (imm : ℤ) → Fits (Load op rd rs1 imm)
    → by_opcode (opcode_of (encoded (Load op rd rs1 imm))) (encoded (Load op rd rs1 imm)) ≡ Some (Load op rd rs1 imm)
load-encoded op rd rs1 imm fits =
    let w : ℕ = word_i 0x03 rd (load_funct3 op) rs1 imm in
    let h : HasI w 0x03 rd (load_funct3 op) rs1 imm =
    forth_i 0x03 rd (load_funct3 op) rs1 imm (lit< tt) fits.0 (load_funct3-below op) fits.1 fits.2 in
    by_load w (load_funct3 op) (record { opcode_is = h.opcode_is; funct3_is = h.funct3_is })
    ∙ ap (option_map (λ x. Load x (rd_of w) (rs1_of w) (immediate_i w))) (load_at-load_funct3 op)
    ∙ ap (λ (x : ℕ). Some (Load op x (rs1_of w) (immediate_i w))) h.rd_is
    ∙ ap (λ (x : ℕ). Some (Load op rd x (immediate_i w))) h.rs1_is
    ∙ ap (λ (x : ℤ). Some (Load op rd rs1 x)) h.imm_is

store-encoded : (op : StoreOp) (rs1 rs2 : ℕ) (imm : ℤ) → Fits (Store op rs1 rs2 imm)
    → by_opcode (opcode_of (encoded (Store op rs1 rs2 imm))) (encoded (Store op rs1 rs2 imm))
    ≡ Some (Store op rs1 rs2 imm)
store-encoded op rs1 rs2 imm fits =
    let w : ℕ = word_s 0x23 (store_funct3 op) rs1 rs2 imm in
    let h : HasS w 0x23 (store_funct3 op) rs1 rs2 imm =
    forth_s 0x23 (store_funct3 op) rs1 rs2 imm (lit< tt) (store_funct3-below op) fits.0 fits.1 fits.2 in
    by_store w (store_funct3 op) (record { opcode_is = h.opcode_is; funct3_is = h.funct3_is })
    ∙ ap (option_map (λ x. Store x (rs1_of w) (rs2_of w) (immediate_s w))) (store_at-store_funct3 op)
    ∙ ap (λ (x : ℕ). Some (Store op x (rs2_of w) (immediate_s w))) h.rs1_is
    ∙ ap (λ (x : ℕ). Some (Store op rs1 x (immediate_s w))) h.rs2_is
    ∙ ap (λ (x : ℤ). Some (Store op rs1 rs2 x)) h.imm_is

-- an operation with an immediate that isn't a shift amount
plain-encoded : (op : ImmOp) (n rd rs1 : ℕ) (imm : ℤ) → n < 2 ^ 3
    → ((w : ℕ) → op_imm_with w (funct7_of w) n ≡ Some (OpImm op (rd_of w) (rs1_of w) (immediate_i w)))
    → rd < 32 → rs1 < 32 → IsSigned 12 imm
    → by_opcode (opcode_of (word_i 0x13 rd n rs1 imm)) (word_i 0x13 rd n rs1 imm) ≡ Some (OpImm op rd rs1 imm)
plain-encoded op n rd rs1 imm below is a b c =
    let w : ℕ = word_i 0x13 rd n rs1 imm in
    let h : HasI w 0x13 rd n rs1 imm = forth_i 0x13 rd n rs1 imm (lit< tt) a below b c in
    by_op_imm w n (funct7_of w) (any_funct7 w 0x13 n (record { opcode_is = h.opcode_is; funct3_is = h.funct3_is }))
    ∙ is w
    ∙ ap (λ (x : ℕ). Some (OpImm op x (rs1_of w) (immediate_i w))) h.rd_is
    ∙ ap (λ (x : ℕ). Some (OpImm op rd x (immediate_i w))) h.rs1_is
    ∙ ap (λ (x : ℤ). Some (OpImm op rd rs1 x)) h.imm_is

-- a shift by an immediate
shift-encoded : (op : ImmOp) (n m rd rs1 : ℕ) (imm : ℤ) → n < 2 ^ 3 → m < 2 ^ 7
    → ((w : ℕ) → op_imm_with w m n ≡ Some (OpImm op (rd_of w) (rs1_of w) (pos (rs2_of w))))
    → rd < 32 → rs1 < 32 → IsAmount imm
    → by_opcode (opcode_of (word_of 0x13 rd n rs1 (part imm 0 5) m)) (word_of 0x13 rd n rs1 (part imm 0 5) m)
    ≡ Some (OpImm op rd rs1 imm)
shift-encoded op n m rd rs1 imm below below_7 is a b c =
    let w : ℕ = word_of 0x13 rd n rs1 (part imm 0 5) m in
    let h : HasFields w 0x13 rd n rs1 (part imm 0 5) m =
    word_of-fields 0x13 rd n rs1 (part imm 0 5) m
    (record {
      opcode_below = lit< tt;
      rd_below = a;
      funct3_below = below;
      rs1_below = b;
      rs2_below = omega arith;
      funct7_below = below_7;
    }) in
    by_op_imm w n m (record { opcode_is = h.opcode_is; funct3_is = h.funct3_is; funct7_is = h.funct7_is })
    ∙ is w
    ∙ ap (λ (x : ℕ). Some (OpImm op x (rs1_of w) (pos (rs2_of w)))) h.rd_is
    ∙ ap (λ (x : ℕ). Some (OpImm op rd x (pos (rs2_of w)))) h.rs1_is
    ∙ ap (λ (x : ℕ). Some (OpImm op rd rs1 (pos x))) h.rs2_is
    ∙ ap (λ (x : ℤ). Some (OpImm op rd rs1 x)) (part-amount imm c)

op_imm-encoded : (op : ImmOp) (rd rs1 : ℕ) (imm : ℤ) → Fits (OpImm op rd rs1 imm)
    → by_opcode (opcode_of (encoded (OpImm op rd rs1 imm))) (encoded (OpImm op rd rs1 imm)) ≡ Some (OpImm op rd rs1 imm)
op_imm-encoded Addi rd rs1 imm fits = plain-encoded Addi 0 rd rs1 imm (lit< tt) (λ w. refl) fits.0 fits.1 fits.2
op_imm-encoded Slti rd rs1 imm fits = plain-encoded Slti 2 rd rs1 imm (lit< tt) (λ w. refl) fits.0 fits.1 fits.2
op_imm-encoded Sltiu rd rs1 imm fits = plain-encoded Sltiu 3 rd rs1 imm (lit< tt) (λ w. refl) fits.0 fits.1 fits.2
op_imm-encoded Xori rd rs1 imm fits = plain-encoded Xori 4 rd rs1 imm (lit< tt) (λ w. refl) fits.0 fits.1 fits.2
op_imm-encoded Ori rd rs1 imm fits = plain-encoded Ori 6 rd rs1 imm (lit< tt) (λ w. refl) fits.0 fits.1 fits.2
op_imm-encoded Andi rd rs1 imm fits = plain-encoded Andi 7 rd rs1 imm (lit< tt) (λ w. refl) fits.0 fits.1 fits.2
op_imm-encoded Slli rd rs1 imm fits = shift-encoded Slli 1 0 rd rs1 imm (lit< tt) (lit< tt)
    (λ w. refl) fits.0 fits.1 fits.2
op_imm-encoded Srli rd rs1 imm fits = shift-encoded Srli 5 0 rd rs1 imm (lit< tt) (lit< tt)
    (λ w. refl) fits.0 fits.1 fits.2
op_imm-encoded Srai rd rs1 imm fits = shift-encoded Srai 5 32 rd rs1 imm (lit< tt) (lit< tt)
    (λ w. refl) fits.0 fits.1 fits.2

op-encoded : (op : RegOp) (rd rs1 rs2 : ℕ) → Fits (Op op rd rs1 rs2)
    → by_opcode (opcode_of (encoded (Op op rd rs1 rs2))) (encoded (Op op rd rs1 rs2)) ≡ Some (Op op rd rs1 rs2)
op-encoded op rd rs1 rs2 fits =
    let w : ℕ = word_of 0x33 rd (register_funct3 op) rs1 rs2 (register_funct7 op) in
    let h : HasFields w 0x33 rd (register_funct3 op) rs1 rs2 (register_funct7 op) =
    word_of-fields 0x33 rd (register_funct3 op) rs1 rs2 (register_funct7 op)
    (record {
      opcode_below = lit< tt;
      rd_below = fits.0;
      funct3_below = register_funct3-below op;
      rs1_below = fits.1;
      rs2_below = fits.2;
      funct7_below = register_funct7-below op;
    }) in
    by_op w (register_funct3 op) (register_funct7 op)
    (record { opcode_is = h.opcode_is; funct3_is = h.funct3_is; funct7_is = h.funct7_is })
    ∙ ap (option_map (λ x. Op x (rd_of w) (rs1_of w) (rs2_of w))) (register_at-register_funct3 op)
    ∙ ap (λ (x : ℕ). Some (Op op x (rs1_of w) (rs2_of w))) h.rd_is
    ∙ ap (λ (x : ℕ). Some (Op op rd x (rs2_of w))) h.rs1_is
    ∙ ap (λ (x : ℕ). Some (Op op rd rs1 x)) h.rs2_is

fence-encoded : (rest : ℕ) → IsRest rest → by_opcode (opcode_of (15 + rest)) (15 + rest) ≡ Some (Fence rest)
fence-encoded rest fits =
    let h : HasRest (15 + rest) 15 0 rest = forth_rest 15 0 rest (lit< tt) (lit< tt) fits in
    by_fence (15 + rest) 0 (record { opcode_is = h.opcode_is; funct3_is = h.funct3_is })
    ∙ ap (λ (x : ℕ). Some (Fence x)) h.rest_is

fence_i-encoded : (rest : ℕ) → IsRest rest → by_opcode (opcode_of (4111 + rest)) (4111 + rest) ≡ Some (FenceI rest)
fence_i-encoded rest fits =
    let h : HasRest (4111 + rest) 15 1 rest = forth_rest 15 1 rest (lit< tt) (lit< tt) fits in
    by_fence (4111 + rest) 1 (record { opcode_is = h.opcode_is; funct3_is = h.funct3_is })
    ∙ ap (λ (x : ℕ). Some (FenceI x)) h.rest_is

lui-encoded : (rd imm : ℕ) → Fits (Lui rd imm)
    → by_opcode (opcode_of (encoded (Lui rd imm))) (encoded (Lui rd imm)) ≡ Some (Lui rd imm)
lui-encoded rd imm fits =
    let w : ℕ = word_u 0x37 rd imm in
    let h : HasU w 0x37 rd imm = forth_u 0x37 rd imm (lit< tt) fits.0 fits.1 in
    by_lui w h.opcode_is ∙ ap (λ (x : ℕ). Some (Lui x (immediate_u w))) h.rd_is
    ∙ ap (λ (x : ℕ). Some (Lui rd x)) h.imm_is

auipc-encoded : (rd imm : ℕ) → Fits (Auipc rd imm)
    → by_opcode (opcode_of (encoded (Auipc rd imm))) (encoded (Auipc rd imm)) ≡ Some (Auipc rd imm)
auipc-encoded rd imm fits =
    let w : ℕ = word_u 0x17 rd imm in
    let h : HasU w 0x17 rd imm = forth_u 0x17 rd imm (lit< tt) fits.0 fits.1 in
    by_auipc w h.opcode_is ∙ ap (λ (x : ℕ). Some (Auipc x (immediate_u w))) h.rd_is
    ∙ ap (λ (x : ℕ). Some (Auipc rd x)) h.imm_is

jal-encoded : (rd : ℕ) (offset : ℤ) → Fits (Jal rd offset)
    → by_opcode (opcode_of (encoded (Jal rd offset))) (encoded (Jal rd offset)) ≡ Some (Jal rd offset)
jal-encoded rd offset fits =
    let w : ℕ = word_j 0x6f rd offset in
    let h : HasJ w 0x6f rd offset = forth_j 0x6f rd offset (lit< tt) fits.0 fits.1 in
    by_jal w h.opcode_is ∙ ap (λ (x : ℕ). Some (Jal x (immediate_j w))) h.rd_is
    ∙ ap (λ (x : ℤ). Some (Jal rd x)) h.offset_is

by_opcode-encoded : (i : Instr) → Fits i → by_opcode (opcode_of (encoded i)) (encoded i) ≡ Some i
by_opcode-encoded (Lui rd imm) fits = lui-encoded rd imm fits
by_opcode-encoded (Auipc rd imm) fits = auipc-encoded rd imm fits
by_opcode-encoded (Jal rd offset) fits = jal-encoded rd offset fits
by_opcode-encoded (Jalr rd rs1 imm) fits = jalr-encoded rd rs1 imm fits.0 fits.1 fits.2
by_opcode-encoded (Branch op rs1 rs2 offset) fits = branch-encoded op rs1 rs2 offset fits
by_opcode-encoded (Load op rd rs1 imm) fits = load-encoded op rd rs1 imm fits
by_opcode-encoded (Store op rs1 rs2 imm) fits = store-encoded op rs1 rs2 imm fits
by_opcode-encoded (OpImm op rd rs1 imm) fits = op_imm-encoded op rd rs1 imm fits
by_opcode-encoded (Op op rd rs1 rs2) fits = op-encoded op rd rs1 rs2 fits
by_opcode-encoded (Fence rest) fits = fence-encoded rest fits
by_opcode-encoded (FenceI rest) fits = fence_i-encoded rest fits
by_opcode-encoded Ecall fits = refl
by_opcode-encoded Ebreak fits = refl

-- ---- such a word has 32 bits
word_of-below : (opcode rd funct3 rs1 rs2 funct7 : ℕ) → AreFields opcode rd funct3 rs1 rs2 funct7
    → word_of opcode rd funct3 rs1 rs2 funct7 < 2 ^ 32
word_of-below opcode rd funct3 rs1 rs2 funct7 fits =
    let h : HasFields (word_of opcode rd funct3 rs1 rs2 funct7) opcode rd funct3 rs1 rs2 funct7 =
    word_of-fields opcode rd funct3 rs1 rs2 funct7 fits in
    h.word_below

-- so many bits are a field
five : (z : ℤ) → part z 0 5 < 2 ^ 5
five z = omega arith

seven : (z : ℤ) → part z 5 7 < 2 ^ 7
seven z = omega arith

low_b : (z : ℤ) → part z 1 4 * 2 + part z 11 1 < 2 ^ 5
low_b z = omega arith

high_b : (z : ℤ) → part z 12 1 * 2 ^ 6 + part z 5 6 < 2 ^ 7
high_b z = omega arith

word_i-below : (opcode rd funct3 rs1 : ℕ) (imm : ℤ) → opcode < 2 ^ 7 → rd < 2 ^ 5 → funct3 < 2 ^ 3 → rs1 < 2 ^ 5
    → word_i opcode rd funct3 rs1 imm < 2 ^ 32
word_i-below opcode rd funct3 rs1 imm a b c d =
    word_of-below opcode rd funct3 rs1 (part imm 0 5) (part imm 5 7)
    (record {
      opcode_below = a;
      rd_below = b;
      funct3_below = c;
      rs1_below = d;
      rs2_below = five imm;
      funct7_below = seven imm;
    })

shift-below : (n m rd rs1 : ℕ) (imm : ℤ) → n < 2 ^ 3 → m < 2 ^ 7 → rd < 2 ^ 5 → rs1 < 2 ^ 5
    → word_of 0x13 rd n rs1 (part imm 0 5) m < 2 ^ 32
shift-below n m rd rs1 imm a b c d =
    word_of-below 0x13 rd n rs1 (part imm 0 5) m
    (record {
      opcode_below = lit< tt;
      rd_below = c;
      funct3_below = a;
      rs1_below = d;
      rs2_below = five imm;
      funct7_below = b;
    })

op_imm-below : (op : ImmOp) (rd rs1 : ℕ) (imm : ℤ) → rd < 32 → rs1 < 32 → encoded (OpImm op rd rs1 imm) < 2 ^ 32
op_imm-below Addi rd rs1 imm a b = word_i-below 0x13 rd 0 rs1 imm (lit< tt) a (lit< tt) b
op_imm-below Slti rd rs1 imm a b = word_i-below 0x13 rd 2 rs1 imm (lit< tt) a (lit< tt) b
op_imm-below Sltiu rd rs1 imm a b = word_i-below 0x13 rd 3 rs1 imm (lit< tt) a (lit< tt) b
op_imm-below Xori rd rs1 imm a b = word_i-below 0x13 rd 4 rs1 imm (lit< tt) a (lit< tt) b
op_imm-below Ori rd rs1 imm a b = word_i-below 0x13 rd 6 rs1 imm (lit< tt) a (lit< tt) b
op_imm-below Andi rd rs1 imm a b = word_i-below 0x13 rd 7 rs1 imm (lit< tt) a (lit< tt) b
op_imm-below Slli rd rs1 imm a b = shift-below 1 0 rd rs1 imm (lit< tt) (lit< tt) a b
op_imm-below Srli rd rs1 imm a b = shift-below 5 0 rd rs1 imm (lit< tt) (lit< tt) a b
op_imm-below Srai rd rs1 imm a b = shift-below 5 32 rd rs1 imm (lit< tt) (lit< tt) a b

upper-below : (opcode rd imm : ℕ) → opcode < 2 ^ 7 → rd < 2 ^ 5 → imm < 2 ^ 32 → imm % 2 ^ 12 ≡ 0
    → word_u opcode rd imm < 2 ^ 32
upper-below opcode rd imm a b c d = omega arith

jal-below : (rd : ℕ) (offset : ℤ) → rd < 32 → word_j 0x6f rd offset < 2 ^ 32
jal-below rd offset a = omega arith

rest-below : (rest : ℕ) → IsRest rest → 4111 + rest < 2 ^ 32
rest-below rest fits = omega arith

pub encoded-below : (i : Instr) → Fits i → encoded i < 2 ^ 32
encoded-below (Lui rd imm) fits = upper-below 0x37 rd imm (lit< tt) fits.0 fits.1.range fits.1.low
encoded-below (Auipc rd imm) fits = upper-below 0x17 rd imm (lit< tt) fits.0 fits.1.range fits.1.low
encoded-below (Jal rd offset) fits = jal-below rd offset fits.0
encoded-below (Jalr rd rs1 imm) fits = word_i-below 0x67 rd 0 rs1 imm (lit< tt) fits.0 (lit< tt) fits.1
encoded-below (Branch op rs1 rs2 offset) fits =
    word_of-below 0x63 (part offset 1 4 * 2 + part offset 11 1) (branch_funct3 op) rs1 rs2
    (part offset 12 1 * 2 ^ 6 + part offset 5 6)
    (record {
      opcode_below = lit< tt;
      rd_below = low_b offset;
      funct3_below = branch_funct3-below op;
      rs1_below = fits.0;
      rs2_below = fits.1;
      funct7_below = high_b offset;
    })
encoded-below (Load op rd rs1 imm) fits = word_i-below 0x03 rd (load_funct3 op) rs1 imm (lit< tt) fits.0
    (load_funct3-below op) fits.1
encoded-below (Store op rs1 rs2 imm) fits =
    word_of-below 0x23 (part imm 0 5) (store_funct3 op) rs1 rs2 (part imm 5 7)
    (record {
      opcode_below = lit< tt;
      rd_below = five imm;
      funct3_below = store_funct3-below op;
      rs1_below = fits.0;
      rs2_below = fits.1;
      funct7_below = seven imm;
    })
encoded-below (OpImm op rd rs1 imm) fits = op_imm-below op rd rs1 imm fits.0 fits.1
encoded-below (Op op rd rs1 rs2) fits =
    word_of-below 0x33 rd (register_funct3 op) rs1 rs2 (register_funct7 op)
    (record {
      opcode_below = lit< tt;
      rd_below = fits.0;
      funct3_below = register_funct3-below op;
      rs1_below = fits.1;
      rs2_below = fits.2;
      funct7_below = register_funct7-below op;
    })
encoded-below (Fence rest) fits = let below : 4111 + rest < 2 ^ 32 = rest-below rest fits in omega arith
encoded-below (FenceI rest) fits = rest-below rest fits
encoded-below Ecall fits = lit< tt
encoded-below Ebreak fits = lit< tt

-- the word of an instruction that fits is this instruction
pub decoded-encoded : (i : Instr) → Fits i → decoded (encoded i) ≡ Some i
decoded-encoded i fits = decoded-by_opcode (encoded i) (encoded-below i fits) ∙ by_opcode-encoded i fits
