-- A word that is an instruction by its fields matches a row of the table.
use Rattle.std.proofs.Common.{◌≡◌, ℕ, ◌+◌, ◌*◌, ◌<◌, ◌^◌, refl, true}
use Rattle.std.specs.Prelude.{◌==◌, Option, Some, None, option_map, slice_get}
use Rattle.std.proofs.lemmas.Bool.{eqb-true}
use Rattle.rv32_table.specs.Fields.{opcode_of, funct3_of, funct7_of}
use Rattle.rv32_table.specs.ByFields.{by_opcode, branch_at, load_at, store_at, immediate_at, shift_at, plain_shift_at}
use Rattle.rv32_table.specs.ByFields.{sign_shift_at, register_at, plain_at, other_at, multiply_at, jump_by_fields}
use Rattle.rv32_table.specs.ByFields.{op_imm_by_fields, fence_by_fields, system_by_fields}
use Rattle.rv32_table.specs.Table.{Form, FormR, FormI, FormShift, FormS, FormB, FormU, FormJ, FormFence, FormWhole, row}
use Rattle.rv32_table.specs.Table.{table}
use Rattle.rv32_table.specs.Meaning.{Meaning}
use Rattle.rv32_table.proofs.ListLaws.{HasRow, if-case}
use Rattle.rv32_table.proofs.FieldLaws.{under_opcode, under_funct3, under_funct7, under_whole}
use Rattle.rv32_table.specs.declared.instruction.BranchOp.{BranchOp}
use Rattle.rv32_table.specs.declared.instruction.BranchOp.TheVariants.{Beq, Bne, Blt, Bge, Bltu, Bgeu}
use Rattle.rv32_table.specs.declared.instruction.LoadOp.{LoadOp}
use Rattle.rv32_table.specs.declared.instruction.LoadOp.TheVariants.{Lb, Lh, Lw, Lbu, Lhu}
use Rattle.rv32_table.specs.declared.instruction.StoreOp.{StoreOp}
use Rattle.rv32_table.specs.declared.instruction.StoreOp.TheVariants.{Sb, Sh, Sw}
use Rattle.rv32_table.specs.declared.instruction.ImmOp.{ImmOp}
use Rattle.rv32_table.specs.declared.instruction.ImmOp.TheVariants.{Addi, Slti, Sltiu, Xori, Ori, Andi, Slli, Srli}
use Rattle.rv32_table.specs.declared.instruction.ImmOp.TheVariants.{Srai}
use Rattle.rv32_table.specs.declared.instruction.RegOp.{RegOp}
use Rattle.rv32_table.specs.declared.instruction.RegOp.TheVariants.{Add, Sub, Sll, Slt, Sltu, Xor, Srl, Sra, Or, And}
use Rattle.rv32_table.specs.declared.instruction.RegOp.TheVariants.{Mul, Mulh, Mulhsu, Mulhu, Div, Divu, Rem, Remu}
use Rattle.rv32_table.specs.declared.instruction.Instr.{Instr}
use Rattle.rv32_table.specs.declared.instruction.Instr.TheVariants.{Lui, Auipc, Jal, Jalr, Branch, Load, Store, OpImm}
use Rattle.rv32_table.specs.declared.instruction.Instr.TheVariants.{Op, Fence, FenceI, Ecall, Ebreak}

-- what a function on an option came from
option_map-some : {A B : Type 0} (f : A → B) (o : Option A) (y : B) → option_map f o ≡ Some y → (x : A) × (o ≡ Some x)
option_map-some f None y e = absurd (cc)
option_map-some f (Some x) y e = (x, refl)

-- a row that stands in the table at a place
by_mask_7 : (w place opcode : ℕ) (form : Form) {meaning : Meaning}
    → slice_get table place ≡ Some (row 0x7f opcode form meaning)
    → (opcode_of w == opcode) ≡ true → HasRow w table
by_mask_7 w place opcode form {meaning} stands o = record {
  place = place;
  row = row 0x7f opcode form meaning;
  stands = stands;
  matches = under_opcode w opcode (eqb-true (opcode_of w) opcode o);
}

by_mask_3 : (w place opcode funct3 : ℕ) (form : Form) {meaning : Meaning}
    → slice_get table place ≡ Some (row 0x707f (funct3 * 2 ^ 12 + opcode) form meaning)
    → (opcode_of w == opcode) ≡ true → (funct3_of w == funct3) ≡ true → HasRow w table
by_mask_3 w place opcode funct3 form {meaning} stands o f = record {
  place = place;
  row = row 0x707f (funct3 * 2 ^ 12 + opcode) form meaning;
  stands = stands;
  matches = under_funct3 w opcode funct3
      (record { opcode_is = eqb-true (opcode_of w) opcode o; funct3_is = eqb-true (funct3_of w) funct3 f });
}

by_mask_37 : (w place opcode funct3 funct7 : ℕ) (form : Form) {meaning : Meaning} → w < 2 ^ 32
    → slice_get table place ≡ Some (row 0xfe00_707f (funct7 * 2 ^ 25 + (funct3 * 2 ^ 12 + opcode)) form meaning)
    → (opcode_of w == opcode) ≡ true → (funct3_of w == funct3) ≡ true → (funct7_of w == funct7) ≡ true
    → HasRow w table
by_mask_37 w place opcode funct3 funct7 form {meaning} fits stands o f g = record {
  place = place;
  row = row 0xfe00_707f (funct7 * 2 ^ 25 + (funct3 * 2 ^ 12 + opcode)) form meaning;
  stands = stands;
  matches = under_funct7 w opcode funct3 funct7 fits
      (record {
        opcode_is = eqb-true (opcode_of w) opcode o;
        funct3_is = eqb-true (funct3_of w) funct3 f;
        funct7_is = eqb-true (funct7_of w) funct7 g;
      });
}

by_whole : (w place value : ℕ) (form : Form) {meaning : Meaning} → w < 2 ^ 32
    → slice_get table place ≡ Some (row 0xffff_ffff value form meaning) → (w == value) ≡ true → HasRow w table
by_whole w place value form {meaning} fits stands e = record {
  place = place;
  row = row 0xffff_ffff value form meaning;
  stands = stands;
  matches = under_whole w value fits (eqb-true w value e);
}

exists_branch : (w : ℕ) (op : BranchOp) → (opcode_of w == 99) ≡ true → branch_at (funct3_of w) ≡ Some op
    → HasRow w table
unfolding table
exists_branch w op o e =
    if-case (HasRow w table) (funct3_of w == 0) _ _ _ e (λ f s. by_mask_3 w 4 99 0 (FormB (Branch Beq)) refl o f)
    (λ no e. if-case (HasRow w table) (funct3_of w == 1) _ _ _ e
    (λ f s. by_mask_3 w 5 99 1 (FormB (Branch Bne)) refl o f)
    (λ no e. if-case (HasRow w table) (funct3_of w == 4) _ _ _ e
    (λ f s. by_mask_3 w 6 99 4 (FormB (Branch Blt)) refl o f)
    (λ no e. if-case (HasRow w table) (funct3_of w == 5) _ _ _ e
    (λ f s. by_mask_3 w 7 99 5 (FormB (Branch Bge)) refl o f)
    (λ no e. if-case (HasRow w table) (funct3_of w == 6) _ _ _ e
    (λ f s. by_mask_3 w 8 99 6 (FormB (Branch Bltu)) refl o f)
    (λ no e. if-case (HasRow w table) (funct3_of w == 7) _ _ _ e
    (λ f s. by_mask_3 w 9 99 7 (FormB (Branch Bgeu)) refl o f)
    (λ no e. absurd (cc)))))))

exists_load : (w : ℕ) (op : LoadOp) → (opcode_of w == 3) ≡ true → load_at (funct3_of w) ≡ Some op → HasRow w table
unfolding table
exists_load w op o e =
    if-case (HasRow w table) (funct3_of w == 0) _ _ _ e (λ f s. by_mask_3 w 10 3 0 (FormI (Load Lb)) refl o f)
    (λ no e. if-case (HasRow w table) (funct3_of w == 1) _ _ _ e (λ f s. by_mask_3 w 11 3 1 (FormI (Load Lh)) refl o f)
    (λ no e. if-case (HasRow w table) (funct3_of w == 2) _ _ _ e (λ f s. by_mask_3 w 12 3 2 (FormI (Load Lw)) refl o f)
    (λ no e. if-case (HasRow w table) (funct3_of w == 4) _ _ _ e (λ f s. by_mask_3 w 13 3 4 (FormI (Load Lbu)) refl o f)
    (λ no e. if-case (HasRow w table) (funct3_of w == 5) _ _ _ e (λ f s. by_mask_3 w 14 3 5 (FormI (Load Lhu)) refl o f)
    (λ no e. absurd (cc))))))

exists_store : (w : ℕ) (op : StoreOp) → (opcode_of w == 35) ≡ true → store_at (funct3_of w) ≡ Some op → HasRow w table
unfolding table
exists_store w op o e =
    if-case (HasRow w table) (funct3_of w == 0) _ _ _ e (λ f s. by_mask_3 w 15 35 0 (FormS (Store Sb)) refl o f)
    (λ no e. if-case (HasRow w table) (funct3_of w == 1) _ _ _ e
    (λ f s. by_mask_3 w 16 35 1 (FormS (Store Sh)) refl o f)
    (λ no e. if-case (HasRow w table) (funct3_of w == 2) _ _ _ e
    (λ f s. by_mask_3 w 17 35 2 (FormS (Store Sw)) refl o f)
    (λ no e. absurd (cc))))

exists_immediate : (w : ℕ) (op : ImmOp) → (opcode_of w == 19) ≡ true → immediate_at (funct3_of w) ≡ Some op
    → HasRow w table
unfolding table
exists_immediate w op o e =
    if-case (HasRow w table) (funct3_of w == 0) _ _ _ e (λ f s. by_mask_3 w 18 19 0 (FormI (OpImm Addi)) refl o f)
    (λ no e. if-case (HasRow w table) (funct3_of w == 2) _ _ _ e
    (λ f s. by_mask_3 w 19 19 2 (FormI (OpImm Slti)) refl o f)
    (λ no e. if-case (HasRow w table) (funct3_of w == 3) _ _ _ e
    (λ f s. by_mask_3 w 20 19 3 (FormI (OpImm Sltiu)) refl o f)
    (λ no e. if-case (HasRow w table) (funct3_of w == 4) _ _ _ e
    (λ f s. by_mask_3 w 21 19 4 (FormI (OpImm Xori)) refl o f)
    (λ no e. if-case (HasRow w table) (funct3_of w == 6) _ _ _ e
    (λ f s. by_mask_3 w 22 19 6 (FormI (OpImm Ori)) refl o f)
    (λ no e. if-case (HasRow w table) (funct3_of w == 7) _ _ _ e
    (λ f s. by_mask_3 w 23 19 7 (FormI (OpImm Andi)) refl o f)
    (λ no e. absurd (cc)))))))

exists_plain_shift : (w : ℕ) (op : ImmOp) → w < 2 ^ 32 → (opcode_of w == 19) ≡ true → (funct7_of w == 0) ≡ true
    → plain_shift_at (funct3_of w) ≡ Some op → HasRow w table
unfolding table
exists_plain_shift w op fits o g e =
    if-case (HasRow w table) (funct3_of w == 1) _ _ _ e
    (λ f s. by_mask_37 w 24 19 1 0 (FormShift (OpImm Slli)) fits refl o f g)
    (λ no e. if-case (HasRow w table) (funct3_of w == 5) _ _ _ e
    (λ f s. by_mask_37 w 25 19 5 0 (FormShift (OpImm Srli)) fits refl o f g)
    (λ no e. absurd (cc)))

exists_sign_shift : (w : ℕ) (op : ImmOp) → w < 2 ^ 32 → (opcode_of w == 19) ≡ true → (funct7_of w == 32) ≡ true
    → sign_shift_at (funct3_of w) ≡ Some op → HasRow w table
unfolding table
exists_sign_shift w op fits o g e =
    if-case (HasRow w table) (funct3_of w == 5) _ _ _ e
    (λ f s. by_mask_37 w 26 19 5 32 (FormShift (OpImm Srai)) fits refl o f g)
    (λ no e. absurd (cc))

exists_plain : (w : ℕ) (op : RegOp) → w < 2 ^ 32 → (opcode_of w == 51) ≡ true → (funct7_of w == 0) ≡ true
    → plain_at (funct3_of w) ≡ Some op → HasRow w table
unfolding table
exists_plain w op fits o g e =
    if-case (HasRow w table) (funct3_of w == 0) _ _ _ e (λ f s. by_mask_37 w 27 51 0 0 (FormR (Op Add)) fits refl o f g)
    (λ no e. if-case (HasRow w table) (funct3_of w == 1) _ _ _ e
    (λ f s. by_mask_37 w 29 51 1 0 (FormR (Op Sll)) fits refl o f g)
    (λ no e. if-case (HasRow w table) (funct3_of w == 2) _ _ _ e
    (λ f s. by_mask_37 w 30 51 2 0 (FormR (Op Slt)) fits refl o f g)
    (λ no e. if-case (HasRow w table) (funct3_of w == 3) _ _ _ e
    (λ f s. by_mask_37 w 31 51 3 0 (FormR (Op Sltu)) fits refl o f g)
    (λ no e. if-case (HasRow w table) (funct3_of w == 4) _ _ _ e
    (λ f s. by_mask_37 w 32 51 4 0 (FormR (Op Xor)) fits refl o f g)
    (λ no e. if-case (HasRow w table) (funct3_of w == 5) _ _ _ e
    (λ f s. by_mask_37 w 33 51 5 0 (FormR (Op Srl)) fits refl o f g)
    (λ no e. if-case (HasRow w table) (funct3_of w == 6) _ _ _ e
    (λ f s. by_mask_37 w 35 51 6 0 (FormR (Op Or)) fits refl o f g)
    (λ no e. if-case (HasRow w table) (funct3_of w == 7) _ _ _ e
    (λ f s. by_mask_37 w 36 51 7 0 (FormR (Op And)) fits refl o f g)
    (λ no e. absurd (cc)))))))))

exists_other : (w : ℕ) (op : RegOp) → w < 2 ^ 32 → (opcode_of w == 51) ≡ true → (funct7_of w == 32) ≡ true
    → other_at (funct3_of w) ≡ Some op → HasRow w table
unfolding table
exists_other w op fits o g e =
    if-case (HasRow w table) (funct3_of w == 0) _ _ _ e
    (λ f s. by_mask_37 w 28 51 0 32 (FormR (Op Sub)) fits refl o f g)
    (λ no e. if-case (HasRow w table) (funct3_of w == 5) _ _ _ e
    (λ f s. by_mask_37 w 34 51 5 32 (FormR (Op Sra)) fits refl o f g)
    (λ no e. absurd (cc)))

exists_multiply : (w : ℕ) (op : RegOp) → w < 2 ^ 32 → (opcode_of w == 51) ≡ true → (funct7_of w == 1) ≡ true
    → multiply_at (funct3_of w) ≡ Some op → HasRow w table
unfolding table
exists_multiply w op fits o g e =
    if-case (HasRow w table) (funct3_of w == 0) _ _ _ e (λ f s. by_mask_37 w 41 51 0 1 (FormR (Op Mul)) fits refl o f g)
    (λ no e. if-case (HasRow w table) (funct3_of w == 1) _ _ _ e
    (λ f s. by_mask_37 w 42 51 1 1 (FormR (Op Mulh)) fits refl o f g)
    (λ no e. if-case (HasRow w table) (funct3_of w == 2) _ _ _ e
    (λ f s. by_mask_37 w 43 51 2 1 (FormR (Op Mulhsu)) fits refl o f g)
    (λ no e. if-case (HasRow w table) (funct3_of w == 3) _ _ _ e
    (λ f s. by_mask_37 w 44 51 3 1 (FormR (Op Mulhu)) fits refl o f g)
    (λ no e. if-case (HasRow w table) (funct3_of w == 4) _ _ _ e
    (λ f s. by_mask_37 w 45 51 4 1 (FormR (Op Div)) fits refl o f g)
    (λ no e. if-case (HasRow w table) (funct3_of w == 5) _ _ _ e
    (λ f s. by_mask_37 w 46 51 5 1 (FormR (Op Divu)) fits refl o f g)
    (λ no e. if-case (HasRow w table) (funct3_of w == 6) _ _ _ e
    (λ f s. by_mask_37 w 47 51 6 1 (FormR (Op Rem)) fits refl o f g)
    (λ no e. if-case (HasRow w table) (funct3_of w == 7) _ _ _ e
    (λ f s. by_mask_37 w 48 51 7 1 (FormR (Op Remu)) fits refl o f g)
    (λ no e. absurd (cc)))))))))

exists_shift : (w : ℕ) (op : ImmOp) → w < 2 ^ 32 → (opcode_of w == 19) ≡ true
    → shift_at (funct7_of w) (funct3_of w) ≡ Some op → HasRow w table
exists_shift w op fits o e =
    if-case (HasRow w table) (funct7_of w == 0) _ _ _ e (λ g e. exists_plain_shift w op fits o g e)
    (λ no e. if-case (HasRow w table) (funct7_of w == 32) _ _ _ e (λ g e. exists_sign_shift w op fits o g e)
    (λ no e. absurd (cc)))

exists_register : (w : ℕ) (op : RegOp) → w < 2 ^ 32 → (opcode_of w == 51) ≡ true
    → register_at (funct7_of w) (funct3_of w) ≡ Some op → HasRow w table
exists_register w op fits o e =
    if-case (HasRow w table) (funct7_of w == 0) _ _ _ e (λ g e. exists_plain w op fits o g e)
    (λ no e. if-case (HasRow w table) (funct7_of w == 32) _ _ _ e (λ g e. exists_other w op fits o g e)
    (λ no e. if-case (HasRow w table) (funct7_of w == 1) _ _ _ e (λ g e. exists_multiply w op fits o g e)
    (λ no e. absurd (cc))))

exists_jump : (w : ℕ) (i : Instr) → (opcode_of w == 103) ≡ true → jump_by_fields w ≡ Some i → HasRow w table
unfolding table
exists_jump w i o e =
    if-case (HasRow w table) (funct3_of w == 0) _ _ _ e (λ f s. by_mask_3 w 3 103 0 (FormI Jalr) refl o f)
    (λ no e. absurd (cc))

exists_fence : (w : ℕ) (i : Instr) → (opcode_of w == 15) ≡ true → fence_by_fields w ≡ Some i → HasRow w table
unfolding table
exists_fence w i o e =
    if-case (HasRow w table) (funct3_of w == 0) _ _ _ e (λ f s. by_mask_3 w 37 15 0 (FormFence Fence) refl o f)
    (λ no e. if-case (HasRow w table) (funct3_of w == 1) _ _ _ e
    (λ f s. by_mask_3 w 40 15 1 (FormFence FenceI) refl o f)
    (λ no e. absurd (cc)))

exists_system : (w : ℕ) (i : Instr) → w < 2 ^ 32 → system_by_fields w ≡ Some i → HasRow w table
unfolding table
exists_system w i fits e =
    if-case (HasRow w table) (w == 0x0000_0073) _ _ _ e (λ f s. by_whole w 38 0x0000_0073 (FormWhole Ecall) fits refl f)
    (λ no e. if-case (HasRow w table) (w == 0x0010_0073) _ _ _ e
    (λ f s. by_whole w 39 0x0010_0073 (FormWhole Ebreak) fits refl f)
    (λ no e. absurd (cc)))

exists_op_imm : (w : ℕ) (i : Instr) → w < 2 ^ 32 → (opcode_of w == 19) ≡ true → op_imm_by_fields w ≡ Some i
    → HasRow w table
exists_op_imm w i fits o e =
    if-case (HasRow w table) (funct3_of w == 1) _ _ _ e
    (λ f e. let op : (x : ImmOp) × (shift_at (funct7_of w) (funct3_of w) ≡ Some x) = option_map-some _ _ _ e
    in exists_shift w op.0 fits o op.1)
    (λ no e. if-case (HasRow w table) (funct3_of w == 5) _ _ _ e
    (λ f e. let op : (x : ImmOp) × (shift_at (funct7_of w) (funct3_of w) ≡ Some x) = option_map-some _ _ _ e
    in exists_shift w op.0 fits o op.1)
    (λ no e. let op : (x : ImmOp) × (immediate_at (funct3_of w) ≡ Some x) = option_map-some _ _ _ e
    in exists_immediate w op.0 o op.1))

pub exists : (w : ℕ) (i : Instr) → w < 2 ^ 32 → by_opcode (opcode_of w) w ≡ Some i → HasRow w table
unfolding table
exists w i fits e =
    if-case (HasRow w table) (opcode_of w == 55) _ _ _ e (λ o e. by_mask_7 w 0 55 (FormU Lui) refl o)
    (λ no e. if-case (HasRow w table) (opcode_of w == 23) _ _ _ e (λ o e. by_mask_7 w 1 23 (FormU Auipc) refl o)
    (λ no e. if-case (HasRow w table) (opcode_of w == 111) _ _ _ e (λ o e. by_mask_7 w 2 111 (FormJ Jal) refl o)
    (λ no e. if-case (HasRow w table) (opcode_of w == 103) _ _ _ e (λ o e. exists_jump w i o e)
    (λ no e. if-case (HasRow w table) (opcode_of w == 99) _ _ _ e
    (λ o e. let op : (x : BranchOp) × (branch_at (funct3_of w) ≡ Some x) = option_map-some _ _ _ e
    in exists_branch w op.0 o op.1)
    (λ no e. if-case (HasRow w table) (opcode_of w == 3) _ _ _ e
    (λ o e. let op : (x : LoadOp) × (load_at (funct3_of w) ≡ Some x) = option_map-some _ _ _ e
    in exists_load w op.0 o op.1)
    (λ no e. if-case (HasRow w table) (opcode_of w == 35) _ _ _ e
    (λ o e. let op : (x : StoreOp) × (store_at (funct3_of w) ≡ Some x) = option_map-some _ _ _ e
    in exists_store w op.0 o op.1)
    (λ no e. if-case (HasRow w table) (opcode_of w == 19) _ _ _ e (λ o e. exists_op_imm w i fits o e)
    (λ no e. if-case (HasRow w table) (opcode_of w == 51) _ _ _ e
    (λ o e. let op : (x : RegOp) × (register_at (funct7_of w) (funct3_of w) ≡ Some x) = option_map-some _ _ _ e
    in exists_register w op.0 fits o op.1)
    (λ no e. if-case (HasRow w table) (opcode_of w == 15) _ _ _ e (λ o e. exists_fence w i o e)
    (λ no e. if-case (HasRow w table) (opcode_of w == 115) _ _ _ e (λ o e. exists_system w i fits e)
    (λ no e. absurd (cc))))))))))))
