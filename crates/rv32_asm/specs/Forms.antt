-- The statements: the word of each, and how its operands are written.
use Rattle.std.specs.Prelude.{ℕ, List, [], ◌∷◌, Option, codes, find, bytes_eq}
use Rattle.rv32_table.specs.declared.instruction.BranchOp.TheVariants.{Beq, Bne, Blt, Bge, Bltu, Bgeu}
use Rattle.rv32_table.specs.declared.instruction.LoadOp.TheVariants.{Lb, Lh, Lw, Lbu, Lhu}
use Rattle.rv32_table.specs.declared.instruction.StoreOp.TheVariants.{Sb, Sh, Sw}
use Rattle.rv32_table.specs.declared.instruction.ImmOp.TheVariants.{Addi, Slti, Sltiu, Xori, Ori, Andi, Slli, Srli}
use Rattle.rv32_table.specs.declared.instruction.ImmOp.TheVariants.{Srai}
use Rattle.rv32_table.specs.declared.instruction.RegOp.TheVariants.{Add, Sub, Sll, Slt, Sltu, Xor, Srl, Sra, Or, And}
use Rattle.rv32_table.specs.declared.instruction.RegOp.TheVariants.{Mul, Mulh, Mulhsu, Mulhu, Div, Divu, Rem, Remu}
use Rattle.rv32_asm.specs.declared.form.Form.{Form}
use Rattle.rv32_asm.specs.declared.form.Form.TheVariants.{Lui, Auipc, Jal, Jump, Jalr, Branch, Load, Store, OpImm, Op}
use Rattle.rv32_asm.specs.declared.form.Form.TheVariants.{Ecall, Ebreak, Fence, FenceI, Nop, Ret, Li, La, Word, Byte}
use Rattle.rv32_asm.specs.declared.form.Form.TheVariants.{Ascii, Zero, Balign}
use Rattle.rv32_asm.specs.Words.{branch_word, load_word, store_word, immediate_word, register_word}

-- every statement
unfoldable pub forms : List Form
forms =
    Lui ∷ Auipc ∷ Jal ∷ Jump ∷ Jalr ∷ Branch Beq ∷ Branch Bne ∷ Branch Blt ∷ Branch Bge ∷ Branch Bltu ∷ Branch Bgeu
    ∷ Load Lb ∷ Load Lh ∷ Load Lw ∷ Load Lbu ∷ Load Lhu ∷ Store Sb ∷ Store Sh ∷ Store Sw ∷ OpImm Addi ∷ OpImm Slti
    ∷ OpImm Sltiu ∷ OpImm Xori ∷ OpImm Ori ∷ OpImm Andi ∷ OpImm Slli ∷ OpImm Srli ∷ OpImm Srai ∷ Op Add ∷ Op Sub
    ∷ Op Sll ∷ Op Slt ∷ Op Sltu ∷ Op Xor ∷ Op Srl ∷ Op Sra ∷ Op Or ∷ Op And ∷ Op Mul ∷ Op Mulh ∷ Op Mulhsu
    ∷ Op Mulhu ∷ Op Div ∷ Op Divu ∷ Op Rem ∷ Op Remu ∷ Ecall ∷ Ebreak ∷ Fence ∷ FenceI
    ∷ Nop ∷ Ret ∷ Li ∷ La ∷ Word ∷ Byte ∷ Ascii ∷ Zero ∷ Balign ∷ []

-- the word of a statement
abbrev pub form_word : Form → List ℕ
form_word Lui = codes "lui"
form_word Auipc = codes "auipc"
form_word Jal = codes "jal"
form_word Jump = codes "j"
form_word Jalr = codes "jalr"
form_word (Branch op) = branch_word op
form_word (Load op) = load_word op
form_word (Store op) = store_word op
form_word (OpImm op) = immediate_word op
form_word (Op op) = register_word op
form_word Ecall = codes "ecall"
form_word Ebreak = codes "ebreak"
form_word Fence = codes "fence"
form_word FenceI = codes "fence.i"
form_word Nop = codes "nop"
form_word Ret = codes "ret"
form_word Li = codes "li"
form_word La = codes "la"
form_word Word = codes ".word"
form_word Byte = codes ".byte"
form_word Ascii = codes ".ascii"
form_word Zero = codes ".zero"
form_word Balign = codes ".balign"

-- the statement that begins with a word
abbrev pub form_of : List ℕ → Option Form
form_of word = find (λ form. bytes_eq (form_word form) word) forms
