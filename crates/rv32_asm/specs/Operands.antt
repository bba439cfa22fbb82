-- The operands of a statement, read from the front of what stands behind its word.
use Rattle.std.specs.Prelude.{ℕ, suc, ◌+◌, ◌==◌, ℤ, pos, Bool, true, false, ◌||◌, if◌then◌else◌, List, [], ◌∷◌, length}
use Rattle.std.specs.Prelude.{take, drop, slice_index, Option, Some, None, option_map, option_and_then}
use Rattle.rv32_table.specs.declared.instruction.ImmOp.TheVariants.{Addi}
use Rattle.rv32_table.specs.declared.instruction.Instr.{Instr}
use Rattle.rv32_table.specs.declared.instruction.Instr.TheVariants as instr
use Rattle.rv32_asm.specs.Scanning.{is_name, after_blanks, part_length, register_of, number_of}
use Rattle.rv32_asm.specs.declared.form.Form.{Form}
use Rattle.rv32_asm.specs.declared.form.Form.TheVariants.{Lui, Auipc, Jal, Jump, Jalr, Branch, Load, Store, OpImm, Op}
use Rattle.rv32_asm.specs.declared.form.Form.TheVariants.{Ecall, Ebreak, Fence, FenceI, Nop, Ret, Li, La, Word, Byte}
use Rattle.rv32_asm.specs.declared.form.Form.TheVariants.{Ascii, Zero, Balign}

-- a number, or the name of a label
pub data Target : Type 0 where
  Number : ℤ → Target
  Label : List ℕ → Target

-- A statement with its operands. The numbers and offsets of its instruction are still 0.
pub data Statement : Type 0 where
  -- an instruction that has no number
  Plain : Instr → Statement
  -- an instruction whose immediate is this number
  Numbered : Instr → ℤ → Statement
  -- an instruction whose offset leads to this target
  Relative : Instr → Target → Statement
  -- a number or a place is put into a register
  Puts : ℕ → Target → Statement
  -- four bytes
  Bytes4 : Target → Statement
  -- one byte
  Bytes1 : ℤ → Statement
  -- the bytes of a quoted text
  Text : List ℕ → Statement
  -- so many zero bytes
  Zeros : ℤ → Statement
  -- zero bytes up to the next multiple
  Multiple : ℤ → Statement

infixl 10 ◌>>=◌
abbrev pub ◌>>=◌ : {A B : Type 0} → Option A → (A → Option B) → Option B
found >>= f = option_and_then f found

-- what follows this byte, which stands behind blanks
abbrev pub behind : ℕ → List ℕ → Option (List ℕ)
behind byte text =
    if slice_index (after_blanks text) 0 == byte then Some (drop 1 (after_blanks text)) else None

-- whether nothing but blanks follows
abbrev pub is_end : List ℕ → Bool
is_end text = length (after_blanks text) == 0

-- the register, number or label that stands behind blanks
abbrev pub part_of : List ℕ → List ℕ
part_of text = take (part_length (after_blanks text)) (after_blanks text)

-- what follows it
abbrev pub behind_part : List ℕ → List ℕ
behind_part text = drop (part_length (after_blanks text)) (after_blanks text)

abbrev pub target_of : List ℕ → Option Target
target_of text = if is_name text then Some (Label text) else option_map Number (number_of text)

abbrev pub label_of : List ℕ → Option Target
label_of text = if is_name text then Some (Label text) else None

-- A part of an operand, with what follows it.
abbrev pub Read : Type 0 → Type 0
Read A = Option (A × List ℕ)

abbrev pub register_at : List ℕ → Read ℕ
register_at text = option_map (λ register. (register, behind_part text)) (register_of (part_of text))

abbrev pub number_at : List ℕ → Read ℤ
number_at text = option_map (λ number. (number, behind_part text)) (number_of (part_of text))

-- a register and the comma behind it
abbrev pub register_and_comma : List ℕ → Read ℕ
register_and_comma text = register_at text >>= λ found. option_map (λ rest. (found.0, rest)) (behind 44 found.1)

-- the last operand, behind which nothing but blanks follows
abbrev pub lone : {A : Type 0} → (List ℕ → Option A) → List ℕ → Option A
lone read text = if is_end (behind_part text) then read (part_of text) else None

-- a number in front of a register in round brackets, as the last operand
abbrev pub access : List ℕ → Option (ℤ × ℕ)
access text =
    number_at text >>= λ number. behind 40 number.1 >>= λ inside. register_at inside >>= λ register.
    behind 41 register.1 >>= λ rest. if is_end rest then Some (number.0, register.0) else None

-- what the operands of a statement are: a register and a number, a register and a target, and so on
abbrev pub register_number : List ℕ → Option (ℕ × ℤ)
register_number text = register_and_comma text >>= λ rd. option_map (λ number. (rd.0, number)) (lone number_of rd.1)

abbrev pub register_target : List ℕ → Option (ℕ × Target)
register_target text = register_and_comma text >>= λ rd. option_map (λ target. (rd.0, target)) (lone target_of rd.1)

abbrev pub register_label : List ℕ → Option (ℕ × Target)
register_label text = register_and_comma text >>= λ rd. option_map (λ label. (rd.0, label)) (lone label_of rd.1)

abbrev pub register_access : List ℕ → Option (ℕ × ℤ × ℕ)
register_access text =
    register_and_comma text >>= λ rd. option_map (λ found. (rd.0, found.0, found.1)) (access rd.1)

abbrev pub registers_number : List ℕ → Option (ℕ × ℕ × ℤ)
registers_number text =
    register_and_comma text >>= λ rd. option_map (λ more. (rd.0, more.0, more.1)) (register_number rd.1)

abbrev pub registers_target : List ℕ → Option (ℕ × ℕ × Target)
registers_target text =
    register_and_comma text >>= λ rs1. option_map (λ more. (rs1.0, more.0, more.1)) (register_target rs1.1)

abbrev pub two_registers : List ℕ → Option (ℕ × ℕ)
two_registers text = register_and_comma text >>= λ rs1. option_map (λ rs2. (rs1.0, rs2)) (lone register_of rs1.1)

abbrev pub three_registers : List ℕ → Option (ℕ × ℕ × ℕ)
three_registers text =
    register_and_comma text >>= λ rd. option_map (λ more. (rd.0, more.0, more.1)) (two_registers rd.1)

-- The letters behind a backslash.
abbrev pub is_escape : ℕ → Bool
is_escape byte = (byte == 110) || (byte == 116) || (byte == 48) || (byte == 92) || (byte == 34)

-- How many bytes stand before the quote that closes a text, where each escape is one; the test says whether a backslash
-- stands in front.
abbrev pub quoted_length : Bool → List ℕ → Option ℕ
quoted_length escaped [] = None
quoted_length true (byte ∷ bytes) = if is_escape byte then option_map suc (quoted_length false bytes) else None
quoted_length false (byte ∷ bytes) =
    if byte == 34 then Some 0 else option_map suc (quoted_length (byte == 92) bytes)

-- the byte that a letter behind a backslash stands for
abbrev pub escaped : ℕ → ℕ
escaped byte = if byte == 110 then 10 else (if byte == 116 then 9 else (if byte == 48 then 0 else byte))

-- the bytes that a quoted text stands for; the test says whether a backslash stands in front
abbrev pub unescaped : Bool → List ℕ → List ℕ
unescaped before [] = []
unescaped true (byte ∷ bytes) = escaped byte ∷ unescaped false bytes
unescaped false (byte ∷ bytes) =
    if byte == 92 then unescaped true bytes else byte ∷ unescaped false bytes

-- what stands between the quotes, as the last operand
abbrev pub quoted : List ℕ → Option (List ℕ)
quoted text =
    behind 34 text >>= λ inside. quoted_length false inside >>= λ count.
    if is_end (drop (count + 1) inside) then Some (take count inside) else None

-- an instruction whose statement has no operands
abbrev pub whole : Instr → List ℕ → Option Statement
whole instr text = if is_end text then Some (Plain instr) else None

-- The statement of a form with these operands; none where their number or form is another.
abbrev pub statement_with : Form → List ℕ → Option Statement
statement_with Lui text = option_map (λ o. Numbered (instr.Lui o.0 0) o.1) (register_number text)
statement_with Auipc text = option_map (λ o. Numbered (instr.Auipc o.0 0) o.1) (register_number text)
statement_with Jal text = option_map (λ o. Relative (instr.Jal o.0 (pos 0)) o.1) (register_target text)
statement_with Jump text = option_map (λ o. Relative (instr.Jal 0 (pos 0)) o) (lone target_of text)
statement_with Jalr text = option_map (λ o. Numbered (instr.Jalr o.0 o.2 (pos 0)) o.1) (register_access text)
statement_with (Branch op) text =
    option_map (λ o. Relative (instr.Branch op o.0 o.1 (pos 0)) o.2) (registers_target text)
statement_with (Load op) text = option_map (λ o. Numbered (instr.Load op o.0 o.2 (pos 0)) o.1) (register_access text)
statement_with (Store op) text = option_map (λ o. Numbered (instr.Store op o.2 o.0 (pos 0)) o.1) (register_access text)
statement_with (OpImm op) text = option_map (λ o. Numbered (instr.OpImm op o.0 o.1 (pos 0)) o.2) (registers_number text)
statement_with (Op op) text = option_map (λ o. Plain (instr.Op op o.0 o.1 o.2)) (three_registers text)
statement_with Ecall text = whole instr.Ecall text
statement_with Ebreak text = whole instr.Ebreak text
statement_with Fence text = whole (instr.Fence 0x0ff0_0000) text
statement_with FenceI text = whole (instr.FenceI 0) text
statement_with Nop text = whole (instr.OpImm Addi 0 0 (pos 0)) text
statement_with Ret text = whole (instr.Jalr 0 1 (pos 0)) text
statement_with Li text = option_map (λ o. Puts o.0 (Number o.1)) (register_number text)
statement_with La text = option_map (λ o. Puts o.0 o.1) (register_label text)
statement_with Word text = option_map Bytes4 (lone target_of text)
statement_with Byte text = option_map Bytes1 (lone number_of text)
statement_with Ascii text = option_map Text (quoted text)
statement_with Zero text = option_map Zeros (lone number_of text)
statement_with Balign text = option_map Multiple (lone number_of text)
