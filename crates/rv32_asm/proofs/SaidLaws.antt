-- The statement of each instruction, and of each number, assembles to its word.
use Rattle.std.proofs.Common.{◌≡◌, ◌∙◌, ℕ, suc, ◌+◌, ◌*◌, ◌/◌, ◌%◌, ◌^◌, ◌<◌, ◌≤◌, List, [], ◌∷◌, ◌++◌, ap, sym, subst}
use Rattle.std.proofs.Common.{refl, arith, append_assoc, Bool, true, false}
use Rattle.std.specs.Prelude.{◌==◌, ◌&&◌, if◌then◌else◌, ℤ, pos, negsuc, neg_ℤ, int_le, int_rem, codes, Some, None}
use Rattle.std.specs.Prelude.{option_map, Ok, Err, MatchBool}
use Rattle.std.specs.Ordering.{int_eq}
use Rattle.std.specs.List.{list_all}
use Rattle.std.specs.Int.{to_le_bytes, w32}
use Rattle.std.specs.Fmt.{decimal, signed_decimal}
use Rattle.std.proofs.lemmas.List.{append-nil}
use Rattle.std.proofs.lemmas.Int.{ints}
use Rattle.std.proofs.lemmas.Bool.{eq-eqb, eqb-true, le-leb}
use Rattle.rv32_table.specs.Encoded.{encoded}
use Rattle.rv32_table.specs.Fits.{Fits, IsSigned, IsOffset, IsAmount, is_shift}
use Rattle.rv32_table.specs.Meaning.{low_word}
use Rattle.rv32_table.specs.declared.instruction.Instr.{Instr}
use Rattle.rv32_table.specs.declared.instruction.Instr.TheVariants as instr
use Rattle.rv32_asm.specs.declared.form.Form.{Form}
use Rattle.rv32_asm.specs.declared.form.Form.TheVariants as form
use Rattle.rv32_asm.specs.declared.fault.AsmKind.TheVariants as kind
use Rattle.rv32_asm.specs.Scanning.{blank_length}
use Rattle.rv32_asm.specs.Lines.{word_length}
use Rattle.rv32_asm.specs.Words.{branch_word, load_word, store_word, immediate_word, register_word}
use Rattle.rv32_asm.specs.Forms.{form_word}
use Rattle.rv32_asm.specs.Operands.{Number, Statement, Plain, Numbered, Relative, Bytes4, statement_with}
use Rattle.rv32_asm.specs.Values.{is_from_to, is_immediate, is_even, takes_number, with_number, numbered}
use Rattle.rv32_asm.specs.Passes.{◌>>>◌, Labels, instruction_bytes, size, bytes_of, statement_of, program_of}
use Rattle.rv32_asm.specs.Disassembly.{number_text, upper_text, access_text, number_operand_text, registers_text}
use Rattle.rv32_asm.specs.Disassembly.{instruction_text}
use Rattle.rv32_asm.proofs.TestLaws.{and_both, all_weaker, all_both, if_true}
use Rattle.rv32_asm.proofs.DecimalLaws.{is_digit, decimal_is}
use Rattle.rv32_asm.proofs.PartLaws.{IsShort, digit_passes, register_text, behind_none}
use Rattle.rv32_asm.proofs.OperandLaws.{comma_text, access_operands, lone_target, register_number_read}
use Rattle.rv32_asm.proofs.OperandLaws.{register_target_read, register_access_read, registers_number_read}
use Rattle.rv32_asm.proofs.OperandLaws.{registers_target_read, three_registers_read}
use Rattle.rv32_asm.proofs.QuietLaws.{is_quiet, program_alone}
use Rattle.rv32_asm.proofs.NamedLaws.{is_named, statement_named}

-- a text is a statement that stands for a word
pub record IsSaid (word : ℕ) (text : List ℕ) : Type 0 where
  pub statement : Statement
  pub said : statement_of text ≡ Ok (Some statement)
  pub four : (place : ℕ) → size statement place ≡ 4
  pub value : (place : ℕ) → place % 4 ≡ 0 → bytes_of statement place [] ≡ Ok (to_le_bytes w32 word)
  pub quiet : list_all is_quiet text ≡ true
  pub front : blank_length text ≡ 0

pub said_assembles : (at word : ℕ) (text : List ℕ) → IsSaid word text → at % 4 ≡ 0 → at + 4 ≤ 4_294_901_760
    → program_of at text ≡ Ok (to_le_bytes w32 word)
said_assembles at word text is aligned within =
    program_alone text is.quiet at is.statement (to_le_bytes w32 word) (behind_none text is.front) is.said is.four
    (is.value at aligned) within

-- by a form and its operands
said : (form : Form) (rest : List ℕ) (statement : Statement) (word : ℕ) → word_length rest ≡ 0
    → list_all is_quiet rest ≡ true → statement_with form rest ≡ Some statement
    → ((place : ℕ) → size statement place ≡ 4)
    → ((place : ℕ) → place % 4 ≡ 0 → bytes_of statement place [] ≡ Ok (to_le_bytes w32 word))
    → IsSaid word (form_word form ++ rest)
said form rest statement word ends quiet with_rest four value = record {
  statement = statement;
  said = statement_named form rest statement ends with_rest;
  four = four;
  value = value;
  quiet = all_both is_quiet (form_word form) rest (is_named form).quiet quiet;
  front = (is_named form).first rest;
}

-- the same with no operands
alone : (form : Form) (statement : Statement) (word : ℕ) → statement_with form [] ≡ Some statement
    → ((place : ℕ) → size statement place ≡ 4)
    → ((place : ℕ) → place % 4 ≡ 0 → bytes_of statement place [] ≡ Ok (to_le_bytes w32 word))
    → IsSaid word (form_word form)
alone form statement word with_rest four value =
    subst (IsSaid word) (append-nil (form_word form)) (said form [] statement word refl refl with_rest four value)

-- the bytes of an instruction
instr_bytes : (i : Instr) (word place : ℕ) → encoded i ≡ word → place % 4 ≡ 0
    → instruction_bytes place (Some i) ≡ Ok (to_le_bytes w32 word)
instr_bytes i word place is aligned =
    if_true (place % 4 == 0) (eq-eqb (place % 4) 0 aligned) (Ok (to_le_bytes w32 (encoded i))) (Err kind.Range)
    ∙ ap (λ w. Ok (to_le_bytes w32 w)) is

numbered_bytes : (start i : Instr) (number : ℤ) (word place : ℕ) → takes_number start number ≡ true
    → with_number start number ≡ i → encoded i ≡ word → place % 4 ≡ 0
    → instruction_bytes place (numbered start number) ≡ Ok (to_le_bytes w32 word)
numbered_bytes start i number word place takes same is aligned =
    ap (instruction_bytes place)
    (if_true (takes_number start number) takes (Some (with_number start number)) None ∙ ap Some same)
    ∙ instr_bytes i word place is aligned

-- quiet operands
pub digits_quiet : (n : ℕ) → n < 2 ^ 64 → list_all is_quiet (decimal n) ≡ true
digits_quiet n small = all_weaker is_digit is_quiet (digit_passes is_quiet refl) (decimal n) (decimal_is n small).all

register_quiet : (register : ℕ) → register < 32 → list_all is_quiet (register_text register) ≡ true
register_quiet register small = digits_quiet register (omega arith)

number_quiet : (number : ℤ) → IsShort number → list_all is_quiet (signed_decimal number) ≡ true
number_quiet (pos n) short = digits_quiet n (omega arith)
number_quiet (negsuc n) short = digits_quiet (suc n) (omega arith)

comma_quiet : (register : ℕ) (rest : List ℕ) → register < 32 → list_all is_quiet rest ≡ true
    → list_all is_quiet (comma_text register rest) ≡ true
comma_quiet register rest small quiet =
    all_both is_quiet (register_text register) (44 ∷ rest) (register_quiet register small) quiet

access_quiet : (number : ℤ) (register : ℕ) → IsShort number → register < 32
    → list_all is_quiet (access_operands number register) ≡ true
access_quiet number register short small =
    all_both is_quiet (signed_decimal number) (40 ∷ (register_text register ++ (41 ∷ []))) (number_quiet number short)
    (all_both is_quiet (register_text register) (41 ∷ []) (register_quiet register small) refl)

-- the ranges of numbers
short_signed : (number : ℤ) → IsSigned 12 number → IsShort number
short_signed (pos n) is = omega (arith, ints, is.high)
short_signed (negsuc n) is = omega (arith, ints, is.low)

takes_signed : (number : ℤ) → IsSigned 12 number → is_immediate number ≡ true
takes_signed (pos n) is = le-leb n 2_047 (omega (arith, ints, is.high))
takes_signed (negsuc n) is = and_both (int_le (negsuc 2_047) (negsuc n)) true
    (le-leb n 2_047 (omega (arith, ints, is.low))) refl

short_jump : (number : ℤ) → IsOffset 21 number → IsShort number
short_jump (pos n) is = omega (arith, ints, is.range.high)
short_jump (negsuc n) is = omega (arith, ints, is.range.low)

short_branch : (number : ℤ) → IsOffset 13 number → IsShort number
short_branch (pos n) is = omega (arith, ints, is.range.high)
short_branch (negsuc n) is = omega (arith, ints, is.range.low)

even_number : (number : ℤ) → int_rem number (pos 2) ≡ pos 0 → is_even number ≡ true
even_number number even = ap (λ r. int_eq r (pos 0)) even

takes_jump : (number : ℤ) → IsOffset 21 number
    → (is_from_to (neg_ℤ (pos 1_048_576)) (pos 1_048_575) number && is_even number) ≡ true
takes_jump (pos n) is = and_both _ (is_even (pos n)) (le-leb n 1_048_575 (omega (arith, ints, is.range.high)))
    (even_number (pos n) is.even)
takes_jump (negsuc n) is = and_both _ (is_even (negsuc n))
    (and_both (int_le (negsuc 1_048_575) (negsuc n)) true (le-leb n 1_048_575 (omega (arith, ints, is.range.low))) refl)
    (even_number (negsuc n) is.even)

takes_branch : (number : ℤ) → IsOffset 13 number
    → (is_from_to (neg_ℤ (pos 4_096)) (pos 4_095) number && is_even number) ≡ true
takes_branch (pos n) is = and_both _ (is_even (pos n)) (le-leb n 4_095 (omega (arith, ints, is.range.high)))
    (even_number (pos n) is.even)
takes_branch (negsuc n) is = and_both _ (is_even (negsuc n))
    (and_both (int_le (negsuc 4_095) (negsuc n)) true (le-leb n 4_095 (omega (arith, ints, is.range.low))) refl)
    (even_number (negsuc n) is.even)

takes_amount : (number : ℤ) → IsAmount number → is_from_to (pos 0) (pos 31) number ≡ true
takes_amount (pos n) is = and_both (int_le (pos 0) (pos n)) _ (le-leb 0 n (omega arith))
    (le-leb n 31 (omega (arith, ints, is.high)))
takes_amount (negsuc n) is = absurd (omega (arith, ints, is.low))

short_amount : (number : ℤ) → IsAmount number → IsShort number
short_amount (pos n) is = omega (arith, ints, is.high)
short_amount (negsuc n) is = absurd (omega (arith, ints, is.low))

takes_upper : (number : ℕ) → number ≤ 1_048_575 → is_from_to (pos 0) (pos 1_048_575) (pos number) ≡ true
takes_upper number most =
    and_both (int_le (pos 0) (pos number)) _ (le-leb 0 number (omega arith)) (le-leb number 1_048_575 most)

takes_operand : (shift : Bool) (number : ℤ) → MatchBool shift (IsAmount number) (IsSigned 12 number)
    → (if shift then is_from_to (pos 0) (pos 31) number else is_immediate number) ≡ true
takes_operand true number is = takes_amount number is
takes_operand false number is = takes_signed number is

short_operand : (shift : Bool) (number : ℤ) → MatchBool shift (IsAmount number) (IsSigned 12 number) → IsShort number
short_operand true number is = short_amount number is
short_operand false number is = short_signed number is

-- the texts, grouped as they are read
upper_is : (name : List ℕ) (rd imm : ℕ) → name ++ comma_text rd (32 ∷ decimal (imm / 2 ^ 12)) ≡ upper_text name rd imm
upper_is name rd imm = simp append_assoc

jump_is : (name : List ℕ) (rd : ℕ) (offset : ℤ) → name ++ comma_text rd (32 ∷ signed_decimal offset)
    ≡ name ++ codes " x" ++ decimal rd ++ codes ", " ++ signed_decimal offset
jump_is name rd offset = simp append_assoc

access_is : (name : List ℕ) (register : ℕ) (imm : ℤ) (base : ℕ)
    → name ++ comma_text register (access_operands imm base) ≡ access_text name register imm base
access_is name register imm base = simp append_assoc

number_operand_is : (name : List ℕ) (one other : ℕ) (number : ℤ)
    → name ++ comma_text one (comma_text other (32 ∷ signed_decimal number)) ≡ number_operand_text name one other number
number_operand_is name one other number = simp append_assoc

registers_is : (name : List ℕ) (rd rs1 rs2 : ℕ)
    → name ++ comma_text rd (comma_text rs1 (32 ∷ register_text rs2)) ≡ registers_text name rd rs1 rs2
registers_is name rd rs1 rs2 = simp append_assoc

-- a number alone, and its bytes whatever labels there are
pub number_bytes : (word place : ℕ) (labels : Labels) → word < 2 ^ 32 → place % 4 ≡ 0
    → bytes_of (Bytes4 (Number (pos word))) place labels ≡ Ok (to_le_bytes w32 word)
number_bytes word place labels small aligned =
    ap (λ w. w >>> λ word. Ok (to_le_bytes w32 word))
    (if_true ((place % 4 == 0) && is_from_to (neg_ℤ (pos 2_147_483_648)) (pos 4_294_967_295) (pos word))
    (and_both (place % 4 == 0) _ (eq-eqb (place % 4) 0 aligned) (le-leb word 4_294_967_295 (omega arith)))
    (Ok (low_word (pos word))) (Err kind.Range))
    ∙ ap (λ w. Ok (to_le_bytes w32 w)) low
  where
    whole : word % 2 ^ 32 ≡ word
    whole = omega arith

    low : low_word (pos word) ≡ word
    low = whole

number_with : (word : ℕ) → word < 2 ^ 32
    → statement_with form.Word (32 ∷ decimal word) ≡ Some (Bytes4 (Number (pos word)))
number_with word small = ap (option_map Bytes4) (lone_target (pos word) (omega arith))

pub number_statement : (word : ℕ) → word < 2 ^ 32
    → statement_of (number_text word) ≡ Ok (Some (Bytes4 (Number (pos word))))
number_statement word small =
    statement_named form.Word (32 ∷ decimal word) (Bytes4 (Number (pos word))) refl (number_with word small)

pub number_said : (word : ℕ) → word < 2 ^ 32 → IsSaid word (number_text word)
number_said word small =
    said form.Word (32 ∷ decimal word) (Bytes4 (Number (pos word))) word refl (digits_quiet word (omega arith))
    (number_with word small) (λ place. refl) (λ place aligned. number_bytes word place [] small aligned)

-- a text that is chosen by a test
either : (P : List ℕ → Type 0) (test : Bool) (x y : List ℕ) → (test ≡ true → P x) → P y → P (if test then x else y)
either P true x y first second = first refl
either P false x y first second = second

pub instruction_said : (i : Instr) (word : ℕ) → Fits i → encoded i ≡ word → word < 2 ^ 32
    → IsSaid word (instruction_text word i)
instruction_said (instr.Lui rd imm) word fits is small =
    let high : imm / 2 ^ 12 ≤ 1_048_575 = omega (arith, fits.1.range) in
    let back : imm / 2 ^ 12 * 2 ^ 12 ≡ imm = omega (arith, fits.1.low) in
    subst (IsSaid word) (upper_is (codes "lui") rd imm)
    (said form.Lui (comma_text rd (32 ∷ decimal (imm / 2 ^ 12)))
    (Numbered (instr.Lui rd 0) (pos (imm / 2 ^ 12))) word refl
    (comma_quiet rd (32 ∷ decimal (imm / 2 ^ 12)) fits.0 (digits_quiet (imm / 2 ^ 12) (omega arith)))
    (ap (option_map (λ o. Numbered (instr.Lui o.0 0) o.1))
    (register_number_read rd fits.0 (pos (imm / 2 ^ 12)) (omega arith))) (λ place. refl)
    (λ place aligned. numbered_bytes (instr.Lui rd 0) (instr.Lui rd imm) (pos (imm / 2 ^ 12)) word place
    (takes_upper (imm / 2 ^ 12) high) (ap (instr.Lui rd) back) is aligned))
instruction_said (instr.Auipc rd imm) word fits is small =
    let high : imm / 2 ^ 12 ≤ 1_048_575 = omega (arith, fits.1.range) in
    let back : imm / 2 ^ 12 * 2 ^ 12 ≡ imm = omega (arith, fits.1.low) in
    subst (IsSaid word) (upper_is (codes "auipc") rd imm)
    (said form.Auipc (comma_text rd (32 ∷ decimal (imm / 2 ^ 12)))
    (Numbered (instr.Auipc rd 0) (pos (imm / 2 ^ 12))) word refl
    (comma_quiet rd (32 ∷ decimal (imm / 2 ^ 12)) fits.0 (digits_quiet (imm / 2 ^ 12) (omega arith)))
    (ap (option_map (λ o. Numbered (instr.Auipc o.0 0) o.1))
    (register_number_read rd fits.0 (pos (imm / 2 ^ 12)) (omega arith))) (λ place. refl)
    (λ place aligned. numbered_bytes (instr.Auipc rd 0) (instr.Auipc rd imm) (pos (imm / 2 ^ 12)) word place
    (takes_upper (imm / 2 ^ 12) high) (ap (instr.Auipc rd) back) is aligned))
instruction_said (instr.Jal rd offset) word fits is small =
    subst (IsSaid word) (jump_is (codes "jal") rd offset)
    (said form.Jal (comma_text rd (32 ∷ signed_decimal offset))
    (Relative (instr.Jal rd (pos 0)) (Number offset)) word refl
    (comma_quiet rd (32 ∷ signed_decimal offset) fits.0 (number_quiet offset (short_jump offset fits.1)))
    (ap (option_map (λ o. Relative (instr.Jal o.0 (pos 0)) o.1))
    (register_target_read rd fits.0 offset (short_jump offset fits.1))) (λ place. refl)
    (λ place aligned. numbered_bytes (instr.Jal rd (pos 0)) (instr.Jal rd offset) offset word place
    (takes_jump offset fits.1) refl is aligned))
instruction_said (instr.Jalr rd rs1 imm) word fits is small =
    subst (IsSaid word) (access_is (codes "jalr") rd imm rs1)
    (said form.Jalr (comma_text rd (access_operands imm rs1)) (Numbered (instr.Jalr rd rs1 (pos 0)) imm) word refl
    (comma_quiet rd (access_operands imm rs1) fits.0 (access_quiet imm rs1 (short_signed imm fits.2) fits.1))
    (ap (option_map (λ o. Numbered (instr.Jalr o.0 o.2 (pos 0)) o.1))
    (register_access_read rd fits.0 imm rs1 (short_signed imm fits.2) fits.1)) (λ place. refl)
    (λ place aligned. numbered_bytes (instr.Jalr rd rs1 (pos 0)) (instr.Jalr rd rs1 imm) imm word place
    (takes_signed imm fits.2) refl is aligned))
instruction_said (instr.Branch op rs1 rs2 offset) word fits is small =
    let short : IsShort offset = short_branch offset fits.2 in
    subst (IsSaid word) (number_operand_is (branch_word op) rs1 rs2 offset)
    (said (form.Branch op) (comma_text rs1 (comma_text rs2 (32 ∷ signed_decimal offset)))
    (Relative (instr.Branch op rs1 rs2 (pos 0)) (Number offset)) word refl
    (comma_quiet rs1 _ fits.0 (comma_quiet rs2 (32 ∷ signed_decimal offset) fits.1 (number_quiet offset short)))
    (ap (option_map (λ o. Relative (instr.Branch op o.0 o.1 (pos 0)) o.2))
    (registers_target_read rs1 fits.0 rs2 offset fits.1 short)) (λ place. refl)
    (λ place aligned. numbered_bytes (instr.Branch op rs1 rs2 (pos 0))
    (instr.Branch op rs1 rs2 offset) offset word place
    (takes_branch offset fits.2) refl is aligned))
instruction_said (instr.Load op rd rs1 imm) word fits is small =
    subst (IsSaid word) (access_is (load_word op) rd imm rs1)
    (said (form.Load op) (comma_text rd (access_operands imm rs1))
    (Numbered (instr.Load op rd rs1 (pos 0)) imm) word refl
    (comma_quiet rd (access_operands imm rs1) fits.0 (access_quiet imm rs1 (short_signed imm fits.2) fits.1))
    (ap (option_map (λ o. Numbered (instr.Load op o.0 o.2 (pos 0)) o.1))
    (register_access_read rd fits.0 imm rs1 (short_signed imm fits.2) fits.1)) (λ place. refl)
    (λ place aligned. numbered_bytes (instr.Load op rd rs1 (pos 0)) (instr.Load op rd rs1 imm) imm word place
    (takes_signed imm fits.2) refl is aligned))
instruction_said (instr.Store op rs1 rs2 imm) word fits is small =
    subst (IsSaid word) (access_is (store_word op) rs2 imm rs1)
    (said (form.Store op) (comma_text rs2 (access_operands imm rs1))
    (Numbered (instr.Store op rs1 rs2 (pos 0)) imm) word refl
    (comma_quiet rs2 (access_operands imm rs1) fits.1 (access_quiet imm rs1 (short_signed imm fits.2) fits.0))
    (ap (option_map (λ o. Numbered (instr.Store op o.2 o.0 (pos 0)) o.1))
    (register_access_read rs2 fits.1 imm rs1 (short_signed imm fits.2) fits.0)) (λ place. refl)
    (λ place aligned. numbered_bytes (instr.Store op rs1 rs2 (pos 0)) (instr.Store op rs1 rs2 imm) imm word place
    (takes_signed imm fits.2) refl is aligned))
instruction_said (instr.OpImm op rd rs1 imm) word fits is small =
    let short : IsShort imm = short_operand (is_shift op) imm fits.2 in
    subst (IsSaid word) (number_operand_is (immediate_word op) rd rs1 imm)
    (said (form.OpImm op) (comma_text rd (comma_text rs1 (32 ∷ signed_decimal imm)))
    (Numbered (instr.OpImm op rd rs1 (pos 0)) imm) word refl
    (comma_quiet rd _ fits.0 (comma_quiet rs1 (32 ∷ signed_decimal imm) fits.1 (number_quiet imm short)))
    (ap (option_map (λ o. Numbered (instr.OpImm op o.0 o.1 (pos 0)) o.2))
    (registers_number_read rd fits.0 rs1 imm fits.1 short)) (λ place. refl)
    (λ place aligned. numbered_bytes (instr.OpImm op rd rs1 (pos 0)) (instr.OpImm op rd rs1 imm) imm word place
    (takes_operand (is_shift op) imm fits.2) refl is aligned))
instruction_said (instr.Op op rd rs1 rs2) word fits is small =
    subst (IsSaid word) (registers_is (register_word op) rd rs1 rs2)
    (said (form.Op op) (comma_text rd (comma_text rs1 (32 ∷ register_text rs2)))
    (Plain (instr.Op op rd rs1 rs2)) word refl
    (comma_quiet rd _ fits.0 (comma_quiet rs1 (32 ∷ register_text rs2) fits.1 (register_quiet rs2 fits.2)))
    (ap (option_map (λ o. Plain (instr.Op op o.0 o.1 o.2))) (three_registers_read rd fits.0 rs1 rs2 fits.1 fits.2))
    (λ place. refl) (λ place. instr_bytes (instr.Op op rd rs1 rs2) word place is))
instruction_said (instr.Fence rest) word fits is small =
    either (IsSaid word) (rest == 0x0ff0_0000) (codes "fence") (number_text word)
    (λ same. alone form.Fence (Plain (instr.Fence 0x0ff0_0000)) word refl (λ place. refl)
    (λ place. instr_bytes (instr.Fence 0x0ff0_0000) word place
    (ap (λ r. encoded (instr.Fence r)) (sym (eqb-true rest 0x0ff0_0000 same)) ∙ is))) (number_said word small)
instruction_said (instr.FenceI rest) word fits is small =
    either (IsSaid word) (rest == 0) (codes "fence.i") (number_text word)
    (λ same. alone form.FenceI (Plain (instr.FenceI 0)) word refl (λ place. refl)
    (λ place. instr_bytes (instr.FenceI 0) word place
    (ap (λ r. encoded (instr.FenceI r)) (sym (eqb-true rest 0 same)) ∙ is))) (number_said word small)
instruction_said instr.Ecall word fits is small =
    alone form.Ecall (Plain instr.Ecall) word refl (λ place. refl) (λ place. instr_bytes instr.Ecall word place is)
instruction_said instr.Ebreak word fits is small =
    alone form.Ebreak (Plain instr.Ebreak) word refl (λ place. refl) (λ place. instr_bytes instr.Ebreak word place is)
