-- Operands read from where they are written: registers and numbers with `, ` between, and a register in round brackets.
use Rattle.std.proofs.Common.{◌≡◌, ◌∙◌, ℕ, ◌<◌, List, [], ◌∷◌, ◌++◌, ap, sym, refl}
use Rattle.std.specs.Prelude.{if◌then◌else◌, ℤ, Option, Some, None, option_map}
use Rattle.std.specs.List.{prefix_len}
use Rattle.std.specs.Fmt.{signed_decimal}
use Rattle.std.proofs.lemmas.List.{append-nil}
use Rattle.rv32_asm.specs.Scanning.{is_blank, is_name, register_of, number_of, after_blanks}
use Rattle.rv32_asm.specs.Operands.{Number, ◌>>=◌, behind, is_end, target_of, lone, register_at, number_at}
use Rattle.rv32_asm.specs.Operands.{register_and_comma, access, register_number, register_target, register_access}
use Rattle.rv32_asm.specs.Operands.{registers_number, registers_target, two_registers, three_registers}
use Rattle.rv32_asm.proofs.TestLaws.{if_false}
use Rattle.rv32_asm.proofs.PartLaws.{IsPart, IsShort, behind_space, behind_none, read_at, read_last, register_text}
use Rattle.rv32_asm.proofs.PartLaws.{register_is, register_part, number_is, number_part, number_no_name}

-- behind a blank, with what follows
spaced : (part rest : List ℕ) → IsPart part → after_blanks (32 ∷ (part ++ rest)) ≡ part ++ rest
spaced part rest is = behind_space (part ++ rest) (is.first rest)

-- the same as the last operand
last : (part : List ℕ) → IsPart part → after_blanks (32 ∷ part) ≡ part ++ []
last part is =
    behind_space part (ap (prefix_len is_blank) (sym (append-nil part)) ∙ is.first []) ∙ sym (append-nil part)

lone_read : {A : Type 0} (read : List ℕ → Option A) (part : List ℕ) → IsPart part → lone read (32 ∷ part) ≡ read part
lone_read read part is = read_last (32 ∷ part) part [] (last part is) is refl read refl

pub lone_register : (register : ℕ) → register < 32 → lone register_of (32 ∷ register_text register) ≡ Some register
lone_register register small =
    lone_read register_of (register_text register) (register_part register small) ∙ register_is register small

pub lone_number : (number : ℤ) → IsShort number → lone number_of (32 ∷ signed_decimal number) ≡ Some number
lone_number number short =
    lone_read number_of (signed_decimal number) (number_part number short) ∙ number_is number short

pub lone_target : (number : ℤ) → IsShort number → lone target_of (32 ∷ signed_decimal number) ≡ Some (Number number)
lone_target number short =
    lone_read target_of (signed_decimal number) (number_part number short)
    ∙ if_false (is_name (signed_decimal number)) (number_no_name number short) _ _
    ∙ ap (option_map Number) (number_is number short)

-- a register and the comma behind it, and what follows
abbrev pub comma_text : ℕ → List ℕ → List ℕ
comma_text register rest = 32 ∷ (register_text register ++ (44 ∷ rest))

pub comma_read : (register : ℕ) (rest : List ℕ) → register < 32
    → register_and_comma (comma_text register rest) ≡ Some (register, rest)
comma_read register rest small =
    let at_comma : register_at (comma_text register rest) ≡ Some (register, 44 ∷ rest) =
    read_at (comma_text register rest) (register_text register) (44 ∷ rest)
    (spaced (register_text register) (44 ∷ rest) (register_part register small)) (register_part register small) refl
    register_of register (register_is register small) in
    let after : Option (ℕ × List ℕ) → Option (ℕ × List ℕ) =
    λ f. f >>= λ found. option_map (λ rest. (found.0, rest)) (behind 44 found.1) in
    ap after at_comma

-- operands behind a register and its comma
after_comma : {A B : Type 0} (register : ℕ) (rest : List ℕ) (read : List ℕ → Option A) (make : ℕ → A → B) (value : A)
    → register < 32 → read rest ≡ Some value
    → (register_and_comma (comma_text register rest) >>= λ found. option_map (make found.0) (read found.1))
    ≡ Some (make register value)
after_comma {A} {B} register rest read make value small e =
    let after : Option (ℕ × List ℕ) → Option B = λ f. f >>= λ found. option_map (make found.0) (read found.1) in
    ap after (comma_read register rest small) ∙ ap (option_map (make register)) e

abbrev pair : {A : Type 0} → ℕ → A → ℕ × A
pair first second = (first, second)

abbrev triple : {A B : Type 0} → ℕ → A × B → ℕ × A × B
triple first more = (first, more.0, more.1)

-- a number in front of a register in round brackets
abbrev pub access_operands : ℤ → ℕ → List ℕ
access_operands number register = 32 ∷ (signed_decimal number ++ (40 ∷ (register_text register ++ (41 ∷ []))))

pub access_read : (number : ℤ) (register : ℕ) → IsShort number → register < 32
    → access (access_operands number register) ≡ Some (number, register)
access_read number register short small =
    let inside : List ℕ = register_text register ++ (41 ∷ []) in
    let at_bracket : number_at (access_operands number register) ≡ Some (number, 40 ∷ inside) =
    read_at (access_operands number register) (signed_decimal number) (40 ∷ inside)
    (spaced (signed_decimal number) (40 ∷ inside) (number_part number short)) (number_part number short) refl
    number_of number (number_is number short) in
    let within : register_at inside ≡ Some (register, 41 ∷ []) =
    read_at inside (register_text register) (41 ∷ [])
    (behind_none inside ((register_part register small).first (41 ∷ [])))
    (register_part register small) refl register_of register (register_is register small) in
    let after : Option (ℤ × List ℕ) → Option (ℤ × ℕ) =
    λ f. f >>= λ number. behind 40 number.1 >>= λ inside. register_at inside >>= λ register.
    behind 41 register.1 >>= λ rest. if is_end rest then Some (number.0, register.0) else None in
    let closed : Option (ℕ × List ℕ) → Option (ℤ × ℕ) =
    λ f. f >>= λ register. behind 41 register.1 >>= λ rest. if is_end rest then Some (number, register.0) else None in
    ap after at_bracket ∙ ap closed within

module _ (rd : ℕ) (small : rd < 32) where
  pub register_number_read : (number : ℤ) → IsShort number
      → register_number (comma_text rd (32 ∷ signed_decimal number)) ≡ Some (rd, number)
  register_number_read number short =
      after_comma rd (32 ∷ signed_decimal number) (lone number_of) pair number small (lone_number number short)

  pub register_target_read : (number : ℤ) → IsShort number
      → register_target (comma_text rd (32 ∷ signed_decimal number)) ≡ Some (rd, Number number)
  register_target_read number short =
      after_comma rd (32 ∷ signed_decimal number) (lone target_of) pair (Number number) small (lone_target number short)

  pub register_access_read : (number : ℤ) (base : ℕ) → IsShort number → base < 32
      → register_access (comma_text rd (access_operands number base)) ≡ Some (rd, number, base)
  register_access_read number base short low =
      after_comma rd (access_operands number base) access triple (number, base) small
      (access_read number base short low)

  pub registers_number_read : (rs1 : ℕ) (number : ℤ) → rs1 < 32 → IsShort number
      → registers_number (comma_text rd (comma_text rs1 (32 ∷ signed_decimal number))) ≡ Some (rd, rs1, number)
  registers_number_read rs1 number low short =
      after_comma rd (comma_text rs1 (32 ∷ signed_decimal number)) register_number triple (rs1, number) small
      (after_comma rs1 (32 ∷ signed_decimal number) (lone number_of) pair number low (lone_number number short))

  pub registers_target_read : (rs2 : ℕ) (number : ℤ) → rs2 < 32 → IsShort number
      → registers_target (comma_text rd (comma_text rs2 (32 ∷ signed_decimal number))) ≡ Some (rd, rs2, Number number)
  registers_target_read rs2 number low short =
      after_comma rd (comma_text rs2 (32 ∷ signed_decimal number)) register_target triple (rs2, Number number) small
      (after_comma rs2 (32 ∷ signed_decimal number) (lone target_of) pair (Number number) low
      (lone_target number short))

  pub three_registers_read : (rs1 rs2 : ℕ) → rs1 < 32 → rs2 < 32
      → three_registers (comma_text rd (comma_text rs1 (32 ∷ register_text rs2))) ≡ Some (rd, rs1, rs2)
  three_registers_read rs1 rs2 low least =
      after_comma rd (comma_text rs1 (32 ∷ register_text rs2)) two_registers triple (rs1, rs2) small
      (after_comma rs1 (32 ∷ register_text rs2) (lone register_of) pair rs2 low (lone_register rs2 least))
