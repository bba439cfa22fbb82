-- The passes, a line at a time.
use Rattle.std.proofs.Common.{◌≡◌, ◌∙◌, ℕ, ◌+◌, List, ◌∷◌, ap, refl, Bool, true, false}
use Rattle.std.specs.Prelude.{if◌then◌else◌, Option, Result, Ok, Err}
use Rattle.std.specs.List.{list_all}
use Rattle.rv32_asm.specs.Lines.{Parts, parts_of, without_comment, is_text_byte}
use Rattle.rv32_asm.specs.Operands.{Statement}
use Rattle.rv32_asm.specs.Passes.{◌>>>◌, in_line, Labels, Measure, statement_of, size_of, labelled, grown, measured}
use Rattle.rv32_asm.specs.Passes.{first_pass}
use Rattle.rv32_asm.specs.PassViews.{measure_of}
use Rattle.rv32_asm.specs.declared.fault.AsmKind.{AsmKind}
use Rattle.rv32_asm.specs.declared.fault.AsmKind.TheVariants as kind
use Rattle.rv32_asm.specs.declared.fault.AsmFault.TheVariants.{Bad}

if_true : {A : Type 0} (test : Bool) → test ≡ true → (x y : A) → (if test then x else y) ≡ x
if_true true is x y = refl
if_true false is x y = absurd (cc)

if_false : {A : Type 0} (test : Bool) → test ≡ false → (x y : A) → (if test then x else y) ≡ y
if_false true is x y = absurd (cc)
if_false false is x y = refl

module _ (at : ℕ) (line : List ℕ) (before : Labels) (count : ℕ) where
  -- a line whose bytes are a text's, by its parts
  abbrev by_parts : Parts → Result Measure AsmKind
  by_parts parts =
      labelled parts.label (at + count) before >>> λ labels. statement_of parts.rest >>> λ statement.
      grown at (count + size_of statement (at + count)) labels

  pub measured_byte : list_all is_text_byte line ≡ false → measured at line (measure_of before count) ≡ Err kind.Byte
  measured_byte other = if_false (list_all is_text_byte line) other _ _

  parted : (parts : Parts) → list_all is_text_byte line ≡ true → parts_of (without_comment line) ≡ parts
      → measured at line (measure_of before count) ≡ by_parts parts
  parted parts text are =
      if_true (list_all is_text_byte line) text (by_parts (parts_of (without_comment line))) (Err kind.Byte)
      ∙ ap by_parts are

  pub measured_label : (parts : Parts) (wrong : AsmKind) → list_all is_text_byte line ≡ true
      → parts_of (without_comment line) ≡ parts → labelled parts.label (at + count) before ≡ Err wrong
      → measured at line (measure_of before count) ≡ Err wrong
  measured_label parts wrong text are is =
      parted parts text are
      ∙ ap (λ l. l >>> λ labels. statement_of parts.rest >>> λ statement.
      grown at (count + size_of statement (at + count)) labels) is

  pub measured_statement : (parts : Parts) (after : Labels) (wrong : AsmKind) → list_all is_text_byte line ≡ true
      → parts_of (without_comment line) ≡ parts → labelled parts.label (at + count) before ≡ Ok after
      → statement_of parts.rest ≡ Err wrong → measured at line (measure_of before count) ≡ Err wrong
  measured_statement parts after wrong text are is stops =
      parted parts text are
      ∙ ap (λ l. l >>> λ labels. statement_of parts.rest >>> λ statement.
      grown at (count + size_of statement (at + count)) labels) is
      ∙ ap (λ s. s >>> λ statement. grown at (count + size_of statement (at + count)) after) stops

  pub measured_size : (parts : Parts) (after : Labels) (found : Option Statement) → list_all is_text_byte line ≡ true
      → parts_of (without_comment line) ≡ parts → labelled parts.label (at + count) before ≡ Ok after
      → statement_of parts.rest ≡ Ok found
      → measured at line (measure_of before count) ≡ grown at (count + size_of found (at + count)) after
  measured_size parts after found text are is stands =
      parted parts text are
      ∙ ap (λ l. l >>> λ labels. statement_of parts.rest >>> λ statement.
      grown at (count + size_of statement (at + count)) labels) is
      ∙ ap (λ s. s >>> λ statement. grown at (count + size_of statement (at + count)) after) stands

module _ (at number : ℕ) (lines : List (List ℕ)) (line : List ℕ) (rest : List (List ℕ)) (before : Measure) where
  -- a line more
  pub first_more : (after : Measure) → lines ≡ line ∷ rest → measured at line before ≡ Ok after
      → first_pass at number lines before ≡ first_pass at (number + 1) rest after
  first_more after split is =
      ap (λ ls. first_pass at number ls before) split
      ∙ ap (λ m. in_line number m >>> first_pass at (number + 1) rest) is

  -- a line in which the pass stops
  pub first_stop : (wrong : AsmKind) → lines ≡ line ∷ rest → measured at line before ≡ Err wrong
      → first_pass at number lines before ≡ Err (Bad number wrong)
  first_stop wrong split is =
      ap (λ ls. first_pass at number ls before) split
      ∙ ap (λ m. in_line number m >>> first_pass at (number + 1) rest) is
