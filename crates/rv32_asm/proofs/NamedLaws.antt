-- Each statement's word is found, and the statement of a line that begins with it is the form's with the line's rest.
use Rattle.std.proofs.Common.{◌≡◌, ◌∙◌, ℕ, ◌+◌, List, ◌++◌, length, take, drop, ap, refl, arith, length-append, true}
use Rattle.std.proofs.Common.{false}
use Rattle.std.specs.Prelude.{◌==◌, not, Some, None, Ok, option_map, ok_or}
use Rattle.std.specs.List.{list_all}
use Rattle.std.proofs.Math.Seq.{take-append_seam, drop-append_seam}
use Rattle.std.proofs.lemmas.Bool.{eqb-false, ne_eqb}
use Rattle.rv32_table.specs.declared.instruction.BranchOp.{BranchOp}
use Rattle.rv32_table.specs.declared.instruction.BranchOp.TheVariants.{Beq}
use Rattle.rv32_table.specs.declared.instruction.LoadOp.{LoadOp}
use Rattle.rv32_table.specs.declared.instruction.LoadOp.TheVariants.{Lb}
use Rattle.rv32_table.specs.declared.instruction.StoreOp.{StoreOp}
use Rattle.rv32_table.specs.declared.instruction.StoreOp.TheVariants.{Sb}
use Rattle.rv32_table.specs.declared.instruction.ImmOp.{ImmOp}
use Rattle.rv32_table.specs.declared.instruction.ImmOp.TheVariants.{Addi}
use Rattle.rv32_table.specs.declared.instruction.RegOp.{RegOp}
use Rattle.rv32_table.specs.declared.instruction.RegOp.TheVariants.{Add}
use Rattle.rv32_asm.specs.declared.form.Form.{Form}
use Rattle.rv32_asm.specs.declared.form.Form.TheVariants.{Branch, Load, Store, OpImm, Op}
use Rattle.rv32_asm.specs.declared.fault.AsmKind.TheVariants as kind
use Rattle.rv32_asm.specs.Scanning.{is_blank, blank_length}
use Rattle.rv32_asm.specs.Lines.{word_length}
use Rattle.rv32_asm.specs.Forms.{forms, form_word, form_of}
use Rattle.rv32_asm.specs.Operands.{Statement, statement_with}
use Rattle.rv32_asm.specs.Passes.{form_with, statement_of}
use Rattle.rv32_asm.proofs.TestLaws.{prefix_all, if_false}
use Rattle.rv32_asm.proofs.QuietLaws.{is_quiet}

-- what is known of a form's word
pub record IsNamed (form : Form) : Type 0 where
  pub found : form_of (form_word form) ≡ Some form
  pub whole : list_all (λ byte. not (is_blank byte)) (form_word form) ≡ true
  pub quiet : list_all is_quiet (form_word form) ≡ true
  pub first : (rest : List ℕ) → blank_length (form_word form ++ rest) ≡ 0
  pub some : (length (form_word form) == 0) ≡ false

named_branch : (op : BranchOp) → IsNamed (Branch op)
unfolding forms
named_branch Beq = record { found = refl; whole = refl; quiet = refl; first = λ rest. refl; some = refl }
named_branch _ = record { found = refl; whole = refl; quiet = refl; first = λ rest. refl; some = refl }

named_load : (op : LoadOp) → IsNamed (Load op)
unfolding forms
named_load Lb = record { found = refl; whole = refl; quiet = refl; first = λ rest. refl; some = refl }
named_load _ = record { found = refl; whole = refl; quiet = refl; first = λ rest. refl; some = refl }

named_store : (op : StoreOp) → IsNamed (Store op)
unfolding forms
named_store Sb = record { found = refl; whole = refl; quiet = refl; first = λ rest. refl; some = refl }
named_store _ = record { found = refl; whole = refl; quiet = refl; first = λ rest. refl; some = refl }

named_immediate : (op : ImmOp) → IsNamed (OpImm op)
unfolding forms
named_immediate Addi = record { found = refl; whole = refl; quiet = refl; first = λ rest. refl; some = refl }
named_immediate _ = record { found = refl; whole = refl; quiet = refl; first = λ rest. refl; some = refl }

named_register : (op : RegOp) → IsNamed (Op op)
unfolding forms
named_register Add = record { found = refl; whole = refl; quiet = refl; first = λ rest. refl; some = refl }
named_register _ = record { found = refl; whole = refl; quiet = refl; first = λ rest. refl; some = refl }

pub is_named : (form : Form) → IsNamed form
unfolding forms
is_named (Branch op) = named_branch op
is_named (Load op) = named_load op
is_named (Store op) = named_store op
is_named (OpImm op) = named_immediate op
is_named (Op op) = named_register op
is_named _ = record { found = refl; whole = refl; quiet = refl; first = λ rest. refl; some = refl }

not_empty : (word rest : List ℕ) → (length word == 0) ≡ false → (length (word ++ rest) == 0) ≡ false
not_empty word rest some =
    let long : ¬ (length word ≡ 0) = eqb-false (length word) 0 some in
    let both : length (word ++ rest) ≡ length word + length rest = length-append word rest in
    ne_eqb (length (word ++ rest)) 0 (omega arith)

-- the statement of a form's word with these operands behind it
pub statement_named : (form : Form) (rest : List ℕ) (statement : Statement) → word_length rest ≡ 0
    → statement_with form rest ≡ Some statement → statement_of (form_word form ++ rest) ≡ Ok (Some statement)
statement_named form rest statement ends with_rest =
    let named : IsNamed form = is_named form in
    let long : word_length (form_word form ++ rest) ≡ length (form_word form) =
    prefix_all (λ byte. not (is_blank byte)) (form_word form) rest named.whole ends in
    if_false (length (form_word form ++ rest) == 0) (not_empty (form_word form) rest named.some) (Ok None) _
    ∙ ap (λ n. form_with (form_of (take n (form_word form ++ rest))) (drop n (form_word form ++ rest))) long
    ∙ ap (λ word. form_with (form_of word) (drop (length (form_word form)) (form_word form ++ rest)))
    (take-append_seam (form_word form) rest)
    ∙ ap (form_with (form_of (form_word form))) (drop-append_seam (form_word form) rest)
    ∙ ap (λ found. form_with found rest) named.found
    ∙ ap (λ s. ok_or (option_map (λ s. Some s) s) kind.Operands) with_rest
