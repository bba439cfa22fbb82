-- What the code's statements and operands are.
use Rattle.std.specs.Prelude.{ℕ, List, Option, option_map}
use Rattle.std.specs.Borrow.{Bor}
use Rattle.rv32_asm.specs.Operands.{Target, Number, Label, Statement, Plain, Numbered, Relative, Puts, Bytes4, Bytes1}
use Rattle.rv32_asm.specs.Operands.{Text, Zeros, Multiple}
use Rattle.rv32_asm.specs.declared.operands.Operand as code_target
use Rattle.rv32_asm.specs.declared.operands.Operand.TheVariants as target
use Rattle.rv32_asm.specs.declared.operands.Line as code_statement
use Rattle.rv32_asm.specs.declared.operands.Line.TheVariants as statement

abbrev pub target_view : code_target.Operand → Target
target_view (target.Number number) = Number number
target_view (target.Label name) = Label name.now

abbrev pub statement_view : code_statement.Line → Statement
statement_view (statement.Plain instr) = Plain instr
statement_view (statement.Numbered instr number) = Numbered instr number
statement_view (statement.Relative instr target) = Relative instr (target_view target)
statement_view (statement.Puts rd target) = Puts rd (target_view target)
statement_view (statement.Word target) = Bytes4 (target_view target)
statement_view (statement.Byte number) = Bytes1 number
statement_view (statement.Text text) = Text text.now
statement_view (statement.Zeros count) = Zeros count
statement_view (statement.Multiple multiple) = Multiple multiple

-- a value and what follows it
abbrev pub read_view : {A : Type 0} → Option (A × Bor (List ℕ)) → Option (A × List ℕ)
read_view found = option_map (λ f. (f.0, f.1.now)) found

abbrev pub text_view : Option (Bor (List ℕ)) → Option (List ℕ)
text_view found = option_map (λ text. text.now) found

abbrev pub lone_view : Option code_target.Operand → Option Target
lone_view found = option_map target_view found

abbrev pub with_target_view : {A : Type 0} → Option (A × code_target.Operand) → Option (A × Target)
with_target_view found = option_map (λ f. (f.0, target_view f.1)) found

abbrev pub with_targets_view : Option (ℕ × ℕ × code_target.Operand) → Option (ℕ × ℕ × Target)
with_targets_view found = option_map (λ f. (f.0, f.1, target_view f.2)) found
