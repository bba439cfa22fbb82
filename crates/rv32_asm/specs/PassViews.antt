-- What the code's answers of both passes are.
use Rattle.std.specs.Prelude.{◌≡◌, ◌++◌, ℕ, suc, List, map, length, Result, Ok, Err, Option, Some, None, option_map}
use Rattle.std.specs.Borrow.{Bor}
use Rattle.indexmap.specs.IndexMap.{IndexMap}
use Rattle.rv32_asm.specs.Operands.{Statement}
use Rattle.rv32_asm.specs.OperandViews.{statement_view}
use Rattle.rv32_asm.specs.Passes.{Labels, Measure}
use Rattle.rv32_asm.specs.declared.operands.Line as code_statement
use Rattle.rv32_asm.specs.declared.fault.AsmKind.{AsmKind}
use Rattle.rv32_asm.specs.declared.fault.AsmFault.{AsmFault}
use Rattle.rv32_asm.specs.declared.fault.AsmFault.TheVariants.{Bad, NoMemory}
use Rattle.rv32_asm.specs.declared.problem.Problem.{Problem}
use Rattle.rv32_asm.specs.declared.problem.Problem.TheVariants as problem

abbrev pub labels_of : {S : Type 0} → IndexMap (Bor (List ℕ)) ℕ S → Labels
labels_of labels = map (λ entry. (entry.0.now, entry.1)) labels.entries

abbrev pub measure_of : Labels → ℕ → Measure
measure_of labels count = record { labels = labels; count = count }

-- a line's statement, or what is wrong
abbrev pub found_view : Result (Option code_statement.Line) AsmKind → Result (Option Statement) AsmKind
found_view (Ok found) = Ok (option_map statement_view found)
found_view (Err kind) = Err kind

-- what stops a pass in a line of this number
abbrev pub fault_in : ℕ → Problem → AsmFault
fault_in line (problem.Kind kind) = Bad line kind
fault_in line problem.NoMemory = NoMemory

-- how much of the text is left
abbrev pub left_of : Option (Bor (List ℕ)) → ℕ
left_of (Some text) = suc (length text.now)
left_of None = 0

-- An answer is the definition's, or memory ran out.
abbrev pub Gives : {X Y : Type 0} → (X → Y) → Result X Problem → Result Y AsmKind → Type 0
Gives view (Ok value) meant = meant ≡ Ok (view value)
Gives view (Err (problem.Kind kind)) meant = meant ≡ Err kind
Gives view (Err problem.NoMemory) meant = Unit {0}

abbrev pub GivesProgram : {X Y : Type 0} → (X → Y) → Result X AsmFault → Result Y AsmFault → Type 0
GivesProgram view (Ok value) meant = meant ≡ Ok (view value)
GivesProgram view (Err (Bad line kind)) meant = meant ≡ Err (Bad line kind)
GivesProgram view (Err NoMemory) meant = Unit {0}

-- these bytes, and behind them more
abbrev pub behind_bytes : List ℕ → Result (List ℕ) AsmKind → Result (List ℕ) AsmKind
behind_bytes bytes (Ok more) = Ok (bytes ++ more)
behind_bytes bytes (Err kind) = Err kind
