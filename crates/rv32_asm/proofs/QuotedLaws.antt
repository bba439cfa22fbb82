-- The length of a quoted text's bytes.
use Rattle.std.proofs.Common.{◌≡◌, ℕ, suc, ◌+◌, ◌<◌, List, drop, length, subst, arith, Bool, true, false}
use Rattle.std.proofs.lemmas.List.{at_drop_more}
use Rattle.rv32_asm.specs.Operands.{unescaped}

-- the letter behind a backslash is one byte
pub one_more : (text : List ℕ) (index count total : ℕ) (before : Bool) → before ≡ true → index < length text
    → count + length (unescaped before (drop index text)) ≡ total
    → count + 1 + length (unescaped false (drop (index + 1) text)) ≡ total
one_more text index count total before escaped inside so_far =
    let P : Bool → Type 0 = λ b. count + length (unescaped b (drop index text)) ≡ total in
    let whole : count + length (unescaped true (drop index text)) ≡ total = subst P escaped so_far in
    let one : length (unescaped true (drop index text)) ≡ suc (length (unescaped false (drop (index + 1) text))) =
    at_drop_more (λ t. length (unescaped true t)) text index 0 inside in
    omega (arith, whole, one)
