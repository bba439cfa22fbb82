-- A step does what the row of its word means.
use Rattle.std.proofs.Common.{◌≡◌, ℕ, ◌%◌, suc, Bool, true, false, ◌==◌, if◌then◌else◌, List, [], ◌∷◌, refl, ap, ◌∙◌}
use Rattle.std.proofs.Common.{arith}
use Rattle.std.specs.Prelude.{Option, Some, option_map, find, bit_and, All, AllPairs}
use Rattle.std.specs.Int.{from_le_bytes, w32}
use Rattle.std.proofs.lemmas.Bool.{eq-eqb, eqb-true}
use Rattle.std.proofs.lemmas.List.Elements.{All-nil, All-cons}
use Rattle.rv32_table.specs.Fields.{rd_of, rs1_of, rs2_of, immediate_i, immediate_s, immediate_b}
use Rattle.rv32_table.specs.Meaning.{Branches, Loads, Stores, register_meaning, branch_meaning, load_meaning}
use Rattle.rv32_table.specs.Meaning.{load_width, store_width, address_of, target_of}
use Rattle.rv32_table.specs.Table.{Row, table, Matches, is_match, instruction_of, decoded}
use Rattle.rv32_table.specs.declared.instruction.Instr.{Instr}
use Rattle.rv32_table.specs.declared.instruction.Instr.TheVariants.{Branch, Load, Store}
use Rattle.rv32_table.specs.declared.instruction.BranchOp.{BranchOp}
use Rattle.rv32_table.specs.declared.instruction.BranchOp.TheVariants.{Beq, Bne, Blt, Bge, Bltu, Bgeu}
use Rattle.rv32_table.specs.declared.instruction.LoadOp.{LoadOp}
use Rattle.rv32_table.specs.declared.instruction.LoadOp.TheVariants.{Lb, Lh, Lw, Lbu, Lhu}
use Rattle.rv32_table.specs.declared.instruction.StoreOp.{StoreOp}
use Rattle.rv32_table.specs.declared.instruction.StoreOp.TheVariants.{Sb, Sh, Sw}
use Rattle.rv32_table.proofs.Apart.{table-apart}
use Rattle.rv32_table.proofs.ListLaws.{◌▹◌, EachRow, NotBoth}
use Rattle.rv32_table.proofs.TableLaws.{outside-decoded}
use Rattle.rv32_core.specs.Machine.{Machine, is_inside, register, jump_to, effect_of, effect_of_decoded, effect_of_word}
use Rattle.rv32_core.specs.Machine.{cost_of_word}
use Rattle.rv32_core.specs.FlatMachine.{FlatStep, bytes_at, effected, flat_step}
use Rattle.rv32_core.specs.RowStep.{meant, row_step}
use Rattle.rv32_core.specs.declared.effect.Effect.{Effect}
use Rattle.rv32_core.specs.declared.effect.Effect.TheVariants.{Passes, Loads as LoadsTo, Stores as StoresAt, Traps}
use Rattle.rv32_core.specs.declared.outcome.TrapKind.TheVariants.{Illegal, FetchFault, LoadMisaligned, StoreMisaligned}
use Rattle.rv32_core.specs.declared.outcome.TrapKind.TheVariants.{LoadFault, StoreFault}

-- ---- the row that a word matches is the one that is found
found-here : (word : ℕ) (rows : List Row) (x : Row) → Matches word x → find (is_match word) (x ∷ rows) ≡ Some x
found-here word rows x m = let test : is_match word x ≡ true = eq-eqb (bit_and word x.mask) x.value m in cc

-- a row that isn't matched is passed over
found-later : (word : ℕ) (rows : List Row) (x : Row) (found : Option Row) → (Matches word x → ⊥)
    → find (is_match word) rows ≡ found → find (is_match word) (x ∷ rows) ≡ found
found-later word rows x found other e = from (is_match word x) refl
  where
    from : (test : Bool) → is_match word x ≡ test → (if test then Some x else find (is_match word) rows) ≡ found
    from true t = absurd (other (eqb-true (bit_and word x.mask) x.value t))
    from false t = e

-- where no two rows are matched, a row after the first is found in the rest
passed : (word : ℕ) (x : Row) (rows more : List Row) → All (NotBoth word x) more
    → EachRow (λ r. Matches word r → find (is_match word) rows ≡ Some r) more
    → EachRow (λ r. Matches word r → find (is_match word) (x ∷ rows) ≡ Some r) more
passed word x rows [] apart each = tt
passed word x rows (y ∷ ys) apart each = (
  λ m. found-later word rows x (Some y) (λ n. apart 0 y (omega arith) (n, m)) (each.0 m),
  passed word x rows ys (λ k d below. apart (suc k) d (omega arith)) each.1,
)

found-each : (word : ℕ) (rows : List Row) → AllPairs (NotBoth word) rows
    → EachRow (λ r. Matches word r → find (is_match word) rows ≡ Some r) rows
found-each word [] apart = tt
found-each word (x ∷ xs) apart = (
  found-here word xs x,
  passed word x xs xs (λ k d below. apart 0 (suc k) d (omega arith) (omega arith))
      (found-each word xs (λ i j d below inside. apart (suc i) (suc j) d (omega arith) (omega arith))),
)

-- ---- facts of each row
each-all : (P : Row → Type 0) (rows : List Row) → EachRow P rows → All P rows
each-all P [] each = All-nil P
each-all P (x ∷ xs) each = All-cons P x xs each.0 (each-all P xs each.1)

each-both : (P Q R : Row → Type 0) (rows : List Row) → ((r : Row) → P r → Q r → R r) → EachRow P rows
    → EachRow Q rows → EachRow R rows
each-both P Q R [] both p q = tt
each-both P Q R (x ∷ xs) both p q = (both x p.0 q.0, each-both P Q R xs both p.1 q.1)

-- ---- a test before an effect is a test before the step
if-step : (machine : Machine) (memory : List ℕ) (cost : ℕ) (test : Bool) (x y : Effect) (a b : FlatStep)
    → effected machine memory cost x ≡ a → effected machine memory cost y ≡ b
    → effected machine memory cost (if test then x else y) ≡ (if test then a else b)
if-step machine memory cost true x y a b f g = f
if-step machine memory cost false x y a b f g = g

branch-step : (machine : Machine) (memory : List ℕ) (cost word : ℕ) (op : BranchOp)
    → effected machine memory cost (effect_of machine (Branch op (rs1_of word) (rs2_of word) (immediate_b word)))
    ≡ meant machine memory cost word (immediate_b word) (Branches (branch_meaning op))
branch-step machine memory cost word op =
    if-step machine memory cost
    (branch_meaning op (register machine.core (rs1_of word)) (register machine.core (rs2_of word)))
    (jump_to 0 (target_of machine.core.pc (immediate_b word))) Passes _ _ refl refl

load-step : (machine : Machine) (memory : List ℕ) (cost word : ℕ) (op : LoadOp)
    → effected machine memory cost (effect_of machine (Load op (rd_of word) (rs1_of word) (immediate_i word)))
    ≡ meant machine memory cost word (immediate_i word) (Loads (load_width op) (load_meaning op))
load-step machine memory cost word op =
    let address : ℕ = address_of (register machine.core (rs1_of word)) (immediate_i word) in
    if-step machine memory cost (address % load_width op == 0) _ (Traps LoadMisaligned) _ _
    (if-step machine memory cost (is_inside machine.core address (load_width op))
    (LoadsTo op (rd_of word) address) (Traps LoadFault) _ _ refl refl) refl

store-step : (machine : Machine) (memory : List ℕ) (cost word : ℕ) (op : StoreOp)
    → effected machine memory cost (effect_of machine (Store op (rs1_of word) (rs2_of word) (immediate_s word)))
    ≡ meant machine memory cost word (immediate_s word) (Stores (store_width op))
store-step machine memory cost word op =
    let address : ℕ = address_of (register machine.core (rs1_of word)) (immediate_s word) in
    if-step machine memory cost (address % store_width op == 0) _ (Traps StoreMisaligned) _ _
    (if-step machine memory cost (is_inside machine.core address (store_width op))
    (StoresAt op address (register machine.core (rs2_of word))) (Traps StoreFault) _ _ refl refl) refl

-- ---- what the instruction of each row does is what the row means
rows-mean : (machine : Machine) (memory : List ℕ) (cost word : ℕ)
    → EachRow (λ r. effected machine memory cost (effect_of machine (instruction_of r.form word))
    ≡ row_step machine memory cost word r) table
unfolding table register_meaning branch_meaning load_meaning
rows-mean machine memory cost word =
    let branch : (op : BranchOp)
    → effected machine memory cost (effect_of machine (Branch op (rs1_of word) (rs2_of word) (immediate_b word)))
    ≡ meant machine memory cost word (immediate_b word) (Branches (branch_meaning op))
    = branch-step machine memory cost word in
    let load : (op : LoadOp)
    → effected machine memory cost (effect_of machine (Load op (rd_of word) (rs1_of word) (immediate_i word)))
    ≡ meant machine memory cost word (immediate_i word) (Loads (load_width op) (load_meaning op))
    = load-step machine memory cost word in
    let store : (op : StoreOp)
    → effected machine memory cost (effect_of machine (Store op (rs1_of word) (rs2_of word) (immediate_s word)))
    ≡ meant machine memory cost word (immediate_s word) (Stores (store_width op))
    = store-step machine memory cost word in
    refl ▹ refl ▹ refl ▹ refl
    ▹ branch Beq ▹ branch Bne ▹ branch Blt ▹ branch Bge ▹ branch Bltu ▹ branch Bgeu
    ▹ load Lb ▹ load Lh ▹ load Lw ▹ load Lbu ▹ load Lhu
    ▹ store Sb ▹ store Sh ▹ store Sw
    ▹ refl ▹ refl ▹ refl ▹ refl ▹ refl ▹ refl ▹ refl ▹ refl ▹ refl
    ▹ refl ▹ refl ▹ refl ▹ refl ▹ refl ▹ refl ▹ refl ▹ refl ▹ refl ▹ refl
    ▹ refl ▹ refl ▹ refl ▹ refl
    ▹ refl ▹ refl ▹ refl ▹ refl ▹ refl ▹ refl ▹ refl ▹ refl ▹ tt

-- by the row that is found
found-step : (machine : Machine) (memory : List ℕ) (cost word : ℕ) (r : Row)
    → find (is_match word) table ≡ Some r
    → effected machine memory cost (effect_of machine (instruction_of r.form word))
    ≡ row_step machine memory cost word r
    → effected machine memory cost (effect_of_word machine word) ≡ row_step machine memory cost word r
unfolding decoded
found-step machine memory cost word r found means =
    ap (λ (o : Option Row). effected machine memory cost
    (effect_of_decoded machine (option_map (λ (x : Row). instruction_of x.form word) o))) found ∙ means

pub row-effected : (machine : Machine) (memory : List ℕ) (cost word : ℕ)
    → All (λ r. Matches word r
    → effected machine memory cost (effect_of_word machine word) ≡ row_step machine memory cost word r) table
row-effected machine memory cost word =
    each-all (λ r. Matches word r
    → effected machine memory cost (effect_of_word machine word) ≡ row_step machine memory cost word r) table
    (each-both (λ r. Matches word r → find (is_match word) table ≡ Some r)
    (λ r. effected machine memory cost (effect_of machine (instruction_of r.form word))
    ≡ row_step machine memory cost word r)
    (λ r. Matches word r
    → effected machine memory cost (effect_of_word machine word) ≡ row_step machine memory cost word r) table
    (λ r found means m. found-step machine memory cost word r (found m) means)
    (found-each word table (table-apart word)) (rows-mean machine memory cost word))

-- the step whose word is fetched has the word's effect
fetched-step : (machine : Machine) (memory : List ℕ) (word : ℕ) → is_inside machine.core machine.core.pc 4 ≡ true
    → from_le_bytes w32 (bytes_at machine memory machine.core.pc 4) ≡ word
    → flat_step machine memory ≡ effected machine memory (cost_of_word machine word) (effect_of_word machine word)
fetched-step machine memory word inside is =
    ap (λ (fits : Bool). if fits
    then effected machine memory
    (cost_of_word machine (from_le_bytes w32 (bytes_at machine memory machine.core.pc 4)))
    (effect_of_word machine (from_le_bytes w32 (bytes_at machine memory machine.core.pc 4)))
    else effected machine memory 0 (Traps FetchFault)) inside
    ∙ ap (λ (w : ℕ). effected machine memory (cost_of_word machine w) (effect_of_word machine w)) is

pub row-stepped : (machine : Machine) (memory : List ℕ) (word : ℕ) → is_inside machine.core machine.core.pc 4 ≡ true
    → from_le_bytes w32 (bytes_at machine memory machine.core.pc 4) ≡ word
    → All (λ r. Matches word r
    → flat_step machine memory ≡ row_step machine memory (cost_of_word machine word) word r) table
row-stepped machine memory word inside is = λ k d below m.
    fetched-step machine memory word inside is
    ∙ row-effected machine memory (cost_of_word machine word) word k d below m

pub row-illegal : (machine : Machine) (word : ℕ) → All (λ r. Matches word r → ⊥) table
    → effect_of_word machine word ≡ Traps Illegal
row-illegal machine word all = ap (λ (o : Option Instr). effect_of_decoded machine o) (outside-decoded word all)
