-- The items of a run: step by step, in parts, and that their lines rise and lie in the memory.
use Rattle.std.proofs.Common.{◌≡◌, ℕ, ◌+◌, ◌-◌, ◌/◌, ◌%◌, ◌<◌, ◌≤◌, Bool, true, false, if◌then◌else◌, List, [], ◌∷◌}
use Rattle.std.proofs.Common.{◌++◌, map, refl, sym, ap, subst, ◌∙◌, arith, zero, suc, append-nil, append_assoc}
use Rattle.std.specs.Prelude.{All, AllPairs}
use Rattle.std.specs.Int.{from_le_bytes, w32}
use Rattle.std.proofs.lemmas.List.Elements.{All-nil, All-cons, All-append}
use Rattle.std.proofs.lemmas.List.Kept.{AllPairs-cons}
use Rattle.asc_base.specs.Memory.{IsMemory}
use Rattle.rv32_table.specs.Meaning.{load_width, store_width}
use Rattle.rv32_core.specs.Machine.{CoreState, Machine, IsEffect, is_inside, effect_of_word, cost_of_word}
use Rattle.rv32_core.specs.FlatMachine.{FlatStep, bytes_at, effected, flat_step}
use Rattle.rv32_core.specs.FlatRun.{Budget, FlatRun, run_from, flat_run}
use Rattle.rv32_core.specs.LineList.{LineKind, Read, Write, WholeWrite, LineUse, LineItem, line_of, lines_from}
use Rattle.rv32_core.specs.LineList.{lines_of, used, data_lines, word_lines, fetch_line, step_lines, items_after}
use Rattle.rv32_core.specs.LineList.{items_from, run_items, image_items, cost_after}
use Rattle.rv32_core.specs.declared.effect.Effect.{Effect}
use Rattle.rv32_core.specs.declared.effect.Effect.TheVariants.{Passes, Sets, Jumps, Loads, Stores, Answers, Breaks}
use Rattle.rv32_core.specs.declared.effect.Effect.TheVariants.{Reads, Writes, Exits, Traps}
use Rattle.rv32_core.specs.declared.outcome.Done.{Done}
use Rattle.rv32_core.specs.declared.outcome.Ended.{Ended}
use Rattle.rv32_core.specs.declared.outcome.Ended.TheVariants.{No, Exit, Trap}
use Rattle.rv32_core.specs.declared.outcome.TrapKind.TheVariants.{FetchFault}
use Rattle.rv32_core.proofs.FlatRunLaws.{flat_run-zero, flat_run-suc}
use Rattle.rv32_core.proofs.LineLaws.{lines_of-some, lines_from-more, lines_from-none}
use Rattle.rv32_core.proofs.EffectLaws.{effect_of_word-fine}
use Rattle.rv32_core.proofs.StepLines.{IsPlace, is_inside-place, load-place, store-place, is_buffer-place}

-- ---- a run's items step by step
pub run_items-none : (cost : ℕ) (machine : Machine) (memory : List ℕ) → run_items 0 cost machine memory ≡ []
unfolding run_items
run_items-none cost machine memory = refl

pub run_items-suc : (n cost : ℕ) (machine : Machine) (memory : List ℕ)
    → run_items (suc n) cost machine memory
    ≡ items_after cost (step_lines machine memory) ++ items_from (run_items n) (flat_step machine memory)
    ((flat_step machine memory).done.ended)
unfolding run_items
run_items-suc n cost machine memory = refl

pub run_items-next : (n cost : ℕ) (machine next : Machine) (memory after : List ℕ) (done : Done)
    → flat_step machine memory ≡ record { machine = next; memory = after; done = done } → done.ended ≡ No
    → run_items (suc n) cost machine memory ≡ items_after cost (step_lines machine memory)
    ++ run_items n done.cost next after
run_items-next n cost machine next memory after done e goes =
    let step : FlatStep = record { machine = next; memory = after; done = done } in
    run_items-suc n cost machine memory
    ∙ ap (λ (s : FlatStep). items_after cost (step_lines machine memory) ++ items_from (run_items n) s (s.done.ended)) e
    ∙ ap (λ (ended : Ended). items_after cost (step_lines machine memory) ++ items_from (run_items n) step ended) goes

items_from-last : (rest : ℕ → Machine → List ℕ → List LineItem) (step : FlatStep) (ended : Ended) → (ended ≡ No → ⊥)
    → items_from rest step ended ≡ []
items_from-last rest step No h = absurd (h refl)
items_from-last rest step (Exit status) h = refl
items_from-last rest step (Trap kind pc) h = refl

pub run_items-last : (n cost : ℕ) (machine next : Machine) (memory after : List ℕ) (done : Done)
    → flat_step machine memory ≡ record { machine = next; memory = after; done = done } → (done.ended ≡ No → ⊥)
    → run_items (suc n) cost machine memory ≡ items_after cost (step_lines machine memory)
run_items-last n cost machine next memory after done e ends =
    let step : FlatStep = record { machine = next; memory = after; done = done } in
    run_items-suc n cost machine memory
    ∙ ap (λ (s : FlatStep). items_after cost (step_lines machine memory) ++ items_from (run_items n) s (s.done.ended)) e
    ∙ ap (λ l. items_after cost (step_lines machine memory) ++ l) (items_from-last (run_items n) step done.ended ends)
    ∙ append-nil (items_after cost (step_lines machine memory))

-- ---- a run's items in parts
cost_after-none : (cost : ℕ) (machine : Machine) (memory : List ℕ) → cost_after 0 cost machine memory ≡ cost
unfolding cost_after
cost_after-none cost machine memory = refl

cost_after-suc : (n cost : ℕ) (machine : Machine) (memory : List ℕ)
    → cost_after (suc n) cost machine memory
    ≡ cost_after n ((flat_step machine memory).done.cost) ((flat_step machine memory).machine)
    ((flat_step machine memory).memory)
unfolding cost_after
cost_after-suc n cost machine memory = refl

-- the items of a run from its end on, after so many cycles
abbrev items_beyond : ℕ → ℕ → FlatRun → List LineItem
items_beyond more cost run = run_items more cost run.machine run.memory

-- the parts of a step and what follows it, by how it ended
parts_from : (n more : ℕ) (front : List LineItem) (step : FlatStep) (ended : Ended)
    → ((flat_run n step.machine step.memory).ending ≡ Budget
    → run_items (n + more) step.done.cost step.machine step.memory
    ≡ run_items n step.done.cost step.machine step.memory
    ++ items_beyond more (cost_after n step.done.cost step.machine step.memory) (flat_run n step.machine step.memory))
    → (run_from (flat_run n) step ended).ending ≡ Budget
    → front ++ items_from (run_items (n + more)) step ended
    ≡ (front ++ items_from (run_items n) step ended)
    ++ items_beyond more (cost_after n step.done.cost step.machine step.memory) (run_from (flat_run n) step ended)
parts_from n more front step No later budget =
    ap (λ l. front ++ l) (later budget)
    ∙ sym (append_assoc front (run_items n step.done.cost step.machine step.memory)
    (items_beyond more (cost_after n step.done.cost step.machine step.memory) (flat_run n step.machine step.memory)))
parts_from n more front step (Exit status) later budget = absurd (cc)
parts_from n more front step (Trap kind pc) later budget = absurd (cc)

run_items-beyond : (n more cost : ℕ) (machine : Machine) (memory : List ℕ) → (flat_run n machine memory).ending ≡ Budget
    → run_items (n + more) cost machine memory
    ≡ run_items n cost machine memory ++ items_beyond more (cost_after n cost machine memory)
    (flat_run n machine memory)
run_items-beyond zero more cost machine memory budget =
    ap (λ n. run_items n cost machine memory) (let e : 0 + more ≡ more = omega arith in e)
    ∙ ap (λ n. run_items more n machine memory) (sym (cost_after-none cost machine memory))
    ∙ ap (λ (run : FlatRun). items_beyond more (cost_after 0 cost machine memory) run)
    (sym (flat_run-zero machine memory))
    ∙ ap (λ l. l ++ items_beyond more (cost_after 0 cost machine memory) (flat_run 0 machine memory))
    (sym (run_items-none cost machine memory))
run_items-beyond (suc n) more cost machine memory budget =
    let step : FlatStep = flat_step machine memory in
    let front : List LineItem = items_after cost (step_lines machine memory) in
    let whole : (run_from (flat_run n) step (step.done.ended)).ending ≡ Budget =
    ap (λ (run : FlatRun). run.ending) (sym (flat_run-suc n machine memory)) ∙ budget in
    ap (λ k. run_items k cost machine memory) (let e : suc n + more ≡ suc (n + more) = omega arith in e)
    ∙ run_items-suc (n + more) cost machine memory
    ∙ parts_from n more front step (step.done.ended)
    (run_items-beyond n more step.done.cost step.machine step.memory) whole
    ∙ ap (λ (run : FlatRun). (front ++ items_from (run_items n) step (step.done.ended))
    ++ items_beyond more (cost_after n step.done.cost step.machine step.memory) run)
    (sym (flat_run-suc n machine memory))
    ∙ ap (λ k. (front ++ items_from (run_items n) step (step.done.ended))
    ++ items_beyond more k (flat_run (suc n) machine memory))
    (sym (cost_after-suc n cost machine memory))
    ∙ ap (λ l. l ++ items_beyond more (cost_after (suc n) cost machine memory) (flat_run (suc n) machine memory))
    (sym (run_items-suc n cost machine memory))

pub run_items-parts : (n more cost : ℕ) (machine : Machine) (memory : List ℕ)
    → (flat_run n machine memory).ending ≡ Budget
    → run_items (n + more) cost machine memory
    ≡ run_items n cost machine memory
    ++ run_items more (cost_after n cost machine memory) ((flat_run n machine memory).machine)
    ((flat_run n machine memory).memory)
run_items-parts n more cost machine memory budget = run_items-beyond n more cost machine memory budget

-- ---- the image's items
pub image_items-none : (cost : ℕ) → image_items cost [] ≡ []
unfolding image_items
image_items-none cost = refl

pub image_items-next : (cost line : ℕ) (marked : List ℕ)
    → image_items cost (line ∷ marked) ≡ items_after cost (used WholeWrite (line ∷ [])) ++ image_items 1 marked
unfolding image_items
image_items-next cost line marked = refl

pub image_items-uses : (cost : ℕ) (marked : List ℕ)
    → map (λ (item : LineItem). item.use_of) (image_items cost marked) ≡ used WholeWrite marked
image_items-uses cost [] = ap (map (λ (item : LineItem). item.use_of)) (image_items-none cost)
image_items-uses cost (line ∷ marked) =
    ap (map (λ (item : LineItem). item.use_of)) (image_items-next cost line marked)
    ∙ ap (λ l. (let first : LineUse = record { line = line; kind = WholeWrite } in first) ∷ l)
    (image_items-uses 1 marked)

-- ---- lines rise, and lie in the memory
-- the one use is of a lower line
abbrev pub Below : LineUse → LineUse → Type 0
Below first later = first.line < later.line

-- a line of a memory of this size
abbrev pub InMemory : ℕ → LineUse → Type 0
InMemory size one = one.line < size / 64

lines_from-above : (kind : LineKind) (first : LineUse) (line n : ℕ) → first.line < line
    → All (Below first) (used kind (lines_from line n))
lines_from-above kind first line zero h =
    subst (λ l. All (Below first) (used kind l)) (sym (lines_from-none line)) (All-nil (Below first))
lines_from-above kind first line (suc n) h =
    subst (λ l. All (Below first) (used kind l)) (sym (lines_from-more line n))
    (All-cons (Below first) (record { line = line; kind = kind }) (used kind (lines_from (line + 1) n)) h
    (lines_from-above kind first (line + 1) n (omega arith)))

pairs-none : AllPairs Below []
pairs-none = λ i j d less below. absurd (omega arith)

lines_from-rising : (kind : LineKind) (line n : ℕ) → AllPairs Below (used kind (lines_from line n))
lines_from-rising kind line zero = subst (λ l. AllPairs Below (used kind l)) (sym (lines_from-none line)) pairs-none
lines_from-rising kind line (suc n) =
    let first : LineUse = record { line = line; kind = kind } in
    subst (λ l. AllPairs Below (used kind l)) (sym (lines_from-more line n))
    (AllPairs-cons Below first (used kind (lines_from (line + 1) n))
    (lines_from-above kind first (line + 1) n (omega arith)) (lines_from-rising kind (line + 1) n))

lines_of-rising : (core : CoreState) (kind : LineKind) (address count : ℕ)
    → AllPairs Below (used kind (lines_of core address count))
lines_of-rising core kind address zero = pairs-none
lines_of-rising core kind address (suc n) =
    subst (λ l. AllPairs Below (used kind l)) (sym (lines_of-some core address (suc n) (omega arith)))
    (lines_from-rising kind (line_of core address) (line_of core (address + suc n - 1) + 1 - line_of core address))

data_lines-rising : (core : CoreState) (effect : Effect) → AllPairs Below (data_lines core effect)
data_lines-rising core Passes = pairs-none
data_lines-rising core (Sets index value) = pairs-none
data_lines-rising core (Jumps index target) = pairs-none
data_lines-rising core (Loads op index address) = lines_of-rising core Read address (load_width op)
data_lines-rising core (Stores op address value) = lines_of-rising core Write address (store_width op)
data_lines-rising core (Answers value) = pairs-none
data_lines-rising core (Breaks value) = pairs-none
data_lines-rising core (Reads address count) = lines_of-rising core Write address count
data_lines-rising core (Writes address count) = lines_of-rising core Read address count
data_lines-rising core (Exits status) = pairs-none
data_lines-rising core (Traps kind) = pairs-none

pub word_lines-rising : (machine : Machine) (word : ℕ) → AllPairs Below (word_lines machine word)
word_lines-rising machine word = data_lines-rising machine.core (effect_of_word machine word)

lines_from-inside : (size : ℕ) (kind : LineKind) (line n : ℕ) → line + n ≤ size / 64
    → All (InMemory size) (used kind (lines_from line n))
lines_from-inside size kind line zero h =
    subst (λ l. All (InMemory size) (used kind l)) (sym (lines_from-none line)) (All-nil (InMemory size))
lines_from-inside size kind line (suc n) h =
    subst (λ l. All (InMemory size) (used kind l)) (sym (lines_from-more line n))
    (All-cons (InMemory size) (record { line = line; kind = kind }) (used kind (lines_from (line + 1) n)) (omega arith)
    (lines_from-inside size kind (line + 1) n (omega arith)))

lines_of-inside : (core : CoreState) (kind : LineKind) (address count : ℕ) → core.size % 64 ≡ 0
    → IsPlace core address count
    → All (InMemory core.size) (used kind (lines_of core address count))
lines_of-inside core kind address zero lines place = All-nil (InMemory core.size)
lines_of-inside core kind address (suc n) lines place =
    let low : core.base ≤ address = place.above (omega arith) in
    let high : address + suc n ≤ core.base + core.size = place.below (omega arith) in
    subst (λ l. All (InMemory core.size) (used kind l)) (sym (lines_of-some core address (suc n) (omega arith)))
    (lines_from-inside core.size kind (line_of core address) (line_of core (address + suc n - 1)
    + 1 - line_of core address) (omega arith))

data_lines-inside : (machine : Machine) (effect : Effect) → machine.core.size % 64 ≡ 0 → IsEffect machine effect
    → All (InMemory machine.core.size) (data_lines machine.core effect)
data_lines-inside machine Passes lines h = All-nil (InMemory machine.core.size)
data_lines-inside machine (Sets index value) lines h = All-nil (InMemory machine.core.size)
data_lines-inside machine (Jumps index target) lines h = All-nil (InMemory machine.core.size)
data_lines-inside machine (Loads op index address) lines h =
    lines_of-inside machine.core Read address (load_width op) lines (load-place machine op index address h)
data_lines-inside machine (Stores op address value) lines h =
    lines_of-inside machine.core Write address (store_width op) lines (store-place machine op address value h)
data_lines-inside machine (Answers value) lines h = All-nil (InMemory machine.core.size)
data_lines-inside machine (Breaks value) lines h = All-nil (InMemory machine.core.size)
data_lines-inside machine (Reads address count) lines h =
    lines_of-inside machine.core Write address count lines (is_buffer-place machine.core address count (h.0))
data_lines-inside machine (Writes address count) lines h =
    lines_of-inside machine.core Read address count lines (is_buffer-place machine.core address count (h.0))
data_lines-inside machine (Exits status) lines h = All-nil (InMemory machine.core.size)
data_lines-inside machine (Traps kind) lines h = All-nil (InMemory machine.core.size)

size-lines : (base size : ℕ) → IsMemory base size → size % 64 ≡ 0
size-lines base size memory = let pages : size % 4096 ≡ 0 = memory.size_pages in omega arith

-- the lines of a step, by whether its fetch is inside
step_lines-if : (core : CoreState) (lower : List LineUse) (test : Bool) → core.size % 64 ≡ 0
    → (test ≡ true → IsPlace core core.pc 4)
    → All (InMemory core.size) lower → All (InMemory core.size) (if test then fetch_line core ∷ lower else [])
step_lines-if core lower false lines h g = All-nil (InMemory core.size)
step_lines-if core lower true lines h g =
    let place : IsPlace core core.pc 4 = h refl in
    let low : core.base ≤ core.pc = place.above (omega arith) in
    let high : core.pc + 4 ≤ core.base + core.size = place.below (omega arith) in
    All-cons (InMemory core.size) (fetch_line core) lower (omega arith) g

pub step_lines-inside : (machine : Machine) (memory : List ℕ) → IsMemory machine.core.base machine.core.size
    → All (InMemory machine.core.size) (step_lines machine memory)
step_lines-inside machine memory fits =
    let core = machine.core in
    let lines : core.size % 64 ≡ 0 = size-lines core.base core.size fits in
    let word : ℕ = from_le_bytes w32 (bytes_at machine memory core.pc 4) in
    step_lines-if core (word_lines machine word) (is_inside core core.pc 4) lines (is_inside-place core core.pc 4)
    (data_lines-inside machine (effect_of_word machine word) lines (effect_of_word-fine machine word))

items_after-inside : (size cost : ℕ) (lines : List LineUse) → All (InMemory size) lines
    → All (λ (item : LineItem). item.use_of.line < size / 64) (items_after cost lines)
items_after-inside size cost [] h = All-nil (λ (item : LineItem). item.use_of.line < size / 64)
items_after-inside size cost (first ∷ others) h =
    All-cons (λ (item : LineItem). item.use_of.line < size / 64) (record { cost = cost; use_of = first })
    (items_after 0 others)
    (h 0 first (omega arith)) (items_after-inside size 0 others (λ k d below. h (suc k) d (omega arith)))

-- a step leaves the memory where it is
effected-base : (machine : Machine) (memory : List ℕ) (cost : ℕ) (effect : Effect)
    → (effected machine memory cost effect).machine.core.base ≡ machine.core.base
effected-base machine memory cost Passes = refl
effected-base machine memory cost (Sets index value) = refl
effected-base machine memory cost (Jumps index target) = refl
effected-base machine memory cost (Loads op index address) = refl
effected-base machine memory cost (Stores op address value) = refl
effected-base machine memory cost (Answers value) = refl
effected-base machine memory cost (Breaks value) = refl
effected-base machine memory cost (Reads address count) = refl
effected-base machine memory cost (Writes address count) = refl
effected-base machine memory cost (Exits status) = refl
effected-base machine memory cost (Traps kind) = refl

effected-size : (machine : Machine) (memory : List ℕ) (cost : ℕ) (effect : Effect)
    → (effected machine memory cost effect).machine.core.size ≡ machine.core.size
effected-size machine memory cost Passes = refl
effected-size machine memory cost (Sets index value) = refl
effected-size machine memory cost (Jumps index target) = refl
effected-size machine memory cost (Loads op index address) = refl
effected-size machine memory cost (Stores op address value) = refl
effected-size machine memory cost (Answers value) = refl
effected-size machine memory cost (Breaks value) = refl
effected-size machine memory cost (Reads address count) = refl
effected-size machine memory cost (Writes address count) = refl
effected-size machine memory cost (Exits status) = refl
effected-size machine memory cost (Traps kind) = refl

-- what holds of both steps that a test chooses from
pub step-if : (P : FlatStep → Type 0) (test : Bool) (first other : FlatStep) → P first → P other
    → P (if test then first else other)
step-if P true first other h g = h
step-if P false first other h g = g

pub flat_step-base : (machine : Machine) (memory : List ℕ)
    → (flat_step machine memory).machine.core.base ≡ machine.core.base
flat_step-base machine memory =
    let word : ℕ = from_le_bytes w32 (bytes_at machine memory machine.core.pc 4) in
    step-if (λ s. s.machine.core.base ≡ machine.core.base) (is_inside machine.core machine.core.pc 4)
    (effected machine memory (cost_of_word machine word) (effect_of_word machine word))
    (effected machine memory 0 (Traps FetchFault))
    (effected-base machine memory (cost_of_word machine word) (effect_of_word machine word)) refl

pub flat_step-size : (machine : Machine) (memory : List ℕ)
    → (flat_step machine memory).machine.core.size ≡ machine.core.size
flat_step-size machine memory =
    let word : ℕ = from_le_bytes w32 (bytes_at machine memory machine.core.pc 4) in
    step-if (λ s. s.machine.core.size ≡ machine.core.size) (is_inside machine.core machine.core.pc 4)
    (effected machine memory (cost_of_word machine word) (effect_of_word machine word))
    (effected machine memory 0 (Traps FetchFault))
    (effected-size machine memory (cost_of_word machine word) (effect_of_word machine word)) refl

items_from-inside : (size : ℕ) (rest : ℕ → Machine → List ℕ → List LineItem) (step : FlatStep) (ended : Ended)
    → All (λ (item : LineItem). item.use_of.line < size / 64) (rest step.done.cost step.machine step.memory)
    → All (λ (item : LineItem). item.use_of.line < size / 64) (items_from rest step ended)
items_from-inside size rest step No h = h
items_from-inside size rest step (Exit status) h = All-nil (λ (item : LineItem). item.use_of.line < size / 64)
items_from-inside size rest step (Trap kind pc) h = All-nil (λ (item : LineItem). item.use_of.line < size / 64)

pub run_items-inside : (n cost base size : ℕ) (machine : Machine) (memory : List ℕ) → machine.core.base ≡ base
    → machine.core.size ≡ size
    → IsMemory base size → All (λ (item : LineItem). item.use_of.line < size / 64) (run_items n cost machine memory)
run_items-inside zero cost base size machine memory at long fits =
    subst (All (λ (item : LineItem). item.use_of.line < size / 64)) (sym (run_items-none cost machine memory))
    (All-nil (λ (item : LineItem). item.use_of.line < size / 64))
run_items-inside (suc n) cost base size machine memory at long fits =
    let step : FlatStep = flat_step machine memory in
    let own : IsMemory machine.core.base machine.core.size = subst
    (λ b. IsMemory b machine.core.size) (sym at) (subst (IsMemory base) (sym long) fits) in
    let first : All (InMemory size) (step_lines machine memory) =
    subst (λ k. All (InMemory k) (step_lines machine memory)) long (step_lines-inside machine memory own) in
    subst (All (λ (item : LineItem). item.use_of.line < size / 64)) (sym (run_items-suc n cost machine memory))
    (All-append (λ (item : LineItem). item.use_of.line < size / 64) (items_after cost (step_lines machine memory))
    (items_from (run_items n) step (step.done.ended)) (items_after-inside size cost (step_lines machine memory) first)
    (items_from-inside size (run_items n) step (step.done.ended)
    (run_items-inside n step.done.cost base size step.machine step.memory
    (flat_step-base machine memory ∙ at) (flat_step-size machine memory ∙ long) fits)))
