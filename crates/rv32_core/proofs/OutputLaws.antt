-- A flat run's output is a prefix of a longer one's, and its bytes stay as many.
use Rattle.std.proofs.Common.{◌≡◌, ℕ, suc, zero, ◌+◌, ◌-◌, ◌≤◌, ◌<◌, List, [], ◌∷◌, ◌++◌, IsTrue, length, refl, sym, ap}
use Rattle.std.proofs.Common.{subst, ◌∙◌, append_assoc, append-nil, arith}
use Rattle.std.proofs.lemmas.Grind.{common_steps}
use Rattle.std.specs.Int.{from_le_bytes, w32}
use Rattle.rv32_table.specs.Meaning.{store_width}
use Rattle.rv32_table.specs.declared.instruction.StoreOp.{StoreOp}
use Rattle.rv32_core.specs.Access.{slice_of, spliced, length-spliced}
use Rattle.rv32_core.specs.Machine.{Machine, IsEffect, is_inside, is_buffer, cost_of_word, effect_of_word}
use Rattle.rv32_core.specs.FlatMachine.{FlatStep, flat_step, effected, bytes_at, stored_bytes}
use Rattle.rv32_core.specs.FlatRun.{FlatEnding, Exited, Trapped, Budget, FlatRun, flat_run, run_from, gone_on_from}
use Rattle.rv32_core.specs.declared.effect.Effect.{Effect}
use Rattle.rv32_core.specs.declared.effect.Effect.TheVariants.{Passes, Sets, Jumps, Loads, Stores, Answers, Breaks}
use Rattle.rv32_core.specs.declared.effect.Effect.TheVariants.{Reads, Writes, Exits, Traps}
use Rattle.rv32_core.specs.declared.outcome.Ended.{Ended}
use Rattle.rv32_core.specs.declared.outcome.Ended.TheVariants.{No, Exit, Trap}
use Rattle.rv32_core.specs.declared.outcome.TrapKind.TheVariants.{FetchFault}
use Rattle.rv32_core.proofs.EffectLaws.{is_buffer-above, is_buffer-below, is_inside-above, is_inside-below}
use Rattle.rv32_core.proofs.EffectLaws.{effect_of_word-fine}
use Rattle.rv32_core.proofs.FlatRunLaws.{flat_run-zero, flat_run-suc, flat_run-goes_on}
use Rattle.rv32_core.proofs.ItemLaws.{step-if, flat_step-size}
use Rattle.rv32_core.proofs.PlanLaws.{length-stored_bytes}
use Rattle.rv32_core.proofs.Served.{length-slice_of}

-- ---- the output
-- one output begins with another
abbrev pub Begins : List ℕ → List ℕ → Type 0
Begins whole part = (rest : List ℕ) × (whole ≡ part ++ rest)

begins-same : (out : List ℕ) → Begins out out
begins-same out = ([], sym (append-nil out))

begins-twice : (a b c : List ℕ) → Begins b a → Begins c b → Begins c a
begins-twice a b c one two = (one.0 ++ two.0, two.1 ∙ ap (λ l. l ++ two.0) one.1 ∙ append_assoc a (one.0) (two.0))

effected-output : (machine : Machine) (memory : List ℕ) (cost : ℕ) (effect : Effect)
    → Begins (effected machine memory cost effect).machine.files.output machine.files.output
effected-output machine memory cost Passes = begins-same machine.files.output
effected-output machine memory cost (Sets index value) = begins-same machine.files.output
effected-output machine memory cost (Jumps index target) = begins-same machine.files.output
effected-output machine memory cost (Loads op index address) = begins-same machine.files.output
effected-output machine memory cost (Stores op address value) = begins-same machine.files.output
effected-output machine memory cost (Answers value) = begins-same machine.files.output
effected-output machine memory cost (Breaks value) = begins-same machine.files.output
effected-output machine memory cost (Reads address count) = begins-same machine.files.output
effected-output machine memory cost (Writes address count) = (bytes_at machine memory address count, refl)
effected-output machine memory cost (Exits status) = begins-same machine.files.output
effected-output machine memory cost (Traps kind) = begins-same machine.files.output

pub step-output : (machine : Machine) (memory : List ℕ)
    → Begins (flat_step machine memory).machine.files.output machine.files.output
step-output machine memory =
    let word : ℕ = from_le_bytes w32 (bytes_at machine memory machine.core.pc 4) in
    step-if (λ s. Begins s.machine.files.output machine.files.output) (is_inside machine.core machine.core.pc 4)
    (effected machine memory (cost_of_word machine word) (effect_of_word machine word))
    (effected machine memory 0 (Traps FetchFault))
    (effected-output machine memory (cost_of_word machine word) (effect_of_word machine word))
    (begins-same machine.files.output)

from-output : (rest : Machine → List ℕ → FlatRun) (step : FlatStep) (ended : Ended) (out : List ℕ)
    → ((m : Machine) (memory : List ℕ) → Begins (rest m memory).machine.files.output m.files.output)
    → Begins step.machine.files.output out → Begins (run_from rest step ended).machine.files.output out
from-output rest step No out all first =
    begins-twice out step.machine.files.output (rest step.machine step.memory).machine.files.output first
    (all step.machine step.memory)
from-output rest step (Exit status) out all first = first
from-output rest step (Trap kind pc) out all first = first

-- a run appends to the output
pub run-output : (n : ℕ) (machine : Machine) (memory : List ℕ)
    → Begins (flat_run n machine memory).machine.files.output machine.files.output
run-output zero machine memory =
    subst (λ (r : FlatRun). Begins r.machine.files.output machine.files.output) (sym (flat_run-zero machine memory))
    (begins-same machine.files.output)
run-output (suc n) machine memory =
    let step : FlatStep = flat_step machine memory in
    subst (λ (r : FlatRun). Begins r.machine.files.output machine.files.output) (sym (flat_run-suc n machine memory))
    (from-output (flat_run n) step step.done.ended machine.files.output (run-output n) (step-output machine memory))

gone_on-output : (more : ℕ) (run : FlatRun) (ending : FlatEnding)
    → Begins (gone_on_from more run ending).machine.files.output run.machine.files.output
gone_on-output more run Budget = run-output more run.machine run.memory
gone_on-output more run (Exited status) = begins-same run.machine.files.output
gone_on-output more run (Trapped kind pc) = begins-same run.machine.files.output

-- a longer run's output begins with it
pub longer-output : (n more : ℕ) (machine : Machine) (memory : List ℕ)
    → Begins (flat_run (n + more) machine memory).machine.files.output (flat_run n machine memory).machine.files.output
longer-output n more machine memory =
    let run : FlatRun = flat_run n machine memory in
    subst (λ (r : FlatRun). Begins r.machine.files.output run.machine.files.output)
    (sym (flat_run-goes_on n more machine memory))
    (gone_on-output more run run.ending)

-- ---- the number of bytes
-- no byte is put anywhere
length-spliced-none : (memory : List ℕ) (offset : ℕ) → length (spliced memory offset []) ≡ length memory
length-spliced-none memory offset = grind (arith, common_steps)

-- what the input gives is put into a buffer
length-read : (machine : Machine) (memory : List ℕ) (address count : ℕ) (bytes : List ℕ) → length bytes ≡ count
    → IsTrue (is_buffer machine.core address count) → length memory ≡ machine.core.size
    → length (spliced memory (address - machine.core.base) bytes) ≡ length memory
length-read machine memory address count [] all fits long = length-spliced-none memory (address - machine.core.base)
length-read machine memory address count (b ∷ bytes) all fits long =
    let some : 0 < count = omega (arith, all) in
    let above : machine.core.base ≤ address = is_buffer-above machine.core address count fits some in
    let below : address + count ≤ machine.core.base
    + machine.core.size = is_buffer-below machine.core address count fits some in
    length-spliced memory (address - machine.core.base) (b ∷ bytes) (omega (arith, all, long))

length-stored : (machine : Machine) (memory : List ℕ) (op : StoreOp) (address value : ℕ)
    → IsTrue (is_inside machine.core address (store_width op)) → length memory ≡ machine.core.size
    → length (spliced memory (address - machine.core.base) (stored_bytes op value)) ≡ length memory
length-stored machine memory op address value fits long =
    let above : machine.core.base ≤ address = is_inside-above machine.core address (store_width op) fits in
    let below : address + store_width op ≤ machine.core.base + machine.core.size =
    is_inside-below machine.core address (store_width op) fits in
    let all : length (stored_bytes op value) ≡ store_width op = length-stored_bytes op value in
    length-spliced memory (address - machine.core.base) (stored_bytes op value) (omega (arith, all, long))

effected-length : (machine : Machine) (memory : List ℕ) (cost : ℕ) (effect : Effect) → IsEffect machine effect
    → length memory ≡ machine.core.size → length (effected machine memory cost effect).memory ≡ length memory
effected-length machine memory cost Passes fine long = refl
effected-length machine memory cost (Sets index value) fine long = refl
effected-length machine memory cost (Jumps index target) fine long = refl
effected-length machine memory cost (Loads op index address) fine long = refl
effected-length machine memory cost (Stores op address value) fine long =
    length-stored machine memory op address value fine.1 long
effected-length machine memory cost (Answers value) fine long = refl
effected-length machine memory cost (Breaks value) fine long = refl
effected-length machine memory cost (Reads address count) fine long =
    length-read machine memory address count (slice_of machine.files.input machine.files.position count)
    (length-slice_of machine.files.input machine.files.position count fine.1) fine.0 long
effected-length machine memory cost (Writes address count) fine long = refl
effected-length machine memory cost (Exits status) fine long = refl
effected-length machine memory cost (Traps kind) fine long = refl

-- a step keeps them
pub step-length : (machine : Machine) (memory : List ℕ) → length memory ≡ machine.core.size
    → length (flat_step machine memory).memory ≡ length memory
step-length machine memory long =
    let word : ℕ = from_le_bytes w32 (bytes_at machine memory machine.core.pc 4) in
    step-if (λ s. length s.memory ≡ length memory) (is_inside machine.core machine.core.pc 4)
    (effected machine memory (cost_of_word machine word) (effect_of_word machine word))
    (effected machine memory 0 (Traps FetchFault))
    (effected-length machine memory (cost_of_word machine word) (effect_of_word machine word)
    (effect_of_word-fine machine word) long) refl

from-length : (rest : Machine → List ℕ → FlatRun) (step : FlatStep) (ended : Ended) (count : ℕ)
    → length (rest step.machine step.memory).memory ≡ count → length step.memory ≡ count
    → length (run_from rest step ended).memory ≡ count
from-length rest step No count later now = later
from-length rest step (Exit status) count later now = now
from-length rest step (Trap kind pc) count later now = now

-- and so does a run
pub run-length : (n : ℕ) (machine : Machine) (memory : List ℕ) → length memory ≡ machine.core.size
    → length (flat_run n machine memory).memory ≡ length memory
run-length zero machine memory long = ap (λ (r : FlatRun). length r.memory) (flat_run-zero machine memory)
run-length (suc n) machine memory long =
    let step : FlatStep = flat_step machine memory in
    let now : length step.memory ≡ length memory = step-length machine memory long in
    ap (λ (r : FlatRun). length r.memory) (flat_run-suc n machine memory)
    ∙ from-length (flat_run n) step step.done.ended (length memory)
    (run-length n step.machine step.memory (now ∙ long ∙ sym (flat_step-size machine memory)) ∙ now) now
