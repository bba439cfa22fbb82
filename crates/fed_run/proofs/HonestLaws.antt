-- Fed with the lines that the flat list has is the flat run.
use Rattle.std.proofs.Common.{◌≡◌, ℕ, zero, suc, ◌+◌, ◌*◌, ◌/◌, ◌<◌, ◌≤◌, Bool, true, false, if◌then◌else◌, List, []}
use Rattle.std.proofs.Common.{◌∷◌, ◌++◌, Ok, Err, eq-eqb, length, refl, sym, ap, subst, ◌∙◌, arith, append_assoc}
use Rattle.std.specs.List.{All}
use Rattle.std.specs.Int.{from_le_bytes, w32}
use Rattle.asc_base.specs.Memory.{IsMemory}
use Rattle.rv32_core.specs.Access.{spliced}
use Rattle.rv32_core.specs.Machine.{Machine, is_inside, effect_of_word, cost_of_word}
use Rattle.rv32_core.specs.FlatMachine.{FlatStep, bytes_at, effected, trap_at, flat_step}
use Rattle.rv32_core.specs.FlatRun.{Budget, FlatRun, run_from, flat_run}
use Rattle.rv32_core.specs.LineList.{LineUse, fetch_line, word_lines, step_lines}
use Rattle.rv32_core.specs.declared.effect.Effect.TheVariants.{Traps}
use Rattle.rv32_core.specs.declared.outcome.Ended.{Ended}
use Rattle.rv32_core.specs.declared.outcome.Ended.TheVariants.{No, Exit, Trap}
use Rattle.rv32_core.specs.declared.outcome.TrapKind.TheVariants.{FetchFault}
use Rattle.rv32_core.proofs.ItemLaws.{InMemory, step_lines-inside, flat_step-base, flat_step-size}
use Rattle.rv32_core.proofs.FlatRunLaws.{flat_run-zero, flat_run-suc}
use Rattle.rv32_core.proofs.OutputLaws.{step-length}
use Rattle.data_cache.specs.CacheLists.{Sets, sets_after, line_in}
use Rattle.data_cache.proofs.Parts.{patched_own}
use Rattle.fed_run.specs.Fed.{Feed, asks, fed_line, fed_use, fed_uses, fed_after, fed_word, fed_step, Ends, FedRun}
use Rattle.fed_run.specs.Fed.{fed_on, fed_from, fed_run, answers_of, sets_along, answers_on, flat_answers}
use Rattle.fed_run.specs.Fed.{AnotherLine, numbered, NotedLine, fed_map, fed_then}

-- a list of bytes, its lists, and the lines left
abbrev pub fed_by : List ℕ → Sets → List NotedLine → Feed
fed_by memory sets left = record { memory = memory; sets = sets; left = left }

-- the lines lie in the list of bytes
abbrev Fits : List ℕ → List LineUse → Type 0
Fits memory [] = Unit {0}
Fits memory (first ∷ others) = (64 * first.line + 64 ≤ length memory) × Fits memory others

fits-all : (size : ℕ) (memory : List ℕ) (uses : List LineUse) → length memory ≡ size → All (InMemory size) uses
    → Fits memory uses
fits-all size memory [] long all = tt
fits-all size memory (first ∷ others) long all =
    let inside : first.line < size / 64 = all 0 first (omega arith) in
    (omega arith, fits-all size memory others long (λ k d lt. all (suc k) d (omega arith)))

line-honest : (memory : List ℕ) (line : ℕ) (rest : List NotedLine) (b : Bool) → 64 * line + 64 ≤ length memory
    → fed_line memory line ((if b then numbered line (line_in memory line) ∷ [] else []) ++ rest) b ≡ Ok (memory, rest)
line-honest memory line rest false room = refl
line-honest memory line rest true room =
    ap (λ (b : Bool). if b then Ok (spliced memory (64 * line) (line_in memory line), rest) else Err AnotherLine)
    (eq-eqb line line refl)
    ∙ ap (λ (z : List ℕ). Ok (z, rest)) (patched_own memory line room)

use-honest : (ways : ℕ) (memory : List ℕ) (sets : Sets) (first : LineUse) (rest : List NotedLine)
    → 64 * first.line + 64 ≤ length memory
    → fed_use ways (fed_by memory sets
    ((if asks sets first then numbered first.line (line_in memory first.line) ∷ [] else []) ++ rest)) first
    ≡ Ok (fed_by memory (sets_after ways sets first) rest)
use-honest ways memory sets first rest room =
    ap (fed_map (λ (r : List ℕ × List NotedLine). fed_by (r.0) (sets_after ways sets first) (r.1)))
    (line-honest memory first.line rest (asks sets first) room)

uses-honest : (ways : ℕ) (memory : List ℕ) (sets : Sets) (uses : List LineUse) (more : List NotedLine)
    → Fits memory uses
    → fed_uses ways (fed_by memory sets (answers_of ways memory sets uses ++ more)) uses
    ≡ Ok (fed_by memory (sets_along ways sets uses) more)
uses-honest ways memory sets [] more fits = refl
uses-honest ways memory sets (first ∷ others) more fits =
    let one : List NotedLine = if asks sets first then numbered first.line (line_in memory first.line) ∷ [] else [] in
    let rest : List NotedLine = answers_of ways memory (sets_after ways sets first) others in
    ap (λ (l : List NotedLine). fed_then (λ now. fed_uses ways now others)
    (fed_use ways (fed_by memory sets l) first))
    (append_assoc one rest more)
    ∙ ap (fed_then (λ now. fed_uses ways now others)) (use-honest ways memory sets first (rest ++ more) (fits.0))
    ∙ uses-honest ways memory (sets_after ways sets first) others more (fits.1)

word-honest : (ways : ℕ) (machine : Machine) (memory : List ℕ) (sets : Sets) (word : ℕ) (more : List NotedLine)
    → Fits memory (word_lines machine word)
    → fed_word ways machine word (fed_by memory sets (answers_of ways memory sets (word_lines machine word) ++ more))
    ≡ Ok (fed_after (effected machine memory (cost_of_word machine word) (effect_of_word machine word))
    (sets_along ways sets (word_lines machine word)) more)
word-honest ways machine memory sets word more fits =
    ap (fed_map (λ (now : Feed). fed_after (effected machine now.memory (cost_of_word machine word)
    (effect_of_word machine word)) now.sets now.left))
    (uses-honest ways memory sets (word_lines machine word) more fits)

module _ (ways : ℕ) (machine : Machine) (memory : List ℕ) (sets : Sets) (more : List NotedLine) where
  abbrev word : ℕ
  word = from_le_bytes w32 (bytes_at machine memory machine.core.pc 4)

  abbrev lines_if : Bool → List LineUse
  lines_if b = if b then fetch_line machine.core ∷ word_lines machine word else []

  step-if : (b : Bool) → Fits memory (lines_if b)
      → (if b
      then fed_then (λ (now : Feed). fed_word ways machine
      (from_le_bytes w32 (bytes_at machine now.memory machine.core.pc 4)) now)
      (fed_use ways (fed_by memory sets (answers_of ways memory sets (lines_if b) ++ more)) (fetch_line machine.core))
      else Ok (record {
        machine = machine;
        feed = fed_by memory sets (answers_of ways memory sets (lines_if b) ++ more);
        done = trap_at machine.core FetchFault;
      }))
      ≡ Ok (fed_after (if b then effected machine memory (cost_of_word machine word) (effect_of_word machine word)
      else effected machine memory 0 (Traps FetchFault)) (sets_along ways sets (lines_if b)) more)
  step-if false fits = refl
  step-if true fits =
      let first : LineUse = fetch_line machine.core in
      let one : List NotedLine = if asks sets first then numbered first.line (line_in memory first.line) ∷ [] else [] in
      let rest : List NotedLine = answers_of ways memory (sets_after ways sets first) (word_lines machine word) in
      ap (λ (l : List NotedLine). fed_then (λ (now : Feed). fed_word ways machine
      (from_le_bytes w32 (bytes_at machine now.memory machine.core.pc 4)) now)
      (fed_use ways (fed_by memory sets l) first)) (append_assoc one rest more)
      ∙ ap (fed_then (λ (now : Feed). fed_word ways machine
      (from_le_bytes w32 (bytes_at machine now.memory machine.core.pc 4)) now))
      (use-honest ways memory sets first (rest ++ more) (fits.0))
      ∙ word-honest ways machine memory (sets_after ways sets first) word more (fits.1)

  pub step-honest : IsMemory machine.core.base machine.core.size → length memory ≡ machine.core.size
      → fed_step ways machine (fed_by memory sets (answers_of ways memory sets (step_lines machine memory) ++ more))
      ≡ Ok (fed_after (flat_step machine memory) (sets_along ways sets (step_lines machine memory)) more)
  step-honest is long =
      step-if (is_inside machine.core machine.core.pc 4)
      (fits-all machine.core.size memory (step_lines machine memory) long (step_lines-inside machine memory is))

-- what a flat run is as one that is fed
abbrev pub IsFlat : FedRun → FlatRun → List NotedLine → Type 0
IsFlat fed run more =
    (fed.instructions ≡ run.instructions) × (fed.machine ≡ run.machine) × (fed.feed.memory ≡ run.memory)
    × (fed.feed.left ≡ more) × (fed.ending ≡ Ends run.ending)

pub fed_run-zero : (ways : ℕ) (machine : Machine) (feed : Feed)
    → fed_run ways 0 machine feed
    ≡ record { instructions = 0; machine = machine; feed = feed; ending = Ends Budget }
unfolding fed_run
fed_run-zero ways machine feed = refl

pub fed_run-suc : (ways n : ℕ) (machine : Machine) (feed : Feed)
    → fed_run ways (suc n) machine feed ≡ fed_from (fed_run ways n) machine feed (fed_step ways machine feed)
unfolding fed_run
fed_run-suc ways n machine feed = refl

flat_answers-zero : (ways : ℕ) (sets : Sets) (machine : Machine) (memory : List ℕ)
    → flat_answers ways 0 sets machine memory ≡ []
unfolding flat_answers
flat_answers-zero ways sets machine memory = refl

flat_answers-suc : (ways n : ℕ) (sets : Sets) (machine : Machine) (memory : List ℕ)
    → flat_answers ways (suc n) sets machine memory
    ≡ answers_of ways memory sets (step_lines machine memory)
    ++ answers_on (flat_answers ways n (sets_along ways sets (step_lines machine memory))) (flat_step machine memory)
    ((flat_step machine memory).done.ended)
unfolding flat_answers
flat_answers-suc ways n sets machine memory = refl

-- from a step on
on-honest : (ways n : ℕ) (step : FlatStep) (sets : Sets) (more : List NotedLine) (ended : Ended)
    → IsFlat (fed_run ways n step.machine (fed_by step.memory sets
    (flat_answers ways n sets step.machine step.memory ++ more))) (flat_run n step.machine step.memory) more
    → IsFlat
    (fed_on (fed_run ways n) (fed_after step sets (answers_on (flat_answers ways n sets) step ended ++ more)) ended)
    (run_from (flat_run n) step ended) more
on-honest ways n step sets more No h = (ap (λ k. 1 + k) (h.0), h.1, h.2, h.3, h.4)
on-honest ways n step sets more (Exit status) h = (refl, refl, refl, refl, refl)
on-honest ways n step sets more (Trap kind pc) h = (refl, refl, refl, refl, refl)

-- Fed with the lines that the flat list has at each time, and more, is the flat run, and leaves the others.
pub run-honest : (ways n : ℕ) (machine : Machine) (memory : List ℕ) (sets : Sets) (more : List NotedLine)
    → IsMemory machine.core.base machine.core.size → length memory ≡ machine.core.size
    → IsFlat (fed_run ways n machine (fed_by memory sets (flat_answers ways n sets machine memory ++ more)))
    (flat_run n machine memory) more
run-honest ways zero machine memory sets more is long =
    subst (λ (z : FedRun). IsFlat z (flat_run 0 machine memory) more)
    (sym (fed_run-zero ways machine (fed_by memory sets (flat_answers ways 0 sets machine memory ++ more))))
    (subst (λ (z : FlatRun). IsFlat (record {
      instructions = 0;
      machine = machine;
      feed = fed_by memory sets (flat_answers ways 0 sets machine memory ++ more);
      ending = Ends Budget;
    }) z more) (sym (flat_run-zero machine memory))
    (refl, refl, refl, ap (λ (l : List NotedLine). l ++ more) (flat_answers-zero ways sets machine memory), refl))
run-honest ways (suc n) machine memory sets more is long =
    let step : FlatStep = flat_step machine memory in
    let uses : List LineUse = step_lines machine memory in
    let now : Sets = sets_along ways sets uses in
    let later : List NotedLine = answers_on (flat_answers ways n now) step step.done.ended in
    let base : step.machine.core.base ≡ machine.core.base = flat_step-base machine memory in
    let size : step.machine.core.size ≡ machine.core.size = flat_step-size machine memory in
    let still : IsMemory step.machine.core.base step.machine.core.size =
    subst (λ b. IsMemory b step.machine.core.size) (sym base)
    (subst (λ z. IsMemory machine.core.base z) (sym size) is) in
    let same : length step.memory ≡ step.machine.core.size = step-length machine memory long ∙ long ∙ sym size in
    subst (λ (z : FlatRun). IsFlat (fed_run ways (suc n) machine (fed_by memory sets
    (flat_answers ways (suc n) sets machine memory ++ more))) z more) (sym (flat_run-suc n machine memory))
    (subst (λ (z : FedRun). IsFlat z (run_from (flat_run n) step step.done.ended) more)
    (sym (ap (λ (l : List NotedLine). fed_run ways (suc n) machine (fed_by memory sets (l ++ more)))
    (flat_answers-suc ways n sets machine memory)
    ∙ ap (λ (l : List NotedLine). fed_run ways (suc n) machine (fed_by memory sets l))
    (append_assoc (answers_of ways memory sets uses) later more)
    ∙ fed_run-suc ways n machine (fed_by memory sets (answers_of ways memory sets uses ++ (later ++ more)))
    ∙ ap (fed_from (fed_run ways n) machine (fed_by memory sets (answers_of ways memory sets uses ++ (later ++ more))))
    (step-honest ways machine memory sets (later ++ more) is long)))
    (on-honest ways n step now more step.done.ended (run-honest ways n step.machine step.memory now more still same)))
