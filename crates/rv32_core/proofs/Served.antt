-- Where the bytes are told, a chain of steps of a plan is the plan served by their list, and a step is the flat
-- machine's.
use Rattle.std.proofs.Common.{◌≡◌, ℕ, ◌-◌, ◌≤◌, Bool, true, false, if◌then◌else◌, List, [], Result, Ok, Option, Some}
use Rattle.std.proofs.Common.{length, refl, sym, ap, ◌∙◌, arith}
use Rattle.std.proofs.lemmas.Grind.{common_steps}
use Rattle.std.specs.Int.{from_le_bytes, w32}
use Rattle.request_plan.specs.Plan.{Plan, Done as Outcome, Ask, Ends}
use Rattle.request_plan.specs.Play.{served}
use Rattle.request_plan.proofs.Served.{served-bind}
use Rattle.rv32_core.specs.Access.{Access, Load, Store, IsAnswer, TellsLoad, TellsStore, access_bytes, slice_of}
use Rattle.rv32_core.specs.Machine.{Machine, IsEffect, is_inside, effect_of_word, cost_of_word}
use Rattle.rv32_core.specs.FlatMachine.{FlatStep, going_on, after_read, after_write, effected, flat_step}
use Rattle.rv32_core.specs.StepPlan.{effect_plan, word_plan, step_plan, TellsStep}
use Rattle.rv32_core.specs.Transfer.{pieces, stores_plan, loads_plan}
use Rattle.rv32_core.specs.declared.effect.Effect.{Effect}
use Rattle.rv32_core.specs.declared.effect.Effect.TheVariants.{Passes, Sets, Jumps, Loads, Stores, Answers, Breaks}
use Rattle.rv32_core.specs.declared.effect.Effect.TheVariants.{Reads, Writes, Exits, Traps}
use Rattle.rv32_core.specs.declared.outcome.Done.{Done}
use Rattle.rv32_core.specs.declared.outcome.TrapKind.TheVariants.{FetchFault}
use Rattle.rv32_core.proofs.EffectLaws.{is_buffer-above, effect_of_word-fine}
use Rattle.rv32_core.proofs.TransferLaws.{served-stores_plan, served-loads_plan}

-- the machine and the answer of a flat step, and its bytes
abbrev pub parts_of : FlatStep → (Machine × Done) × List ℕ
parts_of step = ((step.machine, step.done), step.memory)

-- so many bytes of a list that has them
pub length-slice_of : (list : List ℕ) (offset count : ℕ) → count ≤ length list - offset
    → length (slice_of list offset count) ≡ count
length-slice_of list offset count fits = grind (arith, common_steps)

-- an effect's plan is served by a list of bytes to what the effect makes of it
pub served-effect_plan : (machine : Machine) (memory : List ℕ) (cost : ℕ) (effect : Effect) → IsEffect machine effect
    → served (access_bytes machine.core.base) (effect_plan machine cost effect) memory
    ≡ parts_of (effected machine memory cost effect)
served-effect_plan machine memory cost Passes fine = refl
served-effect_plan machine memory cost (Sets index value) fine = refl
served-effect_plan machine memory cost (Jumps index target) fine = refl
served-effect_plan machine memory cost (Loads op index address) fine = refl
served-effect_plan machine memory cost (Stores op address value) fine = refl
served-effect_plan machine memory cost (Answers value) fine = refl
served-effect_plan machine memory cost (Breaks value) fine = refl
served-effect_plan machine memory cost (Reads address count) fine =
    let base = machine.core.base in
    let bytes : List ℕ = slice_of machine.files.input machine.files.position count in
    let all : length bytes ≡ count = length-slice_of machine.files.input machine.files.position count fine.1 in
    served-bind (access_bytes base) (λ _. machine) (stores_plan bytes (pieces address count))
    (λ _. Outcome (after_read machine count, going_on cost)) memory
    ∙ ap (λ (r : Unit {0} × List ℕ). let end : (Machine × Done)
    × List ℕ = ((after_read machine count, going_on cost), r.1) in end)
    (served-stores_plan base address count bytes memory all (is_buffer-above machine.core address count fine.0))
served-effect_plan machine memory cost (Writes address count) fine =
    let base = machine.core.base in
    served-bind (access_bytes base) (λ _. machine) (loads_plan machine.files.output (pieces address count))
    (λ output. Outcome (after_write machine output count, going_on cost)) memory
    ∙ ap (λ (r : List ℕ × List ℕ). let end : (Machine × Done)
    × List ℕ = ((after_write machine (r.0) count, going_on cost), r.1) in end)
    (served-loads_plan base address count machine.files.output memory
    (is_buffer-above machine.core address count fine.0))
served-effect_plan machine memory cost (Exits status) fine = refl
served-effect_plan machine memory cost (Traps kind) fine = refl

-- the two ways of a fetch
served-fetch : (machine : Machine) (memory : List ℕ) (fits : Bool)
    → served (access_bytes machine.core.base) (if fits then Ask (Load machine.core.pc 4) machine
    (λ bytes. word_plan machine (from_le_bytes w32 bytes)) else effect_plan machine 0 (Traps FetchFault)) memory
    ≡ parts_of (let word : ℕ = from_le_bytes w32 (slice_of memory (machine.core.pc - machine.core.base) 4)
    in if fits then effected machine memory (cost_of_word machine word)
    (effect_of_word machine word) else effected machine memory 0 (Traps FetchFault))
served-fetch machine memory true =
    let word : ℕ = from_le_bytes w32 (slice_of memory (machine.core.pc - machine.core.base) 4) in
    served-effect_plan machine memory (cost_of_word machine word) (effect_of_word machine word)
    (effect_of_word-fine machine word)
served-fetch machine memory false = refl

-- a step's plan is served by a list of bytes to the step of the flat machine
pub served-step_plan : (machine : Machine) (memory : List ℕ)
    → served (access_bytes machine.core.base) (step_plan machine) memory ≡ parts_of (flat_step machine memory)
served-step_plan machine memory = served-fetch machine memory (is_inside machine.core machine.core.pc 4)

-- a flat step with these parts is this one
pub flat_step-is : (machine : Machine) (memory : List ℕ) (end : (Machine × Done) × List ℕ)
    → served (access_bytes machine.core.base) (step_plan machine) memory ≡ end
    → flat_step machine memory ≡ record { machine = (end.0).0; memory = end.1; done = (end.0).1 }
flat_step-is machine memory end e =
    ap (λ (r : (Machine × Done) × List ℕ). let step : FlatStep = record {
      machine = (r.0).0;
      memory = r.1;
      done = (r.0).1;
    } in step)
    (sym (served-step_plan machine memory) ∙ e)

module _ {S E : Type 0} (step : S → Access → Result (List ℕ) E → S → Type 0) (base : S → ℕ) (told : S → Option (List ℕ))
    (keeps_base : (s t : S) (access : Access) (answer : Result (List ℕ) E) → step s access answer t → base t ≡ base s)
    (answers : (s t : S) (access : Access) (bytes : List ℕ) → step s access (Ok bytes) t → IsAnswer access bytes)
    (tells_load : (s t : S) (address count : ℕ) (bytes : List ℕ) → step s (Load address count) (Ok bytes) t
    → TellsLoad (base s) (told s) address count bytes (told t))
    (tells_store : (s t : S) (address : ℕ) (bytes done : List ℕ) → step s (Store address bytes) (Ok done) t
    → TellsStore (base s) (told s) address bytes (told t)) where
  -- where a chain's end is told, its start was told, and its plan is served from there to the end
  pub Ends-told : (start : ℕ) {B A : Type 0} (p : Plan Access (List ℕ) B A) (s t : S) (a : A)
      → base s ≡ start → Ends step p s t a → (after : List ℕ) → told t ≡ Some after
      → (before : List ℕ) × (told s ≡ Some before) × (served (access_bytes start) p before ≡ (a, after))
  Ends-told start {B} {A} (Outcome x) s t a same h after e =
      (after, ap told (sym h.1) ∙ e, (let is : a ≡ x = h.0 in ap (λ (z : A). (z, after)) (sym is)))
  Ends-told start (Ask (Load address count) b k) s t a same h after e =
      let rest = Ends-told start (k (h.0)) (h.1) t a (keeps_base s (h.1) (Load address count) (Ok (h.0)) (h.2)
      ∙ same) (h.3) after e in
      let first = tells_load s (h.1) address count (h.0) (h.2) (rest.0) (rest.1) in
      let is : h.0 ≡ slice_of (rest.0) (address - start) count =
      first.1 ∙ ap (λ n. slice_of (rest.0) (address - n) count) same
      in
      (rest.0, first.0, ap (λ bytes. served (access_bytes start) (k bytes) (rest.0)) (sym is) ∙ rest.2)
  Ends-told start (Ask (Store address bytes) b k) s t a same h after e =
      let rest = Ends-told start (k (h.0)) (h.1) t a (keeps_base s (h.1) (Store address bytes) (Ok (h.0)) (h.2)
      ∙ same) (h.3) after e in
      let first = tells_store s (h.1) address bytes (h.0) (h.2) (rest.0) (rest.1) in
      let none : h.0 ≡ [] = answers s (h.1) (Store address bytes) (h.0) (h.2) in
      let is : (access_bytes start (first.0) (Store address bytes)).1 ≡ rest.0 =
      ap (λ n. (access_bytes n (first.0) (Store address bytes)).1) (sym same) ∙ sym first.2
      in (
        first.0,
        first.1,
        ap (λ m. served (access_bytes start) (k []) m) is
            ∙ ap (λ done. served (access_bytes start) (k done) (rest.0)) (sym none)
            ∙ rest.2,
      )

  -- where the bytes are told after a step, it is the flat machine's step on what was told before
  pub told_step : (machine next : Machine) (s t : S) (done : Done) → base s ≡ machine.core.base
      → Ends step (step_plan machine) s t (next, done) → TellsStep machine (told s) next (told t) done
  told_step machine next s t done same h after e =
      let r = Ends-told (machine.core.base) (step_plan machine) s t (next, done) same h after e in
      (r.0, r.1, flat_step-is machine (r.0) ((next, done), after) r.2)
