-- What a host call's plan comes to, from the stores or loads that it makes.
use Rattle.std.proofs.Common.{◌≡◌, ℕ, Bool, true, if◌then◌else◌, List, Result, Ok, refl, sym, ap, subst, ◌∙◌, inr}
use Rattle.std.specs.Prelude.{Option}
use Rattle.std.specs.Int.{from_le_bytes, w32}
use Rattle.rv32_table.specs.Table.{decoded}
use Rattle.rv32_table.specs.declared.instruction.Instr.{Instr}
use Rattle.request_plan.specs.Plan.{Done as Outcome, Ask, Ends, Stops}
use Rattle.request_plan.proofs.Chains.{Ends-bind, Stops-bind}
use Rattle.rv32_core.specs.Access.{Access, Load, slice_of}
use Rattle.rv32_core.specs.Machine.{CoreState, FilesState, Machine, is_inside, effect_of_decoded, cost_of_decoded}
use Rattle.rv32_core.specs.FlatMachine.{going_on, after_read, after_write}
use Rattle.rv32_core.specs.Transfer.{pieces, stores_plan, loads_plan}
use Rattle.rv32_core.specs.StepPlan.{machine_of, effect_plan, word_plan, step_plan}
use Rattle.rv32_core.specs.declared.effect.Effect.{Effect}
use Rattle.rv32_core.specs.declared.effect.Effect.TheVariants.{Reads, Writes, Traps}
use Rattle.rv32_core.specs.declared.outcome.Done.{Done}
use Rattle.rv32_core.specs.declared.outcome.TrapKind.TheVariants.{FetchFault}

-- a core and its files that are these
pub machine_of-same : (core core' : CoreState) (files files' : FilesState) → core ≡ core' → files ≡ files'
    → machine_of core files ≡ machine_of core' files'
machine_of-same core core' files files' c f = ap (λ (x : CoreState). machine_of x files) c
    ∙ ap (λ (x : FilesState). machine_of core' x) f

module _ {S E : Type 0} (step : S → Access → Result (List ℕ) E → S → Type 0) where
  -- the stores of a read were made
  pub read-ends : (machine next : Machine) (cost : ℕ) (effect : Effect) (address count : ℕ) (done : Done) (s t : S)
      → effect ≡ Reads address count → next ≡ after_read machine count → done ≡ going_on cost
      → Ends step (stores_plan (slice_of machine.files.input machine.files.position count)
      (pieces address count)) s t tt
      → Ends step (effect_plan machine cost effect) s t (next, done)
  read-ends machine next cost effect address count done s t is after same stores =
      let made : ◌≡◌ {A = Machine × Done} (next, done) (after_read machine count, going_on cost) =
      ap (λ (m : Machine). (m, done)) after ∙ ap (λ (d : Done). (after_read machine count, d)) same
      in
      subst (λ (e : Effect). Ends step (effect_plan machine cost e) s t (next, done)) (sym is)
      (Ends-bind step (λ _. machine) (stores_plan (slice_of machine.files.input machine.files.position count)
      (pieces address count))
      (λ _. Outcome (after_read machine count, going_on cost)) s t t tt (next, done) stores (made, refl))

  -- one of the stores of a read was stopped
  pub read-stops : (machine next : Machine) (cost : ℕ) (effect : Effect) (address count : ℕ) (s t : S) (stop : E)
      → effect ≡ Reads address count → next ≡ machine
      → Stops step (stores_plan (slice_of machine.files.input machine.files.position count)
      (pieces address count)) s t stop tt
      → Stops step (effect_plan machine cost effect) s t stop next
  read-stops machine next cost effect address count s t stop is same stores =
      subst (λ (e : Effect). Stops step (effect_plan machine cost e) s t stop next) (sym is)
      (subst (λ (m : Machine). Stops step (effect_plan machine cost (Reads address count)) s t stop m) (sym same)
      (Stops-bind step (λ _. machine) (stores_plan (slice_of machine.files.input machine.files.position count)
      (pieces address count))
      (λ _. Outcome (after_read machine count, going_on cost)) s t stop tt stores))

  -- the loads of a write were made
  pub write-ends : (machine next : Machine) (cost : ℕ) (effect : Effect) (address count : ℕ) (output : List ℕ)
      (done : Done) (s t : S)
      → effect ≡ Writes address count → next ≡ after_write machine output count → done ≡ going_on cost
      → Ends step (loads_plan machine.files.output (pieces address count)) s t output
      → Ends step (effect_plan machine cost effect) s t (next, done)
  write-ends machine next cost effect address count output done s t is after same loads =
      let made : ◌≡◌ {A = Machine × Done} (next, done) (after_write machine output count, going_on cost) =
      ap (λ (m : Machine). (m, done)) after ∙ ap (λ (d : Done). (after_write machine output count, d)) same
      in
      subst (λ (e : Effect). Ends step (effect_plan machine cost e) s t (next, done)) (sym is)
      (Ends-bind step (λ _. machine) (loads_plan machine.files.output (pieces address count))
      (λ bytes. Outcome (after_write machine bytes count, going_on cost)) s t t output (next, done) loads (made, refl))

  -- one of the loads of a write was stopped
  pub write-stops : (machine next : Machine) (cost : ℕ) (effect : Effect) (address count : ℕ) (s t : S) (stop : E)
      → effect ≡ Writes address count → next ≡ machine
      → Stops step (loads_plan machine.files.output (pieces address count)) s t stop tt
      → Stops step (effect_plan machine cost effect) s t stop next
  write-stops machine next cost effect address count s t stop is same loads =
      subst (λ (e : Effect). Stops step (effect_plan machine cost e) s t stop next) (sym is)
      (subst (λ (m : Machine). Stops step (effect_plan machine cost (Writes address count)) s t stop m) (sym same)
      (Stops-bind step (λ _. machine) (loads_plan machine.files.output (pieces address count))
      (λ bytes. Outcome (after_write machine bytes count, going_on cost)) s t stop tt loads))

  -- what a word asks for, by what it was decoded to
  pub word-ends : (machine : Machine) (bytes : List ℕ) (word cost : ℕ) (instr : Option Instr) (effect : Effect)
      (s t : S) (end : Machine × Done)
      → word ≡ from_le_bytes w32 bytes → instr ≡ decoded word → effect ≡ effect_of_decoded machine instr
      → cost ≡ cost_of_decoded instr effect
      → Ends step (effect_plan machine cost effect) s t end
      → Ends step (word_plan machine (from_le_bytes w32 bytes)) s t end
  word-ends machine bytes word cost instr effect s t end is decodes does costs h =
      rw (sym is, sym decodes, sym does, sym costs) h

  -- the word at pc was fetched, and the rest of the plan was served
  pub fetch-ends : (machine : Machine) (bytes : List ℕ) (pc word cost : ℕ) (instr : Option Instr) (effect : Effect)
      (s m t : S) (end : Machine × Done)
      → pc ≡ machine.core.pc → is_inside machine.core pc 4 ≡ true → step s (Load pc 4) (Ok bytes) m
      → word ≡ from_le_bytes w32 bytes → instr ≡ decoded word → effect ≡ effect_of_decoded machine instr
      → cost ≡ cost_of_decoded instr effect
      → Ends step (effect_plan machine cost effect) m t end → Ends step (step_plan machine) s t end
  fetch-ends machine bytes pc word cost instr effect s m t end at inside one is decodes does costs h =
      let rest : Ends step (word_plan machine (from_le_bytes w32 bytes)) m t end =
      word-ends machine bytes word cost instr effect m t end is decodes does costs h
      in
      subst (λ (fits : Bool). Ends step (if fits then Ask (Load machine.core.pc 4) machine
      (λ b. word_plan machine (from_le_bytes w32 b)) else effect_plan machine 0 (Traps FetchFault)) s t end)
      (sym (subst (λ n. is_inside machine.core n 4 ≡ true) at inside))
      (bytes, m, subst (λ n. step s (Load n 4) (Ok bytes) m) at one, rest)

  -- the word at pc was fetched, and a request of the rest was stopped
  pub fetch-stops : (machine left : Machine) (bytes : List ℕ) (pc word cost : ℕ) (instr : Option Instr)
      (effect : Effect) (s m t : S) (stop : E)
      → pc ≡ machine.core.pc → is_inside machine.core pc 4 ≡ true → step s (Load pc 4) (Ok bytes) m
      → word ≡ from_le_bytes w32 bytes → instr ≡ decoded word → effect ≡ effect_of_decoded machine instr
      → cost ≡ cost_of_decoded instr effect
      → Stops step (effect_plan machine cost effect) m t stop left → Stops step (step_plan machine) s t stop left
  fetch-stops machine left bytes pc word cost instr effect s m t stop at inside one is decodes does costs h =
      let rest : Stops step (word_plan machine (from_le_bytes w32 bytes)) m t stop left = rw (
        sym is,
        sym decodes,
        sym does,
        sym costs,
      ) h in
      subst (λ (fits : Bool). Stops step (if fits then Ask (Load machine.core.pc 4) machine
      (λ b. word_plan machine (from_le_bytes w32 b)) else effect_plan machine 0 (Traps FetchFault)) s t stop left)
      (sym (subst (λ n. is_inside machine.core n 4 ≡ true) at inside))
      (inr (bytes, m, subst (λ n. step s (Load n 4) (Ok bytes) m) at one, rest))
