-- What a step asks of its bytes, item by item: its fetch, and then its data.
use Rattle.std.specs.Prelude.{◌≡◌, ℕ, List, Option, Some, if◌then◌else◌}
use Rattle.std.specs.Int.{from_le_bytes, w32}
use Rattle.request_plan.specs.Plan.{Plan, Done as Outcome, Ask, bind}
use Rattle.rv32_table.specs.Meaning.{load_width}
use Rattle.rv32_core.specs.Access.{Access, Load, Store, slice_of}
use Rattle.rv32_core.specs.Transfer.{pieces, stores_plan, loads_plan}
use Rattle.rv32_core.specs.Machine.{CoreState, FilesState, Machine, is_inside, at_pc, next_pc, effect_of_word}
use Rattle.rv32_core.specs.Machine.{cost_of_word}
use Rattle.rv32_core.specs.FlatMachine.{going_on, exit_with, trap_at, moved_on, set_to, after_load, stored_bytes}
use Rattle.rv32_core.specs.FlatMachine.{answered, after_break, after_read, after_write, flat_step}
use Rattle.rv32_core.specs.declared.effect.Effect.{Effect}
use Rattle.rv32_core.specs.declared.effect.Effect.TheVariants.{Passes, Sets, Jumps, Loads, Stores, Answers, Breaks}
use Rattle.rv32_core.specs.declared.effect.Effect.TheVariants.{Reads, Writes, Exits, Traps}
use Rattle.rv32_core.specs.declared.outcome.Done.{Done}
use Rattle.rv32_core.specs.declared.outcome.TrapKind.TheVariants.{FetchFault}

-- a core and its files
abbrev pub machine_of : CoreState → FilesState → Machine
machine_of core files = record { core = core; files = files }

-- a plan of a machine: what it asks, the machine that is left where it is stopped, and the machine and the answer at
-- its end
abbrev pub MachinePlan : Type 0
MachinePlan = Plan Access (List ℕ) Machine (Machine × Done)

-- What an effect asks for, and the machine and the answer that it ends with.
abbrev pub effect_plan : Machine → ℕ → Effect → MachinePlan
effect_plan machine cost Passes =
    Outcome (record machine { core = at_pc machine.core (next_pc machine.core) }, going_on cost)
effect_plan machine cost (Sets index value) = Outcome (set_to machine index value, going_on cost)
effect_plan machine cost (Jumps index target) =
    Outcome (moved_on machine index (next_pc machine.core) target, going_on cost)
effect_plan machine cost (Loads op index address) =
    Ask (Load address (load_width op)) machine (λ bytes. Outcome (after_load machine op index bytes, going_on cost))
effect_plan machine cost (Stores op address value) =
    Ask (Store address (stored_bytes op value)) machine
    (λ _. Outcome (record machine { core = at_pc machine.core (next_pc machine.core) }, going_on cost))
effect_plan machine cost (Answers value) = Outcome (answered machine value, going_on cost)
effect_plan machine cost (Breaks value) = Outcome (after_break machine value, going_on cost)
effect_plan machine cost (Reads address count) =
    bind (λ _. machine) (stores_plan (slice_of machine.files.input machine.files.position count) (pieces address count))
    (λ _. Outcome (after_read machine count, going_on cost))
effect_plan machine cost (Writes address count) =
    bind (λ _. machine) (loads_plan machine.files.output (pieces address count))
    (λ output. Outcome (after_write machine output count, going_on cost))
effect_plan machine cost (Exits status) = Outcome (machine, exit_with status cost)
effect_plan machine cost (Traps kind) = Outcome (machine, trap_at machine.core kind)

-- what a word asks for
abbrev pub word_plan : Machine → ℕ → MachinePlan
word_plan machine word = effect_plan machine (cost_of_word machine word) (effect_of_word machine word)

-- A step. Where it is stopped, it leaves the machine as it was.
abbrev pub step_plan : Machine → MachinePlan
step_plan machine =
    let core = machine.core in
    if is_inside core core.pc 4
    then Ask (Load core.pc 4) machine (λ bytes. word_plan machine (from_le_bytes w32 bytes))
    else effect_plan machine 0 (Traps FetchFault)

-- Where the bytes are told after a step, they were told before, and the step is that of the flat machine on them.
abbrev pub TellsStep : Machine → Option (List ℕ) → Machine → Option (List ℕ) → Done → Type 0
TellsStep machine old next new done =
    (after : List ℕ) → new ≡ Some after
    → (before : List ℕ) × (old ≡ Some before)
    × (flat_step machine before ≡ record { machine = next; memory = after; done = done })
