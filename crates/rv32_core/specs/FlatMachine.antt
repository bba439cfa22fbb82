-- The FlatMachine: a machine and one list of bytes, which begins at the memory's base.
use Rattle.std.specs.Prelude.{ℕ, ◌+◌, ◌-◌, List, ◌++◌, take, if◌then◌else◌}
use Rattle.std.specs.Int.{from_le_bytes, to_le_bytes, w32}
use Rattle.rv32_table.specs.Meaning.{load_width, load_meaning, store_width}
use Rattle.rv32_table.specs.declared.instruction.LoadOp.{LoadOp}
use Rattle.rv32_table.specs.declared.instruction.StoreOp.{StoreOp}
use Rattle.rv32_core.specs.Access.{slice_of, spliced}
use Rattle.rv32_core.specs.Machine.{CoreState, Machine, is_inside, at_pc, next_pc, with_register, effect_of_word}
use Rattle.rv32_core.specs.Machine.{cost_of_word}
use Rattle.rv32_core.specs.declared.effect.Effect.{Effect}
use Rattle.rv32_core.specs.declared.effect.Effect.TheVariants.{Passes, Sets, Jumps, Loads, Stores, Answers, Breaks}
use Rattle.rv32_core.specs.declared.effect.Effect.TheVariants.{Reads, Writes, Exits, Traps}
use Rattle.rv32_core.specs.declared.outcome.Done.{Done}
use Rattle.rv32_core.specs.declared.outcome.Ended.TheVariants.{No, Exit, Trap}
use Rattle.rv32_core.specs.declared.outcome.TrapKind.{TrapKind}
use Rattle.rv32_core.specs.declared.outcome.TrapKind.TheVariants.{FetchFault}

-- What a step makes: the machine and the bytes after it, how it ended and what it cost.
pub record FlatStep : Type 0 where
  pub machine : Machine
  pub memory : List ℕ
  pub done : Done

-- an instruction after which the machine goes on, at its cost in cycles
abbrev pub going_on : ℕ → Done
going_on cost = record { ended = No; cost = cost }

-- an exit
abbrev pub exit_with : ℕ → ℕ → Done
exit_with status cost = record { ended = Exit status; cost = cost }

-- A trap is at the pc of its instruction, and costs nothing.
abbrev pub trap_at : CoreState → TrapKind → Done
trap_at core kind = record { ended = Trap kind core.pc; cost = 0 }

-- a register gets a value, and the core goes on at an address
abbrev pub moved_on : Machine → ℕ → ℕ → ℕ → Machine
moved_on machine index value pc = record machine { core = at_pc (with_register machine.core index value) pc }

-- a register gets a value, and the next instruction follows
abbrev pub set_to : Machine → ℕ → ℕ → Machine
set_to machine index value = moved_on machine index value (next_pc machine.core)

-- A load extends the number that its bytes are, the least first.
abbrev pub after_load : Machine → LoadOp → ℕ → List ℕ → Machine
after_load machine op index bytes = set_to machine index (load_meaning op (from_le_bytes w32 bytes))

-- A store has the low bytes of a value, the least first.
abbrev pub stored_bytes : StoreOp → ℕ → List ℕ
stored_bytes op value = take (store_width op) (to_le_bytes w32 value)

-- A host call answers in x10.
abbrev pub answered : Machine → ℕ → Machine
answered machine value = set_to machine 10 value

-- the break is moved, and answered
abbrev pub after_break : Machine → ℕ → Machine
after_break machine value = answered (record machine { core = record machine.core { break_now = value } }) value

-- so many bytes of the input were read, and their number is answered
abbrev pub after_read : Machine → ℕ → Machine
after_read machine count =
    answered (record machine { files = record machine.files { position = machine.files.position + count } }) count

-- the output is this, and so many bytes of it were written, which is answered
abbrev pub after_write : Machine → List ℕ → ℕ → Machine
after_write machine output count =
    answered (record machine { files = record machine.files { output = output } }) count

-- so many bytes of the memory from an address on
abbrev pub bytes_at : Machine → List ℕ → ℕ → ℕ → List ℕ
bytes_at machine memory address count = slice_of memory (address - machine.core.base) count

-- the memory with these bytes from an address on
abbrev pub with_bytes : Machine → List ℕ → ℕ → List ℕ → List ℕ
with_bytes machine memory address bytes = spliced memory (address - machine.core.base) bytes

-- the machine goes on after an instruction of so many cycles
abbrev pub stepped : Machine → List ℕ → ℕ → FlatStep
stepped machine memory cost = record { machine = machine; memory = memory; done = going_on cost }

-- An effect on the machine and its bytes, at its cost. A trap changes nothing.
abbrev pub effected : Machine → List ℕ → ℕ → Effect → FlatStep
effected machine memory cost Passes =
    stepped (record machine { core = at_pc machine.core (next_pc machine.core) }) memory cost
effected machine memory cost (Sets index value) = stepped (set_to machine index value) memory cost
effected machine memory cost (Jumps index target) =
    stepped (moved_on machine index (next_pc machine.core) target) memory cost
effected machine memory cost (Loads op index address) =
    stepped (after_load machine op index (bytes_at machine memory address (load_width op))) memory cost
effected machine memory cost (Stores op address value) = stepped
    (record machine { core = at_pc machine.core (next_pc machine.core) })
    (with_bytes machine memory address (stored_bytes op value)) cost
effected machine memory cost (Answers value) = stepped (answered machine value) memory cost
effected machine memory cost (Breaks value) = stepped (after_break machine value) memory cost
effected machine memory cost (Reads address count) = stepped (after_read machine count)
    (with_bytes machine memory address (slice_of machine.files.input machine.files.position count)) cost
effected machine memory cost (Writes address count) = stepped
    (after_write machine (machine.files.output ++ bytes_at machine memory address count) count) memory cost
effected machine memory cost (Exits status) =
    record { machine = machine; memory = memory; done = exit_with status cost }
effected machine memory cost (Traps kind) =
    record { machine = machine; memory = memory; done = trap_at machine.core kind }

-- The word at pc, least byte first, is fetched and has its effect. (RV32I, Base Instruction Formats)
-- A fetch that isn't wholly inside the memory is a trap.
abbrev pub flat_step : Machine → List ℕ → FlatStep
flat_step machine memory =
    let core = machine.core in
    let word = from_le_bytes w32 (bytes_at machine memory core.pc 4) in
    if is_inside core core.pc 4
    then effected machine memory (cost_of_word machine word) (effect_of_word machine word)
    else effected machine memory 0 (Traps FetchFault)
