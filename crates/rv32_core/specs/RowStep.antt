-- What a step does by the row of the instruction table that its word matches: by the meaning beside the row alone,
-- which names no instruction.
use Rattle.std.specs.Prelude.{ℕ, ℤ, pos, ◌%◌, ◌==◌, if◌then◌else◌, List, take}
use Rattle.std.specs.Int.{from_le_bytes, to_le_bytes, w32}
use Rattle.rv32_table.specs.Fields.{rd_of, rs1_of, rs2_of, immediate_i, immediate_s, immediate_b, immediate_u}
use Rattle.rv32_table.specs.Fields.{immediate_j}
use Rattle.rv32_table.specs.Meaning.{Meaning, SetsUpper, SetsFromBoth, SetsFromImmediate, Links, Branches, Loads}
use Rattle.rv32_table.specs.Meaning.{Stores, Passes, CallsHost, BreaksOff, low_word, target_of, address_of}
use Rattle.rv32_table.specs.Table.{Form, FormR, FormI, FormShift, FormS, FormB, FormU, FormJ, FormFence, FormWhole, Row}
use Rattle.rv32_core.specs.Machine.{Machine, is_inside, register, at_pc, next_pc, jump_to, call_of}
use Rattle.rv32_core.specs.FlatMachine.{FlatStep, set_to, bytes_at, with_bytes, stepped, effected}
use Rattle.rv32_core.specs.declared.effect.Effect.TheVariants.{Passes as GoesOn, Sets, Traps}
use Rattle.rv32_core.specs.declared.outcome.TrapKind.TheVariants.{LoadMisaligned, StoreMisaligned, LoadFault}
use Rattle.rv32_core.specs.declared.outcome.TrapKind.TheVariants.{StoreFault, Breakpoint}

-- the signed immediate of a word in a form, a shift's amount too; 0 where the form has none
abbrev pub immediate_of : Form → ℕ → ℤ
immediate_of (FormR make) word = pos 0
immediate_of (FormI make) word = immediate_i word
immediate_of (FormShift make) word = pos (rs2_of word)
immediate_of (FormS make) word = immediate_s word
immediate_of (FormB make) word = immediate_b word
immediate_of (FormU make) word = pos 0
immediate_of (FormJ make) word = immediate_j word
immediate_of (FormFence make) word = pos 0
immediate_of (FormWhole instr) word = pos 0

-- So many bytes at an address are loaded, and rd gets what is made of the number that they are, the least first. A load
-- traps where the address isn't a multiple of the width, and else where not all the bytes are in the memory.
abbrev pub loaded_to : Machine → List ℕ → ℕ → ℕ → ℕ → (ℕ → ℕ) → ℕ → FlatStep
loaded_to machine memory cost index width made address =
    if address % width == 0
    then (if is_inside machine.core address width
    then stepped (set_to machine index (made (from_le_bytes w32 (bytes_at machine memory address width)))) memory cost
    else effected machine memory cost (Traps LoadFault))
    else effected machine memory cost (Traps LoadMisaligned)

-- So many low bytes of a value are stored at an address, the least first. A store traps likewise.
abbrev pub stored_at : Machine → List ℕ → ℕ → ℕ → ℕ → ℕ → FlatStep
stored_at machine memory cost width value address =
    if address % width == 0
    then (if is_inside machine.core address width
    then stepped (record machine { core = at_pc machine.core (next_pc machine.core) })
    (with_bytes machine memory address (take width (to_le_bytes w32 value))) cost
    else effected machine memory cost (Traps StoreFault))
    else effected machine memory cost (Traps StoreMisaligned)

-- What a meaning does to the machine and its bytes, at a cost in cycles, for a word and its signed immediate.
abbrev pub meant : Machine → List ℕ → ℕ → ℕ → ℤ → Meaning → FlatStep
meant machine memory cost word immediate (SetsUpper value) =
    effected machine memory cost (Sets (rd_of word) (value machine.core.pc (immediate_u word)))
meant machine memory cost word immediate (SetsFromBoth value) =
    let x = register machine.core (rs1_of word) in
    let y = register machine.core (rs2_of word) in
    effected machine memory cost (Sets (rd_of word) (value x y))
meant machine memory cost word immediate (SetsFromImmediate value) =
    let x = register machine.core (rs1_of word) in
    effected machine memory cost (Sets (rd_of word) (value x (low_word immediate)))
meant machine memory cost word immediate (Links target) =
    let x = register machine.core (rs1_of word) in
    effected machine memory cost (jump_to (rd_of word) (target machine.core.pc x immediate))
meant machine memory cost word immediate (Branches test) =
    let x = register machine.core (rs1_of word) in
    let y = register machine.core (rs2_of word) in
    if test x y
    then effected machine memory cost (jump_to 0 (target_of machine.core.pc immediate))
    else effected machine memory cost GoesOn
meant machine memory cost word immediate (Loads width made) =
    let x = register machine.core (rs1_of word) in
    loaded_to machine memory cost (rd_of word) width made (address_of x immediate)
meant machine memory cost word immediate (Stores width) =
    let x = register machine.core (rs1_of word) in
    let y = register machine.core (rs2_of word) in
    stored_at machine memory cost width y (address_of x immediate)
meant machine memory cost word immediate Passes = effected machine memory cost GoesOn
meant machine memory cost word immediate CallsHost = effected machine memory cost (call_of machine)
meant machine memory cost word immediate BreaksOff = effected machine memory cost (Traps Breakpoint)

-- what the row of a word says of a step
abbrev pub row_step : Machine → List ℕ → ℕ → ℕ → Row → FlatStep
row_step machine memory cost word row = meant machine memory cost word (immediate_of row.form word) row.meaning
