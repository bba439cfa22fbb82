-- The state of a machine without its memory, and what an instruction does.
use Rattle.std.specs.Prelude.{◌≡◌, ◌≢◌, ℕ, ℤ, ◌+◌, ◌-◌, ◌%◌, ◌^◌, ◌<◌, ◌≤◌, nat_le, min, Bool, true, false, IsTrue}
use Rattle.std.specs.Prelude.{◌&&◌, ◌||◌, ◌==◌, if◌then◌else◌, List, length, replicate, slice_index, slice_set, Option}
use Rattle.std.specs.Prelude.{Some, None}
use Rattle.asc_base.specs.Memory.{IsMemory}
use Rattle.rv32_table.specs.Meaning.{register_meaning, immediate_meaning, branch_meaning, target_of, jump_target}
use Rattle.rv32_table.specs.Meaning.{auipc_value, address_of, load_width, store_width}
use Rattle.rv32_table.specs.Table.{decoded}
use Rattle.rv32_table.specs.declared.instruction.Instr.{Instr}
use Rattle.rv32_table.specs.declared.instruction.Instr.TheVariants.{Lui, Auipc, Jal, Jalr, Branch, Load, Store, OpImm}
use Rattle.rv32_table.specs.declared.instruction.Instr.TheVariants.{Op, Fence, FenceI, Ecall, Ebreak}
use Rattle.rv32_table.specs.declared.instruction.BranchOp.{BranchOp}
use Rattle.rv32_table.specs.declared.instruction.LoadOp.{LoadOp}
use Rattle.rv32_table.specs.declared.instruction.StoreOp.{StoreOp}
use Rattle.cycle_table.specs.Costs.{cost_of}
use Rattle.rv32_core.specs.declared.effect.Effect.{Effect}
use Rattle.rv32_core.specs.declared.effect.Effect.TheVariants.{Passes, Sets, Jumps, Loads, Stores, Answers, Breaks}
use Rattle.rv32_core.specs.declared.effect.Effect.TheVariants.{Reads, Writes, Exits, Traps}
use Rattle.rv32_core.specs.declared.outcome.TrapKind.TheVariants.{FetchFault, Illegal, FetchMisaligned, LoadMisaligned}
use Rattle.rv32_core.specs.declared.outcome.TrapKind.TheVariants.{StoreMisaligned, LoadFault, StoreFault, Breakpoint}
use Rattle.rv32_core.specs.declared.outcome.TrapKind.TheVariants.{OutputLimit}

-- The program counter, the 32 registers, where the memory begins and how long it is, the first break and the break.
pub record CoreState : Type 0 where
  pub pc : ℕ
  pub registers : List ℕ
  pub base : ℕ
  pub size : ℕ
  pub first_break : ℕ
  pub break_now : ℕ

-- The input, how much of it was read, the output so far, and its greatest length.
pub record FilesState : Type 0 where
  pub input : List ℕ
  pub position : ℕ
  pub output : List ℕ
  pub limit : ℕ

pub record Machine : Type 0 where
  pub core : CoreState
  pub files : FilesState

-- what every core keeps
pub record IsCore (core : CoreState) : Type 0 where
  pub memory : IsMemory core.base core.size
  pub aligned : core.pc % 4 ≡ 0
  pub count : length core.registers ≡ 32
  pub zero : slice_index core.registers 0 ≡ 0

-- The start: all registers are 0 but x2, which is 16 below the memory's end.
abbrev pub core_at_start : (entry base size heap : ℕ) → CoreState
core_at_start entry base size heap = record {
  pc = entry;
  registers = slice_set (replicate 32 0) 2 (base + size - 16);
  base = base;
  size = size;
  first_break = heap;
  break_now = heap;
}

-- so many bytes from an address on are all in the memory
abbrev pub is_inside : CoreState → ℕ → ℕ → Bool
is_inside core address count = nat_le core.base address && nat_le (address + count) (core.base + core.size)

-- the value of a register
abbrev pub register : CoreState → ℕ → ℕ
register core index = slice_index core.registers index

-- The core goes on at an address.
abbrev pub at_pc : CoreState → ℕ → CoreState
at_pc core pc = record core { pc = pc }

-- the address of the next instruction, which wraps at 2^32
abbrev pub next_pc : CoreState → ℕ
next_pc core = (core.pc + 4) % 2 ^ 32

-- A register gets a value, x0 never. (RV32I, Programmers' Model for Base Integer ISA)
abbrev pub with_register : CoreState → ℕ → ℕ → CoreState
with_register core index value =
    record core { registers = (if index == 0 then core.registers else slice_set core.registers index value) }

-- the answer -9 of a host call that names a file which isn't there, modulo 2^32
abbrev pub bad_file : ℕ
bad_file = 2 ^ 32 - 9

-- the answer -14 of a host call whose buffer isn't in the memory, modulo 2^32
abbrev pub bad_buffer : ℕ
bad_buffer = 2 ^ 32 - 14

-- the answer -38 of a host call with a number that there isn't, modulo 2^32
abbrev pub no_call : ℕ
no_call = 2 ^ 32 - 38

-- how many bytes of the input weren't read yet
abbrev pub bytes_left : FilesState → ℕ
bytes_left files = length files.input - files.position

-- so many bytes from an address on are none, or all in the memory
abbrev pub is_buffer : CoreState → ℕ → ℕ → Bool
is_buffer core address count = (count == 0) || is_inside core address count

-- Host call 63, read: from the file x10, which is 0, into the x12 bytes at x11.
abbrev pub read_of : Machine → Effect
read_of machine =
    let core = machine.core in
    if register core 10 == 0
    then (if is_buffer core (register core 11) (register core 12)
    then Reads (register core 11) (min (register core 12) (bytes_left machine.files))
    else Answers bad_buffer)
    else Answers bad_file

-- Host call 64, write: to the file x10, which is 1 or 2, the x12 bytes at x11.
abbrev pub write_of : Machine → Effect
write_of machine =
    let core = machine.core in
    if (register core 10 == 1) || (register core 10 == 2)
    then (if is_buffer core (register core 11) (register core 12)
    then (if nat_le (length machine.files.output + register core 12) machine.files.limit
    then Writes (register core 11) (register core 12)
    else Traps OutputLimit)
    else Answers bad_buffer)
    else Answers bad_file

-- The break may become an address from the first break to the memory's end.
abbrev pub takes_break : CoreState → ℕ → Bool
takes_break core address = nat_le core.first_break address && nat_le address (core.base + core.size)

-- Host call 214, brk: where the break may become x10, it does; the answer is the break.
abbrev pub break_of : CoreState → Effect
break_of core =
    if takes_break core (register core 10) then Breaks (register core 10) else Answers core.break_now

-- An ECALL asks for the host call whose number is in x17. Call 93 ends the program with the low byte of x10.
abbrev pub call_of : Machine → Effect
call_of machine =
    let core = machine.core in
    if register core 17 == 63 then read_of machine
    else (if register core 17 == 64 then write_of machine
    else (if register core 17 == 93 then Exits (register core 10 % 256)
    else (if register core 17 == 214 then break_of machine.core else Answers no_call)))

-- A jump puts the address of the next instruction into a register. Its target is a multiple of four, or it traps.
-- (RV32I, Control Transfer Instructions)
abbrev pub jump_to : ℕ → ℕ → Effect
jump_to index target = if target % 4 == 0 then Jumps index target else Traps FetchMisaligned

-- A branch that is taken is a jump that sets no register. (RV32I, Conditional Branches)
abbrev pub branch_of : CoreState → BranchOp → ℕ → ℕ → ℤ → Effect
branch_of core op rs1 rs2 offset =
    if branch_meaning op (register core rs1) (register core rs2) then jump_to 0 (target_of core.pc offset) else Passes

-- A load traps where its address isn't a multiple of its width, and else where not all its bytes are in the memory.
abbrev pub load_from : CoreState → LoadOp → ℕ → ℕ → Effect
load_from core op index address =
    if address % load_width op == 0
    then (if is_inside core address (load_width op) then Loads op index address else Traps LoadFault)
    else Traps LoadMisaligned

-- A store likewise.
abbrev pub store_at : CoreState → StoreOp → ℕ → ℕ → Effect
store_at core op address value =
    if address % store_width op == 0
    then (if is_inside core address (store_width op) then Stores op address value else Traps StoreFault)
    else Traps StoreMisaligned

-- What an instruction does, by the meanings of the table.
abbrev pub effect_of : Machine → Instr → Effect
effect_of machine (Lui rd imm) = Sets rd imm
effect_of machine (Auipc rd imm) = Sets rd (auipc_value machine.core.pc imm)
effect_of machine (Jal rd offset) = jump_to rd (target_of machine.core.pc offset)
effect_of machine (Jalr rd rs1 imm) = jump_to rd (jump_target (register machine.core rs1) imm)
effect_of machine (Branch op rs1 rs2 offset) = branch_of machine.core op rs1 rs2 offset
effect_of machine (Load op rd rs1 imm) = load_from machine.core op rd (address_of (register machine.core rs1) imm)
effect_of machine (Store op rs1 rs2 imm) =
    store_at machine.core op (address_of (register machine.core rs1) imm) (register machine.core rs2)
effect_of machine (OpImm op rd rs1 imm) = Sets rd (immediate_meaning op (register machine.core rs1) imm)
effect_of machine (Op op rd rs1 rs2) =
    Sets rd (register_meaning op (register machine.core rs1) (register machine.core rs2))
effect_of machine (Fence rest) = Passes
effect_of machine (FenceI rest) = Passes
effect_of machine Ecall = call_of machine
effect_of machine Ebreak = Traps Breakpoint

-- what a word does, by the instruction that it is; one that is none is illegal
abbrev pub effect_of_decoded : Machine → Option Instr → Effect
effect_of_decoded machine (Some instr) = effect_of machine instr
effect_of_decoded machine None = Traps Illegal

-- What a word does.
abbrev pub effect_of_word : Machine → ℕ → Effect
effect_of_word machine word = effect_of_decoded machine (decoded word)

-- whether an effect is a taken jump or branch
abbrev pub is_jump : Effect → Bool
is_jump Passes = false
is_jump (Sets index value) = false
is_jump (Jumps index target) = true
is_jump (Loads op index address) = false
is_jump (Stores op address value) = false
is_jump (Answers value) = false
is_jump (Breaks value) = false
is_jump (Reads address count) = false
is_jump (Writes address count) = false
is_jump (Exits status) = false
is_jump (Traps kind) = false

-- how many bytes a host call moves
abbrev pub moved_by : Effect → ℕ
moved_by Passes = 0
moved_by (Sets index value) = 0
moved_by (Jumps index target) = 0
moved_by (Loads op index address) = 0
moved_by (Stores op address value) = 0
moved_by (Answers value) = 0
moved_by (Breaks value) = 0
moved_by (Reads address count) = count
moved_by (Writes address count) = count
moved_by (Exits status) = 0
moved_by (Traps kind) = 0

-- the cycles of an instruction with an effect, by the table of costs; an illegal word traps, which costs nothing
abbrev pub cost_of_decoded : Option Instr → Effect → ℕ
cost_of_decoded (Some instr) effect = cost_of instr (is_jump effect) (moved_by effect)
cost_of_decoded None effect = 0

-- The cycles of a word.
abbrev pub cost_of_word : Machine → ℕ → ℕ
cost_of_word machine word = cost_of_decoded (decoded word) (effect_of_word machine word)

-- An effect names a register that there is, a target that is aligned, bytes that lie in the memory, and bytes that
-- there are
-- or room that there is; and none is a fault of its fetch.
abbrev pub IsEffect : Machine → Effect → Type 0
IsEffect machine Passes = Unit {0}
IsEffect machine (Sets index value) = index < 32
IsEffect machine (Jumps index target) = (index < 32) × (target % 4 ≡ 0)
IsEffect machine (Loads op index address) =
    (index < 32) × (address % load_width op ≡ 0) × IsTrue (is_inside machine.core address (load_width op))
IsEffect machine (Stores op address value) =
    (address % store_width op ≡ 0) × IsTrue (is_inside machine.core address (store_width op))
IsEffect machine (Answers value) = Unit {0}
IsEffect machine (Breaks value) = Unit {0}
IsEffect machine (Reads address count) =
    IsTrue (is_buffer machine.core address count) × (count ≤ bytes_left machine.files)
IsEffect machine (Writes address count) =
    IsTrue (is_buffer machine.core address count) × (length machine.files.output + count ≤ machine.files.limit)
IsEffect machine (Exits status) = Unit {0}
IsEffect machine (Traps kind) = kind ≢ FetchFault
