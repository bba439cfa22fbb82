-- What holds of every effect of a word, of a buffer, and of the bytes of a load or a store.
use Rattle.std.proofs.Common.{◌≡◌, ℕ, ◌+◌, ◌%◌, ◌^◌, ◌<◌, ◌≤◌, ◌==◌, ◌||◌, min, nat_le, Bool, IsTrue, true, false}
use Rattle.std.proofs.Common.{if◌then◌else◌, length, refl, arith, zero, suc, rules}
use Rattle.std.specs.Prelude.{ℤ, Option, Some, None, option_map, find}
use Rattle.std.proofs.lemmas.Bool.Decides.{nat_tests}
use Rattle.rv32_table.specs.Fields.{rd_of}
use Rattle.rv32_table.specs.Fits.{Fits}
use Rattle.rv32_table.specs.Meaning.{branch_meaning, target_of, jump_target, address_of, load_width, store_width}
use Rattle.rv32_table.specs.Table.{Row, table, Matches, is_match, instruction_of, decoded}
use Rattle.rv32_table.specs.declared.instruction.Instr.{Instr}
use Rattle.rv32_table.specs.declared.instruction.Instr.TheVariants.{Lui, Auipc, Jal, Jalr, Branch, Load, Store, OpImm}
use Rattle.rv32_table.specs.declared.instruction.Instr.TheVariants.{Op, Fence, FenceI, Ecall, Ebreak}
use Rattle.rv32_table.specs.declared.instruction.BranchOp.{BranchOp}
use Rattle.rv32_table.specs.declared.instruction.LoadOp.{LoadOp}
use Rattle.rv32_table.specs.declared.instruction.LoadOp.TheVariants.{Lb, Lh, Lw, Lbu, Lhu}
use Rattle.rv32_table.specs.declared.instruction.StoreOp.{StoreOp}
use Rattle.rv32_table.specs.declared.instruction.StoreOp.TheVariants.{Sb, Sh, Sw}
use Rattle.rv32_table.proofs.ListLaws.{EachRow, find-each}
use Rattle.rv32_core.specs.Access.{IsInLine}
use Rattle.rv32_core.specs.Machine.{CoreState, Machine, IsEffect, is_buffer, is_inside, takes_break, register}
use Rattle.rv32_core.specs.Machine.{bytes_left, read_of, write_of, break_of, call_of, jump_to, branch_of, load_from}
use Rattle.rv32_core.specs.Machine.{store_at, effect_of, effect_of_decoded, effect_of_word, bad_file, bad_buffer}
use Rattle.rv32_core.specs.Machine.{no_call}
use Rattle.rv32_core.specs.Transfer.{IsRange}
use Rattle.rv32_core.specs.declared.effect.Effect.{Effect}
use Rattle.rv32_core.specs.declared.effect.Effect.TheVariants.{Passes, Jumps, Loads, Stores, Answers, Breaks, Reads}
use Rattle.rv32_core.specs.declared.effect.Effect.TheVariants.{Writes, Exits, Traps}
use Rattle.rv32_core.specs.declared.outcome.TrapKind.TheVariants.{FetchMisaligned, LoadMisaligned, StoreMisaligned}
use Rattle.rv32_core.specs.declared.outcome.TrapKind.TheVariants.{LoadFault, StoreFault, OutputLimit}

-- a buffer that isn't empty begins at the memory's base or above it
pub is_buffer-above : (core : CoreState) (address count : ℕ) → IsTrue (is_buffer core address count) → 0 < count
    → core.base ≤ address
is_buffer-above core address count fits some = grind (arith, nat_tests)

-- and ends at the memory's end or below it
pub is_buffer-below : (core : CoreState) (address count : ℕ) → IsTrue (is_buffer core address count) → 0 < count
    → address + count ≤ core.base + core.size
is_buffer-below core address count fits some = grind (arith, nat_tests)

-- a buffer is a range
pub is_buffer-range : (core : CoreState) (address count : ℕ) → IsTrue (is_buffer core address count)
    → address < 2 ^ 32 → core.base + core.size < 2 ^ 32 → IsRange core.base core.size address count
is_buffer-range core address zero fits fine low = record {
  above = λ some. absurd (omega arith);
  below = λ some. absurd (omega arith);
  ends = omega arith;
}
is_buffer-range core address (suc n) fits fine low =
    let end : address + suc n ≤ core.base + core.size = is_buffer-below core address (suc n) fits (omega arith) in
    record { above = is_buffer-above core address (suc n) fits; below = λ _. end; ends = omega arith }

-- a buffer's front is a buffer
is_buffer-front : (core : CoreState) (address count less : ℕ) → is_buffer core address count ≡ true → less ≤ count
    → IsTrue (is_buffer core address less)
is_buffer-front core address count less fits front = grind (arith, nat_tests)

-- bytes that are inside begin at the memory's base or above it
pub is_inside-above : (core : CoreState) (address count : ℕ) → IsTrue (is_inside core address count)
    → core.base ≤ address
is_inside-above core address count fits = grind (arith, nat_tests)

-- and end at the memory's end or below it
pub is_inside-below : (core : CoreState) (address count : ℕ) → IsTrue (is_inside core address count)
    → address + count ≤ core.base + core.size
is_inside-below core address count fits = grind (arith, nat_tests)

-- an aligned load's bytes lie in one line
load_width-in_line : (op : LoadOp) (address : ℕ) → address % load_width op ≡ 0 → address % 64 + load_width op ≤ 64
load_width-in_line Lb address aligned = omega arith
load_width-in_line Lh address aligned = omega arith
load_width-in_line Lw address aligned = omega arith
load_width-in_line Lbu address aligned = omega arith
load_width-in_line Lhu address aligned = omega arith

-- and so do an aligned store's
store_width-in_line : (op : StoreOp) (address : ℕ) → address % store_width op ≡ 0 → address % 64 + store_width op ≤ 64
store_width-in_line Sb address aligned = omega arith
store_width-in_line Sh address aligned = omega arith
store_width-in_line Sw address aligned = omega arith

-- the bytes of a load lie in the memory, and in one line
pub load-in_line : (machine : Machine) (op : LoadOp) (index address : ℕ) → IsEffect machine (Loads op index address)
    → IsInLine machine.core.base machine.core.size address (load_width op)
load-in_line machine op index address fine = record {
  above = is_inside-above machine.core address (load_width op) fine.2;
  below = is_inside-below machine.core address (load_width op) fine.2;
  in_line = load_width-in_line op address fine.1;
}

-- and so do those of a store
pub store-in_line : (machine : Machine) (op : StoreOp) (address value : ℕ) → IsEffect machine (Stores op address value)
    → IsInLine machine.core.base machine.core.size address (store_width op)
store-in_line machine op address value fine = record {
  above = is_inside-above machine.core address (store_width op) fine.1;
  below = is_inside-below machine.core address (store_width op) fine.1;
  in_line = store_width-in_line op address fine.0;
}

-- what holds of both effects that a test chooses from
fine-if : (machine : Machine) (test : Bool) (x y : Effect) → (test ≡ true → IsEffect machine x)
    → (test ≡ false → IsEffect machine y)
    → IsEffect machine (if test then x else y)
fine-if machine true x y f g = f refl
fine-if machine false x y f g = g refl

read_of-fine : (machine : Machine) → IsEffect machine (read_of machine)
read_of-fine machine =
    let core = machine.core in
    let address : ℕ = register core 11 in
    let count : ℕ = register core 12 in
    let read : Effect = Reads address (min count (bytes_left machine.files)) in
    let chosen : Effect = if is_buffer core address count then read else Answers bad_buffer in
    fine-if machine (register core 10 == 0) chosen (Answers bad_file)
    (λ _. fine-if machine (is_buffer core address count) read (Answers bad_buffer)
    (λ fits. (
      is_buffer-front core address count (min count (bytes_left machine.files)) fits (omega arith),
      omega arith,
    )) (λ _. tt))
    (λ _. tt)

write_of-fine : (machine : Machine) → IsEffect machine (write_of machine)
write_of-fine machine =
    let core = machine.core in
    let address : ℕ = register core 11 in
    let count : ℕ = register core 12 in
    let room : Bool = nat_le (length machine.files.output + count) machine.files.limit in
    let write : Effect = if room then Writes address count else Traps OutputLimit in
    let chosen : Effect = if is_buffer core address count then write else Answers bad_buffer in
    fine-if machine ((register core 10 == 1) || (register core 10 == 2)) chosen (Answers bad_file)
    (λ _. fine-if machine (is_buffer core address count) write (Answers bad_buffer)
    (λ fits. fine-if machine room (Writes address count) (Traps OutputLimit)
    (λ fit. (is_buffer-front core address count count fits (omega arith), grind (arith, nat_tests)))
    (λ _ e. absurd (cc))) (λ _. tt))
    (λ _. tt)

break_of-fine : (machine : Machine) → IsEffect machine (break_of machine.core)
break_of-fine machine =
    let core = machine.core in
    fine-if machine (takes_break core (register core 10)) (Breaks (register core 10)) (Answers core.break_now)
    (λ _. tt) (λ _. tt)

call_of-fine : (machine : Machine) → IsEffect machine (call_of machine)
call_of-fine machine =
    let core = machine.core in
    let break : Effect = if register core 17 == 214 then break_of core else Answers no_call in
    let exit : Effect = if register core 17 == 93 then Exits (register core 10 % 256) else break in
    let write : Effect = if register core 17 == 64 then write_of machine else exit in
    fine-if machine (register core 17 == 63) (read_of machine) write (λ _. read_of-fine machine)
    (λ _. fine-if machine (register core 17 == 64) (write_of machine) exit (λ _. write_of-fine machine)
    (λ _. fine-if machine (register core 17 == 93) (Exits (register core 10 % 256)) break (λ _. tt)
    (λ _. fine-if machine (register core 17 == 214) (break_of core) (Answers no_call)
    (λ _. break_of-fine machine) (λ _. tt))))

jump_to-fine : (machine : Machine) (index target : ℕ) → index < 32 → IsEffect machine (jump_to index target)
jump_to-fine machine index target low =
    fine-if machine (target % 4 == 0) (Jumps index target) (Traps FetchMisaligned)
    (λ aligned. (low, grind (arith, nat_tests))) (λ _ e. absurd (cc))

branch_of-fine : (machine : Machine) (op : BranchOp) (rs1 rs2 : ℕ) (offset : ℤ)
    → IsEffect machine (branch_of machine.core op rs1 rs2 offset)
branch_of-fine machine op rs1 rs2 offset =
    let core = machine.core in
    fine-if machine (branch_meaning op (register core rs1) (register core rs2))
    (jump_to 0 (target_of core.pc offset)) Passes
    (λ _. jump_to-fine machine 0 (target_of core.pc offset) (omega arith)) (λ _. tt)

load_from-fine : (machine : Machine) (op : LoadOp) (index address : ℕ) → index < 32
    → IsEffect machine (load_from machine.core op index address)
load_from-fine machine op index address low =
    let inside : Bool = is_inside machine.core address (load_width op) in
    let load : Effect = if inside then Loads op index address else Traps LoadFault in
    fine-if machine (address % load_width op == 0) load (Traps LoadMisaligned)
    (λ aligned. fine-if machine inside (Loads op index address) (Traps LoadFault)
    (λ fits. (low, grind (arith, nat_tests), grind (arith, nat_tests))) (λ _ e. absurd (cc))) (λ _ e. absurd (cc))

store_at-fine : (machine : Machine) (op : StoreOp) (address value : ℕ)
    → IsEffect machine (store_at machine.core op address value)
store_at-fine machine op address value =
    let inside : Bool = is_inside machine.core address (store_width op) in
    let store : Effect = if inside then Stores op address value else Traps StoreFault in
    fine-if machine (address % store_width op == 0) store (Traps StoreMisaligned)
    (λ aligned. fine-if machine inside (Stores op address value) (Traps StoreFault)
    (λ fits. (grind (arith, nat_tests), grind (arith, nat_tests))) (λ _ e. absurd (cc))) (λ _ e. absurd (cc))

-- the register that an instruction names for its result is one that there is
abbrev pub HasRegister : Instr → Type 0
HasRegister (Lui rd imm) = rd < 32
HasRegister (Auipc rd imm) = rd < 32
HasRegister (Jal rd offset) = rd < 32
HasRegister (Jalr rd rs1 imm) = rd < 32
HasRegister (Branch op rs1 rs2 offset) = Unit {0}
HasRegister (Load op rd rs1 imm) = rd < 32
HasRegister (Store op rs1 rs2 imm) = Unit {0}
HasRegister (OpImm op rd rs1 imm) = rd < 32
HasRegister (Op op rd rs1 rs2) = rd < 32
HasRegister (Fence rest) = Unit {0}
HasRegister (FenceI rest) = Unit {0}
HasRegister Ecall = Unit {0}
HasRegister Ebreak = Unit {0}

-- an instruction that fits names such a register
Fits-register : (instr : Instr) → Fits instr → HasRegister instr
Fits-register (Lui rd imm) fits = fits.0
Fits-register (Auipc rd imm) fits = fits.0
Fits-register (Jal rd offset) fits = fits.0
Fits-register (Jalr rd rs1 imm) fits = fits.0
Fits-register (Branch op rs1 rs2 offset) fits = tt
Fits-register (Load op rd rs1 imm) fits = fits.0
Fits-register (Store op rs1 rs2 imm) fits = tt
Fits-register (OpImm op rd rs1 imm) fits = fits.0
Fits-register (Op op rd rs1 rs2) fits = fits.0
Fits-register (Fence rest) fits = tt
Fits-register (FenceI rest) fits = tt
Fits-register Ecall fits = tt
Fits-register Ebreak fits = tt

-- every effect of an instruction with such a register is one that the machine can have
register-fine : (machine : Machine) (instr : Instr) → HasRegister instr → IsEffect machine (effect_of machine instr)
register-fine machine (Lui rd imm) low = low
register-fine machine (Auipc rd imm) low = low
register-fine machine (Jal rd offset) low = jump_to-fine machine rd (target_of machine.core.pc offset) low
register-fine machine (Jalr rd rs1 imm) low = jump_to-fine machine rd (jump_target (register machine.core rs1) imm) low
register-fine machine (Branch op rs1 rs2 offset) low = branch_of-fine machine op rs1 rs2 offset
register-fine machine (Load op rd rs1 imm) low = load_from-fine machine op rd
    (address_of (register machine.core rs1) imm) low
register-fine machine (Store op rs1 rs2 imm) low =
    store_at-fine machine op (address_of (register machine.core rs1) imm) (register machine.core rs2)
register-fine machine (OpImm op rd rs1 imm) low = low
register-fine machine (Op op rd rs1 rs2) low = low
register-fine machine (Fence rest) low = tt
register-fine machine (FenceI rest) low = tt
register-fine machine Ecall low = call_of-fine machine
register-fine machine Ebreak low = λ e. absurd (cc)

-- every effect of an instruction that fits is one that the machine can have
pub effect_of-fine : (machine : Machine) (instr : Instr) → Fits instr → IsEffect machine (effect_of machine instr)
effect_of-fine machine instr fits = register-fine machine instr (Fits-register instr fits)

-- each row makes an instruction with such a register, of any number
rows-register : (word : ℕ) → EachRow (λ r. Matches word r → HasRegister (instruction_of r.form word)) table
unfolding table
rows-register word = let low : rd_of word < 32 = omega arith in search (rules, low)

-- by the row that was found
found-fine : (machine : Machine) (word : ℕ) (found : Option Row) → find (is_match word) table ≡ found
    → IsEffect machine (effect_of_decoded machine (option_map (λ (r : Row). instruction_of r.form word) found))
found-fine machine word (Some r) e =
    register-fine machine (instruction_of r.form word)
    (find-each (λ (x : Row). HasRegister (instruction_of x.form word)) word table r (rows-register word) e)
found-fine machine word None e = λ same. absurd (cc)

-- and so is every effect of a word, and of any number
pub effect_of_word-fine : (machine : Machine) (word : ℕ) → IsEffect machine (effect_of_word machine word)
unfolding decoded
effect_of_word-fine machine word = found-fine machine word (find (is_match word) table) refl
