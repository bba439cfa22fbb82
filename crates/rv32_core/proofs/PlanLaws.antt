-- What every step's plan asks for lies in one line of the memory, and every outcome of it is a core of the same memory.
use Rattle.std.proofs.Common.{◌≡◌, ℕ, ◌+◌, ◌-◌, ◌%◌, ◌<◌, ◌≤◌, Bool, true, false, if◌then◌else◌, List, [], ◌∷◌, ◌++◌}
use Rattle.std.proofs.Common.{Result, refl, sym, subst, arith, zero, suc, take, drop, length, length-drop}
use Rattle.std.proofs.lemmas.Bool.Decides.{nat_tests}
use Rattle.std.proofs.lemmas.Grind.{common_steps}
use Rattle.std.proofs.lemmas.List.{length-take-le}
use Rattle.std.specs.Int.{from_le_bytes, w32}
use Rattle.request_plan.specs.Plan.{Done as Outcome, Ask, Ends, Asks}
use Rattle.request_plan.proofs.Alike.{Asks-bind}
use Rattle.request_plan.proofs.Chains.{Ends-bind-holds}
use Rattle.asc_base.specs.Memory.{IsMemory}
use Rattle.rv32_table.specs.Meaning.{load_meaning, store_width}
use Rattle.rv32_table.specs.declared.instruction.StoreOp.{StoreOp}
use Rattle.rv32_table.specs.declared.instruction.StoreOp.TheVariants.{Sb, Sh, Sw}
use Rattle.rv32_core.specs.Access.{Access, Load, IsInLine, IsAccess, slice_of}
use Rattle.rv32_core.specs.Machine.{CoreState, Machine, IsCore, IsEffect, core_at_start, is_inside, at_pc, next_pc}
use Rattle.rv32_core.specs.Machine.{with_register, effect_of_word, cost_of_word}
use Rattle.rv32_core.specs.FlatMachine.{going_on, stored_bytes, after_read, after_write}
use Rattle.rv32_core.specs.Transfer.{pieces_within, pieces, stores_plan, loads_plan}
use Rattle.rv32_core.specs.StepPlan.{effect_plan, word_plan, step_plan}
use Rattle.rv32_core.specs.declared.effect.Effect.{Effect}
use Rattle.rv32_core.specs.declared.effect.Effect.TheVariants.{Passes, Sets, Jumps, Loads, Stores, Answers, Breaks}
use Rattle.rv32_core.specs.declared.effect.Effect.TheVariants.{Reads, Writes, Exits, Traps}
use Rattle.rv32_core.specs.declared.outcome.Done.{Done}
use Rattle.rv32_core.specs.declared.outcome.TrapKind.TheVariants.{FetchFault}
use Rattle.rv32_core.proofs.EffectLaws.{is_buffer-above, is_buffer-below, load-in_line, store-in_line}
use Rattle.rv32_core.proofs.EffectLaws.{effect_of_word-fine}
use Rattle.rv32_core.proofs.Served.{length-slice_of}
use Rattle.rv32_core.proofs.TransferLaws.{first_length, pieces_within-none, pieces_within-more}

-- the first piece of a range lies in one line
first-in_line : (base size address count : ℕ) → 0 < count → base ≤ address → address + count ≤ base + size
    → IsInLine base size address (first_length address count)
first-in_line base size address count some above below = record {
  above = above;
  below = omega arith;
  in_line = omega arith;
}

-- each store of a range
Asks-stores_within : (base size most address : ℕ) (bytes : List ℕ) → length bytes ≤ most
    → (0 < length bytes → base ≤ address) → (0 < length bytes → address + length bytes ≤ base + size)
    → Asks (IsAccess base size) (stores_plan bytes (pieces_within most address (length bytes)))
Asks-stores_within base size most address [] fits above below =
    subst (λ l. Asks (IsAccess base size) (stores_plan [] l)) (sym (pieces_within-none most address)) tt
Asks-stores_within base size zero address (b ∷ bs) fits above below = absurd (omega arith)
Asks-stores_within base size (suc most) address (b ∷ bs) fits above below =
    let bytes : List ℕ = b ∷ bs in
    let count : ℕ = length bytes in
    let part : ℕ = first_length address count in
    let some : 0 < count = omega arith in
    let low : base ≤ address = above some in
    let high : address + count ≤ base + size = below some in
    let first : length (take part bytes) ≡ part = length-take-le part bytes (omega arith) in
    let left : length (drop part bytes) ≡ count - part = length-drop part bytes in
    let later = Asks-stores_within base size most (address + part) (drop part bytes) (omega (arith, left))
    (λ _. omega arith) (λ _. omega (arith, left)) in
    subst (λ l. Asks (IsAccess base size) (stores_plan bytes l)) (sym (pieces_within-more most address count some)) (
      subst (λ n. IsInLine base size address n) (sym first) (first-in_line base size address count some low high),
      λ _. subst
          (λ n. Asks (IsAccess base size) (stores_plan (drop part bytes) (pieces_within most (address + part) n))) left
          later,
    )

-- each load of a range
Asks-loads_within : (base size most address count : ℕ) (so_far : List ℕ) → count ≤ most
    → (0 < count → base ≤ address) → (0 < count → address + count ≤ base + size)
    → Asks (IsAccess base size) (loads_plan so_far (pieces_within most address count))
Asks-loads_within base size most address zero so_far fits above below =
    subst (λ l. Asks (IsAccess base size) (loads_plan so_far l)) (sym (pieces_within-none most address)) tt
Asks-loads_within base size zero address (suc n) so_far fits above below = absurd (omega arith)
Asks-loads_within base size (suc most) address (suc n) so_far fits above below =
    let count : ℕ = suc n in
    let part : ℕ = first_length address count in
    let some : 0 < count = omega arith in
    let low : base ≤ address = above some in
    let high : address + count ≤ base + size = below some in
    subst (λ l. Asks (IsAccess base size) (loads_plan so_far l)) (sym (pieces_within-more most address count some)) (
      first-in_line base size address count some low high,
      λ bytes. Asks-loads_within base size most (address + part) (count - part) (so_far ++ bytes) (omega arith)
          (λ _. omega arith) (λ _. omega arith),
    )

-- how many bytes a store has
pub length-stored_bytes : (op : StoreOp) (value : ℕ) → length (stored_bytes op value) ≡ store_width op
length-stored_bytes Sb value = refl
length-stored_bytes Sh value = refl
length-stored_bytes Sw value = refl

-- what an effect asks for
Asks-effect_plan : (machine : Machine) (cost : ℕ) (effect : Effect) → IsEffect machine effect
    → Asks (IsAccess machine.core.base machine.core.size) (effect_plan machine cost effect)
Asks-effect_plan machine cost Passes fine = tt
Asks-effect_plan machine cost (Sets index value) fine = tt
Asks-effect_plan machine cost (Jumps index target) fine = tt
Asks-effect_plan machine cost (Loads op index address) fine = (load-in_line machine op index address fine, λ _. tt)
Asks-effect_plan machine cost (Stores op address value) fine =
    let line : IsInLine machine.core.base machine.core.size address
    (store_width op) = store-in_line machine op address value fine in (
      subst (λ n. IsInLine machine.core.base machine.core.size address n)
          (sym (length-stored_bytes op value)) line,
      λ _. tt,
    )
Asks-effect_plan machine cost (Answers value) fine = tt
Asks-effect_plan machine cost (Breaks value) fine = tt
Asks-effect_plan machine cost (Reads address count) fine =
    let core = machine.core in
    let bytes : List ℕ = slice_of machine.files.input machine.files.position count in
    let all : length bytes ≡ count = length-slice_of machine.files.input machine.files.position count fine.1 in
    Asks-bind (IsAccess core.base core.size) (λ _. machine) (stores_plan bytes (pieces address count))
    (λ _. Outcome (after_read machine count, going_on cost))
    (subst (λ n. Asks (IsAccess core.base core.size) (stores_plan bytes (pieces address n))) all
    (Asks-stores_within core.base core.size (length bytes) address bytes (omega arith)
    (λ some. is_buffer-above core address count fine.0 (omega (arith, all)))
    (λ some. (let high : address + count ≤ core.base + core.size = is_buffer-below core address count fine.0
    (omega (arith, all)) in omega (arith, all)))))
    (λ _. tt)
Asks-effect_plan machine cost (Writes address count) fine =
    let core = machine.core in
    Asks-bind (IsAccess core.base core.size) (λ _. machine) (loads_plan machine.files.output (pieces address count))
    (λ output. Outcome (after_write machine output count, going_on cost))
    (Asks-loads_within core.base core.size count address count machine.files.output (omega arith)
    (is_buffer-above core address count fine.0) (is_buffer-below core address count fine.0))
    (λ _. tt)
Asks-effect_plan machine cost (Exits status) fine = tt
Asks-effect_plan machine cost (Traps kind) fine = tt

-- what a fetch asks for, where it is inside
Asks-fetch : (machine : Machine) (fits : Bool)
    → (fits ≡ true → IsInLine machine.core.base machine.core.size machine.core.pc 4)
    → Asks (IsAccess machine.core.base machine.core.size) (if fits then Ask (Load machine.core.pc 4) machine
    (λ bytes. word_plan machine (from_le_bytes w32 bytes)) else effect_plan machine 0 (Traps FetchFault))
Asks-fetch machine true line = (
  line refl,
  λ bytes. Asks-effect_plan machine (cost_of_word machine (from_le_bytes w32 bytes))
      (effect_of_word machine (from_le_bytes w32 bytes)) (effect_of_word-fine machine (from_le_bytes w32 bytes)),
)
Asks-fetch machine false line = tt

-- four bytes at a pc
fetch-in_line : (core : CoreState) → core.pc % 4 ≡ 0 → is_inside core core.pc 4 ≡ true
    → IsInLine core.base core.size core.pc 4
fetch-in_line core aligned fits = record {
  above = grind (arith, nat_tests);
  below = grind (arith, nat_tests);
  in_line = omega arith;
}

-- Whatever is answered, a step asks for bytes inside the memory and inside one line alone.
pub Asks-step_plan : (machine : Machine) → IsCore machine.core
    → Asks (IsAccess machine.core.base machine.core.size) (step_plan machine)
Asks-step_plan machine is =
    Asks-fetch machine (is_inside machine.core machine.core.pc 4) (fetch-in_line machine.core is.aligned)

-- a core of the same memory
pub record IsSameMemory (core next : CoreState) : Type 0 where
  pub is : IsCore next
  pub base : next.base ≡ core.base
  pub size : next.size ≡ core.size

-- The core at a program's start is one.
pub IsCore-core_at_start : (entry base size heap : ℕ) → IsMemory base size → entry % 4 ≡ 0
    → IsCore (core_at_start entry base size heap)
IsCore-core_at_start entry base size heap memory aligned =
    record { memory = memory; aligned = aligned; count = refl; zero = refl }

-- a register is set, and the core goes on at an address
IsCore-moved_on : (core : CoreState) (index value pc : ℕ) → pc % 4 ≡ 0 → IsCore core
    → IsSameMemory core (at_pc (with_register core index value) pc)
IsCore-moved_on core index value pc aligned is = record {
  is = record {
    memory = is.memory;
    aligned = aligned;
    count = grind (arith, common_steps, nat_tests);
    zero = grind (arith, common_steps, nat_tests);
  };
  base = refl;
  size = refl;
}

-- the next instruction's address is aligned
next_pc-aligned : (core : CoreState) → IsCore core → next_pc core % 4 ≡ 0
next_pc-aligned core is = let a : core.pc % 4 ≡ 0 = is.aligned in omega arith

-- a register is set, and the next instruction follows
IsCore-set_to : (core : CoreState) (index value : ℕ) → IsCore core
    → IsSameMemory core (at_pc (with_register core index value) (next_pc core))
IsCore-set_to core index value is = IsCore-moved_on core index value (next_pc core) (next_pc-aligned core is) is

-- the break is moved
IsCore-moved_break : (core : CoreState) (break : ℕ) → IsCore core → IsCore (record core { break_now = break })
IsCore-moved_break core break is = record { memory = is.memory; aligned = is.aligned; count = is.count; zero = is.zero }

module _ {S E : Type 0} (step : S → Access → Result (List ℕ) E → S → Type 0) where
  Ends-effect_keeps : (machine : Machine) (cost : ℕ) (effect : Effect) → IsEffect machine effect → IsCore machine.core
      → (s t : S) (end : Machine × Done) → Ends step (effect_plan machine cost effect) s t end
      → IsSameMemory machine.core ((end.0).core)
  Ends-effect_keeps machine cost Passes fine is s t end h =
      subst (λ (e : Machine × Done). IsSameMemory machine.core ((e.0).core)) (sym h.0)
      (IsCore-set_to machine.core 0 0 is)
  Ends-effect_keeps machine cost (Sets index value) fine is s t end h =
      subst (λ (e : Machine × Done). IsSameMemory machine.core ((e.0).core)) (sym h.0)
      (IsCore-set_to machine.core index value is)
  Ends-effect_keeps machine cost (Jumps index target) fine is s t end h =
      subst (λ (e : Machine × Done). IsSameMemory machine.core ((e.0).core)) (sym h.0)
      (IsCore-moved_on machine.core index (next_pc machine.core) target fine.1 is)
  Ends-effect_keeps machine cost (Loads op index address) fine is s t end h =
      subst (λ (e : Machine × Done). IsSameMemory machine.core ((e.0).core)) (sym (h.3).0)
      (IsCore-set_to machine.core index (load_meaning op (from_le_bytes w32 (h.0))) is)
  Ends-effect_keeps machine cost (Stores op address value) fine is s t end h =
      subst (λ (e : Machine × Done). IsSameMemory machine.core ((e.0).core)) (sym (h.3).0)
      (IsCore-set_to machine.core 0 0 is)
  Ends-effect_keeps machine cost (Answers value) fine is s t end h =
      subst (λ (e : Machine × Done). IsSameMemory machine.core ((e.0).core)) (sym h.0)
      (IsCore-set_to machine.core 10 value is)
  Ends-effect_keeps machine cost (Breaks value) fine is s t end h =
      let moved : CoreState = record machine.core { break_now = value } in
      let same : IsSameMemory moved (at_pc (with_register moved 10 value) (next_pc moved)) =
      IsCore-set_to moved 10 value (IsCore-moved_break machine.core value is)
      in
      subst (λ (e : Machine × Done). IsSameMemory machine.core ((e.0).core)) (sym h.0)
      (record { is = same.is; base = same.base; size = same.size })
  Ends-effect_keeps machine cost (Reads address count) fine is s t end h =
      Ends-bind-holds step (λ (e : Machine × Done). IsSameMemory machine.core ((e.0).core)) (λ _. machine)
      (stores_plan (slice_of machine.files.input machine.files.position count) (pieces address count))
      (λ _. Outcome (after_read machine count, going_on cost))
      (λ x s' t' e g. subst (λ (r : Machine × Done). IsSameMemory machine.core ((r.0).core)) (sym g.0)
      (IsCore-set_to machine.core 10 count is)) s t end h
  Ends-effect_keeps machine cost (Writes address count) fine is s t end h =
      Ends-bind-holds step (λ (e : Machine × Done). IsSameMemory machine.core ((e.0).core)) (λ _. machine)
      (loads_plan machine.files.output (pieces address count))
      (λ output. Outcome (after_write machine output count, going_on cost))
      (λ x s' t' e g. subst (λ (r : Machine × Done). IsSameMemory machine.core ((r.0).core)) (sym g.0)
      (IsCore-set_to machine.core 10 count is)) s t end h
  Ends-effect_keeps machine cost (Exits status) fine is s t end h =
      subst (λ (e : Machine × Done). IsSameMemory machine.core ((e.0).core)) (sym h.0)
      (record { is = is; base = refl; size = refl })
  Ends-effect_keeps machine cost (Traps kind) fine is s t end h =
      subst (λ (e : Machine × Done). IsSameMemory machine.core ((e.0).core)) (sym h.0)
      (record { is = is; base = refl; size = refl })

  Ends-fetch_keeps : (machine : Machine) (fits : Bool) → IsCore machine.core → (s t : S) (end : Machine × Done)
      → Ends step (if fits then Ask (Load machine.core.pc 4) machine
      (λ bytes. word_plan machine (from_le_bytes w32 bytes)) else effect_plan machine 0 (Traps FetchFault)) s t end
      → IsSameMemory machine.core ((end.0).core)
  Ends-fetch_keeps machine true is s t end h =
      let word : ℕ = from_le_bytes w32 (h.0) in
      Ends-effect_keeps machine (cost_of_word machine word) (effect_of_word machine word)
      (effect_of_word-fine machine word) is (h.1) t end (h.3)
  Ends-fetch_keeps machine false is s t end h =
      subst (λ (e : Machine × Done). IsSameMemory machine.core ((e.0).core)) (sym h.0)
      (record { is = is; base = refl; size = refl })

  -- Whatever is answered, the core after a step is one of the same memory.
  pub Ends-step_keeps : (machine : Machine) → IsCore machine.core → (s t : S) (end : Machine × Done)
      → Ends step (step_plan machine) s t end → IsSameMemory machine.core ((end.0).core)
  Ends-step_keeps machine is s t end h = Ends-fetch_keeps machine
      (is_inside machine.core machine.core.pc 4) is s t end h
