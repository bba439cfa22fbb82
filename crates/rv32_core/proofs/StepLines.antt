-- The lines of a step: where an effect's bytes lie, what its plan asks for, and what a trap gives.
use Rattle.std.proofs.Common.{◌≡◌, ℕ, ◌+◌, ◌%◌, ◌<◌, ◌≤◌, Bool, IsTrue, true, false, if◌then◌else◌, List, [], ◌∷◌, refl}
use Rattle.std.proofs.Common.{sym, ap, subst, arith}
use Rattle.std.proofs.lemmas.Bool.Decides.{nat_tests}
use Rattle.std.specs.Int.{from_le_bytes, w32}
use Rattle.asc_base.specs.Memory.{IsMemory}
use Rattle.request_plan.specs.Plan.{Plan, Done as Outcome, Ask}
use Rattle.rv32_table.specs.Meaning.{load_width, store_width}
use Rattle.rv32_table.specs.declared.instruction.LoadOp.{LoadOp}
use Rattle.rv32_table.specs.declared.instruction.LoadOp.TheVariants.{Lb, Lh, Lw, Lbu, Lhu}
use Rattle.rv32_table.specs.declared.instruction.StoreOp.{StoreOp}
use Rattle.rv32_table.specs.declared.instruction.StoreOp.TheVariants.{Sb, Sh, Sw}
use Rattle.rv32_core.specs.Access.{Access, Load, access_bytes, slice_of}
use Rattle.rv32_core.specs.Transfer.{pieces, stores_plan, loads_plan}
use Rattle.rv32_core.specs.Machine.{CoreState, Machine, IsEffect, is_inside, is_buffer, effect_of_word, cost_of_word}
use Rattle.rv32_core.specs.FlatMachine.{trap_at, bytes_at, after_read, after_write, going_on, effected, flat_step}
use Rattle.rv32_core.specs.StepPlan.{effect_plan, word_plan, step_plan}
use Rattle.rv32_core.specs.LineList.{Read, Write, LineUse, line_of, lines_of, used, data_lines, word_lines, fetch_line}
use Rattle.rv32_core.specs.LineList.{step_lines, AsksLines, asked_lines}
use Rattle.rv32_core.specs.declared.effect.Effect.{Effect}
use Rattle.rv32_core.specs.declared.effect.Effect.TheVariants.{Passes, Sets, Jumps, Loads, Stores, Answers, Breaks}
use Rattle.rv32_core.specs.declared.effect.Effect.TheVariants.{Reads, Writes, Exits, Traps}
use Rattle.rv32_core.specs.declared.outcome.Ended.TheVariants.{Trap}
use Rattle.rv32_core.specs.declared.outcome.TrapKind.{TrapKind}
use Rattle.rv32_core.specs.declared.outcome.TrapKind.TheVariants.{FetchFault}
use Rattle.rv32_core.proofs.EffectLaws.{is_buffer-above, is_buffer-below, is_inside-above, is_inside-below}
use Rattle.rv32_core.proofs.EffectLaws.{effect_of_word-fine}
use Rattle.rv32_core.proofs.LineLaws.{lines_of-one, AsksLines-last, AsksLines-asked, stores_plan-lines}
use Rattle.rv32_core.proofs.LineLaws.{loads_plan-lines}

-- ---- where the bytes of an effect lie
-- so many bytes from an address on are none, or all in the memory
pub record IsPlace (core : CoreState) (address count : ℕ) : Type 0 where
  pub above : 0 < count → core.base ≤ address
  pub below : 0 < count → address + count ≤ core.base + core.size

-- bytes that are inside
pub is_inside-place : (core : CoreState) (address count : ℕ) → is_inside core address count ≡ true
    → IsPlace core address count
is_inside-place core address count inside = record {
  above = λ _. grind (arith, nat_tests);
  below = λ _. grind (arith, nat_tests);
}

-- the bytes of a load, of a store, and of a buffer
pub load-place : (machine : Machine) (op : LoadOp) (index address : ℕ) → IsEffect machine (Loads op index address)
    → IsPlace machine.core address (load_width op)
load-place machine op index address fine = record {
  above = λ _. is_inside-above machine.core address (load_width op) fine.2;
  below = λ _. is_inside-below machine.core address (load_width op) fine.2;
}

pub store-place : (machine : Machine) (op : StoreOp) (address value : ℕ) → IsEffect machine (Stores op address value)
    → IsPlace machine.core address (store_width op)
store-place machine op address value fine = record {
  above = λ _. is_inside-above machine.core address (store_width op) fine.1;
  below = λ _. is_inside-below machine.core address (store_width op) fine.1;
}

pub is_buffer-place : (core : CoreState) (address count : ℕ) → IsTrue (is_buffer core address count)
    → IsPlace core address count
is_buffer-place core address count fits =
    record { above = is_buffer-above core address count fits; below = is_buffer-below core address count fits }

-- ---- what an effect asks for
-- a load's bytes lie in one line, and so do a store's
load-line : (core : CoreState) (op : LoadOp) (address : ℕ) → core.base % 64 ≡ 0 → core.base ≤ address
    → address % load_width op ≡ 0
    → lines_of core address (load_width op) ≡ line_of core address ∷ []
load-line core Lb address lines low whole = lines_of-one core address 1 lines low (omega arith) (omega arith)
load-line core Lh address lines low whole = lines_of-one core address 2 lines low (omega arith) (omega arith)
load-line core Lw address lines low whole = lines_of-one core address 4 lines low (omega arith) (omega arith)
load-line core Lbu address lines low whole = lines_of-one core address 1 lines low (omega arith) (omega arith)
load-line core Lhu address lines low whole = lines_of-one core address 2 lines low (omega arith) (omega arith)

store-line : (core : CoreState) (op : StoreOp) (address : ℕ) → core.base % 64 ≡ 0 → core.base ≤ address
    → address % store_width op ≡ 0
    → lines_of core address (store_width op) ≡ line_of core address ∷ []
store-line core Sb address lines low whole = lines_of-one core address 1 lines low (omega arith) (omega arith)
store-line core Sh address lines low whole = lines_of-one core address 2 lines low (omega arith) (omega arith)
store-line core Sw address lines low whole = lines_of-one core address 4 lines low (omega arith) (omega arith)

pub load_width-some : (op : LoadOp) → 0 < load_width op
load_width-some Lb = omega arith
load_width-some Lh = omega arith
load_width-some Lw = omega arith
load_width-some Lbu = omega arith
load_width-some Lhu = omega arith

pub store_width-some : (op : StoreOp) → 0 < store_width op
store_width-some Sb = omega arith
store_width-some Sh = omega arith
store_width-some Sw = omega arith

pub effect_plan-lines : (machine : Machine) (cost : ℕ) (effect : Effect) → machine.core.base % 64 ≡ 0
    → IsEffect machine effect
    → AsksLines machine.core (effect_plan machine cost effect) (data_lines machine.core effect)
effect_plan-lines machine cost Passes lines h = refl
effect_plan-lines machine cost (Sets index value) lines h = refl
effect_plan-lines machine cost (Jumps index target) lines h = refl
effect_plan-lines machine cost (Loads op index address) lines h =
    subst (λ l. AsksLines machine.core (effect_plan machine cost (Loads op index address)) (used Read l))
    (sym (load-line machine.core op address lines ((load-place machine op index address h).above (load_width-some op))
    (h.1))) (refl, λ _. refl)
effect_plan-lines machine cost (Stores op address value) lines h =
    subst (λ l. AsksLines machine.core (effect_plan machine cost (Stores op address value)) (used Write l))
    (sym (store-line machine.core op address lines
    ((store-place machine op address value h).above (store_width-some op)) (h.0))) (refl, λ _. refl)
effect_plan-lines machine cost (Answers value) lines h = refl
effect_plan-lines machine cost (Breaks value) lines h = refl
effect_plan-lines machine cost (Reads address count) lines h =
    let bytes : List ℕ = slice_of machine.files.input machine.files.position count in
    AsksLines-last machine.core (λ _. machine) (stores_plan bytes (pieces address count))
    (λ _. (after_read machine count, going_on cost))
    (used Write (lines_of machine.core address count))
    (stores_plan-lines machine.core address count bytes lines (is_buffer-above machine.core address count (h.0)))
effect_plan-lines machine cost (Writes address count) lines h =
    AsksLines-last machine.core (λ _. machine) (loads_plan machine.files.output (pieces address count))
    (λ output. (after_write machine output count, going_on cost))
    (used Read (lines_of machine.core address count))
    (loads_plan-lines machine.core address count machine.files.output lines
    (is_buffer-above machine.core address count (h.0)))
effect_plan-lines machine cost (Exits status) lines h = refl
effect_plan-lines machine cost (Traps kind) lines h = refl

-- ---- what a step asks for
pub memory-lines : (base size : ℕ) → IsMemory base size → base % 64 ≡ 0
memory-lines base size memory = let pages : base % 4096 ≡ 0 = memory.base_pages in omega arith

pub word_plan-lines : (machine : Machine) (word : ℕ) → IsMemory machine.core.base machine.core.size
    → AsksLines machine.core (word_plan machine word) (word_lines machine word)
word_plan-lines machine word memory =
    effect_plan-lines machine (cost_of_word machine word) (effect_of_word machine word)
    (memory-lines machine.core.base machine.core.size memory) (effect_of_word-fine machine word)

pub step_plan-inside : (machine : Machine) → is_inside machine.core machine.core.pc 4 ≡ true
    → step_plan machine ≡ Ask (Load machine.core.pc 4) machine (λ bytes. word_plan machine (from_le_bytes w32 bytes))
step_plan-inside machine inside = rw inside refl

pub step_plan-outside : (machine : Machine) → is_inside machine.core machine.core.pc 4 ≡ false
    → step_plan machine ≡ Outcome (machine, trap_at machine.core FetchFault)
step_plan-outside machine outside = rw outside refl

-- the lines of a choice are those of what is chosen
asked-if : {H B A : Type 0} (core : CoreState) (serve : H → Access
    → List ℕ × H) (test : Bool) (p q : Plan Access (List ℕ) B A) (held : H)
    (lines more : List LineUse) → asked_lines core serve p held ≡ lines → asked_lines core serve q held ≡ more
    → asked_lines core serve (if test then p else q) held ≡ (if test then lines else more)
asked-if core serve true p q held lines more h g = h
asked-if core serve false p q held lines more h g = g

pub step_plan-asked : (machine : Machine) (memory : List ℕ) → IsMemory machine.core.base machine.core.size
    → asked_lines machine.core (access_bytes machine.core.base) (step_plan machine) memory ≡ step_lines machine memory
step_plan-asked machine memory fits =
    let core = machine.core in
    let word : ℕ = from_le_bytes w32 (bytes_at machine memory core.pc 4) in
    asked-if core (access_bytes core.base) (is_inside core core.pc 4)
    (Ask (Load core.pc 4) machine (λ bytes. word_plan machine (from_le_bytes w32 bytes)))
    (effect_plan machine 0 (Traps FetchFault)) memory (fetch_line core ∷ word_lines machine word) []
    (ap (λ l. fetch_line core ∷ l)
    (AsksLines-asked core (access_bytes core.base) (word_plan machine word) memory (word_lines machine word)
    (word_plan-lines machine word fits)))
    refl

-- ---- what a trap gives
fault-lines : (machine : Machine) (memory : List ℕ) (cost : ℕ) (effect : Effect) (test : Bool) (pc : ℕ)
    → IsEffect machine effect
    → (if test then effected machine memory cost effect else effected machine memory 0 (Traps FetchFault)).done.ended
    ≡ Trap FetchFault pc
    → (if test then fetch_line machine.core ∷ data_lines machine.core effect else []) ≡ []
fault-lines machine memory cost effect false pc h e = refl
fault-lines machine memory cost Passes true pc h e = absurd (cc)
fault-lines machine memory cost (Sets index value) true pc h e = absurd (cc)
fault-lines machine memory cost (Jumps index target) true pc h e = absurd (cc)
fault-lines machine memory cost (Loads op index address) true pc h e = absurd (cc)
fault-lines machine memory cost (Stores op address value) true pc h e = absurd (cc)
fault-lines machine memory cost (Answers value) true pc h e = absurd (cc)
fault-lines machine memory cost (Breaks value) true pc h e = absurd (cc)
fault-lines machine memory cost (Reads address count) true pc h e = absurd (cc)
fault-lines machine memory cost (Writes address count) true pc h e = absurd (cc)
fault-lines machine memory cost (Exits status) true pc h e = absurd (cc)
fault-lines machine memory cost (Traps kind) true pc h e = absurd (h (let same : kind ≡ FetchFault = cc in same))

trap-lines : (machine : Machine) (memory : List ℕ) (cost : ℕ) (effect : Effect) (test : Bool) (kind : TrapKind) (pc : ℕ)
    → (if test then effected machine memory cost effect else effected machine memory 0 (Traps FetchFault)).done.ended
    ≡ Trap kind pc
    → (kind ≡ FetchFault → ⊥)
    → (if test then fetch_line machine.core ∷ data_lines machine.core effect else []) ≡ fetch_line machine.core ∷ []
trap-lines machine memory cost effect false kind pc e other = absurd (other (let same : kind ≡ FetchFault = cc in same))
trap-lines machine memory cost Passes true kind pc e other = refl
trap-lines machine memory cost (Sets index value) true kind pc e other = refl
trap-lines machine memory cost (Jumps index target) true kind pc e other = refl
trap-lines machine memory cost (Loads op index address) true kind pc e other = absurd (cc)
trap-lines machine memory cost (Stores op address value) true kind pc e other = absurd (cc)
trap-lines machine memory cost (Answers value) true kind pc e other = refl
trap-lines machine memory cost (Breaks value) true kind pc e other = refl
trap-lines machine memory cost (Reads address count) true kind pc e other = absurd (cc)
trap-lines machine memory cost (Writes address count) true kind pc e other = absurd (cc)
trap-lines machine memory cost (Exits status) true kind pc e other = refl
trap-lines machine memory cost (Traps found) true kind pc e other = refl

finished-lines : (machine : Machine) (memory : List ℕ) (cost : ℕ) (effect : Effect) (test : Bool)
    → ((kind : TrapKind) (pc : ℕ)
    → (if test then effected machine memory cost effect else effected machine memory 0 (Traps FetchFault)).done.ended
    ≡ Trap kind pc → ⊥)
    → (if test then fetch_line machine.core ∷ data_lines machine.core effect else [])
    ≡ fetch_line machine.core ∷ data_lines machine.core effect
finished-lines machine memory cost effect true h = refl
finished-lines machine memory cost effect false h = absurd (h FetchFault machine.core.pc refl)

pub step_lines-fault : (machine : Machine) (memory : List ℕ) (pc : ℕ)
    → (flat_step machine memory).done.ended ≡ Trap FetchFault pc → step_lines machine memory ≡ []
step_lines-fault machine memory pc e =
    let word : ℕ = from_le_bytes w32 (bytes_at machine memory machine.core.pc 4) in
    fault-lines machine memory (cost_of_word machine word) (effect_of_word machine word)
    (is_inside machine.core machine.core.pc 4) pc
    (effect_of_word-fine machine word) e

pub step_lines-trap : (machine : Machine) (memory : List ℕ) (kind : TrapKind) (pc : ℕ)
    → (flat_step machine memory).done.ended ≡ Trap kind pc → (kind ≡ FetchFault → ⊥)
    → step_lines machine memory ≡ fetch_line machine.core ∷ []
step_lines-trap machine memory kind pc e other =
    let word : ℕ = from_le_bytes w32 (bytes_at machine memory machine.core.pc 4) in
    trap-lines machine memory (cost_of_word machine word) (effect_of_word machine word)
    (is_inside machine.core machine.core.pc 4) kind pc e other

pub step_lines-finished : (machine : Machine) (memory : List ℕ)
    → ((kind : TrapKind) (pc : ℕ) → (flat_step machine memory).done.ended ≡ Trap kind pc → ⊥)
    → step_lines machine memory
    ≡ fetch_line machine.core ∷ word_lines machine (from_le_bytes w32 (bytes_at machine memory machine.core.pc 4))
step_lines-finished machine memory h =
    let word : ℕ = from_le_bytes w32 (bytes_at machine memory machine.core.pc 4) in
    finished-lines machine memory (cost_of_word machine word) (effect_of_word machine word)
    (is_inside machine.core machine.core.pc 4) h
