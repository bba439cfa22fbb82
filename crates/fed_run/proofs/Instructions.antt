-- An instruction's plan over a list of bytes that is fed: its lines are used, and then it has its effect.
use Rattle.std.proofs.Common.{◌≡◌, ℕ, ◌+◌, ◌*◌, ◌%◌, ◌<◌, ◌≤◌, Bool, true, false, if◌then◌else◌, List, [], ◌∷◌, Result}
use Rattle.std.proofs.Common.{Ok, Err, length, refl, sym, ap, subst, ◌∙◌, arith}
use Rattle.std.specs.Int.{from_le_bytes, w32}
use Rattle.asc_base.specs.Memory.{IsMemory}
use Rattle.request_plan.specs.Plan.{Plan, Done as Outcome, Ask, bind}
use Rattle.rv32_table.specs.Meaning.{load_width, store_width}
use Rattle.rv32_core.specs.Access.{Access, Load, Store, access_bytes, slice_of}
use Rattle.rv32_core.specs.Machine.{CoreState, Machine, IsEffect, is_inside, at_pc, next_pc, effect_of_word}
use Rattle.rv32_core.specs.Machine.{cost_of_word}
use Rattle.rv32_core.specs.FlatMachine.{bytes_at, stored_bytes, after_load, after_read, after_write, going_on, effected}
use Rattle.rv32_core.specs.FlatMachine.{trap_at}
use Rattle.rv32_core.specs.Transfer.{pieces, stores_plan, loads_plan}
use Rattle.rv32_core.specs.StepPlan.{effect_plan, word_plan, step_plan}
use Rattle.rv32_core.specs.LineList.{Read, Write, line_of, lines_of, used, data_lines, fetch_line}
use Rattle.rv32_core.specs.declared.effect.Effect.{Effect}
use Rattle.rv32_core.specs.declared.effect.Effect.TheVariants.{Passes, Sets, Jumps, Loads, Stores, Answers, Breaks}
use Rattle.rv32_core.specs.declared.effect.Effect.TheVariants.{Reads, Writes, Exits, Traps}
use Rattle.rv32_core.specs.declared.outcome.Done.{Done}
use Rattle.rv32_core.specs.declared.outcome.TrapKind.TheVariants.{FetchFault}
use Rattle.rv32_core.proofs.EffectLaws.{is_buffer-above, is_buffer-below, load-in_line, store-in_line}
use Rattle.rv32_core.proofs.EffectLaws.{effect_of_word-fine}
use Rattle.rv32_core.proofs.LineLaws.{lines_of-one}
use Rattle.rv32_core.proofs.Served.{length-slice_of}
use Rattle.rv32_core.proofs.StepLines.{is_inside-place, load_width-some, store_width-some}
use Rattle.data_cache.specs.Cached.{use_at}
use Rattle.fed_run.specs.Fed.{Feed, fed_use, fed_uses, FedStep, fed_after, fed_word, fed_step}
use Rattle.fed_run.specs.Fed.{Unfed, fed_map, fed_then}
use Rattle.fed_run.proofs.AccessCourses.{fed_served, accessed}
use Rattle.fed_run.proofs.Feeds.{IsFeed, use-cases}
use Rattle.fed_run.proofs.Transfers.{IsPlace, stored, loaded, served-stores, served-loads}

-- ---- one plan after another
served-after : {B C A D : Type 0} (base ways : ℕ) (put : B → C) (next : A → Plan Access (List ℕ) C D)
    (left : B) (k : List ℕ → Plan Access (List ℕ) B A) (access : Access) (r : Result Feed Unfed)
    → ((bytes : List ℕ) (feed : Feed) → fed_served base ways (bind put (k bytes) next) feed
    ≡ fed_then (λ (z : A × Feed). fed_served base ways (next (z.0)) (z.1)) (fed_served base ways (k bytes) feed))
    → fed_then (λ (now : Feed). fed_served base ways
    (bind put (k ((access_bytes base now.memory access).0)) next) (accessed base access now)) r
    ≡ fed_then (λ (z : A × Feed). fed_served base ways (next (z.0)) (z.1))
    (fed_then (λ (now : Feed). fed_served base ways (k ((access_bytes base now.memory access).0))
    (accessed base access now)) r)
served-after base ways put next left k access (Err why) each = refl
served-after base ways put next left k access (Ok now) each =
    each ((access_bytes base now.memory access).0) (accessed base access now)

pub served-bind : {B C A D : Type 0} (base ways : ℕ) (put : B → C) (plan : Plan Access (List ℕ) B A)
    (next : A → Plan Access (List ℕ) C D) (feed : Feed)
    → fed_served base ways (bind put plan next) feed
    ≡ fed_then (λ (z : A × Feed). fed_served base ways (next (z.0)) (z.1)) (fed_served base ways plan feed)
served-bind base ways put (Outcome a) next feed = refl
served-bind base ways put (Ask access left k) next feed =
    served-after base ways put next left k access (fed_use ways feed (use_at base access))
    (λ bytes now. served-bind base ways put (k bytes) next now)

-- ---- an effect
-- the machine and the answer of a step, and what stands behind it
abbrev pub parts : FedStep → (Machine × Done) × Feed
parts step = ((step.machine, step.done), step.feed)

-- an effect on what stands behind a machine
abbrev pub effect_on : Machine → ℕ → Effect → Feed → FedStep
effect_on machine cost effect now = fed_after (effected machine now.memory cost effect) now.sets now.left

abbrev FedEffect : ℕ → Machine → ℕ → Feed → Effect → Type 0
FedEffect ways machine cost feed effect =
    fed_served machine.core.base ways (effect_plan machine cost effect) feed
    ≡ fed_map parts (fed_map (effect_on machine cost effect) (fed_uses ways feed
    (data_lines machine.core effect)))

load-on : (machine : Machine) (cost : ℕ) (effect : Effect) (access : Access)
    (k : List ℕ → Plan Access (List ℕ) Machine (Machine × Done)) (ways : ℕ) (r : Result Feed Unfed)
    → ((now : Feed) → fed_served machine.core.base ways (k ((access_bytes machine.core.base now.memory access).0))
    (accessed machine.core.base access now) ≡ Ok (parts (effect_on machine cost effect now)))
    → fed_then (λ (now : Feed). fed_served machine.core.base ways
    (k ((access_bytes machine.core.base now.memory access).0)) (accessed machine.core.base access now)) r
    ≡ fed_map parts (fed_map (effect_on machine cost effect) (fed_then (λ (now : Feed). Ok now) r))
load-on machine cost effect access k ways (Err why) each = refl
load-on machine cost effect access k ways (Ok now) each = each now

read-on : (machine : Machine) (cost address count : ℕ) (r : Result Feed Unfed)
    → let bytes : List ℕ = slice_of machine.files.input machine.files.position count in
    fed_then (λ (z : Unit {0} × Feed). let end : (Machine × Done) × Feed =
    ((after_read machine count, going_on cost), z.1) in Ok end)
    (fed_map (stored machine.core address bytes) r)
    ≡ fed_map parts (fed_map (effect_on machine cost (Reads address count)) r)
read-on machine cost address count (Err why) = refl
read-on machine cost address count (Ok now) = refl

write-on : (machine : Machine) (cost address count : ℕ) (r : Result Feed Unfed)
    → fed_then (λ (z : List ℕ × Feed). let end : (Machine × Done) × Feed =
    ((after_write machine (z.0) count, going_on cost), z.1) in Ok end)
    (fed_map (loaded machine.core address count machine.files.output) r)
    ≡ fed_map parts (fed_map (effect_on machine cost (Writes address count)) r)
write-on machine cost address count (Err why) = refl
write-on machine cost address count (Ok now) = refl

effect-fed : (ways : ℕ) (machine : Machine) (cost : ℕ) (feed : Feed) (effect : Effect)
    → IsPlace machine.core machine.core.size → IsFeed machine.core.size feed → IsEffect machine effect
    → FedEffect ways machine cost feed effect
effect-fed ways machine cost feed Passes place is fine = refl
effect-fed ways machine cost feed (Sets index value) place is fine = refl
effect-fed ways machine cost feed (Jumps index target) place is fine = refl
effect-fed ways machine cost feed (Loads op index address) place is fine =
    let line = load-in_line machine op index address fine in
    let lines : lines_of machine.core address (load_width op) ≡ line_of machine.core address ∷ [] =
    lines_of-one machine.core address (load_width op) place.base line.above (load_width-some op) line.in_line in
    load-on machine cost (Loads op index address) (Load address (load_width op))
    (λ bytes. Outcome (after_load machine op index bytes, going_on cost)) ways
    (fed_use ways feed (use_at machine.core.base (Load address (load_width op)))) (λ now. refl)
    ∙ ap (λ l. fed_map parts (fed_map (effect_on machine cost (Loads op index address))
    (fed_uses ways feed (used Read l)))) (sym lines)
effect-fed ways machine cost feed (Stores op address value) place is fine =
    let line = store-in_line machine op address value fine in
    let lines : lines_of machine.core address (store_width op) ≡ line_of machine.core address ∷ [] =
    lines_of-one machine.core address (store_width op) place.base line.above (store_width-some op) line.in_line in
    load-on machine cost (Stores op address value) (Store address (stored_bytes op value))
    (λ none. Outcome (record machine { core = at_pc machine.core (next_pc machine.core) }, going_on cost)) ways
    (fed_use ways feed (record { line = line_of machine.core address; kind = Write })) (λ now. refl)
    ∙ ap (λ l. fed_map parts (fed_map (effect_on machine cost (Stores op address value))
    (fed_uses ways feed (used Write l)))) (sym lines)
effect-fed ways machine cost feed (Answers value) place is fine = refl
effect-fed ways machine cost feed (Breaks value) place is fine = refl
effect-fed ways machine cost feed (Reads address count) place is fine =
    let core : CoreState = machine.core in
    let bytes : List ℕ = slice_of machine.files.input machine.files.position count in
    let all : length bytes ≡ count = length-slice_of machine.files.input machine.files.position count fine.1 in
    let low : 0 < count → core.base ≤ address = is_buffer-above core address count fine.0 in
    let high : 0 < count → address + count ≤ core.base + core.size = is_buffer-below core address count fine.0 in
    served-bind core.base ways (λ _. machine) (stores_plan bytes (pieces address count))
    (λ _. Outcome (after_read machine count, going_on cost)) feed
    ∙ ap (fed_then (λ (z : Unit {0} × Feed). let end : (Machine × Done) × Feed =
    ((after_read machine count, going_on cost), z.1) in Ok end))
    (ap (λ n. fed_served core.base ways (stores_plan bytes (pieces address n)) feed) (sym all)
    ∙ served-stores core core.size place ways address bytes feed
    (subst (λ n. 0 < n → core.base ≤ address) (sym all) low)
    (subst (λ n. 0 < n → address + n ≤ core.base + core.size) (sym all) high) is
    ∙ ap (λ n. fed_map (stored core address bytes) (fed_uses ways feed (used Write (lines_of core address n)))) all)
    ∙ read-on machine cost address count (fed_uses ways feed (used Write (lines_of core address count)))
effect-fed ways machine cost feed (Writes address count) place is fine =
    let core : CoreState = machine.core in
    served-bind core.base ways (λ _. machine) (loads_plan machine.files.output (pieces address count))
    (λ output. Outcome (after_write machine output count, going_on cost)) feed
    ∙ ap (fed_then (λ (z : List ℕ × Feed). let end : (Machine × Done) × Feed =
    ((after_write machine (z.0) count, going_on cost), z.1) in Ok end))
    (served-loads core core.size place ways address count machine.files.output feed
    (is_buffer-above core address count fine.0) (is_buffer-below core address count fine.0) is)
    ∙ write-on machine cost address count (fed_uses ways feed (used Read (lines_of core address count)))
effect-fed ways machine cost feed (Exits status) place is fine = refl
effect-fed ways machine cost feed (Traps kind) place is fine = refl

-- ---- an instruction
memory-place : (core : CoreState) → IsMemory core.base core.size → IsPlace core core.size
memory-place core is =
    let base : core.base % 4096 ≡ 0 = is.base_pages in
    let size : core.size % 4096 ≡ 0 = is.size_pages in
    record { base = omega arith; whole = omega arith }

step-if : (ways : ℕ) (machine : Machine) (feed : Feed) (b : Bool) → IsPlace machine.core machine.core.size
    → IsFeed machine.core.size feed → (b ≡ true → 64 * line_of machine.core machine.core.pc + 64 ≤ machine.core.size)
    → fed_served machine.core.base ways (if b then Ask (Load machine.core.pc 4) machine
    (λ bytes. word_plan machine (from_le_bytes w32 bytes)) else effect_plan machine 0 (Traps FetchFault)) feed
    ≡ fed_map parts (if b then fed_then
    (λ (now : Feed). fed_word ways machine (from_le_bytes w32 (bytes_at machine now.memory machine.core.pc 4)) now)
    (fed_use ways feed (fetch_line machine.core))
    else Ok (record { machine = machine; feed = feed; done = trap_at machine.core FetchFault }))
step-if ways machine feed false place is inside = refl
step-if ways machine feed true place is inside =
    use-cases machine.core.size ways feed (fetch_line machine.core)
    (λ r. fed_then (λ (now : Feed). fed_served machine.core.base ways
    (word_plan machine (from_le_bytes w32 (bytes_at machine now.memory machine.core.pc 4))) now) r
    ≡ fed_map parts (fed_then (λ (now : Feed). fed_word ways machine
    (from_le_bytes w32 (bytes_at machine now.memory machine.core.pc 4)) now) r))
    is (inside refl) (λ why. refl)
    (λ now good patched.
    let word : ℕ = from_le_bytes w32 (bytes_at machine now.memory machine.core.pc 4) in
    effect-fed ways machine (cost_of_word machine word) now (effect_of_word machine word) place good
    (effect_of_word-fine machine word))

fetch-inside : (core : CoreState) → IsMemory core.base core.size → is_inside core core.pc 4 ≡ true
    → 64 * line_of core core.pc + 64 ≤ core.size
fetch-inside core is inside =
    let place = is_inside-place core core.pc 4 inside in
    let low : core.base ≤ core.pc = place.above (omega arith) in
    let high : core.pc + 4 ≤ core.base + core.size = place.below (omega arith) in
    let size : core.size % 4096 ≡ 0 = is.size_pages in
    omega arith

-- An instruction's plan is what the instruction is where it is fed.
pub served-step : (ways : ℕ) (machine : Machine) (feed : Feed) → IsMemory machine.core.base machine.core.size
    → IsFeed machine.core.size feed
    → fed_served machine.core.base ways (step_plan machine) feed ≡ fed_map parts (fed_step ways machine feed)
served-step ways machine feed is good =
    step-if ways machine feed (is_inside machine.core machine.core.pc 4) (memory-place machine.core is) good
    (fetch-inside machine.core is)
