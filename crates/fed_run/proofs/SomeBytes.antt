-- A step asks for some bytes each time.
use Rattle.std.proofs.Common.{◌≡◌, ℕ, zero, suc, ◌+◌, ◌-◌, ◌<◌, ◌≤◌, Bool, true, false, if◌then◌else◌, List, ◌++◌}
use Rattle.std.proofs.Common.{length, take, drop, sym, subst, arith, length-drop}
use Rattle.std.proofs.lemmas.List.{length-take-le}
use Rattle.std.specs.Int.{from_le_bytes, w32}
use Rattle.request_plan.specs.Plan.{Plan, Done as Outcome, Ask, Asks}
use Rattle.request_plan.proofs.Alike.{Asks-bind}
use Rattle.rv32_core.specs.Access.{Load, slice_of}
use Rattle.rv32_core.specs.Machine.{Machine, IsEffect, is_inside, effect_of_word, cost_of_word}
use Rattle.rv32_core.specs.FlatMachine.{going_on, after_read, after_write}
use Rattle.rv32_core.specs.Transfer.{pieces_within, pieces, stores_plan, loads_plan}
use Rattle.rv32_core.specs.StepPlan.{effect_plan, word_plan, step_plan}
use Rattle.rv32_core.specs.declared.effect.Effect.{Effect}
use Rattle.rv32_core.specs.declared.effect.Effect.TheVariants.{Passes, Sets, Jumps, Loads, Stores, Answers, Breaks}
use Rattle.rv32_core.specs.declared.effect.Effect.TheVariants.{Reads, Writes, Exits, Traps}
use Rattle.rv32_core.specs.declared.outcome.TrapKind.TheVariants.{FetchFault}
use Rattle.rv32_core.proofs.EffectLaws.{effect_of_word-fine}
use Rattle.rv32_core.proofs.PlanLaws.{length-stored_bytes}
use Rattle.rv32_core.proofs.Served.{length-slice_of}
use Rattle.rv32_core.proofs.StepLines.{load_width-some, store_width-some}
use Rattle.rv32_core.proofs.TransferLaws.{first_length, pieces_within-none, pieces_within-more}
use Rattle.data_cache.specs.Cached.{HasBytes}

pub Asks-both : {Q X B A : Type 0} (P R : Q → Type 0) (p : Plan Q X B A) → Asks P p → Asks R p
    → Asks (λ q. P q × R q) p
Asks-both P R (Outcome a) h g = tt
Asks-both P R (Ask q b k) h g = ((h.0, g.0), λ x. Asks-both P R (k x) (h.1 x) (g.1 x))

stores-bytes : (most address count : ℕ) (bytes : List ℕ) → count ≤ most → count ≤ length bytes
    → Asks HasBytes (stores_plan bytes (pieces_within most address count))
stores-bytes most address zero bytes fits have =
    subst (λ l. Asks HasBytes (stores_plan bytes l)) (sym (pieces_within-none most address)) tt
stores-bytes zero address (suc n) bytes fits have = absurd (omega arith)
stores-bytes (suc most) address (suc n) bytes fits have =
    let part : ℕ = first_length address (suc n) in
    let first : length (take part bytes) ≡ part = length-take-le part bytes (omega arith) in
    let left : length (drop part bytes) ≡ length bytes - part = length-drop part bytes in
    subst (λ l. Asks HasBytes (stores_plan bytes l)) (sym (pieces_within-more most address (suc n) (omega arith))) (
      subst (λ k. 0 < k) (sym first) (omega arith),
      λ _. stores-bytes most (address + part) (suc n - part) (drop part bytes) (omega arith) (omega (arith, left)),
    )

loads-bytes : (most address count : ℕ) (so_far : List ℕ) → count ≤ most
    → Asks HasBytes (loads_plan so_far (pieces_within most address count))
loads-bytes most address zero so_far fits =
    subst (λ l. Asks HasBytes (loads_plan so_far l)) (sym (pieces_within-none most address)) tt
loads-bytes zero address (suc n) so_far fits = absurd (omega arith)
loads-bytes (suc most) address (suc n) so_far fits =
    let part : ℕ = first_length address (suc n) in
    subst (λ l. Asks HasBytes (loads_plan so_far l)) (sym (pieces_within-more most address (suc n) (omega arith))) (
      omega arith,
      λ bytes. loads-bytes most (address + part) (suc n - part) (so_far ++ bytes) (omega arith),
    )

-- the stores of all of some bytes, or of none
read-bytes : (address count : ℕ) (bytes : List ℕ) → count ≤ length bytes
    → Asks HasBytes (stores_plan bytes (pieces address count))
read-bytes address count bytes have = stores-bytes count address count bytes (omega arith) have

effect-bytes : (machine : Machine) (cost : ℕ) (effect : Effect) → IsEffect machine effect
    → Asks HasBytes (effect_plan machine cost effect)
effect-bytes machine cost Passes fine = tt
effect-bytes machine cost (Sets index value) fine = tt
effect-bytes machine cost (Jumps index target) fine = tt
effect-bytes machine cost (Loads op index address) fine = (load_width-some op, λ _. tt)
effect-bytes machine cost (Stores op address value) fine =
    (subst (λ n. 0 < n) (sym (length-stored_bytes op value)) (store_width-some op), λ _. tt)
effect-bytes machine cost (Answers value) fine = tt
effect-bytes machine cost (Breaks value) fine = tt
effect-bytes machine cost (Reads address count) fine =
    let bytes : List ℕ = slice_of machine.files.input machine.files.position count in
    let all : length bytes ≡ count = length-slice_of machine.files.input machine.files.position count fine.1 in
    Asks-bind HasBytes (λ _. machine) (stores_plan bytes (pieces address count))
    (λ _. Outcome (after_read machine count, going_on cost))
    (read-bytes address count bytes (omega (arith, all))) (λ _. tt)
effect-bytes machine cost (Writes address count) fine =
    Asks-bind HasBytes (λ _. machine) (loads_plan machine.files.output (pieces address count))
    (λ output. Outcome (after_write machine output count, going_on cost))
    (loads-bytes count address count machine.files.output (omega arith)) (λ _. tt)
effect-bytes machine cost (Exits status) fine = tt
effect-bytes machine cost (Traps kind) fine = tt

fetch-bytes : (machine : Machine) (b : Bool)
    → Asks HasBytes (if b then Ask (Load machine.core.pc 4) machine
    (λ bytes. word_plan machine (from_le_bytes w32 bytes)) else effect_plan machine 0 (Traps FetchFault))
fetch-bytes machine true = (
  omega arith,
  λ bytes. effect-bytes machine (cost_of_word machine (from_le_bytes w32 bytes))
      (effect_of_word machine (from_le_bytes w32 bytes)) (effect_of_word-fine machine (from_le_bytes w32 bytes)),
)
fetch-bytes machine false = tt

-- Whatever is answered, each access of a step has some bytes.
pub step_plan-bytes : (machine : Machine) → Asks HasBytes (step_plan machine)
step_plan-bytes machine = fetch-bytes machine (is_inside machine.core machine.core.pc 4)
