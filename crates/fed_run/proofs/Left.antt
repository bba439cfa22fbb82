-- What an instruction over a cache leaves where it is stopped: its machine as it was.
use Rattle.std.proofs.Common.{◌≡◌, ℕ, Bool, true, false, if◌then◌else◌, List, Result, refl, ap, inl, inr, ◌∙◌}
use Rattle.std.specs.Int.{from_le_bytes, w32}
use Rattle.request_plan.specs.Plan.{Plan, Done as Outcome, Ask, bind, through, Stops}
use Rattle.request_plan.proofs.Chains.{Stops-unbind}
use Rattle.rv32_core.specs.Access.{Load, slice_of}
use Rattle.rv32_core.specs.FlatMachine.{going_on, after_read, after_write}
use Rattle.rv32_core.specs.Machine.{Machine, is_inside, effect_of_word, cost_of_word}
use Rattle.rv32_core.specs.StepPlan.{effect_plan, word_plan, step_plan}
use Rattle.rv32_core.specs.Transfer.{pieces, stores_plan, loads_plan}
use Rattle.rv32_core.specs.declared.effect.Effect.{Effect}
use Rattle.rv32_core.specs.declared.effect.Effect.TheVariants.{Passes, Sets, Jumps, Loads, Stores, Answers, Breaks}
use Rattle.rv32_core.specs.declared.effect.Effect.TheVariants.{Reads, Writes, Exits, Traps}
use Rattle.rv32_core.specs.declared.outcome.TrapKind.TheVariants.{FetchFault}
use Rattle.data_cache.specs.Lines.{LineRequest}
use Rattle.data_cache.specs.Contents.{Contents}
use Rattle.data_cache.specs.Cached.{cache_access}

-- every request of a plan leaves this
abbrev Leaves : {Q X B A : Type 0} → B → Plan Q X B A → Type 0
Leaves l (Outcome a) = Unit {0}
Leaves {Q} {X} l (Ask q b k) = (b ≡ l) × ((x : X) → Leaves l (k x))

leaves-bind : {Q X B C A D : Type 0} (l : C) (p : Plan Q X B A) (next : A → Plan Q X C D)
    → ((a : A) → Leaves l (next a)) → Leaves l (bind (λ b. l) p next)
leaves-bind l (Outcome a) next each = each a
leaves-bind l (Ask q b k) next each = (refl, λ x. leaves-bind l (k x) next each)

effect-leaves : (machine : Machine) (cost : ℕ) (effect : Effect) → Leaves machine (effect_plan machine cost effect)
effect-leaves machine cost Passes = tt
effect-leaves machine cost (Sets index value) = tt
effect-leaves machine cost (Jumps index target) = tt
effect-leaves machine cost (Loads op index address) = (refl, λ _. tt)
effect-leaves machine cost (Stores op address value) = (refl, λ _. tt)
effect-leaves machine cost (Answers value) = tt
effect-leaves machine cost (Breaks value) = tt
effect-leaves machine cost (Reads address count) =
    leaves-bind machine (stores_plan (slice_of machine.files.input machine.files.position count) (pieces address count))
    (λ _. Outcome (after_read machine count, going_on cost)) (λ _. tt)
effect-leaves machine cost (Writes address count) =
    leaves-bind machine (loads_plan machine.files.output (pieces address count))
    (λ output. Outcome (after_write machine output count, going_on cost)) (λ _. tt)
effect-leaves machine cost (Exits status) = tt
effect-leaves machine cost (Traps kind) = tt

fetch-leaves : (machine : Machine) (b : Bool)
    → Leaves machine (if b then Ask (Load machine.core.pc 4) machine
    (λ bytes. word_plan machine (from_le_bytes w32 bytes)) else effect_plan machine 0 (Traps FetchFault))
fetch-leaves machine true = (
  refl,
  λ bytes. effect-leaves machine (cost_of_word machine (from_le_bytes w32 bytes))
      (effect_of_word machine (from_le_bytes w32 bytes)),
)
fetch-leaves machine false = tt

stops-leave : {S Q X P Y E H C B A : Type 0} (step : S → P → Result Y E → S → Type 0)
    (serve : H → Q → Plan P Y C (H × X)) (l : B) (plan : Plan Q X B A) (held : H) (s t : S) (e : E) (left : C × B)
    → Leaves l plan → Stops step (through serve plan held) s t e left → left.1 ≡ l
stops-leave step serve l (Outcome a) held s t e left leaves h = absurd h
stops-leave {S} {Q} {X} {P} {Y} {E} {H} {C} {B} step serve l (Ask q b k) held s t e left leaves h =
    elim (Stops-unbind step (λ c. (c, b)) (serve held q) (λ r. through serve (k (r.1)) (r.0)) s t e left h) [
      | inl one ↦ ap (λ (z : C × B). z.1) (one.2) ∙ leaves.0
      | inr two ↦ stops-leave step serve l (k ((two.0).1)) ((two.0).0) (two.1) t e left (leaves.1 ((two.0).1)) (two.3)
    ]

pub step_left : {S E : Type 0} (step : S → LineRequest → Result (List ℕ) E → S → Type 0) (base : ℕ) (machine : Machine)
    (cache : Contents) (s t : S) (stop : E) (left : Contents × Machine)
    → Stops step (through (cache_access base) (step_plan machine) cache) s t stop left → left.1 ≡ machine
step_left step base machine cache s t stop left h =
    stops-leave step (cache_access base) machine (step_plan machine) cache s t stop left
    (fetch-leaves machine (is_inside machine.core machine.core.pc 4)) h
