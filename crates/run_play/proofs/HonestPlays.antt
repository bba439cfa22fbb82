-- An instruction keeps what stands for a list of bytes.
use Rattle.std.proofs.Common.{◌≡◌, ℕ, ◌+◌, ◌-◌, ◌*◌, ◌/◌, ◌%◌, ◌<◌, ◌≤◌, false, List, length, refl, sym, ap, subst}
use Rattle.std.proofs.Common.{◌∙◌, arith, inl, inr}
use Rattle.std.proofs.lemmas.Bool.{cases_lt}
use Rattle.data_cache.specs.CacheLists.{Lines, changes, line_in}
use Rattle.data_cache.proofs.Parts.{line-before, line-behind}
use Rattle.request_plan.specs.Plan.{Plan, Done, Ask, Asks}
use Rattle.request_plan.specs.Play.{play, bare}
use Rattle.rv32_core.specs.Access.{Access, Load, Store, IsAccess, access_bytes, length-spliced}
use Rattle.rv32_core.specs.LineList.{line_used}
use Rattle.rv32_core.specs.Machine.{CoreState, Machine, IsCore}
use Rattle.rv32_core.specs.StepPlan.{step_plan}
use Rattle.rv32_core.proofs.PlanLaws.{Asks-step_plan}
use Rattle.run_play.specs.Honest.{stored_by, IsHonest}
use Rattle.run_play.specs.Play.{access_turn, instruction}
use Rattle.run_play.specs.Requests.{StoredLines}
use Rattle.run_play.proofs.Honest.{use-honest}
use Rattle.run_play.proofs.Stored.{stored-twice}
use Rattle.run_play.proofs.Turns.{bare-turn}

module _ (ways count : ℕ) (core : CoreState) (some : 0 < ways) (aligned : core.base % 64 ≡ 0) where
  -- an access changes its own line alone, and none where it only reads
  access-same : (access : Access) (memory : List ℕ) → IsAccess core.base (64 * count) access
      → length memory ≡ 64 * count
      → (n : ℕ) → (n ≡ (line_used core access).line → ⊥)
      → line_in ((access_bytes core.base memory access).1) n ≡ line_in memory n
  access-same (Load address size) memory is long n ne = refl
  access-same (Store address bytes) memory is long n ne =
      let low : core.base ≤ address = is.above in
      let high : address + length bytes ≤ core.base + 64 * count = is.below in
      let line : address % 64 + length bytes ≤ 64 = is.in_line in
      elim (cases_lt n ((address - core.base) / 64)) [
        | inl before ↦ line-before memory (address - core.base) n bytes (omega arith) (omega arith)
        | inr after ↦ line-behind memory (address - core.base) n bytes (omega arith)
            (let later : (address - core.base) / 64 < n = grind (arith, ne) in omega arith)
      ]

  access-reads : (access : Access) (memory : List ℕ) → changes (line_used core access).kind ≡ false
      → (access_bytes core.base memory access).1 ≡ memory
  access-reads (Load address size) memory clean = refl
  access-reads (Store address bytes) memory clean = absurd cc

  pub access-long : (access : Access) (memory : List ℕ) → IsAccess core.base (64 * count) access
      → length memory ≡ 64 * count
      → length ((access_bytes core.base memory access).1) ≡ 64 * count
  access-long (Load address size) memory is long = long
  access-long (Store address bytes) memory is long =
      let low : core.base ≤ address = is.above in
      let high : address + length bytes ≤ core.base + 64 * count = is.below in
      length-spliced memory (address - core.base) bytes (omega arith) ∙ long

  -- an access
  pub access-honest : (access : Access) (pending : List ℕ) (lines : Lines) (before : StoredLines)
      → IsAccess core.base (64 * count) access
      → length lines.memory ≡ 64 * count → IsHonest ways count pending lines before
      → let turn = access_turn ways core lines access in
      IsHonest ways count pending turn.held (stored_by before turn.records)
  access-honest access pending lines before is long h =
      use-honest ways count pending lines ((access_bytes core.base lines.memory access).1)
      (line_used core access) before
      some h (access-same access lines.memory is long) (access-reads access lines.memory)

  -- a plan of them
  pub plan-honest : {B A : Type 0} (plan : Plan Access (List ℕ) B A) (pending : List ℕ) (lines : Lines)
      (before : StoredLines)
      → Asks (IsAccess core.base (64 * count)) plan → length lines.memory ≡ 64 * count
      → IsHonest ways count pending lines before → let whole = play (access_turn ways core) plan lines in
      IsHonest ways count pending whole.held (stored_by before (bare whole.records))
  plan-honest (Done a) pending lines before asks long h = h
  plan-honest {B} {A} (Ask access left next) pending lines before asks long h =
      let turn = access_turn ways core lines access in
      let rest = play (access_turn ways core) (next turn.answer) turn.held in
      let later : IsHonest ways count pending rest.held (stored_by (stored_by before turn.records)
      (bare rest.records)) =
      plan-honest (next turn.answer) pending turn.held (stored_by before turn.records) (asks.1 turn.answer)
      (access-long access lines.memory asks.0 long) (access-honest access pending lines before asks.0 long h) in
      subst (IsHonest ways count pending rest.held)
      (sym (ap (stored_by before) (bare-turn left turn.records rest.records)
      ∙ stored-twice before turn.records (bare rest.records))) later

-- an instruction
pub instruction-honest : (ways count : ℕ) (pending : List ℕ) (machine : Machine) (lines : Lines) (before : StoredLines)
    → 0 < ways → IsCore machine.core → machine.core.size ≡ 64 * count → length lines.memory ≡ 64 * count
    → IsHonest ways count pending lines before → let step = instruction ways machine lines in
    IsHonest ways count pending step.held (stored_by before (bare step.records))
instruction-honest ways count pending machine lines before some is size long h =
    plan-honest ways count machine.core some (omega (arith, is.memory.base_pages))
    (step_plan machine) pending lines before
    (subst (λ n. Asks (IsAccess machine.core.base n) (step_plan machine)) size (Asks-step_plan machine is)) long h
