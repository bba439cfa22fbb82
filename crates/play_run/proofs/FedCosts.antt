-- The costs of the instructions that finish, one after another.
use Rattle.std.proofs.Common.{◌≡◌, ℕ, zero, suc, ◌+◌, Result, Ok, Err, refl, sym, ap, arith, ◌∙◌}
use Rattle.rv32_core.specs.FlatRun.{Exited, Trapped, Budget}
use Rattle.rv32_core.specs.Machine.{Machine}
use Rattle.rv32_core.specs.declared.outcome.Ended.{Ended}
use Rattle.rv32_core.specs.declared.outcome.Ended.TheVariants.{No, Exit, Trap}
use Rattle.rv32_core.specs.declared.outcome.TrapKind.{TrapKind}
use Rattle.fed_run.specs.Fed.{Feed, FedStep, fed_step, FedEnding, Ends, Starves, FedRun, one_before, fed_on, fed_from}
use Rattle.fed_run.specs.Fed.{fed_run, Refuses, Unfed, NoneLeft, AnotherLine}
use Rattle.fed_run.proofs.HonestLaws.{fed_run-zero, fed_run-suc}
use Rattle.play_run.specs.Spent.{cost_on, cost_from, fed_cost}

pub cost-zero : (ways : ℕ) (machine : Machine) (feed : Feed) → fed_cost ways 0 machine feed ≡ 0
unfolding fed_cost
cost-zero ways machine feed = refl

cost-suc : (ways n : ℕ) (machine : Machine) (feed : Feed)
    → fed_cost ways (suc n) machine feed ≡ cost_from (fed_cost ways n) (fed_step ways machine feed)
unfolding fed_cost
cost-suc ways n machine feed = refl

-- ---- the first instruction
cost-first : (ways n : ℕ) (machine : Machine) (feed : Feed) (step : FedStep) (ended : Ended)
    → fed_step ways machine feed ≡ Ok step → step.done.ended ≡ ended
    → fed_cost ways (suc n) machine feed ≡ cost_on (fed_cost ways n) step ended
cost-first ways n machine feed step ended is ends =
    cost-suc ways n machine feed ∙ ap (cost_from (fed_cost ways n)) is ∙ ap (cost_on (fed_cost ways n) step) ends

pub cost-goes-on : (ways n : ℕ) (machine : Machine) (feed : Feed) (step : FedStep)
    → fed_step ways machine feed ≡ Ok step → step.done.ended ≡ No
    → fed_cost ways (suc n) machine feed ≡ step.done.cost + fed_cost ways n step.machine step.feed
cost-goes-on ways n machine feed step is ends = cost-first ways n machine feed step No is ends

pub cost-exits : (ways n status : ℕ) (machine : Machine) (feed : Feed) (step : FedStep)
    → fed_step ways machine feed ≡ Ok step → step.done.ended ≡ Exit status
    → fed_cost ways (suc n) machine feed ≡ step.done.cost
cost-exits ways n status machine feed step is ends = cost-first ways n machine feed step (Exit status) is ends

pub cost-traps : (ways n : ℕ) (kind : TrapKind) (pc : ℕ) (machine : Machine) (feed : Feed) (step : FedStep)
    → fed_step ways machine feed ≡ Ok step → step.done.ended ≡ Trap kind pc
    → fed_cost ways (suc n) machine feed ≡ 0
cost-traps ways n kind pc machine feed step is ends = cost-first ways n machine feed step (Trap kind pc) is ends

pub cost-starves : (ways n : ℕ) (why : Unfed) (machine : Machine) (feed : Feed)
    → fed_step ways machine feed ≡ Err why
    → fed_cost ways (suc n) machine feed ≡ 0
cost-starves ways n why machine feed is = cost-suc ways n machine feed ∙ ap (cost_from (fed_cost ways n)) is

-- ---- a run in parts
-- what more instructions cost behind a run: they come only where all of it finished
abbrev costs_behind : ℕ → ℕ → FedRun → FedEnding → ℕ
costs_behind ways more run (Ends Budget) = fed_cost ways more run.machine run.feed
costs_behind ways more run (Ends (Exited status)) = 0
costs_behind ways more run (Ends (Trapped kind pc)) = 0
costs_behind ways more run Starves = 0
costs_behind ways more run Refuses = 0

-- one instruction before the run makes no difference
same-behind : (ways more : ℕ) (run : FedRun) (ending : FedEnding)
    → costs_behind ways more (one_before run) ending ≡ costs_behind ways more run ending
same-behind ways more run (Ends Budget) = refl
same-behind ways more run (Ends (Exited status)) = refl
same-behind ways more run (Ends (Trapped kind pc)) = refl
same-behind ways more run Starves = refl
same-behind ways more run Refuses = refl

abbrev behind : ℕ → ℕ → FedRun → ℕ
behind ways more run = costs_behind ways more run run.ending

on-parts : (ways n more : ℕ) (step : FedStep) (ended : Ended)
    → fed_cost ways (n + more) step.machine step.feed
    ≡ fed_cost ways n step.machine step.feed + behind ways more (fed_run ways n step.machine step.feed)
    → cost_on (fed_cost ways (n + more)) step ended
    ≡ cost_on (fed_cost ways n) step ended + behind ways more (fed_on (fed_run ways n) step ended)
on-parts ways n more step No h =
    let run : FedRun = fed_run ways n step.machine step.feed in
    let same : behind ways more (one_before run) ≡ behind ways more run = same-behind ways more run run.ending in
    omega (arith, h, same)
on-parts ways n more step (Exit status) h = omega arith
on-parts ways n more step (Trap kind pc) h = refl

from-parts : (ways n more : ℕ) (machine : Machine) (feed : Feed) (step : Result FedStep Unfed)
    → ((s : FedStep) → fed_cost ways (n + more) s.machine s.feed
    ≡ fed_cost ways n s.machine s.feed + behind ways more (fed_run ways n s.machine s.feed))
    → cost_from (fed_cost ways (n + more)) step
    ≡ cost_from (fed_cost ways n) step + behind ways more (fed_from (fed_run ways n) machine feed step)
from-parts ways n more machine feed (Err NoneLeft) each = refl
from-parts ways n more machine feed (Err AnotherLine) each = refl
from-parts ways n more machine feed (Ok s) each = on-parts ways n more s s.done.ended (each s)

cost-parts : (ways n more : ℕ) (machine : Machine) (feed : Feed)
    → fed_cost ways (n + more) machine feed
    ≡ fed_cost ways n machine feed + behind ways more (fed_run ways n machine feed)
cost-parts ways zero more machine feed =
    let first : fed_cost ways (0 + more) machine feed ≡ fed_cost ways more machine feed =
    ap (λ k. fed_cost ways k machine feed) (let e : 0 + more ≡ more = omega arith in e) in
    let none : fed_cost ways 0 machine feed ≡ 0 = cost-zero ways machine feed in
    let rest : behind ways more (fed_run ways 0 machine feed) ≡ fed_cost ways more machine feed =
    ap (behind ways more) (fed_run-zero ways machine feed) in
    first ∙ sym rest ∙ (let e : (k : ℕ) → k ≡ 0 + k = (λ k. omega arith) in e _)
    ∙ ap (λ k. k + behind ways more (fed_run ways 0 machine feed)) (sym none)
cost-parts ways (suc n) more machine feed =
    ap (λ k. fed_cost ways k machine feed) (let e : suc n + more ≡ suc (n + more) = omega arith in e)
    ∙ cost-suc ways (n + more) machine feed
    ∙ from-parts ways n more machine feed (fed_step ways machine feed)
    (λ s. cost-parts ways n more s.machine s.feed)
    ∙ ap (λ k. k + behind ways more (fed_from (fed_run ways n) machine feed (fed_step ways machine feed)))
    (sym (cost-suc ways n machine feed))
    ∙ ap (λ run. fed_cost ways (suc n) machine feed + behind ways more run) (sym (fed_run-suc ways n machine feed))

-- where all instructions of the first part finished, those of the second follow
pub cost-then : (ways m n : ℕ) (machine : Machine) (feed : Feed)
    → (fed_run ways m machine feed).ending ≡ Ends Budget
    → fed_cost ways (m + n) machine feed
    ≡ fed_cost ways m machine feed
    + fed_cost ways n (fed_run ways m machine feed).machine (fed_run ways m machine feed).feed
cost-then ways m n machine feed ends =
    let run : FedRun = fed_run ways m machine feed in
    cost-parts ways m n machine feed
    ∙ ap (λ ending. fed_cost ways m machine feed + costs_behind ways n run ending) ends

-- else no other does
none-behind : (ways more : ℕ) (run : FedRun) (ending : FedEnding) → (ending ≡ Ends Budget → ⊥)
    → costs_behind ways more run ending ≡ 0
none-behind ways more run (Ends Budget) other = absurd (other refl)
none-behind ways more run (Ends (Exited status)) other = refl
none-behind ways more run (Ends (Trapped kind pc)) other = refl
none-behind ways more run Starves other = refl
none-behind ways more run Refuses other = refl

pub cost-ended : (ways m n : ℕ) (machine : Machine) (feed : Feed)
    → ((fed_run ways m machine feed).ending ≡ Ends Budget → ⊥)
    → fed_cost ways (m + n) machine feed ≡ fed_cost ways m machine feed
cost-ended ways m n machine feed other =
    let run : FedRun = fed_run ways m machine feed in
    let none : behind ways n run ≡ 0 = none-behind ways n run run.ending other in
    cost-parts ways m n machine feed ∙ ap (λ k. fed_cost ways m machine feed + k) none
    ∙ (let e : fed_cost ways m machine feed + 0 ≡ fed_cost ways m machine feed = omega arith in e)
