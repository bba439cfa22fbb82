-- The instructions that a run finished, by themselves; and what more lines add.
use Rattle.std.proofs.Common.{◌≡◌, ℕ, zero, suc, ◌+◌, ◌-◌, ◌≤◌, Bool, true, false, if◌then◌else◌, List, [], ◌++◌}
use Rattle.std.proofs.Common.{Result, Ok, Err, refl, sym, ap, subst, arith, ◌∙◌, append_assoc, append-nil}
use Rattle.std.specs.Int.{from_le_bytes, w32}
use Rattle.rv32_core.specs.FlatMachine.{bytes_at, effected, trap_at}
use Rattle.rv32_core.specs.FlatRun.{Exited, Trapped, Budget}
use Rattle.rv32_core.specs.Machine.{Machine, is_inside, effect_of_word, cost_of_word}
use Rattle.rv32_core.specs.LineList.{fetch_line, word_lines}
use Rattle.rv32_core.specs.declared.effect.Effect.{Effect}
use Rattle.rv32_core.specs.declared.effect.Effect.TheVariants.{Passes, Sets, Jumps, Loads, Stores, Answers, Breaks}
use Rattle.rv32_core.specs.declared.effect.Effect.TheVariants.{Reads, Writes, Exits, Traps}
use Rattle.rv32_core.specs.declared.outcome.Ended.{Ended}
use Rattle.rv32_core.specs.declared.outcome.Ended.TheVariants.{No, Exit, Trap}
use Rattle.rv32_core.specs.declared.outcome.TrapKind.{TrapKind}
use Rattle.rv32_core.specs.declared.outcome.TrapKind.TheVariants.{FetchFault}
use Rattle.fed_run.specs.Fed.{Feed, fed_use, fed_uses, FedStep, fed_after, fed_word, fed_step, FedEnding, Ends, Starves}
use Rattle.fed_run.specs.Fed.{FedRun, one_before, fed_on, fed_from, fed_run, fed_on_from, fed_gone_on, with_more}
use Rattle.fed_run.specs.Fed.{run_with_more, IsDone, NoneLeft, AnotherLine, Refuses}
use Rattle.fed_run.specs.Fed.{NotedLine, Unfed, fed_then}
use Rattle.fed_run.proofs.HonestLaws.{fed_run-zero, fed_run-suc}
use Rattle.fed_run.proofs.GoOn.{map-found, then-found, run-parts, run-more}

-- ---- what a step leaves
-- one output begins with another
abbrev pub Begins : List ℕ → List ℕ → Type 0
Begins whole part = (rest : List ℕ) × (whole ≡ part ++ rest)

same-output : (out : List ℕ) → Begins out out
same-output out = ([], sym (append-nil out))

begins-twice : (a b c : List ℕ) → Begins b a → Begins c b → Begins c a
begins-twice a b c one two = (one.0 ++ two.0, two.1 ∙ ap (λ l. l ++ two.0) one.1 ∙ append_assoc a (one.0) (two.0))

-- The output begins with what it was, and a trap leaves the machine as it was.
abbrev Leaves : Machine → Machine → Ended → Type 0
Leaves machine next ended =
    Begins next.files.output machine.files.output
    × ((kind : TrapKind) (pc : ℕ) → ended ≡ Trap kind pc → next ≡ machine)

effect-leaves : (machine : Machine) (memory : List ℕ) (cost : ℕ) (effect : Effect)
    → let step = effected machine memory cost effect in Leaves machine step.machine step.done.ended
effect-leaves machine memory cost Passes = (same-output machine.files.output, λ kind pc e. Prim.cc)
effect-leaves machine memory cost (Sets index value) = (same-output machine.files.output, λ kind pc e. Prim.cc)
effect-leaves machine memory cost (Jumps index target) = (same-output machine.files.output, λ kind pc e. Prim.cc)
effect-leaves machine memory cost (Loads op index address) = (same-output machine.files.output, λ kind pc e. Prim.cc)
effect-leaves machine memory cost (Stores op address value) = (same-output machine.files.output, λ kind pc e. Prim.cc)
effect-leaves machine memory cost (Answers value) = (same-output machine.files.output, λ kind pc e. Prim.cc)
effect-leaves machine memory cost (Breaks value) = (same-output machine.files.output, λ kind pc e. Prim.cc)
effect-leaves machine memory cost (Reads address count) = (same-output machine.files.output, λ kind pc e. Prim.cc)
effect-leaves machine memory cost (Writes address count) =
    ((bytes_at machine memory address count, refl), λ kind pc e. Prim.cc)
effect-leaves machine memory cost (Exits status) = (same-output machine.files.output, λ kind pc e. Prim.cc)
effect-leaves machine memory cost (Traps kind) = (same-output machine.files.output, λ kind pc e. refl)

step-if-leaves : (ways : ℕ) (machine : Machine) (feed : Feed) (step : FedStep) (b : Bool)
    → (if b then fed_then
    (λ (now : Feed). fed_word ways machine (from_le_bytes w32 (bytes_at machine now.memory machine.core.pc 4)) now)
    (fed_use ways feed (fetch_line machine.core))
    else Ok (record { machine = machine; feed = feed; done = trap_at machine.core FetchFault })) ≡ Ok step
    → Leaves machine step.machine step.done.ended
step-if-leaves ways machine feed step false e =
    let fault : FedStep = record { machine = machine; feed = feed; done = trap_at machine.core FetchFault } in
    let same : fault ≡ step = Prim.cc in
    subst (λ (s : FedStep). Leaves machine s.machine s.done.ended) same
    (same-output machine.files.output, λ kind pc e. refl)
step-if-leaves ways machine feed step true e =
    let go : Feed → Result FedStep Unfed =
    λ now. fed_word ways machine (from_le_bytes w32 (bytes_at machine now.memory machine.core.pc 4)) now in
    let found = then-found go (fed_use ways feed (fetch_line machine.core)) step e in
    let word : ℕ = from_le_bytes w32 (bytes_at machine (found.0).memory machine.core.pc 4) in
    let make : Feed → FedStep = λ now. fed_after
    (effected machine now.memory (cost_of_word machine word) (effect_of_word machine word)) now.sets now.left in
    let made = map-found make (fed_uses ways (found.0) (word_lines machine word)) step (found.2) in
    subst (λ (s : FedStep). Leaves machine s.machine s.done.ended) (made.2)
    (effect-leaves machine (made.0).memory (cost_of_word machine word) (effect_of_word machine word))

step-leaves : (ways : ℕ) (machine : Machine) (feed : Feed) (step : FedStep) → fed_step ways machine feed ≡ Ok step
    → Leaves machine step.machine step.done.ended
step-leaves ways machine feed step e =
    step-if-leaves ways machine feed step (is_inside machine.core machine.core.pc 4) e

-- ---- the finished instructions
-- The run of as many instructions as a run finished is done with them, and leaves its machine.
abbrev IsCut : ℕ → Machine → Feed → FedRun → Type 0
IsCut ways machine feed run =
    let short = fed_run ways run.instructions machine feed in
    (short.instructions ≡ run.instructions) × (short.machine ≡ run.machine) × IsDone short.ending

no-instruction : (ways : ℕ) (machine : Machine) (feed : Feed) (run : FedRun) → run.instructions ≡ 0
    → run.machine ≡ machine → IsCut ways machine feed run
no-instruction ways machine feed run none same =
    let short : fed_run ways run.instructions machine feed
    ≡ record { instructions = 0; machine = machine; feed = feed; ending = Ends Budget } =
    ap (λ k. fed_run ways k machine feed) none ∙ fed_run-zero ways machine feed in (
      ap (λ (z : FedRun). z.instructions) short ∙ sym none,
      ap (λ (z : FedRun). z.machine) short ∙ sym same,
      subst (λ (z : FedRun). IsDone z.ending) (sym short) tt,
    )

cut-on : (ways n : ℕ) (machine : Machine) (feed : Feed) (step : FedStep) (ended : Ended)
    → fed_step ways machine feed ≡ Ok step → step.done.ended ≡ ended
    → IsCut ways step.machine step.feed (fed_run ways n step.machine step.feed)
    → IsCut ways machine feed (fed_on (fed_run ways n) step ended)
cut-on ways n machine feed step No is ends rest =
    let k : ℕ = (fed_run ways n step.machine step.feed).instructions in
    let short : fed_run ways (1 + k) machine feed ≡ one_before (fed_run ways k step.machine step.feed) =
    ap (λ m. fed_run ways m machine feed) (let e : 1 + k ≡ suc k = omega arith in e)
    ∙ fed_run-suc ways k machine feed
    ∙ ap (fed_from (fed_run ways k) machine feed) is
    ∙ ap (fed_on (fed_run ways k) step) ends in (
      ap (λ (z : FedRun). z.instructions) short ∙ ap (λ m. 1 + m) (rest.0),
      ap (λ (z : FedRun). z.machine) short ∙ rest.1,
      subst (λ (z : FedRun). IsDone z.ending) (sym short) (rest.2),
    )
cut-on ways n machine feed step (Exit status) is ends rest =
    let short : fed_run ways 1 machine feed ≡ fed_on (fed_run ways 0) step (Exit status) =
    fed_run-suc ways 0 machine feed ∙ ap (fed_from (fed_run ways 0) machine feed) is
    ∙ ap (fed_on (fed_run ways 0) step) ends in (
      ap (λ (z : FedRun). z.instructions) short,
      ap (λ (z : FedRun). z.machine) short,
      subst (λ (z : FedRun). IsDone z.ending) (sym short) tt,
    )
cut-on ways n machine feed step (Trap kind pc) is ends rest =
    no-instruction ways machine feed (fed_on (fed_run ways n) step (Trap kind pc)) refl
    ((step-leaves ways machine feed step is).1 kind pc ends)

cut-from : (ways n : ℕ) (machine : Machine) (feed : Feed) (step : Result FedStep Unfed)
    → fed_step ways machine feed ≡ step
    → ((s : FedStep) → IsCut ways s.machine s.feed (fed_run ways n s.machine s.feed))
    → IsCut ways machine feed (fed_from (fed_run ways n) machine feed step)
cut-from ways n machine feed (Err NoneLeft) is each =
    no-instruction ways machine feed (fed_from (fed_run ways n) machine feed (Err NoneLeft)) refl refl
cut-from ways n machine feed (Err AnotherLine) is each =
    no-instruction ways machine feed (fed_from (fed_run ways n) machine feed (Err AnotherLine)) refl refl
cut-from ways n machine feed (Ok s) is each = cut-on ways n machine feed s s.done.ended is refl (each s)

pub run-cut : (ways n : ℕ) (machine : Machine) (feed : Feed) → IsCut ways machine feed (fed_run ways n machine feed)
run-cut ways zero machine feed =
    no-instruction ways machine feed (fed_run ways 0 machine feed)
    (ap (λ (z : FedRun). z.instructions) (fed_run-zero ways machine feed))
    (ap (λ (z : FedRun). z.machine) (fed_run-zero ways machine feed))
run-cut ways (suc n) machine feed =
    subst (IsCut ways machine feed) (sym (fed_run-suc ways n machine feed))
    (cut-from ways n machine feed (fed_step ways machine feed) refl (λ s. run-cut ways n s.machine s.feed))

-- never more finish than may
few-on : (ways n : ℕ) (step : FedStep) (ended : Ended) → (fed_run ways n step.machine step.feed).instructions ≤ n
    → (fed_on (fed_run ways n) step ended).instructions ≤ suc n
few-on ways n step No h = omega arith
few-on ways n step (Exit status) h = omega arith
few-on ways n step (Trap kind pc) h = omega arith

few-from : (ways n : ℕ) (machine : Machine) (feed : Feed) (step : Result FedStep Unfed)
    → ((s : FedStep) → (fed_run ways n s.machine s.feed).instructions ≤ n)
    → (fed_from (fed_run ways n) machine feed step).instructions ≤ suc n
few-from ways n machine feed (Err NoneLeft) each = omega arith
few-from ways n machine feed (Err AnotherLine) each = omega arith
few-from ways n machine feed (Ok s) each = few-on ways n s s.done.ended (each s)

pub run-few : (ways n : ℕ) (machine : Machine) (feed : Feed) → (fed_run ways n machine feed).instructions ≤ n
run-few ways zero machine feed =
    subst (λ (z : FedRun). z.instructions ≤ 0) (sym (fed_run-zero ways machine feed)) (omega arith)
run-few ways (suc n) machine feed =
    subst (λ (z : FedRun). z.instructions ≤ suc n) (sym (fed_run-suc ways n machine feed))
    (few-from ways n machine feed (fed_step ways machine feed) (λ s. run-few ways n s.machine s.feed))

-- ---- outputs
output-on : (ways n : ℕ) (machine : Machine) (step : FedStep) (ended : Ended)
    → Begins step.machine.files.output machine.files.output
    → Begins (fed_run ways n step.machine step.feed).machine.files.output step.machine.files.output
    → Begins (fed_on (fed_run ways n) step ended).machine.files.output machine.files.output
output-on ways n machine step No first rest =
    begins-twice machine.files.output step.machine.files.output
    (fed_run ways n step.machine step.feed).machine.files.output first rest
output-on ways n machine step (Exit status) first rest = first
output-on ways n machine step (Trap kind pc) first rest = first

output-from : (ways n : ℕ) (machine : Machine) (feed : Feed) (step : Result FedStep Unfed)
    → fed_step ways machine feed ≡ step
    → ((s : FedStep) → Begins (fed_run ways n s.machine s.feed).machine.files.output s.machine.files.output)
    → Begins (fed_from (fed_run ways n) machine feed step).machine.files.output machine.files.output
output-from ways n machine feed (Err NoneLeft) is each = same-output machine.files.output
output-from ways n machine feed (Err AnotherLine) is each = same-output machine.files.output
output-from ways n machine feed (Ok s) is each =
    output-on ways n machine s s.done.ended ((step-leaves ways machine feed s is).0) (each s)

-- a run appends to the output
pub run-output : (ways n : ℕ) (machine : Machine) (feed : Feed)
    → Begins (fed_run ways n machine feed).machine.files.output machine.files.output
run-output ways zero machine feed =
    subst (λ (z : FedRun). Begins z.machine.files.output machine.files.output) (sym (fed_run-zero ways machine feed))
    (same-output machine.files.output)
run-output ways (suc n) machine feed =
    subst (λ (z : FedRun). Begins z.machine.files.output machine.files.output) (sym (fed_run-suc ways n machine feed))
    (output-from ways n machine feed (fed_step ways machine feed) refl (λ s. run-output ways n s.machine s.feed))

gone_on-output : (ways more : ℕ) (run : FedRun) (ending : FedEnding)
    → Begins (fed_on_from ways more run ending).machine.files.output run.machine.files.output
gone_on-output ways more run (Ends Budget) = run-output ways more run.machine run.feed
gone_on-output ways more run (Ends (Exited status)) = same-output run.machine.files.output
gone_on-output ways more run (Ends (Trapped kind pc)) = same-output run.machine.files.output
gone_on-output ways more run Starves = same-output run.machine.files.output
gone_on-output ways more run Refuses = same-output run.machine.files.output

-- ---- more lines
-- The instructions that finished with fewer lines finish with more, and leave the same machine.
finished-done : (ways : ℕ) (machine : Machine) (feed : Feed) (more : List NotedLine) (k : ℕ) (ending : FedEnding)
    → (fed_run ways k machine feed).ending ≡ ending → IsDone ending
    → fed_run ways k machine (with_more more feed) ≡ run_with_more more (fed_run ways k machine feed)
finished-done ways machine feed more k (Ends ending) is done = run-more ways k machine feed more ending is
finished-done ways machine feed more k Starves is done = absurd done
finished-done ways machine feed more k Refuses is done = absurd done

pub more-finished : (ways n : ℕ) (machine : Machine) (feed : Feed) (more : List NotedLine)
    → let run = fed_run ways n machine feed in
    let same = fed_run ways run.instructions machine (with_more more feed) in
    (same.instructions ≡ run.instructions) × (same.machine ≡ run.machine)
more-finished ways n machine feed more =
    let run : FedRun = fed_run ways n machine feed in
    let cut = run-cut ways n machine feed in
    let on = finished-done ways machine feed more run.instructions
    ((fed_run ways run.instructions machine feed).ending) refl (cut.2) in
    (ap (λ (z : FedRun). z.instructions) on ∙ cut.0, ap (λ (z : FedRun). z.machine) on ∙ cut.1)

-- The output with fewer lines is the beginning of that with more.
pub more-output : (ways n : ℕ) (machine : Machine) (feed : Feed) (more : List NotedLine)
    → Begins (fed_run ways n machine (with_more more feed)).machine.files.output
    (fed_run ways n machine feed).machine.files.output
more-output ways n machine feed more =
    let run : FedRun = fed_run ways n machine feed in
    let k : ℕ = run.instructions in
    let few : k ≤ n = run-few ways n machine feed in
    let parts : fed_run ways n machine (with_more more feed)
    ≡ fed_gone_on ways (n - k) (fed_run ways k machine (with_more more feed)) =
    ap (λ m. fed_run ways m machine (with_more more feed)) (let e : n ≡ k + (n - k) = omega arith in e)
    ∙ run-parts ways k (n - k) machine (with_more more feed) in
    let same = (more-finished ways n machine feed more).1 in
    subst (λ (z : FedRun). Begins z.machine.files.output run.machine.files.output) (sym parts)
    (subst (λ (m : Machine). Begins
    (fed_gone_on ways (n - k) (fed_run ways k machine (with_more more feed))).machine.files.output m.files.output) same
    (gone_on-output ways (n - k) (fed_run ways k machine (with_more more feed))
    ((fed_run ways k machine (with_more more feed)).ending)))
