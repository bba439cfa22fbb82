-- Runs that are fed go on, and with more lines they go on further.
use Rattle.std.proofs.Common.{◌≡◌, ℕ, zero, suc, ◌+◌, Bool, true, false, ◌*◌, ◌==◌, if◌then◌else◌, List, [], ◌∷◌, ◌++◌}
use Rattle.std.proofs.Common.{Result, Ok, Err, refl, sym, ap, arith, ◌∙◌}
use Rattle.std.specs.Int.{from_le_bytes, w32}
use Rattle.rv32_core.specs.Access.{spliced}
use Rattle.rv32_core.specs.FlatMachine.{bytes_at, effected, trap_at}
use Rattle.rv32_core.specs.FlatRun.{FlatEnding, Exited, Trapped, Budget}
use Rattle.rv32_core.specs.Machine.{Machine, is_inside, effect_of_word, cost_of_word}
use Rattle.rv32_core.specs.LineList.{LineUse, fetch_line, word_lines}
use Rattle.rv32_core.specs.declared.outcome.Ended.{Ended}
use Rattle.rv32_core.specs.declared.outcome.Ended.TheVariants.{No, Exit, Trap}
use Rattle.rv32_core.specs.declared.outcome.TrapKind.TheVariants.{FetchFault}
use Rattle.data_cache.specs.CacheLists.{sets_after}
use Rattle.fed_run.specs.Fed.{Feed, asks, fed_line, fed_use, fed_uses, FedStep, fed_after, fed_word, fed_step}
use Rattle.fed_run.specs.Fed.{FedEnding, Ends, Starves, FedRun, one_before, fed_on, fed_from, fed_run, fed_before}
use Rattle.fed_run.specs.Fed.{fed_on_from, fed_gone_on, with_more, run_with_more, NoneLeft, AnotherLine, Refuses}
use Rattle.fed_run.specs.Fed.{NotedLine, Unfed, fed_map, fed_then}
use Rattle.fed_run.proofs.Feeds.{if_own}
use Rattle.fed_run.proofs.HonestLaws.{fed_run-zero, fed_run-suc}

-- ---- a run in parts
none-before : (run : FedRun) → run ≡ fed_before 0 run
none-before run = ap (λ (k : ℕ). record run { instructions = k })
    (let e : run.instructions ≡ 0 + run.instructions = omega arith in e)

one-more : (ways more : ℕ) (run : FedRun) (ending : FedEnding)
    → one_before (fed_on_from ways more run ending) ≡ fed_on_from ways more (one_before run) ending
one-more ways more run (Ends Budget) =
    let rest : FedRun = fed_run ways more run.machine run.feed in
    ap (λ (k : ℕ). record rest { instructions = k })
    (let e : 1 + (run.instructions + rest.instructions) ≡ (1 + run.instructions) + rest.instructions = omega arith in e)
one-more ways more run (Ends (Exited status)) = refl
one-more ways more run (Ends (Trapped kind pc)) = refl
one-more ways more run Starves = refl
one-more ways more run Refuses = refl

parts-on : (ways n more : ℕ) (step : FedStep) (ended : Ended)
    → fed_run ways (n + more) step.machine step.feed ≡ fed_gone_on ways more (fed_run ways n step.machine step.feed)
    → fed_on (fed_run ways (n + more)) step ended ≡ fed_gone_on ways more (fed_on (fed_run ways n) step ended)
parts-on ways n more step No h =
    ap one_before h
    ∙ one-more ways more (fed_run ways n step.machine step.feed) ((fed_run ways n step.machine step.feed).ending)
parts-on ways n more step (Exit status) h = refl
parts-on ways n more step (Trap kind pc) h = refl

parts-from : (ways n more : ℕ) (machine : Machine) (feed : Feed) (step : Result FedStep Unfed)
    → ((s : FedStep) → fed_run ways (n + more) s.machine s.feed
    ≡ fed_gone_on ways more (fed_run ways n s.machine s.feed))
    → fed_from (fed_run ways (n + more)) machine feed step
    ≡ fed_gone_on ways more (fed_from (fed_run ways n) machine feed step)
parts-from ways n more machine feed (Err NoneLeft) each = refl
parts-from ways n more machine feed (Err AnotherLine) each = refl
parts-from ways n more machine feed (Ok s) each = parts-on ways n more s s.done.ended (each s)

-- A run of n instructions and then of some more is that of all of them.
pub run-parts : (ways n more : ℕ) (machine : Machine) (feed : Feed)
    → fed_run ways (n + more) machine feed ≡ fed_gone_on ways more (fed_run ways n machine feed)
run-parts ways zero more machine feed =
    ap (λ k. fed_run ways k machine feed) (let e : 0 + more ≡ more = omega arith in e)
    ∙ none-before (fed_run ways more machine feed)
    ∙ ap (fed_gone_on ways more) (sym (fed_run-zero ways machine feed))
run-parts ways (suc n) more machine feed =
    ap (λ k. fed_run ways k machine feed) (let e : suc n + more ≡ suc (n + more) = omega arith in e)
    ∙ fed_run-suc ways (n + more) machine feed
    ∙ parts-from ways n more machine feed (fed_step ways machine feed)
    (λ s. run-parts ways n more s.machine s.feed)
    ∙ ap (fed_gone_on ways more) (sym (fed_run-suc ways n machine feed))

-- ---- more lines
own-more : (memory : List ℕ) (rest more : List NotedLine) (b : Bool) (r : List ℕ × List NotedLine)
    → if_own b memory rest ≡ Ok r → if_own b memory (rest ++ more) ≡ Ok (r.0, r.1 ++ more)
own-more memory rest more false r e = Prim.cc
own-more memory rest more true r e =
    let same : (memory, rest) ≡ r = Prim.cc in
    ap (λ (z : List ℕ × List NotedLine). Ok (z.0, z.1 ++ more)) same

line-more : (memory : List ℕ) (line : ℕ) (left more : List NotedLine) (b : Bool) (r : List ℕ × List NotedLine)
    → fed_line memory line left b ≡ Ok r → fed_line memory line (left ++ more) b ≡ Ok (r.0, r.1 ++ more)
line-more memory line left more false r e =
    let same : (memory, left) ≡ r = Prim.cc in
    ap (λ (z : List ℕ × List NotedLine). Ok (z.0, z.1 ++ more)) same
line-more memory line [] more true r e = Prim.cc
line-more memory line (noted ∷ rest) more true r e =
    own-more (spliced memory (64 * line) noted.bytes) rest more (noted.line == line) r e

-- what is found with fewer lines is found with more
pub map-found : {A B : Type 0} (f : A → B) (r : Result A Unfed) (b : B) → fed_map f r ≡ Ok b
    → (a : A) × (r ≡ Ok a) × (f a ≡ b)
map-found f (Err why) b e = Prim.cc
map-found f (Ok a) b e = (a, refl, (let same : f a ≡ b = Prim.cc in same))

pub then-found : {A B : Type 0} (f : A → Result B Unfed) (r : Result A Unfed) (b : B) → fed_then f r ≡ Ok b
    → (a : A) × (r ≡ Ok a) × (f a ≡ Ok b)
then-found f (Err why) b e = Prim.cc
then-found f (Ok a) b e = (a, refl, e)

-- what a use leaves
abbrev after_line : ℕ → Feed → LineUse → List ℕ × List NotedLine → Feed
after_line ways feed use_of r = record { memory = r.0; sets = sets_after ways feed.sets use_of; left = r.1 }

use-more : (ways : ℕ) (more : List NotedLine) (feed now : Feed) (use_of : LineUse)
    → fed_use ways feed use_of ≡ Ok now → fed_use ways (with_more more feed) use_of ≡ Ok (with_more more now)
use-more ways more feed now use_of e =
    let found = map-found (after_line ways feed use_of)
    (fed_line feed.memory use_of.line feed.left (asks feed.sets use_of)) now e in
    ap (fed_map (after_line ways feed use_of))
    (line-more feed.memory use_of.line feed.left more (asks feed.sets use_of) (found.0) (found.1))
    ∙ ap (λ (z : Feed). Ok (with_more more z)) (found.2)

uses-more : (ways : ℕ) (more : List NotedLine) (feed now : Feed) (uses : List LineUse)
    → fed_uses ways feed uses ≡ Ok now → fed_uses ways (with_more more feed) uses ≡ Ok (with_more more now)
uses-more ways more feed now [] e = let same : feed ≡ now = Prim.cc in ap (λ (z : Feed). Ok (with_more more z)) same
uses-more ways more feed now (first ∷ others) e =
    let found = then-found (λ (z : Feed). fed_uses ways z others) (fed_use ways feed first) now e in
    ap (fed_then (λ (z : Feed). fed_uses ways z others)) (use-more ways more feed (found.0) first (found.1))
    ∙ uses-more ways more (found.0) now others (found.2)

-- a step with more lines behind it
abbrev step_with_more : List NotedLine → FedStep → FedStep
step_with_more more step = record step { feed = with_more more step.feed }

word-more : (ways : ℕ) (more : List NotedLine) (machine : Machine) (word : ℕ) (feed : Feed) (step : FedStep)
    → fed_word ways machine word feed ≡ Ok step
    → fed_word ways machine word (with_more more feed) ≡ Ok (step_with_more more step)
word-more ways more machine word feed step e =
    let make : Feed → FedStep = λ now. fed_after
    (effected machine now.memory (cost_of_word machine word) (effect_of_word machine word)) now.sets now.left in
    let found = map-found make (fed_uses ways feed (word_lines machine word)) step e in
    ap (fed_map make) (uses-more ways more feed (found.0) (word_lines machine word) (found.1))
    ∙ ap (λ (z : FedStep). Ok (step_with_more more z)) (found.2)

step-if-more : (ways : ℕ) (more : List NotedLine) (machine : Machine) (feed : Feed) (step : FedStep) (b : Bool)
    → (if b then fed_then
    (λ (now : Feed). fed_word ways machine (from_le_bytes w32 (bytes_at machine now.memory machine.core.pc 4)) now)
    (fed_use ways feed (fetch_line machine.core))
    else Ok (record { machine = machine; feed = feed; done = trap_at machine.core FetchFault })) ≡ Ok step
    → (if b then fed_then
    (λ (now : Feed). fed_word ways machine (from_le_bytes w32 (bytes_at machine now.memory machine.core.pc 4)) now)
    (fed_use ways (with_more more feed) (fetch_line machine.core))
    else Ok (record { machine = machine; feed = with_more more feed; done = trap_at machine.core FetchFault }))
    ≡ Ok (step_with_more more step)
step-if-more ways more machine feed step false e =
    ap (fed_map (step_with_more more)) e
step-if-more ways more machine feed step true e =
    let go : Feed → Result FedStep Unfed =
    λ now. fed_word ways machine (from_le_bytes w32 (bytes_at machine now.memory machine.core.pc 4)) now in
    let found = then-found go (fed_use ways feed (fetch_line machine.core)) step e in
    ap (fed_then go) (use-more ways more feed (found.0) (fetch_line machine.core) (found.1))
    ∙ word-more ways more machine
    (from_le_bytes w32 (bytes_at machine (found.0).memory machine.core.pc 4)) (found.0) step
    (found.2)

step-more : (ways : ℕ) (more : List NotedLine) (machine : Machine) (feed : Feed) (step : FedStep)
    → fed_step ways machine feed ≡ Ok step
    → fed_step ways machine (with_more more feed) ≡ Ok (step_with_more more step)
step-more ways more machine feed step e =
    step-if-more ways more machine feed step (is_inside machine.core machine.core.pc 4) e

-- A run that ended as a flat run does ends so with more lines, which are left.
on-more : (ways n : ℕ) (more : List NotedLine) (step : FedStep) (ended : Ended) (ending : FlatEnding)
    → ((ending : FlatEnding) → (fed_run ways n step.machine step.feed).ending ≡ Ends ending
    → fed_run ways n step.machine (with_more more step.feed)
    ≡ run_with_more more (fed_run ways n step.machine step.feed))
    → (fed_on (fed_run ways n) step ended).ending ≡ Ends ending
    → fed_on (fed_run ways n) (step_with_more more step) ended
    ≡ run_with_more more (fed_on (fed_run ways n) step ended)
on-more ways n more step No ending each e = ap one_before (each ending e)
on-more ways n more step (Exit status) ending each e = refl
on-more ways n more step (Trap kind pc) ending each e = refl

from-more : (ways n : ℕ) (more : List NotedLine) (machine : Machine) (feed : Feed) (step : Result FedStep Unfed)
    (ending : FlatEnding) → fed_step ways machine feed ≡ step
    → ((s : FedStep) (ending : FlatEnding) → (fed_run ways n s.machine s.feed).ending ≡ Ends ending
    → fed_run ways n s.machine (with_more more s.feed) ≡ run_with_more more (fed_run ways n s.machine s.feed))
    → (fed_from (fed_run ways n) machine feed step).ending ≡ Ends ending
    → fed_from (fed_run ways n) machine (with_more more feed) (fed_step ways machine (with_more more feed))
    ≡ run_with_more more (fed_from (fed_run ways n) machine feed step)
from-more ways n more machine feed (Err NoneLeft) ending is each e = Prim.cc
from-more ways n more machine feed (Err AnotherLine) ending is each e = Prim.cc
from-more ways n more machine feed (Ok s) ending is each e =
    ap (fed_from (fed_run ways n) machine (with_more more feed)) (step-more ways more machine feed s is)
    ∙ on-more ways n more s s.done.ended ending (each s) e

pub run-more : (ways n : ℕ) (machine : Machine) (feed : Feed) (more : List NotedLine) (ending : FlatEnding)
    → (fed_run ways n machine feed).ending ≡ Ends ending
    → fed_run ways n machine (with_more more feed) ≡ run_with_more more (fed_run ways n machine feed)
run-more ways zero machine feed more ending e =
    fed_run-zero ways machine (with_more more feed)
    ∙ sym (ap (run_with_more more) (fed_run-zero ways machine feed))
run-more ways (suc n) machine feed more ending e =
    fed_run-suc ways n machine (with_more more feed)
    ∙ from-more ways n more machine feed (fed_step ways machine feed) ending refl
    (λ s other. run-more ways n s.machine s.feed more other)
    (ap (λ (z : FedRun). z.ending) (sym (fed_run-suc ways n machine feed)) ∙ e)
    ∙ ap (run_with_more more) (sym (fed_run-suc ways n machine feed))
