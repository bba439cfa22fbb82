-- Runs of the machine that is fed, instruction by instruction, and how they end.
use Rattle.std.proofs.Common.{◌≡◌, ◌≤◌, ◌+◌, ◌∙◌, ◌++◌, ℕ, zero, suc, Bool, true, false, if◌then◌else◌, List, [], ◌∷◌}
use Rattle.std.proofs.Common.{Result, Ok, Err, Some, refl, sym, ap, subst, arith, append_assoc}
use Rattle.std.specs.Int.{from_le_bytes, w32}
use Rattle.asc_base.specs.declared.stop.Stop.{Stop}
use Rattle.asc_base.specs.declared.stop.Stop.TheVariants as why
use Rattle.data_cache.specs.CacheLists.{Lines, sets_after}
use Rattle.fed_run.specs.Answered.{AreLines, feed_of}
use Rattle.fed_run.specs.Fed.{NotedLine, Unfed, NoneLeft, AnotherLine, fed_then}
use Rattle.fed_run.specs.Fed.{Feed, FedStep, FedRun, Ends as EndsAs, asks, fed_line, fed_use, fed_uses, fed_after}
use Rattle.fed_run.specs.Fed.{fed_word, fed_step, fed_on, fed_from, fed_run, fed_before, fed_gone_on, one_before}
use Rattle.fed_run.proofs.Feeds.{AreLines-append}
use Rattle.fed_run.proofs.GoOn.{map-found, then-found, run-parts}
use Rattle.fed_run.proofs.HonestLaws.{fed_run-zero, fed_run-suc}
use Rattle.play_run.proofs.Costs.{word-low}
use Rattle.rv32_core.specs.FlatMachine.{bytes_at, effected, trap_at}
use Rattle.rv32_core.specs.FlatRun.{FlatEnding, Exited, Trapped, Budget as FlatBudget}
use Rattle.rv32_core.specs.LineList.{LineUse, fetch_line, word_lines}
use Rattle.rv32_core.specs.Machine.{Machine, is_inside, cost_of_word, effect_of_word}
use Rattle.rv32_core.specs.declared.outcome.Done.{Done}
use Rattle.rv32_core.specs.declared.outcome.Ended.{Ended}
use Rattle.rv32_core.specs.declared.outcome.Ended.TheVariants.{No, Exit as Exits-as, Trap as Traps-as}
use Rattle.rv32_core.specs.declared.outcome.TrapKind.{TrapKind}
use Rattle.rv32_core.specs.declared.outcome.TrapKind.TheVariants.{FetchFault}
use Rattle.secure_machine.specs.Fed.{FedEnds, IsFedTo, IsFedRun, CauseFed}
use Rattle.secure_machine.specs.FlatEnds.{ending_by}
use Rattle.secure_machine.specs.declared.machine.Cause.{Cause}
use Rattle.secure_machine.specs.declared.machine.Cause.TheVariants.{Ends, Stops}
use Rattle.secure_machine.specs.declared.report.Ending.{Ending}
use Rattle.secure_machine.specs.declared.report.Ending.TheVariants.{Exit, Trap, Budget, TimeUp, StashFull, Integrity}
use Rattle.secure_machine.specs.declared.report.Ending.TheVariants.{Device}
use Rattle.secure_machine.proofs.FlatLaws.{effected_trap}

-- ---- where no line is left
abbrev after_line : ℕ → Feed → LineUse → List ℕ × List NotedLine → Feed
after_line ways feed use_of r = record { memory = r.0; sets = sets_after ways feed.sets use_of; left = r.1 }

line_none : (memory : List ℕ) (line : ℕ) (left : List NotedLine) (b : Bool) (r : List ℕ × List NotedLine)
    → fed_line memory line left b ≡ Ok r → left ≡ [] → r.1 ≡ []
line_none memory line left false r found none =
    let same : (memory, left) ≡ r = Prim.cc in
    ap (λ (z : List ℕ × List NotedLine). z.1) (sym same) ∙ none
line_none memory line [] true r found none = Prim.cc
line_none memory line (noted ∷ rest) true r found none = Prim.cc

use_none : (ways : ℕ) (feed now : Feed) (use_of : LineUse) → fed_use ways feed use_of ≡ Ok now → feed.left ≡ []
    → now.left ≡ []
use_none ways feed now use_of found none =
    let line = map-found (after_line ways feed use_of)
    (fed_line feed.memory use_of.line feed.left (asks feed.sets use_of)) now found in
    ap (λ (z : Feed). z.left) (sym line.2)
    ∙ line_none feed.memory use_of.line feed.left (asks feed.sets use_of) line.0 line.1 none

uses_none : (ways : ℕ) (feed now : Feed) (uses : List LineUse) → fed_uses ways feed uses ≡ Ok now → feed.left ≡ []
    → now.left ≡ []
uses_none ways feed now [] found none =
    let same : feed ≡ now = Prim.cc in ap (λ (z : Feed). z.left) (sym same) ∙ none
uses_none ways feed now (first ∷ others) found none =
    let one = then-found (λ (z : Feed). fed_uses ways z others) (fed_use ways feed first) now found in
    uses_none ways one.0 now others one.2 (use_none ways feed one.0 first one.1 none)

-- a word's effect on a feed
abbrev word_on : Machine → ℕ → Feed → FedStep
word_on machine word now =
    fed_after (effected machine now.memory (cost_of_word machine word) (effect_of_word machine word)) now.sets now.left

word_none : (ways : ℕ) (machine : Machine) (word : ℕ) (feed : Feed) (step : FedStep)
    → fed_word ways machine word feed ≡ Ok step → feed.left ≡ [] → step.feed.left ≡ []
word_none ways machine word feed step found none =
    let uses = map-found (word_on machine word) (fed_uses ways feed (word_lines machine word)) step found in
    ap (λ (z : FedStep). z.feed.left) (sym uses.2)
    ∙ uses_none ways feed uses.0 (word_lines machine word) uses.1 none

-- An instruction is a word that was fetched, or a trap; what holds in both cases holds.
step_cases : (P : FedStep → Type 0) (ways : ℕ) (machine : Machine) (feed : Feed) (step : FedStep)
    → ((now : Feed) (word : ℕ) → fed_use ways feed (fetch_line machine.core) ≡ Ok now
    → fed_word ways machine word now ≡ Ok step → P step)
    → P (record { machine = machine; feed = feed; done = trap_at machine.core FetchFault })
    → (inside : Bool)
    → (if inside then fed_then
    (λ (now : Feed). fed_word ways machine (from_le_bytes w32 (bytes_at machine now.memory machine.core.pc 4)) now)
    (fed_use ways feed (fetch_line machine.core))
    else Ok (record { machine = machine; feed = feed; done = trap_at machine.core FetchFault })) ≡ Ok step
    → P step
step_cases P ways machine feed step whole outside true found =
    let now = then-found
    (λ (now : Feed). fed_word ways machine (from_le_bytes w32 (bytes_at machine now.memory machine.core.pc 4)) now)
    (fed_use ways feed (fetch_line machine.core)) step found in
    whole now.0 (from_le_bytes w32 (bytes_at machine (now.0).memory machine.core.pc 4)) now.1 now.2
step_cases P ways machine feed step whole outside false found =
    let trap : FedStep = record { machine = machine; feed = feed; done = trap_at machine.core FetchFault } in
    let same : trap ≡ step = Prim.cc in
    subst P same outside

step_none : (ways : ℕ) (machine : Machine) (feed : Feed) (step : FedStep) → fed_step ways machine feed ≡ Ok step
    → feed.left ≡ [] → step.feed.left ≡ []
step_none ways machine feed step found none =
    step_cases (λ s. s.feed.left ≡ []) ways machine feed step
    (λ now word fetched rest. word_none ways machine word now step rest
    (use_none ways feed now (fetch_line machine.core) fetched none)) none
    (is_inside machine.core machine.core.pc 4) found

on_none : (rest : Machine → Feed → FedRun) (step : FedStep) (ended : Ended) → step.feed.left ≡ []
    → (rest step.machine step.feed).feed.left ≡ [] → (fed_on rest step ended).feed.left ≡ []
on_none rest step No here later = later
on_none rest step (Exits-as status) here later = here
on_none rest step (Traps-as kind pc) here later = here

from_none : (ways n : ℕ) (machine : Machine) (feed : Feed) (step : Result FedStep Unfed)
    → fed_step ways machine feed ≡ step → feed.left ≡ []
    → ((m : Machine) (f : Feed) → f.left ≡ [] → (fed_run ways n m f).feed.left ≡ [])
    → (fed_from (fed_run ways n) machine feed step).feed.left ≡ []
from_none ways n machine feed (Err NoneLeft) is none each = refl
from_none ways n machine feed (Err AnotherLine) is none each = none
from_none ways n machine feed (Ok step) is none each =
    let here = step_none ways machine feed step is none in
    on_none (fed_run ways n) step step.done.ended here (each step.machine step.feed here)

-- A run with no line leaves none.
pub run_none : (ways n : ℕ) (machine : Machine) (feed : Feed) → feed.left ≡ []
    → (fed_run ways n machine feed).feed.left ≡ []
run_none ways zero machine feed none = ap (λ (r : FedRun). r.feed.left) (fed_run-zero ways machine feed) ∙ none
run_none ways (suc n) machine feed none =
    ap (λ (r : FedRun). r.feed.left) (fed_run-suc ways n machine feed)
    ∙ from_none ways n machine feed (fed_step ways machine feed) refl none (run_none ways n)

-- ---- an instruction that traps changes nothing
word_trapped : (ways : ℕ) (machine : Machine) (word : ℕ) (feed : Feed) (step : FedStep) (kind : TrapKind) (pc : ℕ)
    → fed_word ways machine word feed ≡ Ok step → step.done.ended ≡ Traps-as kind pc → step.machine ≡ machine
word_trapped ways machine word feed step kind pc found how =
    let uses = map-found (word_on machine word) (fed_uses ways feed (word_lines machine word)) step found in
    ap (λ (z : FedStep). z.machine) (sym uses.2)
    ∙ effected_trap machine (uses.0).memory (cost_of_word machine word) (effect_of_word machine word) kind pc
    (ap (λ (z : FedStep). z.done.ended) uses.2 ∙ how)

step_trapped : (ways : ℕ) (machine : Machine) (feed : Feed) (step : FedStep) (kind : TrapKind) (pc : ℕ)
    → fed_step ways machine feed ≡ Ok step → step.done.ended ≡ Traps-as kind pc → step.machine ≡ machine
step_trapped ways machine feed step kind pc found =
    step_cases (λ s. s.done.ended ≡ Traps-as kind pc → s.machine ≡ machine) ways machine feed step
    (λ now word fetched rest how. word_trapped ways machine word now step kind pc rest how) (λ how. refl)
    (is_inside machine.core machine.core.pc 4) found

-- ---- what an instruction costs at most
word_cheap : (ways : ℕ) (machine : Machine) (word : ℕ) (feed : Feed) (step : FedStep)
    → fed_word ways machine word feed ≡ Ok step → step.done.cost ≤ 34 + machine.core.size
word_cheap ways machine word feed step found =
    let uses = map-found (word_on machine word) (fed_uses ways feed (word_lines machine word)) step found in
    subst (λ n. n ≤ 34 + machine.core.size) (ap (λ (z : FedStep). z.done.cost) uses.2)
    (word-low machine (uses.0).memory word)

pub step_cheap : (ways : ℕ) (machine : Machine) (feed : Feed) (step : FedStep) → fed_step ways machine feed ≡ Ok step
    → step.done.cost ≤ 34 + machine.core.size
step_cheap ways machine feed step found =
    step_cases (λ s. s.done.cost ≤ 34 + machine.core.size) ways machine feed step
    (λ now word fetched rest. word_cheap ways machine word now step rest) (omega arith)
    (is_inside machine.core machine.core.pc 4) found

-- ---- one instruction
-- a run begins with its first instruction
first_step : (ways n : ℕ) (machine : Machine) (feed : Feed) (step : Result FedStep Unfed)
    → fed_step ways machine feed ≡ step
    → fed_run ways (n + 1) machine feed ≡ fed_from (fed_run ways n) machine feed step
first_step ways n machine feed step is =
    ap (λ k. fed_run ways k machine feed) (let e : n + 1 ≡ suc n = omega arith in e)
    ∙ (fed_run-suc ways n machine feed ∙ ap (fed_from (fed_run ways n) machine feed) is)

first_ends : (ways n : ℕ) (machine : Machine) (feed : Feed) (step : FedStep) (ended : Ended)
    → fed_step ways machine feed ≡ Ok step → step.done.ended ≡ ended
    → fed_run ways (n + 1) machine feed ≡ fed_on (fed_run ways n) step ended
first_ends ways n machine feed step ended is how =
    first_step ways n machine feed (Ok step) is ∙ ap (fed_on (fed_run ways n) step) how

-- before the first instruction, where with it all lines are used
nothing_yet : (ways : ℕ) (machine : Machine) (feed : Feed) → (fed_run ways (0 + 1) machine feed).feed.left ≡ []
    → IsFedTo ways 0 machine feed machine
nothing_yet ways machine feed uses = record {
  uses = uses;
  finished = ap (λ (r : FedRun). r.instructions) (fed_run-zero ways machine feed);
  leaves = ap (λ (r : FedRun). r.machine) (fed_run-zero ways machine feed);
}

going_yet : (ways : ℕ) (machine : Machine) (feed : Feed) → (fed_run ways 0 machine feed).ending ≡ EndsAs FlatBudget
going_yet ways machine feed = ap (λ (r : FedRun). r.ending) (fed_run-zero ways machine feed)

-- Nothing is begun, and no line was answered.
pub unbegun : (ways : ℕ) (machine : Machine) (feed : Feed) → feed.left ≡ [] → IsFedTo ways 0 machine feed machine
unbegun ways machine feed none = nothing_yet ways machine feed (run_none ways (0 + 1) machine feed none)

pub unbegun_stops : (ways : ℕ) (machine : Machine) (feed : Feed) (stop : Stop) → feed.left ≡ []
    → CauseFed ways 0 machine feed (Stops stop) machine
unbegun_stops ways machine feed stop none = (unbegun ways machine feed none, going_yet ways machine feed)

pub unbegun_time : (ways : ℕ) (machine : Machine) (feed : Feed) (at until : ℕ) → feed.left ≡ []
    → CauseFed ways 0 machine feed (Ends (TimeUp at) until) machine
unbegun_time ways machine feed at until none = (unbegun ways machine feed none, going_yet ways machine feed)

pub unbegun_budget : (ways : ℕ) (machine : Machine) (feed : Feed) (until : ℕ) → feed.left ≡ []
    → CauseFed ways 0 machine feed (Ends Budget until) machine
unbegun_budget ways machine feed until none = (unbegun ways machine feed none, going_yet ways machine feed)

-- The next instruction starves.
pub starved_stops : (ways : ℕ) (machine : Machine) (feed : Feed) (stop : Stop)
    → fed_step ways machine feed ≡ Err NoneLeft
    → CauseFed ways 0 machine feed (Stops stop) machine
starved_stops ways machine feed stop starves = (
  nothing_yet ways machine feed
      (ap (λ (r : FedRun). r.feed.left) (first_step ways 0 machine feed (Err NoneLeft) starves)),
  going_yet ways machine feed,
)

-- It exits, and is finished.
pub exit_ends : (ways : ℕ) (machine : Machine) (feed : Feed) (step : FedStep) (status until : ℕ)
    → fed_step ways machine feed ≡ Ok step → step.done.ended ≡ Exits-as status → step.feed.left ≡ []
    → CauseFed ways 1 machine feed (Ends (Exit status) until) step.machine
exit_ends ways machine feed step status until is how none =
    let one : fed_run ways 1 machine feed ≡ fed_on (fed_run ways 0) step (Exits-as status) =
    first_ends ways 0 machine feed step (Exits-as status) is how in
    let two = first_ends ways 1 machine feed step (Exits-as status) is how in (
      record {
        uses = ap (λ (r : FedRun). r.feed.left) two ∙ none;
        finished = ap (λ (r : FedRun). r.instructions) one;
        leaves = ap (λ (r : FedRun). r.machine) one;
      },
      (ap (λ (r : FedRun). r.ending) two, ap (λ (r : FedRun). r.instructions) two),
    )

-- It traps, and isn't.
pub trap_ends : (ways : ℕ) (machine : Machine) (feed : Feed) (step : FedStep) (kind : TrapKind) (pc until : ℕ)
    → fed_step ways machine feed ≡ Ok step → step.done.ended ≡ Traps-as kind pc → step.feed.left ≡ []
    → CauseFed ways 0 machine feed (Ends (Trap kind pc) until) step.machine
trap_ends ways machine feed step kind pc until is how none =
    let one = first_ends ways 0 machine feed step (Traps-as kind pc) is how in (
      subst (IsFedTo ways 0 machine feed) (sym (step_trapped ways machine feed step kind pc is how))
          (nothing_yet ways machine feed (ap (λ (r : FedRun). r.feed.left) one ∙ none)),
      (ap (λ (r : FedRun). r.ending) one, ap (λ (r : FedRun). r.instructions) one),
    )

-- ---- instruction by instruction
-- So many instructions finish on these lines, and whatever lines come behind them, they go on with those.
abbrev pub Reaches : ℕ → ℕ → Machine → Lines → List NotedLine → Machine → Lines → Type 0
Reaches ways n machine lists lines next now =
    (more : List NotedLine) → AreLines more
    → fed_run ways n machine (feed_of lists (lines ++ more))
    ≡ record { instructions = n; machine = next; feed = feed_of now more; ending = EndsAs FlatBudget }

pub reaches_none : (ways : ℕ) (machine : Machine) (lists : Lines) → Reaches ways 0 machine lists [] machine lists
reaches_none ways machine lists more whole = fed_run-zero ways machine (feed_of lists more)

-- some instructions more from there
reached_run : (ways n k : ℕ) (machine next : Machine) (lists now : Lines) (lines more : List NotedLine)
    → Reaches ways n machine lists lines next now → AreLines more
    → fed_run ways (n + k) machine (feed_of lists (lines ++ more))
    ≡ fed_before n (fed_run ways k next (feed_of now more))
reached_run ways n k machine next lists now lines more reaches whole =
    run-parts ways n k machine (feed_of lists (lines ++ more)) ∙ ap (fed_gone_on ways k) (reaches more whole)

-- an instruction finishes that doesn't end the run
pub reaches_more : (ways n : ℕ) (machine next last : Machine) (lists now later : Lines) (lines others : List NotedLine)
    (done : Done) → AreLines others → Reaches ways n machine lists lines next now → done.ended ≡ No
    → ((more : List NotedLine) → AreLines more
    → fed_step ways next (feed_of now (others ++ more))
    ≡ Ok (record { machine = last; feed = feed_of later more; done = done }))
    → Reaches ways (n + 1) machine lists (lines ++ others) last later
reaches_more ways n machine next last lists now later lines others done some reaches going step more whole =
    ap (λ l. fed_run ways (n + 1) machine (feed_of lists l)) (append_assoc lines others more)
    ∙ (reached_run ways n 1 machine next lists now lines (others ++ more) reaches
    (AreLines-append others more some whole)
    ∙ (ap (fed_before n) (first_ends ways 0 next (feed_of now (others ++ more))
    (record { machine = last; feed = feed_of later more; done = done }) No (step more whole) going)
    ∙ (ap (λ (r : FedRun). fed_before n (one_before r)) (fed_run-zero ways last (feed_of later more))
    ∙ ap (λ (k : ℕ). let r : FedRun = record {
      instructions = k;
      machine = last;
      feed = feed_of later more;
      ending = EndsAs FlatBudget;
    } in r)
    (let e : n + (1 + 0) ≡ n + 1 = omega arith in e))))

-- What ends it from there ends it from the start.
module _ (ways n k : ℕ) (machine next : Machine) (feed after : Feed)
    (on : (j : ℕ) → fed_run ways (n + j) machine feed ≡ fed_before n (fed_run ways j next after)) where
  one_on : fed_run ways (n + k + 1) machine feed ≡ fed_before n (fed_run ways (k + 1) next after)
  one_on = ap (λ j. fed_run ways j machine feed) (let e : n + k + 1 ≡ n + (k + 1) = omega arith in e) ∙ on (k + 1)

  to_later : (last : Machine) → IsFedTo ways k next after last → IsFedTo ways (n + k) machine feed last
  to_later last to = record {
    uses = ap (λ (r : FedRun). r.feed.left) one_on ∙ to.uses;
    finished = ap (λ (r : FedRun). r.instructions) (on k) ∙ ap (λ (j : ℕ). n + j) to.finished;
    leaves = ap (λ (r : FedRun). r.machine) (on k) ∙ to.leaves;
  }

  ending_later : (ending : FlatEnding)
      → ((fed_run ways (k + 1) next after).ending ≡ EndsAs ending)
      × ((fed_run ways (k + 1) next after).instructions ≡ k)
      → ((fed_run ways (n + k + 1) machine feed).ending ≡ EndsAs ending)
      × ((fed_run ways (n + k + 1) machine feed).instructions ≡ n + k)
  ending_later ending (ends, finished) = (
    ap (λ (r : FedRun). r.ending) one_on ∙ ends,
    ap (λ (r : FedRun). r.instructions) one_on ∙ ap (λ (j : ℕ). n + j) finished,
  )

  going_later : (fed_run ways k next after).ending ≡ EndsAs FlatBudget
      → (fed_run ways (n + k) machine feed).ending ≡ EndsAs FlatBudget
  going_later ends = ap (λ (r : FedRun). r.ending) (on k) ∙ ends

  ends_later : (ending : Ending) → FedEnds ways k next after ending → FedEnds ways (n + k) machine feed ending
  ends_later (Exit status) ends = ending_later (Exited status) ends
  ends_later (Trap kind pc) ends = ending_later (Trapped kind pc) ends
  ends_later Budget ends = going_later ends
  ends_later (TimeUp at) ends = going_later ends
  ends_later (StashFull held) ends = tt
  ends_later (Integrity evidence) ends = tt
  ends_later Device ends = tt

  cause_later : (cause : Cause) (last : Machine) → CauseFed ways k next after cause last
      → CauseFed ways (n + k) machine feed cause last
  cause_later (Ends ending until) last fed = (to_later last fed.0, ends_later ending fed.1)
  cause_later (Stops stop) last fed = (to_later last fed.0, going_later fed.1)

pub cause_reached : (ways n k : ℕ) (machine next last : Machine) (lists now : Lines) (lines more : List NotedLine)
    (cause : Cause) → Reaches ways n machine lists lines next now → AreLines more
    → CauseFed ways k next (feed_of now more) cause last
    → CauseFed ways (n + k) machine (feed_of lists (lines ++ more)) cause last
cause_reached ways n k machine next last lists now lines more cause reaches whole fed =
    cause_later ways n k machine next (feed_of lists (lines ++ more)) (feed_of now more)
    (λ j. reached_run ways n j machine next lists now lines more reaches whole) cause last fed

-- ---- stops
-- What is known where a stop ends a run is known of the ending that it is.
pub stop_ends : (ways n : ℕ) (machine last : Machine) (feed : Feed) (stop : Stop) (ending : Ending)
    → ending_by stop ≡ Some ending → CauseFed ways n machine feed (Stops stop) last
    → IsFedRun ways n machine feed ending last
stop_ends ways n machine last feed (why.Integrity evidence) ending is fed =
    subst (λ (e : Ending). IsFedRun ways n machine feed e last) (let e : Integrity evidence ≡ ending = cc in e)
    (fed.0, tt)
stop_ends ways n machine last feed (why.StashFull held) ending is fed =
    subst (λ (e : Ending). IsFedRun ways n machine feed e last) (let e : StashFull held ≡ ending = cc in e)
    (fed.0, tt)
stop_ends ways n machine last feed (why.TimeUp at) ending is fed =
    subst (λ (e : Ending). IsFedRun ways n machine feed e last) (let e : TimeUp at ≡ ending = cc in e) fed
stop_ends ways n machine last feed why.Device ending is fed =
    subst (λ (e : Ending). IsFedRun ways n machine feed e last) (let e : Device ≡ ending = cc in e) (fed.0, tt)
stop_ends ways n machine last feed why.NoMemory ending is fed = absurd cc

-- Where a run that had ended by itself is stopped in the slots behind it, what it finished stays.
pub ended_stop_ends : (ways n : ℕ) (machine last : Machine) (feed : Feed) (before ending : Ending) (stop : Stop)
    → ((at : ℕ) → stop ≡ why.TimeUp at → ⊥) → ending_by stop ≡ Some ending
    → IsFedRun ways n machine feed before last → IsFedRun ways n machine feed ending last
ended_stop_ends ways n machine last feed before ending (why.Integrity evidence) in_time is fed =
    subst (λ (e : Ending). IsFedRun ways n machine feed e last) (let e : Integrity evidence ≡ ending = cc in e)
    (fed.0, tt)
ended_stop_ends ways n machine last feed before ending (why.StashFull held) in_time is fed =
    subst (λ (e : Ending). IsFedRun ways n machine feed e last) (let e : StashFull held ≡ ending = cc in e)
    (fed.0, tt)
ended_stop_ends ways n machine last feed before ending (why.TimeUp at) in_time is fed = absurd (in_time at refl)
ended_stop_ends ways n machine last feed before ending why.Device in_time is fed =
    subst (λ (e : Ending). IsFedRun ways n machine feed e last) (let e : Device ≡ ending = cc in e) (fed.0, tt)
ended_stop_ends ways n machine last feed before ending why.NoMemory in_time is fed = absurd cc
