-- The clock of a run is the costs of what it finished and what it waited, instruction by instruction and to its end.
use Rattle.std.proofs.Common.{◌≡◌, ◌<◌, ◌≤◌, ◌+◌, ◌++◌, ◌∙◌, ℕ, List, [], Ok, Some, refl, sym, ap, subst, arith}
use Rattle.std.proofs.Common.{append_assoc, append-nil}
use Rattle.asc_base.specs.declared.block.Point.{Point}
use Rattle.asc_base.specs.declared.settings.Config.{Config}
use Rattle.asc_base.specs.declared.stop.Stop.{Stop}
use Rattle.asc_base.specs.declared.stop.Stop.TheVariants as why
use Rattle.asc_outside.specs.Memory.{MemoryState}
use Rattle.bus_watch.specs.Log.{TapState}
use Rattle.data_cache.specs.CacheLists.{Lines}
use Rattle.data_cache.specs.Cached.{StandsAs}
use Rattle.data_cache.specs.Contents.{Contents}
use Rattle.fed_run.specs.Answered.{AreLines, feed_of}
use Rattle.fed_run.specs.Fed.{Feed, NotedLine, FedRun, FedStep, fed_step}
use Rattle.fed_run.proofs.Feeds.{AreLines-append}
use Rattle.oram_frontend.specs.declared.oram.Oram.{Oram}
use Rattle.play_run.specs.Spent.{waits, fed_cost, IsSpent, SpentAtStop}
use Rattle.play_run.proofs.FedCosts.{cost-zero, cost-goes-on, cost-exits, cost-then}
use Rattle.rate_enforcer.specs.PortStep.{PortState}
use Rattle.rv32_core.specs.Machine.{Machine}
use Rattle.rv32_core.specs.declared.outcome.Done.{Done}
use Rattle.rv32_core.specs.declared.outcome.Ended.TheVariants.{No, Exit as Exits-as}
use Rattle.rv32_core.specs.declared.outcome.TrapKind.{TrapKind}
use Rattle.secure_machine.specs.Fed.{noted, NotesMore, IsFedStep, IsStarvedStep}
use Rattle.secure_machine.specs.FlatEnds.{ending_by}
use Rattle.secure_machine.specs.Goes.{PaceAt}
use Rattle.secure_machine.specs.Runs.{BreaksOff, port}
use Rattle.secure_machine.specs.Same.{timed_of, oram_over}
use Rattle.secure_machine.specs.Spent.{EndsAtClock, EndsSpent, ClockSpent, StopSpent, CauseSpent, HaltsSpent}
use Rattle.secure_machine.specs.declared.lines.TimedLines.{TimedLines}
use Rattle.secure_machine.specs.declared.machine.Cause.{Cause}
use Rattle.secure_machine.specs.declared.machine.Cause.TheVariants.{Ends as EndsBy, Stops as StopsBy}
use Rattle.secure_machine.specs.declared.machine.Halted.{Halted}
use Rattle.secure_machine.specs.declared.report.Ending.{Ending}
use Rattle.secure_machine.specs.declared.report.Ending.TheVariants.{Exit, Trap, Budget, TimeUp, StashFull, Integrity}
use Rattle.secure_machine.specs.declared.report.Ending.TheVariants.{Device}
use Rattle.secure_machine.proofs.FedChains.{noted_then, alone, nothing_more}
use Rattle.secure_machine.proofs.FedLaws.{Reaches, reaches_none, reaches_more}

-- ---- how runs end
module _ (config : Config) (levels spent instructions cycles : ℕ) where
  -- at the clock itself, and where time is up, that's then
  ends_whole : (ending : Ending) → cycles ≡ spent → ((at : ℕ) → ending ≡ TimeUp at → at ≡ cycles)
      → EndsSpent config levels spent instructions cycles ending
  ends_whole ending same at_clock = record {
    cycles = omega (arith, same);
    whole = λ ends. same;
    time = λ at is. (let here = at_clock at is in omega (arith, same, here));
  }

  -- before it, in no way in which the clock is all
  ends_before : (ending : Ending) → (EndsAtClock instructions cycles ending → ⊥)
      → ((at : ℕ) → ending ≡ TimeUp at → ⊥) → cycles ≤ spent → EndsSpent config levels spent instructions cycles ending
  ends_before ending never in_time low = record {
    cycles = low;
    whole = λ ends. absurd (never ends);
    time = λ at is. absurd (in_time at is);
  }

-- What is known where a stop ends a run is known of the ending that it is.
pub stop_spends : (config : Config) (levels costs instructions cycles : ℕ) (stop : Stop) (ending : Ending)
    (after : PortState) → ending_by stop ≡ Some ending → SpentAtStop config levels costs cycles stop after
    → ((at : ℕ) → stop ≡ why.TimeUp at → 0 < instructions → cycles < at)
    → EndsSpent config levels (costs + waits levels after.tap.log) instructions cycles ending
stop_spends config levels costs instructions cycles (why.Integrity evidence) ending after is x late =
    subst (λ (e : Ending). EndsSpent config levels (costs + waits levels after.tap.log) instructions cycles e)
    (let e : Integrity evidence ≡ ending = cc in e)
    (ends_before config levels _ instructions cycles (Integrity evidence) (λ ends. ends) (λ at no. absurd cc) x.cycles)
stop_spends config levels costs instructions cycles (why.StashFull held) ending after is x late =
    subst (λ (e : Ending). EndsSpent config levels (costs + waits levels after.tap.log) instructions cycles e)
    (let e : StashFull held ≡ ending = cc in e)
    (ends_before config levels _ instructions cycles (StashFull held) (λ ends. ends) (λ at no. absurd cc) x.cycles)
stop_spends config levels costs instructions cycles (why.TimeUp start) ending after is x late =
    subst (λ (e : Ending). EndsSpent config levels (costs + waits levels after.tap.log) instructions cycles e)
    (let e : TimeUp start ≡ ending = cc in e)
    (record {
      cycles = x.cycles;
      whole = λ ends. (let more = late start refl ends.0 in let here = ends.1 in absurd (omega (arith, more, here)));
      time = λ at same. x.time at (let e : why.TimeUp start ≡ why.TimeUp at = cc in e);
    })
stop_spends config levels costs instructions cycles why.Device ending after is x late =
    subst (λ (e : Ending). EndsSpent config levels (costs + waits levels after.tap.log) instructions cycles e)
    (let e : Device ≡ ending = cc in e)
    (ends_before config levels _ instructions cycles Device (λ ends. ends) (λ at no. absurd cc) x.cycles)
stop_spends config levels costs instructions cycles why.NoMemory ending after is x late = absurd cc

-- Where a run that had ended by itself is stopped in the slots behind it, what it spent stays.
pub ended_stop_spends : (config : Config) (levels spent instructions cycles : ℕ) (before ending : Ending) (stop : Stop)
    → ((at : ℕ) → stop ≡ why.TimeUp at → ⊥) → ending_by stop ≡ Some ending
    → EndsSpent config levels spent instructions cycles before
    → EndsSpent config levels spent instructions cycles ending
ended_stop_spends config levels spent instructions cycles before ending (why.Integrity evidence) in_time is x =
    subst (EndsSpent config levels spent instructions cycles) (let e : Integrity evidence ≡ ending = cc in e)
    (ends_before config levels spent instructions cycles (Integrity evidence) (λ ends. ends) (λ at no. absurd cc)
    x.cycles)
ended_stop_spends config levels spent instructions cycles before ending (why.StashFull held) in_time is x =
    subst (EndsSpent config levels spent instructions cycles) (let e : StashFull held ≡ ending = cc in e)
    (ends_before config levels spent instructions cycles (StashFull held) (λ ends. ends) (λ at no. absurd cc) x.cycles)
ended_stop_spends config levels spent instructions cycles before ending (why.TimeUp at) in_time is x =
    absurd (in_time at refl)
ended_stop_spends config levels spent instructions cycles before ending why.Device in_time is x =
    subst (EndsSpent config levels spent instructions cycles) (let e : Device ≡ ending = cc in e)
    (ends_before config levels spent instructions cycles Device (λ ends. ends) (λ at no. absurd cc) x.cycles)
ended_stop_spends config levels spent instructions cycles before ending why.NoMemory in_time is x = absurd cc

-- ---- the costs of instructions in parts
-- On these lines, whatever comes behind them, so many instructions cost this.
abbrev pub Cost : ℕ → ℕ → Machine → Lines → List NotedLine → ℕ → Type 0
Cost ways n machine lists lines total =
    (more : List NotedLine) → AreLines more → fed_cost ways n machine (feed_of lists (lines ++ more)) ≡ total

-- and some more from there cost those too
cost_reached : (ways n k : ℕ) (machine next : Machine) (lists now : Lines) (lines more : List NotedLine) (total : ℕ)
    → Reaches ways n machine lists lines next now → AreLines more → Cost ways n machine lists lines total
    → fed_cost ways (n + k) machine (feed_of lists (lines ++ more)) ≡ total + fed_cost ways k next (feed_of now more)
cost_reached ways n k machine next lists now lines more total reaches whole costs =
    let feed : Feed = feed_of lists (lines ++ more) in
    cost-then ways n k machine feed (ap (λ (r : FedRun). r.ending) (reaches more whole))
    ∙ ap (λ (r : FedRun). fed_cost ways n machine feed + fed_cost ways k r.machine r.feed) (reaches more whole)
    ∙ ap (λ c. c + fed_cost ways k next (feed_of now more)) (costs more whole)

-- one instruction that doesn't end the run
cost_one : (ways : ℕ) (machine : Machine) (feed : Feed) (step : FedStep) → fed_step ways machine feed ≡ Ok step
    → step.done.ended ≡ No → fed_cost ways 1 machine feed ≡ step.done.cost
cost_one ways machine feed step is going =
    let none = cost-zero ways step.machine step.feed in
    let all = cost-goes-on ways 0 machine feed step is going in
    omega (arith, none, all)

cost_more : (ways n : ℕ) (machine next last : Machine) (lists now later : Lines) (lines others : List NotedLine)
    (done : Done) (total : ℕ) → AreLines others → Reaches ways n machine lists lines next now → done.ended ≡ No
    → ((more : List NotedLine) → AreLines more
    → fed_step ways next (feed_of now (others ++ more))
    ≡ Ok (record { machine = last; feed = feed_of later more; done = done }))
    → Cost ways n machine lists lines total → Cost ways (n + 1) machine lists (lines ++ others) (total + done.cost)
cost_more ways n machine next last lists now later lines others done total some reaches going step costs more whole =
    ap (λ l. fed_cost ways (n + 1) machine (feed_of lists l)) (append_assoc lines others more)
    ∙ cost_reached ways n 1 machine next lists now lines (others ++ more) total reaches
    (AreLines-append others more some whole) costs
    ∙ ap (λ c. total + c) (cost_one ways next (feed_of now (others ++ more))
    (record { machine = last; feed = feed_of later more; done = done }) (step more whole) going)

module _ {M W L : Type 0} (memory_of : M → MemoryState) (tap_of : W → TapState) (levels_of : L → ℕ) (config : Config)
    (levels : ℕ) where
  abbrev Timed : Type 0
  Timed = TimedLines M W L

  abbrev Spent : ℕ → Timed → Type 0
  Spent = ClockSpent memory_of tap_of levels_of config levels

  abbrev Caused : (costs instructions cycles : ℕ) → Cause → Timed → Type 0
  Caused = CauseSpent memory_of tap_of levels_of config levels

  -- with no instruction more the costs are those of before
  none_more : (costs ways : ℕ) (machine : Machine) (feed : Feed) → costs ≡ costs + fed_cost ways 0 machine feed
  none_more costs ways machine feed = let none = cost-zero ways machine feed in omega (arith, none)

  -- ---- the run ends with an instruction, before it, or in it
  pub exit_spends : (costs ways before status until : ℕ) (machine next : Machine) (lists : Lines) (s t : Timed)
      (cache : Contents) (done : Done) → done.ended ≡ Exits-as status
      → IsFedStep tap_of ways machine lists s t cache next done → Spent (costs + done.cost) t
      → HaltsSpent memory_of tap_of levels_of config levels costs ways before machine lists s t
      (record { instructions = before + 1; cycles = t.clock; cause = EndsBy (Exit status) until })
  exit_spends costs ways before status until machine next lists s t cache done how (lines, now, more, stands, step) x =
      let its = cost-exits ways 0 status machine (feed_of lists lines) _
      (alone ways machine next lists now lines done step) how in
      let clock = x.spent.clock in (
        lines,
        1,
        more,
        refl,
        ends_whole config levels _ (before + 1) t.clock (Exit status) (omega (arith, clock, its)) (λ at no. absurd cc),
      )

  pub trap_spends : (costs ways before pc until : ℕ) (kind : TrapKind) (machine next : Machine) (lists : Lines)
      (s t : Timed) (cache : Contents) (done : Done) → IsFedStep tap_of ways machine lists s t cache next done
      → Spent (costs + done.cost) t → s.clock + done.cost ≤ t.clock
      → HaltsSpent memory_of tap_of levels_of config levels costs ways before machine lists s t
      (record { instructions = before; cycles = s.clock; cause = EndsBy (Trap kind pc) until })
  trap_spends costs ways before pc until kind machine next lists s t cache done (lines, now, more, stands, step) x
      onward =
      let none = none_more costs ways machine (feed_of lists lines) in
      let clock = x.spent.clock in (
        lines,
        0,
        more,
        (let e : before ≡ before + 0 = omega arith in e),
        ends_before config levels _ before s.clock (Trap kind pc) (λ ends. ends) (λ at no. absurd cc)
            (omega (arith, clock, none, onward)),
      )

  pub stopped_spends : (costs ways before cycles : ℕ) (stop : Stop) (machine : Machine) (lists : Lines) (s t : Timed)
      → IsStarvedStep tap_of ways machine lists s t
      → StopSpent memory_of tap_of levels_of config levels costs cycles stop t
      → ((at : ℕ) → stop ≡ why.TimeUp at → 0 < before → cycles < at)
      → HaltsSpent memory_of tap_of levels_of config levels costs ways before machine lists s t
      (record { instructions = before; cycles = cycles; cause = StopsBy stop })
  stopped_spends costs ways before cycles stop machine lists s t (lines, more, starves) x late = (
    lines,
    0,
    more,
    (let e : before ≡ before + 0 = omega arith in e),
    subst (λ n. Caused n before cycles (StopsBy stop) t) (none_more costs ways machine (feed_of lists lines)) (x, late),
  )

  -- where no time was left for a slot that an instruction asked for, that one starts after the clock before it
  pub stops_later : (leaf_of : L → Point → ℕ) (cycles : ℕ) (stop : Stop) (s t : Timed)
      → s.oram.now.port.clock.config ≡ config → cycles < config.time
      → BreaksOff memory_of tap_of leaf_of levels_of stop s t → (at : ℕ) → stop ≡ why.TimeUp at → cycles < at
  stops_later leaf_of cycles stop s t settings early off at is =
      let pace = subst (λ (e : Stop). PaceAt s.oram.now.port.clock.config e (port memory_of tap_of levels_of t)) is
      off.breaks.pace in
      let late : s.oram.now.port.clock.config.time ≤ at = pace.0 in
      let time = ap (λ (c : Config). c.time) settings in
      omega (arith, early, late, time)

  -- none was begun
  own_spends : (costs ways before until : ℕ) (ending : Ending) (machine : Machine) (lists : Lines) (s : Timed)
      → ((at : ℕ) → ending ≡ TimeUp at → at ≡ s.clock) → Spent costs s
      → HaltsSpent memory_of tap_of levels_of config levels costs ways before machine lists s s
      (record { instructions = before; cycles = s.clock; cause = EndsBy ending until })
  own_spends costs ways before until ending machine lists s at_clock x =
      let none = none_more costs ways machine (feed_of lists []) in
      let clock = x.spent.clock in (
        [],
        0,
        nothing_more tap_of s,
        (let e : before ≡ before + 0 = omega arith in e),
        ends_whole config levels _ before s.clock ending (omega (arith, clock, none)) at_clock,
      )

  pub time_spends : (costs ways before until : ℕ) (machine : Machine) (lists : Lines) (s : Timed) → Spent costs s
      → HaltsSpent memory_of tap_of levels_of config levels costs ways before machine lists s s
      (record { instructions = before; cycles = s.clock; cause = EndsBy (TimeUp s.clock) until })
  time_spends costs ways before until machine lists s x =
      own_spends costs ways before until (TimeUp s.clock) machine lists s (λ at is. let e : at ≡ s.clock = cc in e) x

  pub budget_spends : (costs ways before until : ℕ) (machine : Machine) (lists : Lines) (s : Timed) → Spent costs s
      → HaltsSpent memory_of tap_of levels_of config levels costs ways before machine lists s s
      (record { instructions = before; cycles = s.clock; cause = EndsBy Budget until })
  budget_spends costs ways before until machine lists s x =
      own_spends costs ways before until Budget machine lists s (λ at is. absurd cc) x

  -- ---- from the start
  -- so many instructions finished, on just the lines that were answered, and their costs were spent
  pub record SpentSoFar (costs ways n : ℕ) (machine : Machine) (lists : Lines) (s t : Timed) (cache : Contents)
      (next : Machine) : Type 0 where
    pub lines : List NotedLine
    pub now : Lines
    pub total : ℕ
    pub notes : NotesMore tap_of s lines t
    pub stands : StandsAs t.count ways cache now
    pub reaches : Reaches ways n machine lists lines next now
    pub cost : Cost ways n machine lists lines total
    pub spent : Spent (costs + total) t

  pub spent_none : (costs ways : ℕ) (machine : Machine) (lists : Lines) (s t : Timed) (cache : Contents)
      → noted tap_of t ≡ noted tap_of s → StandsAs t.count ways cache lists → Spent costs t
      → SpentSoFar costs ways 0 machine lists s t cache machine
  spent_none costs ways machine lists s t cache none stands x = record {
    lines = [];
    now = lists;
    total = 0;
    notes = (none ∙ sym (append-nil (noted tap_of s)), tt);
    stands = stands;
    reaches = reaches_none ways machine lists;
    cost = λ more whole. cost-zero ways machine (feed_of lists more);
    spent = subst (λ n. Spent n t) (let e : costs ≡ costs + 0 = omega arith in e) x;
  }

  pub spent_more : (costs ways n : ℕ) (machine next last : Machine) (lists : Lines) (s t u : Timed)
      (cache after : Contents) (done : Done) → done.ended ≡ No
      → (first : SpentSoFar costs ways n machine lists s t cache next)
      → IsFedStep tap_of ways next first.now t u after last done → Spent (costs + first.total + done.cost) u
      → SpentSoFar costs ways (n + 1) machine lists s u after last
  spent_more costs ways n machine next last lists s t u cache after done going first
      (others, later, (most, wholes), standing, step) x = record {
        lines = first.lines ++ others;
        now = later;
        total = first.total + done.cost;
        notes = (
          noted_then (noted tap_of s) (noted tap_of t) (noted tap_of u) first.lines others first.notes.0 most,
          AreLines-append first.lines others first.notes.1 wholes,
        );
        stands = standing;
        reaches = reaches_more ways n machine next last lists first.now later first.lines others done wholes
            first.reaches going step;
        cost = cost_more ways n machine next last lists first.now later first.lines others done first.total wholes
            first.reaches going step first.cost;
        spent = subst (λ k. Spent k u)
            (let e : costs + first.total + done.cost ≡ costs + (first.total + done.cost) = omega arith in e) x;
      }

  pub spent_halts : (costs ways n : ℕ) (machine next : Machine) (lists : Lines) (s t u : Timed) (cache : Contents)
      (halted : Halted) → (first : SpentSoFar costs ways n machine lists s t cache next)
      → HaltsSpent memory_of tap_of levels_of config levels (costs + first.total) ways n next first.now t u halted
      → HaltsSpent memory_of tap_of levels_of config levels costs ways 0 machine lists s u halted
  spent_halts costs ways n machine next lists s t u cache halted first (others, k, (most, wholes), count, cause) =
      let all = cost_reached ways n k machine next lists first.now first.lines others first.total first.reaches wholes
      first.cost in
      let e : costs + first.total + fed_cost ways k next (feed_of first.now others)
      ≡ costs + fed_cost ways (n + k) machine (feed_of lists (first.lines ++ others)) = omega (arith, all) in (
        first.lines ++ others,
        n + k,
        (
          noted_then (noted tap_of s) (noted tap_of t) (noted tap_of u) first.lines others first.notes.0 most,
          AreLines-append first.lines others first.notes.1 wholes,
        ),
        (let e : halted.instructions ≡ 0 + (n + k) = omega (arith, count) in e),
        subst (λ c. Caused c halted.instructions halted.cycles halted.cause u) e cause,
      )

  -- ---- a new memory
  pub clock_begins : (s : Timed) (o : Oram L) (m : M) (w : W) → s.memory.now ≡ m → s.tap.now ≡ w → s.oram.now ≡ o
      → s.clock ≡ 0 → s.fetches ≡ 0 → o.port.clock.config ≡ config → levels_of o.port.leaves ≡ levels
      → IsSpent levels 0 (record { oram = oram_over memory_of tap_of o m w; clock = 0; fetches = 0 }) → Spent 0 s
  clock_begins s o m w memory tap oram clock fetches config_is levels_are spent = record {
    config_is = ap (λ (x : Oram L). x.port.clock.config) oram ∙ config_is;
    levels_are = ap (λ (x : Oram L). levels_of x.port.leaves) oram ∙ levels_are;
    spent = subst (IsSpent levels 0) (sym begun) spent;
  }
    where
      begun : timed_of memory_of tap_of s
          ≡ record { oram = oram_over memory_of tap_of o m w; clock = 0; fetches = 0 }
      begun = λ i. record {
        oram = oram_over memory_of tap_of (oram i) (memory i) (tap i);
        clock = clock i;
        fetches = fetches i;
      }

  -- ---- where an image line was stopped, no instruction was begun
  pub load_spends : (costs ways : ℕ) (machine : Machine) (lists : Lines) (s t : Timed) (halted : Halted)
      → noted tap_of t ≡ noted tap_of s → halted.instructions ≡ 0
      → Caused costs halted.instructions halted.cycles halted.cause t
      → HaltsSpent memory_of tap_of levels_of config levels costs ways 0 machine lists s t halted
  load_spends costs ways machine lists s t halted none first cause = (
    [],
    0,
    (none ∙ sym (append-nil (noted tap_of s)), tt),
    first,
    subst (λ n. Caused n halted.instructions halted.cycles halted.cause t)
        (none_more costs ways machine (feed_of lists [])) cause,
  )

  -- with all lines of the image counted
  pub line_stop_spends : (costs most cycles : ℕ) (stop : Stop) (t : Timed) → costs ≤ most
      → StopSpent memory_of tap_of levels_of config levels costs cycles stop t
      → Caused most 0 cycles (StopsBy stop) t
  line_stop_spends costs most cycles stop t less x = (
    record {
      cycles = (let low = x.cycles in omega (arith, less, low));
      time = λ at is. (let soon = x.time at is in omega (arith, less, soon));
    },
    λ at is some. absurd (omega (arith, some)),
  )
