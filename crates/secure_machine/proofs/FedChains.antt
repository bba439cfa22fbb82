-- Chains of requests for lines with a clock, and what they note: an instruction is that of the machine that is fed with
-- the lines that were answered.
use Rattle.std.proofs.Common.{◌≡◌, ◌<◌, ◌*◌, ◌+◌, ◌++◌, ◌∙◌, ℕ, zero, suc, List, [], ◌∷◌, Result, Ok, Some, length}
use Rattle.std.proofs.Common.{take, get_or, refl, sym, ap, subst, arith, append_assoc, append-nil}
use Rattle.asc_base.specs.declared.block.Line.{Line}
use Rattle.asc_base.specs.declared.block.Point.{Point}
use Rattle.asc_base.specs.declared.stop.Stop.{Stop}
use Rattle.asc_outside.specs.Memory.{MemoryState}
use Rattle.bus_watch.specs.Log.{TapState}
use Rattle.data_cache.specs.Cached.{cache_access, StandsAs}
use Rattle.data_cache.specs.CacheLists.{Sets, Lines, line_in, sets_after}
use Rattle.data_cache.specs.Contents.{Contents, write_line_plan}
use Rattle.data_cache.specs.Lines.{LineRequest, Fetch, Store, IsLineAnswer}
use Rattle.fed_run.specs.Answered.{line_source, AreLines, feed_of}
use Rattle.fed_run.specs.Fed.{NotedLine, numbered, fed_step, sets_along}
use Rattle.fed_run.proofs.Feeds.{AreLines-append}
use Rattle.fed_run.proofs.InstructionChains.{instruction-ends, instruction-stops}
use Rattle.fed_run.proofs.KeptChains.{kept-line, kept-line-stop}
use Rattle.fed_run.proofs.NotedLines.{own-read}
use Rattle.oram_frontend.specs.Oram.{Fetch as OramFetch, Store as OramStore}
use Rattle.request_plan.specs.Laws.{NotesAnswers, StopsUnnoted}
use Rattle.request_plan.specs.Plan.{Plan, Ends, Stops, through}
use Rattle.rv32_core.specs.LineList.{WholeWrite, used}
use Rattle.rv32_core.specs.Machine.{Machine, IsCore}
use Rattle.rv32_core.specs.StepPlan.{step_plan}
use Rattle.rv32_core.specs.declared.outcome.Done.{Done}
use Rattle.rv32_core.specs.declared.outcome.Ended.TheVariants.{No, Exit as Exits-as, Trap as Traps-as}
use Rattle.rv32_core.specs.declared.outcome.TrapKind.{TrapKind}
use Rattle.secure_machine.specs.Answered.{answered_lines}
use Rattle.secure_machine.specs.Fed.{noted, NotesMore, IsFedStep, IsStarvedStep, CauseFed, HaltsFed}
use Rattle.secure_machine.specs.Same.{timed_of, keys_in}
use Rattle.play_run.specs.Timed.{answers_lines}
use Rattle.secure_machine.specs.declared.lines.TimedLines.{TimedLines}
use Rattle.secure_machine.specs.declared.machine.Cause.TheVariants.{Ends as EndsBy, Stops as StopsBy}
use Rattle.secure_machine.specs.declared.machine.Halted.{Halted}
use Rattle.secure_machine.specs.declared.report.Ending.TheVariants.{Exit, Trap, Budget, TimeUp}
use Rattle.secure_machine.proofs.FedLaws.{Reaches, reaches_none, reaches_more, cause_reached, unbegun_time}
use Rattle.secure_machine.proofs.FedLaws.{unbegun_budget}
use Rattle.secure_machine.proofs.FedLaws.{starved_stops, exit_ends, trap_ends}
use Rattle.secure_machine.proofs.LineChains.{LinesStep}
use Rattle.secure_machine.proofs.NotedLines.{fetch_lines, store_lines, stop_lines}
use Rattle.secure_machine.proofs.Refining.{chain_calls}

module _ {M W L : Type 0} (memory_of : M → MemoryState) (tap_of : W → TapState) (leaf_of : L → Point → ℕ)
    (levels_of : L → ℕ) where
  abbrev Timed : Type 0
  Timed = TimedLines M W L

  abbrev Step : Timed → LineRequest → Result (List ℕ) Stop → Timed → Type 0
  Step = LinesStep memory_of tap_of leaf_of levels_of

  abbrev levels : Timed → ℕ
  levels s = levels_of s.oram.now.port.leaves

  -- An answered fetch notes its line, and a store notes none.
  notes : NotesAnswers Step line_source (noted tap_of)
  notes s t (Fetch line) bytes (same, answered) = (
    numbered line bytes,
    fetch_lines (keys_in leaf_of s) (levels s) (timed_of memory_of tap_of s).oram (timed_of memory_of tap_of t).oram
        s.clock line (record { line = Some (record { 0 = bytes }); end = t.clock }) (record { 0 = bytes }) refl
        answered.0,
    own-read line bytes,
  )
  notes s t (Store line value) bytes (same, answered) = (
    store_lines (keys_in leaf_of s) (levels s) (timed_of memory_of tap_of s).oram (timed_of memory_of tap_of t).oram
        s.clock line (record { 0 = value }) _ answered.0,
    answered.2,
  )

  unnoted : StopsUnnoted Step (noted tap_of)
  unnoted s t (Fetch line) stop (same, stopped) =
      stop_lines (keys_in leaf_of s) (levels s) (timed_of memory_of tap_of s).oram (timed_of memory_of tap_of t).oram
      (OramFetch s.clock line) stop stopped.0
  unnoted s t (Store line value) stop (same, stopped) =
      stop_lines (keys_in leaf_of s) (levels s) (timed_of memory_of tap_of s).oram (timed_of memory_of tap_of t).oram
      (OramStore s.clock line (record { 0 = value })) stop stopped.0

  answers : (s t : Timed) (q : LineRequest) (bytes : List ℕ) → Step s q (Ok bytes) t → IsLineAnswer q bytes
  answers s t q bytes h =
      answers_lines (keys_in leaf_of s) (levels s) s.count (timed_of memory_of tap_of s) (timed_of memory_of tap_of t) q
      bytes h.1

  -- An image line that is written whole notes nothing, and its cache stands as its lists say.
  abbrev Always : Timed → Type 0
  Always s = Unit {0}

  pub line_fed : (ways line : ℕ) (memory : List ℕ) (value : Line) (s t : Timed) (cache after : Contents) (sets : Sets)
      → line < s.count → value.0 ≡ line_in memory line
      → StandsAs s.count ways cache (record { memory = memory; sets = sets })
      → Ends Step (write_line_plan cache line value) s t after
      → (noted tap_of t ≡ noted tap_of s)
      × StandsAs t.count ways after (record {
        memory = memory;
        sets = sets_after ways sets (record { line = line; kind = WholeWrite });
      })
  line_fed ways line memory value s t cache after sets below is stands ends =
      let same = (chain_calls memory_of tap_of leaf_of levels_of (write_line_plan cache line value) s t after
      (keys_in leaf_of s) (levels s) refl refl ends).1 in
      let told = kept-line Step answers Always (λ u v q x one holds. tt) (noted tap_of)
      (λ u v q x one. notes u v q x one.1) s.count ways line memory below (stands.0).size s t cache after sets tt stands
      (subst (λ (bytes : List ℕ). Ends Step (write_line_plan cache line (record { 0 = bytes })) s t after) is ends) in (
        told.0,
        subst (λ n. StandsAs n ways after (record {
          memory = memory;
          sets = sets_after ways sets (record { line = line; kind = WholeWrite });
        })) (sym same.count) told.2,
      )

  pub line_fed_stop : (ways line : ℕ) (memory : List ℕ) (value : Line) (s t : Timed) (cache left : Contents)
      (sets : Sets) (stop : Stop) → line < s.count → value.0 ≡ line_in memory line
      → StandsAs s.count ways cache (record { memory = memory; sets = sets })
      → Stops Step (write_line_plan cache line value) s t stop left
      → noted tap_of t ≡ noted tap_of s
  line_fed_stop ways line memory value s t cache left sets stop below is stands stops =
      let plan : List ℕ → Plan LineRequest (List ℕ) Contents Contents =
      λ bytes. write_line_plan cache line (record { 0 = bytes }) in
      kept-line-stop Step answers Always (λ u v q x one holds. tt) (noted tap_of) (λ u v q x one. notes u v q x one.1)
      (λ u v q e one. unnoted u v q e one.1) s.count ways line memory below (stands.0).size s t cache left sets stop tt
      stands
      (subst (λ (bytes : List ℕ). Stops Step (plan bytes) s t stop left) is stops)

  -- An instruction.
  pub instruction_fed : (ways : ℕ) (machine : Machine) (s t : Timed) (cache after : Contents) (lists : Lines)
      (end : Machine × Done) → IsCore machine.core → machine.core.size ≡ 64 * s.count
      → StandsAs s.count ways cache lists
      → Ends Step (through (cache_access machine.core.base) (step_plan machine) cache) s t (after, end)
      → IsFedStep tap_of ways machine lists s t after (end.0) (end.1)
  instruction_fed ways machine s t cache after lists end is size stands ends =
      let plan = through (cache_access machine.core.base) (step_plan machine) cache in
      let same = (chain_calls memory_of tap_of leaf_of levels_of plan s t (after, end) (keys_in leaf_of s) (levels s)
      refl refl ends).1 in
      let (lines, now, more, whole, later, step) = instruction-ends s.count ways machine is size Step (noted tap_of)
      notes answers s t cache after lists.memory lists.sets end stands ends in
      (lines, now, (more, whole), subst (λ n. StandsAs n ways after now) (sym same.count) later, step)

  pub instruction_starved : (ways : ℕ) (machine : Machine) (s t : Timed) (cache : Contents) (lists : Lines)
      (stop : Stop) (left : Contents × Machine) → IsCore machine.core → machine.core.size ≡ 64 * s.count
      → StandsAs s.count ways cache lists
      → Stops Step (through (cache_access machine.core.base) (step_plan machine) cache) s t stop left
      → IsStarvedStep tap_of ways machine lists s t
  instruction_starved ways machine s t cache lists stop left is size stands stops =
      let (lines, more, whole, starves) = instruction-stops s.count ways machine is size Step (noted tap_of) notes
      answers unnoted s t cache lists.memory lists.sets stop left stands stops in
      (lines, (more, whole), starves)

-- ---- what a run tells, instruction by instruction
-- lines noted after lines noted
pub noted_then : (before middle after first rest : List NotedLine) → middle ≡ before ++ first → after ≡ middle ++ rest
    → after ≡ before ++ (first ++ rest)
noted_then before middle after first rest one other =
    other ∙ (ap (λ l. l ++ rest) one ∙ append_assoc before first rest)

-- one image line more is used
pub along_more : (ways : ℕ) (sets : Sets) (marked : List ℕ) (at line : ℕ) → at < length marked
    → line ≡ get_or marked at line
    → sets_along ways sets (used WholeWrite (take (at + 1) marked))
    ≡ sets_after ways (sets_along ways sets (used WholeWrite (take at marked)))
    (record { line = line; kind = WholeWrite })
along_more ways sets [] at line below is = absurd (omega (arith, below))
along_more ways sets (first ∷ marked) zero line below is =
    ap (λ n. sets_after ways sets (record { line = n; kind = WholeWrite })) (sym is)
along_more ways sets (first ∷ marked) (suc at) line below is =
    let e : suc at + 1 ≡ suc (at + 1) = omega arith in
    ap (λ n. sets_along ways sets (used WholeWrite (take n (first ∷ marked)))) e
    ∙ along_more ways (sets_after ways sets (record { line = first; kind = WholeWrite })) marked at line
    (omega (arith, below)) is

-- an instruction on just its lines
pub alone : (ways : ℕ) (machine next : Machine) (lists now : Lines) (lines : List NotedLine) (done : Done)
    → ((more : List NotedLine) → AreLines more
    → fed_step ways machine (feed_of lists (lines ++ more))
    ≡ Ok (record { machine = next; feed = feed_of now more; done = done }))
    → fed_step ways machine (feed_of lists lines)
    ≡ Ok (record { machine = next; feed = feed_of now []; done = done })
alone ways machine next lists now lines done step =
    ap (λ l. fed_step ways machine (feed_of lists l)) (sym (append-nil lines)) ∙ step [] tt

module _ {M W L : Type 0} (tap_of : W → TapState) where
  -- the clock went on
  pub spent_fed : (ways : ℕ) (machine next : Machine) (lists : Lines) (s t u : TimedLines M W L) (cache : Contents)
      (done : Done) → u.tap.now ≡ t.tap.now → u.count ≡ t.count
      → IsFedStep tap_of ways machine lists s t cache next done
      → IsFedStep tap_of ways machine lists s u cache next done
  spent_fed ways machine next lists s t u cache done tap count (lines, now, (more, whole), stands, step) = (
    lines,
    now,
    (ap (λ w. answered_lines (tap_of w).log.events) tap ∙ more, whole),
    subst (λ n. StandsAs n ways cache now) (sym count) stands,
    step,
  )

  -- The run ends with an instruction, before it, or in it.
  pub exit_halts : (ways before cycles status until : ℕ) (machine next : Machine) (lists : Lines)
      (s t : TimedLines M W L) (cache : Contents) (done : Done) → done.ended ≡ Exits-as status
      → IsFedStep tap_of ways machine lists s t cache next done
      → HaltsFed tap_of ways before machine lists s t
      (record { instructions = before + 1; cycles = cycles; cause = EndsBy (Exit status) until }) next
  exit_halts ways before cycles status until machine next lists s t cache done how (lines, now, more, stands, step) = (
    lines,
    1,
    more,
    refl,
    exit_ends ways machine (feed_of lists lines) (record { machine = next; feed = feed_of now []; done = done }) status
        until (alone ways machine next lists now lines done step) how refl,
  )

  pub trap_halts : (ways before cycles pc until : ℕ) (kind : TrapKind) (machine next : Machine) (lists : Lines)
      (s t : TimedLines M W L) (cache : Contents) (done : Done) → done.ended ≡ Traps-as kind pc
      → IsFedStep tap_of ways machine lists s t cache next done
      → HaltsFed tap_of ways before machine lists s t
      (record { instructions = before; cycles = cycles; cause = EndsBy (Trap kind pc) until }) next
  trap_halts ways before cycles pc until kind machine next lists s t cache done how (lines, now, more, stands, step) = (
    lines,
    0,
    more,
    (let e : before ≡ before + 0 = omega arith in e),
    trap_ends ways machine (feed_of lists lines) (record { machine = next; feed = feed_of now []; done = done }) kind pc
        until (alone ways machine next lists now lines done step) how refl,
  )

  pub stop_halts : (ways before cycles : ℕ) (stop : Stop) (machine next : Machine) (lists : Lines)
      (s t : TimedLines M W L) → next ≡ machine → IsStarvedStep tap_of ways machine lists s t
      → HaltsFed tap_of ways before machine lists s t
      (record { instructions = before; cycles = cycles; cause = StopsBy stop }) next
  stop_halts ways before cycles stop machine next lists s t is (lines, more, starves) = (
    lines,
    0,
    more,
    (let e : before ≡ before + 0 = omega arith in e),
    subst (CauseFed ways 0 machine (feed_of lists lines) (StopsBy stop)) (sym is)
        (starved_stops ways machine (feed_of lists lines) stop starves),
  )

  -- nothing was answered since
  pub nothing_more : (s : TimedLines M W L) → NotesMore tap_of s [] s
  nothing_more s = (sym (append-nil (noted tap_of s)), tt)

  pub time_halts : (ways before cycles at until : ℕ) (machine : Machine) (lists : Lines) (s : TimedLines M W L)
      → HaltsFed tap_of ways before machine lists s s
      (record { instructions = before; cycles = cycles; cause = EndsBy (TimeUp at) until }) machine
  time_halts ways before cycles at until machine lists s = (
    [],
    0,
    nothing_more s,
    (let e : before ≡ before + 0 = omega arith in e),
    unbegun_time ways machine (feed_of lists []) at until refl,
  )

  pub budget_halts : (ways before cycles until : ℕ) (machine : Machine) (lists : Lines) (s : TimedLines M W L)
      → HaltsFed tap_of ways before machine lists s s
      (record { instructions = before; cycles = cycles; cause = EndsBy Budget until }) machine
  budget_halts ways before cycles until machine lists s = (
    [],
    0,
    nothing_more s,
    (let e : before ≡ before + 0 = omega arith in e),
    unbegun_budget ways machine (feed_of lists []) until refl,
  )

  -- ---- from the start
  -- so many instructions finished, on just the lines that were answered
  abbrev pub FedSoFar : ℕ → ℕ → Machine → Lines → (s t : TimedLines M W L) → Contents → Machine → Type 0
  FedSoFar ways n machine lists s t cache next =
      (lines : List NotedLine) × (now : Lines) × NotesMore tap_of s lines t × StandsAs t.count ways cache now
      × Reaches ways n machine lists lines next now

  pub fed_none : (ways : ℕ) (machine : Machine) (lists : Lines) (s t : TimedLines M W L) (cache : Contents)
      → noted tap_of t ≡ noted tap_of s → StandsAs t.count ways cache lists
      → FedSoFar ways 0 machine lists s t cache machine
  fed_none ways machine lists s t cache none stands =
      ([], lists, (none ∙ sym (append-nil (noted tap_of s)), tt), stands, reaches_none ways machine lists)

  pub fed_more : (ways n : ℕ) (machine next last : Machine) (lists : Lines) (s t u : TimedLines M W L)
      (cache after : Contents) (done : Done) → done.ended ≡ No
      → (first : FedSoFar ways n machine lists s t cache next)
      → IsFedStep tap_of ways next (first.1) t u after last done
      → FedSoFar ways (n + 1) machine lists s u after last
  fed_more ways n machine next last lists s t u cache after done going (lines, now, (more, whole), stands, reaches)
      (others, later, (most, wholes), standing, step) = (
        lines ++ others,
        later,
        (
          noted_then (noted tap_of s) (noted tap_of t) (noted tap_of u) lines others more most,
          AreLines-append lines others whole wholes,
        ),
        standing,
        reaches_more ways n machine next last lists now later lines others done wholes reaches going step,
      )

  pub fed_halts : (ways n : ℕ) (machine next last : Machine) (lists : Lines) (s t u : TimedLines M W L)
      (cache : Contents) (halted : Halted) → (first : FedSoFar ways n machine lists s t cache next)
      → HaltsFed tap_of ways n next (first.1) t u halted last
      → HaltsFed tap_of ways 0 machine lists s u halted last
  fed_halts ways n machine next last lists s t u cache halted (lines, now, (more, whole), stands, reaches)
      (others, k, (most, wholes), count, cause) = (
        lines ++ others,
        n + k,
        (
          noted_then (noted tap_of s) (noted tap_of t) (noted tap_of u) lines others more most,
          AreLines-append lines others whole wholes,
        ),
        (let e : halted.instructions ≡ 0 + (n + k) = omega (arith, count) in e),
        cause_reached ways n k machine next last lists now lines others halted.cause reaches wholes cause,
      )

  -- none was begun
  pub load_halts : (ways : ℕ) (machine : Machine) (lists : Lines) (s t : TimedLines M W L) (halted : Halted)
      → noted tap_of t ≡ noted tap_of s
      → CauseFed ways halted.instructions machine (feed_of lists []) halted.cause machine
      → HaltsFed tap_of ways 0 machine lists s t halted machine
  load_halts ways machine lists s t halted none cause = (
    [],
    halted.instructions,
    (none ∙ sym (append-nil (noted tap_of s)), tt),
    (let e : halted.instructions ≡ 0 + halted.instructions = omega arith in e),
    cause,
  )
