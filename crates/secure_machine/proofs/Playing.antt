-- Chains of requests for lines with a clock stand in a whole play, and so do their ends.
use Rattle.std.proofs.Common.{◌≡◌, ◌<◌, ◌≤◌, ◌*◌, ◌+◌, ◌-◌, ◌^◌, ◌⊎◌, ◌∙◌, inl, inr, ℕ, zero, suc, List, ◌∷◌, min}
use Rattle.std.proofs.Common.{Result, Ok, Err, None, length, get_or, drop, refl, sym, ap, subst, arith}
use Rattle.std.proofs.Math.Seq.{drop-cons, drop-length}
use Rattle.std.specs.List.Sorted.{IsStrictlyIncreasing}
use Rattle.request_plan.specs.Plan.{Plan, Done, Ask, Ends, Stops, through}
use Rattle.asc_base.specs.Settings.{IsConfig}
use Rattle.asc_base.specs.TreeShape.{olat_of}
use Rattle.asc_base.specs.declared.block.Line.{Line}
use Rattle.asc_base.specs.declared.block.Point.{Point}
use Rattle.asc_base.specs.declared.settings.Config.{Config}
use Rattle.asc_base.specs.declared.stop.Stop.{Stop}
use Rattle.asc_outside.specs.Memory.{MemoryState}
use Rattle.bus_watch.specs.Log.{TapState}
use Rattle.data_cache.specs.Cached.{cache_access}
use Rattle.data_cache.specs.CacheLists.{line_in}
use Rattle.data_cache.specs.Contents.{Contents, write_line_plan}
use Rattle.data_cache.specs.Lines.{LineRequest}
use Rattle.oram_contents.specs.Entries.{Keys, AreKeys}
use Rattle.oram_contents.specs.Forgery.{Forgery}
use Rattle.oram_frontend.specs.Oram.{OramState, OramStep, Told, Wait}
use Rattle.oram_lines.proofs.LineLaws.{forgery_call, forgery_stop}
use Rattle.oram_play.specs.Playing.{PlaysAs}
use Rattle.play_run.specs.Shows.{RunShows, StopShows}
use Rattle.play_run.specs.Stands.{spent, numbers_of, StandsInImage, EndsIn, InstructionLeaves}
use Rattle.play_run.specs.Timed.{TimedState, TimedStep, CanAsk}
use Rattle.play_run.proofs.Ends.{wait-shows, wait-stop-shows}
use Rattle.play_run.proofs.Plans.{forged-ends, forged-stops}
use Rattle.play_run.proofs.Runs.{line-stands, line-stop-shows, instruction-stands, instruction-stop-shows, image-done}
use Rattle.play_run.proofs.Runs.{time-ends, budget-ends}
use Rattle.run_play.specs.Play as how
use Rattle.run_play.specs.Play.{Play, PlayEnding}
use Rattle.run_play.specs.Requests.{Standing}
use Rattle.run_play.specs.Slots.{Slot}
use Rattle.rv32_core.specs.Machine.{Machine, IsCore}
use Rattle.rv32_core.specs.StepPlan.{step_plan}
use Rattle.rv32_core.specs.declared.outcome.Done.{Done as Finished}
use Rattle.secure_machine.specs.Plays.{CallsInPlay, InImage, InRun, LeavesInPlay, StoppedInPlay, CauseInPlay}
use Rattle.secure_machine.specs.Plays.{EndedInPlay, play_ending}
use Rattle.secure_machine.specs.declared.machine.Cause.TheVariants.{Ends as EndsBy, Stops as StopsBy}
use Rattle.secure_machine.specs.declared.machine.Cause.{Cause}
use Rattle.secure_machine.specs.declared.machine.Halted.{Halted}
use Rattle.secure_machine.specs.declared.report.Ending.{Ending}
use Rattle.oram_frontend.specs.declared.oram.Oram.{Oram}
use Rattle.rate_enforcer.specs.PortStep.{PortState}
use Rattle.secure_machine.specs.declared.report.Ending.TheVariants.{Exit, Trap, Budget, TimeUp}
use Rattle.rv32_core.specs.declared.outcome.Ended.{Ended}
use Rattle.rv32_core.specs.declared.outcome.Ended.TheVariants.{No, Exit as Exits, Trap as Traps}
use Rattle.rv32_core.specs.declared.outcome.TrapKind.{TrapKind}
use Rattle.secure_machine.specs.Refines.{IsForged}
use Rattle.secure_machine.specs.Finish.{HaltsBy}
use Rattle.secure_machine.specs.Runs.{Ready, HaltsOver}
use Rattle.secure_machine.specs.Same.{IsSameLines, timed_of, keys_in, oram_over}
use Rattle.secure_machine.specs.declared.lines.TimedLines.{TimedLines}
use Rattle.secure_machine.proofs.LineChains.{LinesStep, same_lines, same_then}
use Rattle.secure_machine.proofs.Refining.{keys_same, lines_in, at_parts, keys_by, forged_first}
use Rattle.secure_machine.proofs.ReportLaws.{config_lines}

-- a configuration's times are small
pub times_small : (config : Config) → IsConfig config → config.time + olat_of config.shape.levels ≤ 2 ^ 29
times_small config is = omega (arith, is.time.1, is.epoch.0, is.epoch.1)

-- the lines of an image are no fewer than their places
pub rising_place : (xs : List ℕ) (at : ℕ) → IsStrictlyIncreasing xs → at < length xs → at ≤ get_or xs at 0
rising_place xs zero rise below = omega arith
rising_place xs (suc at) rise below =
    let less : get_or xs at 0 < get_or xs (at + 1) 0 = rise at (omega (arith, below)) in
    let e : at + 1 ≡ suc at = omega arith in
    let next : get_or xs at 0 < get_or xs (suc at) 0 = subst (λ n. get_or xs at 0 < get_or xs n 0) e less in
    omega (arith, next, rising_place xs at rise (omega (arith, below)))

module _ {M W L : Type 0} (memory_of : M → MemoryState) (tap_of : W → TapState) (leaf_of : L → Point → ℕ)
    (levels_of : L → ℕ) where
  abbrev Lines : Type 0
  Lines = TimedLines M W L

  abbrev Step : Lines → LineRequest → Result (List ℕ) Stop → Lines → Type 0
  Step = LinesStep memory_of tap_of leaf_of levels_of

  abbrev timed : Lines → TimedState
  timed s = timed_of memory_of tap_of s

  abbrev levels : Lines → ℕ
  levels s = levels_of s.oram.now.port.leaves

  -- ---- one request, as one of lines with these keys
  step_timed : (s t : Lines) (request : LineRequest) (answer : Result (List ℕ) Stop) (keys : Keys) (n : ℕ)
      → keys_in leaf_of s ≡ keys → levels s ≡ n → keys.shape.lines ≡ s.count → Step s request answer t
      → TimedStep keys n keys.shape.lines (timed s) request answer (timed t)
  step_timed s t request answer keys n is at count h =
      subst (λ k. TimedStep keys n k (timed s) request answer (timed t)) (sym count)
      (subst (λ m. TimedStep keys m s.count (timed s) request answer (timed t)) at
      (subst (λ (z : Keys). TimedStep z (levels s) s.count (timed s) request answer (timed t)) is h.1))

  pub chain_timed : {B A : Type 0} (plan : Plan LineRequest (List ℕ) B A) (s t : Lines) (a : A) (keys : Keys) (n : ℕ)
      → keys_in leaf_of s ≡ keys → levels s ≡ n → keys.shape.lines ≡ s.count → Ends Step plan s t a
      → Ends (TimedStep keys n keys.shape.lines) plan (timed s) (timed t) a × IsSameLines s t
  chain_timed (Done x) s t a keys n is at count ends =
      ((ends.0, ap timed ends.1), subst (λ (u : Lines). IsSameLines s u) (sym ends.1) (same_lines s))
  chain_timed (Ask q b k) s t a keys n is at count (x, mid, one, rest) =
      let (calls, same) = chain_timed (k x) mid t a keys n
      (keys_same memory_of tap_of leaf_of levels_of s mid one.0 ∙ is)
      (ap levels_of one.0.leaves ∙ at) (count ∙ sym one.0.count) rest in
      ((x, timed mid, step_timed s mid q (Ok x) keys n is at count one, calls), same_then one.0 same)

  pub chain_timed_stops : {B A : Type 0} (plan : Plan LineRequest (List ℕ) B A) (s t : Lines) (stop : Stop) (left : B)
      (keys : Keys) (n : ℕ) → keys_in leaf_of s ≡ keys → levels s ≡ n → keys.shape.lines ≡ s.count
      → Stops Step plan s t stop left
      → Stops (TimedStep keys n keys.shape.lines) plan (timed s) (timed t) stop left × IsSameLines s t
  chain_timed_stops (Done x) s t stop left keys n is at count stops = absurd stops
  chain_timed_stops (Ask q b k) s t stop left keys n is at count (inl (one, leaves)) =
      (inl (step_timed s t q (Err stop) keys n is at count one, leaves), one.0)
  chain_timed_stops (Ask q b k) s t stop left keys n is at count (inr (x, mid, one, rest)) =
      let (calls, same) = chain_timed_stops (k x) mid t stop left keys n
      (keys_same memory_of tap_of leaf_of levels_of s mid one.0 ∙ is)
      (ap levels_of one.0.leaves ∙ at) (count ∙ sym one.0.count) rest in
      (inr (x, timed mid, step_timed s mid q (Ok x) keys n is at count one, calls), same_then one.0 same)

  -- ---- keys and levels stay
  pub at_same : (P : Keys → ℕ → Type 0) (s t : Lines) → IsSameLines s t → P (keys_in leaf_of s) (levels s)
      → P (keys_in leaf_of t) (levels t)
  at_same P s t same x =
      subst (λ n. P (keys_in leaf_of t) n) (sym (ap levels_of same.leaves))
      (subst (λ (z : Keys). P z (levels s)) (sym (keys_same memory_of tap_of leaf_of levels_of s t same)) x)

  -- cycles are spent
  pub record IsSpent (cost : ℕ) (t u : Lines) : Type 0 where
    pub same : IsSameLines t u
    pub memory : u.memory.now ≡ t.memory.now
    pub tap : u.tap.now ≡ t.tap.now
    pub oram : u.oram.now ≡ t.oram.now
    pub fetches : u.fetches ≡ t.fetches
    pub clock : u.clock ≡ min (t.clock + cost) (2 ^ 64 - 1)

  pub spent_to : (cost : ℕ) (t u : Lines) → IsSpent cost t u → t.clock + cost < 2 ^ 64 → timed u ≡ spent cost (timed t)
  spent_to cost t u x low =
      let clock : u.clock ≡ t.clock + cost = omega (arith, x.clock, low) in
      λ i. record {
        oram = oram_over memory_of tap_of (x.oram i) (x.memory i) (x.tap i);
        clock = clock i;
        fetches = x.fetches i;
      }

  -- a forgery is there after them too
  forged_spent : (cost : ℕ) (keys : Keys) (t u : Lines) → IsSpent cost t u
      → Forgery keys (timed t).oram.port.tap.log → Forgery keys (timed u).oram.port.tap.log
  forged_spent cost keys t u x forged = subst (λ (w : W). Forgery keys (tap_of w).log) (sym x.tap) forged

  -- so many lines at most
  lines_small : (s : Lines) → Ready memory_of tap_of levels_of s → s.count ≤ 2 ^ 18
  lines_small s ready =
      let is = ready.serving.serves.rests.stands.step.follows.is_of.is_config in
      omega (arith, config_lines s.oram.now.port.clock.config is, is.memory.size_to, ready.lines)

  -- so the clock stays small from image line to image line
  pub limit_small : (config : Config) (at line : ℕ) (marked : List ℕ) (s : Lines) → at < length marked
      → line ≡ get_or marked at line → IsStrictlyIncreasing marked → get_or marked at 0 < s.count
      → Ready memory_of tap_of levels_of s → IsConfig config
      → (config.time + olat_of config.shape.levels + at) + 1 < 2 ^ 64
  limit_small config at line marked s below is rise inside ready is_config =
      omega (arith, times_small config is_config, rising_place marked at rise below, inside, lines_small s ready)

  module _ (config : Config) (whole : Play) where
    -- the time of the settings is the port's
    in_time : {slots : List Slot} {now : Standing} (s : Lines)
        → PlaysAs (keys_in leaf_of s) (levels s) config slots now (timed s).oram
        → s.clock < s.oram.now.port.clock.config.time → s.clock < config.time
    in_time s plays early = subst (λ (c : Config). s.clock < c.time) plays.config_is early

    -- ---- an image line
    pub line_in_play : (limit line : ℕ) (memory : List ℕ) (machine : Machine) (marked : List ℕ) (value : Line)
        (cache after : Contents) (s t u : Lines) → AreKeys (keys_in leaf_of s)
        → CallsInPlay memory_of tap_of leaf_of levels_of config s → Ready memory_of tap_of levels_of s
        → line < s.count → length (value.0) ≡ 64 → value.0 ≡ line_in memory line
        → config.time + olat_of config.shape.levels ≤ limit → limit + 1 < 2 ^ 64
        → InImage memory_of tap_of leaf_of levels_of config whole limit memory machine (line ∷ marked) cache s
        → Ends Step (write_line_plan cache line value) s t after → IsSpent 1 t u
        → InImage memory_of tap_of leaf_of levels_of config whole (limit + 1) memory machine marked after u
    line_in_play limit line memory machine marked value cache after s t u lawful calls ready below long is far small
        known ends more =
        let keys = keys_in leaf_of s in
        let count = lines_in memory_of tap_of leaf_of levels_of s ready in
        let plan = write_line_plan cache line value in
        let (steps, same) = chain_timed plan s t after keys (levels s) refl refl count ends in
        let all = same_then same more.same in
        at_same (λ z n. Forgery z (timed u).oram.port.tap.log
        ⊎ (StandsInImage z n config whole memory machine marked after (timed u) × (u.clock ≤ limit + 1))) s u all
        (elim known [
          | inl forged ↦ inl (forged_spent 1 keys t u more (forged-ends keys lawful (levels s) plan (timed s) (timed t)
              after steps forged))
          | inr (stands, low) ↦ elim (line-stands keys lawful (levels s) config calls.request_plays whole memory machine
              line marked value cache after (timed s) (timed t) (omega (arith, below, count)) long is stands steps) [
                | inl forged ↦ inl (forged_spent 1 keys t u more forged)
                | inr (later, bound) ↦
                    (let high : t.clock ≤ limit = bound limit far low in
                    let small_clock : t.clock + 1 < 2 ^ 64 = omega (arith, high, small) in
                    inr (
                      subst (λ (z : TimedState).
                          StandsInImage keys (levels s) config whole memory machine marked after z)
                          (sym (spent_to 1 t u more small_clock)) later,
                      omega (arith, high, more.clock),
                    ))
              ]
        ])

    pub line_stopped : (limit line : ℕ) (memory : List ℕ) (machine : Machine) (marked : List ℕ) (value : Line)
        (cache left : Contents) (s t : Lines) (stop : Stop) → AreKeys (keys_in leaf_of s)
        → CallsInPlay memory_of tap_of leaf_of levels_of config s → Ready memory_of tap_of levels_of s
        → line < s.count → length (value.0) ≡ 64
        → InImage memory_of tap_of leaf_of levels_of config whole limit memory machine (line ∷ marked) cache s
        → Stops Step (write_line_plan cache line value) s t stop left
        → StoppedInPlay memory_of tap_of leaf_of levels_of config whole 0 s.clock stop t
    line_stopped limit line memory machine marked value cache left s t stop lawful calls ready below long known stops =
        let keys = keys_in leaf_of s in
        let count = lines_in memory_of tap_of leaf_of levels_of s ready in
        let plan = write_line_plan cache line value in
        let (steps, same) = chain_timed_stops plan s t stop left keys (levels s) refl refl count stops in
        let can : CanAsk (levels s) keys.shape.lines (timed s) =
        subst (λ n. CanAsk (levels s) n (timed s)) (sym count) ready in
        at_same (λ z n. Forgery z (timed t).oram.port.tap.log
        ⊎ StopShows n config whole (numbers_of 0 s.clock t.fetches) stop (timed t).oram.port) s t same
        (elim known [
          | inl forged ↦ inl (forged-stops keys lawful (levels s) plan (timed s) (timed t) stop left steps forged)
          | inr (stands, low) ↦ line-stop-shows keys lawful (levels s) config calls.request_plays calls.request_stops
              whole memory machine line marked value cache left (timed s) (timed t) stop (omega (arith, below, count))
              long can stands steps
        ])

    -- ---- an instruction
    pub instruction_in_play : (before left : ℕ) (machine : Machine) (cache after : Contents) (end : Machine × Finished)
        (s t u : Lines) → AreKeys (keys_in leaf_of s) → CallsInPlay memory_of tap_of leaf_of levels_of config s
        → IsConfig config → Ready memory_of tap_of levels_of s → IsCore machine.core
        → machine.core.size ≡ 64 * s.count → s.clock < s.oram.now.port.clock.config.time
        → InRun memory_of tap_of leaf_of levels_of config whole before (suc left) machine cache s
        → Ends Step (through (cache_access machine.core.base) (step_plan machine) cache) s t (after, end)
        → IsSpent (end.1).cost t u
        → LeavesInPlay memory_of tap_of leaf_of levels_of config whole before left s.clock (end.0) after (end.1).ended u
    instruction_in_play before left machine cache after end s t u lawful calls is_config ready is size early known ends
        more =
        let keys = keys_in leaf_of s in
        let count = lines_in memory_of tap_of leaf_of levels_of s ready in
        let plan = through (cache_access machine.core.base) (step_plan machine) cache in
        let (steps, same) = chain_timed plan s t (after, end) keys (levels s) refl refl count ends in
        let all = same_then same more.same in
        let long : machine.core.size ≡ 64 * keys.shape.lines = size ∙ ap (λ n. 64 * n) (sym count) in
        at_same (λ z n. Forgery z (timed u).oram.port.tap.log
        ⊎ InstructionLeaves z n config whole before left s.clock (end.0) after (timed u) (end.1).ended) s u all
        (elim known [
          | inl forged ↦ inl (forged_spent (end.1).cost keys t u more (forged-ends keys lawful (levels s) plan (timed s)
              (timed t) (after, end) steps forged))
          | inr stands ↦ elim (instruction-stands keys lawful (levels s) config calls.request_plays machine is long
              whole
              before left cache after (timed s) (timed t) end (in_time s stands.at.follows.plays early) stands steps) [
                | inl forged ↦ inl (forged_spent (end.1).cost keys t u more forged)
                | inr (later, bound, cheap) ↦
                    (let times = times_small config is_config in
                    let high : t.clock ≤ 2 ^ 29 =
                    bound (2 ^ 29) times (omega (arith, in_time s stands.at.follows.plays early, times)) in
                    let small : machine.core.size ≤ 2 ^ 24 = omega (arith, is.memory.size_to) in
                    let low : t.clock + (end.1).cost < 2 ^ 64 = omega (arith, high, cheap, small) in
                    inr (subst
                    (λ (z : TimedState). InstructionLeaves keys (levels s) config whole before left s.clock (end.0)
                    after z
                    (end.1).ended) (sym (spent_to (end.1).cost t u more low)) later))
              ]
        ])

    pub instruction_stopped : (before more : ℕ) (machine : Machine) (cache : Contents) (s t : Lines) (stop : Stop)
        (left : Contents × Machine) → AreKeys (keys_in leaf_of s)
        → CallsInPlay memory_of tap_of leaf_of levels_of config s → Ready memory_of tap_of levels_of s
        → IsCore machine.core → machine.core.size ≡ 64 * s.count → s.clock < s.oram.now.port.clock.config.time
        → InRun memory_of tap_of leaf_of levels_of config whole before (suc more) machine cache s
        → Stops Step (through (cache_access machine.core.base) (step_plan machine) cache) s t stop left
        → StoppedInPlay memory_of tap_of leaf_of levels_of config whole before s.clock stop t
    instruction_stopped before more machine cache s t stop left lawful calls ready is size early known stops =
        let keys = keys_in leaf_of s in
        let count = lines_in memory_of tap_of leaf_of levels_of s ready in
        let plan = through (cache_access machine.core.base) (step_plan machine) cache in
        let (steps, same) = chain_timed_stops plan s t stop left keys (levels s) refl refl count stops in
        let can : CanAsk (levels s) keys.shape.lines (timed s) =
        subst (λ n. CanAsk (levels s) n (timed s)) (sym count) ready in
        at_same (λ z n. Forgery z (timed t).oram.port.tap.log
        ⊎ StopShows n config whole (numbers_of before s.clock t.fetches) stop (timed t).oram.port) s t same
        (elim known [
          | inl forged ↦ inl (forged-stops keys lawful (levels s) plan (timed s) (timed t) stop left steps forged)
          | inr stands ↦ instruction-stop-shows keys lawful (levels s) config calls.request_plays machine is
              (size ∙ ap (λ n. 64 * n) (sym count)) calls.request_stops whole before more cache (timed s)
              (timed t) stop left (in_time s stands.at.follows.plays early) can stands steps
        ])

    -- ---- from image line to image line
    pub image_first : (limit more : ℕ) (memory : List ℕ) (machine : Machine) (marked : List ℕ) (cache : Contents)
        (s : Lines) → limit ≤ more
        → InImage memory_of tap_of leaf_of levels_of config whole limit memory machine marked cache s
        → InImage memory_of tap_of leaf_of levels_of config whole more memory machine marked cache s
    image_first limit more memory machine marked cache s less (inl forged) = inl forged
    image_first limit more memory machine marked cache s less (inr (stands, low)) = inr (
      stands,
      omega (
        arith,
        low,
        less,
      ),
    )

    -- the line at a place, and those behind it
    marked_at : (at line : ℕ) (marked : List ℕ) → at < length marked → line ≡ get_or marked at line
        → drop at marked ≡ line ∷ drop (at + 1) marked
    marked_at at line marked below is =
        let e : suc at ≡ at + 1 = omega arith in
        drop-cons marked at line below ∙ (ap (λ n. n ∷ drop (suc at) marked) (sym is) ∙ ap (λ n. line ∷ drop n marked)
        e)

    pub image_next : (at line : ℕ) (memory : List ℕ) (machine : Machine) (marked : List ℕ) (cache after : Contents)
        (s t : Lines) → at < length marked → line ≡ get_or marked at line → IsStrictlyIncreasing marked
        → get_or marked at 0 < s.count → Ready memory_of tap_of levels_of s → IsConfig config
        → ((limit : ℕ) → config.time + olat_of config.shape.levels ≤ limit → limit + 1 < 2 ^ 64
        → InImage memory_of tap_of leaf_of levels_of config whole limit memory machine (line ∷ drop (at + 1) marked)
        cache s
        → InImage memory_of tap_of leaf_of levels_of config whole (limit + 1) memory machine (drop (at + 1) marked)
        after t)
        → InImage memory_of tap_of leaf_of levels_of config whole (config.time + olat_of config.shape.levels + at)
        memory
        machine (drop at marked) cache s
        → InImage memory_of tap_of leaf_of levels_of config whole (config.time + olat_of config.shape.levels + (at + 1))
        memory machine (drop (at + 1) marked) after t
    image_next at line memory machine marked cache after s t below is rise inside ready is_config step known =
        let limit : ℕ = config.time + olat_of config.shape.levels + at in
        let e : limit + 1 ≡ config.time + olat_of config.shape.levels + (at + 1) = omega arith in
        subst (λ n. InImage memory_of tap_of leaf_of levels_of config whole n memory machine (drop (at + 1) marked)
        after t) e
        (step limit (omega arith) (limit_small config at line marked s below is rise inside ready is_config)
        (subst (λ l. InImage memory_of tap_of leaf_of levels_of config whole limit memory machine l cache s)
        (marked_at at line marked below is) known))

    pub image_stops : (at line : ℕ) (memory : List ℕ) (machine : Machine) (marked : List ℕ) (cache : Contents)
        (s t : Lines) (stop : Stop) → at < length marked → line ≡ get_or marked at line → IsStrictlyIncreasing marked
        → get_or marked at 0 < s.count → Ready memory_of tap_of levels_of s → IsConfig config
        → ((limit : ℕ) → config.time + olat_of config.shape.levels ≤ limit → limit + 1 < 2 ^ 64
        → InImage memory_of tap_of leaf_of levels_of config whole limit memory machine (line ∷ drop (at + 1) marked)
        cache s
        → StoppedInPlay memory_of tap_of leaf_of levels_of config whole 0 s.clock stop t)
        → InImage memory_of tap_of leaf_of levels_of config whole (config.time + olat_of config.shape.levels + at)
        memory
        machine (drop at marked) cache s
        → StoppedInPlay memory_of tap_of leaf_of levels_of config whole 0 s.clock stop t
    image_stops at line memory machine marked cache s t stop below is rise inside ready is_config step known =
        let limit : ℕ = config.time + olat_of config.shape.levels + at in
        step limit (omega arith) (limit_small config at line marked s below is rise inside ready is_config)
        (subst (λ l. InImage memory_of tap_of leaf_of levels_of config whole limit memory machine l cache s)
        (marked_at at line marked below is) known)

    pub image_all : (limit at : ℕ) (memory : List ℕ) (machine : Machine) (marked : List ℕ) (cache : Contents)
        (s : Lines) → at ≡ length marked
        → InImage memory_of tap_of leaf_of levels_of config whole limit memory machine (drop at marked) cache s
        → InRun memory_of tap_of leaf_of levels_of config whole 0 config.budget machine cache s
    image_all limit at memory machine marked cache s is (inl forged) = inl forged
    image_all limit at memory machine marked cache s is (inr (stands, low)) =
        inr (image-done (keys_in leaf_of s) (levels s) config whole memory machine cache (timed s)
        (subst (λ l. StandsInImage (keys_in leaf_of s) (levels s) config whole memory machine l cache (timed s))
        (ap (λ n. drop n marked) is ∙ drop-length marked) stands))

    -- ---- an instruction's end
    pub went_on : (before left clock : ℕ) (machine : Machine) (cache : Contents) (ended : Ended) (u : Lines)
        → ended ≡ No → LeavesInPlay memory_of tap_of leaf_of levels_of config whole before left clock machine cache
        ended u
        → InRun memory_of tap_of leaf_of levels_of config whole (before + 1) left machine cache u
    went_on before left clock machine cache ended u is leaves =
        subst (λ e. LeavesInPlay memory_of tap_of leaf_of levels_of config whole before left clock machine cache e u) is
        leaves

    pub exited : (before left clock : ℕ) (machine : Machine) (cache : Contents) (ended : Ended) (u : Lines)
        (status until time : ℕ) → ended ≡ Exits status → until ≡ min u.clock time
        → time ≡ u.oram.now.port.clock.config.time
        → LeavesInPlay memory_of tap_of leaf_of levels_of config whole before left clock machine cache ended u
        → CauseInPlay memory_of tap_of leaf_of levels_of config whole (before + 1) u.clock (EndsBy (Exit status) until)
        u
    exited before left clock machine cache ended u status until time is least same leaves =
        elim (subst (λ e. LeavesInPlay memory_of tap_of leaf_of levels_of config whole before left clock machine cache e
        u)
        is leaves) [
          | inl forged ↦ inl forged
          | inr x ↦
              (let e : min u.clock config.time ≡ until =
              ap (min u.clock) (sym (same ∙ ap (λ (c : Config). c.time) x.plays.config_is)) ∙ sym least in
              inr (subst (λ n. EndsIn (keys_in leaf_of u) (levels u) config whole (how.Exited status)
              (numbers_of (before + 1) u.clock u.fetches) n (timed u).oram) e x))
        ]

    pub trapped : (before left clock : ℕ) (machine : Machine) (cache : Contents) (ended : Ended) (u : Lines)
        (kind : TrapKind) (pc time : ℕ) → ended ≡ Traps kind pc → clock < time
        → time ≡ u.oram.now.port.clock.config.time
        → LeavesInPlay memory_of tap_of leaf_of levels_of config whole before left clock machine cache ended u
        → CauseInPlay memory_of tap_of leaf_of levels_of config whole before clock (EndsBy (Trap kind pc) clock) u
    trapped before left clock machine cache ended u kind pc time is early same leaves =
        elim (subst (λ e. LeavesInPlay memory_of tap_of leaf_of levels_of config whole before left clock machine cache e
        u)
        is leaves) [
          | inl forged ↦ inl forged
          | inr x ↦
              (let e : min clock config.time ≡ clock =
              omega (arith, early, same ∙ ap (λ (c : Config). c.time) x.plays.config_is) in
              inr (subst (λ n. EndsIn (keys_in leaf_of u) (levels u) config whole (how.Trapped kind pc)
              (numbers_of before clock u.fetches) n (timed u).oram) e x))
        ]

    -- ---- where none is begun
    pub no_time_left : (before left : ℕ) (machine : Machine) (cache : Contents) (s : Lines) (time : ℕ)
        → time ≡ s.oram.now.port.clock.config.time → time ≤ s.clock
        → InRun memory_of tap_of leaf_of levels_of config whole before (suc left) machine cache s
        → CauseInPlay memory_of tap_of leaf_of levels_of config whole before s.clock (EndsBy (TimeUp s.clock) time) s
    no_time_left before left machine cache s time same late (inl forged) = inl forged
    no_time_left before left machine cache s time same late (inr x) =
        let e : config.time ≡ time = sym (same ∙ ap (λ (c : Config). c.time) x.at.follows.plays.config_is) in
        inr (subst (λ n. EndsIn (keys_in leaf_of s) (levels s) config whole (how.TimeUp s.clock)
        (numbers_of before s.clock s.fetches) n (timed s).oram) e
        (time-ends (keys_in leaf_of s) (levels s) config whole before left machine cache (timed s)
        (omega (arith, late, e)) x))

    pub none_left : (before : ℕ) (machine : Machine) (cache : Contents) (s : Lines) (until time : ℕ)
        → time ≡ s.oram.now.port.clock.config.time → until ≡ min s.clock time
        → InRun memory_of tap_of leaf_of levels_of config whole before 0 machine cache s
        → CauseInPlay memory_of tap_of leaf_of levels_of config whole before s.clock (EndsBy Budget until) s
    none_left before machine cache s until time same least (inl forged) = inl forged
    none_left before machine cache s until time same least (inr x) =
        let e : min s.clock config.time ≡ until =
        ap (min s.clock) (sym (same ∙ ap (λ (c : Config). c.time) x.at.follows.plays.config_is)) ∙ sym least in
        inr (subst (λ n. EndsIn (keys_in leaf_of s) (levels s) config whole how.Budget
        (numbers_of before s.clock s.fetches) n (timed s).oram) e
        (budget-ends (keys_in leaf_of s) (levels s) config whole before machine cache (timed s) x))

    -- ---- the slots behind the last instruction
    pub wait_in_play : (ending : PlayEnding) (instructions cycles until : ℕ) (told : Told) (s t : Lines)
        → AreKeys (keys_in leaf_of s) → CallsInPlay memory_of tap_of leaf_of levels_of config s → IsSameLines s t
        → t.fetches ≡ s.fetches
        → IsForged memory_of tap_of leaf_of levels_of s
        ⊎ EndsIn (keys_in leaf_of s) (levels s) config whole ending (numbers_of instructions cycles s.fetches) until
        (timed s).oram
        → OramStep (keys_in leaf_of s) (levels s) (timed s).oram (Wait until) (Ok told) (timed t).oram
        → IsForged memory_of tap_of leaf_of levels_of t
        ⊎ RunShows (levels t) whole ending (numbers_of instructions cycles t.fetches) told.end
        (timed t).oram.port.tap.log
    wait_in_play ending instructions cycles until told s t lawful calls same counted known step =
        at_same (λ z n. Forgery z (timed t).oram.port.tap.log
        ⊎ RunShows n whole ending (numbers_of instructions cycles t.fetches) told.end (timed t).oram.port.tap.log) s t
        same
        (subst (λ f. Forgery (keys_in leaf_of s) (timed t).oram.port.tap.log
        ⊎ RunShows (levels s) whole ending (numbers_of instructions cycles f) told.end (timed t).oram.port.tap.log)
        (sym counted)
        (elim known [
          | inl forged ↦ inl (forgery_call (keys_in leaf_of s) lawful (levels s) (timed s).oram (timed t).oram (Wait
              until)
              told step forged)
          | inr x ↦ wait-shows (keys_in leaf_of s) (levels s) config calls.wait_plays whole ending
              (numbers_of instructions cycles s.fetches) until (timed s).oram (timed t).oram told x step
        ]))

    pub wait_stopped : (ending : PlayEnding) (instructions cycles until : ℕ) (stop : Stop) (s t : Lines)
        → AreKeys (keys_in leaf_of s) → CallsInPlay memory_of tap_of leaf_of levels_of config s → IsSameLines s t
        → t.fetches ≡ s.fetches → (timed s).oram.stop ≡ None
        → IsForged memory_of tap_of leaf_of levels_of s
        ⊎ EndsIn (keys_in leaf_of s) (levels s) config whole ending (numbers_of instructions cycles s.fetches) until
        (timed s).oram
        → OramStep (keys_in leaf_of s) (levels s) (timed s).oram (Wait until) (Err stop) (timed t).oram
        → StoppedInPlay memory_of tap_of leaf_of levels_of config whole instructions cycles stop t
    wait_stopped ending instructions cycles until stop s t lawful calls same counted going known step =
        at_same (λ z n. Forgery z (timed t).oram.port.tap.log
        ⊎ StopShows n config whole (numbers_of instructions cycles t.fetches) stop (timed t).oram.port) s t same
        (subst (λ f. Forgery (keys_in leaf_of s) (timed t).oram.port.tap.log
        ⊎ StopShows (levels s) config whole (numbers_of instructions cycles f) stop (timed t).oram.port)
        (sym counted)
        (elim known [
          | inl forged ↦ inl (forgery_stop (keys_in leaf_of s) lawful (levels s) (timed s).oram (timed t).oram (Wait
              until)
              stop step forged)
          | inr x ↦ wait-stop-shows (keys_in leaf_of s) (levels s) config calls.wait_stops whole ending
              (numbers_of instructions cycles s.fetches) until (timed s).oram (timed t).oram stop x going step
        ]))

    -- ---- a run's begin and its end
    pub begins : (memory : List ℕ) (machine : Machine) (marked : List ℕ) (cache : Contents) (s : Lines) (o : Oram L)
        (m : M) (w : W) → s.memory.now ≡ m → s.tap.now ≡ w → s.oram.now ≡ o → s.clock ≡ 0 → s.fetches ≡ 0
        → StandsInImage (keys_by memory_of tap_of leaf_of levels_of o) (levels_of o.port.leaves) config whole memory
        machine
        marked cache (record { oram = oram_over memory_of tap_of o m w; clock = 0; fetches = 0 })
        → InImage memory_of tap_of leaf_of levels_of config whole 0 memory machine marked cache s
    begins memory machine marked cache s o m w memory_is tap_is oram_is clock fetches stands = inr (
      at_parts memory_of tap_of leaf_of levels_of
          (λ (x : Oram L) (y : M) (z : W). StandsInImage (keys_by memory_of tap_of leaf_of levels_of x)
          (levels_of x.port.leaves) config whole memory machine marked cache
          (record { oram = oram_over memory_of tap_of x y z; clock = s.clock; fetches = s.fetches }))
          s o m w memory_is tap_is oram_is
          (subst (λ n. StandsInImage (keys_by memory_of tap_of leaf_of levels_of o) (levels_of o.port.leaves) config
          whole
          memory machine marked cache
          (record { oram = oram_over memory_of tap_of o m w; clock = n; fetches = s.fetches })) (sym clock)
          (subst (λ n. StandsInImage (keys_by memory_of tap_of leaf_of levels_of o) (levels_of o.port.leaves) config
          whole
          memory machine marked cache
          (record { oram = oram_over memory_of tap_of o m w; clock = 0; fetches = n })) (sym fetches) stands)),
      omega (arith, clock),
    )

    pub ended_first : (instructions cycles : ℕ) (ending : Ending) (last : ℕ) (s t : Lines) (o : Oram L)
        → s.oram.now ≡ o → IsSameLines s t
        → EndedInPlay memory_of tap_of leaf_of levels_of config whole instructions cycles ending last t
        → Forgery (keys_by memory_of tap_of leaf_of levels_of o) (tap_of t.tap.now).log
        ⊎ RunShows (levels_of o.port.leaves) whole (play_ending ending) (numbers_of instructions cycles t.fetches) last
        (tap_of t.tap.now).log
    ended_first instructions cycles ending last s t o is same (inl forged) =
        inl (forged_first memory_of tap_of leaf_of levels_of s t o is same forged)
    ended_first instructions cycles ending last s t o is same (inr shows) =
        inr (subst (λ n. RunShows n whole (play_ending ending) (numbers_of instructions cycles t.fetches) last
        (tap_of t.tap.now).log)
        (ap levels_of same.leaves ∙ ap (λ (x : Oram L). levels_of x.port.leaves) is) shows)

  -- the settings stay to the end
  settings_by : (budget n instructions cycles : ℕ) (cause : Cause) (old : PortState) (new : OramState)
      → HaltsBy budget n instructions cycles cause old new → new.port.clock.config ≡ old.clock.config
  settings_by budget n instructions cycles (EndsBy ending until) old new h = h.0.config
  settings_by budget n instructions cycles (StopsBy stop) old new h = h.0.config

  pub halts_config : (budget : ℕ) (halted : Halted) (s t : Lines) (o : Oram L) → s.oram.now ≡ o
      → HaltsOver memory_of tap_of leaf_of levels_of budget halted s t
      → t.oram.now.port.clock.config ≡ o.port.clock.config
  halts_config budget halted s t o is h =
      settings_by budget _ halted.instructions halted.cycles halted.cause (timed s).oram.port (timed t).oram h.halts
      ∙ ap (λ (x : Oram L). x.port.clock.config) is
