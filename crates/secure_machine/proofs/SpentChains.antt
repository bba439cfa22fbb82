-- The clock of chains of requests for lines is the costs and what was waited for slots, also where cycles are spent
-- behind them.
use Rattle.std.proofs.Common.{◌≡◌, ◌<◌, ◌≤◌, ◌+◌, ◌*◌, ◌^◌, ◌∙◌, ℕ, List, Result, length, get_or, max, refl, sym, ap}
use Rattle.std.proofs.Common.{subst, arith}
use Rattle.std.specs.List.Sorted.{IsStrictlyIncreasing}
use Rattle.asc_base.specs.Settings.{IsConfig}
use Rattle.asc_base.specs.TreeShape.{olat_of}
use Rattle.asc_base.specs.declared.block.Point.{Point}
use Rattle.asc_base.specs.declared.settings.Config.{Config}
use Rattle.asc_base.specs.declared.stop.Stop.{Stop}
use Rattle.asc_outside.specs.Memory.{MemoryState}
use Rattle.bus_watch.specs.Log.{TapState}
use Rattle.data_cache.specs.CacheLists.{Lines}
use Rattle.data_cache.specs.Cached.{cache_access, StandsAs}
use Rattle.data_cache.specs.Contents.{Contents}
use Rattle.data_cache.specs.Lines.{LineRequest}
use Rattle.oram_contents.specs.Entries.{Keys}
use Rattle.oram_frontend.specs.Slots.{FitKeys}
use Rattle.oram_frontend.specs.declared.oram.Oram.{Oram}
use Rattle.play_run.specs.Spent.{IsSpent, SpentAtStop}
use Rattle.play_run.specs.Timed.{TimedState, CanAsk}
use Rattle.play_run.proofs.SpentPlans.{cost-spent, plan-spent, plan-stops}
use Rattle.request_plan.specs.Plan.{Plan, Ends, Stops, through}
use Rattle.rv32_core.specs.Machine.{Machine, IsCore}
use Rattle.rv32_core.specs.StepPlan.{step_plan}
use Rattle.rv32_core.specs.declared.outcome.Done.{Done}
use Rattle.secure_machine.specs.Runs.{Ready}
use Rattle.secure_machine.specs.Same.{timed_of, keys_in}
use Rattle.secure_machine.specs.Spent.{ClockSpent, StopSpent}
use Rattle.secure_machine.specs.declared.lines.TimedLines.{TimedLines}
use Rattle.secure_machine.proofs.FedChains.{instruction_fed, alone}
use Rattle.secure_machine.proofs.FedLaws.{step_cheap}
use Rattle.secure_machine.proofs.LineChains.{LinesStep, chain_goes}
use Rattle.secure_machine.proofs.Playing.{IsSpent as Spends, chain_timed, chain_timed_stops, spent_to, times_small}
use Rattle.secure_machine.proofs.Playing.{limit_small}
use Rattle.secure_machine.proofs.Refining.{lines_in}

module _ {M W L : Type 0} (memory_of : M → MemoryState) (tap_of : W → TapState) (leaf_of : L → Point → ℕ)
    (levels_of : L → ℕ) where
  abbrev Timed : Type 0
  Timed = TimedLines M W L

  abbrev Step : Timed → LineRequest → Result (List ℕ) Stop → Timed → Type 0
  Step = LinesStep memory_of tap_of leaf_of levels_of

  abbrev timed : Timed → TimedState
  timed s = timed_of memory_of tap_of s

  abbrev Spent : Config → ℕ → ℕ → Timed → Type 0
  Spent = ClockSpent memory_of tap_of levels_of

  -- it can be asked for as many lines as its keys have
  can_ask : (levels : ℕ) (s : Timed) → levels_of s.oram.now.port.leaves ≡ levels → Ready memory_of tap_of levels_of s
      → CanAsk levels (keys_in leaf_of s).shape.lines (timed s)
  can_ask levels s are ready =
      subst (λ n. CanAsk levels n (timed s)) (sym (lines_in memory_of tap_of leaf_of levels_of s ready))
      (subst (λ n. CanAsk n s.count (timed s)) are ready)

  fits : (s : Timed) → FitKeys (keys_in leaf_of s) (timed s).oram.port
  fits s = record { shape = refl; pads = refl }

  module _ (config : Config) (levels costs : ℕ) where
    -- ---- requests
    chain_spent : {B A : Type 0} (plan : Plan LineRequest (List ℕ) B A) (s t : Timed) (a : A)
        → Ready memory_of tap_of levels_of s → Spent config levels costs s → Ends Step plan s t a
        → Spent config levels costs t × (s.clock ≤ t.clock)
        × (t.clock ≤ max s.clock (config.time + olat_of config.shape.levels))
    chain_spent plan s t a ready x ends =
        let keys : Keys = keys_in leaf_of s in
        let (steps, same) = chain_timed memory_of tap_of leaf_of levels_of plan s t a keys levels refl x.levels_are
        (lines_in memory_of tap_of leaf_of levels_of s ready) ends in
        let (spent, (later, soon)) = plan-spent keys levels keys.shape.lines plan costs (timed s) (timed t) a (fits s)
        (can_ask levels s x.levels_are ready) x.spent steps in
        let on = chain_goes memory_of tap_of leaf_of levels_of plan s t a ready ends in (
          record {
            config_is = on.goes.config ∙ x.config_is;
            levels_are = ap levels_of same.leaves ∙ x.levels_are;
            spent = spent;
          },
          later,
          subst (λ (c : Config). t.clock ≤ max s.clock (c.time + olat_of c.shape.levels)) x.config_is soon,
        )

    pub chain_stop_spent : {B A : Type 0} (plan : Plan LineRequest (List ℕ) B A) (s t : Timed) (stop : Stop) (left : B)
        → Ready memory_of tap_of levels_of s → Spent config levels costs s → Stops Step plan s t stop left
        → StopSpent memory_of tap_of levels_of config levels costs s.clock stop t
    chain_stop_spent plan s t stop left ready x stops =
        let keys : Keys = keys_in leaf_of s in
        let (steps, same) = chain_timed_stops memory_of tap_of leaf_of levels_of plan s t stop left keys levels refl
        x.levels_are (lines_in memory_of tap_of leaf_of levels_of s ready) stops in
        subst (λ (c : Config). SpentAtStop c levels costs s.clock stop (timed t).oram.port) x.config_is
        (plan-stops keys levels keys.shape.lines plan costs (timed s) (timed t) stop left (fits s)
        (can_ask levels s x.levels_are ready) x.spent steps)

    -- ---- and cycles behind them
    cycles_spent : (cost : ℕ) (t u : Timed) → t.clock + cost < 2 ^ 64
        → Spends memory_of tap_of leaf_of levels_of cost t u → Spent config levels costs t
        → Spent config levels (costs + cost) u
    cycles_spent cost t u low more x = record {
      config_is = ap (λ (o : Oram L). o.port.clock.config) more.oram ∙ x.config_is;
      levels_are = ap levels_of more.same.leaves ∙ x.levels_are;
      spent = subst (IsSpent levels (costs + cost))
          (sym (spent_to memory_of tap_of leaf_of levels_of cost t u more low))
          (cost-spent levels costs cost (timed t) x.spent);
    }

    pub chain_spends : {B A : Type 0} (plan : Plan LineRequest (List ℕ) B A) (limit cost : ℕ) (s t u : Timed) (a : A)
        → Ready memory_of tap_of levels_of s → s.clock ≤ limit → config.time + olat_of config.shape.levels ≤ limit
        → limit + cost < 2 ^ 64 → Spent config levels costs s → Ends Step plan s t a
        → Spends memory_of tap_of leaf_of levels_of cost t u
        → Spent config levels (costs + cost) u × (s.clock + cost ≤ u.clock) × (u.clock ≤ limit + cost)
    chain_spends plan limit cost s t u a ready low far small x ends more =
        let (now, later, soon) = chain_spent plan s t a ready x ends in
        let clock = more.clock in (
          cycles_spent cost t u (omega (arith, soon, low, far, small)) more now,
          omega (arith, later, clock, soon, low, far, small),
          omega (arith, clock, soon, low, far),
        )

  -- ---- an instruction
  pub instruction_spends : (config : Config) (levels costs ways : ℕ) (machine : Machine) (s t u : Timed)
      (cache after : Contents) (lists : Lines) (end : Machine × Done) → Ready memory_of tap_of levels_of s
      → IsCore machine.core → machine.core.size ≡ 64 * s.count → StandsAs s.count ways cache lists
      → s.clock < config.time → Spent config levels costs s
      → Ends Step (through (cache_access machine.core.base) (step_plan machine) cache) s t (after, end)
      → Spends memory_of tap_of leaf_of levels_of (end.1).cost t u
      → Spent config levels (costs + (end.1).cost) u × (s.clock + (end.1).cost ≤ u.clock)
  instruction_spends config levels costs ways machine s t u cache after lists end ready is size stands early x ends
      more =
      let (lines, now, noted, later, step) = instruction_fed memory_of tap_of leaf_of levels_of ways machine s t cache
      after lists end is size stands ends in
      let cheap = step_cheap ways machine _ _ (alone ways machine (end.0) lists now lines (end.1) step) in
      let small : machine.core.size ≤ 2 ^ 24 = (let to = is.memory.size_to in omega (arith, to)) in
      let is_config = subst IsConfig x.config_is ready.serving.serves.rests.stands.step.follows.is_of.is_config in
      let times = times_small config is_config in
      let (spent, onward, bound) = chain_spends config levels costs
      (through (cache_access machine.core.base) (step_plan machine) cache) (2 ^ 29) (end.1).cost s t u (after, end)
      ready (omega (arith, early, times)) times (omega (arith, cheap, small)) x ends more in
      (spent, onward)

  -- ---- an image line: the clock stays small
  pub image_limit : (config : Config) (levels costs at line : ℕ) (marked : List ℕ) (s : Timed) → at < length marked
      → line ≡ get_or marked at line → IsStrictlyIncreasing marked → get_or marked at 0 < s.count
      → Ready memory_of tap_of levels_of s → Spent config levels costs s
      → config.time + olat_of config.shape.levels + at + 1 < 2 ^ 64
  image_limit config levels costs at line marked s below is rise inside ready x =
      limit_small memory_of tap_of leaf_of levels_of config at line marked s below is rise inside ready
      (subst IsConfig x.config_is ready.serving.serves.rests.stands.step.follows.is_of.is_config)
