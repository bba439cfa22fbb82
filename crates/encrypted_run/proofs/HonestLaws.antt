-- Where no reply was altered no plan over an encrypted memory is stopped by evidence; and where one is stopped no point
-- was drawn twice, or the log shows a forgery.
use Rattle.std.proofs.Common.{◌≡◌, ◌<◌, ◌⊎◌, inl, inr, ℕ, List, [], None, Ok, Err, get_or}
use Rattle.request_plan.specs.Plan.{Plan, Done, Ask, Stops, through}
use Rattle.asc_base.specs.Settings.{IsConfig}
use Rattle.asc_base.specs.declared.block.Line.{Line}
use Rattle.asc_base.specs.declared.settings.Config.{Config}
use Rattle.asc_base.specs.declared.stop.Evidence.{Evidence}
use Rattle.asc_base.specs.declared.stop.Stop.{Stop}
use Rattle.asc_base.specs.declared.stop.Stop.TheVariants.{Integrity}
use Rattle.oram_contents.specs.Entries.{Keys, AreKeys}
use Rattle.oram_contents.specs.Forgery.{Forgery}
use Rattle.oram_frontend.specs.Oram.{OramState, OramStep, Wait, Fetch as OramFetch, Store as OramStore}
use Rattle.oram_lines.specs.Lines.{IsNew}
use Rattle.oram_lines.specs.Standing.{DrawnOnce}
use Rattle.oram_lines.proofs.HonestLaws.{call_blameless, points_stop, serves_on}
use Rattle.oram_lines.proofs.HonestTriples.{unforged}
use Rattle.rv32_core.specs.Machine.{Machine}
use Rattle.rv32_core.specs.RunPlan.{run_plan}
use Rattle.rv32_core.specs.StepPlan.{step_plan}
use Rattle.data_cache.specs.Cached.{cache_access}
use Rattle.data_cache.specs.Contents.{Contents, write_line_plan}
use Rattle.data_cache.specs.Lines.{LineRequest, Fetch, Store}
use Rattle.fed_run.specs.Whole.{cache_run}
use Rattle.encrypted_run.specs.Refined.{OramLine, HoldsList, Computes, empty_cache}
use Rattle.encrypted_run.proofs.RefinedLaws.{step_holds}
use Rattle.encrypted_run.proofs.StopLaws.{plan_stop}
use Rattle.encrypted_run.proofs.WholeLaws.{start_computes}

module _ (keys : Keys) (lawful : AreKeys keys) (levels : ℕ) where
  -- it answered, and so can serve
  line_serves : (old new : OramState) (request : LineRequest) (bytes : List ℕ)
      → OramLine keys levels old request (Ok bytes) new → new.stop ≡ None
  line_serves old new (Fetch line) bytes (below, is_line, asked, end, one) =
      serves_on keys lawful levels old new (OramFetch asked line) _ one
  line_serves old new (Store line value) bytes (below, whole, none, asked, end, one) =
      serves_on keys lawful levels old new (OramStore asked line (record { 0 = value })) _ one

  -- one request
  line_blameless : (list : List (List ℕ)) (old new : OramState) (request : LineRequest) (evidence : Evidence)
      → HoldsList keys levels list old → old.stop ≡ None
      → OramLine keys levels old request (Err (Integrity evidence)) new → new.port.tap.log.altered ≡ [] → ⊥
  line_blameless list old new (Fetch line) evidence x serves (below, asked, one) none =
      call_blameless keys lawful levels (λ n. get_or list n []) old new (OramFetch asked line) evidence x.holds below
      serves one none
  line_blameless list old new (Store line value) evidence x serves (below, whole, asked, one) none =
      call_blameless keys lawful levels (λ n. get_or list n []) old new (OramStore asked line (record { 0 = value }))
      evidence x.holds (below, whole) serves one none

  -- a plan of requests
  pub plan_blameless : {B A : Type 0} (plan : Plan LineRequest (List ℕ) B A) (list : List (List ℕ))
      (old new : OramState)
      (evidence : Evidence) (left : B) → HoldsList keys levels list old → old.stop ≡ None
      → Stops (OramLine keys levels) plan old new (Integrity evidence) left → new.port.tap.log.altered ≡ [] → ⊥
  plan_blameless (Done x) list old new evidence left held serves stops none = stops
  plan_blameless (Ask q b k) list old new evidence left held serves (inl (one, is)) none =
      line_blameless list old new q evidence held serves one none
  plan_blameless (Ask q b k) list old new evidence left held serves (inr (x, mid, one, rest)) none =
      elim (step_holds keys lawful levels list old mid q x held one) [
        | inl forged ↦ unforged keys new.port.tap.log
            (plan_stop keys lawful levels (k x) mid new (Integrity evidence) left rest forged) none
        | inr (now, flat, holds) ↦ plan_blameless (k x) now mid new evidence left holds
            (line_serves old mid q x one) rest none
      ]

  -- where a request is stopped no point was drawn twice, or the log shows a forgery, and so of a plan of requests
  line_points : (list : List (List ℕ)) (old new : OramState) (request : LineRequest) (stop : Stop)
      → HoldsList keys levels list old → OramLine keys levels old request (Err stop) new
      → Forgery keys new.port.tap.log ⊎ DrawnOnce new.port.tap.log.events
  line_points list old new (Fetch line) stop x (below, asked, one) =
      points_stop keys lawful levels (λ n. get_or list n []) old new (OramFetch asked line) stop x.holds below one
  line_points list old new (Store line value) stop x (below, whole, asked, one) =
      points_stop keys lawful levels (λ n. get_or list n []) old new (OramStore asked line (record { 0 = value })) stop
      x.holds (below, whole) one

  pub plan_points : {B A : Type 0} (plan : Plan LineRequest (List ℕ) B A) (list : List (List ℕ))
      (old new : OramState) (stop : Stop) (left : B) → HoldsList keys levels list old
      → Stops (OramLine keys levels) plan old new stop left
      → Forgery keys new.port.tap.log ⊎ DrawnOnce new.port.tap.log.events
  plan_points (Done x) list old new stop left held stops = absurd stops
  plan_points (Ask q b k) list old new stop left held (inl (one, is)) = line_points list old new q stop held one
  plan_points (Ask q b k) list old new stop left held (inr (x, mid, one, rest)) =
      elim (step_holds keys lawful levels list old mid q x held one) [
        | inl forged ↦ inl (plan_stop keys lawful levels (k x) mid new stop left rest forged)
        | inr (now, flat, holds) ↦ plan_points (k x) now mid new stop left holds rest
      ]

  -- A line that is written whole, an instruction, and a run.
  pub line_clear : (line : ℕ) (value : Line) (memory : List ℕ) (old new : OramState) (cache left : Contents)
      (evidence : Evidence) → Computes keys levels cache memory old → old.stop ≡ None
      → Stops (OramLine keys levels) (write_line_plan cache line value) old new (Integrity evidence) left
      → new.port.tap.log.altered ≡ [] → ⊥
  line_clear line value memory old new cache left evidence x serves stops none =
      plan_blameless (write_line_plan cache line value) x.list old new evidence left x.held serves stops none

  pub instruction_clear : (machine : Machine) (base : ℕ) (memory : List ℕ) (old new : OramState) (cache : Contents)
      (left : Contents × Machine) (evidence : Evidence) → Computes keys levels cache memory old → old.stop ≡ None
      → Stops (OramLine keys levels) (through (cache_access base) (step_plan machine) cache) old new
      (Integrity evidence) left → new.port.tap.log.altered ≡ [] → ⊥
  instruction_clear machine base memory old new cache left evidence x serves stops none =
      plan_blameless (through (cache_access base) (step_plan machine) cache) x.list old new evidence left x.held serves
      stops none

  pub run_clear : (n before base : ℕ) (machine : Machine) (memory : List ℕ) (old new : OramState) (cache : Contents)
      (left : Contents × (ℕ × Machine)) (evidence : Evidence) → Computes keys levels cache memory old
      → old.stop ≡ None
      → Stops (OramLine keys levels) (through (cache_access base) (run_plan n before machine) cache) old new
      (Integrity evidence) left → new.port.tap.log.altered ≡ [] → ⊥
  run_clear n before base machine memory old new cache left evidence x serves stops none =
      plan_blameless (through (cache_access base) (run_plan n before machine) cache) x.list old new evidence left x.held
      serves stops none

  -- dummies up to a time
  pub wait_clear : (memory : List ℕ) (cache : Contents) (old new : OramState) (time : ℕ) (evidence : Evidence)
      → Computes keys levels cache memory old → old.stop ≡ None
      → OramStep keys levels old (Wait time) (Err (Integrity evidence)) new → new.port.tap.log.altered ≡ [] → ⊥
  wait_clear memory cache old new time evidence x serves one none =
      call_blameless keys lawful levels (λ n. get_or x.list n []) old new
      (Wait time) evidence x.held.holds tt serves one
      none

  -- A whole run.
  pub whole_clear : (config : Config) (image marked : List ℕ) (machine : Machine) (sets ways n : ℕ) → IsConfig config
      → 0 < sets → 0 < ways → (old new : OramState) (left : Contents × (ℕ × Machine)) (evidence : Evidence)
      → IsNew keys config levels old → old.stop ≡ None
      → Stops (OramLine keys levels) (cache_run image marked n machine (empty_cache sets ways)) old new
      (Integrity evidence) left → new.port.tap.log.altered ≡ [] → ⊥
  whole_clear config image marked machine sets ways n is_config some room old new left evidence is_new serves stops
      none =
      let x = start_computes keys lawful levels config old sets ways is_config is_new some room in
      plan_blameless (cache_run image marked n machine (empty_cache sets ways)) x.list old new evidence left x.held
      serves stops none
