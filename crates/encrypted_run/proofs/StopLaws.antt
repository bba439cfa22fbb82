-- A run over an encrypted memory that is stopped: its finished instructions are the flat run's, or the log shows a
-- forgery.
use Rattle.std.proofs.Common.{◌≡◌, ◌<◌, ◌+◌, ◌*◌, ◌⊎◌, inl, inr, ℕ, zero, suc, List, Err, length}
use Rattle.std.proofs.Common.{All, replicate, refl, sym, ap, ◌∙◌, subst, arith}
use Rattle.request_plan.specs.Plan.{Plan, Done, Ask, Ends, Stops, through}
use Rattle.request_plan.proofs.Chains.{Stops-unbind}
use Rattle.request_plan.proofs.Keeps.{Ends-has}
use Rattle.asc_base.specs.Has.{Has}
use Rattle.asc_base.specs.Settings.{IsConfig}
use Rattle.asc_base.specs.declared.settings.Config.{Config}
use Rattle.asc_base.specs.declared.stop.Stop.{Stop}
use Rattle.oram_contents.specs.Counts.{zero_line}
use Rattle.oram_contents.specs.Entries.{Keys, AreKeys}
use Rattle.oram_contents.specs.Forgery.{Forgery}
use Rattle.oram_frontend.specs.Oram.{OramState, Fetch as OramFetch, Store as OramStore}
use Rattle.oram_lines.specs.Lines.{IsNew}
use Rattle.oram_lines.proofs.LineLaws.{forgery_stop}
use Rattle.rv32_core.specs.FlatMachine.{FlatStep, flat_step}
use Rattle.rv32_core.specs.FlatRun.{FlatRun, flat_run, run_from, finished_before}
use Rattle.rv32_core.specs.Machine.{Machine, IsCore}
use Rattle.rv32_core.specs.RunPlan.{MachineRun, after_instruction, run_plan}
use Rattle.rv32_core.specs.StepPlan.{step_plan}
use Rattle.rv32_core.specs.declared.outcome.Done.{Done as Finished}
use Rattle.rv32_core.specs.declared.outcome.Ended.{Ended}
use Rattle.rv32_core.specs.declared.outcome.Ended.TheVariants.{No, Exit, Trap}
use Rattle.rv32_core.proofs.FlatRunLaws.{flat_run-zero, flat_run-suc}
use Rattle.rv32_core.proofs.RunLaws.{run_plan-none, run_plan-next, step_plan-keeps}
use Rattle.data_cache.specs.Cached.{cache_access}
use Rattle.data_cache.specs.CacheLists.{line_in}
use Rattle.data_cache.specs.Contents.{Contents}
use Rattle.data_cache.specs.Lines.{LineRequest, Fetch, Store}
use Rattle.fed_run.specs.Whole.{cache_image, cache_run}
use Rattle.fed_run.proofs.Left.{step_left}
use Rattle.fed_run.proofs.RunChains.{stops-parts, outcomes-through}
use Rattle.encrypted_run.specs.Refined.{OramLine, Computes, IsPrefix, empty_cache}
use Rattle.encrypted_run.proofs.ImageLaws.{loaded_is}
use Rattle.encrypted_run.proofs.RefinedLaws.{forgery_line, instruction_refines}
use Rattle.encrypted_run.proofs.WholeLaws.{start_computes, image_refines}

module _ (keys : Keys) (lawful : AreKeys keys) (levels : ℕ) where
  -- a forgery stays over a request that is stopped, and over a plan
  line_stop : (old new : OramState) (request : LineRequest) (stop : Stop)
      → OramLine keys levels old request (Err stop) new → Forgery keys old.port.tap.log
      → Forgery keys new.port.tap.log
  line_stop old new (Fetch line) stop (below, asked, one) f =
      forgery_stop keys lawful levels old new (OramFetch asked line) stop one f
  line_stop old new (Store line value) stop (below, whole, asked, one) f =
      forgery_stop keys lawful levels old new (OramStore asked line (record { 0 = value })) stop one f

  pub plan_stop : {B A : Type 0} (plan : Plan LineRequest (List ℕ) B A) (old new : OramState) (stop : Stop) (left : B)
      → Stops (OramLine keys levels) plan old new stop left → Forgery keys old.port.tap.log
      → Forgery keys new.port.tap.log
  plan_stop (Done x) old new stop left stops f = absurd stops
  plan_stop (Ask q b k) old new stop left (inl one) f = line_stop old new q stop one.0 f
  plan_stop (Ask q b k) old new stop left (inr (x, mid, one, rest)) f =
      plan_stop (k x) mid new stop left rest (forgery_line keys lawful levels old mid q x one f)

  -- the flat run of an instruction more
  prefix_more : (k : ℕ) (machine next last : Machine) (memory now : List ℕ) (done : Finished)
      → flat_step machine memory ≡ record { machine = next; memory = now; done = done } → done.ended ≡ No
      → IsPrefix k next now last → IsPrefix (k + 1) machine memory last
  prefix_more k machine next last memory now done step going is = record {
    instructions = ap (λ (r : FlatRun). r.instructions) run ∙ (let e : 1 + (flat_run k next now).instructions
        ≡ k + 1 = omega (arith, is.instructions) in e);
    leaves = ap (λ (r : FlatRun). r.machine) run ∙ is.leaves;
    ending = ap (λ (r : FlatRun). r.ending) run ∙ is.ending;
  }
    where
      run : flat_run (k + 1) machine memory ≡ finished_before 1 (flat_run k next now)
      run = ap (λ n. flat_run n machine memory) (let e : k + 1 ≡ suc k = omega arith in e)
          ∙ (flat_run-suc k machine memory
          ∙ (ap (λ (s : FlatStep). run_from (flat_run k) s s.done.ended) step
          ∙ ap (run_from (flat_run k) (record { machine = next; memory = now; done = done })) going))

  -- so many instructions more finished, which are the flat run's, or the log shows a forgery
  abbrev pub Prefixed : ℕ → Machine → List ℕ → OramState → ℕ × Machine → Type 0
  Prefixed before machine memory new left = Forgery keys new.port.tap.log
      ⊎ ((k : ℕ) × (left.0 ≡ before + k) × IsPrefix k machine memory left.1)

  -- a run that is stopped behind its first instruction
  behind_first : (n before base : ℕ) (machine next : Machine) (done : Finished) (ended : Ended) (memory now : List ℕ)
      (mid new : OramState) (cache : Contents) (stop : Stop) (left : Contents × (ℕ × Machine)) → done.ended ≡ ended
      → flat_step machine memory ≡ record { machine = next; memory = now; done = done }
      → (Stops (OramLine keys levels) (through (cache_access base) (run_plan n (before + 1) next) cache) mid new stop
      left → Prefixed (before + 1) next now new left.1)
      → Stops (OramLine keys levels) (through (cache_access base)
      (after_instruction before (run_plan n (before + 1)) next ended) cache) mid new stop left
      → Prefixed before machine memory new left.1
  behind_first n before base machine next done No memory now mid new cache stop left going step go rest =
      elim (go rest) [
        | inl forged ↦ inl forged
        | inr (k, count, is_prefix) ↦ inr (
          k + 1,
          count ∙ (let e : (before + 1) + k ≡ before + (k + 1) = omega arith in e),
          prefix_more k machine next ((left.1).1) memory now done step going is_prefix,
        )
      ]
  behind_first n before base machine next done (Exit status) memory now mid new cache stop left going step go rest =
      absurd rest
  behind_first n before base machine next done (Trap kind pc) memory now mid new cache stop left going step go rest =
      absurd rest

  -- an instruction keeps what a core is
  kept : (base : ℕ) (machine : Machine) (old mid : OramState) (cache : Contents) (r : Contents × (Machine × Finished))
      → IsCore machine.core
      → Ends (OramLine keys levels) (through (cache_access base) (step_plan machine) cache) old mid r
      → IsCore (((r.1).0).core) × (((r.1).0).core.base ≡ machine.core.base)
      × (((r.1).0).core.size ≡ machine.core.size)
  kept base machine old mid cache r is one =
      Ends-has (OramLine keys levels) (λ (r : Contents × (Machine × Finished)). IsCore (((r.1).0).core)
      × (((r.1).0).core.base ≡ machine.core.base) × (((r.1).0).core.size ≡ machine.core.size))
      (through (cache_access base) (step_plan machine) cache)
      (outcomes-through (λ (e : Machine × Finished). IsCore ((e.0).core)
      × ((e.0).core.base ≡ machine.core.base) × ((e.0).core.size ≡ machine.core.size)) (cache_access base)
      (step_plan machine) cache (step_plan-keeps machine is)) old mid r one

  -- A run that is stopped.
  pub stop_refines : (n before base : ℕ) (machine : Machine) (memory : List ℕ) (old new : OramState) (cache : Contents)
      (stop : Stop) (left : Contents × (ℕ × Machine)) → IsCore machine.core → machine.core.base ≡ base
      → machine.core.size ≡ 64 * keys.shape.lines → Computes keys levels cache memory old
      → Stops (OramLine keys levels) (through (cache_access base) (run_plan n before machine) cache) old new stop left
      → Forgery keys new.port.tap.log
      ⊎ ((k : ℕ) × ((left.1).0 ≡ before + k) × IsPrefix k machine memory ((left.1).1))
  stop_refines zero before base machine memory old new cache stop left is at long x stops =
      absurd (subst (λ (p : MachineRun). Stops (OramLine keys levels) (through (cache_access base) p cache) old new stop
      left) (run_plan-none before machine) stops)
  stop_refines (suc n) before base machine memory old new cache stop left is at long x stops =
      let next : Machine × Finished → MachineRun =
      λ e. after_instruction before (run_plan n (before + 1)) (e.0) ((e.1).ended) in
      elim (stops-parts (OramLine keys levels) (cache_access base)
      (λ (l : Machine). (before, l)) (step_plan machine) next
      cache old new stop left (subst (λ (p : MachineRun). Stops (OramLine keys levels)
      (through (cache_access base) p cache) old new stop left) (run_plan-next n before machine) stops)) [
        | inl first ↦ inr (
          0,
          ap (λ (l : Contents × (ℕ × Machine)). (l.1).0) first.2 ∙ (let e : before ≡ before + 0 = omega arith in e),
          record {
            instructions = ap (λ (r : FlatRun). r.instructions) (flat_run-zero machine memory);
            leaves = ap (λ (r : FlatRun). r.machine) (flat_run-zero machine memory)
                ∙ sym (ap (λ (l : Contents × (ℕ × Machine)). (l.1).1) first.2
                ∙ step_left (OramLine keys levels) base machine cache old new stop first.0 first.1);
            ending = ap (λ (r : FlatRun). r.ending) (flat_run-zero machine memory);
          },
        )
        | inr (r, mid, one, rest) ↦ elim
            (instruction_refines keys lawful levels machine is long memory old mid cache r.0
            r.1 x
            (subst (λ b. Ends (OramLine keys levels) (through (cache_access b) (step_plan machine) cache) old mid r)
            (sym at) one)) [
              | inl forged ↦ inl (plan_stop (through (cache_access base) (next r.1) r.0) mid new stop left rest forged)
              | inr (now, step, y) ↦
                  (let (core, same_base, same_size) = kept base machine old mid cache r is one in
                  behind_first n before base machine ((r.1).0) ((r.1).1)
                  ((r.1).1).ended memory now mid new r.0 stop left refl
                  step (λ later. stop_refines n (before + 1) base ((r.1).0) now mid new r.0 stop left core
                  (same_base ∙ at)
                  (same_size ∙ long) y later) rest)
            ]
      ]

  -- A whole run that is stopped.
  pub whole_stop : (config : Config) (image marked : List ℕ) (machine : Machine) (sets ways n : ℕ) → IsConfig config
      → length image ≡ 64 * keys.shape.lines → All (λ line. line < keys.shape.lines) marked
      → ((k : ℕ) → k < keys.shape.lines → Has k marked ⊎ (line_in image k ≡ zero_line))
      → IsCore machine.core → machine.core.size ≡ 64 * keys.shape.lines → 0 < sets → 0 < ways
      → (old new : OramState) (stop : Stop) (left : Contents × (ℕ × Machine)) → IsNew keys config levels old
      → Stops (OramLine keys levels) (cache_run image marked n machine (empty_cache sets ways)) old new stop left
      → Forgery keys new.port.tap.log ⊎ IsPrefix ((left.1).0) machine image ((left.1).1)
  whole_stop config image marked machine sets ways n is_config long inside zeros is size some room old new stop left
      is_new stops =
      elim (Stops-unbind (OramLine keys levels) (λ (l : Contents). (l, (0, machine)))
      (cache_image image marked (empty_cache sets ways))
      (through (cache_access machine.core.base) (run_plan n 0 machine)) old new stop left stops) [
        | inl early ↦ inr (
            let same : left.1 ≡ (0, machine) = ap (λ (l : Contents × (ℕ × Machine)). l.1) early.2 in
            subst (λ (l : ℕ × Machine). IsPrefix l.0 machine image l.1) (sym same) (record {
              instructions = ap (λ (r : FlatRun). r.instructions) (flat_run-zero machine image);
              leaves = ap (λ (r : FlatRun). r.machine) (flat_run-zero machine image);
              ending = ap (λ (r : FlatRun). r.ending) (flat_run-zero machine image);
            }))
        | inr (cache, mid, one, rest) ↦ elim (image_refines keys lawful levels image marked long inside
            (replicate (64 * keys.shape.lines) 0) old mid (empty_cache sets ways) cache
            (start_computes keys lawful levels config old sets ways is_config is_new some room) one) [
              | inl forged ↦ inl (plan_stop (through (cache_access machine.core.base)
                  (run_plan n 0 machine) cache) mid new
                  stop left rest forged)
              | inr y ↦ elim (stop_refines n 0 machine.core.base machine image mid new cache stop left is refl size
                  (subst (λ m. Computes keys levels cache m mid)
                  (loaded_is image keys.shape.lines long marked inside zeros)
                  y) rest) [
                    | inl forged ↦ inl forged
                    | inr (k, count, is_prefix) ↦ inr (subst (λ (c : ℕ). IsPrefix c machine image ((left.1).1))
                        (let e : k ≡ (left.1).0 = omega (arith, count) in e) is_prefix)
                  ]
            ]
      ]
