-- A run of a core over a cache, by a chain of a store's steps, is that of the machine that is fed with the lines that
-- the store answered.
use Rattle.std.proofs.Common.{◌≡◌, ◌⊎◌, ℕ, zero, suc, ◌+◌, ◌*◌, List, [], ◌++◌, Ok, Err, Result, refl, sym, ap}
use Rattle.std.proofs.Common.{subst, inl, inr, arith, ◌∙◌, append_assoc, append-nil}
use Rattle.request_plan.specs.Plan.{Plan, Done as Outcome, Ask, bind, through, Ends, Stops, Outcomes}
use Rattle.request_plan.specs.Laws.{NotesAnswers, StopsUnnoted}
use Rattle.request_plan.proofs.Chains.{Ends-bind, Stops-bind, Stops-bind-next, Ends-unbind, Stops-unbind}
use Rattle.request_plan.proofs.Keeps.{Ends-has}
use Rattle.rv32_core.specs.FlatRun.{FlatEnding, Exited, Trapped, Budget}
use Rattle.rv32_core.specs.Machine.{Machine, IsCore}
use Rattle.rv32_core.specs.RunPlan.{RunEnd, MachineRun, after_instruction, run_plan}
use Rattle.rv32_core.specs.StepPlan.{step_plan}
use Rattle.rv32_core.specs.declared.outcome.Done.{Done}
use Rattle.rv32_core.specs.declared.outcome.Ended.{Ended}
use Rattle.rv32_core.specs.declared.outcome.Ended.TheVariants.{No, Exit, Trap}
use Rattle.rv32_core.proofs.RunLaws.{run_plan-none, run_plan-next, step_plan-keeps}
use Rattle.data_cache.specs.Lines.{LineRequest, IsLineAnswer}
use Rattle.data_cache.specs.CacheLists.{Lines}
use Rattle.data_cache.specs.Contents.{Contents}
use Rattle.data_cache.specs.Cached.{cache_access, StandsAs}
use Rattle.fed_run.specs.Fed.{fed_step, Ends as EndsAs, Starves, FedRun, one_before, fed_on, fed_from, fed_run}
use Rattle.fed_run.specs.Answered.{line_source, AreLines}
use Rattle.fed_run.specs.Fed.{NoneLeft, NotedLine}
use Rattle.fed_run.proofs.Feeds.{AreLines-append}
use Rattle.fed_run.proofs.HonestLaws.{fed_by, fed_run-zero, fed_run-suc}
use Rattle.fed_run.proofs.Left.{step_left}
use Rattle.fed_run.proofs.InstructionChains.{instruction-ends, instruction-stops}

-- ---- one plan after another, through a layer
module _ {S Q X P Y E H C : Type 0} (step : S → P → Result Y E → S → Type 0) (serve : H → Q → Plan P Y C (H × X)) where
  ends-parts : {B C' A D : Type 0} (put : B → C') (plan : Plan Q X B A) (next : A → Plan Q X C' D) (held : H)
      (s t : S) (d : H × D) → Ends step (through serve (bind put plan next) held) s t d
      → (r : H × A) × (m : S) × Ends step (through serve plan held) s m r
      × Ends step (through serve (next (r.1)) (r.0)) m t d
  ends-parts put (Outcome a) next held s t d h = ((held, a), s, (refl, refl), h)
  ends-parts put (Ask q b k) next held s t d h =
      let first = Ends-unbind step (λ c. (c, put b)) (serve held q)
      (λ r. through serve (bind put (k (r.1)) next) (r.0)) s t d h in
      let r = first.0 in
      let rest = ends-parts put (k (r.1)) next (r.0) (first.1) t d (first.3) in (
        rest.0,
        rest.1,
        Ends-bind step (λ c. (c, b)) (serve held q) (λ z. through serve (k (z.1)) (z.0)) s (first.1) (rest.1) r (rest.0)
            (first.2) (rest.2),
        rest.3,
      )

  pub stops-parts : {B C' A D : Type 0} (put : B → C') (plan : Plan Q X B A) (next : A → Plan Q X C' D) (held : H)
      (s t : S) (e : E) (left : C × C') → Stops step (through serve (bind put plan next) held) s t e left
      → ((l : C × B) × Stops step (through serve plan held) s t e l × (left ≡ (l.0, put (l.1))))
      ⊎ ((r : H × A) × (m : S) × Ends step (through serve plan held) s m r
      × Stops step (through serve (next (r.1)) (r.0)) m t e left)
  stops-parts put (Outcome a) next held s t e left h = inr ((held, a), s, (refl, refl), h)
  stops-parts {B} {C'} {A} {D} put (Ask q b k) next held s t e left h =
      elim (Stops-unbind step (λ c. (c, put b)) (serve held q)
      (λ r. through serve (bind put (k (r.1)) next) (r.0)) s t e
      left h) [
        | inl one ↦ inl (
          (one.0, b),
          Stops-bind step (λ c. (c, b)) (serve held q) (λ z. through serve (k (z.1)) (z.0)) s t e (one.0) (one.1),
          one.2,
        )
        | inr two ↦
            elim (stops-parts put (k ((two.0).1)) next ((two.0).0) (two.1) t e left (two.3)) [
              | inl one ↦ inl (
                one.0,
                Stops-bind-next step (λ c. (c, b)) (serve held q) (λ z. through serve (k (z.1)) (z.0)) s (two.1) t
                    (two.0) e (one.0) (two.2) (one.1),
                one.2,
              )
              | inr rest ↦ inr (
                rest.0,
                rest.1,
                Ends-bind step (λ c. (c, b)) (serve held q) (λ z. through serve (k (z.1)) (z.0)) s (two.1) (rest.1)
                    (two.0) (rest.0) (two.2) (rest.2),
                rest.3,
              )
            ]
      ]

-- what every outcome of a plan has, every outcome of it through a layer has
outcomes-second : {Q X B C A D : Type 0} (P : D → Type 0) (put : B → C) (p : Plan Q X B A) (next : A → Plan Q X C D)
    → ((a : A) → Outcomes P (next a)) → Outcomes P (bind put p next)
outcomes-second P put (Outcome a) next each = each a
outcomes-second P put (Ask q b k) next each = λ x. outcomes-second P put (k x) next each

pub outcomes-through : {Q X R Y C H B A : Type 0} (P : A → Type 0) (serve : H → Q → Plan R Y C (H × X))
    (plan : Plan Q X B A) (held : H) → Outcomes P plan → Outcomes (λ (r : H × A). P (r.1)) (through serve plan held)
outcomes-through P serve (Outcome a) held h = h
outcomes-through {Q} {X} {R} {Y} {C} {H} {B} {A} P serve (Ask q b k) held h =
    outcomes-second (λ (r : H × A). P (r.1)) (λ c. (c, b)) (serve held q) (λ z. through serve (k (z.1)) (z.0))
    (λ z. outcomes-through P serve (k (z.1)) (z.0) (h (z.1)))

-- ---- a run
-- a fed run of so many instructions that ends so
abbrev pub IsRun : ℕ → ℕ → Machine → Lines → List NotedLine → Lines → ℕ → Machine → FlatEnding → Type 0
IsRun ways n machine lists lines now k next ending =
    (more : List NotedLine) → AreLines more
    → fed_run ways n machine (fed_by lists.memory lists.sets (lines ++ more))
    ≡ record { instructions = k; machine = next; feed = fed_by now.memory now.sets more; ending = EndsAs ending }

-- a fed run that starves
abbrev pub IsStarvedRun : ℕ → ℕ → Machine → Lines → List NotedLine → ℕ → Machine → Type 0
IsStarvedRun ways n machine lists lines k next =
    let run = fed_run ways n machine (fed_by lists.memory lists.sets lines) in
    (run.instructions ≡ k) × (run.machine ≡ next) × (run.feed.left ≡ []) × (run.ending ≡ Starves)

module _ (count ways : ℕ) {S E : Type 0} (step : S → LineRequest → Result (List ℕ) E → S → Type 0)
    (noted : S → List NotedLine) (notes : NotesAnswers step line_source noted)
    (answers : (s t : S) (q : LineRequest) (bytes : List ℕ) → step s q (Ok bytes) t → IsLineAnswer q bytes) where
  -- what a run that ended tells
  abbrev RunTold : ℕ → Machine → Lines → ℕ → S → S → Contents → RunEnd → Type 0
  RunTold n machine lists before s t after end =
      (lines : List NotedLine) × (now : Lines) × (k : ℕ) × (noted t ≡ noted s ++ lines) × AreLines lines
      × StandsAs count ways after now × (end.instructions ≡ before + k)
      × IsRun ways n machine lists lines now k end.machine end.ending

  -- and one that was stopped
  abbrev StopTold : ℕ → Machine → Lines → ℕ → S → S → ℕ × Machine → Type 0
  StopTold n machine lists before s t left =
      (lines : List NotedLine) × (k : ℕ) × (noted t ≡ noted s ++ lines) × AreLines lines
      × (left.0 ≡ before + k) × IsStarvedRun ways n machine lists lines k (left.1)

  -- the first instruction of a run
  abbrev Step : Machine → Lines → List NotedLine → Lines → Machine → Done → Type 0
  Step machine lists lines now next done =
      (more : List NotedLine) → AreLines more
      → fed_step ways machine (fed_by lists.memory lists.sets (lines ++ more))
      ≡ Ok (record { machine = next; feed = fed_by now.memory now.sets more; done = done })

  run-on : (n : ℕ) (machine next : Machine) (done : Done) (lists now : Lines) (lines rest : List NotedLine)
      → Step machine lists lines now next done → AreLines rest
      → fed_run ways (suc n) machine (fed_by lists.memory lists.sets (lines ++ rest))
      ≡ fed_on (fed_run ways n) (record {
        machine = next;
        feed = fed_by now.memory now.sets rest;
        done = done;
      }) done.ended
  run-on n machine next done lists now lines rest first whole =
      fed_run-suc ways n machine (fed_by lists.memory lists.sets (lines ++ rest))
      ∙ ap (fed_from (fed_run ways n) machine (fed_by lists.memory lists.sets (lines ++ rest))) (first rest whole)

  run-on-append : (n : ℕ) (machine next : Machine) (done : Done) (lists now : Lines) (lines rest more : List NotedLine)
      → Step machine lists lines now next done → AreLines (rest ++ more)
      → fed_run ways (suc n) machine (fed_by lists.memory lists.sets ((lines ++ rest) ++ more))
      ≡ fed_on (fed_run ways n)
      (record { machine = next; feed = fed_by now.memory now.sets (rest ++ more); done = done })
      done.ended
  run-on-append n machine next done lists now lines rest more first whole =
      ap (λ l. fed_run ways (suc n) machine (fed_by lists.memory lists.sets l)) (append_assoc lines rest more)
      ∙ run-on n machine next done lists now lines (rest ++ more) first whole

  -- after the first instruction
  after-first : (n before : ℕ) (base : ℕ) (machine next : Machine) (done : Done) (ended : Ended) (lists now : Lines)
      (lines : List NotedLine) (s m t : S) (cache after : Contents) (end : RunEnd)
      → done.ended ≡ ended → (noted m ≡ noted s ++ lines) → AreLines lines → StandsAs count ways cache now
      → Step machine lists lines now next done
      → (Ends step (through (cache_access base) (run_plan n (before + 1) next) cache) m t (after, end)
      → RunTold n next now (before + 1) m t after end)
      → Ends step (through (cache_access base) (after_instruction before (run_plan n (before + 1)) next ended) cache) m
      t
      (after, end)
      → RunTold (suc n) machine lists before s t after end
  after-first n before base machine next done No lists now lines s m t cache after end is noted1 whole
      stands first go h =
      let rest = go h in (
        lines ++ rest.0,
        rest.1,
        1 + rest.2,
        rest.3 ∙ ap (λ l. l ++ rest.0) noted1 ∙ append_assoc (noted s) lines (rest.0),
        AreLines-append lines (rest.0) whole (rest.4),
        rest.5,
        rest.6 ∙ (let e : (before + 1) + rest.2 ≡ before + (1 + rest.2) = omega arith in e),
        λ more lines'. run-on-append n machine next done lists now lines (rest.0) more first
            (AreLines-append (rest.0) more (rest.4) lines')
            ∙ ap (λ z. fed_on (fed_run ways n) (record {
              machine = next;
              feed = fed_by now.memory now.sets (rest.0 ++ more);
              done = done;
            }) z) is
            ∙ ap one_before (rest.7 more lines'),
      )
  after-first n before base machine next done (Exit status) lists now lines s m t cache after end is noted1 whole stands
      first go h =
      let same : end ≡ record { instructions = before + 1; machine = next; ending = Exited status } =
      ap (λ (z : Contents × RunEnd). z.1) h.0 in (
        lines,
        now,
        1,
        ap noted h.1 ∙ noted1,
        whole,
        subst (λ z. StandsAs count ways z now) (sym (ap (λ (z : Contents × RunEnd). z.0) h.0)) stands,
        ap (λ (z : RunEnd). z.instructions) same,
        λ more lines'. run-on n machine next done lists now lines more first lines'
            ∙ ap (λ z. fed_on (fed_run ways n) (record {
              machine = next;
              feed = fed_by now.memory now.sets more;
              done = done;
            }) z) is
            ∙ ap (λ (z : RunEnd). let r : FedRun = record {
              instructions = 1;
              machine = z.machine;
              feed = fed_by now.memory now.sets more;
              ending = EndsAs z.ending;
            } in r) (sym same),
      )
  after-first n before base machine next done (Trap kind pc) lists now lines s m t cache after end is
      noted1 whole stands
      first go h =
      let same : end ≡ record { instructions = before; machine = next; ending = Trapped kind pc } =
      ap (λ (z : Contents × RunEnd). z.1) h.0 in (
        lines,
        now,
        0,
        ap noted h.1 ∙ noted1,
        whole,
        subst (λ z. StandsAs count ways z now) (sym (ap (λ (z : Contents × RunEnd). z.0) h.0)) stands,
        ap (λ (z : RunEnd). z.instructions) same ∙ (let e : before ≡ before + 0 = omega arith in e),
        λ more lines'. run-on n machine next done lists now lines more first lines'
            ∙ ap (λ z. fed_on (fed_run ways n) (record {
              machine = next;
              feed = fed_by now.memory now.sets more;
              done = done;
            }) z) is
            ∙ ap (λ (z : RunEnd). let r : FedRun = record {
              instructions = 0;
              machine = z.machine;
              feed = fed_by now.memory now.sets more;
              ending = EndsAs z.ending;
            } in r) (sym same),
      )

  pub run-ends : (n before base : ℕ) (machine : Machine) (lists : Lines) (s t : S)
      (cache after : Contents) (end : RunEnd)
      → IsCore machine.core → machine.core.base ≡ base → machine.core.size ≡ 64 * count
      → StandsAs count ways cache lists
      → Ends step (through (cache_access base) (run_plan n before machine) cache) s t (after, end)
      → RunTold n machine lists before s t after end
  run-ends zero before base machine lists s t cache after end is at long stands h =
      let over : MachineRun = Outcome (record { instructions = before; machine = machine; ending = Budget }) in
      let g : Ends step (through (cache_access base) over cache) s t (after, end) =
      subst (λ (p : MachineRun). Ends step (through (cache_access base) p cache) s t (after, end))
      (run_plan-none before machine) h in
      let same : end ≡ record { instructions = before; machine = machine; ending = Budget } =
      ap (λ (z : Contents × RunEnd). z.1) g.0 in (
        [],
        lists,
        0,
        ap noted g.1 ∙ sym (append-nil (noted s)),
        tt,
        subst (λ z. StandsAs count ways z lists) (sym (ap (λ (z : Contents × RunEnd). z.0) g.0)) stands,
        ap (λ (z : RunEnd). z.instructions) same ∙ (let e : before ≡ before + 0 = omega arith in e),
        λ more lines'. fed_run-zero ways machine (fed_by lists.memory lists.sets more)
            ∙ ap (λ (z : RunEnd). let r : FedRun = record {
              instructions = 0;
              machine = z.machine;
              feed = fed_by lists.memory lists.sets more;
              ending = EndsAs z.ending;
            } in r) (sym same),
      )
  run-ends (suc n) before base machine lists s t cache after end is at long stands h =
      let next : Machine × Done → MachineRun =
      λ e. after_instruction before (run_plan n (before + 1)) (e.0) ((e.1).ended) in
      let parts = ends-parts step (cache_access base) (λ (left : Machine). (before, left))
      (step_plan machine) next cache
      s t (after, end)
      (subst (λ (p : MachineRun). Ends step (through (cache_access base) p cache) s t (after, end))
      (run_plan-next n before machine) h) in
      let cache' : Contents = (parts.0).0 in
      let machine' : Machine = ((parts.0).1).0 in
      let done : Done = ((parts.0).1).1 in
      let own : Ends step (through (cache_access machine.core.base) (step_plan machine) cache) s (parts.1)
      (cache', ((parts.0).1)) =
      subst (λ b. Ends step (through (cache_access b) (step_plan machine) cache) s (parts.1) (parts.0))
      (sym at) (parts.2) in
      let keeps = Ends-has step (λ (r : Contents × (Machine × Done)). IsCore (((r.1).0).core)
      × (((r.1).0).core.base ≡ machine.core.base) × (((r.1).0).core.size ≡ machine.core.size))
      (through (cache_access base) (step_plan machine) cache)
      (outcomes-through (λ (e : Machine × Done). IsCore ((e.0).core)
      × ((e.0).core.base ≡ machine.core.base) × ((e.0).core.size ≡ machine.core.size)) (cache_access base)
      (step_plan machine) cache (step_plan-keeps machine is)) s (parts.1) (parts.0) (parts.2) in
      let first = instruction-ends count ways machine is long step noted notes answers s (parts.1) cache cache'
      lists.memory lists.sets ((parts.0).1) stands own in
      after-first n before base machine machine' done done.ended lists (first.1) (first.0) s
      (parts.1) t cache' after end
      refl (first.2) (first.3) (first.4) (first.5)
      (λ rest. run-ends n (before + 1) base machine' (first.1) (parts.1) t cache' after end (keeps.0) (keeps.1 ∙ at)
      (keeps.2 ∙ long) (first.4) rest)
      (parts.3)

  -- a run that is stopped behind its first instruction
  stops-after : (n before base : ℕ) (machine next : Machine) (done : Done) (ended : Ended) (lists now : Lines)
      (lines : List NotedLine) (s m t : S) (cache : Contents) (stop : E) (left : Contents × (ℕ × Machine))
      → done.ended ≡ ended → (noted m ≡ noted s ++ lines) → AreLines lines
      → Step machine lists lines now next done
      → (Stops step (through (cache_access base) (run_plan n (before + 1) next) cache) m t stop left
      → StopTold n next now (before + 1) m t (left.1))
      → Stops step (through (cache_access base) (after_instruction before (run_plan n (before + 1)) next ended) cache) m
      t
      stop left
      → StopTold (suc n) machine lists before s t (left.1)
  stops-after n before base machine next done No lists now lines s m t cache stop left is noted1 whole first go h =
      let rest = go h in
      let run : fed_run ways (suc n) machine (fed_by lists.memory lists.sets (lines ++ rest.0))
      ≡ one_before (fed_run ways n next (fed_by now.memory now.sets (rest.0))) =
      run-on n machine next done lists now lines (rest.0) first (rest.3)
      ∙ ap (λ z. fed_on (fed_run ways n) (record {
        machine = next;
        feed = fed_by now.memory now.sets (rest.0);
        done = done;
      }) z) is in (
        lines ++ rest.0,
        1 + rest.1,
        rest.2 ∙ ap (λ l. l ++ rest.0) noted1 ∙ append_assoc (noted s) lines (rest.0),
        AreLines-append lines (rest.0) whole (rest.3),
        rest.4 ∙ (let e : (before + 1) + rest.1 ≡ before + (1 + rest.1) = omega arith in e),
        (
          ap (λ (z : FedRun). z.instructions) run ∙ ap (λ k. 1 + k) (rest.5.0),
          ap (λ (z : FedRun). z.machine) run ∙ rest.5.1,
          ap (λ (z : FedRun). z.feed.left) run ∙ rest.5.2,
          ap (λ (z : FedRun). z.ending) run ∙ rest.5.3,
        ),
      )
  stops-after n before base machine next done (Exit status) lists now lines s m t cache stop left is noted1 whole first
      go h = absurd h
  stops-after n before base machine next done (Trap kind pc) lists now lines s m t cache stop left is noted1 whole first
      go h = absurd h

  -- a run that is stopped in its first instruction
  stops-first : (n before : ℕ) (machine : Machine) (lists : Lines) (lines : List NotedLine) (s t : S)
      (left : ℕ × Machine) → left ≡ (before, machine) → (noted t ≡ noted s ++ lines) → AreLines lines
      → fed_step ways machine (fed_by lists.memory lists.sets lines) ≡ Err NoneLeft
      → StopTold (suc n) machine lists before s t left
  stops-first n before machine lists lines s t left is noted1 whole none =
      let run = fed_run-suc ways n machine (fed_by lists.memory lists.sets lines)
      ∙ ap (fed_from (fed_run ways n) machine (fed_by lists.memory lists.sets lines)) none in (
        lines,
        0,
        noted1,
        whole,
        ap (λ (z : ℕ × Machine). z.0) is ∙ (let e : before ≡ before + 0 = omega arith in e),
        (
          ap (λ (z : FedRun). z.instructions) run,
          ap (λ (z : FedRun). z.machine) run ∙ sym (ap (λ (z : ℕ × Machine). z.1) is),
          ap (λ (z : FedRun). z.feed.left) run,
          ap (λ (z : FedRun). z.ending) run,
        ),
      )

  pub run-stops : StopsUnnoted step noted → (n before base : ℕ) (machine : Machine) (lists : Lines) (s t : S)
      (cache : Contents) (stop : E) (left : Contents × (ℕ × Machine))
      → IsCore machine.core → machine.core.base ≡ base → machine.core.size ≡ 64 * count
      → StandsAs count ways cache lists
      → Stops step (through (cache_access base) (run_plan n before machine) cache) s t stop left
      → StopTold n machine lists before s t (left.1)
  run-stops same zero before base machine lists s t cache stop left is at long stands h =
      absurd (subst (λ (p : MachineRun). Stops step (through (cache_access base) p cache) s t stop left)
      (run_plan-none before machine) h)
  run-stops same (suc n) before base machine lists s t cache stop left is at long stands h =
      let next : Machine × Done → MachineRun =
      λ e. after_instruction before (run_plan n (before + 1)) (e.0) ((e.1).ended) in
      elim (stops-parts step (cache_access base) (λ (left : Machine). (before, left)) (step_plan machine) next cache
      s t stop left
      (subst (λ (p : MachineRun). Stops step (through (cache_access base) p cache) s t stop left)
      (run_plan-next n before machine) h)) [
        | inl one ↦
            let own : Stops step (through (cache_access machine.core.base) (step_plan machine) cache) s t stop (one.0) =
            subst (λ b. Stops step (through (cache_access b) (step_plan machine) cache) s t stop (one.0)) (sym at)
            (one.1) in
            let told = instruction-stops count ways machine is long step noted notes answers same s t cache lists.memory
            lists.sets stop (one.0) stands own in
            stops-first n before machine lists (told.0) s t (left.1)
            (ap (λ (z : Contents × (ℕ × Machine)). z.1) (one.2)
            ∙ ap (λ (z : Machine). let l : ℕ × Machine = (before, z) in l)
            (step_left step base machine cache s t stop (one.0) (one.1)))
            (told.1) (told.2) (told.3)
        | inr parts ↦
            let cache' : Contents = (parts.0).0 in
            let machine' : Machine = ((parts.0).1).0 in
            let done : Done = ((parts.0).1).1 in
            let own : Ends step (through (cache_access machine.core.base) (step_plan machine) cache) s (parts.1)
            (cache', ((parts.0).1)) =
            subst (λ b. Ends step (through (cache_access b) (step_plan machine) cache) s (parts.1) (parts.0)) (sym at)
            (parts.2) in
            let keeps = Ends-has step (λ (r : Contents × (Machine × Done)). IsCore (((r.1).0).core)
            × (((r.1).0).core.base ≡ machine.core.base) × (((r.1).0).core.size ≡ machine.core.size))
            (through (cache_access base) (step_plan machine) cache)
            (outcomes-through (λ (e : Machine × Done). IsCore ((e.0).core)
            × ((e.0).core.base ≡ machine.core.base) × ((e.0).core.size ≡ machine.core.size)) (cache_access base)
            (step_plan machine) cache (step_plan-keeps machine is)) s (parts.1) (parts.0) (parts.2) in
            let first = instruction-ends count ways machine is long step noted notes answers s (parts.1) cache cache'
            lists.memory lists.sets ((parts.0).1) stands own in
            stops-after n before base machine machine' done done.ended lists (first.1) (first.0) s
            (parts.1) t cache' stop
            left refl (first.2) (first.3) (first.5)
            (λ rest. run-stops same n (before + 1) base machine' (first.1) (parts.1) t cache' stop left (keeps.0)
            (keeps.1 ∙ at) (keeps.2 ∙ long) (first.4) rest)
            (parts.3)
      ]

-- ---- the laws
-- a run before which none finished
pub run-told : (count ways n : ℕ) {S E : Type 0} (step : S → LineRequest → Result (List ℕ) E → S → Type 0)
    (answers : (s t : S) (q : LineRequest) (bytes : List ℕ) → step s q (Ok bytes) t → IsLineAnswer q bytes)
    (machine : Machine) (is : IsCore machine.core) (long : machine.core.size ≡ 64 * count)
    (noted : S → List NotedLine) (notes : NotesAnswers step line_source noted)
    (s t : S) (cache after : Contents) (lists : Lines) (end : RunEnd) → StandsAs count ways cache lists
    → Ends step (through (cache_access machine.core.base) (run_plan n 0 machine) cache) s t (after, end)
    → (lines : List NotedLine) × (now : Lines) × (noted t ≡ noted s ++ lines) × AreLines lines
    × StandsAs count ways after now × IsRun ways n machine lists lines now end.instructions end.machine end.ending
run-told count ways n step answers machine is long noted notes s t cache after lists end stands h =
    let told = run-ends count ways step noted notes answers n 0 machine.core.base machine lists s t cache after end is
    refl long stands h in
    let all : end.instructions ≡ told.2 = told.6 ∙ (let e : 0 + told.2 ≡ told.2 = omega arith in e) in (
      told.0,
      told.1,
      told.3,
      told.4,
      told.5,
      subst (λ k. IsRun ways n machine lists (told.0) (told.1) k end.machine end.ending) (sym all) (told.7),
    )

pub run-told-stop : (count ways n : ℕ) {S E : Type 0} (step : S → LineRequest → Result (List ℕ) E → S → Type 0)
    (answers : (s t : S) (q : LineRequest) (bytes : List ℕ) → step s q (Ok bytes) t → IsLineAnswer q bytes)
    (machine : Machine) (is : IsCore machine.core) (long : machine.core.size ≡ 64 * count)
    (noted : S → List NotedLine) (notes : NotesAnswers step line_source noted) (same : StopsUnnoted step noted)
    (s t : S) (cache : Contents) (lists : Lines) (stop : E) (left : Contents × (ℕ × Machine))
    → StandsAs count ways cache lists
    → Stops step (through (cache_access machine.core.base) (run_plan n 0 machine) cache) s t stop left
    → (lines : List NotedLine) × (noted t ≡ noted s ++ lines) × AreLines lines
    × IsStarvedRun ways n machine lists lines ((left.1).0) ((left.1).1)
run-told-stop count ways n step answers machine is long noted notes same s t cache lists stop left stands h =
    let told = run-stops count ways step noted notes answers same n 0 machine.core.base machine lists s
    t cache stop left
    is refl long stands h in
    let all : (left.1).0 ≡ told.1 = told.4 ∙ (let e : 0 + told.1 ≡ told.1 = omega arith in e) in (
      told.0,
      told.2,
      told.3,
      subst (λ k. IsStarvedRun ways n machine lists (told.0) k ((left.1).1)) (sym all) (told.5),
    )

-- Whatever is answered, the core after an instruction is one of the same memory.
pub instruction-keeps : {S E : Type 0} (step : S → LineRequest → Result (List ℕ) E → S → Type 0) (base : ℕ)
    (machine : Machine) → IsCore machine.core → (s t : S) (cache after : Contents) (end : Machine × Done)
    → Ends step (through (cache_access base) (step_plan machine) cache) s t (after, end)
    → IsCore ((end.0).core)
    × ((end.0).core.base ≡ machine.core.base) × ((end.0).core.size ≡ machine.core.size)
instruction-keeps step base machine is s t cache after end h =
    Ends-has step (λ (r : Contents × (Machine × Done)). IsCore (((r.1).0).core)
    × (((r.1).0).core.base ≡ machine.core.base) × (((r.1).0).core.size ≡ machine.core.size))
    (through (cache_access base) (step_plan machine) cache)
    (outcomes-through (λ (e : Machine × Done). IsCore ((e.0).core)
    × ((e.0).core.base ≡ machine.core.base) × ((e.0).core.size ≡ machine.core.size)) (cache_access base)
    (step_plan machine) cache (step_plan-keeps machine is)) s t (after, end) h
