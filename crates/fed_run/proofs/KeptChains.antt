-- The laws of chains, of steps from where something holds that answers keep.
use Rattle.std.proofs.Common.{◌≡◌, ◌⊎◌, ℕ, ◌*◌, ◌<◌, List, [], ◌∷◌, ◌++◌, All, Ok, Err, Result, length, refl}
use Rattle.request_plan.specs.Plan.{Plan, through, Ends, Stops}
use Rattle.request_plan.specs.Laws.{AnswersKeep, Within, NotesAnswers, StopsUnnoted}
use Rattle.request_plan.proofs.Chains.{Ends-bind, Stops-bind}
use Rattle.request_plan.proofs.Keeps.{Ends-narrows, Stops-narrows}
use Rattle.rv32_core.specs.LineList.{WholeWrite}
use Rattle.rv32_core.specs.Machine.{Machine, IsCore}
use Rattle.rv32_core.specs.RunPlan.{RunEnd, run_plan}
use Rattle.rv32_core.specs.StepPlan.{step_plan}
use Rattle.rv32_core.specs.declared.outcome.Done.{Done}
use Rattle.data_cache.specs.Lines.{LineRequest, IsLineAnswer}
use Rattle.data_cache.specs.CacheLists.{Sets, Lines, sets_after, line_in}
use Rattle.data_cache.specs.Contents.{Contents, write_line_plan}
use Rattle.data_cache.specs.Cached.{cache_access, StandsAs}
use Rattle.fed_run.specs.Fed.{fed_step}
use Rattle.fed_run.specs.Answered.{line_source, AreLines, feed_of}
use Rattle.fed_run.specs.Whole.{cache_image, cache_run}
use Rattle.fed_run.specs.Fed.{NoneLeft, NotedLine}
use Rattle.fed_run.proofs.InstructionChains.{instruction-ends, instruction-stops}
use Rattle.fed_run.proofs.RunChains.{IsRun, IsStarvedRun, run-told, run-told-stop}
use Rattle.fed_run.proofs.WholeChains.{below-all, empty_cache, empty_lists, after_image, whole-ends, whole-stops}
use Rattle.fed_run.proofs.WholeChains.{image-ends, image-stops}

module _ {S E : Type 0} (step : S → LineRequest → Result (List ℕ) E → S → Type 0)
    (answers : (s t : S) (q : LineRequest) (bytes : List ℕ) → step s q (Ok bytes) t → IsLineAnswer q bytes)
    (holds : S → Type 0) (keeps : AnswersKeep step holds) (noted : S → List NotedLine)
    (notes : NotesAnswers (Within holds step) line_source noted) where
  kept-answers : (s t : S) (q : LineRequest) (bytes : List ℕ) → Within holds step s q (Ok bytes) t
      → IsLineAnswer q bytes
  kept-answers s t q bytes h = answers s t q bytes (h.1)

  pub kept-line : (count ways line : ℕ) (memory : List ℕ) → line < count → length memory ≡ 64 * count
      → (s t : S) (cache after : Contents) (sets : Sets) → holds s
      → StandsAs count ways cache (record { memory = memory; sets = sets })
      → Ends step (write_line_plan cache line (record { 0 = line_in memory line })) s t after
      → (noted t ≡ noted s) × holds t
      × StandsAs count ways after (record {
        memory = memory;
        sets = sets_after ways sets (record { line = line; kind = WholeWrite });
      })
  kept-line count ways line memory less size s t cache after sets start stands h =
      let asks : Plan LineRequest (List ℕ) Contents Contents =
      write_line_plan cache line (record { 0 = line_in memory line }) in
      let narrow = Ends-narrows step holds keeps asks s t after start h in
      let told = image-ends count ways memory size (Within holds step) noted notes kept-answers (line ∷ []) cache after
      (record { memory = memory; sets = sets }) s t (less, tt) (stands, refl)
      (Ends-bind (Within holds step) (λ (left : Contents). left) asks (cache_image memory []) s t t after after
      (narrow.0) (refl, refl)) in
      (told.0, narrow.1, (told.1).0)

  pub kept-line-stop : StopsUnnoted (Within holds step) noted → (count ways line : ℕ) (memory : List ℕ)
      → line < count → length memory ≡ 64 * count
      → (s t : S) (cache left : Contents) (sets : Sets) (stop : E) → holds s
      → StandsAs count ways cache (record { memory = memory; sets = sets })
      → Stops step (write_line_plan cache line (record { 0 = line_in memory line })) s t stop left
      → noted t ≡ noted s
  kept-line-stop same count ways line memory less size s t cache left sets stop start stands h =
      let asks : Plan LineRequest (List ℕ) Contents Contents =
      write_line_plan cache line (record { 0 = line_in memory line }) in
      image-stops count ways memory size (Within holds step) noted notes kept-answers same (line ∷ []) cache
      (record { memory = memory; sets = sets }) s t stop left (less, tt) (stands, refl)
      (Stops-bind (Within holds step) (λ (l : Contents). l) asks (cache_image memory []) s t stop left
      (Stops-narrows step holds keeps asks s t stop left start h))

  module _ (count ways : ℕ) (machine : Machine) (is : IsCore machine.core) (long : machine.core.size ≡ 64 * count) where
    pub kept-instruction : (s t : S) (cache after : Contents) (lists : Lines) (end : Machine × Done) → holds s
        → StandsAs count ways cache lists
        → Ends step (through (cache_access machine.core.base) (step_plan machine) cache) s t (after, end)
        → (lines : List NotedLine) × (now : Lines) × (noted t ≡ noted s ++ lines) × AreLines lines × holds t
        × StandsAs count ways after now
        × ((more : List NotedLine) → AreLines more
        → fed_step ways machine (feed_of lists (lines ++ more))
        ≡ Ok (record { machine = end.0; feed = feed_of now more; done = end.1 }))
    kept-instruction s t cache after lists end start stands h =
        let narrow = Ends-narrows step holds keeps
        (through (cache_access machine.core.base) (step_plan machine) cache) s t (after, end) start h in
        let told = instruction-ends count ways machine is long (Within holds step) noted notes kept-answers s t cache
        after lists.memory lists.sets end stands (narrow.0) in
        (told.0, told.1, told.2, told.3, narrow.1, told.4, told.5)

    pub kept-instruction-stop : StopsUnnoted (Within holds step) noted → (s t : S) (cache : Contents) (lists : Lines)
        (stop : E) (left : Contents × Machine) → holds s → StandsAs count ways cache lists
        → Stops step (through (cache_access machine.core.base) (step_plan machine) cache) s t stop left
        → (lines : List NotedLine) × (noted t ≡ noted s ++ lines) × AreLines lines
        × (fed_step ways machine (feed_of lists lines) ≡ Err NoneLeft)
    kept-instruction-stop same s t cache lists stop left start stands h =
        instruction-stops count ways machine is long (Within holds step) noted notes kept-answers same s t cache
        lists.memory lists.sets stop left stands
        (Stops-narrows step holds keeps (through (cache_access machine.core.base)
        (step_plan machine) cache) s t stop left
        start h)

    pub kept-run : (n : ℕ) (s t : S) (cache after : Contents) (lists : Lines) (end : RunEnd) → holds s
        → StandsAs count ways cache lists
        → Ends step (through (cache_access machine.core.base) (run_plan n 0 machine) cache) s t (after, end)
        → (lines : List NotedLine) × (now : Lines) × (noted t ≡ noted s ++ lines) × AreLines lines × holds t
        × StandsAs count ways after now × IsRun ways n machine lists lines now end.instructions end.machine end.ending
    kept-run n s t cache after lists end start stands h =
        let narrow = Ends-narrows step holds keeps
        (through (cache_access machine.core.base) (run_plan n 0 machine) cache) s t (after, end) start h in
        let told = run-told count ways n (Within holds step) kept-answers machine is long noted notes s t cache after
        lists end stands (narrow.0) in
        (told.0, told.1, told.2, told.3, narrow.1, told.4, told.5)

    pub kept-run-stop : StopsUnnoted (Within holds step) noted → (n : ℕ) (s t : S) (cache : Contents) (lists : Lines)
        (stop : E) (left : Contents × (ℕ × Machine)) → holds s → StandsAs count ways cache lists
        → Stops step (through (cache_access machine.core.base) (run_plan n 0 machine) cache) s t stop left
        → (lines : List NotedLine) × (noted t ≡ noted s ++ lines) × AreLines lines
        × IsStarvedRun ways n machine lists lines ((left.1).0) ((left.1).1)
    kept-run-stop same n s t cache lists stop left start stands h =
        run-told-stop count ways n (Within holds step) kept-answers machine is long noted notes same s t
        cache lists stop
        left stands
        (Stops-narrows step holds keeps (through (cache_access machine.core.base) (run_plan n 0 machine) cache) s t stop
        left start h)

    module _ (sets n : ℕ) (image marked : List ℕ) (some : 0 < sets) (room : 0 < ways)
        (all : All (λ line. line < count) marked) (size : length image ≡ 64 * count) where
      -- the lists after the image lines
      abbrev started : Lines
      started = after_image count ways image size marked (empty_lists sets image)

      pub kept-whole : (s t : S) (after : Contents) (end : RunEnd) → holds s
          → Ends step (cache_run image marked n machine (empty_cache sets ways)) s t (after, end)
          → (lines : List NotedLine) × (now : Lines) × (noted t ≡ noted s ++ lines) × AreLines lines × holds t
          × StandsAs count ways after now
          × IsRun ways n machine started lines now end.instructions end.machine end.ending
      kept-whole s t after end start h =
          let narrow = Ends-narrows step holds keeps (cache_run image marked n machine (empty_cache sets ways)) s t
          (after, end) start h in
          let told = whole-ends count ways sets n image marked machine some room (below-all count marked all) size is
          long (Within holds step) noted notes kept-answers s t after end (narrow.0) in
          (told.0, told.1, told.2, told.3, narrow.1, told.4, told.5)

      pub kept-whole-stop : StopsUnnoted (Within holds step) noted → (s t : S) (e : E) (left : Contents × (ℕ × Machine))
          → holds s → Stops step (cache_run image marked n machine (empty_cache sets ways)) s t e left
          → ((noted t ≡ noted s) × (left.1 ≡ (0, machine)))
          ⊎ ((lines : List NotedLine) × (noted t ≡ noted s ++ lines) × AreLines lines
          × IsStarvedRun ways n machine started lines ((left.1).0) ((left.1).1))
      kept-whole-stop same s t e left start h =
          whole-stops count ways sets n image marked machine some room (below-all count marked all) size is long
          (Within holds step) noted notes kept-answers same s t e left
          (Stops-narrows step holds keeps (cache_run image marked n machine (empty_cache sets ways)) s t e left start h)
