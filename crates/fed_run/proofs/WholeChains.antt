-- A whole run, from an empty cache on: its image lines fetch nothing, and its instructions are those of the machine
-- that
-- is fed.
use Rattle.std.proofs.Common.{◌≡◌, ◌⊎◌, ℕ, zero, suc, ◌+◌, ◌-◌, ◌*◌, ◌%◌, ◌<◌, Bool, true, false, if◌then◌else◌, List}
use Rattle.std.proofs.Common.{[], ◌∷◌, ◌++◌, All, Option, Some, None, Result, Ok, length, drop, replicate, refl, sym}
use Rattle.std.proofs.Common.{ap, subst, inl, inr, arith, ◌∙◌, append-nil, length-drop}
use Rattle.std.proofs.lemmas.List.{length-take-le}
use Rattle.request_plan.specs.Plan.{Plan, Done as Outcome, Ask, through, Ends, Stops, Asks, Outcomes, Alike}
use Rattle.request_plan.specs.Course.{Course, Finished, Starved, Astray, after_course, course, UsesAll}
use Rattle.request_plan.specs.Laws.{NotesAnswers, StopsUnnoted}
use Rattle.request_plan.proofs.Chains.{Ends-unbind, Stops-unbind}
use Rattle.request_plan.proofs.Courses.{course-bind, Stops-noted}
use Rattle.request_plan.proofs.Keeps.{Outcomes-bind}
use Rattle.request_plan.proofs.Alike.{SameBeside, Alike-bind, Alike-through, Alike-ends, Alike-stops, Asks-bind}
use Rattle.rv32_core.specs.Access.{IsAccess, spliced}
use Rattle.rv32_core.specs.LineList.{LineUse, WholeWrite, used}
use Rattle.rv32_core.specs.Machine.{Machine, IsCore}
use Rattle.rv32_core.specs.RunPlan.{RunEnd, after_instruction, run_plan}
use Rattle.rv32_core.specs.StepPlan.{step_plan}
use Rattle.rv32_core.specs.declared.outcome.Done.{Done}
use Rattle.rv32_core.specs.declared.outcome.Ended.{Ended}
use Rattle.rv32_core.specs.declared.outcome.Ended.TheVariants.{No, Exit, Trap}
use Rattle.rv32_core.proofs.RunLaws.{run_plan-none, run_plan-next, Asks-run_plan}
use Rattle.data_cache.specs.Lines.{LineRequest, IsLineAnswer, Fetch}
use Rattle.data_cache.specs.Lines as lines
use Rattle.data_cache.specs.CacheLists.{Kept, Sets, Lines, no_lines, line_in, set_of, with_kept, set_after, sets_after}
use Rattle.data_cache.specs.CacheLists.{victim, stored, ask_all, use_set, after_use, write_whole_line}
use Rattle.data_cache.specs.Contents.{Contents, write_line_plan}
use Rattle.data_cache.specs.Cached.{cache_access, lists_access, HasBytes, StandsAs, StandsLeft}
use Rattle.data_cache.proofs.AccessAlike.{access-alike, whole-stands-as}
use Rattle.data_cache.proofs.Parts.{patched_own}
use Rattle.data_cache.proofs.UseLaws.{empty-mirrors}
use Rattle.fed_run.specs.Fed.{sets_along}
use Rattle.fed_run.specs.Answered.{line_source, AreLines}
use Rattle.fed_run.specs.Whole.{cache_image, cache_run, lists_image, lists_run}
use Rattle.fed_run.specs.Fed.{NotedLine}
use Rattle.fed_run.proofs.AccessCourses.{course-use}
use Rattle.fed_run.proofs.NotedLines.{Ends-lines}
use Rattle.fed_run.proofs.RunChains.{IsRun, IsStarvedRun, run-told, run-told-stop}
use Rattle.fed_run.proofs.SomeBytes.{Asks-both, step_plan-bytes}

-- the items that a course left over, and its outcome
abbrev items_left : {Q B A : Type 0} → Course NotedLine Q B A → List NotedLine
items_left (Finished a items) = items
items_left (Starved q b) = []
items_left Astray = []

abbrev outcome_of : {Q B A : Type 0} → A → Course NotedLine Q B A → A
outcome_of none (Finished a items) = a
outcome_of none (Starved q b) = none
outcome_of none Astray = none

-- ---- the lines of an image
-- each of them is one of so many
abbrev pub Below : ℕ → List ℕ → Type 0
Below count [] = Unit {0}
Below count (line ∷ marked) = (line < count) × Below count marked

pub below-all : (count : ℕ) (marked : List ℕ) → All (λ line. line < count) marked → Below count marked
below-all count [] all = tt
below-all count (line ∷ marked) all =
    (all 0 line (omega arith), below-all count marked (λ k d lt. all (suc k) d (omega arith)))

line-length : (image : List ℕ) (count line : ℕ) → length image ≡ 64 * count → line < count
    → length (line_in image line) ≡ 64
line-length image count line size less =
    let left : length (drop (64 * line) image) ≡ length image - 64 * line = length-drop (64 * line) image in
    length-take-le 64 (drop (64 * line) image) (omega (arith, left))

-- A whole write of a line with its own bytes changes no byte, and takes no line.
own-course : (ways : ℕ) (lists : Lines) (line count : ℕ) (items : List NotedLine) → length lists.memory ≡ 64 * count
    → line < count
    → course line_source (write_whole_line ways lists line (line_in lists.memory line)) items
    ≡ Finished (record {
      memory = lists.memory;
      sets = sets_after ways lists.sets (record { line = line; kind = WholeWrite });
    }) items
own-course ways lists line count items size less =
    let use_of : LineUse = record { line = line; kind = WholeWrite } in
    let set : List Kept = set_of lists.sets line in
    let next : List Kept × List ℕ → Plan LineRequest (List ℕ) Sets Lines =
    λ r. Outcome (after_use lists line (r.0) (spliced (r.1) (64 * line) (line_in lists.memory line))) in
    course-bind line_source (with_kept lists.sets line) (use_set ways set lists.memory use_of) next items
    ∙ ap (after_course (with_kept lists.sets line) (λ r rest. course line_source (next r) rest))
    (course-use ways set lists.memory use_of items)
    ∙ ap (λ (m : List ℕ). Finished (after_use lists line (set_after ways set use_of) m) items)
    (patched_own lists.memory line (omega (arith, size)))

-- ---- what the image lines ask
-- what the outcomes of the second plan have too
Alike-right : {Q X B C A D : Type 0} (Fine : Q → X → Type 0) (P : D → Type 0) (Left : B → C → Type 0)
    (Out : A → D → Type 0) (p : Plan Q X B A) (r : Plan Q X C D) → Outcomes P r → Alike Fine Left Out p r
    → Alike Fine Left (λ (a : A) (d : D). Out a d × P d) p r
Alike-right Fine P Left Out (Outcome a) (Outcome d) has same = (same, has)
Alike-right Fine P Left Out (Ask q b k) (Ask r c l) has same =
    (same.0, same.1, λ x fine. Alike-right Fine P Left Out (k x) (l x) (has x) (same.2 x fine))
Alike-right Fine P Left Out (Outcome a) (Ask r c l) has same = absurd same
Alike-right Fine P Left Out (Ask q b k) (Outcome d) has same = absurd same

-- a victim's store changes no byte
stored-by : {B : Type 0} (left : B) (memory : List ℕ) (n : ℕ) (value : List ℕ) (dirty : Bool)
    → Outcomes (λ (now : List ℕ). now ≡ memory)
    (ask_all left memory (if dirty then lines.Store n value ∷ [] else []))
stored-by left memory n value true = λ x. refl
stored-by left memory n value false = refl

stored-same : {B : Type 0} (left : B) (memory : List ℕ) (v : Option Kept)
    → Outcomes (λ (now : List ℕ). now ≡ memory) (ask_all left memory (stored memory v))
stored-same left memory None = refl
stored-same left memory (Some k) = stored-by left memory k.line (line_in memory k.line) k.dirty

own-same : (ways : ℕ) (lists : Lines) (line count : ℕ) → length lists.memory ≡ 64 * count → line < count
    → Outcomes (λ (now : Lines). now.memory ≡ lists.memory)
    (write_whole_line ways lists line (line_in lists.memory line))
own-same ways lists line count size less =
    let use_of : LineUse = record { line = line; kind = WholeWrite } in
    let set : List Kept = set_of lists.sets line in
    Outcomes-bind (λ (r : List Kept × List ℕ). r.1 ≡ lists.memory) (λ (now : Lines). now.memory ≡ lists.memory)
    (with_kept lists.sets line) (use_set ways set lists.memory use_of)
    (λ r. Outcome (after_use lists line (r.0) (spliced (r.1) (64 * line) (line_in lists.memory line))))
    (Outcomes-bind (λ (now : List ℕ). now ≡ lists.memory) (λ (r : List Kept × List ℕ). r.1 ≡ lists.memory) (λ l. l)
    (ask_all set lists.memory (stored lists.memory (victim ways set line)))
    (λ now. Outcome (set_after ways set use_of, now))
    (stored-same set lists.memory (victim ways set line)) (λ now same. same))
    (λ r same. ap (λ m. spliced m (64 * line) (line_in lists.memory line)) same
    ∙ patched_own lists.memory line (omega (arith, size)))

module _ (count ways : ℕ) (image : List ℕ) (size : length image ≡ 64 * count) where
  -- the cache's writes and those of its lists
  abbrev OverImage : Contents → Lines → Type 0
  OverImage cache lists = StandsAs count ways cache lists × (lists.memory ≡ image)

  own-alike : (cache : Contents) (lists : Lines) (line : ℕ) → line < count → OverImage cache lists
      → Alike IsLineAnswer (StandsLeft count) OverImage
      (write_line_plan cache line (record { 0 = line_in image line }))
      (write_whole_line ways lists line (line_in lists.memory line))
  own-alike cache lists line less over =
      let long : length lists.memory ≡ 64 * count = ap length (over.1) ∙ size in
      subst (λ m. Alike IsLineAnswer (StandsLeft count) (λ (a : Contents) (d : Lines).
      StandsAs count ways a d × (d.memory ≡ m)) (write_line_plan cache line (record { 0 = line_in m line }))
      (write_whole_line ways lists line (line_in lists.memory line))) (over.1)
      (Alike-right IsLineAnswer (λ (now : Lines). now.memory ≡ lists.memory) (StandsLeft count)
      (StandsAs count ways) (write_line_plan cache line (record { 0 = line_in lists.memory line }))
      (write_whole_line ways lists line (line_in lists.memory line)) (own-same ways lists line count long less)
      (whole-stands-as count 0 ways refl cache lists line (record { 0 = line_in lists.memory line }) (over.0) less
      (line-length lists.memory count line long less)))

  image-alike : (marked : List ℕ) (cache : Contents) (lists : Lines) → Below count marked → OverImage cache lists
      → Alike IsLineAnswer (StandsLeft count) OverImage (cache_image image marked cache) (lists_image ways marked lists)
  image-alike [] cache lists below over = over
  image-alike (line ∷ marked) cache lists below over =
      Alike-bind IsLineAnswer (StandsLeft count) OverImage (StandsLeft count) OverImage (λ left. left) (λ left. left)
      (write_line_plan cache line (record { 0 = line_in image line }))
      (write_whole_line ways lists line (line_in lists.memory line))
      (cache_image image marked) (lists_image ways marked) (λ b c left. left)
      (λ a d out. image-alike marked a d (below.1) out)
      (own-alike cache lists line (below.0) over)

  -- the sets after these lines
  abbrev pub after_image : List ℕ → Lines → Lines
  after_image marked lists =
      record { memory = lists.memory; sets = sets_along ways lists.sets (used WholeWrite marked) }

  image-course : (marked : List ℕ) (lists : Lines) (items : List NotedLine) → Below count marked
      → length lists.memory ≡ 64 * count
      → course line_source (lists_image ways marked lists) items ≡ Finished (after_image marked lists) items
  image-course [] lists items below long = refl
  image-course (line ∷ marked) lists items below long =
      let next : Lines = record {
        memory = lists.memory;
        sets = sets_after ways lists.sets (record { line = line; kind = WholeWrite });
      } in
      course-bind line_source (λ l. l) (write_whole_line ways lists line (line_in lists.memory line))
      (lists_image ways marked) items
      ∙ ap (after_course (λ (l : Sets). l) (λ now rest. course line_source (lists_image ways marked now) rest))
      (own-course ways lists line count items long (below.0))
      ∙ image-course marked next items (below.1) long

  module _ {S E : Type 0} (step : S → LineRequest → Result (List ℕ) E → S → Type 0) (noted : S → List NotedLine)
      (notes : NotesAnswers step line_source noted)
      (answers : (s t : S) (q : LineRequest) (bytes : List ℕ) → step s q (Ok bytes) t → IsLineAnswer q bytes) where
    -- The image lines note no line.
    pub image-ends : (marked : List ℕ) (cache after : Contents) (lists : Lines) (s t : S) → Below count marked
        → OverImage cache lists → Ends step (cache_image image marked cache) s t after
        → (noted t ≡ noted s) × OverImage after (after_image marked lists)
    image-ends marked cache after lists s t below over h =
        let long : length lists.memory ≡ 64 * count = ap length (over.1) ∙ size in
        let other = Alike-ends step IsLineAnswer answers (StandsLeft count) OverImage (cache_image image marked cache)
        (lists_image ways marked lists) s t after (image-alike marked cache lists below over) h in
        let ran = Ends-lines step noted notes answers (lists_image ways marked lists) s t (other.0) (other.1) in
        let same : ◌≡◌ {A = Course NotedLine LineRequest Sets Lines} (Finished (after_image marked lists) (ran.0 ++ []))
        (Finished (other.0) []) =
        sym (image-course marked lists (ran.0 ++ []) below long) ∙ ran.3 [] in
        let none : ran.0 ++ [] ≡ [] = ap items_left same in
        let is : after_image marked lists ≡ other.0 = ap (outcome_of (other.0)) same in (
          ran.1 ∙ ap (λ l. noted s ++ l) (sym (append-nil (ran.0)) ∙ none) ∙ append-nil (noted s),
          subst (OverImage after) (sym is) (other.2),
        )

    pub image-stops : StopsUnnoted step noted → (marked : List ℕ) (cache : Contents) (lists : Lines) (s t : S) (e : E)
        (left : Contents) → Below count marked → OverImage cache lists
        → Stops step (cache_image image marked cache) s t e left → noted t ≡ noted s
    image-stops same marked cache lists s t e left below over h =
        let long : length lists.memory ≡ 64 * count = ap length (over.1) ∙ size in
        let other = Alike-stops step IsLineAnswer answers (StandsLeft count) OverImage (cache_image image marked cache)
        (lists_image ways marked lists) s t e left (image-alike marked cache lists below over) h in
        let ran = Stops-noted step line_source noted notes same (lists_image ways marked lists) s t e (other.0)
        (other.1) in
        let none : ran.0 ≡ [] =
        subst (λ (c : Course NotedLine LineRequest Sets Lines). UsesAll c) (image-course marked lists (ran.0) below
        long) (ran.2) in
        ran.1 ∙ ap (λ l. noted s ++ l) none ∙ append-nil (noted s)

-- ---- what the instructions ask
after-bytes : (n before : ℕ) (end : Machine × Done) (ended : Ended) → Asks HasBytes (run_plan n (before + 1) (end.0))
    → Asks HasBytes (after_instruction before (run_plan n (before + 1)) (end.0) ended)
after-bytes n before end No rest = rest
after-bytes n before end (Exit status) rest = tt
after-bytes n before end (Trap kind pc) rest = tt

pub run-bytes : (n before : ℕ) (machine : Machine) → Asks HasBytes (run_plan n before machine)
run-bytes zero before machine = subst (Asks HasBytes) (sym (run_plan-none before machine)) tt
run-bytes (suc n) before machine =
    subst (Asks HasBytes) (sym (run_plan-next n before machine))
    (Asks-bind HasBytes (λ (left : Machine). (before, left)) (step_plan machine)
    (λ end. after_instruction before (run_plan n (before + 1)) (end.0) ((end.1).ended)) (step_plan-bytes machine)
    (λ end. after-bytes n before end ((end.1).ended) (run-bytes n (before + 1) (end.0))))

module _ (count ways n : ℕ) (machine : Machine) (is : IsCore machine.core) (long : machine.core.size ≡ 64 * count) where
  -- A run's plan through the cache, and through its lists.
  pub run-alike : (cache : Contents) (lists : Lines) → StandsAs count ways cache lists
      → Alike IsLineAnswer (SameBeside {A = ℕ × Machine} (StandsLeft count))
      (SameBeside {A = RunEnd} (StandsAs count ways))
      (through (cache_access machine.core.base) (run_plan n 0 machine) cache)
      (through (lists_access machine.core.base ways) (run_plan n 0 machine) lists)
  run-alike cache lists stands =
      let pages : machine.core.base % 4096 ≡ 0 = is.memory.base_pages in
      Alike-through IsLineAnswer (StandsAs count ways) (StandsLeft count)
      (λ q. IsAccess machine.core.base (64 * count) q × HasBytes q)
      (cache_access machine.core.base) (lists_access machine.core.base ways)
      (λ c l q i may. access-alike count machine.core.base ways (omega arith) c l q i (may.0) (may.1))
      (run_plan n 0 machine)
      (Asks-both (IsAccess machine.core.base (64 * count)) HasBytes (run_plan n 0 machine)
      (subst (λ z. Asks (IsAccess machine.core.base z) (run_plan n 0 machine)) long
      (Asks-run_plan machine.core.base machine.core.size n 0 machine is refl refl))
      (run-bytes n 0 machine))
      cache lists stands

-- ---- a whole run
-- a cache that holds nothing, and its lists
abbrev pub empty_cache : ℕ → ℕ → Contents
empty_cache sets ways = record { ways = ways; sets = replicate sets [] }

abbrev pub empty_lists : ℕ → List ℕ → Lines
empty_lists sets image = record { memory = image; sets = no_lines sets }

module _ (count ways sets n : ℕ) (image marked : List ℕ) (machine : Machine) (some : 0 < sets) (room : 0 < ways)
    (below : Below count marked) (size : length image ≡ 64 * count) (is : IsCore machine.core)
    (long : machine.core.size ≡ 64 * count) where
  empty-over : OverImage count ways image size (empty_cache sets ways) (empty_lists sets image)
  empty-over = ((empty-mirrors count sets ways image some room size, refl), refl)

  pub whole-alike : Alike IsLineAnswer (SameBeside {A = ℕ × Machine} (StandsLeft count))
      (SameBeside {A = RunEnd} (StandsAs count ways))
      (cache_run image marked n machine (empty_cache sets ways))
      (lists_run ways marked n machine (empty_lists sets image))
  whole-alike =
      Alike-bind IsLineAnswer (StandsLeft count) (OverImage count ways image size)
      (SameBeside {A = ℕ × Machine} (StandsLeft count)) (SameBeside {A = RunEnd} (StandsAs count ways))
      (λ left. (left, (0, machine))) (λ left. (left, (0, machine)))
      (cache_image image marked (empty_cache sets ways)) (lists_image ways marked (empty_lists sets image))
      (through (cache_access machine.core.base) (run_plan n 0 machine))
      (through (lists_access machine.core.base ways) (run_plan n 0 machine))
      (λ b c left. (left, refl)) (λ a d over. run-alike count ways n machine is long a d (over.0))
      (image-alike count ways image size marked (empty_cache sets ways) (empty_lists sets image) below empty-over)

  module _ {S E : Type 0} (step : S → LineRequest → Result (List ℕ) E → S → Type 0) (noted : S → List NotedLine)
      (notes : NotesAnswers step line_source noted)
      (answers : (s t : S) (q : LineRequest) (bytes : List ℕ) → step s q (Ok bytes) t → IsLineAnswer q bytes) where
    -- the lists after the image lines
    abbrev started : Lines
    started = after_image count ways image size marked (empty_lists sets image)

    pub whole-ends : (s t : S) (after : Contents) (end : RunEnd)
        → Ends step (cache_run image marked n machine (empty_cache sets ways)) s t (after, end)
        → (lines : List NotedLine) × (now : Lines) × (noted t ≡ noted s ++ lines) × AreLines lines
        × StandsAs count ways after now × IsRun ways n machine started lines now end.instructions end.machine end.ending
    whole-ends s t after end h =
        let parts = Ends-unbind step (λ left. (left, (0, machine))) (cache_image image marked (empty_cache sets ways))
        (through (cache_access machine.core.base) (run_plan n 0 machine)) s t (after, end) h in
        let first = image-ends count ways image size step noted notes answers marked (empty_cache sets ways) (parts.0)
        (empty_lists sets image) s (parts.1) below empty-over (parts.2) in
        let told = run-told count ways n step answers machine is long noted notes (parts.1) t
        (parts.0) after started end
        ((first.1).0) (parts.3) in
        (told.0, told.1, told.2 ∙ ap (λ l. l ++ told.0) (first.0), told.3, told.4, told.5)

    -- A stop in the image lines, before which no line was noted; or in the instructions.
    pub whole-stops : StopsUnnoted step noted → (s t : S) (e : E) (left : Contents × (ℕ × Machine))
        → Stops step (cache_run image marked n machine (empty_cache sets ways)) s t e left
        → ((noted t ≡ noted s) × (left.1 ≡ (0, machine)))
        ⊎ ((lines : List NotedLine) × (noted t ≡ noted s ++ lines) × AreLines lines
        × IsStarvedRun ways n machine started lines ((left.1).0) ((left.1).1))
    whole-stops same s t e left h =
        elim (Stops-unbind step (λ left. (left, (0, machine))) (cache_image image marked (empty_cache sets ways))
        (through (cache_access machine.core.base) (run_plan n 0 machine)) s t e left h) [
          | inl one ↦ inl (
            image-stops count ways image size step noted notes answers same marked (empty_cache sets ways)
                (empty_lists sets image) s t e (one.0) below empty-over (one.1),
            ap (λ (z : Contents × (ℕ × Machine)). z.1) (one.2),
          )
          | inr parts ↦
              let first = image-ends count ways image size step noted notes answers marked (empty_cache sets ways)
              (parts.0) (empty_lists sets image) s (parts.1) below empty-over (parts.2) in
              let told = run-told-stop count ways n step answers machine is long noted notes same (parts.1) t (parts.0)
              started e left ((first.1).0) (parts.3) in
              inr (told.0, told.1 ∙ ap (λ l. l ++ told.0) (first.0), told.2, told.3)
        ]
