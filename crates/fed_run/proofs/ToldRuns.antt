-- A core over a cache over a store whose lines are told: its plans are served by the list of bytes for which both
-- stand.
use Rattle.std.proofs.Common.{◌≡◌, ℕ, ◌+◌, ◌-◌, ◌*◌, ◌%◌, ◌<◌, ◌≤◌, ◌==◌, false, if◌then◌else◌, List, [], Option, Some}
use Rattle.std.proofs.Common.{Result, Ok, length, refl, sym, ap, subst, arith, ◌∙◌}
use Rattle.std.proofs.lemmas.Bool.Decides.{nat_tests}
use Rattle.request_plan.specs.Plan.{Plan, Done as Outcome, Ask, bind, through, Ends, Asks}
use Rattle.request_plan.specs.Play.{served}
use Rattle.request_plan.proofs.Chains.{Ends-unbind}
use Rattle.request_plan.proofs.Keeps.{Ends-keeps}
use Rattle.rv32_core.specs.Access.{Access, Load, Store, IsAccess, access_bytes, slice_of, spliced}
use Rattle.rv32_core.specs.FlatMachine.{flat_step}
use Rattle.rv32_core.specs.FlatRun.{FlatRun, flat_run, finished_before}
use Rattle.rv32_core.specs.Machine.{Machine, IsCore}
use Rattle.rv32_core.specs.RunPlan.{RunEnd, end_of, run_plan}
use Rattle.rv32_core.specs.StepPlan.{step_plan}
use Rattle.rv32_core.specs.declared.outcome.Done.{Done}
use Rattle.rv32_core.proofs.PlanLaws.{Asks-step_plan}
use Rattle.rv32_core.proofs.RunLaws.{Asks-run_plan, served-run_plan}
use Rattle.rv32_core.proofs.Served.{flat_step-is}
use Rattle.data_cache.specs.Lines.{LineRequest, Fetch, IsLineAnswer, TellsFetch, TellsStore}
use Rattle.data_cache.specs.Lines as lines
use Rattle.data_cache.specs.Contents.{Contents, read_plan, write_plan}
use Rattle.data_cache.specs.Standing.{StandFor}
use Rattle.data_cache.specs.Cached.{line_at, place_at, cache_access, HasBytes}
use Rattle.data_cache.proofs.ToldLaws.{read-stands, write-stands}
use Rattle.fed_run.proofs.SomeBytes.{Asks-both, step_plan-bytes}
use Rattle.fed_run.proofs.WholeChains.{run-bytes}

-- a choice of an access that has bytes
some-bytes : {A : Type 0} (count : ℕ) (none some : A) → 0 < count → (if count == 0 then none else some) ≡ some
some-bytes count none some h = let no : (count == 0) ≡ false = grind (arith, nat_tests) in rw no refl

at-line : (base address : ℕ) → 64 * line_at base address + place_at base address ≡ address - base
at-line base address = omega arith

module _ {S E : Type 0} (step : S → LineRequest → Result (List ℕ) E → S → Type 0) (lines_of : S → ℕ)
    (told : S → Option (List (List ℕ)))
    (keeps_lines : (s t : S) (q : LineRequest) (a : Result (List ℕ) E) → step s q a t → lines_of t ≡ lines_of s)
    (answers : (s t : S) (q : LineRequest) (bytes : List ℕ) → step s q (Ok bytes) t → IsLineAnswer q bytes)
    (told_lines : (s : S) (list : List (List ℕ)) → told s ≡ Some list → length list ≡ lines_of s)
    (tells_fetch : (s t : S) (n : ℕ) (bytes : List ℕ) → step s (Fetch n) (Ok bytes) t
    → TellsFetch (told s) n bytes (told t))
    (tells_store : (s t : S) (n : ℕ) (value done : List ℕ) → step s (lines.Store n value) (Ok done) t
    → TellsStore (told s) n value (told t)) where
  -- where the lines are told after a chain, they were told before it
  told-before : {B A : Type 0} (p : Plan LineRequest (List ℕ) B A) (s t : S) (a : A) → Ends step p s t a
      → (list : List (List ℕ)) → told t ≡ Some list → (before : List (List ℕ)) × (told s ≡ Some before)
  told-before (Outcome x) s t a h list e = (list, ap told (sym h.1) ∙ e)
  told-before (Ask (Fetch n) b k) s t a h list e =
      let rest = told-before (k (h.0)) (h.1) t a (h.3) list e in
      (rest.0, (tells_fetch s (h.1) n (h.0) (h.2) (rest.0) (rest.1)).0)
  told-before (Ask (lines.Store n value) b k) s t a h list e =
      let rest = told-before (k (h.0)) (h.1) t a (h.3) list e in
      let first = tells_store s (h.1) n value (h.0) (h.2) (rest.0) (rest.1) in
      (first.0, first.1)

  module _ (count base : ℕ) (aligned : base % 64 ≡ 0) where
    -- they stand for this list of bytes, where the store's lines are told
    abbrev Stand : Contents → S → List ℕ → Type 0
    Stand cache s memory = (list : List (List ℕ)) → told s ≡ Some list → StandFor cache list memory

    -- an access was answered by the bytes, and they stand for them then
    access-told : (access : Access) (cache after : Contents) (memory bytes : List ℕ) (s t : S)
        → IsAccess base (64 * count) access → HasBytes access → lines_of s ≡ count → Stand cache s memory
        → Ends step (cache_access base cache access) s t (after, bytes)
        → (list : List (List ℕ)) → told t ≡ Some list
        → (access_bytes base memory access ≡ (bytes, (access_bytes base memory access).1))
        × StandFor after list ((access_bytes base memory access).1)
    access-told (Load address len) cache after memory bytes s t is some all stand h list e =
        let low : base ≤ address = is.above in
        let high : address + len ≤ base + 64 * count = is.below in
        let line : address % 64 + len ≤ 64 = is.in_line in
        let n : ℕ = line_at base address in
        let read : Ends step (read_plan cache n (place_at base address) len) s t (after, bytes) =
        subst (λ p. Ends step p s t (after, bytes))
        (some-bytes len (Outcome (cache, [])) (read_plan cache n (place_at base address) len) some) h in
        let both = read-stands step lines_of told answers told_lines tells_fetch tells_store s t cache after n
        (place_at base address) len bytes memory (let less : n < lines_of s = omega (arith, all) in less) (omega arith)
        stand read list e in
        let is' : bytes ≡ slice_of memory (address - base) len =
        both.1 ∙ ap (λ k. slice_of memory k len) (at-line base address) in
        (ap (λ (z : List ℕ). (z, memory)) (sym is'), both.0)
    access-told (Store address value) cache after memory bytes s t is some all stand h list e =
        let low : base ≤ address = is.above in
        let high : address + length value ≤ base + 64 * count = is.below in
        let line : address % 64 + length value ≤ 64 = is.in_line in
        let n : ℕ = line_at base address in
        let asks : Plan LineRequest (List ℕ) Contents Contents = write_plan cache n (place_at base address) value in
        let last : Contents → Plan LineRequest (List ℕ) Contents (Contents × List ℕ) = λ now. Outcome (now, []) in
        let write : Ends step (bind (λ (left : Contents). left) asks last) s t (after, bytes) =
        subst (λ p. Ends step p s t (after, bytes))
        (some-bytes (length value) (Outcome (cache, [])) (bind (λ (left : Contents). left) asks last) some) h in
        let parts = Ends-unbind step (λ (left : Contents). left) asks last s t (after, bytes) write in
        let none : bytes ≡ [] = ap (λ (z : Contents × List ℕ). z.1) (parts.3.0) in
        let same : after ≡ parts.0 = ap (λ (z : Contents × List ℕ). z.0) (parts.3.0) in
        let stands = write-stands step lines_of told answers told_lines tells_fetch tells_store s (parts.1) cache
        (parts.0) n (place_at base address) value memory (let less : n < lines_of s = omega (arith, all) in less)
        (omega arith) stand (parts.2) list (ap told (sym parts.3.1) ∙ e) in (
          ap (λ (z : List ℕ). (z, spliced memory (address - base) value)) (sym none),
          subst (λ c. StandFor c list (spliced memory (address - base) value)) (sym same)
              (subst (λ k. StandFor (parts.0) list (spliced memory k value)) (at-line base address) stands),
        )

    -- A plan of accesses is served by the list of bytes.
    plan-told : {B A : Type 0} (p : Plan Access (List ℕ) B A)
        → Asks (λ q. IsAccess base (64 * count) q × HasBytes q) p
        → (cache after : Contents) (memory : List ℕ) (s t : S) (a : A) → lines_of s ≡ count → Stand cache s memory
        → Ends step (through (cache_access base) p cache) s t (after, a)
        → (list : List (List ℕ)) → told t ≡ Some list
        → (now : List ℕ) × (served (access_bytes base) p memory ≡ (a, now)) × StandFor after list now
    plan-told (Outcome x) asks cache after memory s t a all stand h list e =
        let same : ◌≡◌ {A = Contents × _} (after, a) (cache, x) = h.0 in (
          memory,
          ap (λ (z : Contents × _). (z.1, memory)) (sym same),
          subst (λ c. StandFor c list memory) (sym (ap (λ (z : Contents × _). z.0) same))
              (stand list (ap told (sym h.1) ∙ e)),
        )
    plan-told {B} {A} (Ask access b k) asks cache after memory s t a all stand h list e =
        let on : Contents × List ℕ → Plan LineRequest (List ℕ) (Contents × B) (Contents × A) =
        λ r. through (cache_access base) (k (r.1)) (r.0) in
        let parts = Ends-unbind step (λ (c : Contents). (c, b)) (cache_access base cache access) on s t (after, a) h in
        let after1 : Contents = (parts.0).0 in
        let bytes : List ℕ = (parts.0).1 in
        let m : S = parts.1 in
        let mid = told-before (on (parts.0)) m t (after, a) (parts.3) list e in
        let first = λ (l : List (List ℕ)) (d : told m ≡ Some l).
        access-told access cache after1 memory bytes s m (asks.0.0) (asks.0.1) all stand (parts.2) l d in
        let kept : lines_of m ≡ count =
        Ends-keeps step lines_of (λ u v q x g. keeps_lines u v q (Ok x) g)
        (cache_access base cache access) s m (parts.0)
        (parts.2) ∙ all in
        let rest = plan-told (k bytes) (asks.1 bytes) after1 after ((access_bytes base memory access).1) m t a kept
        (λ l d. (first l d).1) (parts.3) list e in
        let answer : access_bytes base memory access ≡ (bytes, (access_bytes base memory access).1) =
        (first (mid.0) (mid.1)).0 in (
          rest.0,
          ap (λ (z : List ℕ × List ℕ). served (access_bytes base) (k (z.0))
              ((access_bytes base memory access).1)) answer
              ∙ rest.1,
          rest.2,
        )

  -- An instruction is the flat machine's, and a run the flat run.
  module _ (count : ℕ) (machine : Machine) (is : IsCore machine.core) (long : machine.core.size ≡ 64 * count) where
    base-aligned : machine.core.base % 64 ≡ 0
    base-aligned = let pages : machine.core.base % 4096 ≡ 0 = is.memory.base_pages in omega arith

    pub told-instruction : (memory : List ℕ) (s t : S) (cache after : Contents) (end : Machine × Done)
        → lines_of s ≡ count → ((list : List (List ℕ)) → told s ≡ Some list → StandFor cache list memory)
        → Ends step (through (cache_access machine.core.base) (step_plan machine) cache) s t (after, end)
        → (list : List (List ℕ)) → told t ≡ Some list
        → (now : List ℕ) × (flat_step machine memory ≡ record { machine = end.0; memory = now; done = end.1 })
        × StandFor after list now
    told-instruction memory s t cache after end all stand h list e =
        let r = plan-told count machine.core.base base-aligned (step_plan machine)
        (Asks-both (IsAccess machine.core.base (64 * count)) HasBytes (step_plan machine)
        (subst (λ z. Asks (IsAccess machine.core.base z) (step_plan machine)) long (Asks-step_plan machine is))
        (step_plan-bytes machine)) cache after memory s t end all stand h list e in
        (r.0, flat_step-is machine memory (end, r.0) (r.1), r.2)

    pub told-run : (n : ℕ) (memory : List ℕ) (s t : S) (cache after : Contents) (end : RunEnd)
        → lines_of s ≡ count → ((list : List (List ℕ)) → told s ≡ Some list → StandFor cache list memory)
        → Ends step (through (cache_access machine.core.base) (run_plan n 0 machine) cache) s t (after, end)
        → (list : List (List ℕ)) → told t ≡ Some list
        → let run = flat_run n machine memory in
        (run.instructions ≡ end.instructions) × (run.machine ≡ end.machine) × (run.ending ≡ end.ending)
        × StandFor after list run.memory
    told-run n memory s t cache after end all stand h list e =
        let run : FlatRun = flat_run n machine memory in
        let r = plan-told count machine.core.base base-aligned (run_plan n 0 machine)
        (Asks-both (IsAccess machine.core.base (64 * count)) HasBytes (run_plan n 0 machine)
        (subst (λ z. Asks (IsAccess machine.core.base z) (run_plan n 0 machine)) long
        (Asks-run_plan machine.core.base machine.core.size n 0 machine is refl refl))
        (run-bytes n 0 machine)) cache after memory s t end all stand h list e in
        let same : ◌≡◌ {A = RunEnd × List ℕ} (end_of (finished_before 0 run), run.memory) (end, r.0) =
        sym (served-run_plan machine.core.base n 0 machine memory refl) ∙ r.1 in (
          (let none : run.instructions ≡ 0 + run.instructions = omega arith in none)
              ∙ ap (λ (z : RunEnd × List ℕ). (z.0).instructions) same,
          ap (λ (z : RunEnd × List ℕ). (z.0).machine) same,
          ap (λ (z : RunEnd × List ℕ). (z.0).ending) same,
          subst (StandFor after list) (sym (ap (λ (z : RunEnd × List ℕ). z.1) same)) (r.2),
        )
