-- Every chain of a store's steps is one beside a list that notes the lines which its fetches were answered with.
use Rattle.std.proofs.Common.{◌≡◌, ℕ, ◌*◌, List, [], ◌∷◌, ◌++◌, Result, Ok, Err, refl, sym, ap, subst, inl, inr}
use Rattle.request_plan.specs.Plan.{Plan, Done, Ask, through, Ends, Stops}
use Rattle.request_plan.specs.Laws.{NotesAnswers, StopsUnnoted}
use Rattle.rv32_core.specs.Machine.{Machine, IsCore}
use Rattle.rv32_core.specs.RunPlan.{RunEnd, run_plan}
use Rattle.data_cache.specs.Lines.{LineRequest, Fetch, Store, IsLineAnswer}
use Rattle.data_cache.specs.CacheLists.{Lines}
use Rattle.data_cache.specs.Contents.{Contents}
use Rattle.data_cache.specs.Cached.{cache_access, StandsAs}
use Rattle.fed_run.specs.Answered.{line_source, AreLines, Beside}
use Rattle.fed_run.specs.Fed.{numbered, NotedLine}
use Rattle.fed_run.proofs.NotedLines.{own-read}
use Rattle.fed_run.proofs.RunChains.{IsRun, IsStarvedRun, run-told, run-told-stop}

module _ {S E : Type 0} (step : S → LineRequest → Result (List ℕ) E → S → Type 0)
    (answers : (s t : S) (q : LineRequest) (bytes : List ℕ) → step s q (Ok bytes) t → IsLineAnswer q bytes) where
  -- the list beside a store
  abbrev beside : S × List NotedLine → List NotedLine
  beside s = s.1

  beside-notes : NotesAnswers (Beside step) line_source beside
  beside-notes s t (Fetch line) x h = (numbered line x, h.1, own-read line x)
  beside-notes s t (Store line value) x h = (h.1, answers (s.0) (t.0) (Store line value) x (h.0))

  beside-unnoted : StopsUnnoted (Beside step) beside
  beside-unnoted s t (Fetch line) e h = h.1
  beside-unnoted s t (Store line value) e h = h.1

  beside-answers : (s t : S × List NotedLine) (q : LineRequest) (bytes : List ℕ) → Beside step s q (Ok bytes) t
      → IsLineAnswer q bytes
  beside-answers s t (Fetch line) bytes h = answers (s.0) (t.0) (Fetch line) bytes (h.0)
  beside-answers s t (Store line value) bytes h = answers (s.0) (t.0) (Store line value) bytes (h.0)

  -- the list after a step
  abbrev noted_by : LineRequest → List NotedLine → List ℕ → List NotedLine
  noted_by (Fetch line) l bytes = l ++ numbered line bytes ∷ []
  noted_by (Store line value) l bytes = l

  beside-step : (s t : S) (q : LineRequest) (x : List ℕ) (l : List NotedLine) → step s q (Ok x) t
      → Beside step (s, l) q (Ok x) (t, noted_by q l x)
  beside-step s t (Fetch line) x l h = (h, refl)
  beside-step s t (Store line value) x l h = (h, refl)

  beside-stop : (s t : S) (q : LineRequest) (e : E) (l : List NotedLine) → step s q (Err e) t
      → Beside step (s, l) q (Err e) (t, l)
  beside-stop s t (Fetch line) e l h = (h, refl)
  beside-stop s t (Store line value) e l h = (h, refl)

  pub beside-ends : {B A : Type 0} (p : Plan LineRequest (List ℕ) B A) (s t : S) (a : A) (l : List NotedLine)
      → Ends step p s t a → (lines : List NotedLine) × Ends (Beside step) p (s, l) (t, lines) a
  beside-ends (Done x) s t a l h = (l, (h.0, ap (λ (z : S). (z, l)) h.1))
  beside-ends (Ask q b k) s t a l h =
      let rest = beside-ends (k (h.0)) (h.1) t a (noted_by q l (h.0)) (h.3) in
      (rest.0, (h.0, (h.1, noted_by q l (h.0)), beside-step s (h.1) q (h.0) l (h.2), rest.1))

  pub beside-stops : {B A : Type 0} (p : Plan LineRequest (List ℕ) B A) (s t : S) (e : E) (b : B) (l : List NotedLine)
      → Stops step p s t e b → (lines : List NotedLine) × Stops (Beside step) p (s, l) (t, lines) e b
  beside-stops (Done x) s t e b l h = absurd h
  beside-stops (Ask q c k) s t e b l (inl h) = (l, inl (beside-stop s t q e l (h.0), h.1))
  beside-stops (Ask q c k) s t e b l (inr h) =
      let rest = beside-stops (k (h.0)) (h.1) t e b (noted_by q l (h.0)) (h.3) in
      (rest.0, inr (h.0, (h.1, noted_by q l (h.0)), beside-step s (h.1) q (h.0) l (h.2), rest.1))

  module _ (count ways n : ℕ) (machine : Machine) (is : IsCore machine.core) (long : machine.core.size ≡ 64 * count)
    where
      -- a run, with the lines that its fetches were answered with
      pub answered-run : (s t : S) (cache after : Contents) (lists : Lines) (end : RunEnd)
          → StandsAs count ways cache lists
          → Ends step (through (cache_access machine.core.base) (run_plan n 0 machine) cache) s t (after, end)
          → (lines : List NotedLine) × (now : Lines)
          × Ends (Beside step) (through (cache_access machine.core.base) (run_plan n 0 machine) cache) (s, [])
          (t, lines)
          (after, end)
          × AreLines lines × StandsAs count ways after now
          × IsRun ways n machine lists lines now end.instructions end.machine end.ending
      answered-run s t cache after lists end stands h =
          let pair = beside-ends (through (cache_access machine.core.base) (run_plan n 0 machine) cache) s
          t (after, end) []
          h in
          let told = run-told count ways n (Beside step) beside-answers machine is long beside beside-notes (s, [])
          (t, pair.0) cache after lists end stands (pair.1) in
          let same : told.0 ≡ pair.0 = sym (told.2) in (
            pair.0,
            told.1,
            pair.1,
            subst AreLines same (told.3),
            told.4,
            subst
                (λ (l : List NotedLine). IsRun ways n machine lists l (told.1) end.instructions end.machine
                end.ending) same
                (told.5),
          )

      pub answered-stop : (s t : S) (cache : Contents) (lists : Lines) (stop : E) (left : Contents × (ℕ × Machine))
          → StandsAs count ways cache lists
          → Stops step (through (cache_access machine.core.base) (run_plan n 0 machine) cache) s t stop left
          → (lines : List NotedLine)
          × Stops (Beside step) (through (cache_access machine.core.base) (run_plan n 0 machine) cache) (s, [])
          (t, lines)
          stop left
          × AreLines lines × IsStarvedRun ways n machine lists lines ((left.1).0) ((left.1).1)
      answered-stop s t cache lists stop left stands h =
          let pair = beside-stops (through (cache_access machine.core.base) (run_plan n 0 machine) cache) s t stop
          left []
          h in
          let told = run-told-stop count ways n (Beside step) beside-answers machine is long beside beside-notes
          beside-unnoted (s, []) (t, pair.0) cache lists stop left stands (pair.1) in
          let same : told.0 ≡ pair.0 = sym (told.1) in (
            pair.0,
            pair.1,
            subst AreLines same (told.2),
            subst
                (λ (l : List NotedLine). IsStarvedRun ways n machine lists l ((left.1).0) ((left.1).1)) same (told.3),
          )
