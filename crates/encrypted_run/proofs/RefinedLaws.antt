-- A plan over an encrypted memory is one over a list of lines, or the log shows a forgery.
use Rattle.std.proofs.Common.{◌≡◌, ◌<◌, ◌*◌, ◌⊎◌, inl, inr, ℕ, List, [], Option, None, Some, Ok, length}
use Rattle.std.proofs.Common.{get_or, set, length-set, refl, sym, ap, ◌∙◌, subst, arith}
use Rattle.std.proofs.lemmas.Bool.{cases_eq}
use Rattle.std.proofs.lemmas.List.{get_or-set_same, get_or-set_other}
use Rattle.std.proofs.lemmas.Option.{slice_get-get_or}
use Rattle.request_plan.specs.Plan.{Plan, Done, Ask, Ends, through}
use Rattle.asc_base.proofs.Lookups.{some_is}
use Rattle.asc_base.specs.declared.block.Line.{Line}
use Rattle.asc_base.specs.declared.stop.Stop.{Stop}
use Rattle.oram_contents.specs.Counts.{put_at}
use Rattle.oram_contents.specs.Entries.{Keys, AreKeys}
use Rattle.oram_contents.specs.Forgery.{Forgery}
use Rattle.oram_contents.proofs.Lines.{put_same, put_other}
use Rattle.oram_frontend.specs.Oram.{OramState, Fetch as OramFetch, Store as OramStore}
use Rattle.oram_lines.specs.Lines.{Lines, HoldsLines}
use Rattle.oram_lines.proofs.LineLaws.{call_holds, forgery_call}
use Rattle.rv32_core.specs.FlatMachine.{flat_step}
use Rattle.rv32_core.specs.FlatRun.{flat_run}
use Rattle.rv32_core.specs.Machine.{Machine, IsCore}
use Rattle.rv32_core.specs.RunPlan.{RunEnd, run_plan}
use Rattle.rv32_core.specs.StepPlan.{step_plan}
use Rattle.rv32_core.specs.Access.{spliced}
use Rattle.rv32_core.specs.declared.outcome.Done.{Done as Finished}
use Rattle.data_cache.specs.Cached.{cache_access}
use Rattle.data_cache.specs.Contents.{Contents, write_line_plan}
use Rattle.data_cache.specs.Lines.{LineRequest, Fetch, Store, FlatStep, FlatStep-length, FlatStep-answers}
use Rattle.data_cache.specs.Lines.{FlatStep-told}
use Rattle.data_cache.specs.Lines.{FlatStep-fetch, FlatStep-store}
use Rattle.data_cache.specs.Standing.{StandFor}
use Rattle.data_cache.proofs.ToldLaws.{whole-stands}
use Rattle.fed_run.proofs.ToldRuns.{told-instruction, told-run}
use Rattle.encrypted_run.specs.Refined.{OramLine, HoldsList, Computes}

module _ (keys : Keys) (lawful : AreKeys keys) (levels : ℕ) where
  -- the same lines, named in another way
  pub lines_same : (lines others : Lines) (o : OramState) → ((n : ℕ) → n < keys.shape.lines → lines n ≡ others n)
      → HoldsLines keys levels lines o → HoldsLines keys levels others o
  lines_same lines others o same x = record {
    ghost = x.ghost;
    stands = x.stands;
    calm = x.calm;
    counted = x.counted;
    lines_are = λ n inside. x.lines_are n inside ∙ same n inside;
  }

  -- a list of lines in which one was replaced, and its lines
  put_in : (list : List (List ℕ)) (line : ℕ) (value : List ℕ) → line < length list → (n : ℕ)
      → put_at (λ k. get_or list k []) line value n ≡ get_or (set list line value) n []
  put_in list line value inside n = elim (cases_eq n line) [
    | inl is ↦ ap (put_at (λ k. get_or list k []) line value) is ∙ (put_same (λ k. get_or list k []) line value
        ∙ sym (ap (λ k. get_or (set list line value) k []) is ∙ get_or-set_same list line value [] inside))
    | inr other ↦ put_other (λ k. get_or list k []) line value n other
        ∙ sym (get_or-set_other list line n value [] other)
  ]

  -- one request
  pub step_holds : (list : List (List ℕ)) (old new : OramState) (request : LineRequest) (bytes : List ℕ)
      → HoldsList keys levels list old → OramLine keys levels old request (Ok bytes) new
      → Forgery keys new.port.tap.log
      ⊎ ((now : List (List ℕ)) × FlatStep {E = Stop} list request (Ok bytes) now × HoldsList keys levels now new)
  step_holds list old new (Fetch line) bytes x (below, is_line, asked, end, one) =
      elim (call_holds keys lawful levels (λ n. get_or list n []) old new (OramFetch asked line)
      (record { line = Some (record { 0 = bytes }); end = end }) x.holds below one) [
        | inl forged ↦ inl forged
        | inr (holds, answered) ↦
            (let (value, is, right) = answered in
            let same : ◌≡◌ {A = Line} (record { 0 = bytes }) value = cc in
            let bytes_are : bytes ≡ get_or list line [] = ap (λ (l : Line). l.0) same ∙ right in
            inr (
              list,
              (
                slice_get-get_or list line [] (omega (arith, x.number))
                    ∙ ap Some (sym bytes_are),
                refl,
                is_line,
              ),
              record { number = x.number; holds = holds },
            ))
      ]
  step_holds list old new (Store line value) bytes x (below, whole, none, asked, end, one) =
      elim (call_holds keys lawful levels (λ n. get_or list n []) old new
      (OramStore asked line (record { 0 = value })) (record { line = None; end = end }) x.holds
      (below, whole) one) [
        | inl forged ↦ inl forged
        | inr (holds, is) ↦ inr (
          set list line value,
          (refl, none),
          record {
            number = length-set list line value ∙ x.number;
            holds = lines_same (put_at (λ n. get_or list n []) line value) (λ n. get_or (set list line value) n []) new
                (λ n inside. put_in list line value (omega (arith, x.number)) n) holds;
          },
        )
      ]

  pub forgery_line : (old new : OramState) (request : LineRequest) (bytes : List ℕ)
      → OramLine keys levels old request (Ok bytes) new → Forgery keys old.port.tap.log
      → Forgery keys new.port.tap.log
  forgery_line old new (Fetch line) bytes (below, is_line, asked, end, one) f =
      forgery_call keys lawful levels old new (OramFetch asked line) _ one f
  forgery_line old new (Store line value) bytes (below, whole, none, asked, end, one) f =
      forgery_call keys lawful levels old new (OramStore asked line (record { 0 = value })) _ one f

  pub forgery_plan : {B A : Type 0} (plan : Plan LineRequest (List ℕ) B A) (old new : OramState) (a : A)
      → Ends (OramLine keys levels) plan old new a → Forgery keys old.port.tap.log → Forgery keys new.port.tap.log
  forgery_plan (Done x) old new a ends f =
      subst (λ (o : OramState). Forgery keys o.port.tap.log) (sym ends.1) f
  forgery_plan (Ask q b k) old new a (x, mid, one, rest) f =
      forgery_plan (k x) mid new a rest (forgery_line old mid q x one f)

  -- a plan of requests
  pub plan_holds : {B A : Type 0} (plan : Plan LineRequest (List ℕ) B A) (list : List (List ℕ)) (old new : OramState)
      (a : A) → HoldsList keys levels list old → Ends (OramLine keys levels) plan old new a
      → Forgery keys new.port.tap.log
      ⊎ ((now : List (List ℕ)) × Ends (FlatStep {E = Stop}) plan list now a × HoldsList keys levels now new)
  plan_holds (Done x) list old new a held ends =
      inr (list, (ends.0, refl), subst (λ (o : OramState). HoldsList keys levels list o) (sym ends.1) held)
  plan_holds (Ask q b k) list old new a held (x, mid, one, rest) =
      elim (step_holds list old mid q x held one) [
        | inl forged ↦ inl (forgery_plan (k x) mid new a rest forged)
        | inr (between, flat, holds) ↦ elim (plan_holds (k x) between mid new a holds rest) [
          | inl forged ↦ inl forged
          | inr (now, flats, ended) ↦ inr (now, (x, between, flat, flats), ended)
        ]
      ]

  -- what a list of lines tells of itself
  abbrev told : List (List ℕ) → Option (List (List ℕ))
  told list = Some list

  stand_told : (cache : Contents) (list : List (List ℕ)) (memory : List ℕ) → StandFor cache list memory
      → (l : List (List ℕ)) → told list ≡ Some l → StandFor cache l memory
  stand_told cache list memory stands l e =
      let same : list ≡ l = some_is e in subst (λ x. StandFor cache x memory) same stands

  -- An instruction of a core is the flat machine's, or the log shows a forgery.
  pub instruction_refines : (machine : Machine) → IsCore machine.core → machine.core.size ≡ 64 * keys.shape.lines
      → (memory : List ℕ) (old new : OramState) (cache after : Contents) (end : Machine × Finished)
      → Computes keys levels cache memory old
      → Ends (OramLine keys levels) (through (cache_access machine.core.base) (step_plan machine) cache) old new
      (after, end)
      → Forgery keys new.port.tap.log
      ⊎ ((now : List ℕ) × (flat_step machine memory ≡ record { machine = end.0; memory = now; done = end.1 })
      × Computes keys levels after now new)
  instruction_refines machine is long memory old new cache after end x ends =
      elim (plan_holds (through (cache_access machine.core.base) (step_plan machine) cache) x.list old new (after, end)
      x.held ends) [
        | inl forged ↦ inl forged
        | inr (list, flat, held) ↦
            (let (now, step, stands) = told-instruction (FlatStep {E = Stop}) length told FlatStep-length
            (FlatStep-answers Stop) FlatStep-told (FlatStep-fetch Stop)
            (FlatStep-store Stop) keys.shape.lines machine is
            long memory x.list list cache after end x.held.number
            (stand_told cache x.list memory x.stands) flat list refl in
            inr (now, step, record { list = list; held = held; stands = stands }))
      ]

  -- And so is a run.
  pub run_refines : (machine : Machine) → IsCore machine.core → machine.core.size ≡ 64 * keys.shape.lines
      → (n : ℕ) (memory : List ℕ) (old new : OramState) (cache after : Contents) (end : RunEnd)
      → Computes keys levels cache memory old
      → Ends (OramLine keys levels) (through (cache_access machine.core.base) (run_plan n 0 machine) cache) old new
      (after, end)
      → Forgery keys new.port.tap.log
      ⊎ (let run = flat_run n machine memory in
      (run.instructions ≡ end.instructions) × (run.machine ≡ end.machine) × (run.ending ≡ end.ending)
      × Computes keys levels after run.memory new)
  run_refines machine is long n memory old new cache after end x ends =
      elim (plan_holds (through (cache_access machine.core.base) (run_plan n 0 machine) cache) x.list old
      new (after, end)
      x.held ends) [
        | inl forged ↦ inl forged
        | inr (list, flat, held) ↦
            (let (count, same, ending, stands) = told-run (FlatStep {E = Stop}) length told FlatStep-length
            (FlatStep-answers Stop) FlatStep-told (FlatStep-fetch Stop)
            (FlatStep-store Stop) keys.shape.lines machine is
            long n memory x.list list cache after end x.held.number
            (stand_told cache x.list memory x.stands) flat list refl in
            inr (count, same, ending, record { list = list; held = held; stands = stands }))
      ]

  -- A line that is written whole changes its own bytes.
  pub line_refines : (line : ℕ) (value : Line) → line < keys.shape.lines → length value.0 ≡ 64
      → (memory : List ℕ) (old new : OramState) (cache after : Contents) → Computes keys levels cache memory old
      → Ends (OramLine keys levels) (write_line_plan cache line value) old new after
      → Forgery keys new.port.tap.log ⊎ Computes keys levels after (spliced memory (64 * line) value.0) new
  line_refines line value below whole memory old new cache after x ends =
      elim (plan_holds (write_line_plan cache line value) x.list old new after x.held ends) [
        | inl forged ↦ inl forged
        | inr (list, flat, held) ↦ inr (record {
          list = list;
          held = held;
          stands = whole-stands (FlatStep {E = Stop}) length told (FlatStep-answers Stop) FlatStep-told
              (FlatStep-fetch Stop) (FlatStep-store Stop) x.list list cache after line value memory
              (omega (arith, x.held.number)) whole (stand_told cache x.list memory x.stands) flat list refl;
        })
      ]
