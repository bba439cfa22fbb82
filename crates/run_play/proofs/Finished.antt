-- What is taken finishes no instruction.
use Rattle.std.proofs.Common.{◌≡◌, ℕ, Bool, true, false, List, [], ◌∷◌, Option, Some, None, refl, ◌∙◌}
use Rattle.std.specs.Prelude.{min, nat_lt}
use Rattle.asc_base.specs.declared.settings.Config.{Config}
use Rattle.bus_schedule.specs.Timetable.{public_of}
use Rattle.data_cache.specs.CacheLists.{Sets, requests_of, sets_after}
use Rattle.data_cache.specs.Lines.{LineRequest, Fetch, Store}
use Rattle.posmap_lookaside.specs.Walk.{WalkAccess, walk}
use Rattle.run_play.specs.Slots.{Passed, passed}
use Rattle.run_play.specs.Requests.{Standing, Taken, none_taken, followed, one_by_one, request_done, requested}
use Rattle.run_play.specs.Requests.{value_of, take_slot, access_slot, walk_sizes, request_slots}
use Rattle.run_play.specs.Play.{image_use, line_loaded, image_slots}

-- ---- what each of some steps keeps, all of them do
module _ {X : Type 0} (f : Standing → X) where
  pub followed-same : (first : Taken) (rest : Standing → Taken) (late : Option ℕ)
      → ((next : Standing) → f (rest next).standing ≡ f next)
      → f (followed first rest late).standing ≡ f first.standing
  followed-same first rest None same = same first.standing
  followed-same first rest (Some late) same = refl

  pub all-same : {Q : Type 0} (take_one : Standing → Q → Taken)
      → ((now : Standing) (q : Q) → f (take_one now q).standing ≡ f now) → (qs : List Q) (now : Standing)
      → f (one_by_one take_one qs now).standing ≡ f now
  unfolding one_by_one
  all-same take_one each [] now = refl
  all-same take_one each (q ∷ qs) now =
      followed-same (take_one now q) (one_by_one take_one qs) (take_one now q).standing.late
      (all-same take_one each qs) ∙ each now q

-- the instructions that are finished
abbrev pub done_in : Standing → ℕ
done_in now = now.numbers.instructions

module _ (config : Config) where
  slot-done : (value : Option (List ℕ)) (now : Standing) (access : WalkAccess) (before : Passed) (early : Bool)
      → done_in (take_slot config value now access before early).standing ≡ done_in now
  slot-done value now access before true = refl
  slot-done value now access before false = refl

  access-done : (value : Option (List ℕ)) (now : Standing) (access : WalkAccess)
      → done_in (access_slot config value now access).standing ≡ done_in now
  access-done value now access =
      let before : Passed = passed (public_of config) now.numbers (min now.clock config.time) now.pace in
      slot-done value now access before (nat_lt before.pace.beat.next config.time)

  answer-done : (request : LineRequest) (now : Standing) → done_in (request_done request now) ≡ done_in now
  answer-done (Fetch line) now = refl
  answer-done (Store line value) now = refl

  request-done : (now : Standing) (request : LineRequest)
      → done_in (request_slots config now request).standing ≡ done_in now
  request-done now request =
      let walked = walk (walk_sizes config) now.chip (requested request) in
      let done : Taken = one_by_one (access_slot config (value_of request)) walked.accesses now in
      followed-same done_in done (λ after. none_taken (request_done request (record after { chip = walked.chip })))
      done.standing.late (λ after. answer-done request (record after { chip = walked.chip }))
      ∙ all-same done_in (access_slot config (value_of request)) (access-done (value_of request)) walked.accesses now

  pub requests-done : (requests : List LineRequest) (now : Standing)
      → done_in (one_by_one (request_slots config) requests now).standing ≡ done_in now
  requests-done requests now = all-same done_in (request_slots config) request-done requests now

  pub image-done : (memory marked : List ℕ) (sets : Sets) (now : Standing)
      → done_in (image_slots config memory marked sets now).standing ≡ done_in now
  unfolding image_slots
  image-done memory [] sets now = refl
  image-done memory (line ∷ marked) sets now =
      let requests : List LineRequest = requests_of config.ways memory sets (image_use line) in
      let stored : Taken = one_by_one (request_slots config) requests now in
      let done : Taken = followed stored (λ after. none_taken (line_loaded after)) stored.standing.late in
      followed-same done_in done (image_slots config memory marked (sets_after config.ways sets (image_use line)))
      done.standing.late (image-done memory marked (sets_after config.ways sets (image_use line)))
      ∙ followed-same done_in stored (λ after. none_taken (line_loaded after)) stored.standing.late (λ after. refl)
      ∙ requests-done requests now
