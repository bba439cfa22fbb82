-- The data lines after requests.
use Rattle.std.proofs.Common.{◌≡◌, ℕ, Bool, true, false, List, [], ◌∷◌, ◌++◌, Option, Some, None, refl, sym, ap, ◌∙◌}
use Rattle.std.specs.Prelude.{min, nat_lt}
use Rattle.asc_base.specs.declared.settings.Config.{Config}
use Rattle.bus_schedule.specs.Timetable.{public_of}
use Rattle.data_cache.specs.Lines.{LineRequest, Fetch, Store}
use Rattle.posmap_lookaside.specs.Walk.{WalkAccess, walk}
use Rattle.run_play.specs.Slots.{Passed, passed}
use Rattle.run_play.specs.Honest.{stored_by}
use Rattle.run_play.specs.Requests.{StoredLines, Standing, Taken, none_taken, followed, one_by_one, request_done}
use Rattle.run_play.specs.Requests.{requested, value_of, take_slot, access_slot, walk_sizes, request_slots}
use Rattle.run_play.proofs.Finished.{all-same}

pub stored-twice : (lines : StoredLines) (first others : List LineRequest)
    → stored_by lines (first ++ others) ≡ stored_by (stored_by lines first) others
stored-twice lines [] others = refl
stored-twice lines (Fetch line ∷ first) others = stored-twice lines first others
stored-twice lines (Store line value ∷ first) others = stored-twice ((line, value) ∷ lines) first others

abbrev pub data_in : Standing → StoredLines
data_in now = now.data_lines

-- what comes after, where no slot came too late
followed-data : (first : Taken) (rest : Standing → Taken) (late : Option ℕ) (was now : StoredLines)
    → first.standing.late ≡ late → (followed first rest late).standing.late ≡ None
    → (first.standing.late ≡ None → data_in first.standing ≡ was)
    → ((next : Standing) → next.late ≡ None → data_in next ≡ was → (rest next).standing.late ≡ None
    → data_in (rest next).standing ≡ now)
    → data_in (followed first rest late).standing ≡ now
followed-data first rest None was now is fresh one more = more first.standing is (one is) fresh
followed-data first rest (Some late) was now is fresh one more =
    let no : Some late ≡ None = sym is ∙ fresh in absurd cc

module _ (config : Config) where
  slot-data : (value : Option (List ℕ)) (now : Standing) (access : WalkAccess) (before : Passed) (early : Bool)
      → data_in (take_slot config value now access before early).standing ≡ data_in now
  slot-data value now access before true = refl
  slot-data value now access before false = refl

  access-data : (value : Option (List ℕ)) (now : Standing) (access : WalkAccess)
      → data_in (access_slot config value now access).standing ≡ data_in now
  access-data value now access =
      let before : Passed = passed (public_of config) now.numbers (min now.clock config.time) now.pace in
      slot-data value now access before (nat_lt before.pace.beat.next config.time)

  pub walk-data : (value : Option (List ℕ)) (accesses : List WalkAccess) (now : Standing)
      → data_in (one_by_one (access_slot config value) accesses now).standing ≡ data_in now
  walk-data value accesses now = all-same data_in (access_slot config value) (access-data value) accesses now

  pub done-data : (request : LineRequest) (next : Standing)
      → data_in (request_done request next) ≡ stored_by (data_in next) (request ∷ [])
  done-data (Fetch line) next = refl
  done-data (Store line value) next = refl

  pub request-data : (now : Standing) (request : LineRequest) → (request_slots config now request).standing.late ≡ None
      → data_in (request_slots config now request).standing ≡ stored_by (data_in now) (request ∷ [])
  request-data now request fresh =
      let walked = walk (walk_sizes config) now.chip (requested request) in
      let done : Taken = one_by_one (access_slot config (value_of request)) walked.accesses now in
      followed-data done (λ after. none_taken (request_done request (record after { chip = walked.chip })))
      done.standing.late (data_in now) (stored_by (data_in now) (request ∷ [])) refl fresh
      (λ is. walk-data (value_of request) walked.accesses now)
      (λ next is same late. done-data request (record next { chip = walked.chip })
      ∙ ap (λ l. stored_by l (request ∷ [])) same)

  -- where none came too late, they are those that were stored
  pub requests-data : (requests : List LineRequest) (now : Standing)
      → (one_by_one (request_slots config) requests now).standing.late ≡ None
      → data_in (one_by_one (request_slots config) requests now).standing ≡ stored_by (data_in now) requests
  unfolding one_by_one
  requests-data [] now fresh = refl
  requests-data (request ∷ requests) now fresh =
      let first : Taken = request_slots config now request in
      followed-data first (one_by_one (request_slots config) requests) first.standing.late
      (stored_by (data_in now) (request ∷ [])) (stored_by (data_in now) (request ∷ requests)) refl fresh
      (request-data now request)
      (λ next is same late. requests-data requests next late ∙ ap (λ l. stored_by l requests) same
      ∙ sym (stored-twice (data_in now) (request ∷ []) requests))
