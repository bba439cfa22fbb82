-- Requests that are called one after another, each at the play's clock, take the slots of the play.
use Rattle.std.proofs.Common.{◌≡◌, ◌++◌, ℕ, List, [], ◌∷◌, Option, None, Some, refl, sym, ap, ◌∙◌}
use Rattle.asc_base.specs.declared.settings.Config.{Config}
use Rattle.data_cache.specs.Lines.{LineRequest}
use Rattle.run_play.specs.Requests.{Standing, Taken, followed, one_by_one, request_slots}
use Rattle.run_play.specs.Slots.{Slot}
use Rattle.oram_play.specs.InCalls.{PlayCall, Requests, calls_slots}

module _ (config : Config) where
  -- requests as calls, each where the play stands then
  in_turn : Standing → List LineRequest → List PlayCall
  in_turn now [] = []
  in_turn now (request ∷ requests) =
      Requests now.clock now.numbers request ∷ in_turn (request_slots config now request).standing requests

  all_slots : (now : Standing) (requests : List LineRequest)
      → (one_by_one (request_slots config) requests now).standing.late ≡ None
      → calls_slots config now (in_turn now requests) ≡ (one_by_one (request_slots config) requests now).slots
  unfolding one_by_one in_turn
  all_slots now [] none = refl
  all_slots now (request ∷ requests) none =
      by_late (λ in_time. all_slots first.standing requests in_time) first.standing.late refl none
    where
      first : Taken
      first = request_slots config now request

      rest : Standing → Taken
      rest = one_by_one (request_slots config) requests

      by_late : ((rest first.standing).standing.late ≡ None
          → calls_slots config first.standing (in_turn first.standing requests) ≡ (rest first.standing).slots)
          → (late : Option ℕ) → first.standing.late ≡ late → (followed first rest late).standing.late ≡ None
          → first.slots ++ calls_slots config first.standing (in_turn first.standing requests)
          ≡ (followed first rest late).slots
      by_late others None is none = ap (λ (slots : List Slot). first.slots ++ slots) (others none)
      by_late others (Some at) is none =
          absurd (let bad : ◌≡◌ {A = Option ℕ} None (Some at) = sym none ∙ is in cc)
