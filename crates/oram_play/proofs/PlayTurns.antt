-- The slots of accesses one after another are those of a play's request.
use Rattle.std.proofs.Common.{◌≡◌, ℕ, List, [], ◌∷◌, ◌++◌, Option, None, refl, sym, ap, ◌∙◌, append-nil}
use Rattle.asc_base.specs.declared.settings.Config.{Config}
use Rattle.data_cache.specs.Lines.{LineRequest}
use Rattle.posmap_lookaside.specs.Walk.{Walked, WalkAccess, walk}
use Rattle.run_play.specs.Requests.{Standing, Taken, none_taken, followed, one_by_one, access_slot, request_done}
use Rattle.run_play.specs.Requests.{requested, value_of, walk_sizes, request_slots}
use Rattle.run_play.specs.Slots.{Slot}
use Rattle.oram_play.specs.Taken.{slots_taken}
use Rattle.oram_play.specs.InTurn.{AnsweredAccess, AreInTurn}
use Rattle.oram_play.specs.Walked.{IsWalked, AreWalked, taken_in_turn}
use Rattle.oram_play.proofs.Plays.{play-access}

module _ (config : Config) (value : Option (List ℕ)) where
  -- one of them
  first-played : (now : Standing) (asked end : ℕ) (walked : WalkAccess) (one : AnsweredAccess)
      (more : List AnsweredAccess) → now.clock ≡ asked → AreInTurn config now.numbers asked (one ∷ more) now.pace end
      → IsWalked config now.data_lines value walked one
      → access_slot config value now walked ≡ slots_taken config now one.access one.line one.appended
  first-played now asked end walked one more clock turn is =
      play-access config value now walked one.access one.line (clock ∙ sym turn.0) is.address is.counter is.put turn.1
      ∙ ap (slots_taken config now one.access one.line) is.appended

  pub turns-played : (walked : List WalkAccess) (accesses : List AnsweredAccess) (now : Standing) (asked end : ℕ)
      → now.late ≡ None → now.clock ≡ asked → AreInTurn config now.numbers asked accesses now.pace end
      → AreWalked config now.data_lines value walked accesses
      → one_by_one (access_slot config value) walked now ≡ taken_in_turn config now accesses end
  unfolding one_by_one
  turns-played [] [] now asked end late clock turn are =
      ap (λ c. none_taken (record now { clock = c })) (clock ∙ sym turn)
  turns-played (w ∷ ws) (one ∷ more) now asked end late clock turn are =
      let rest : Standing → Taken = one_by_one (access_slot config value) ws in
      let first : Taken = slots_taken config now one.access one.line one.appended in
      let others : rest first.standing ≡ taken_in_turn config first.standing more end =
      turns-played ws more first.standing first.standing.clock end late refl turn.2 are.1 in
      ap (λ (f : Taken). followed f rest f.standing.late) (first-played now asked end w one more clock turn are.0)
      ∙ ap (followed first rest) late
      ∙ ap (λ (m : Taken). let all : Taken = record { slots = first.slots ++ m.slots; standing = m.standing } in all)
      others
  turns-played [] (one ∷ more) now asked end late clock turn are = absurd are
  turns-played (w ∷ ws) [] now asked end late clock turn are = absurd are

-- a whole request
pub request-played : (config : Config) (now : Standing) (request : LineRequest) (accesses : List AnsweredAccess)
    (end : ℕ) → now.late ≡ None → AreInTurn config now.numbers now.clock accesses now.pace end
    → (let walked = walk (walk_sizes config) now.chip (requested request) in
    AreWalked config now.data_lines (value_of request) walked.accesses accesses
    → request_slots config now request
    ≡ (let taken = taken_in_turn config now accesses end in
    record {
      slots = taken.slots;
      standing = request_done request (record taken.standing { chip = walked.chip });
    }))
request-played config now request accesses end late turn are =
    let walked : Walked = walk (walk_sizes config) now.chip (requested request) in
    let finish : Standing → Taken =
    λ after. none_taken (request_done request (record after { chip = walked.chip })) in
    let taken : Taken = taken_in_turn config now accesses end in
    let done = turns-played config (value_of request) walked.accesses accesses now now.clock end late refl turn are in
    ap (λ (t : Taken). followed t finish t.standing.late) done
    ∙ ap (followed taken finish) late
    ∙ ap (λ (l : List Slot).
    let all : Taken = record { slots = l; standing = (finish taken.standing).standing } in all)
    (append-nil taken.slots)
