-- A stop on the walk of a request cuts the play's request.
use Rattle.std.proofs.Common.{◌≡◌, ◌<◌, ◌≤◌, ◌⊎◌, ℕ, ◌+◌, Bool, true, false, List, [], ◌∷◌, ◌++◌, Option, Some}
use Rattle.std.proofs.Common.{None, min, refl, sym, ap, ◌∙◌, subst, arith, append-nil, append_assoc, inl, inr}
use Rattle.std.specs.Prelude.{nat_lt}
use Rattle.std.specs.Option.{option_map}
use Rattle.std.proofs.lemmas.Bool.{le-ltb}
use Rattle.asc_base.specs.TreeShape.{olat_of}
use Rattle.asc_base.specs.declared.block.Line.{Line}
use Rattle.asc_base.specs.declared.block.Message.{Message}
use Rattle.asc_base.specs.declared.block.Point.TheVariants.{Real}
use Rattle.asc_base.specs.declared.settings.Config.{Config}
use Rattle.asc_base.specs.declared.stop.Stop.{Stop}
use Rattle.asc_base.specs.declared.stop.Stop.TheVariants.{Integrity, StashFull, TimeUp, Device, NoMemory}
use Rattle.bus_schedule.specs.Timetable.{public_of}
use Rattle.data_cache.specs.Lines.{LineRequest}
use Rattle.oram_contents.specs.Entries.{Keys}
use Rattle.oram_contents.specs.Forgery.{Forgery}
use Rattle.oram_walk.specs.declared.slots.Access.{Access}
use Rattle.posmap_lookaside.specs.Walk.{Walked, WalkAccess, walk}
use Rattle.rate_enforcer.specs.PortStep.{PortState}
use Rattle.run_play.specs.Halt as cut
use Rattle.run_play.specs.Halt.{Refused, Overfull, MoveFails, AppendRefused, AppendOverfull, part_of, end_of}
use Rattle.run_play.specs.PlayEvents.{play_events}
use Rattle.run_play.specs.Requests.{Standing, Taken, none_taken, followed, one_by_one, take_slot, access_slot}
use Rattle.run_play.specs.Requests.{request_done, requested, value_of, walk_sizes, request_slots, put_back, message_of}
use Rattle.run_play.specs.Slots.{Pace, Numbers, Slot, Passed, passed, slot_next}
use Rattle.oram_play.specs.InTurn.{AnsweredAccess, answered_slots, slots_in_turn, AreInTurn}
use Rattle.oram_play.specs.OnPlay.{IsAccessOnPlay, IsAppendOnPlay, IsOnPlay, FindsLines}
use Rattle.oram_play.specs.Playing.{IsCut, LeavesOf}
use Rattle.oram_play.specs.Stopped.{WasFound, IsReadCut, IsAccessCut, AccessLeaves, AppendLeaves}
use Rattle.oram_play.specs.StopsInTurn.{StopsAppend, StopsNext, AtAccess, AtAppend, NoRoom, StopsInTurn}
use Rattle.oram_play.specs.Taken.{HasTaken, put_in, with_appended, before_asked, asked_start, asked_slots, slots_taken}
use Rattle.oram_play.specs.Walked.{AreWalked}
use Rattle.oram_play.proofs.CutSlots.{cut-longer}
use Rattle.oram_play.proofs.Plays.{play-access}

-- ---- a slot that was cut among others
-- behind more slots
cut-behind : (levels : ℕ) (slots more taken : List Slot) (stop : cut.Stop) (new : PortState)
    → IsCut levels (slots ++ more) taken stop new → IsCut levels slots (more ++ taken) stop new
cut-behind levels slots more taken stop new c = record {
  before = more ++ c.before;
  slot = c.slot;
  later = c.later;
  are = ap (λ l. more ++ l) c.are ∙ sym (append_assoc more c.before (c.slot ∷ c.later));
  fits = c.fits;
  said = c.said
      ∙ ap (λ l. play_events (l ++ part_of levels stop c.slot ∷ [])) (append_assoc slots more c.before);
  last = c.last;
}

-- before what follows it
cut-followed : (levels : ℕ) (slots : List Slot) (first : Taken) (rest : Standing → Taken) (late : Option ℕ)
    (stop : cut.Stop) (new : PortState) → IsCut levels slots first.slots stop new
    → IsCut levels slots (followed first rest late).slots stop new
cut-followed levels slots first rest None stop new c =
    cut-longer levels slots first.slots (rest first.standing).slots stop new c
cut-followed levels slots first rest (Some late) stop new c = c

-- lists with the same last item
push-same : {X : Type 0} (xs ys : List X) (x y : X) → xs ++ x ∷ [] ≡ ys ++ y ∷ [] → (xs ≡ ys) × (x ≡ y)
push-same [] [] x y e = (refl, cc)
push-same [] (z ∷ []) x y e = absurd cc
push-same [] (z ∷ w ∷ ys) x y e = absurd cc
push-same (z ∷ []) [] x y e = absurd cc
push-same (z ∷ w ∷ xs) [] x y e = absurd cc
push-same (z ∷ xs) (w ∷ ys) x y e =
    let tails : xs ++ x ∷ [] ≡ ys ++ y ∷ [] = cc in
    let head : z ≡ w = cc in
    let rest = push-same xs ys x y tails in
    (ap (λ a. a ∷ xs) head ∙ ap (λ l. w ∷ l) rest.0, rest.1)

module _ (config : Config) (value : Option (List ℕ)) where
  -- what stands in a play behind some accesses that were answered one after another
  abbrev standing_after : Standing → List AnsweredAccess → ℕ → Standing
  standing_after now accesses end =
      record now { pace = (slots_in_turn config now.numbers accesses now.pace).pace; clock = end }

  -- slots behind these
  abbrev behind : List Slot → Taken → Taken
  behind slots more = record { slots = slots ++ more.slots; standing = more.standing }

  -- The first accesses of a walk, and then the others.
  prefix-played : (before rest : List WalkAccess) (accesses : List AnsweredAccess) (now : Standing) (asked end : ℕ)
      → now.late ≡ None → now.clock ≡ asked → AreInTurn config now.numbers asked accesses now.pace end
      → AreWalked config now.data_lines value before accesses
      → one_by_one (access_slot config value) (before ++ rest) now
      ≡ behind (slots_in_turn config now.numbers accesses now.pace).slots
      (one_by_one (access_slot config value) rest (standing_after now accesses end))
  unfolding one_by_one
  prefix-played [] rest [] now asked end late clock turn are =
      ap (λ c. one_by_one (access_slot config value) rest (record now { clock = c })) (clock ∙ sym turn)
  prefix-played (w ∷ ws) rest (one ∷ more) now asked end late clock turn are =
      let others : Standing → Taken = one_by_one (access_slot config value) (ws ++ rest) in
      let first : Taken = slots_taken config now one.access one.line one.appended in
      let its : access_slot config value now w ≡ first =
      play-access config value now w one.access one.line (clock ∙ sym turn.0) are.0.address are.0.counter are.0.put
      turn.1
      ∙ ap (slots_taken config now one.access one.line) are.0.appended in
      let next : Standing = standing_after first.standing more end in
      let later : Taken = one_by_one (access_slot config value) rest next in
      let all : List Slot = (slots_in_turn config now.numbers more first.standing.pace).slots in
      let then : others first.standing ≡ behind all later =
      prefix-played ws rest more first.standing first.standing.clock end late refl turn.2 are.1 in
      ap (λ (f : Taken). followed f others f.standing.late) its
      ∙ ap (followed first others) late
      ∙ ap (behind first.slots) then
      ∙ ap (λ l. let whole : Taken = record { slots = l; standing = later.standing } in whole)
      (sym (append_assoc first.slots all later.slots))
  prefix-played [] rest (one ∷ more) now asked end late clock turn are = absurd are
  prefix-played (w ∷ ws) rest [] now asked end late clock turn are = absurd are

  -- ---- the next access
  -- its dummies, and then its slot, if it isn't too late
  cut-dummies : (levels : ℕ) (slots : List Slot) (now : Standing) (next : WalkAccess) (before : Passed) (early : Bool)
      (stop : cut.Stop) (new : PortState) → IsCut levels slots before.slots stop new
      → IsCut levels slots (take_slot config value now next before early).slots stop new
  cut-dummies levels slots now next before true stop new c = cut-longer levels slots before.slots _ stop new c
  cut-dummies levels slots now next before false stop new c = c

  -- where a request's walk was cut
  module _ (levels : ℕ) (slots : List Slot) (now : Standing) (accesses : List AnsweredAccess) (end : ℕ)
      (late : now.late ≡ None) (turn : AreInTurn config now.numbers now.clock accesses now.pace end)
      (before later : List WalkAccess) (next : WalkAccess)
      (are : AreWalked config now.data_lines value before accesses) (new : PortState) where
    abbrev all : Passed
    all = slots_in_turn config now.numbers accesses now.pace

    abbrev mid : Standing
    mid = standing_after now accesses end

    abbrev others : Standing → Taken
    others = one_by_one (access_slot config value) later

    abbrev first : Taken
    first = access_slot config value mid next

    cut-walk : (stop : cut.Stop) → IsCut levels (slots ++ all.slots) first.slots stop new
        → IsCut levels slots (one_by_one (access_slot config value) (before ++ next ∷ later) now).slots stop new
    unfolding one_by_one
    cut-walk stop c =
        subst (λ (t : Taken). IsCut levels slots t.slots stop new)
        (sym (prefix-played before (next ∷ later) accesses now now.clock end late refl turn are))
        (cut-behind levels slots all.slots (followed first others first.standing.late).slots stop new
        (cut-followed levels (slots ++ all.slots) first others first.standing.late stop new c))

    -- at an access, of which a line's message is put back, where it is found
    module _ (access : Access) (its : Line) (asked_is : access.asked ≡ end) (address : next.address ≡ access.address.0)
        (counter : next.counter ≡ access.counter)
        (put : put_back config now.data_lines value next next.purpose ≡ put_in access its access.purpose) where
      abbrev appended : Option Message
      appended = option_map (message_of config next.counters now.data_lines) next.displaced

      -- the dummies before it
      dummies-cut : (stop : cut.Stop)
          → IsCut levels (slots ++ all.slots) (before_asked config now.numbers all.pace access).slots stop new
          → IsCut levels (slots ++ all.slots) first.slots stop new
      dummies-cut stop c =
          let passes : Passed = before_asked config now.numbers all.pace access in
          let same : first ≡ take_slot config value mid next passes (nat_lt passes.pace.beat.next config.time) =
          ap (λ c. let b : Passed = passed (public_of config) now.numbers (min c config.time) all.pace in
          take_slot config value mid next b (nat_lt b.pace.beat.next config.time)) (sym asked_is) in
          subst (λ (t : Taken). IsCut levels (slots ++ all.slots) t.slots stop new) (sym same)
          (cut-dummies levels (slots ++ all.slots) mid next passes (nat_lt passes.pace.beat.next config.time) stop new
          c)

      -- its own slot
      own-slot : asked_start config now.numbers all.pace access < config.time
          → first ≡ slots_taken config mid access its appended
      own-slot soon = play-access config value mid next access its (sym asked_is) address counter put soon

      -- how it was cut
      abbrev Parts : Keys → cut.Stop → PortState → Config → Type 0
      Parts keys stop old x =
          IsCut levels (slots ++ all.slots) (before_asked x now.numbers all.pace access).slots stop new
          ⊎ ((asked_start x now.numbers all.pace access < x.time)
          × (((line : Line) (appended : Option Message) → IsCut levels (slots ++ all.slots)
          (asked_slots x now.numbers all.pace access line appended).slots stop new)
          ⊎ ((line : Line) × WasFound keys access line old new × ((appended : Option Message)
          → IsCut levels (slots ++ all.slots) (asked_slots x now.numbers all.pace access line appended).slots
          stop new))))

      access-cut : (keys : Keys) (stop : cut.Stop) (old : PortState)
          → ((line : Line) → WasFound keys access line old new → Forgery keys new.tap.log ⊎ (line ≡ its))
          → old.clock.config ≡ config
          → IsAccessCut keys levels now.numbers (slots ++ all.slots) all.pace access old stop new
          → Forgery keys new.tap.log ⊎ IsCut levels (slots ++ all.slots) first.slots stop new
      access-cut keys stop old right same c = by_part (subst (Parts keys stop old) same c)
        where
          at_own : asked_start config now.numbers all.pace access < config.time
              → IsCut levels (slots ++ all.slots) (asked_slots config now.numbers all.pace access its appended).slots
              stop new
              → IsCut levels (slots ++ all.slots) first.slots stop new
          at_own soon c =
              subst (λ (t : Taken). IsCut levels (slots ++ all.slots) t.slots stop new) (sym (own-slot soon)) c

          by_part : Parts keys stop old config
              → Forgery keys new.tap.log ⊎ IsCut levels (slots ++ all.slots) first.slots stop new
          by_part (inl c) = inr (dummies-cut stop c)
          by_part (inr (soon, inl c)) = inr (at_own soon (c its appended))
          by_part (inr (soon, inr (line, found, c))) = elim (right line found) [
            | inl forged ↦ inl forged
            | inr is ↦ inr (at_own soon (subst (λ l. IsCut levels (slots ++ all.slots)
                (asked_slots config now.numbers all.pace access l appended).slots stop new) is (c appended)))
          ]

-- ---- the last of some accesses
turn-last : (config : Config) (numbers : Numbers) (first : List AnsweredAccess) (last : AnsweredAccess) (pace : Pace)
    → (slots_in_turn config numbers (first ++ last ∷ []) pace).slots
    ≡ (slots_in_turn config numbers first pace).slots
    ++ (answered_slots config numbers (slots_in_turn config numbers first pace).pace last).slots
turn-last config numbers [] last pace = append-nil (answered_slots config numbers pace last).slots
turn-last config numbers (one ∷ more) last pace =
    let its = answered_slots config numbers pace one in
    ap (λ l. its.slots ++ l) (turn-last config numbers more last its.pace)
    ∙ sym (append_assoc its.slots (slots_in_turn config numbers more its.pace).slots
    (answered_slots config numbers (slots_in_turn config numbers more its.pace).pace last).slots)

turn-parts : (config : Config) (numbers : Numbers) (first : List AnsweredAccess) (last : AnsweredAccess) (asked : ℕ)
    (pace : Pace) (end : ℕ) → AreInTurn config numbers asked (first ++ last ∷ []) pace end
    → (mid : ℕ) × AreInTurn config numbers asked first pace mid × (last.access.asked ≡ mid)
    × (asked_start config numbers (slots_in_turn config numbers first pace).pace last.access < config.time)
turn-parts config numbers [] last asked pace end h = (asked, refl, h.0, h.1)
turn-parts config numbers (one ∷ more) last asked pace end h =
    let start = asked_start config numbers pace one.access in
    let rest = turn-parts config numbers more last (start + olat_of config.shape.levels)
    (answered_slots config numbers pace one).pace end h.2 in
    (rest.0, (h.0, h.1, rest.1), rest.2, rest.3)

-- ---- a request
module _ (keys : Keys) (levels : ℕ) (config : Config) (now : Standing) (request : LineRequest) (slots : List Slot)
    (stop : Stop) (old new : PortState) (late : now.late ≡ None) where
  abbrev value : Option (List ℕ)
  value = value_of request

  abbrev walked : Walked
  walked = walk (walk_sizes config) now.chip (requested request)

  abbrev done : Taken
  done = one_by_one (access_slot config value) walked.accesses now

  abbrev finish : Standing → Taken
  finish after = none_taken (request_done request (record after { chip = walked.chip }))

  request-cut : (stop : cut.Stop) (accesses : List WalkAccess) → walked.accesses ≡ accesses
      → IsCut levels slots (one_by_one (access_slot config value) accesses now).slots stop new
      → IsCut levels slots (request_slots config now request).slots stop new
  request-cut stop accesses same c =
      cut-followed levels slots done finish done.standing.late stop new
      (subst (λ l. IsCut levels slots (one_by_one (access_slot config value) l now).slots stop new) (sym same) c)

  module _ (accesses : List AnsweredAccess) (end : ℕ)
      (turn : AreInTurn config now.numbers now.clock accesses now.pace end) where
    abbrev taken : Passed
    taken = slots_in_turn config now.numbers accesses now.pace

    -- at an access
    module _ (access : Access) (line : Line) (asked_is : access.asked ≡ end) (same : old.clock.config ≡ config)
        (on : IsAccessOnPlay config now request accesses access line)
        (right : (other : Line) → WasFound keys access other old new → Forgery keys new.tap.log ⊎ (other ≡ line)) where
      cut-at : (how : cut.Stop)
          → IsAccessCut keys levels now.numbers (slots ++ taken.slots) taken.pace access old how new
          → Forgery keys new.tap.log ⊎ IsCut levels slots (request_slots config now request).slots how new
      cut-at how c =
          elim (access-cut config value levels slots now accesses end late turn on.before on.later on.next on.walked new
          access line asked_is on.address on.counter on.put keys how old right same c) [
            | inl forged ↦ inl forged
            | inr its ↦ inr (request-cut how (on.before ++ on.next ∷ on.later) on.are
                (cut-walk config value levels slots now accesses end late turn on.before on.later on.next on.walked new
                how its))
          ]

      -- where no slot is left
      abbrev passes : Passed
      passes = before_asked config now.numbers taken.pace access

      abbrev left : Taken
      left = record {
        slots = passes.slots;
        standing = record (standing_after config value now accesses end) {
          pace = passes.pace;
          late = Some passes.pace.beat.next;
        };
      }

      request-late : config.time ≤ passes.pace.beat.next
          → request_slots config now request ≡ behind config value taken.slots left
      unfolding one_by_one
      request-late far =
          let mid : Standing = standing_after config value now accesses end in
          let others : Standing → Taken = one_by_one (access_slot config value) on.later in
          let its : access_slot config value mid on.next ≡ left =
          ap (λ c. let b : Passed = passed (public_of config) now.numbers (min c config.time) taken.pace in
          take_slot config value mid on.next b (nat_lt b.pace.beat.next config.time)) (sym asked_is)
          ∙ ap (take_slot config value mid on.next passes) (le-ltb passes.pace.beat.next config.time far) in
          let whole : done ≡ behind config value taken.slots left =
          ap (λ l. one_by_one (access_slot config value) l now) on.are
          ∙ prefix-played config value on.before (on.next ∷ on.later) accesses now now.clock end late refl turn
          on.walked
          ∙ ap (λ (f : Taken). behind config value taken.slots (followed f others f.standing.late)) its in
          ap (λ (t : Taken). followed t finish t.standing.late) whole

      at-access : AccessLeaves keys levels now.numbers (slots ++ taken.slots) taken.pace access old stop new
          → Forgery keys new.tap.log ⊎ LeavesOf levels slots (request_slots config now request) stop new
      at-access = by_stop stop
        where
          either : {how : cut.Stop}
              → IsReadCut keys levels now.numbers (slots ++ taken.slots) taken.pace access old how new
              → IsAccessCut keys levels now.numbers (slots ++ taken.slots) taken.pace access old how new
          either (inl c) = inl c
          either (inr (soon, c)) = inr (soon, inl c)

          so : {X : Type 0} (how : cut.Stop)
              → (IsCut levels slots (request_slots config now request).slots how new → X)
              → IsAccessCut keys levels now.numbers (slots ++ taken.slots) taken.pace access old how new
              → Forgery keys new.tap.log ⊎ X
          so how leaves c = elim (cut-at how c) [
            | inl forged ↦ inl forged
            | inr its ↦ inr (leaves its)
          ]

          by_stop : (s : Stop) → AccessLeaves keys levels now.numbers (slots ++ taken.slots) taken.pace access old s new
              → Forgery keys new.tap.log ⊎ LeavesOf levels slots (request_slots config now request) s new
          by_stop (Integrity evidence) c =
              so (Refused evidence) (λ its. (Refused evidence, refl, its)) (either c)
          by_stop (StashFull held) c = so (Overfull held) (λ its. (Overfull held, refl, its)) c
          by_stop (TimeUp at) c =
              let (has, is, far, last) = subst (λ (x : Config).
              let b = before_asked x now.numbers taken.pace access in
              HasTaken new ((slots ++ taken.slots) ++ b.slots) b.pace × (at ≡ b.pace.beat.next) × (x.time ≤ at)
              × (new.clock.last ≡ b.pace.heard.ended)) same c in
              inr (subst (λ (t : Taken). (t.standing.late ≡ Some at) × HasTaken new (slots ++ t.slots) t.standing.pace
              × (new.clock.last ≡ t.standing.pace.heard.ended)) (sym (request-late (omega (arith, far, is)))) (
                ap Some (sym is),
                subst (λ l. HasTaken new l passes.pace) (append_assoc slots taken.slots passes.slots) has,
                last,
              ))
          by_stop Device (move, c) = so (MoveFails move) (λ its. (MoveFails move, refl, its)) c
          by_stop NoMemory c = inr tt

    -- at an append
    module _ (x : StopsAppend levels (slots ++ taken.slots) stop new)
        (on : IsAppendOnPlay config now request accesses x.message) where
      abbrev firsts : Passed
      firsts = slots_in_turn config now.numbers on.first now.pace

      abbrev before_last : Passed
      before_last = before_asked config now.numbers firsts.pace on.last.access

      -- its slot, behind which this is appended
      abbrev own : Option Message → Slot
      own appended = slot_next (public_of config) before_last.pace now.numbers (Some on.last.access.asked)
          (Real on.last.access.address on.last.access.counter)
          (put_in on.last.access on.last.line on.last.access.purpose) appended

      parts : (mid : ℕ) × AreInTurn config now.numbers now.clock on.first now.pace mid × (on.last.access.asked ≡ mid)
          × (asked_start config now.numbers firsts.pace on.last.access < config.time)
      parts = turn-parts config now.numbers on.first on.last now.clock now.pace end
          (subst (λ l. AreInTurn config now.numbers now.clock l now.pace end) on.parts turn)

      split : (((slots ++ firsts.slots) ++ before_last.slots) ≡ x.before) × (own on.last.appended ≡ x.slot)
      split =
          push-same ((slots ++ firsts.slots) ++ before_last.slots) x.before (own on.last.appended) x.slot
          (append_assoc (slots ++ firsts.slots) before_last.slots (own on.last.appended ∷ [])
          ∙ append_assoc slots firsts.slots (before_last.slots ++ own on.last.appended ∷ [])
          ∙ ap (λ l. slots ++ l) (sym (turn-last config now.numbers on.first on.last now.pace))
          ∙ ap (λ l. slots ++ (slots_in_turn config now.numbers l now.pace).slots) (sym on.parts)
          ∙ x.are)

      append-cut : (how : cut.Stop) → IsCut levels x.before (with_appended x.slot x.message ∷ []) how new
          → IsCut levels slots (request_slots config now request).slots how new
      append-cut how c =
          let (mid, first_turn, asked_is, soon) = parts in
          let its : IsCut levels ((slots ++ firsts.slots) ++ before_last.slots) (own (Some x.message) ∷ []) how new =
          subst (λ l. IsCut levels l (own (Some x.message) ∷ []) how new) (sym split.0)
          (subst (λ (s : Slot). IsCut levels x.before (with_appended s x.message ∷ []) how new) (sym split.1) c) in
          let play : access_slot config value (standing_after config value now on.first mid) on.next
          ≡ slots_taken config (standing_after config value now on.first mid) on.last.access on.last.line
          (Some x.message) =
          play-access config value (standing_after config value now on.first mid) on.next on.last.access on.last.line
          (sym asked_is) on.is.address on.is.counter on.is.put soon
          ∙ ap (slots_taken config (standing_after config value now on.first mid) on.last.access on.last.line)
          on.is.appended in
          request-cut how (on.before ++ on.next ∷ on.later) on.are
          (cut-walk config value levels slots now on.first mid late first_turn on.before on.later on.next on.walked new
          how
          (subst (λ (t : Taken). IsCut levels (slots ++ firsts.slots) t.slots how new) (sym play)
          (cut-behind levels (slots ++ firsts.slots) before_last.slots (own (Some x.message) ∷ []) how new its)))

      at-append : LeavesOf levels slots (request_slots config now request) stop new
      at-append = by_stop stop x.leaves
        where
          by_stop : (s : Stop) → AppendLeaves levels x.before x.slot x.message s new
              → LeavesOf levels slots (request_slots config now request) s new
          by_stop (Integrity evidence) c = (AppendRefused evidence, refl, append-cut (AppendRefused evidence) c)
          by_stop (StashFull held) c = (AppendOverfull held, refl, append-cut (AppendOverfull held) c)
          by_stop (TimeUp at) c = absurd c
          by_stop Device c = absurd c
          by_stop NoMemory c = absurd c

-- A stop on a request's walk cuts the play's request, where what is found is a memory's.
pub request-left : (keys : Keys) (levels : ℕ) (config : Config) (now : Standing) (request : LineRequest)
    (slots : List Slot) (stop : Stop) (new : PortState) → now.late ≡ None
    → (stops : StopsInTurn keys levels config now.numbers now.clock slots now.pace stop new) (lines : ℕ → Line)
    → IsOnPlay config now request stops.accesses lines stops.next → FindsLines lines stops.next
    → Forgery keys new.tap.log ⊎ LeavesOf levels slots (request_slots config now request) stop new
request-left keys levels config now request slots stop new late stops lines = by_next stops.next
  where
    by_next : (next : StopsNext keys levels now.numbers stops.end
        (slots ++ (slots_in_turn config now.numbers stops.accesses now.pace).slots)
        (slots_in_turn config now.numbers stops.accesses now.pace).pace stop stops.mid new)
        → IsOnPlay config now request stops.accesses lines next → FindsLines lines next
        → Forgery keys new.tap.log ⊎ LeavesOf levels slots (request_slots config now request) stop new
    by_next (AtAccess x) on right =
        at-access keys levels config now request slots stop stops.mid new late stops.accesses stops.end stops.in_turn
        x.access (lines x.access.address.0) x.asked_is stops.config_is on right x.leaves
    by_next (AtAppend x) on right =
        inr (at-append keys levels config now request slots stop stops.mid new late stops.accesses stops.end
        stops.in_turn x on)
    by_next (NoRoom none) on right =
        inr (subst (λ s. LeavesOf levels slots (request_slots config now request) s new) (sym none) tt)
