-- Plays in whose slots nothing is tagged, as in dummies: none finds too many blocks to keep.
use Rattle.std.proofs.Common.{◌≡◌, ◌≤◌, ◌+◌, ◌*◌, ◌^◌, inl, inr, ℕ, zero, suc, Bool, true, false, if◌then◌else◌, List}
use Rattle.std.proofs.Common.{[], ◌∷◌, ◌++◌, length, take, Option, None, Some, refl, sym, ap, subst, arith}
use Rattle.std.proofs.Common.{length-append}
use Rattle.std.specs.Prelude.{slice_get, nat_le, nat_lt}
use Rattle.std.specs.Option.{option_map_or}
use Rattle.std.proofs.lemmas.List.{length-map}
use Rattle.asc_base.proofs.Members.{has_last, has_map, has_flat_map}
use Rattle.asc_base.proofs.ShapeFacts.{shape_layered}
use Rattle.asc_base.specs.Has.{Has}
use Rattle.asc_base.specs.Shape.{IsShape}
use Rattle.asc_base.specs.declared.block.Message.{Message}
use Rattle.bus_schedule.specs.Timetable.{Public, public_of}
use Rattle.bus_watch.specs.declared.log.Event.TheVariants.{Tagged}
use Rattle.log_replay.proofs.UntaggedLogs.{untagged_other}
use Rattle.oram_contents.specs.Entries.{Keys}
use Rattle.run_play.specs.Halt as cut
use Rattle.run_play.specs.Halt.{Refused, Overfull, MoveFails, AppendRefused, AppendOverfull, before_put, after_put}
use Rattle.run_play.specs.Halt.{part_of, cut_at, halt}
use Rattle.run_play.specs.Play.{Play}
use Rattle.run_play.specs.PlayEvents.{PlayEvent, Starts, Draws, Tags, Chooses, tags_of, chooses_of, slot_events}
use Rattle.run_play.specs.PlayEvents.{play_events}
use Rattle.run_play.specs.Programs.{jump_words, play_at}
use Rattle.run_play.specs.Rows.{short_time}
use Rattle.run_play.specs.Slots.{Numbers, Pace, Slot, first_pace, pace_after, pass_one, pass_up_to}
use Rattle.run_play.proofs.Jumps.{short_end, short-play}
use Rattle.secure_machine.specs.Full.{noted, log_of, NoSlotIsFull, TagsNothing}

-- what is taken of a list stands in it, and so does what is got
has_take : {A : Type 0} (k : ℕ) (xs : List A) (x : A) → Has x (take k xs) → Has x xs
has_take zero xs x h = absurd h
has_take (suc k) [] x h = absurd h
has_take (suc k) (y ∷ xs) x (inl is) = inl is
has_take (suc k) (y ∷ xs) x (inr h) = inr (has_take k xs x h)

has_get : {A : Type 0} (k : ℕ) (xs : List A) (x : A) → slice_get xs k ≡ Some x → Has x xs
has_get k [] x is = absurd (cc)
has_get zero (y ∷ xs) x is = inl (let same : y ≡ x = cc in sym same)
has_get (suc k) (y ∷ xs) x is = inr (has_get k xs x is)

-- fewer are taken before one that is got
take_few : {A : Type 0} (k : ℕ) (xs : List A) (x : A) → slice_get xs k ≡ Some x → length (take k xs) + 1 ≤ length xs
take_few k [] x is = absurd (cc)
take_few zero (y ∷ xs) x is = omega arith
take_few (suc k) (y ∷ xs) x is = let rest = take_few k xs x is in omega (arith, rest)

-- ---- events
no_tags : (m : Message) (message : Option Message) → message ≡ None → Has (Tags m) (tags_of message) → ⊥
no_tags m None is h = h
no_tags m (Some other) is h = absurd (cc)

no_choice_tags : (m : Message) (index : Option ℕ) → Has (Tags m) (chooses_of index) → ⊥
no_choice_tags m None h = h
no_choice_tags m (Some index) (inl is) = cc
no_choice_tags m (Some index) (inr h) = h

slot_silent : (slot : Slot) (m : Message) → TagsNothing slot → Has (Tags m) (slot_events slot) → ⊥
slot_silent slot m none h =
    let put = subst (λ o. Has (Tags m) (Starts slot.start slot.asked ∷ Draws slot.point ∷ []
    ++ tags_of o ++ chooses_of slot.chosen ++ tags_of slot.appended)) none.0 h in
    let bare = subst (λ o. Has (Tags m) (Starts slot.start slot.asked ∷ Draws slot.point ∷ []
    ++ [] ++ chooses_of slot.chosen ++ tags_of o)) none.1 put in
    by_choice slot.chosen bare
  where
    by_choice : (index : Option ℕ)
        → Has (Tags m) (Starts slot.start slot.asked ∷ Draws slot.point ∷ [] ++ [] ++ chooses_of index ++ []) → ⊥
    by_choice None (inl is) = cc
    by_choice None (inr (inl is)) = cc
    by_choice None (inr (inr h)) = h
    by_choice (Some index) (inl is) = cc
    by_choice (Some index) (inr (inl is)) = cc
    by_choice (Some index) (inr (inr (inl is))) = cc
    by_choice (Some index) (inr (inr (inr h))) = h

noted_tags : (keys : Keys) (m : Message) (e : PlayEvent) → Tagged m ≡ noted keys e → e ≡ Tags m
noted_tags keys m (Starts start asked) is = absurd (cc)
noted_tags keys m (Draws point) is = absurd (cc)
noted_tags keys m (Tags other) is = let same : m ≡ other = cc in ap Tags (sym same)
noted_tags keys m (Chooses index) is = absurd (cc)

few_tags : (message : Option Message) → length (tags_of message) ≤ 1
few_tags None = omega arith
few_tags (Some m) = omega arith

few_choices : (index : Option ℕ) → length (chooses_of index) ≤ 1
few_choices None = omega arith
few_choices (Some index) = omega arith

slot_few : (slot : Slot) → length (slot_events slot) ≤ 5
slot_few slot =
    let put = few_tags slot.put in
    let chosen = few_choices slot.chosen in
    let appended = few_tags slot.appended in
    let first = length-append (tags_of slot.put ++ chooses_of slot.chosen) (tags_of slot.appended) in
    let second = length-append (tags_of slot.put) (chooses_of slot.chosen) in
    omega (arith, put, chosen, appended, first, second)

events_few : (slots : List Slot) → length (play_events slots) ≤ 5 * length slots
events_few [] = omega arith
events_few (slot ∷ slots) =
    let one = slot_few slot in
    let rest = events_few slots in
    let both = length-append (slot_events slot) (play_events slots) in
    omega (arith, one, rest, both)

-- ---- the slots of a play that is cut
part_silent : (levels : ℕ) (stop : cut.Stop) (slot : Slot) → TagsNothing slot → TagsNothing (part_of levels stop slot)
part_silent levels (Refused evidence) slot none = (refl, refl)
part_silent levels (Overfull held) slot none = (none.0, refl)
part_silent levels (MoveFails move) slot none = by_test (nat_le move levels)
  where
    by_test : (b : Bool) → TagsNothing (if b then before_put slot else after_put slot)
    by_test true = (refl, refl)
    by_test false = (none.0, refl)
part_silent levels (AppendRefused evidence) slot none = none
part_silent levels (AppendOverfull held) slot none = none

module _ (levels : ℕ) (whole : Play) (none : (slot : Slot) → Has slot whole.slots → TagsNothing slot) where
  cut_silent : (k : ℕ) (stop : cut.Stop) (slot : Slot) → Has slot (halt levels whole k stop).slots → TagsNothing slot
  cut_silent zero stop slot h = absurd h
  cut_silent (suc k) stop slot h = by_slot (slice_get whole.slots k) refl h
    where
      by_slot : (found : Option Slot) → slice_get whole.slots k ≡ found
          → Has slot (option_map_or (cut_at levels stop (take k whole.slots)) found whole).slots → TagsNothing slot
      by_slot None is h = none slot h
      by_slot (Some one) is h =
          elim (has_last slot (part_of levels stop one) (take k whole.slots) h) [
            | inl before ↦ none slot (has_take k whole.slots slot before)
            | inr same ↦ subst TagsNothing (sym same)
                (part_silent levels stop one (none one (has_get k whole.slots one is)))
          ]

-- a cut has no more slots
pub cut_few : (levels : ℕ) (whole : Play) (k : ℕ) (stop : cut.Stop)
    → length (halt levels whole k stop).slots ≤ length whole.slots
cut_few levels whole zero stop = omega arith
cut_few levels whole (suc k) stop = by_slot (slice_get whole.slots k) refl
  where
    by_slot : (found : Option Slot) → slice_get whole.slots k ≡ found
        → length (option_map_or (cut_at levels stop (take k whole.slots)) found whole).slots ≤ length whole.slots
    by_slot None is = omega arith
    by_slot (Some one) is =
        let few = take_few k whole.slots one is in
        let parts = length-append (take k whole.slots) (part_of levels stop one ∷ []) in
        omega (arith, few, parts)

-- A play in whose slots nothing is tagged never finds too many blocks.
pub without_tags : (keys : Keys) → IsShape keys.shape → (stash : ℕ) (whole : Play) → length whole.slots ≤ 2 ^ 53
    → ((slot : Slot) → Has slot whole.slots → TagsNothing slot) → NoSlotIsFull keys stash whole
without_tags keys shape stash whole few none k stop held ends full =
    let run : Play = halt keys.shape.levels whole k stop in
    let some = cut_few keys.shape.levels whole k stop in
    let events = events_few run.slots in
    let same = length-map (play_events run.slots) (noted keys) in
    untagged_other keys (shape_layered keys.shape shape).levels_to stash held (log_of keys run) refl
    (omega (arith, few, some, events, same))
    (λ m h.
    let said = has_map (noted keys) (Tagged m) (play_events run.slots) h in
    let tags = subst (λ (e : PlayEvent). Has e (play_events run.slots)) (noted_tags keys m said.0 said.2) said.1 in
    let at = has_flat_map slot_events (Tags m) run.slots tags in
    slot_silent at.0 m (cut_silent keys.shape.levels whole none k stop at.0 at.1) at.2) full

-- ---- dummies
-- nothing is tagged in slots that pass
passed_silent : (p : Public) (numbers : Numbers) (most time : ℕ) (pace : Pace) (slot : Slot)
    → Has slot (pass_up_to p numbers most time pace).slots → TagsNothing slot
unfolding pass_up_to
passed_silent p numbers zero time pace slot h = absurd h
passed_silent p numbers (suc most) time pace slot h =
    by_test (nat_lt pace.beat.next time) (passed_silent p numbers most time (pace_after p pace None) slot) h
  where
    by_test : (b : Bool)
        → (Has slot (pass_up_to p numbers most time (pace_after p pace None)).slots → TagsNothing slot)
        → Has slot (pass_one p numbers (pass_up_to p numbers most time) pace b).slots → TagsNothing slot
    by_test false rest h = absurd h
    by_test true rest (inl is) = subst TagsNothing (sym is) (refl, refl)
    by_test true rest (inr h) = rest h

passed_few : (p : Public) (numbers : Numbers) (most time : ℕ) (pace : Pace)
    → length (pass_up_to p numbers most time pace).slots ≤ most
unfolding pass_up_to
passed_few p numbers zero time pace = omega arith
passed_few p numbers (suc most) time pace =
    by_test (nat_lt pace.beat.next time) (passed_few p numbers most time (pace_after p pace None))
  where
    by_test : (b : Bool) → length (pass_up_to p numbers most time (pace_after p pace None)).slots ≤ most
        → length (pass_one p numbers (pass_up_to p numbers most time) pace b).slots ≤ suc most
    by_test false rest = omega arith
    by_test true rest = omega (arith, rest)

-- The eight dummies of a program that jumps to itself find room, whatever the stash.
pub jumps_have_room : (keys : Keys) → IsShape keys.shape → (stash : ℕ)
    → NoSlotIsFull keys stash (play_at short_time 0 jump_words)
jumps_have_room keys shape stash =
    subst (NoSlotIsFull keys stash) (sym short-play) (without_tags keys shape stash short_end
    (omega (arith, passed_few (public_of short_time) (numbers 6001 3000) 6000 6000 pace))
    (passed_silent (public_of short_time) (numbers 6001 3000) 6000 6000 pace))
  where
    pace : Pace
    pace = first_pace (public_of short_time)

    numbers : ℕ → ℕ → Numbers
    numbers cycles instructions = record { instructions = instructions; cycles = cycles; fetches = 0 }
