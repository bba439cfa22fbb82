-- How an order of slots goes on: replies that are noted later change nothing of it, and a slot more joins it.
use Rattle.std.proofs.Common.{◌≡◌, ◌<◌, ◌≤◌, ◌+◌, ◌⊎◌, inl, inr, ℕ, List, [], ◌∷◌, ◌++◌, length, Option, None, Some}
use Rattle.std.proofs.Common.{refl, sym, ◌∙◌, ap, ap₂, subst, arith, append-nil, append_assoc, length-append}
use Rattle.std.specs.List.{count_by, flat_map}
use Rattle.asc_base.specs.Has.{Has}
use Rattle.asc_base.specs.declared.block.Entry.{Entry}
use Rattle.asc_base.specs.declared.block.Message.{Message}
use Rattle.asc_base.specs.declared.block.Point.{Point}
use Rattle.asc_base.specs.declared.block.Point.TheVariants.{Real, Dummy}
use Rattle.bus_watch.specs.Log.{LogLists}
use Rattle.bus_watch.specs.declared.log.Altered.{Altered}
use Rattle.bus_watch.specs.declared.log.Event.{Event}
use Rattle.bus_watch.specs.declared.log.Event.TheVariants.{Access, Drawn}
use Rattle.oram_contents.specs.Entries.{Keys}
use Rattle.oram_contents.specs.Fold.{noted_at, settle, fold_events, whole}
use Rattle.oram_contents.specs.PathRead.{replies, path_read}
use Rattle.oram_contents.specs.Starts.{first_fold}
use Rattle.oram_contents.specs.Steps.{next_dummy}
use Rattle.oram_contents.specs.Verdict.{put_events}
use Rattle.oram_contents.proofs.Folding.{noted_same, fold_more}
use Rattle.rate_enforcer.specs.Counts.{is_dummy}
use Rattle.rate_enforcer.proofs.Counted.{count_more}
use Rattle.log_replay.specs.Order.{Behind, Nothing, Appends, Answers, SlotNotes, accepted_events, chosen_events}
use Rattle.log_replay.specs.Order.{behind_events, events_of, IsNextPoint, IsReadIn, IsDone, IsBare, AreInOrder}
use Rattle.log_replay.specs.Order.{AreDone, IsNotedIn}

-- what is noted of a slot behind its start
abbrev pub later_events : SlotNotes → List Event
later_events s = accepted_events s.point s.found
    ++ (put_events s.put ++ (chosen_events s.chosen ++ behind_events s.behind))

-- the number of the next dummy behind slots
abbrev pub next_after : ℕ → List SlotNotes → ℕ
next_after n [] = n
next_after n (s ∷ later) = next_after (next_dummy n s.point) later

accepted_none : (p : Point) (found : Option Entry) → count_by is_dummy (accepted_events p found) ≡ 0
accepted_none (Real a c) None = refl
accepted_none (Real a c) (Some e) = refl
accepted_none (Dummy n) found = refl

put_none : (put : Option Message) → count_by is_dummy (put_events put) ≡ 0
put_none None = refl
put_none (Some m) = refl

chosen_none : (index : Option ℕ) → count_by is_dummy (chosen_events index) ≡ 0
chosen_none None = refl
chosen_none (Some index) = refl

pub behind_none : (b : Behind) → count_by is_dummy (behind_events b) ≡ 0
behind_none Nothing = refl
behind_none (Appends m) = refl
behind_none (Answers line value) = refl

pub later_none : (s : SlotNotes) → count_by is_dummy (later_events s) ≡ 0
later_none s =
    let a = count_more is_dummy (accepted_events s.point s.found)
    (put_events s.put ++ (chosen_events s.chosen ++ behind_events s.behind)) in
    let b = count_more is_dummy (put_events s.put) (chosen_events s.chosen ++ behind_events s.behind) in
    let c = count_more is_dummy (chosen_events s.chosen) (behind_events s.behind) in
    let w = accepted_none s.point s.found in
    let x = put_none s.put in
    let y = chosen_none s.chosen in
    let z = behind_none s.behind in
    omega arith

module _ (keys : Keys) where
  -- the events of slots, one after another
  abbrev pub all_events : List SlotNotes → List Event
  all_events slots = flat_map (events_of keys) slots

  -- a slot's start and its point at least
  pub two_or_more : (s : SlotNotes) → 2 ≤ length (events_of keys s)
  two_or_more s = omega arith

  -- a slot counts as a dummy where its point is one
  pub slot_dummies : (n : ℕ) (s : SlotNotes) → IsNextPoint n s.asked s.point
      → n + count_by is_dummy (events_of keys s) ≡ next_dummy n s.point
  slot_dummies n s next = by_point s.point s.asked next
    where
      rest : count_by is_dummy (later_events s) ≡ 0
      rest = later_none s

      by_point : (p : Point) (asked : Option ℕ) → IsNextPoint n asked p
          → n + count_by is_dummy (Access s.start asked ∷ Drawn p (record { 0 = keys.leaf_of p }) ∷ later_events s)
          ≡ next_dummy n p
      by_point (Real a c) asked (time, is) =
          let whole_is = count_more is_dummy
          (Access s.start (Some time) ∷ Drawn (Real a c) (record { 0 = keys.leaf_of (Real a c) }) ∷ [])
          (later_events s) in
          subst (λ o. n + count_by is_dummy (Access s.start o ∷ Drawn (Real a c)
          (record { 0 = keys.leaf_of (Real a c) }) ∷ later_events s) ≡ n) (sym is) (omega (arith, whole_is, rest))
      by_point (Dummy m) asked (is, none) =
          let whole_is = count_more is_dummy
          (Access s.start None ∷ Drawn (Dummy m) (record { 0 = keys.leaf_of (Dummy m) }) ∷ [])
          (later_events s) in
          subst (λ o. n + count_by is_dummy (Access s.start o ∷ Drawn (Dummy m)
          (record { 0 = keys.leaf_of (Dummy m) }) ∷ later_events s) ≡ m + 1) (sym none)
          (omega (arith, whole_is, rest, is))

  -- slots in order count the dummies among their events
  pub numbered : (log : LogLists) (before : List Event) (n : ℕ) (slots : List SlotNotes)
      → AreInOrder keys log before n slots → next_after n slots ≡ n + count_by is_dummy (all_events slots)
  numbered log before n [] order = omega arith
  numbered log before n (s ∷ later) order =
      let next = numbered log (before ++ events_of keys s) (next_dummy n s.point) later order.2 in
      let here = slot_dummies n s order.0 in
      let both = count_more is_dummy (events_of keys s) (all_events later) in
      omega (arith, next, here, both)

  -- Replies that are noted later don't change what was read.
  module _ (old new : LogLists) (extra : List Altered) (more : new.altered ≡ old.altered ++ extra) where
    pub read_kept : (before : List Event) (s : SlotNotes) (joined : List Entry)
        → ((reply : Altered) → Has reply extra → length before + 2 < reply.before)
        → IsReadIn keys old before s joined → IsReadIn keys new before s joined
    read_kept before s joined late read =
        let noted : noted_at (length before + 2) new.altered ≡ noted_at (length before + 2) old.altered =
        ap (noted_at (length before + 2)) more ∙ noted_same (length before + 2) old.altered extra late in
        let same : whole keys (first_fold keys) (record new { events = before })
        ≡ whole keys (first_fold keys) (record old { events = before }) =
        ap (λ l. (settle keys (fold_events keys l 0 before (first_fold keys))).now) more
        ∙ ap (λ f. (settle keys f).now) (fold_more keys old.altered extra 0 before (first_fold keys)
        (λ reply h. omega (arith, late reply h))) in
        ap₂ (λ l w. path_read keys.pads keys.shape (keys.leaf_of s.point)
        (replies keys.shape.levels s.start (keys.leaf_of s.point) w.mirror l) w.hand) noted same ∙ read

    pub done_kept : (before : List Event) (s : SlotNotes)
        → ((reply : Altered) → Has reply extra → length before + 2 < reply.before)
        → IsDone keys old before s → IsDone keys new before s
    done_kept before s late d = record {
      joined = d.joined;
      read = read_kept before s d.joined late d.read;
      taken = d.taken;
      put = d.put;
    }

    -- what is noted behind slots is noted behind the first of them, and behind the others
    here_before : (before : List Event) (s : SlotNotes) (later : List SlotNotes) (k : ℕ)
        → length (before ++ all_events (s ∷ later)) < k → length before + 2 < k
    here_before before s later k less = omega (
      arith,
      less,
      length-append before (events_of keys s ++ all_events later),
      length-append (events_of keys s) (all_events later),
      two_or_more s,
    )

    later_before : (before : List Event) (s : SlotNotes) (later : List SlotNotes) (k : ℕ)
        → length (before ++ all_events (s ∷ later)) < k
        → length ((before ++ events_of keys s) ++ all_events later) < k
    later_before before s later k less =
        subst (λ (l : List Event). length l < k) (sym (append_assoc before (events_of keys s) (all_events later))) less

    pub order_kept : (before : List Event) (n : ℕ) (slots : List SlotNotes)
        → ((reply : Altered) → Has reply extra → length (before ++ all_events slots) < reply.before)
        → AreInOrder keys old before n slots → AreInOrder keys new before n slots
    order_kept before n [] late order = tt
    order_kept before n (s ∷ later) late order = (
      order.0,
      elim order.1 [
        | inl d ↦ inl (done_kept before s (λ reply h. here_before before s later reply.before (late reply h)) d)
        | inr b ↦ inr b
      ],
      order_kept (before ++ events_of keys s) (next_dummy n s.point) later
          (λ reply h. later_before before s later reply.before (late reply h)) order.2,
    )

    pub all_done_kept : (before : List Event) (slots : List SlotNotes)
        → ((reply : Altered) → Has reply extra → length (before ++ all_events slots) < reply.before)
        → AreDone keys old before slots → AreDone keys new before slots
    all_done_kept before [] late done = tt
    all_done_kept before (s ∷ later) late done = (
      done_kept before s (λ reply h. here_before before s later reply.before (late reply h)) done.0,
      all_done_kept (before ++ events_of keys s) later
          (λ reply h. later_before before s later reply.before (late reply h)) done.1,
    )

  module _ (log : LogLists) where
    -- a slot more behind slots that were done; it was done too, or nothing is noted of it but its point
    pub order_more : (before : List Event) (n : ℕ) (slots : List SlotNotes) (s : SlotNotes)
        → AreInOrder keys log before n slots → AreDone keys log before slots
        → IsNextPoint (next_after n slots) s.asked s.point
        → IsDone keys log (before ++ all_events slots) s ⊎ IsBare s → AreInOrder keys log before n (slots ++ s ∷ [])
    order_more before n [] s order done next is = (
      next,
      elim is [
        | inl d ↦ inl (subst (λ l. IsDone keys log l s) (append-nil before) d)
        | inr b ↦ inr (b, refl)
      ],
      tt,
    )
    order_more before n (x ∷ slots) s order done next is = (
      order.0,
      inl done.0,
      order_more (before ++ events_of keys x) (next_dummy n x.point) slots s order.2 done.1 next
          (elim is [
            | inl d ↦ inl (subst (λ l. IsDone keys log l s)
                (sym (append_assoc before (events_of keys x) (all_events slots))) d)
            | inr b ↦ inr b
          ]),
    )

    pub done_more : (before : List Event) (slots : List SlotNotes) (s : SlotNotes) → AreDone keys log before slots
        → IsDone keys log (before ++ all_events slots) s → AreDone keys log before (slots ++ s ∷ [])
    done_more before [] s done d = (subst (λ l. IsDone keys log l s) (append-nil before) d, tt)
    done_more before (x ∷ slots) s done d = (
      done.0,
      done_more (before ++ events_of keys x) slots s done.1
          (subst (λ l. IsDone keys log l s) (sym (append_assoc before (events_of keys x) (all_events slots))) d),
    )

    -- the slots but the last, and the last one
    pub order_front : (before : List Event) (n : ℕ) (slots : List SlotNotes) (s : SlotNotes)
        → AreInOrder keys log before n (slots ++ s ∷ []) → AreDone keys log before (slots ++ s ∷ [])
        → AreInOrder keys log before n slots
    order_front before n [] s order done = tt
    order_front before n (x ∷ slots) s order done = (
      order.0,
      inl done.0,
      order_front (before ++ events_of keys x) (next_dummy n x.point) slots s order.2 done.1,
    )

    pub order_last : (before : List Event) (n : ℕ) (slots : List SlotNotes) (s : SlotNotes)
        → AreInOrder keys log before n (slots ++ s ∷ []) → IsNextPoint (next_after n slots) s.asked s.point
    order_last before n [] s order = order.0
    order_last before n (x ∷ slots) s order =
        order_last (before ++ events_of keys x) (next_dummy n x.point) slots s order.2

    pub done_front : (before : List Event) (slots : List SlotNotes) (s : SlotNotes)
        → AreDone keys log before (slots ++ s ∷ [])
        → AreDone keys log before slots × IsDone keys log (before ++ all_events slots) s
    done_front before [] s done = (tt, subst (λ l. IsDone keys log l s) (sym (append-nil before)) done.0)
    done_front before (x ∷ slots) s done =
        let rest = done_front (before ++ events_of keys x) slots s done.1 in (
          (done.0, rest.0),
          subst (λ l. IsDone keys log l s) (append_assoc before (events_of keys x) (all_events slots)) rest.1,
        )

module _ (keys : Keys) where
  -- a reply that was noted in one of some slots was so when there is one more, and whatever stands behind the last
  pub noted_more : (before : List Event) (slots : List SlotNotes) (s : SlotNotes) (reply : Altered)
      → IsNotedIn keys before slots reply → IsNotedIn keys before (slots ++ s ∷ []) reply
  noted_more before [] s reply h = absurd h
  noted_more before (x ∷ slots) s reply (inl here) = inl here
  noted_more before (x ∷ slots) s reply (inr later) =
      inr (noted_more (before ++ events_of keys x) slots s reply later)

  pub noted_other : (before : List Event) (slots : List SlotNotes) (s other : SlotNotes) (reply : Altered)
      → IsNotedIn keys before (slots ++ s ∷ []) reply → IsNotedIn keys before (slots ++ other ∷ []) reply
  noted_other before [] s other reply (inl here) = inl here
  noted_other before [] s other reply (inr later) = absurd later
  noted_other before (x ∷ slots) s other reply (inl here) = inl here
  noted_other before (x ∷ slots) s other reply (inr later) =
      inr (noted_other (before ++ events_of keys x) slots s other reply later)

  -- and one that was noted behind the last one's point
  pub noted_last : (before : List Event) (slots : List SlotNotes) (s : SlotNotes) (reply : Altered)
      → reply.before ≡ length (before ++ all_events keys slots) + 2 → IsNotedIn keys before (slots ++ s ∷ []) reply
  noted_last before [] s reply at = inl (at ∙ ap (λ l. length l + 2) (append-nil before))
  noted_last before (x ∷ slots) s reply at =
      inr (noted_last (before ++ events_of keys x) slots s reply
      (at ∙ ap (λ l. length l + 2) (sym (append_assoc before (events_of keys x) (all_events keys slots)))))
