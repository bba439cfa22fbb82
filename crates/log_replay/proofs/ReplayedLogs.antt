-- What is kept of a log, of the contents that it says and of its dummies, over a slot that is done.
use Rattle.std.proofs.Common.{◌≡◌, ◌<◌, ◌+◌, ◌⊎◌, inl, inr, ℕ, List, [], ◌∷◌, ◌++◌, length, All, Option, None, Some}
use Rattle.std.proofs.Common.{refl, sym, ◌∙◌, ap, ap₂, subst, arith, append-nil, append_assoc}
use Rattle.std.specs.List.{count_by, flat_map}
use Rattle.std.proofs.lemmas.List.Concat.{flat_map-append}
use Rattle.asc_base.proofs.Members.{all_has, has_split}
use Rattle.asc_base.specs.Has.{Has}
use Rattle.asc_base.specs.declared.block.Entry.{Entry}
use Rattle.asc_base.specs.declared.block.Message.{Message}
use Rattle.asc_base.specs.declared.block.Point.{Point}
use Rattle.asc_base.specs.declared.block.Point.TheVariants.{Real, Dummy}
use Rattle.bus_watch.specs.Log.{LogLists}
use Rattle.bus_watch.specs.declared.log.Altered.{Altered}
use Rattle.bus_watch.specs.declared.log.Event.{Event}
use Rattle.oram_contents.specs.Contents.{Contents, IsReadTo}
use Rattle.oram_contents.specs.Entries.{Keys, message_of}
use Rattle.oram_contents.specs.Fold.{settle, noted_at, leave, whole}
use Rattle.oram_contents.specs.PathRead.{replies, path_read}
use Rattle.oram_contents.specs.Provenance.{Always}
use Rattle.oram_contents.specs.Slots.{IsEnd}
use Rattle.oram_contents.specs.Starts.{first_fold}
use Rattle.oram_contents.specs.Steps.{Adds}
use Rattle.oram_contents.specs.Verdict.{write_verdict, note_events, put_entries, IsOfPoint}
use Rattle.oram_contents.proofs.Folding.{noted_here, so_far}
use Rattle.rate_enforcer.specs.Counts.{is_dummy}
use Rattle.log_replay.specs.Judged.{verdict_on}
use Rattle.log_replay.specs.Order.{Nothing, SlotNotes, accepted_events, chosen_events, events_of, IsNextPoint, IsTaken}
use Rattle.log_replay.specs.Order.{IsDone, IsBare, AreDone, LogOrder}
use Rattle.log_replay.proofs.Orders.{later_events, all_events, next_after, numbered, order_kept, all_done_kept}
use Rattle.log_replay.proofs.Orders.{order_more, done_more, noted_more, noted_last}

-- A log notes slots in order, each of which was done, and so many dummies; it says these contents, in which nothing is
-- wrong.
pub record IsReplayedLog (keys : Keys) (stash : ℕ) (log : LogLists) (now : Contents) (dummies : ℕ) : Type 0 where
  pub order : LogOrder keys log
  pub done : AreDone keys log [] order.slots
  pub dummies_are : count_by is_dummy log.events ≡ dummies
  pub contents_are : whole keys (first_fold keys) log ≡ now
  pub right : verdict_on keys stash log ≡ None
  pub always : Always keys log now

-- A slot lengthens a log, these are its notes, and nothing stands behind it yet: its path was read over these contents,
-- and can be written.
pub record AddsSlot (keys : Keys) (stash : ℕ) (old new : LogLists) (now : Contents) (n : ℕ) (s : SlotNotes)
    : Type 0 where
  pub altered : List Altered
  pub joined : List Entry
  pub adds : Adds old new (events_of keys s) altered
  pub noted : All (λ (reply : Altered). reply.before ≡ length old.events + 2) altered
  pub next : IsNextPoint n s.asked s.point
  pub read : IsReadTo keys.pads keys.shape s.start (keys.leaf_of s.point) altered now joined
  pub taken : IsTaken keys joined s.point s
  pub put : IsOfPoint s.put s.point
  pub bare : s.behind ≡ Nothing
  pub room : write_verdict keys stash (keys.leaf_of s.point) (leave s.point joined ++ put_entries keys s.put) ≡ None

-- what is noted of what was found
abbrev pub note_of : Point → Option Entry → Option (Message × List ℕ)
note_of (Real a c) None = None
note_of (Real a c) (Some e) = Some (message_of a.0 c e.line.0, e.tag)
note_of (Dummy n) found = None

pub note_is : (p : Point) (found : Option Entry) → accepted_events p found ≡ note_events (note_of p found)
note_is (Real a c) None = refl
note_is (Real a c) (Some e) = refl
note_is (Dummy n) found = refl

pub in_turn : (d a p c : List Event) → (d ++ (a ++ p)) ++ c ≡ d ++ (a ++ (p ++ (c ++ [])))
in_turn d a p c = simp (append_assoc, append-nil)

-- the choice at a slot's end
abbrev pub chosen_at : (old new : LogLists) → IsEnd old new → Option ℕ
chosen_at old new e = elim e.events [ inl same ↦ None | inr x ↦ Some x.0 ]

pub chosen_is : (old new : LogLists) (e : IsEnd old new) → new.events ≡ old.events
    ++ chosen_events (chosen_at old new e)
chosen_is old new e = elim e.events as (λ x. new.events ≡ old.events
    ++ chosen_events (elim x [ inl same ↦ None | inr y ↦ Some y.0 ])) [
      | inl same ↦ same ∙ sym (append-nil old.events)
      | inr x ↦ x.1
    ]

module _ (keys : Keys) (stash : ℕ) (old new : LogLists) (now : Contents) (n : ℕ) (s : SlotNotes)
    (x : IsReplayedLog keys stash old now n) where
  -- replies that are noted in a slot are noted behind all slots before it
  pub late : (extra : List Altered) → All (λ (reply : Altered). reply.before ≡ length old.events + 2) extra
      → (reply : Altered) → Has reply extra → length ([] ++ all_events keys x.order.slots) < reply.before
  late extra noted reply h =
      let at : reply.before ≡ length old.events + 2 = all_has (λ (r : Altered). r.before ≡ length old.events + 2)
      reply extra noted h in
      omega (arith, at, ap length x.order.events)

  -- a slot whose path was read over the contents of the log before it was done
  pub slot_done : (extra : List Altered) (joined : List Entry) → Adds old new (events_of keys s) extra
      → All (λ (reply : Altered). reply.before ≡ length old.events + 2) extra
      → IsReadTo keys.pads keys.shape s.start (keys.leaf_of s.point) extra now joined → IsTaken keys joined s.point s
      → IsOfPoint s.put s.point → IsDone keys new old.events s
  slot_done extra joined adds noted read taken put = record {
    joined = joined;
    read = ap₂ (λ l w. path_read keys.pads keys.shape (keys.leaf_of s.point)
        (replies keys.shape.levels s.start (keys.leaf_of s.point) w.mirror l) w.hand) here same ∙ read;
    taken = taken;
    put = put;
  }
    where
      number : length old.events + 2 ≡ 0 + length old.events + 1 + 1
      number = omega arith

      here : noted_at (length old.events + 2) new.altered ≡ extra
      here = ap (λ k. noted_at k new.altered) number
          ∙ noted_here keys (first_fold keys) old new s.start s.asked s.point (later_events s) extra x.always.past
          adds.events_are adds.altered_are noted

      same : whole keys (first_fold keys) (record new { events = old.events }) ≡ now
      same = ap (λ f. (settle keys f).now) (so_far keys (first_fold keys) old new s.start s.asked s.point
          (later_events s) extra x.always.past adds.events_are adds.altered_are noted) ∙ x.contents_are

  -- the slots before it were done in the longer log too
  pub earlier_done : (extra : List Altered) → new.altered ≡ old.altered ++ extra
      → All (λ (reply : Altered). reply.before ≡ length old.events + 2) extra → AreDone keys new [] x.order.slots
  earlier_done extra more noted =
      all_done_kept keys old new extra more [] x.order.slots (late extra noted) x.done

  -- and so was it, where it was done
  pub slots_done : (extra : List Altered) → new.altered ≡ old.altered ++ extra
      → All (λ (reply : Altered). reply.before ≡ length old.events + 2) extra → IsDone keys new old.events s
      → AreDone keys new [] (x.order.slots ++ s ∷ [])
  slots_done extra more noted d =
      done_more keys new [] x.order.slots s (earlier_done extra more noted)
      (subst (λ l. IsDone keys new l s) x.order.events d)

  -- The order of the longer log: the slot was done, or nothing is noted of it but its point.
  pub slot_order : (extra : List Altered) → Adds old new (events_of keys s) extra
      → All (λ (reply : Altered). reply.before ≡ length old.events + 2) extra → IsNextPoint n s.asked s.point
      → IsDone keys new old.events s ⊎ IsBare s
      → (o : LogOrder keys new) × (o.slots ≡ x.order.slots ++ s ∷ [])
  slot_order extra adds noted next is = (
    record {
      slots = x.order.slots ++ s ∷ [];
      events = adds.events_are ∙ ap (λ l. l ++ events_of keys s) x.order.events
          ∙ ap (λ l. flat_map (events_of keys) x.order.slots ++ l) (sym (append-nil (events_of keys s)))
          ∙ sym (flat_map-append (events_of keys) x.order.slots (s ∷ []));
      order = order_more keys new [] 0 x.order.slots s
          (order_kept keys old new extra adds.altered_are [] 0 x.order.slots (late extra noted) x.order.order)
          (earlier_done extra adds.altered_are noted)
          (subst (λ k. IsNextPoint k s.asked s.point) (sym count) next)
          (elim is [ inl d ↦ inl (subst (λ l. IsDone keys new l s) x.order.events d) | inr b ↦ inr b ]);
      noted = λ reply h. elim (has_split reply old.altered extra
          (subst (λ (l : List Altered). Has reply l) adds.altered_are h)) [
            | inl early ↦ noted_more keys [] x.order.slots s reply (x.order.noted reply early)
            | inr here ↦ noted_last keys [] x.order.slots s reply
                (all_has (λ (r : Altered). r.before ≡ length old.events + 2) reply extra noted here
                ∙ ap (λ l. length l + 2) x.order.events)
          ];
    },
    refl,
  )
    where
      count : next_after 0 x.order.slots ≡ n
      count =
          let all = numbered keys old [] 0 x.order.slots x.order.order in
          let events = ap (count_by is_dummy) x.order.events in
          omega (arith, all, events, x.dummies_are)
