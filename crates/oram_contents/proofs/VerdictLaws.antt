-- The verdict on a log that a slot or an append lengthens is the first of the verdict before and that of the slot or
-- append.
use Rattle.std.proofs.Common.{◌≡◌, ◌<◌, ◌≤◌, ◌+◌, inl, inr, ℕ, Bool, true, false, if◌then◌else◌, ◌==◌, List}
use Rattle.std.proofs.Common.{[], ◌∷◌, ◌++◌, length, All, Option, None, Some, Result, Ok, Err, refl, sym, ◌∙◌, ap, ap₂}
use Rattle.std.proofs.Common.{arith, append-nil}
use Rattle.std.proofs.lemmas.Bool.Decides.{eqb_tells}
use Rattle.asc_base.specs.declared.block.Entry.{Entry}
use Rattle.asc_base.specs.declared.block.Line.{Line}
use Rattle.asc_base.specs.declared.block.Message.{Message}
use Rattle.asc_base.specs.declared.block.Point.{Point}
use Rattle.asc_base.specs.declared.block.Point.TheVariants.{Real, Dummy}
use Rattle.asc_base.specs.declared.stop.Evidence.{Evidence}
use Rattle.asc_base.specs.declared.stop.Stop.{Stop}
use Rattle.bus_watch.specs.Log.{LogLists}
use Rattle.bus_watch.specs.declared.log.Altered.{Altered}
use Rattle.bus_watch.specs.declared.log.Event.{Event}
use Rattle.bus_watch.specs.declared.log.Event.TheVariants.{Access, Drawn, Tagged, Accepted, Chosen, Answered}
use Rattle.oram_contents.specs.Contents.{Contents}
use Rattle.oram_contents.specs.Entries.{Keys}
use Rattle.asc_base.specs.Has.{Has}
use Rattle.oram_contents.specs.Fold.{Fold, settle, hand_after, is_open_for}
use Rattle.oram_contents.specs.Fold.{joined_by, after_event, fold_events, whole}
use Rattle.oram_contents.specs.PathRead.{replies, path_read}
use Rattle.oram_contents.specs.Slots.{drawn_events, IsEnd}
use Rattle.oram_contents.specs.Verdict.{first_of, read_verdict, write_verdict, append_verdict, open_verdict}
use Rattle.oram_contents.specs.Verdict.{event_verdict, events_verdict, log_verdict, note_events, put_events}
use Rattle.oram_contents.specs.Verdict.{put_entries, IsOfPoint, slot_verdict}
use Rattle.oram_contents.proofs.Folding.{noted_same, event_more, fold_append, any_fold, read_of, noted_here, so_far}
use Rattle.oram_contents.proofs.Folding.{slot_fold_any, before_at}

first_none : (x : Option Stop) → first_of x None ≡ x
first_none None = refl
first_none (Some stop) = refl

first_twice : (x y z : Option Stop) → first_of (first_of x y) z ≡ first_of x (first_of y z)
first_twice None y z = refl
first_twice (Some stop) y z = refl

module _ (keys : Keys) (stash : ℕ) where
  verdict_append : (altered : List Altered) (n : ℕ) (xs ys : List Event) (f : Fold)
      → events_verdict keys stash altered n (xs ++ ys) f
      ≡ first_of (events_verdict keys stash altered n xs f)
      (events_verdict keys stash altered (n + length xs) ys (fold_events keys altered n xs f))
  verdict_append altered n [] ys f = ap (λ k. events_verdict keys stash altered k ys f) (omega arith)
  verdict_append altered n (x ∷ xs) ys f =
      let g = after_event keys altered n x f in
      ap (first_of (event_verdict keys stash altered n x f)) (verdict_append altered (n + 1) xs ys g)
      ∙ sym (first_twice (event_verdict keys stash altered n x f) (events_verdict keys stash altered (n + 1) xs g)
      (events_verdict keys stash altered (n + 1 + length xs) ys (fold_events keys altered (n + 1) xs g)))
      ∙ ap (λ k. first_of (first_of (event_verdict keys stash altered n x f)
      (events_verdict keys stash altered (n + 1) xs g))
      (events_verdict keys stash altered k ys (fold_events keys altered (n + 1) xs g))) (omega arith)

  -- replies that were noted later don't change what events show
  event_shows : (altered extra : List Altered) (n : ℕ) (e : Event) (f : Fold)
      → ((reply : Altered) → Has reply extra → n + 1 < reply.before)
      → event_verdict keys stash (altered ++ extra) n e f ≡ event_verdict keys stash altered n e f
  event_shows altered extra n (Access start asked) f later = refl
  event_shows altered extra n (Drawn p x) f later =
      let g = settle keys f in
      ap (λ l. first_of (open_verdict keys stash f.path f.now)
      (read_verdict keys p (path_read keys.pads keys.shape x.0
      (replies keys.shape.levels g.start x.0 g.now.mirror l) g.now.hand)))
      (noted_same (n + 1) altered extra (λ reply h. later reply h))
  event_shows altered extra n (Accepted m t) f later = refl
  event_shows altered extra n (Tagged m) f later = refl
  event_shows altered extra n (Chosen index) f later = refl
  event_shows altered extra n (Answered line value) f later = refl

  events_show : (altered extra : List Altered) (n : ℕ) (xs : List Event) (f : Fold)
      → ((reply : Altered) → Has reply extra → n + length xs < reply.before)
      → events_verdict keys stash (altered ++ extra) n xs f ≡ events_verdict keys stash altered n xs f
  events_show altered extra n [] f later = refl
  events_show altered extra n (x ∷ xs) f later =
      ap₂ first_of (event_shows altered extra n x f (λ reply h. omega (arith, later reply h)))
      (ap (events_verdict keys stash (altered ++ extra) (n + 1) xs)
      (event_more keys altered extra n x f (λ reply h. omega (arith, later reply h)))
      ∙ events_show altered extra (n + 1) xs (after_event keys altered n x f) (λ reply h. omega (arith, later reply h)))

  same_test : (x y : ℕ) → x ≡ y → (y == x) ≡ true
  same_test x y is = elim (eqb_tells y x) [ inl same ↦ same.0 | inr other ↦ absurd (other.1 (sym is)) ]

  abbrev opened : Contents → ℕ → Point → ℕ → Fold
  opened now start p leaf = record { now = now; start = start; path = Some (p, leaf) }

  -- what stands after a slot's Drawn joins the hand, and shows nothing
  put_fold : (altered : List Altered) (n : ℕ) (put : Option Message) (p : Point) (now : Contents) (start leaf : ℕ)
      → IsOfPoint put p
      → fold_events keys altered n (put_events put) (opened now start p leaf)
      ≡ opened (record now { hand = now.hand ++ put_entries keys put }) start p leaf
  put_fold altered n None p now start leaf is = ap (λ h. opened (record now { hand = h }) start p leaf)
      (sym (append-nil now.hand))
  put_fold altered n (Some m) (Real a c) now start leaf is =
      ap (λ b. joined_by keys m (if b then opened now start (Real a c) leaf else settle keys
      (opened now start (Real a c) leaf))) (same_test m.address.0 a.0 is)
  put_fold altered n (Some m) (Dummy k) now start leaf is = absurd is

  put_shows : (altered : List Altered) (n : ℕ) (put : Option Message) (p : Point) (now : Contents) (start leaf : ℕ)
      → IsOfPoint put p
      → events_verdict keys stash altered n (put_events put) (opened now start p leaf) ≡ None
  put_shows altered n None p now start leaf is = refl
  put_shows altered n (Some m) (Real a c) now start leaf is =
      ap (λ (b : Bool). first_of (if b then None else first_of (open_verdict keys stash (Some (Real a c, leaf)) now)
      (append_verdict stash m.address (settle keys (opened now start (Real a c) leaf)).now.hand)) None)
      (same_test m.address.0 a.0 is)
  put_shows altered n (Some m) (Dummy k) now start leaf is = absurd is

  rest_fold : (altered : List Altered) (n : ℕ) (note : Option (Message × List ℕ)) (put : Option Message) (p : Point)
      (now : Contents) (start leaf : ℕ) → IsOfPoint put p
      → fold_events keys altered n (note_events note ++ put_events put) (opened now start p leaf)
      ≡ opened (record now { hand = now.hand ++ put_entries keys put }) start p leaf
  rest_fold altered n None put p now start leaf is = put_fold altered n put p now start leaf is
  rest_fold altered n (Some (m, found)) put p now start leaf is = put_fold altered (n + 1) put p now start leaf is

  rest_shows : (altered : List Altered) (n : ℕ) (note : Option (Message × List ℕ)) (put : Option Message) (p : Point)
      (now : Contents) (start leaf : ℕ) → IsOfPoint put p
      → events_verdict keys stash altered n (note_events note ++ put_events put) (opened now start p leaf) ≡ None
  rest_shows altered n None put p now start leaf is = put_shows altered n put p now start leaf is
  rest_shows altered n (Some (m, found)) put p now start leaf is = put_shows altered (n + 1) put p now start leaf is

  -- the verdict of a read, and else of the write, is the slot's
  slot_joint : (p : Point) (leaf : ℕ) (hand : List Entry) (read : Result (List Entry) Evidence) (put : Option Message)
      → first_of (read_verdict keys p read) (write_verdict keys stash leaf
      (hand_after p hand read ++ put_entries keys put)) ≡ slot_verdict keys stash p leaf read put
  slot_joint (Real a c) leaf hand (Err evidence) put = refl
  slot_joint (Real a c) leaf hand (Ok joined) put = refl
  slot_joint (Dummy n) leaf hand (Err evidence) put = refl
  slot_joint (Dummy n) leaf hand (Ok joined) put = refl

  in_turn : (a o r w : Option Stop) → first_of (first_of a (first_of o r)) w ≡ first_of (first_of a o) (first_of r w)
  in_turn None None r w = refl
  in_turn None (Some stop) r w = refl
  in_turn (Some stop) o r w = refl

  pub slot_shows : (first : Fold) (old new : LogLists) (start : ℕ) (asked : Option ℕ) (p : Point)
      (note : Option (Message × List ℕ)) (put : Option Message) (extra : List Altered)
      → ((reply : Altered) → Has reply old.altered → reply.before ≤ length old.events)
      → new.events ≡ old.events ++ (drawn_events keys start asked p ++ (note_events note ++ put_events put))
      → new.altered ≡ old.altered ++ extra
      → All (λ (reply : Altered). reply.before ≡ length old.events + 2) extra → IsOfPoint put p
      → log_verdict keys stash first new
      ≡ first_of (log_verdict keys stash first old) (slot_verdict keys stash p (keys.leaf_of p)
      (read_of keys (whole keys first old) start p extra) put)
  slot_shows first old new start asked p note put extra past events altered noted is =
      let rest : List Event = note_events note ++ put_events put in
      let f : Fold = fold_events keys old.altered 0 old.events first in
      let w : Contents = whole keys first old in
      let r : Result (List Entry) Evidence = read_of keys w start p extra in
      let a : Option Stop = events_verdict keys stash old.altered 0 old.events first in
      let o : Option Stop = open_verdict keys stash f.path f.now in
      let n : ℕ = 0 + length old.events in
      let before : events_verdict keys stash new.altered 0 old.events first ≡ a =
      ap (λ l. events_verdict keys stash l 0 old.events first) altered
      ∙ events_show old.altered extra 0 old.events first
      (λ reply h. omega (
        arith,
        before_at keys first old new start asked p rest extra past events altered noted
            reply h,
      )) in
      let slot : events_verdict keys stash new.altered n (drawn_events keys start asked p ++ rest) f ≡ first_of o
      (read_verdict keys p r) =
      ap (λ l. first_of o (first_of (read_verdict keys p (read_of keys w start p l))
      (events_verdict keys stash new.altered (n + 1 + 1) rest
      (any_fold keys w start p (read_of keys w start p l)))))
      (noted_here keys first old new start asked p rest extra past events altered noted)
      ∙ ap (λ v. first_of o (first_of (read_verdict keys p r) v))
      (rest_shows new.altered (n + 1 + 1) note put p (record w { hand = hand_after p w.hand r }) start
      (keys.leaf_of p) is)
      ∙ ap (first_of o) (first_none (read_verdict keys p r)) in
      let events_are : events_verdict keys stash new.altered 0 new.events first ≡ first_of a
      (first_of o (read_verdict keys p r)) =
      ap (λ l. events_verdict keys stash new.altered 0 l first) events
      ∙ verdict_append new.altered 0 old.events (drawn_events keys start asked p ++ rest) first
      ∙ ap₂ (λ x g. first_of x (events_verdict keys stash new.altered n
      (drawn_events keys start asked p ++ rest) g)) before
      (so_far keys first old new start asked p rest extra past events altered noted)
      ∙ ap (first_of a) slot in
      let end : fold_events keys new.altered 0 new.events first ≡ opened
      (record w { hand = hand_after p w.hand r ++ put_entries keys put }) start p (keys.leaf_of p) =
      slot_fold_any keys first old new start asked p rest extra past events altered noted
      ∙ rest_fold new.altered (n + 1 + 1) note put p (record w { hand = hand_after p w.hand r }) start
      (keys.leaf_of p) is in
      ap₂ (λ x g. first_of x (open_verdict keys stash g.path g.now)) events_are end
      ∙ in_turn a o (read_verdict keys p r) (write_verdict keys stash (keys.leaf_of p)
      (hand_after p w.hand r ++ put_entries keys put))
      ∙ ap (first_of (first_of a o)) (slot_joint p (keys.leaf_of p) w.hand r put)

  -- an event more that settles the open path
  settled_shows : (first : Fold) (old new : LogLists) (e : Event) (v : Option Stop) → new.events ≡ old.events ++ e ∷ []
      → new.altered ≡ old.altered
      → (let f = fold_events keys old.altered 0 old.events first in event_verdict keys stash old.altered
      (0 + length old.events) e f ≡ first_of (open_verdict keys stash f.path f.now) v)
      → (let f = fold_events keys old.altered 0 old.events first in
      (after_event keys old.altered (0 + length old.events) e f).path ≡ None)
      → log_verdict keys stash first new ≡ first_of (log_verdict keys stash first old) v
  settled_shows first old new e v events altered shows shut =
      let f : Fold = fold_events keys old.altered 0 old.events first in
      let n : ℕ = 0 + length old.events in
      let a : Option Stop = events_verdict keys stash old.altered 0 old.events first in
      let o : Option Stop = open_verdict keys stash f.path f.now in
      let g : Fold = after_event keys old.altered n e f in
      let events_are : events_verdict keys stash new.altered 0 new.events first ≡ first_of a (first_of o v) =
      ap₂ (λ l k. events_verdict keys stash l 0 k first) altered events
      ∙ verdict_append old.altered 0 old.events (e ∷ []) first
      ∙ ap (first_of a) (first_none (event_verdict keys stash old.altered n e f) ∙ shows) in
      let end : fold_events keys new.altered 0 new.events first ≡ g = ap₂
      (λ l k. fold_events keys l 0 k first) altered events
      ∙ fold_append keys old.altered 0 old.events (e ∷ []) first in
      ap₂ (λ x h. first_of x (open_verdict keys stash h.path h.now)) events_are end
      ∙ ap (λ path. first_of (first_of a (first_of o v)) (open_verdict keys stash path g.now)) shut
      ∙ first_none (first_of a (first_of o v)) ∙ sym (first_twice a o v)

  pub append_shows : (first : Fold) (old new : LogLists) (m : Message)
      → is_open_for m (fold_events keys old.altered 0 old.events first).path ≡ false
      → new.events ≡ old.events ++ Tagged m ∷ [] → new.altered ≡ old.altered
      → log_verdict keys stash first new ≡ first_of (log_verdict keys stash first old)
      (append_verdict stash m.address (whole keys first old).hand)
  append_shows first old new m other events altered =
      let f : Fold = fold_events keys old.altered 0 old.events first in
      settled_shows first old new (Tagged m) (append_verdict stash m.address (settle keys f).now.hand) events altered
      (ap (λ (b : Bool). (if b then None else first_of (open_verdict keys stash f.path f.now)
      (append_verdict stash m.address (settle keys f).now.hand))) other)
      (ap (λ (b : Bool). (joined_by keys m (if b then f else settle keys f)).path) other)

  pub end_shows : (first : Fold) (old new : LogLists) → IsEnd old new
      → log_verdict keys stash first new ≡ log_verdict keys stash first old
  end_shows first old new e = elim e.events [
    | inl same ↦ ap₂ (λ l k. first_of (events_verdict keys stash l 0 k first)
        (let f = fold_events keys l 0 k first in open_verdict keys stash f.path f.now)) e.altered same
    | inr x ↦
        let f : Fold = fold_events keys old.altered 0 old.events first in
        settled_shows first old new (Chosen x.0) None x.1 e.altered
        (sym (first_none (open_verdict keys stash f.path f.now))) refl
        ∙ first_none (log_verdict keys stash first old)
  ]

  pub answer_shows : (first : Fold) (old new : LogLists) (line : ℕ) (value : Line)
      → new.events ≡ old.events ++ Answered line value ∷ [] → new.altered ≡ old.altered
      → log_verdict keys stash first new ≡ log_verdict keys stash first old
  answer_shows first old new line value events altered =
      let f : Fold = fold_events keys old.altered 0 old.events first in
      settled_shows first old new (Answered line value) None events altered
      (sym (first_none (open_verdict keys stash f.path f.now))) refl
      ∙ first_none (log_verdict keys stash first old)
