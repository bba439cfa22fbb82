-- The fold over a log that a slot lengthens is the slot's step on the fold.
use Rattle.std.proofs.Common.{◌≡◌, ◌<◌, ◌≤◌, ◌+◌, inl, inr, ℕ, true, false, if◌then◌else◌, List}
use Rattle.std.proofs.Common.{[], ◌∷◌, ◌++◌, length, All, Option, None, Some, Result, refl, sym, ◌∙◌}
use Rattle.std.proofs.Common.{ap, ap₂, subst, arith, append-nil}
use Rattle.std.proofs.lemmas.Bool.Decides.{eqb_tells}
use Rattle.asc_base.specs.declared.block.Counter.{Counter}
use Rattle.asc_base.specs.declared.block.Entry.{Entry}
use Rattle.asc_base.specs.declared.block.Message.{Message}
use Rattle.asc_base.specs.declared.block.Point.{Point}
use Rattle.asc_base.specs.declared.block.Point.TheVariants.{Dummy}
use Rattle.asc_base.specs.declared.stop.Evidence.{Evidence}
use Rattle.bus_watch.specs.Log.{LogLists}
use Rattle.bus_watch.specs.declared.log.Altered.{Altered}
use Rattle.bus_watch.specs.declared.log.Event.{Event}
use Rattle.bus_watch.specs.declared.log.Event.TheVariants.{Access, Drawn, Tagged, Accepted, Chosen, Answered}
use Rattle.oram_stash.specs.Entries.{without}
use Rattle.oram_contents.specs.Contents.{Contents, IsReadTo, after_write}
use Rattle.oram_contents.specs.PathRead.{replies, path_read}
use Rattle.oram_contents.specs.Entries.{Keys, real, message_of, entry_of}
use Rattle.asc_base.specs.Has.{Has}
use Rattle.oram_contents.specs.Fold.{Fold, with_entry, settle, noted_at, leave, hand_after, read_by}
use Rattle.oram_contents.specs.Fold.{is_open_for, joined_by, after_event, fold_events, whole}
use Rattle.oram_contents.specs.Steps.{accepted}
use Rattle.oram_contents.specs.Slots.{drawn_events, IsAccess, IsPass, IsRefill}
use Rattle.asc_base.proofs.Members.{all_has}

noted_append : (k : ℕ) (xs ys : List Altered) → noted_at k (xs ++ ys) ≡ noted_at k xs ++ noted_at k ys
noted_append k [] ys = refl
noted_append k (x ∷ xs) ys = elim (eqb_tells x.before k) [
  | inl same ↦ rw same.0 (ap (λ l. x ∷ l) (noted_append k xs ys))
  | inr other ↦ rw other.0 (noted_append k xs ys)
]

noted_none : (k : ℕ) (xs : List Altered) → ((reply : Altered) → Has reply xs → reply.before ≡ k → ⊥)
    → noted_at k xs ≡ []
noted_none k [] none = refl
noted_none k (x ∷ xs) none = elim (eqb_tells x.before k) [
  | inl same ↦ absurd (none x (inl refl) same.1)
  | inr other ↦ rw other.0 (noted_none k xs (λ reply h. none reply (inr h)))
]

noted_all : (k : ℕ) (xs : List Altered) → ((reply : Altered) → Has reply xs → reply.before ≡ k) → noted_at k xs ≡ xs
noted_all k [] all = refl
noted_all k (x ∷ xs) all = elim (eqb_tells x.before k) [
  | inl same ↦ rw same.0 (ap (λ l. x ∷ l) (noted_all k xs (λ reply h. all reply (inr h))))
  | inr other ↦ absurd (other.1 (all x (inl refl)))
]

-- replies that were noted elsewhere aren't among those of an event
pub noted_same : (k : ℕ) (xs extra : List Altered) → ((reply : Altered) → Has reply extra → k < reply.before)
    → noted_at k (xs ++ extra) ≡ noted_at k xs
noted_same k xs extra later =
    noted_append k xs extra ∙ ap (λ l. noted_at k xs ++ l)
    (noted_none k extra (λ reply h is. omega (arith, later reply h))) ∙ append-nil (noted_at k xs)

module _ (keys : Keys) where
  pub fold_append : (altered : List Altered) (n : ℕ) (xs ys : List Event) (f : Fold)
      → fold_events keys altered n (xs ++ ys) f ≡ fold_events keys altered (n + length xs) ys
      (fold_events keys altered n xs f)
  fold_append altered n [] ys f = ap (λ k. fold_events keys altered k ys f) (omega arith)
  fold_append altered n (x ∷ xs) ys f =
      fold_append altered (n + 1) xs ys (after_event keys altered n x f)
      ∙ ap (λ k. fold_events keys altered k ys (fold_events keys altered (n + 1) xs (after_event keys altered n x f)))
      (omega arith)

  pub event_more : (altered extra : List Altered) (n : ℕ) (e : Event) (f : Fold)
      → ((reply : Altered) → Has reply extra → n + 1 < reply.before)
      → after_event keys (altered ++ extra) n e f ≡ after_event keys altered n e f
  event_more altered extra n (Access start asked) f later = refl
  event_more altered extra n (Drawn p x) f later =
      ap (λ l. read_by keys l p x.0 (settle keys f)) (noted_same (n + 1) altered extra (λ reply h. later reply h))
  event_more altered extra n (Accepted m t) f later = refl
  event_more altered extra n (Tagged m) f later = refl
  event_more altered extra n (Chosen index) f later = refl
  event_more altered extra n (Answered line value) f later = refl

  -- replies that were noted later don't change the fold so far
  pub fold_more : (altered extra : List Altered) (n : ℕ) (xs : List Event) (f : Fold)
      → ((reply : Altered) → Has reply extra → n + length xs < reply.before)
      → fold_events keys (altered ++ extra) n xs f ≡ fold_events keys altered n xs f
  fold_more altered extra n [] f later = refl
  fold_more altered extra n (x ∷ xs) f later =
      ap (fold_events keys (altered ++ extra) (n + 1) xs)
      (event_more altered extra n x f (λ reply h. omega (arith, later reply h)))
      ∙ fold_more altered extra (n + 1) xs (after_event keys altered n x f) (λ reply h. omega (arith, later reply h))

  -- a path was read for a point, from these contents on
  abbrev pub read_fold : Contents → ℕ → Point → List Entry → Fold
  read_fold now start p joined = record {
    now = record now { hand = leave p joined };
    start = start;
    path = Some
        (p, keys.leaf_of p);
  }

  -- a path was read for a point, with evidence or without
  abbrev pub any_fold : Contents → ℕ → Point → Result (List Entry) Evidence → Fold
  any_fold now start p read = record {
    now = record now { hand = hand_after p now.hand read };
    start = start;
    path =
        Some (p, keys.leaf_of p);
  }

  -- what the reads of a slot's path give
  abbrev pub read_of : Contents → ℕ → Point → List Altered → Result (List Entry) Evidence
  read_of now start p extra = path_read keys.pads keys.shape (keys.leaf_of p)
      (replies keys.shape.levels start (keys.leaf_of p) now.mirror extra) now.hand

  -- the fold up to a slot's end is its events on what the path read gave
  module _ (first : Fold) (old new : LogLists) (start : ℕ) (asked : Option ℕ) (p : Point) (rest : List Event)
      (extra : List Altered)
      (past : (reply : Altered) → Has reply old.altered → reply.before ≤ length old.events)
      (events : new.events ≡ old.events ++ (drawn_events keys start asked p ++ rest))
      (altered : new.altered ≡ old.altered ++ extra)
      (noted : All (λ (reply : Altered). reply.before ≡ length old.events + 2) extra) where
    pub before_at : (reply : Altered) → Has reply extra → reply.before ≡ length old.events + 2
    before_at reply h = all_has (λ (x : Altered). x.before ≡ length old.events + 2) reply extra noted h

    mine : noted_at (0 + length old.events + 1 + 1) (old.altered ++ extra) ≡ extra
    mine =
        let none : noted_at (0 + length old.events + 1 + 1) old.altered ≡ [] = noted_none _ old.altered
        (λ reply h is. omega (arith, past reply h)) in
        let all : noted_at (0 + length old.events + 1 + 1) extra ≡ extra = noted_all _ extra
        (λ reply h. omega (arith, before_at reply h)) in
        noted_append (0 + length old.events + 1 + 1) old.altered extra ∙ ap₂ (λ x y. x ++ y) none all

    pub noted_here : noted_at (0 + length old.events + 1 + 1) new.altered ≡ extra
    noted_here = ap (noted_at (0 + length old.events + 1 + 1)) altered ∙ mine

    pub so_far : fold_events keys new.altered 0 old.events first ≡ fold_events keys old.altered 0 old.events first
    so_far = ap (λ l. fold_events keys l 0 old.events first) altered
        ∙ fold_more old.altered extra 0 old.events first (λ reply h. omega (arith, before_at reply h))

    pub slot_fold_any : fold_events keys new.altered 0 new.events first
        ≡ fold_events keys new.altered (0 + length old.events + 1 + 1) rest
        (any_fold (whole keys first old) start p (read_of (whole keys first old) start p extra))
    slot_fold_any =
        ap (λ l. fold_events keys new.altered 0 l first) events
        ∙ fold_append new.altered 0 old.events (drawn_events keys start asked p ++ rest) first
        ∙ ap (fold_events keys new.altered (0 + length old.events) (drawn_events keys start asked p ++ rest)) so_far
        ∙ ap (λ l. fold_events keys new.altered (0 + length old.events + 1 + 1) rest
        (read_by keys l p (keys.leaf_of p) (record { now = whole keys first old; start = start; path = None })))
        noted_here

    pub slot_fold : (joined : List Entry) → IsReadTo keys.pads keys.shape start (keys.leaf_of p) extra
        (whole keys first old) joined
        → fold_events keys new.altered 0 new.events first ≡ fold_events keys new.altered
        (0 + length old.events + 1 + 1) rest (read_fold (whole keys first old) start p joined)
    slot_fold joined read =
        slot_fold_any
        ∙ ap (λ r. fold_events keys new.altered (0 + length old.events + 1 + 1) rest
        (record {
          now = record (whole keys first old) { hand = hand_after p (whole keys first old).hand r };
          start
              = start;
          path = Some (p, keys.leaf_of p);
        })) read

  accepted_fold : (altered : List Altered) (n a : ℕ) (c : Counter) (found : Option Entry) (f : Fold)
      → fold_events keys altered n (accepted a c found) f ≡ f
  accepted_fold altered n a c None f = refl
  accepted_fold altered n a c (Some e) f = refl

  -- the contents of a log that a slot lengthens, from those before it
  pub whole_pass : (first : Fold) (old new : LogLists) (now after : Contents) (start n : ℕ)
      → ((reply : Altered) → Has reply old.altered → reply.before ≤ length old.events)
      → whole keys first old ≡ now → IsPass keys old new now after start n → whole keys first new ≡ after
  whole_pass first old new now after start n past is x =
      let read : IsReadTo keys.pads keys.shape start (keys.leaf_of (Dummy n)) x.altered
      (whole keys first old) x.joined = subst (λ w. IsReadTo keys.pads keys.shape start
      (keys.leaf_of (Dummy n)) x.altered w x.joined) (sym is) x.read in
      ap (λ f. (settle keys f).now) (slot_fold first old new start x.asked (Dummy n) [] x.altered past
      (x.events_are ∙ ap (λ l. old.events ++ l) (sym (append-nil (drawn_events keys start x.asked (Dummy n)))))
      x.altered_are x.noted x.joined read)
      ∙ ap (λ (w : Contents). after_write keys.pads keys.shape.levels (keys.leaf_of (Dummy n))
      (record w { hand = x.joined })) is ∙ sym x.after_is

  pub whole_refill : (first : Fold) (old new : LogLists) (now after : Contents) (start a : ℕ) (c : Counter)
      (found : Option Entry) → ((reply : Altered) → Has reply old.altered → reply.before ≤ length old.events)
      → whole keys first old ≡ now → IsRefill keys old new now after start a c found
      → (whole keys first new ≡ after) × ((fold_events keys new.altered 0 new.events first).path ≡ Some
      (real a c, keys.leaf_of (real a c)))
  whole_refill first old new now after start a c found past is x =
      let read : IsReadTo keys.pads keys.shape start (keys.leaf_of (real a c)) x.altered
      (whole keys first old) x.joined = subst (λ w. IsReadTo keys.pads keys.shape start
      (keys.leaf_of (real a c)) x.altered w x.joined) (sym is) x.read in
      let all : fold_events keys new.altered 0 new.events first ≡ read_fold (whole keys first old) start
      (real a c) x.joined =
      slot_fold first old new start x.asked (real a c)
      (accepted a c found) x.altered past x.events_are x.altered_are x.noted x.joined read
      ∙ accepted_fold new.altered (0 + length old.events + 1 + 1) a c found
      (read_fold (whole keys first old) start (real a c) x.joined) in (
        ap (λ f. (settle keys f).now) all
            ∙ ap (λ (w : Contents). after_write keys.pads keys.shape.levels (keys.leaf_of (real a c))
            (record w { hand = without x.joined (record { 0 = a }) })) is ∙ sym x.after_is,
        ap (λ (f : Fold). f.path) all,
      )

  open_for : (a : ℕ) (c d : Counter) (l : List ℕ) (x : ℕ) → is_open_for (message_of a d l) (Some (real a c, x)) ≡ true
  open_for a c d l x = elim (eqb_tells a a) [ inl same ↦ same.0 | inr other ↦ absurd (other.1 refl) ]

  pub whole_access : (first : Fold) (old new : LogLists) (now after : Contents) (start a : ℕ) (c c' : Counter)
      (found : Option Entry) (l : List ℕ) → ((reply : Altered) → Has reply old.altered
      → reply.before ≤ length old.events)
      → whole keys first old ≡ now → IsAccess keys old new now after start a c c' found l → whole keys first new ≡ after
  whole_access first old new now after start a c c' found l past is x =
      let read : IsReadTo keys.pads keys.shape start (keys.leaf_of (real a c)) x.altered
      (whole keys first old) x.joined = subst (λ w. IsReadTo keys.pads keys.shape start
      (keys.leaf_of (real a c)) x.altered w x.joined) (sym is) x.read in
      let n : ℕ = 0 + length old.events + 1 + 1 in
      let r : Fold = read_fold (whole keys first old) start (real a c) x.joined in
      let joins : fold_events keys new.altered 0 new.events first ≡ joined_by keys (message_of a c' l)
      (if is_open_for (message_of a c' l) (Some (real a c, keys.leaf_of (real a c))) then r else settle keys r) =
      slot_fold first old new start x.asked (real a c)
      (accepted a c found ++ Tagged (message_of a c' l) ∷ []) x.altered past x.events_are x.altered_are x.noted
      x.joined read
      ∙ fold_append new.altered (0 + length old.events + 1 + 1) (accepted a c found)
      (Tagged (message_of a c' l) ∷ []) (read_fold (whole keys first old) start (real a c) x.joined)
      ∙ ap (fold_events keys new.altered (0 + length old.events + 1 + 1 + length (accepted a c found))
      (Tagged (message_of a c' l) ∷ [])) (accepted_fold new.altered (0 + length old.events + 1 + 1) a c found
      (read_fold (whole keys first old) start (real a c) x.joined)) in
      let opens : fold_events keys new.altered 0 new.events first ≡ joined_by keys (message_of a c' l) r =
      joins ∙ ap (λ b. joined_by keys (message_of a c' l) (if b then r else settle keys r))
      (open_for a c c' l (keys.leaf_of (real a c))) in
      ap (λ f. (settle keys f).now) opens
      ∙ ap (λ (w : Contents). after_write keys.pads keys.shape.levels (keys.leaf_of (real a c))
      (with_entry (record w { hand = without x.joined (record { 0 = a }) }) (entry_of keys a c' l))) is
      ∙ sym x.after_is

  -- an append: the open path isn't that of the block, so it is settled before the block joins
  pub whole_append : (first : Fold) (old new : LogLists) (now : Contents) (m : Message) → whole keys first old ≡ now
      → is_open_for m (fold_events keys old.altered 0 old.events first).path ≡ false
      → new.events ≡ old.events ++ Tagged m ∷ [] → new.altered ≡ old.altered
      → whole keys first new ≡ with_entry now (entry_of keys m.address.0 m.counter m.line.0)
  whole_append first old new now m is other events altered =
      let f : Fold = fold_events keys old.altered 0 old.events first in
      let all : fold_events keys new.altered 0 new.events first ≡ joined_by keys m
      (if is_open_for m f.path then f else settle keys f) =
      ap₂ (λ l k. fold_events keys l 0 k first) altered events
      ∙ fold_append old.altered 0 old.events (Tagged m ∷ []) first in
      ap (λ g. (settle keys g).now) (all ∙ ap (λ b. joined_by keys m (if b then f else settle keys f)) other)
      ∙ ap (λ (w : Contents). with_entry w (entry_of keys m.address.0 m.counter m.line.0)) is
