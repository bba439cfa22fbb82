-- The slot of a block keeps what is known of a log, and nothing stands behind it yet.
use Rattle.std.proofs.Common.{◌≡◌, ◌<◌, ◌≤◌, ℕ, false, List, [], ◌∷◌, ◌++◌, length, Option, None, Some, refl, sym, ◌∙◌}
use Rattle.std.proofs.Common.{ap, subst, append-nil, append_assoc}
use Rattle.std.proofs.lemmas.List.{append_cancel_left}
use Rattle.asc_base.proofs.Members.{all_has}
use Rattle.asc_base.specs.declared.block.Counter.{Counter}
use Rattle.asc_base.specs.declared.block.Entry.{Entry}
use Rattle.asc_base.specs.declared.block.Message.{Message}
use Rattle.bucket_codec.specs.Slot.{IsEntry, IsInRange}
use Rattle.bus_watch.specs.Log.{LogLists}
use Rattle.bus_watch.specs.declared.log.Event.{Event}
use Rattle.bus_watch.specs.declared.log.Event.TheVariants.{Access, Drawn}
use Rattle.oram_contents.specs.Contents.{Contents}
use Rattle.oram_contents.specs.Counts.{Ghost, zero_line}
use Rattle.oram_contents.specs.Entries.{Keys, AreKeys, real, message_of, entry_of}
use Rattle.oram_contents.specs.Fold.{is_open_for, fold_events, whole}
use Rattle.oram_contents.specs.PathWritten.{stays}
use Rattle.oram_contents.specs.Provenance.{Always}
use Rattle.oram_contents.specs.Shapes.{AreOfShape}
use Rattle.oram_contents.specs.Slots.{drawn_events, IsAccess, IsRefill, IsEnd, HasSeeds}
use Rattle.oram_contents.specs.Starts.{first_fold, first_ghost}
use Rattle.oram_contents.specs.Steps.{accepted}
use Rattle.oram_contents.specs.Verdict.{line_found, write_verdict, put_events}
use Rattle.oram_contents.proofs.Ends.{always_ends, whole_ends}
use Rattle.oram_contents.proofs.Final.{final_always}
use Rattle.oram_contents.proofs.Folding.{whole_access, whole_refill}
use Rattle.oram_contents.proofs.Found.{held_has}
use Rattle.oram_contents.proofs.RefillSteps.{refill_always}
use Rattle.oram_stash.specs.Entries.{held, without}
use Rattle.log_replay.specs.Order.{Nothing, SlotNotes, chosen_events, events_of}
use Rattle.log_replay.proofs.ReplayedLogs.{IsReplayedLog, AddsSlot, in_turn, chosen_at, chosen_is}
use Rattle.log_replay.proofs.Rests.{write_right}
use Rattle.log_replay.proofs.SlotSteps.{slot_replayed, slot_path}

-- Behind the slot of a block in which this line was found, and this message put back, if one was, nothing stands yet,
-- and no other block's path is open.
pub record IsBehindBlock (keys : Keys) (stash : ℕ) (log : LogLists) (now : Contents) (n a : ℕ) (line : List ℕ)
    (put : Option Message) : Type 0 where
  pub replayed : IsReplayedLog keys stash log now n
  pub before : List SlotNotes
  pub last : SlotNotes
  pub slots : replayed.order.slots ≡ before ++ last ∷ []
  pub counter : Counter
  pub point : last.point ≡ real a counter
  pub line_is : line ≡ line_found last.found
  pub put_is : last.put ≡ put
  pub bare : last.behind ≡ Nothing
  pub path : (m : Message) → (m.address.0 ≡ a → ⊥)
      → is_open_for m (fold_events keys log.altered 0 log.events (first_fold keys)).path ≡ false

-- the notes of a block's slot, with nothing behind it
abbrev pub block_notes : ℕ → ℕ → ℕ → Counter → Option Entry → Option Message → Option ℕ → SlotNotes
block_notes start time a c found put chosen = record {
  start = start;
  asked = Some time;
  point = real a c;
  found = found;
  put = put;
  chosen = chosen;
  behind = Nothing;
}

-- a ghost record in which each block has this counter
abbrev pub counting : Counter → Ghost
counting c = record first_ghost { count = λ b. c }

first_asked : (start : ℕ) (asked other : Option ℕ) (xs ys : List Event)
    → Access start asked ∷ xs ≡ Access start other ∷ ys → asked ≡ other
first_asked start asked other xs ys is = cc

zero_whole : length zero_line ≡ 64
unfolding zero_line
zero_whole = refl

-- the line of what was found has 64 bytes
pub found_whole : (keys : Keys) (joined : List Entry) (a : ℕ) (found : Option Entry) → AreOfShape keys.shape joined
    → held joined (record { 0 = a }) ≡ found → length (line_found found) ≡ 64
found_whole keys joined a None of_shape is = zero_whole
found_whole keys joined a (Some e) of_shape is =
    let range = all_has (λ (x : Entry). IsEntry x × IsInRange keys.shape (Some x)) e joined of_shape
    (held_has joined (record { 0 = a }) e is).0 in
    range.0.line

-- a slot that an access asked for at a time is asked for at that time
pub asked_is : (keys : Keys) (old log : LogLists) (start a time : ℕ) (c : Counter) (asked : Option ℕ)
    (more later : List Event) → log.events ≡ old.events ++ (drawn_events keys start asked (real a c) ++ more)
    → log.events ≡ old.events ++ (drawn_events keys start (Some time) (real a c) ++ later) → asked ≡ Some time
asked_is keys old log start a time c asked more later one other =
    first_asked start asked (Some time) (Drawn (real a c) (record { 0 = keys.leaf_of (real a c) }) ∷ more)
    (Drawn (real a c) (record { 0 = keys.leaf_of (real a c) }) ∷ later)
    (append_cancel_left old.events (drawn_events keys start asked (real a c) ++ more)
    (drawn_events keys start (Some time) (real a c) ++ later) (sym one ∙ other))

module _ (keys : Keys) (lawful : AreKeys keys) (stash : ℕ) (old log new : LogLists) (now after : Contents)
    (start a time : ℕ) (c : Counter) (found : Option Entry) (ends : IsEnd log new) (n : ℕ) (seeds : HasSeeds now)
    (few : length after.hand ≤ stash) (y : IsReplayedLog keys stash old now n) where
  -- what is noted up to the choice at the slot's end
  noted_to_end : (asked : Option ℕ) (put : Option Message) → asked ≡ Some time
      → log.events ≡ old.events ++ (drawn_events keys start asked (real a c) ++ (accepted a c found ++ put_events put))
      → new.events ≡ old.events ++ events_of keys (block_notes start time a c found put (chosen_at log new ends))
  noted_to_end asked put is events =
      let chosen = chosen_events (chosen_at log new ends) in
      let start_events = drawn_events keys start (Some time) (real a c) in
      chosen_is log new ends ∙ ap (λ l. l ++ chosen) (events ∙ ap (λ o. old.events
      ++ (drawn_events keys start o (real a c) ++ (accepted a c found ++ put_events put))) is)
      ∙ append_assoc old.events (start_events ++ (accepted a c found ++ put_events put)) chosen
      ∙ ap (λ l. old.events ++ l) (in_turn start_events (accepted a c found) (put_events put) chosen)

  -- behind a slot that was added
  behind_added : (put : Option Message)
      → AddsSlot keys stash old new now n (block_notes start time a c found put (chosen_at log new ends))
      → whole keys (first_fold keys) new ≡ after → Always keys new after
      → IsBehindBlock keys stash new after n a (line_found found) put
  behind_added put adds is always =
      let s = block_notes start time a c found put (chosen_at log new ends) in
      let r = slot_replayed keys stash old new now n s y adds after is always in
      record {
        replayed = r.0;
        before = y.order.slots;
        last = s;
        slots = r.1;
        counter = c;
        point = refl;
        line_is = refl;
        put_is = refl;
        bare = refl;
        path = λ m other. slot_path keys stash old new now n s y adds m a c refl other;
      }

  -- a slot after which the block is put back
  pub access_behind : (d : Counter) (l : List ℕ) (x : IsAccess keys old log now after start a c d found l)
      → x.asked ≡ Some time → a < keys.shape.total → length l ≡ 64
      → IsBehindBlock keys stash new after n a (line_found found) (Some (message_of a d l))
  access_behind d l x asked inside wide =
      behind_added (Some (message_of a d l)) adds
      (whole_ends keys (first_fold keys) log new ends
      ∙ whole_access keys (first_fold keys) old log now after start a c d found l y.always.past y.contents_are x)
      (always_ends keys log new after ends
      (final_always keys lawful old log (counting c) now after start a d found l x inside wide seeds y.always))
    where
      back : List Entry
      back = without x.joined (record { 0 = a }) ++ entry_of keys a d l ∷ []

      hand : after.hand ≡ stays keys.shape.levels (keys.leaf_of (real a c)) back
      hand = ap (λ (k : Contents). k.hand) x.after_is

      adds : AddsSlot keys stash old new now n
          (block_notes start time a c found (Some (message_of a d l)) (chosen_at log new ends))
      adds = record {
        altered = x.altered;
        joined = x.joined;
        adds = record {
          events_are = noted_to_end x.asked (Some (message_of a d l)) asked x.events_are;
          altered_are = ends.altered ∙ x.altered_are;
        };
        noted = x.noted;
        next = (time, refl);
        read = x.read;
        taken = (x.found_is, x.right, tt);
        put = refl;
        bare = refl;
        room = write_right keys stash (keys.leaf_of (real a c)) back
            (subst (λ (h : List Entry). length h ≤ stash) hand few);
      }

  -- a slot after which the block is held back
  pub refill_behind : (x : IsRefill keys old log now after start a c found) → x.asked ≡ Some time
      → IsBehindBlock keys stash new after n a (line_found found) None
  refill_behind x asked =
      behind_added None adds
      (whole_ends keys (first_fold keys) log new ends
      ∙ (whole_refill keys (first_fold keys) old log now after start a c found y.always.past y.contents_are x).0)
      (always_ends keys log new after ends
      (refill_always keys lawful old log (counting c) now after start a c found x seeds y.always))
    where
      left : List Entry
      left = without x.joined (record { 0 = a })

      hand : after.hand ≡ stays keys.shape.levels (keys.leaf_of (real a c)) left
      hand = ap (λ (k : Contents). k.hand) x.after_is

      adds : AddsSlot keys stash old new now n (block_notes start time a c found None (chosen_at log new ends))
      adds = record {
        altered = x.altered;
        joined = x.joined;
        adds = record {
          events_are = noted_to_end x.asked None asked (x.events_are ∙ ap (λ l. old.events
              ++ (drawn_events keys start x.asked (real a c) ++ l)) (sym (append-nil (accepted a c found))));
          altered_are = ends.altered ∙ x.altered_are;
        };
        noted = x.noted;
        next = (time, refl);
        read = x.read;
        taken = (x.found_is, x.right, tt);
        put = tt;
        bare = refl;
        room = subst (λ h. write_verdict keys stash (keys.leaf_of (real a c)) h ≡ None) (sym (append-nil left))
            (write_right keys stash (keys.leaf_of (real a c)) left
            (subst (λ (h : List Entry). length h ≤ stash) hand few));
      }
