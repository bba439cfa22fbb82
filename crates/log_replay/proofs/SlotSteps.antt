-- A slot that is done keeps what is known of a log, and dummies do, however many.
use Rattle.std.proofs.Common.{◌≡◌, ◌≤◌, ◌+◌, ◌⊎◌, inl, inr, ℕ, zero, suc, false, List, [], ◌∷◌, ◌++◌, length, Option}
use Rattle.std.proofs.Common.{None, Some, Ok, refl, sym, ◌∙◌, ap, ap₂, subst, arith, append-nil, append_assoc}
use Rattle.std.specs.List.{count_by}
use Rattle.asc_base.specs.declared.block.Counter.{Counter}
use Rattle.asc_base.specs.declared.block.Entry.{Entry}
use Rattle.asc_base.specs.declared.block.Message.{Message}
use Rattle.asc_base.specs.declared.block.Point.{Point}
use Rattle.asc_base.specs.declared.block.Point.TheVariants.{Real, Dummy}
use Rattle.bus_watch.specs.Log.{LogLists}
use Rattle.bus_watch.specs.declared.log.Event.TheVariants.{Chosen}
use Rattle.oram_contents.specs.Contents.{Contents}
use Rattle.oram_contents.specs.Entries.{Keys, AreKeys, real}
use Rattle.oram_contents.specs.Fold.{is_open_for, fold_events, whole}
use Rattle.oram_contents.specs.PathRead.{replies, path_read}
use Rattle.oram_contents.specs.PathWritten.{stays}
use Rattle.oram_contents.specs.Provenance.{Always}
use Rattle.oram_contents.specs.Slots.{drawn_events, IsEnd, IsDummy, ArePasses, HasSeeds}
use Rattle.oram_contents.specs.Starts.{first_fold, first_ghost}
use Rattle.oram_contents.specs.Steps.{next_dummy}
use Rattle.oram_contents.specs.Verdict.{integrity, judged, first_of, read_verdict, write_verdict, slot_verdict}
use Rattle.oram_contents.specs.Verdict.{note_events, put_events}
use Rattle.oram_contents.proofs.Ends.{always_ends, whole_ends}
use Rattle.oram_contents.proofs.Folding.{read_fold, slot_fold, whole_pass}
use Rattle.oram_contents.proofs.DummySteps.{pass_always}
use Rattle.oram_contents.proofs.VerdictLaws.{slot_shows, end_shows}
use Rattle.rate_enforcer.specs.Counts.{is_dummy}
use Rattle.rate_enforcer.specs.Served.{AreFew}
use Rattle.rate_enforcer.proofs.Counted.{count_more}
use Rattle.log_replay.specs.Judged.{verdict_on}
use Rattle.log_replay.specs.Order.{Nothing, SlotNotes, accepted_events, chosen_events, behind_events, events_of}
use Rattle.log_replay.specs.Order.{IsTaken, IsDone, AreDone}
use Rattle.log_replay.proofs.OpenPaths.{quiet_later, quiet_fold, other_open}
use Rattle.log_replay.proofs.Orders.{later_events, slot_dummies, all_done_kept, done_more}
use Rattle.log_replay.proofs.ReplayedLogs.{IsReplayedLog, AddsSlot, note_of, note_is, in_turn, chosen_at, chosen_is}
use Rattle.log_replay.proofs.ReplayedLogs.{late, slot_done, slot_order}
use Rattle.log_replay.proofs.Rests.{write_right}

module _ (keys : Keys) (stash : ℕ) (old new : LogLists) (now : Contents) (n : ℕ) (s : SlotNotes)
    (x : IsReplayedLog keys stash old now n) (a : AddsSlot keys stash old new now n s) where
  -- the log without the choice at the slot's end
  abbrev unchosen : LogLists
  unchosen = record {
    moves = new.moves;
    events = old.events ++ (drawn_events keys s.start s.asked s.point
        ++ (note_events (note_of s.point s.found) ++ put_events s.put));
    altered = new.altered;
  }

  events_are : new.events ≡ unchosen.events ++ chosen_events s.chosen
  events_are =
      let start = drawn_events keys s.start s.asked s.point in
      let bare : events_of keys s ≡ start ++ (accepted_events s.point s.found
      ++ (put_events s.put ++ (chosen_events s.chosen ++ []))) =
      ap (λ b. start ++ (accepted_events s.point s.found
      ++ (put_events s.put ++ (chosen_events s.chosen ++ behind_events b)))) a.bare in
      let noted : events_of keys s ≡ start ++ (note_events (note_of s.point s.found)
      ++ (put_events s.put ++ (chosen_events s.chosen ++ []))) = bare
      ∙ ap (λ l. start ++ (l ++ (put_events s.put ++ (chosen_events s.chosen ++ [])))) (note_is s.point s.found) in
      a.adds.events_are ∙ ap (λ l. old.events ++ l) (noted ∙ sym (in_turn start
      (note_events (note_of s.point s.found)) (put_events s.put) (chosen_events s.chosen)))
      ∙ sym (append_assoc old.events (start ++ (note_events (note_of s.point s.found) ++ put_events s.put))
      (chosen_events s.chosen))

  ends : IsEnd unchosen new
  ends = record { altered = refl; events = by_choice s.chosen events_are }
    where
      by_choice : (o : Option ℕ) → new.events ≡ unchosen.events ++ chosen_events o
          → (new.events ≡ unchosen.events) ⊎ ((index : ℕ) × (new.events ≡ unchosen.events ++ Chosen index ∷ []))
      by_choice None is = inl (is ∙ append-nil unchosen.events)
      by_choice (Some index) is = inr (index, is)

  read_right : read_verdict keys s.point (Ok a.joined) ≡ None
  read_right = by_point s.point a.taken
    where
      by_point : (p : Point) → IsTaken keys a.joined p s → read_verdict keys p (Ok a.joined) ≡ None
      by_point (Real b c) taken = ap integrity (ap (judged keys b.0 c) taken.0 ∙ taken.1)
      by_point (Dummy k) taken = refl

  pub slot_right : verdict_on keys stash new ≡ None
  slot_right =
      let p = s.point in
      let leaf = keys.leaf_of p in
      let shown = slot_shows keys stash (first_fold keys) old unchosen s.start s.asked p (note_of p s.found) s.put
      a.altered x.always.past refl a.adds.altered_are a.noted a.put in
      end_shows keys stash (first_fold keys) unchosen new ends ∙ shown
      ∙ ap₂ (λ v (w : Contents). first_of v (slot_verdict keys stash p leaf (path_read keys.pads keys.shape leaf
      (replies keys.shape.levels s.start leaf w.mirror a.altered) w.hand) s.put)) x.right x.contents_are
      ∙ ap (λ r. slot_verdict keys stash p leaf r s.put) a.read
      ∙ ap₂ first_of read_right a.room

  -- behind the slot no path is open but that of its block
  pub slot_path : (m : Message) (b : ℕ) (c : Counter) → s.point ≡ real b c → (m.address.0 ≡ b → ⊥)
      → is_open_for m (fold_events keys new.altered 0 new.events (first_fold keys)).path ≡ false
  slot_path m b c is other =
      let w = whole keys (first_fold keys) old in
      let read = subst (λ (k : Contents). path_read keys.pads keys.shape (keys.leaf_of s.point)
      (replies keys.shape.levels s.start (keys.leaf_of s.point) k.mirror a.altered) k.hand ≡ Ok a.joined)
      (sym x.contents_are) a.read in
      let all = slot_fold keys (first_fold keys) old new s.start s.asked s.point (later_events s) a.altered
      x.always.past a.adds.events_are a.adds.altered_are a.noted a.joined read in
      ap (λ f. is_open_for m f.path) all
      ∙ quiet_fold keys m new.altered (0 + length old.events + 1 + 1) (later_events s)
      (read_fold keys w s.start s.point a.joined) (quiet_later s)
      (other_open keys m s.point b c (keys.leaf_of s.point) is other)

  -- what is known of the longer log, with contents that it says and of which holds what holds always
  pub slot_replayed : (after : Contents) → whole keys (first_fold keys) new ≡ after → Always keys new after
      → (r : IsReplayedLog keys stash new after (next_dummy n s.point)) × (r.order.slots ≡ x.order.slots ++ s ∷ [])
  slot_replayed after is always =
      let done : IsDone keys new old.events s = slot_done keys stash old new now n s x a.altered a.joined a.adds a.noted
      a.read a.taken a.put in
      let ordered = slot_order keys stash old new now n s x a.altered a.adds a.noted a.next (inl done) in (
        record {
          order = ordered.0;
          done = subst (λ l. AreDone keys new [] l) (sym ordered.1) (done_more keys new [] x.order.slots s
              (all_done_kept keys old new a.altered a.adds.altered_are [] x.order.slots
              (late keys stash old new now n s x a.altered a.noted) x.done)
              (subst (λ l. IsDone keys new l s) x.order.events done));
          dummies_are =
              let counted = slot_dummies keys n s a.next in
              let both = count_more is_dummy old.events (events_of keys s) in
              let same = ap (count_by is_dummy) a.adds.events_are in
              omega (arith, counted, both, same, x.dummies_are);
          contents_are = is;
          right = slot_right;
          always = always;
        },
        ordered.1,
      )

-- a dummy that nobody asked for, up to the choice at its end
abbrev pub dummy_notes : ℕ → ℕ → Option ℕ → SlotNotes
dummy_notes start n chosen = record {
  start = start;
  asked = None;
  point = Dummy n;
  found = None;
  put = None;
  chosen = chosen;
  behind = Nothing;
}

module _ (keys : Keys) (lawful : AreKeys keys) (stash : ℕ) where
  -- a dummy after which no more entries are at hand than may be
  pub dummy_replayed : (old new : LogLists) (now after : Contents) (start n : ℕ)
      → IsDummy keys old new now after start n → HasSeeds now → length after.hand ≤ stash
      → IsReplayedLog keys stash old now n → IsReplayedLog keys stash new after (n + 1)
  dummy_replayed old new now after start n d seeds few x =
      (slot_replayed keys stash old new now n s x adds after
      (whole_ends keys (first_fold keys) d.mid new d.ends
      ∙ whole_pass keys (first_fold keys) old d.mid now after start n x.always.past x.contents_are d.pass)
      (always_ends keys d.mid new after d.ends
      (pass_always keys lawful old d.mid first_ghost now after start n d.pass seeds x.always))).0
    where
      chosen : Option ℕ
      chosen = chosen_at d.mid new d.ends

      s : SlotNotes
      s = dummy_notes start n chosen

      adds : AddsSlot keys stash old new now n s
      adds = record {
        altered = d.pass.altered;
        joined = d.pass.joined;
        adds = record {
          events_are = chosen_is d.mid new d.ends ∙ ap (λ l. l ++ chosen_events chosen)
              (d.pass.events_are ∙ ap (λ asked. old.events ++ drawn_events keys start asked (Dummy n)) d.unasked)
              ∙ append_assoc old.events (drawn_events keys start None (Dummy n)) (chosen_events chosen)
              ∙ ap (λ l. old.events ++ l)
              (in_turn (drawn_events keys start None (Dummy n)) [] [] (chosen_events chosen));
          altered_are = d.ends.altered ∙ d.pass.altered_are;
        };
        noted = d.pass.noted;
        next = (refl, refl);
        read = d.pass.read;
        taken = (refl, refl);
        put = tt;
        bare = refl;
        room =
            let hand : after.hand ≡ stays keys.shape.levels (keys.leaf_of (Dummy n)) d.pass.joined = ap
            (λ (c : Contents). c.hand) d.pass.after_is in
            let whole_hand : d.pass.joined ++ [] ≡ d.pass.joined = append-nil d.pass.joined in
            subst (λ h. write_verdict keys stash (keys.leaf_of (Dummy n)) h ≡ None) (sym whole_hand)
            (write_right keys stash (keys.leaf_of (Dummy n)) d.pass.joined
            (subst (λ (h : List Entry). length h ≤ stash) hand few));
      }

  -- Dummies, however many, after each of which no more entries are at hand than may be.
  pub dummies_replayed : (k : ℕ) (old new : LogLists) (now after : Contents) (n : ℕ)
      (passed : ArePasses keys k old new now after n) → AreFew keys stash k old new now after n passed
      → IsReplayedLog keys stash old now n → IsReplayedLog keys stash new after (n + k)
  dummies_replayed zero old new now after n passed few x =
      let number : n ≡ n + 0 = omega arith in
      subst (λ m. IsReplayedLog keys stash new after m) number
      (subst (λ (l : LogLists). IsReplayedLog keys stash l after n) (sym passed.0)
      (subst (λ (c : Contents). IsReplayedLog keys stash old c n) (sym passed.1) x))
  dummies_replayed (suc k) old new now after n (mid, between, start, passed, seeds, dummy) few x =
      let number : n + k + 1 ≡ n + suc k = omega arith in
      subst (λ m. IsReplayedLog keys stash new after m) number
      (dummy_replayed mid new between after start (n + k) dummy seeds few.1
      (dummies_replayed k old mid now between n passed few.0 x))
