-- What a log shows of its last slot, at whose end no choice is noted: the verdict on it, and the buckets.
use Rattle.std.proofs.Common.{◌≡◌, ◌<◌, ◌≤◌, ◌+◌, inl, inr, ℕ, suc, Bool, true, false, if◌then◌else◌, ◌==◌}
use Rattle.std.proofs.Common.{List, [], ◌++◌, length, All, count_by, Option, None, Some, Result, Ok, Err}
use Rattle.std.proofs.Common.{refl, sym, ◌∙◌, ap, append-nil}
use Rattle.std.proofs.lemmas.Bool.{lt-ltb, le-ltb}
use Rattle.std.proofs.lemmas.Bool.Decides.{eqb_tells}
use Rattle.asc_base.specs.Has.{Has}
use Rattle.asc_base.specs.declared.block.Entry.{Entry}
use Rattle.asc_base.specs.declared.block.Message.{Message}
use Rattle.asc_base.specs.declared.block.Point.{Point}
use Rattle.asc_base.specs.declared.block.Point.TheVariants.{Real, Dummy}
use Rattle.asc_base.specs.declared.stop.Evidence.{Evidence}
use Rattle.asc_base.specs.declared.stop.Stop.{Stop}
use Rattle.asc_base.specs.declared.stop.Stop.TheVariants.{Integrity, StashFull}
use Rattle.bus_watch.specs.Log.{LogLists}
use Rattle.bus_watch.specs.Path.{along, reads, reads_end}
use Rattle.bus_watch.specs.declared.log.Altered.{Altered}
use Rattle.bus_watch.specs.declared.log.Event.{Event}
use Rattle.bus_watch.specs.declared.log.Move.{Move}
use Rattle.oram_contents.specs.Contents.{Contents}
use Rattle.oram_contents.specs.Decided.{draws}
use Rattle.oram_contents.specs.Entries.{Keys, message_of}
use Rattle.oram_contents.specs.Fold.{Fold, LogEnd, IsCut, settle, leave, hand_after, joined_by, fold_events, whole}
use Rattle.oram_contents.specs.PathRead.{replies, path_read}
use Rattle.oram_contents.specs.PathWritten.{sealed, rest_of}
use Rattle.oram_contents.specs.Slots.{drawn_events}
use Rattle.oram_contents.specs.Starts.{first_fold}
use Rattle.oram_contents.specs.Steps.{Adds}
use Rattle.oram_contents.specs.Verdict.{first_of, read_verdict, write_verdict, slot_verdict, note_events, put_events}
use Rattle.oram_contents.specs.Verdict.{put_entries, IsOfPoint}
use Rattle.oram_contents.proofs.Cuts.{cut_contents, read_contents}
use Rattle.oram_contents.proofs.Folding.{slot_fold_any}
use Rattle.oram_contents.proofs.VerdictLaws.{slot_shows}
use Rattle.log_replay.specs.Judged.{IsBeforeLast, verdict_on, SaysMirror}
use Rattle.log_replay.specs.Order.{Nothing, SlotNotes, accepted_events, events_of}

-- what is noted of a slot whose path isn't written yet
abbrev pub slot_of : ℕ → Option ℕ → Point → Option Entry → Option Message → SlotNotes
slot_of start asked p found put = record {
  start = start;
  asked = asked;
  point = p;
  found = found;
  put = put;
  chosen = None;
  behind = Nothing;
}

-- what is noted of what was found
abbrev note_of : Point → Option Entry → Option (Message × List ℕ)
note_of (Real a c) None = None
note_of (Real a c) (Some e) = Some (message_of a.0 c e.line.0, e.tag)
note_of (Dummy n) found = None

-- what is noted of a slot behind its start
abbrev rest_events : Point → Option Entry → Option Message → List Event
rest_events p found put = accepted_events p found ++ (put_events put ++ [])

rest_is : (p : Point) (found : Option Entry) (put : Option Message)
    → rest_events p found put ≡ note_events (note_of p found) ++ put_events put
rest_is (Real a c) None put = append-nil (put_events put)
rest_is (Real a c) (Some e) put = ap (λ l. note_events (note_of (Real a c) (Some e)) ++ l) (append-nil (put_events put))
rest_is (Dummy n) found put = append-nil (put_events put)

-- no point is drawn there
rest_draws : (p : Point) (found : Option Entry) (put : Option Message) → count_by draws (rest_events p found put) ≡ 0
rest_draws (Real a c) None None = refl
rest_draws (Real a c) None (Some m) = refl
rest_draws (Real a c) (Some e) None = refl
rest_draws (Real a c) (Some e) (Some m) = refl
rest_draws (Dummy n) found None = refl
rest_draws (Dummy n) found (Some m) = refl

module _ (keys : Keys) where
  -- a path was read and is open, from these contents on
  abbrev open_fold : Contents → ℕ → Point → Fold
  open_fold now start p = record { now = now; start = start; path = Some (p, keys.leaf_of p) }

  same_test : (x y : ℕ) → x ≡ y → (y == x) ≡ true
  same_test x y is = elim (eqb_tells y x) [ inl same ↦ same.0 | inr other ↦ absurd (other.1 (sym is)) ]

  -- what is put back joins the hand
  put_fold : (altered : List Altered) (n : ℕ) (put : Option Message) (p : Point) (now : Contents) (start : ℕ)
      → IsOfPoint put p
      → fold_events keys altered n (put_events put ++ []) (open_fold now start p)
      ≡ open_fold (record now { hand = now.hand ++ put_entries keys put }) start p
  put_fold altered n None p now start is =
      ap (λ h. open_fold (record now { hand = h }) start p) (sym (append-nil now.hand))
  put_fold altered n (Some m) (Real a c) now start is =
      ap (λ b. joined_by keys m (if b then open_fold now start (Real a c) else settle keys
      (open_fold now start (Real a c)))) (same_test m.address.0 a.0 is)
  put_fold altered n (Some m) (Dummy k) now start is = absurd is

  rest_fold : (altered : List Altered) (n : ℕ) (p : Point) (found : Option Entry) (put : Option Message)
      (now : Contents) (start : ℕ) → IsOfPoint put p
      → fold_events keys altered n (rest_events p found put) (open_fold now start p)
      ≡ open_fold (record now { hand = now.hand ++ put_entries keys put }) start p
  rest_fold altered n (Real a c) None put now start is = put_fold altered n put (Real a c) now start is
  rest_fold altered n (Real a c) (Some e) put now start is = put_fold altered (n + 1) put (Real a c) now start is
  rest_fold altered n (Dummy k) found put now start is = put_fold altered n put (Dummy k) now start is

-- A slot lengthens a log in which nothing is wrong, and which says these contents.
module _ (keys : Keys) (stash : ℕ) (old new : LogLists) (now : Contents)
    (past : (reply : Altered) → Has reply old.altered → reply.before ≤ length old.events)
    (is : whole keys (first_fold keys) old ≡ now) (right : verdict_on keys stash old ≡ None)
    (start : ℕ) (asked : Option ℕ) (p : Point) (found : Option Entry) (put : Option Message) (extra : List Altered)
    (adds : Adds old new (events_of keys (slot_of start asked p found put)) extra)
    (noted : All (λ (reply : Altered). reply.before ≡ length old.events + 2) extra) (put_of : IsOfPoint put p) where
  -- what its reads gave
  abbrev pub gave : Result (List Entry) Evidence
  gave = path_read keys.pads keys.shape (keys.leaf_of p)
      (replies keys.shape.levels start (keys.leaf_of p) now.mirror extra) now.hand

  -- what is at hand behind it
  abbrev pub left : List Entry
  left = hand_after p now.hand gave ++ put_entries keys put

  pub before_last : IsBeforeLast old new
  before_last = record {
    events = events_of keys (slot_of start asked p found put);
    altered = extra;
    adds = adds;
    noted = noted;
    last = inl (record {
      start = start;
      asked = asked;
      point = p;
      leaf = record { 0 = keys.leaf_of p };
      more = rest_events p found put;
      are = refl;
      one = rest_draws p found put;
    });
  }

  pub last_events : before_last.events ≡ events_of keys (slot_of start asked p found put)
  unfolding before_last
  last_events = refl

  shown : verdict_on keys stash new ≡ slot_verdict keys stash p (keys.leaf_of p) gave put
  shown =
      slot_shows keys stash (first_fold keys) old new start asked p (note_of p found) put extra past
      (adds.events_are ∙ ap (λ l. old.events ++ (drawn_events keys start asked p ++ l)) (rest_is p found put))
      adds.altered_are noted put_of
      ∙ ap (λ (w : Contents). first_of (verdict_on keys stash old) (slot_verdict keys stash p (keys.leaf_of p)
      (path_read keys.pads keys.shape (keys.leaf_of p)
      (replies keys.shape.levels start (keys.leaf_of p) w.mirror extra) w.hand) put)) is
      ∙ ap (λ v. first_of v (slot_verdict keys stash p (keys.leaf_of p) gave put)) right

  -- its reads gave evidence
  pub shows_refused : (evidence : Evidence) → gave ≡ Err evidence
      → verdict_on keys stash new ≡ Some (Integrity evidence)
  shows_refused evidence says = shown ∙ ap (λ r. slot_verdict keys stash p (keys.leaf_of p) r put) says

  module _ (joined : List Entry) (says : gave ≡ Ok joined) where
    read_shown : verdict_on keys stash new ≡ first_of (read_verdict keys p (Ok joined))
        (write_verdict keys stash (keys.leaf_of p) (leave p joined ++ put_entries keys put))
    read_shown = shown ∙ ap (λ r. slot_verdict keys stash p (keys.leaf_of p) r put) says

    -- or its block is wrong
    pub shows_wrong : (stop : Stop) → read_verdict keys p (Ok joined) ≡ Some stop
        → verdict_on keys stash new ≡ Some stop
    shows_wrong stop wrong =
        read_shown ∙ ap (λ v. first_of v
        (write_verdict keys stash (keys.leaf_of p) (leave p joined ++ put_entries keys put))) wrong

    module _ (right_read : read_verdict keys p (Ok joined) ≡ None) where
      abbrev hand : List Entry
      hand = leave p joined ++ put_entries keys put

      abbrev rest : ℕ
      rest = rest_of keys.shape.levels (keys.leaf_of p) hand

      write_shown : verdict_on keys stash new ≡ write_verdict keys stash (keys.leaf_of p) hand
      write_shown = read_shown ∙ ap (λ v. first_of v (write_verdict keys stash (keys.leaf_of p) hand)) right_read

      -- or more entries would stay at hand than may
      pub shows_full : stash < rest → verdict_on keys stash new ≡ Some (StashFull rest)
      shows_full over = write_shown
          ∙ ap (λ (b : Bool). if b then Some (StashFull rest) else None) (lt-ltb stash rest over)

      -- or nothing is wrong
      pub shows_none : rest ≤ stash → verdict_on keys stash new ≡ None
      shows_none fits = write_shown
          ∙ ap (λ (b : Bool). if b then Some (StashFull rest) else None) (le-ltb stash rest fits)

  -- the contents that its events say, and the path that is open
  pub folded : fold_events keys new.altered 0 new.events (first_fold keys)
      ≡ open_fold keys (record now { hand = left }) start p
  folded =
      slot_fold_any keys (first_fold keys) old new start asked p (rest_events p found put) extra past adds.events_are
      adds.altered_are noted
      ∙ ap (λ (w : Contents). fold_events keys new.altered (0 + length old.events + 1 + 1) (rest_events p found put)
      (open_fold keys (record w {
        hand = hand_after p w.hand (path_read keys.pads keys.shape (keys.leaf_of p)
            (replies keys.shape.levels start (keys.leaf_of p) w.mirror extra) w.hand);
      }) start p)) is
      ∙ rest_fold keys new.altered (0 + length old.events + 1 + 1) p found put
      (record now { hand = hand_after p now.hand gave }) start put_of

  -- where it ended in its reads or after them no bucket is written
  pub says_read : (end : LogEnd) (before : List Move) (n : ℕ)
      → new.moves ≡ before ++ along keys.shape.levels false start (keys.leaf_of p) (suc n)
      → SaysMirror keys new end now.mirror
  says_read end before n moves =
      read_contents keys (first_fold keys) new before end start n (keys.leaf_of p) moves
      ∙ ap (λ (f : Fold). f.now.mirror) folded

  -- where it ended in one of its writes the buckets above are written
  pub says_cut : (end : LogEnd) (before : List Move) (level : ℕ) → IsCut end → level ≤ keys.shape.levels
      → new.moves ≡ before ++ (reads keys.shape.levels start (keys.leaf_of p)
      ++ along keys.shape.levels true (reads_end keys.shape.levels start + 16) (keys.leaf_of p) (level + 1))
      → SaysMirror keys new end
      (sealed keys.pads keys.shape.levels (keys.leaf_of p) now.seed left now.mirror level)
  says_cut end before level cut within moves =
      cut_contents keys (first_fold keys) new before end start level p (keys.leaf_of p) cut within moves
      (ap (λ (f : Fold). f.path) folded)
      ∙ ap (λ (f : Fold). sealed keys.pads keys.shape.levels (keys.leaf_of p) f.now.seed f.now.hand f.now.mirror level)
      folded
