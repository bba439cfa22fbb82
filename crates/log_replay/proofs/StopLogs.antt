-- What a slot leaves in the log that stops in its reads, over its block, or in its writes.
use Rattle.std.proofs.Common.{◌≡◌, ◌<◌, ◌≤◌, ◌+◌, inl, inr, ℕ, true, false, List, [], ◌++◌, length, All, Option}
use Rattle.std.proofs.Common.{None, Some, Ok, refl, sym, ◌∙◌, ap, subst, subst₂, arith, append-nil, append_assoc}
use Rattle.std.proofs.Common.{length-append}
use Rattle.std.proofs.lemmas.List.Concat.{flat_map-append}
use Rattle.asc_base.specs.declared.block.Entry.{Entry}
use Rattle.asc_base.specs.declared.block.Message.{Message}
use Rattle.asc_base.specs.declared.block.Point.{Point}
use Rattle.asc_base.specs.declared.block.Point.TheVariants.{Real, Dummy}
use Rattle.asc_base.specs.declared.stop.Evidence.{Evidence}
use Rattle.asc_base.specs.declared.stop.Stop.{Stop}
use Rattle.asc_base.specs.declared.stop.Stop.TheVariants.{Integrity, StashFull, TimeUp, Device, NoMemory}
use Rattle.bus_schedule.specs.Shown.{leaf_of, leaves_of}
use Rattle.bus_watch.specs.Log.{LogLists}
use Rattle.bus_watch.specs.Path.{along, reads, writes_start}
use Rattle.bus_watch.specs.declared.log.Altered.{Altered}
use Rattle.bus_watch.specs.declared.log.Move.{Move}
use Rattle.oram_contents.specs.Contents.{Contents, IsReadTo}
use Rattle.oram_contents.specs.Entries.{Keys, AreKeys}
use Rattle.oram_contents.specs.Fold.{LogEnd, Whole, LastFailed, RanOut, IsCut, leave, hand_after}
use Rattle.oram_contents.specs.PathWritten.{sealed, rest_of}
use Rattle.oram_contents.specs.Provenance.{Always}
use Rattle.oram_contents.specs.Slots.{drawn_events, HasSeeds}
use Rattle.oram_contents.specs.Starts.{first_ghost}
use Rattle.oram_contents.specs.Steps.{Adds}
use Rattle.oram_contents.specs.Verdict.{read_verdict, put_entries, IsOfPoint}
use Rattle.oram_contents.proofs.ReadSteps.{read_always}
use Rattle.rate_enforcer.specs.Breaks.{Begins, IsRefused, ReadsBreak, HasWholeSlots, ReadStops, WritesBreak}
use Rattle.rate_enforcer.specs.Breaks.{IsOverfull, WriteStops, DummyStops}
use Rattle.log_replay.specs.Judged.{IsBeforeLast, BreaksOffReading, ShowsStop, EndsLog, SaysMirror}
use Rattle.log_replay.specs.LastSlot.{EndsInMove, AreDoneButLast, AreDoneToPut, BreaksOffMoving, StopsInOrder}
use Rattle.log_replay.specs.Order.{events_of, IsNextPoint, IsTaken, IsDone, IsBare, AreDone, LogOrder}
use Rattle.log_replay.specs.Replayed.{left_by}
use Rattle.log_replay.proofs.ReplayedLogs.{IsReplayedLog, earlier_done, slots_done, slot_done, slot_order}
use Rattle.log_replay.proofs.StopAlways.{free_always, begun_always, broken_always}
use Rattle.log_replay.proofs.StopMoves.{whole_says, ends_in}
use Rattle.log_replay.proofs.StopShows.{slot_of, before_last, last_events, shows_refused, shows_wrong, shows_full}
use Rattle.log_replay.proofs.StopShows.{shows_none, says_read, says_cut}

-- a stop leaves a log in order that shows it and says the buckets, of which holds what holds always
pub record LogStops (keys : Keys) (stash : ℕ) (stop : Stop) (log : LogLists) (after : Contents) : Type 0 where
  pub slots : StopsInOrder keys stop log
  pub shows : ShowsStop keys stash stop log
  pub end : LogEnd
  pub ends : EndsLog stop end
  pub says : SaysMirror keys log end after.mirror
  pub always : Always keys log (left_by stop after)

-- nothing is noted of a slot but its point
bare_is : (keys : Keys) (start : ℕ) (asked : Option ℕ) (p : Point)
    → events_of keys (slot_of start asked p None None) ≡ drawn_events keys start asked p
bare_is keys start asked (Real a c) = refl
bare_is keys start asked (Dummy n) = refl

module _ (keys : Keys) (stash : ℕ) (old : LogLists) (now : Contents) (dummies : ℕ)
    (base : IsReplayedLog keys stash old now dummies) (start : ℕ) (asked : Option ℕ) (p : Point)
    (next : IsNextPoint dummies asked p) where
  module _ (new : LogLists) where
    -- ---- a slot of which nothing is noted but its point
    module _ (b : Begins keys old new start asked p) where
      bare_adds : Adds old new (events_of keys (slot_of start asked p None None)) b.altered
      bare_adds = record {
        events_are = b.adds.events_are ∙ ap (λ l. old.events ++ l) (sym (bare_is keys start asked p));
        altered_are = b.adds.altered_are;
      }

      bare_order : (o : LogOrder keys new) × AreDoneButLast keys new o.slots
      bare_order =
          let s = slot_of start asked p None None in
          let bare : IsBare s = record { found = refl; put = refl; chosen = refl; behind = refl } in
          let (o, are) =
          slot_order keys stash old new now dummies s base b.altered bare_adds b.noted next (inr bare) in (
            o,
            record {
              before = base.order.slots;
              last = s;
              are = are;
              done = earlier_done keys stash old new now dummies s base b.altered b.adds.altered_are b.noted;
              bare = bare;
            },
          )

      bare_before : IsBeforeLast old new
      bare_before =
          before_last keys stash old new now base.always.past base.contents_are base.right start asked p None None
          b.altered bare_adds b.noted tt

      bare_events : bare_before.events ≡ drawn_events keys start asked p
      unfolding bare_before
      bare_events =
          last_events keys stash old new now base.always.past base.contents_are base.right start asked p None None
          b.altered bare_adds b.noted tt
          ∙ bare_is keys start asked p

      bare_says : (end : LogEnd) (before : List Move) (level : ℕ)
          → new.moves ≡ before ++ along keys.shape.levels false start (keys.leaf_of p) (level + 1)
          → SaysMirror keys new end now.mirror
      bare_says end before level moves =
          says_read keys stash old new now base.always.past base.contents_are base.right start asked p None None
          b.altered bare_adds b.noted tt end before level
          (moves ∙ ap (λ n. before ++ along keys.shape.levels false start (keys.leaf_of p) n) (omega arith))

      -- its block is wrong
      pub wrong_stops : (evidence : Evidence) (joined : List Entry) (before : List Move) (after : Contents)
          → IsReadTo keys.pads keys.shape start (keys.leaf_of p) b.altered now joined
          → read_verdict keys p (Ok joined) ≡ Some (Integrity evidence)
          → new.moves ≡ before ++ reads keys.shape.levels start (keys.leaf_of p)
          → after.mirror ≡ now.mirror → after.seed ≡ now.seed
          → LogStops keys stash (Integrity evidence) new after
      wrong_stops evidence joined before after read wrong moves mirror seed = record {
        slots = record { order = bare_order.0; done = inl bare_order.1 };
        shows = record {
          before = old;
          last = bare_before;
          right = base.right;
          wrong = shows_wrong keys stash old new now base.always.past base.contents_are base.right start asked p None
              None b.altered bare_adds b.noted tt joined read (Integrity evidence) wrong;
        };
        end = Whole;
        ends = refl;
        says = bare_says Whole before keys.shape.levels moves ∙ sym mirror;
        always = free_always keys new now after mirror seed
            (begun_always keys old new now start asked p b base.always);
      }

    -- what was read gives evidence
    refused_stops : (evidence : Evidence) (after : Contents) → IsRefused keys evidence old new now after start asked p
        → LogStops keys stash (Integrity evidence) new after
    refused_stops evidence after r = record {
      slots = record { order = (bare_order r.begins).0; done = inl (bare_order r.begins).1 };
      shows = record {
        before = old;
        last = bare_before r.begins;
        right = base.right;
        wrong = shows_refused keys stash old new now base.always.past base.contents_are base.right start asked p None
            None r.begins.altered (bare_adds r.begins) r.begins.noted tt evidence r.says;
      };
      end = Whole;
      ends = refl;
      says = bare_says r.begins Whole old.moves keys.shape.levels r.moves ∙ sym r.mirror;
      always = free_always keys new now after r.mirror r.seed
          (begun_always keys old new now start asked p r.begins base.always);
    }

    -- its reads broke off
    breaks_off : (after : Contents) → ReadsBreak keys old new now after start asked p
        → BreaksOffReading keys stash new
    breaks_off after r = record {
      before = old;
      last = bare_before r.begins;
      right = base.right;
      start = start;
      asked = asked;
      point = p;
      leaf = record { 0 = keys.leaf_of p };
      events = bare_events r.begins;
      level = r.level;
      within = r.within;
      moves = r.moves;
    }

    -- the last of its reads failed, or memory ran out in it
    broken_read : (after : Contents) → ReadsBreak keys old new now after start asked p → EndsInMove false new
    broken_read after r = ends_in keys.shape.levels start (keys.leaf_of p) r.level false old.moves new r.moves

    broken_says : (after : Contents) (end : LogEnd) → ReadsBreak keys old new now after start asked p
        → SaysMirror keys new end after.mirror
    broken_says after end r =
        bare_says r.begins end old.moves r.level r.moves ∙ ap (λ (c : Contents). c.mirror) (sym r.after_is)

    broken_holds : (after : Contents) → ReadsBreak keys old new now after start asked p → Always keys new after
    broken_holds after r =
        subst (λ (c : Contents). Always keys new c) (sym r.after_is)
        (begun_always keys old new now start asked p r.begins base.always)

    -- memory ran out before it began, behind whole slots
    starved : (after : Contents) → HasWholeSlots keys.shape.levels old → new ≡ old → after ≡ now
        → LogStops keys stash NoMemory new after
    starved after slots same kept =
        let here : LogStops keys stash NoMemory old now = record {
          slots = record { order = base.order; done = inl base.done };
          shows = inl base.right;
          end = Whole;
          ends = inl refl;
          says = whole_says keys stash old now dummies base slots;
          always = base.always;
        } in
        subst₂ (λ (l : LogLists) (c : Contents). LogStops keys stash NoMemory l c) (sym same) (sym kept) here

    -- The slot stops before or in its reads.
    pub reads_stop : (stop : Stop) (after : Contents) → ReadStops keys stop old new now after start asked p
        → LogStops keys stash stop new after
    reads_stop (Integrity evidence) after r = refused_stops evidence after r
    reads_stop (StashFull held) after r = absurd r
    reads_stop (TimeUp at) after r = absurd r
    reads_stop Device after r = record {
      slots = record {
        order = (bare_order r.begins).0;
        done = inl ((bare_order r.begins).1, broken_read after r);
      };
      shows = inr (breaks_off after r);
      end = LastFailed;
      ends = refl;
      says = broken_says after LastFailed r;
      always = broken_holds after r;
    }
    reads_stop NoMemory after (inl (same, kept, slots)) = starved after slots same kept
    reads_stop NoMemory after (inr r) = record {
      slots = record {
        order = (bare_order r.begins).0;
        done = inr (inl ((bare_order r.begins).1, broken_read after r));
      };
      shows = inr (breaks_off after r);
      end = RanOut;
      ends = inr refl;
      says = broken_says after RanOut r;
      always = broken_holds after r;
    }

  -- ---- a slot that was done up to its end
  module _ (mid : LogLists) (found : Option Entry) (put : Option Message) (extra : List Altered) (joined : List Entry)
      (adds : Adds old mid (events_of keys (slot_of start asked p found put)) extra)
      (noted : All (λ (reply : Altered). reply.before ≡ length old.events + 2) extra)
      (read : IsReadTo keys.pads keys.shape start (keys.leaf_of p) extra now joined)
      (right_read : read_verdict keys p (Ok joined) ≡ None)
      (taken : IsTaken keys joined p (slot_of start asked p found put)) (put_of : IsOfPoint put p)
      (before : List Move) (moves : mid.moves ≡ before ++ reads keys.shape.levels start (keys.leaf_of p))
      (lawful : AreKeys keys) (seeds : HasSeeds now)
      (at_hand : Always keys mid (record now { hand = leave p joined ++ put_entries keys put })) where
    abbrev hand : List Entry
    hand = leave p joined ++ put_entries keys put

    module _ (new : LogLists) (all : Adds old new (events_of keys (slot_of start asked p found put)) extra) where
      done_order : (o : LogOrder keys new) × AreDoneToPut keys new o.slots
      done_order =
          let s = slot_of start asked p found put in
          let is_done : IsDone keys new old.events s =
          slot_done keys stash old new now dummies s base extra joined all noted read taken put_of in
          let (o, are) = slot_order keys stash old new now dummies s base extra all noted next (inl is_done) in (
            o,
            record {
              before = base.order.slots;
              last = s;
              are = are;
              done = subst (AreDone keys new []) (sym are)
                  (slots_done keys stash old new now dummies s base extra all.altered_are noted is_done);
              chosen = refl;
              behind = refl;
            },
          )

    -- its path can't be written
    full_stops : (held : ℕ) (between after : Contents) → between ≡ record now { hand = hand } → (new : LogLists)
        → IsOverfull keys stash held (keys.leaf_of p) mid new between after
        → LogStops keys stash (StashFull held) new after
    full_stops held between after is new w =
        let count : held ≡ rest_of keys.shape.levels (keys.leaf_of p) hand =
        w.held_is ∙ ap (λ (c : Contents). rest_of keys.shape.levels (keys.leaf_of p) c.hand) is in
        let over : stash < rest_of keys.shape.levels (keys.leaf_of p) hand = omega (arith, w.over, count) in
        let mirror : now.mirror ≡ after.mirror = ap (λ (c : Contents). c.mirror) (sym (w.after_is ∙ is)) in
        let here : LogStops keys stash (StashFull held) mid after = record {
          slots = record { order = (done_order mid adds).0; done = inl (done_order mid adds).1 };
          shows = record {
            before = old;
            last = before_last keys stash old mid now base.always.past base.contents_are base.right start asked p found
                put extra adds noted put_of;
            right = base.right;
            wrong = shows_full keys stash old mid now base.always.past base.contents_are base.right start asked p found
                put extra adds noted put_of joined read right_read over
                ∙ ap (λ n. Some (StashFull n)) (sym count);
          };
          end = Whole;
          ends = refl;
          says = says_read keys stash old mid now base.always.past base.contents_are base.right start asked p found put
              extra adds noted put_of Whole before keys.shape.levels
              (moves ∙ ap (λ n. before ++ along keys.shape.levels false start (keys.leaf_of p) n) (omega arith))
              ∙ mirror;
          always = free_always keys mid (record now { hand = hand }) after (sym mirror)
              (ap (λ (c : Contents). c.seed) (w.after_is ∙ is)) at_hand;
        } in
        subst (λ l. LogStops keys stash (StashFull held) l after) (sym w.log) here

    -- its writes broke off
    module _ (between after : Contents) (is : between ≡ record now { hand = hand }) (new : LogLists)
        (w : WritesBreak keys stash start (keys.leaf_of p) mid new between after) where
      all_adds : Adds old new (events_of keys (slot_of start asked p found put)) extra
      all_adds = record {
        events_are = w.adds.events_are ∙ append-nil mid.events ∙ adds.events_are;
        altered_are = w.adds.altered_are ∙ append-nil mid.altered ∙ adds.altered_are;
      }

      write_order : (o : LogOrder keys new) × BreaksOffMoving keys new o.slots
      write_order =
          let (o, done) = done_order new all_adds in (
            o,
            inr (
              done,
              ends_in keys.shape.levels (writes_start keys.shape.levels start) (keys.leaf_of p) w.level true
                  mid.moves new w.moves,
            ),
          )

      write_shows : ShowsStop keys stash Device new
      write_shows =
          inl (shows_none keys stash old new now base.always.past base.contents_are base.right start asked p found put
          extra all_adds noted put_of joined read right_read
          (omega (arith, w.fits, ap (λ (c : Contents). rest_of keys.shape.levels (keys.leaf_of p) c.hand) is)))

      write_holds : Always keys new after
      write_holds =
          broken_always keys lawful stash start (keys.leaf_of p) mid new between after (lawful.leaves p)
          (subst (λ (c : Contents). HasSeeds c) (sym is) seeds) w
          (subst (λ (c : Contents). Always keys mid c) (sym is) at_hand)

      write_says : (end : LogEnd) → IsCut end → SaysMirror keys new end after.mirror
      write_says end cut =
          says_cut keys stash old new now base.always.past base.contents_are base.right start asked p found put
          extra all_adds noted put_of end before w.level cut w.within
          (w.moves
          ∙ ap (λ (l : List Move). l ++ along keys.shape.levels true (writes_start keys.shape.levels start)
          (keys.leaf_of p) (w.level + 1)) moves
          ∙ append_assoc before (reads keys.shape.levels start (keys.leaf_of p))
          (along keys.shape.levels true (writes_start keys.shape.levels start) (keys.leaf_of p) (w.level + 1)))
          ∙ ap (λ r. sealed keys.pads keys.shape.levels (keys.leaf_of p) now.seed
          (hand_after p now.hand r ++ put_entries keys put) now.mirror w.level) read
          ∙ ap (λ (c : Contents). sealed keys.pads keys.shape.levels (keys.leaf_of p) c.seed c.hand c.mirror w.level)
          (sym is)
          ∙ sym w.mirror

    -- The slot stops before or in its writes.
    pub writes_stop : (stop : Stop) (between after : Contents) → between ≡ record now { hand = hand }
        → (new : LogLists) → WriteStops keys stash stop mid new between after start (keys.leaf_of p)
        → LogStops keys stash stop new after
    writes_stop (Integrity evidence) between after is new w = absurd w
    writes_stop (StashFull held) between after is new w = full_stops held between after is new w
    writes_stop (TimeUp at) between after is new w = absurd w
    writes_stop Device between after is new w = record {
      slots = let (o, broke) = write_order between after is new w in record { order = o; done = broke };
      shows = write_shows between after is new w;
      end = LastFailed;
      ends = refl;
      says = write_says between after is new w LastFailed tt;
      always = write_holds between after is new w;
    }
    writes_stop NoMemory between after is new w = record {
      slots = let (o, broke) = write_order between after is new w in record { order = o; done = inr broke };
      shows = write_shows between after is new w;
      end = RanOut;
      ends = inr refl;
      says = write_says between after is new w RanOut tt;
      always = write_holds between after is new w;
    }

-- writes that stop note nothing
writes_note : (keys : Keys) (stash : ℕ) (stop : Stop) (old new : LogLists) (now after : Contents) (start leaf : ℕ)
    → WriteStops keys stash stop old new now after start leaf → new.events ≡ old.events
writes_note keys stash (Integrity evidence) old new now after start leaf w = absurd w
writes_note keys stash (StashFull held) old new now after start leaf w = ap (λ (l : LogLists). l.events) w.log
writes_note keys stash (TimeUp at) old new now after start leaf w = absurd w
writes_note keys stash Device old new now after start leaf w = w.adds.events_are ∙ append-nil old.events
writes_note keys stash NoMemory old new now after start leaf w = w.adds.events_are ∙ append-nil old.events

-- The dummy that comes next stops. Where its path was read there are seeds to write it.
pub dummy_stops : (keys : Keys) → AreKeys keys → (stash : ℕ) (stop : Stop) (old new : LogLists)
    (now after : Contents) (start n : ℕ) → IsReplayedLog keys stash old now n
    → (length (leaves_of old.events) ≤ length (leaves_of new.events) → HasSeeds now)
    → DummyStops keys stash stop old new now after start n → LogStops keys stash stop new after
dummy_stops keys lawful stash stop old new now after start n x seeds (inl r) =
    reads_stop keys stash old now n x start None (Dummy n) (refl, refl) new stop after r
dummy_stops keys lawful stash stop old new now after start n x seeds (inr w) =
    writes_stop keys stash old now n x start None (Dummy n) (refl, refl) w.mid None None w.read.altered w.between.hand
    (record {
      events_are = w.read.adds.events_are
          ∙ ap (λ asked. old.events ++ drawn_events keys start asked (Dummy n)) w.unasked;
      altered_are = w.read.adds.altered_are;
    })
    w.read.noted w.read.read refl (refl, refl) tt old.moves w.moves lawful (seeds more)
    (subst (λ (h : List Entry). Always keys w.mid (record now { hand = h })) (sym (append-nil w.between.hand))
    (read_always keys old w.mid first_ghost now start (Dummy n) w.between.hand w.read x.always))
    stop w.between after
    (w.between_is ∙ ap (λ (h : List Entry). record now { hand = h }) (sym (append-nil w.between.hand))) new w.writes
  where
    more : length (leaves_of old.events) ≤ length (leaves_of new.events)
    more =
        let noted : new.events ≡ old.events ++ drawn_events keys start w.read.asked (Dummy n) =
        writes_note keys stash stop w.mid new w.between after start (keys.leaf_of (Dummy n)) w.writes
        ∙ w.read.adds.events_are in
        let parts = ap (λ l. length (leaves_of l)) noted
        ∙ ap length (flat_map-append leaf_of old.events (drawn_events keys start w.read.asked (Dummy n)))
        ∙ length-append (leaves_of old.events) (leaves_of (drawn_events keys start w.read.asked (Dummy n))) in
        omega (arith, parts)
