-- What holds always of a slot that stops: behind its reads, before its path is written, and behind some of its writes.
use Rattle.std.proofs.Common.{◌≡◌, ◌<◌, ◌+◌, ◌^◌, inl, ℕ, List, [], ◌∷◌, ◌++◌, length, All, Option, None, refl, sym}
use Rattle.std.proofs.Common.{◌∙◌, subst, subst₂, arith, append-nil}
use Rattle.asc_base.specs.declared.block.Counter.{Counter}
use Rattle.asc_base.specs.declared.block.Entry.{Entry}
use Rattle.asc_base.specs.declared.block.Point.{Point}
use Rattle.asc_base.specs.declared.stop.Stop.{Stop}
use Rattle.asc_base.specs.declared.stop.Stop.TheVariants.{Integrity, StashFull, TimeUp, Device, NoMemory}
use Rattle.bus_watch.specs.Log.{LogLists}
use Rattle.bus_watch.specs.declared.log.Altered.{Altered}
use Rattle.bus_watch.specs.declared.log.Event.TheVariants.{Tagged}
use Rattle.oram_contents.specs.Contents.{Contents, IsReadTo, after_write}
use Rattle.oram_contents.specs.Entries.{Keys, AreKeys, real, message_of, entry_of}
use Rattle.oram_contents.specs.Fold.{with_entry}
use Rattle.oram_contents.specs.Provenance.{Always}
use Rattle.oram_contents.specs.Shapes.{AreOfShape}
use Rattle.oram_contents.specs.Slots.{drawn_events, HasSeeds, IsRefill}
use Rattle.oram_contents.specs.Steps.{accepted}
use Rattle.oram_contents.specs.Verdict.{judged}
use Rattle.oram_contents.proofs.ReadSteps.{drawn_always, read_always}
use Rattle.oram_contents.proofs.TakeSteps.{take_always}
use Rattle.oram_contents.proofs.StopSteps.{part_always}
use Rattle.oram_contents.proofs.RefillSteps.{refill_log, refill_read, refill_found}
use Rattle.oram_contents.proofs.Ends.{always_ends}
use Rattle.oram_contents.proofs.Final.{put_hand_always}
use Rattle.oram_stash.specs.Entries.{held, without}
use Rattle.oram_stash.proofs.Apart.{AreApart-nil}
use Rattle.rate_enforcer.specs.Breaks.{Begins, WritesBreak}
use Rattle.log_replay.specs.Judged.{HaveOrigins}
use Rattle.log_replay.specs.Replayed.{left_by}
use Rattle.log_replay.proofs.BlockSlots.{counting}

module _ (keys : Keys) where
  -- where the hand is left free it holds of the buckets
  pub free_always : (log : LogLists) (now after : Contents) → after.mirror ≡ now.mirror → after.seed ≡ now.seed
      → Always keys log now → Always keys log (record after { hand = [] })
  free_always log now after mirror seed w =
      subst₂ (λ (m : List (List ℕ)) (n : ℕ). Always keys log (record { hand = []; mirror = m; seed = n })) (sym mirror)
      (sym seed) (record {
        placed = w.placed;
        apart = AreApart-nil;
        of_shape = λ k d less. absurd (omega arith);
        hand_came = λ e h. absurd h;
        tree_came = w.tree_came;
        past = w.past;
        mirrored = w.mirrored;
        seeds = w.seeds;
      })

  -- what holds always says where the entries in the buckets come from
  pub origins_of : (log : LogLists) (now : Contents) → Always keys log now → HaveOrigins keys log now.mirror
  origins_of log now w = record { placed = w.placed; came = w.tree_came }

  pub origins_left : (log : LogLists) (stop : Stop) (now : Contents) → Always keys log (left_by stop now)
      → HaveOrigins keys log now.mirror
  origins_left log (Integrity evidence) now w = origins_of log (record now { hand = [] }) w
  origins_left log (StashFull held) now w = origins_of log (record now { hand = [] }) w
  origins_left log (TimeUp at) now w = origins_of log now w
  origins_left log Device now w = origins_of log now w
  origins_left log NoMemory now w = origins_of log now w

  -- behind the start of a slot, and replies that were altered in it
  pub begun_always : (old new : LogLists) (now : Contents) (start : ℕ) (asked : Option ℕ) (p : Point)
      → Begins keys old new start asked p → Always keys old now → Always keys new now
  begun_always old new now start asked p b = drawn_always keys old new now start asked p b.altered b.adds b.noted

  -- behind the writes of a path that broke off
  pub broken_always : AreKeys keys → (stash start leaf : ℕ) (old new : LogLists) (now after : Contents)
      → leaf < 2 ^ keys.shape.levels → HasSeeds now → WritesBreak keys stash start leaf old new now after
      → Always keys old now → Always keys new after
  broken_always lawful stash start leaf old new now after within room b w =
      let part : Always keys old (record after { hand = now.hand }) =
      subst₂ (λ (m : List (List ℕ)) (n : ℕ). Always keys old (record { hand = now.hand; mirror = m; seed = n }))
      (sym b.mirror) (sym b.seed)
      (part_always keys lawful old now leaf b.level (b.level + 1) within (omega (arith, b.within)) room w) in
      always_ends keys old new after
      (record {
        altered = b.adds.altered_are ∙ append-nil old.altered;
        events = inl (b.adds.events_are ∙ append-nil old.events);
      })
      (subst (λ (h : List Entry). Always keys old (record after { hand = h })) (sym b.hand) part)

-- A block's slot, whose path was read, just before it is written: the block was taken, and put back or not.
module _ (keys : Keys) (lawful : AreKeys keys) (old new : LogLists) (now : Contents) (start a : ℕ) (asked : Option ℕ)
    (c : Counter) (found : Option Entry) (altered : List Altered) (joined : List Entry)
    (altered_are : new.altered ≡ old.altered ++ altered)
    (noted : All (λ (reply : Altered). reply.before ≡ length old.events + 2) altered)
    (read : IsReadTo keys.pads keys.shape start (keys.leaf_of (real a c)) altered now joined)
    (of_shape : AreOfShape keys.shape joined) (found_is : held joined (record { 0 = a }) ≡ found)
    (right : judged keys a c found ≡ None) (w : Always keys old now) where
  abbrev left : Contents
  left = record now { hand = without joined (record { 0 = a }) }

  pub taken_always : new.events ≡ old.events ++ (drawn_events keys start asked (real a c) ++ accepted a c found)
      → Always keys new left
  taken_always events =
      let slot : IsRefill keys old new now (after_write keys.pads keys.shape.levels (keys.leaf_of (real a c)) left)
      start a c found = record {
        asked = asked;
        altered = altered;
        joined = joined;
        events_are = events;
        altered_are = altered_are;
        noted = noted;
        read = read;
        of_shape = of_shape;
        found_is = found_is;
        right = right;
        after_is = refl;
      } in
      let after = after_write keys.pads keys.shape.levels (keys.leaf_of (real a c)) left in
      take_always keys (refill_log keys lawful old new start a c asked) new (record now { hand = joined }) a c found
      (refill_found keys lawful old new (counting c) now after start a c found slot)
      (read_always keys old (refill_log keys lawful old new start a c asked) (counting c) now start (real a c) joined
      (refill_read keys lawful old new (counting c) now after start a c found slot) w)

  pub put_always : (d : Counter) (l : List ℕ) → a < keys.shape.total → length l ≡ 64
      → new.events ≡ old.events
      ++ (drawn_events keys start asked (real a c) ++ (accepted a c found ++ Tagged (message_of a d l) ∷ []))
      → Always keys new (with_entry left (entry_of keys a d l))
  put_always d l inside whole events =
      put_hand_always keys lawful old new (counting c) now
      (after_write keys.pads keys.shape.levels (keys.leaf_of (real a c)) (with_entry left (entry_of keys a d l)))
      start a d found l
      (record {
        asked = asked;
        altered = altered;
        joined = joined;
        events_are = events;
        altered_are = altered_are;
        noted = noted;
        read = read;
        of_shape = of_shape;
        found_is = found_is;
        right = right;
        after_is = refl;
      }) inside whole w
