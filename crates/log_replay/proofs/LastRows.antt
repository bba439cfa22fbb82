-- How far the slot of a log was done where a stop ended it, in logs of one slot.
use Rattle.std.proofs.Common.{◌≡◌, ◌+◌, inl, inr, ℕ, Bool, true, false, if◌then◌else◌, List, [], ◌∷◌, ◌++◌, length}
use Rattle.std.proofs.Common.{Option, None, Some, refl, sym, ◌∙◌, ap, subst, arith, append-nil, length-append}
use Rattle.asc_base.specs.declared.block.Counter.{Counter}
use Rattle.asc_base.specs.declared.block.Leaf.{Leaf}
use Rattle.asc_base.specs.declared.block.Message.{Message}
use Rattle.asc_base.specs.declared.block.Point.{Point}
use Rattle.asc_base.specs.declared.block.Point.TheVariants.{Real, Dummy}
use Rattle.asc_base.specs.declared.stop.Evidence.{Evidence}
use Rattle.asc_base.specs.declared.stop.Evidence.TheVariants.{Missing}
use Rattle.asc_base.specs.declared.stop.Stop.TheVariants.{Integrity, StashFull, TimeUp, Device, NoMemory}
use Rattle.bus_watch.specs.Log.{LogLists, read_move, write_move}
use Rattle.bus_watch.specs.Path.{along}
use Rattle.bus_watch.specs.declared.log.Event.{Event}
use Rattle.bus_watch.specs.declared.log.Event.TheVariants.{Access, Drawn, Tagged, Chosen}
use Rattle.bus_watch.specs.declared.log.Move.{Move}
use Rattle.oram_contents.specs.Entries.{Keys, real, message_of}
use Rattle.oram_contents.specs.Slots.{drawn_events}
use Rattle.oram_contents.specs.Starts.{empty_log}
use Rattle.oram_contents.specs.Verdict.{is_first, judged, put_events}
use Rattle.oram_stash.specs.Entries.{held}
use Rattle.posmap_counters.specs.Counters.{first_counter}
use Rattle.log_replay.specs.LastSlot.{EndsInMove, AreDoneButLast, AreDoneToPut, AreDoneToAppend, StopsInOrder}
use Rattle.log_replay.specs.Order.{Behind, Nothing, Appends, Answers, SlotNotes, accepted_events, chosen_events}
use Rattle.log_replay.specs.Order.{behind_events, IsTaken, MayStand, IsDone, IsBare, AreDone, LogOrder}
use Rattle.log_replay.specs.Rows.{log_of, moved_log, dummy_events, block_events, displaced, broken_log}
use Rattle.log_replay.proofs.FirstReads.{read_empty, reads_only_empty}
use Rattle.log_replay.proofs.OpenPaths.{AreQuiet, quiet_later}
use Rattle.log_replay.proofs.OrderRows.{none, dummy_notes, dummy_done, dummy, block_notes, first_done, first_order}
use Rattle.log_replay.proofs.OrderRows.{stored, appended, bare}
use Rattle.log_replay.proofs.Orders.{later_events, all_events}
use Rattle.log_replay.proofs.SlotSplits.{begin, split, none_held}
use Rattle.log_replay.proofs.StopMoves.{ends_in}
use Rattle.log_replay.proofs.VerdictRows.{last_same}

-- these slots are one, of a point, with these events behind it
record IsOnly (slots : List SlotNotes) (p : Point) (tail : List Event) : Type 0 where
  pub s : SlotNotes
  pub are : slots ≡ s ∷ []
  pub point_is : s.point ≡ p
  pub tail_is : later_events s ≡ tail

-- the last of one slot
last_of : (s last : SlotNotes) (before : List SlotNotes) → s ∷ [] ≡ before ++ last ∷ [] → last ≡ s
last_of s last [] is = cc
last_of s last (x ∷ []) is = absurd (omega (arith, ap length is))
last_of s last (x ∷ y ∷ before) is = absurd (omega (arith, ap length is, length-append before (last ∷ [])))

-- a move that isn't the last
other_move : (moves : List Move) (one : Move) (write : Bool) (log : LogLists) → log.moves ≡ moves ++ one ∷ []
    → EndsInMove write log → one.write ≡ write
other_move moves one write log are e =
    let same : one ≡ e.last = last_same one e.last moves e.before (sym are ∙ e.are) in
    ap (λ (m : Move). m.write) same ∙ e.is

no_move : (before : List Move) (last : Move) → [] ≡ before ++ last ∷ [] → ⊥
no_move [] last is = cc
no_move (m ∷ before) last is = cc

module _ (keys : Keys) where
  only : (log : LogLists) (start : ℕ) (asked : Option ℕ) (p : Point) (leaf : Leaf) (tail : List Event) → AreQuiet tail
      → (o : LogOrder keys log) → log.events ≡ Access start asked ∷ Drawn p leaf ∷ tail → IsOnly o.slots p tail
  only log start asked p leaf tail quiet o are = by_slots o.slots o.events
    where
      by_slots : (slots : List SlotNotes) → log.events ≡ all_events keys slots → IsOnly slots p tail
      by_slots [] events = absurd (omega (arith, ap length (sym events ∙ are)))
      by_slots (s ∷ later) events =
          let both : Access s.start s.asked ∷ Drawn s.point (record { 0 = keys.leaf_of s.point })
          ∷ (later_events s ++ all_events keys later) ≡ Access start asked ∷ Drawn p leaf ∷ tail =
          sym events ∙ are in
          let point_is : s.point ≡ p = cc in
          let rest : later_events s ++ all_events keys later ≡ tail = cc in
          let parts = split (later_events s) tail (all_events keys later) [] (quiet_later s) quiet (begin keys later) tt
          (rest ∙ sym (append-nil tail)) in record {
            s = s;
            are = alone s later parts.1;
            point_is = point_is;
            tail_is = parts.0;
          }
        where
          alone : (s : SlotNotes) (later : List SlotNotes) → all_events keys later ≡ [] → s ∷ later ≡ s ∷ []
          alone s [] is = refl
          alone s (t ∷ later) is = absurd (omega (arith, ap length is))

  -- where nothing is noted of it but its point there is nothing behind it
  bare_tail : (log : LogLists) (slots : List SlotNotes) (p : Point) (tail : List Event) → IsOnly slots p tail
      → AreDoneButLast keys log slots → tail ≡ []
  bare_tail log slots p tail x d =
      let last : d.last ≡ x.s = last_of x.s d.last d.before (sym x.are ∙ d.are) in
      let b : IsBare x.s = subst IsBare last d.bare in
      let none : later_events x.s ≡ accepted_events x.s.point None ++ [] =
      rw b.found rw b.put rw b.chosen rw b.behind refl in
      sym x.tail_is ∙ none ∙ nothing x.s.point
    where
      nothing : (q : Point) → accepted_events q None ++ [] ≡ []
      nothing (Real a c) = refl
      nothing (Dummy n) = refl

  last_to_put : (log : LogLists) (slots : List SlotNotes) (p : Point) (tail : List Event) (x : IsOnly slots p tail)
      → AreDoneToPut keys log slots → IsDone keys log [] x.s × (x.s.chosen ≡ None) × (x.s.behind ≡ Nothing)
  last_to_put log slots p tail x d =
      let last : d.last ≡ x.s = last_of x.s d.last d.before (sym x.are ∙ d.are) in
      let done = subst (AreDone keys log []) x.are d.done in (
        done.0,
        subst (λ (s : SlotNotes). s.chosen ≡ None) last d.chosen,
        subst (λ (s : SlotNotes). s.behind ≡ Nothing) last d.behind,
      )

  last_to_append : (log : LogLists) (slots : List SlotNotes) (p : Point) (tail : List Event) (x : IsOnly slots p tail)
      → (d : AreDoneToAppend keys log slots) → IsDone keys log [] x.s × (x.s.behind ≡ Appends d.message)
  last_to_append log slots p tail x d =
      let last : d.last ≡ x.s = last_of x.s d.last d.before (sym x.are ∙ d.are) in
      let done = subst (AreDone keys log []) x.are d.done in
      (done.0, subst (λ (s : SlotNotes). s.behind ≡ Appends d.message) last d.behind)

  -- a first slot of a block that was done, where no reply was altered: nothing is found for it, which is right
  done_right : (events : List Event) (s : SlotNotes) (a : ℕ) (c : Counter) → s.point ≡ real a c
      → IsDone keys (log_of events) [] s
      → (s.found ≡ None) × (judged keys a c None ≡ None) × MayStand a None s.put s.behind
  done_right events s a c point d =
      let empty = reads_only_empty keys s.start (keys.leaf_of s.point) d.joined d.read in
      let taken = subst (λ (q : Point). IsTaken keys d.joined q s) point d.taken in
      let found : s.found ≡ None = sym taken.0 ∙ ap (λ l. held l (record { 0 = a })) empty ∙ none_held keys a in (
        found,
        subst (λ f. judged keys a c f ≡ None) found taken.1,
        subst (λ f. MayStand a f s.put s.behind) found taken.2,
      )

  no_verdict : (a : ℕ) (c : Counter) → is_first c ≡ false → judged keys a c None ≡ None → ⊥
  no_verdict a c later right =
      let judged_is : judged keys a c None ≡ Some (Missing (record { 0 = a }) c) =
      ap (λ (b : Bool). if b then None else Some (Missing (record { 0 = a }) c)) later in
      let bad : (let e : Option Evidence = Some (Missing (record { 0 = a }) c) in e ≡ None)
      = sym judged_is ∙ right in cc

  -- a slot of a block that was accessed before, and of which nothing is noted but its point
  module _ (a : ℕ) (c : Counter) (later : is_first c ≡ false) where
    abbrev unread : LogLists
    unread = log_of (block_events keys a c [])

    only_block : (o : LogOrder keys unread) → IsOnly o.slots (real a c) []
    only_block o = only unread 256 (Some 0) (real a c) (record { 0 = keys.leaf_of (real a c) }) [] tt o refl

    undone : (o : LogOrder keys unread) → AreDone keys unread [] o.slots → ⊥
    undone o done =
        let x = only_block o in
        let d = subst (AreDone keys unread []) x.are done in
        no_verdict a c later (done_right (block_events keys a c []) x.s a c x.point_is d.0).1

    pub early : (at : ℕ) → StopsInOrder keys (TimeUp at) unread → ⊥
    early at h = undone h.order h.done

    pub full_unread : (held : ℕ) → StopsInOrder keys (StashFull held) unread → ⊥
    full_unread held h = elim h.done [ inl put ↦ undone h.order put.done | inr more ↦ undone h.order more.done ]

    pub starved_unread : StopsInOrder keys NoMemory unread → ⊥
    starved_unread h = elim h.done [
      | inl done ↦ undone h.order done
      | inr moved ↦ elim moved [
        | inl read ↦ no_move read.1.before read.1.last read.1.are
        | inr write ↦ undone h.order write.0.done
      ]
    ]

  pub unmoved : (events : List Event) → StopsInOrder keys Device (log_of events) → ⊥
  unmoved events h = elim h.done [
    | inl read ↦ no_move read.1.before read.1.last read.1.are
    | inr write ↦ no_move write.1.before write.1.last write.1.are
  ]

  -- the slot of a dummy at whose end a rate was chosen
  module _ (moves : List Move) where
    abbrev chosen_log : LogLists
    chosen_log = moved_log moves (dummy_events keys 0)

    only_dummy : (o : LogOrder keys chosen_log) → IsOnly o.slots (Dummy 0) (Chosen 0 ∷ [])
    only_dummy o =
        only chosen_log 256 None (Dummy 0) (record { 0 = keys.leaf_of (Dummy 0) }) (Chosen 0 ∷ []) (tt, tt) o refl

    noted : (s : SlotNotes) → s.point ≡ Dummy 0 → later_events s ≡ Chosen 0 ∷ []
        → put_events s.put ++ (chosen_events s.chosen ++ behind_events s.behind) ≡ Chosen 0 ∷ []
    noted s point is =
        subst (λ (q : Point). accepted_events q s.found ++ (put_events s.put ++ (chosen_events s.chosen
        ++ behind_events s.behind)) ≡ Chosen 0 ∷ []) point is

    not_to_put : (o : LogOrder keys chosen_log) → AreDoneToPut keys chosen_log o.slots → ⊥
    not_to_put o d =
        let x = only_dummy o in
        let last = last_to_put chosen_log o.slots (Dummy 0) (Chosen 0 ∷ []) x d in
        by_notes x.s.put x.s.chosen x.s.behind (noted x.s x.point_is x.tail_is) last.1 last.2
      where
        by_notes : (put : Option Message) (chosen : Option ℕ) (behind : Behind)
            → put_events put ++ (chosen_events chosen ++ behind_events behind) ≡ Chosen 0 ∷ [] → chosen ≡ None
            → behind ≡ Nothing → ⊥
        by_notes (Some m) chosen behind is unchosen bare = cc
        by_notes None (Some index) behind is unchosen bare = cc
        by_notes None None Nothing is unchosen bare = cc
        by_notes None None (Appends m) is unchosen bare = cc
        by_notes None None (Answers line value) is unchosen bare = cc

    not_to_append : (o : LogOrder keys chosen_log) → AreDoneToAppend keys chosen_log o.slots → ⊥
    not_to_append o d =
        let x = only_dummy o in
        let last = last_to_append chosen_log o.slots (Dummy 0) (Chosen 0 ∷ []) x d in
        by_notes x.s.put x.s.chosen x.s.behind (noted x.s x.point_is x.tail_is) last.1
      where
        by_notes : (put : Option Message) (chosen : Option ℕ) (behind : Behind)
            → put_events put ++ (chosen_events chosen ++ behind_events behind) ≡ Chosen 0 ∷ []
            → behind ≡ Appends d.message → ⊥
        by_notes (Some m) chosen behind is stands = cc
        by_notes None None Nothing is stands = cc
        by_notes None None (Appends m) is stands = cc
        by_notes None None (Answers line value) is stands = cc
        by_notes None (Some index) Nothing is stands = cc
        by_notes None (Some index) (Appends m) is stands = cc
        by_notes None (Some index) (Answers line value) is stands = cc

    not_but_last : (o : LogOrder keys chosen_log) → AreDoneButLast keys chosen_log o.slots → ⊥
    not_but_last o d =
        let none : Chosen 0 ∷ [] ≡ [] = bare_tail chosen_log o.slots (Dummy 0) (Chosen 0 ∷ []) (only_dummy o) d in cc

  pub full_chosen : (held : ℕ) → StopsInOrder keys (StashFull held) (log_of (dummy_events keys 0)) → ⊥
  full_chosen held h =
      elim h.done [ inl put ↦ not_to_put [] h.order put | inr more ↦ not_to_append [] h.order more ]

  pub written_chosen : (moves : List Move) (at bucket : ℕ) → StopsInOrder keys Device
      (moved_log (moves ++ write_move at bucket ∷ []) (dummy_events keys 0)) → ⊥
  written_chosen moves at bucket h = elim h.done [
    | inl read ↦ not_but_last (moves ++ write_move at bucket ∷ []) h.order read.0
    | inr write ↦ not_to_put (moves ++ write_move at bucket ∷ []) h.order write.0
  ]

  -- a block's first slot, in which its message was put back
  module _ (moves : List Move) (a : ℕ) (c : Counter) (l : List ℕ) where
    abbrev put_log : LogLists
    put_log = moved_log moves (block_events keys a first_counter (Tagged (message_of a c l) ∷ []))

    only_put : (o : LogOrder keys put_log) → IsOnly o.slots (real a first_counter) (Tagged (message_of a c l) ∷ [])
    only_put o =
        only put_log 256 (Some 0) (real a first_counter) (record { 0 = keys.leaf_of (real a first_counter) })
        (Tagged (message_of a c l) ∷ []) (tt, tt) o refl

    put_back : (o : LogOrder keys put_log) → AreDoneButLast keys put_log o.slots → ⊥
    put_back o d =
        let none : Tagged (message_of a c l) ∷ [] ≡ [] =
        bare_tail put_log o.slots (real a first_counter) (Tagged (message_of a c l) ∷ []) (only_put o) d in cc

  pub refused_put : (evidence : Evidence) (a : ℕ) (c : Counter) (l : List ℕ) → StopsInOrder keys
      (Integrity evidence) (log_of (block_events keys a first_counter (Tagged (message_of a c l) ∷ []))) → ⊥
  refused_put evidence a c l h =
      elim h.done [ inl bare ↦ put_back [] a c l h.order bare | inr more ↦ appends h.order more ]
    where
      appends : (o : LogOrder keys (put_log [] a c l)) → AreDoneToAppend keys (put_log [] a c l) o.slots → ⊥
      appends o d =
          let x = only_put [] a c l o in
          let last = last_to_append (put_log [] a c l) o.slots (real a first_counter) (Tagged (message_of a c l) ∷ [])
          x d in
          let right = done_right (block_events keys a first_counter (Tagged (message_of a c l) ∷ [])) x.s a
          first_counter x.point_is last.0 in
          let notes : put_events x.s.put ++ (chosen_events x.s.chosen ++ behind_events x.s.behind)
          ≡ Tagged (message_of a c l) ∷ [] =
          subst (λ f. accepted_events (real a first_counter) f ++ (put_events x.s.put ++ (chosen_events x.s.chosen
          ++ behind_events x.s.behind)) ≡ Tagged (message_of a c l) ∷ []) right.0
          (subst (λ (q : Point). accepted_events q x.s.found ++ (put_events x.s.put ++ (chosen_events x.s.chosen
          ++ behind_events x.s.behind)) ≡ Tagged (message_of a c l) ∷ []) x.point_is x.tail_is) in
          by_notes x.s.put x.s.chosen x.s.behind notes right.2 d.message last.1
        where
          by_notes : (put : Option Message) (chosen : Option ℕ) (behind : Behind)
              → put_events put ++ (chosen_events chosen ++ behind_events behind) ≡ Tagged (message_of a c l) ∷ []
              → MayStand a None put behind → (m : Message) → behind ≡ Appends m → ⊥
          by_notes put chosen Nothing is stands m on = cc
          by_notes put chosen (Answers line value) is stands m on = cc
          by_notes None None (Appends x) is stands m on =
              let same : x ≡ message_of a c l = cc in stands.1 (ap (λ (y : Message). y.address.0) same)
          by_notes None (Some index) (Appends x) is stands m on = cc
          by_notes (Some k) None (Appends x) is stands m on = cc
          by_notes (Some k) (Some index) (Appends x) is stands m on = cc

  pub read_put : (moves : List Move) (at bucket a : ℕ) (c : Counter) (l : List ℕ) → StopsInOrder keys Device
      (moved_log (moves ++ read_move at bucket ∷ [])
      (block_events keys a first_counter (Tagged (message_of a c l) ∷ []))) → ⊥
  read_put moves at bucket a c l h = elim h.done [
    | inl read ↦ put_back (moves ++ read_move at bucket ∷ []) a c l h.order read.0
    | inr write ↦ (let bad : false ≡ true = other_move moves (read_move at bucket) true
        (put_log (moves ++ read_move at bucket ∷ []) a c l) refl write.1 in cc)
  ]

  -- ---- stops that leave such logs
  pub in_time : (at : ℕ) → StopsInOrder keys (TimeUp at) (log_of (dummy_events keys 0))
  unfolding dummy
  in_time at = record { order = dummy keys; done = (dummy_done keys [], tt) }

  pub refused : (evidence : Evidence) (a : ℕ) (c : Counter)
      → StopsInOrder keys (Integrity evidence) (log_of (block_events keys a c []))
  unfolding bare
  refused evidence a c = record {
    order = bare keys a c;
    done = inl (record {
      before = [];
      last = block_notes keys a c None None Nothing;
      are = refl;
      done = tt;
      bare = record { found = refl; put = refl; chosen = refl; behind = refl };
    });
  }

  module _ (a b : ℕ) (d : Counter) (k : List ℕ) (other : b ≡ a → ⊥) where
    to_append : AreDoneToAppend keys
        (log_of (block_events keys a first_counter (displaced (message_of b d k)))) (appended keys a b d k other).slots
    unfolding appended first_order
    to_append = record {
      before = [];
      last = block_notes keys a first_counter None (Some 0) (Appends (message_of b d k));
      are = refl;
      done = (
        first_done keys a (block_events keys a first_counter (displaced (message_of b d k))) None (Some 0)
            (Appends (message_of b d k)) tt (refl, other),
        tt,
      );
      message = message_of b d k;
      behind = refl;
    }

  pub doubled : (evidence : Evidence) (a b : ℕ) (d : Counter) (k : List ℕ) → (b ≡ a → ⊥) → StopsInOrder keys
      (Integrity evidence) (log_of (block_events keys a first_counter (displaced (message_of b d k))))
  doubled evidence a b d k other =
      record { order = appended keys a b d k other; done = inr (to_append a b d k other) }

  pub full_appended : (held a b : ℕ) (d : Counter) (k : List ℕ) → (b ≡ a → ⊥) → StopsInOrder keys
      (StashFull held) (log_of (block_events keys a first_counter (displaced (message_of b d k))))
  full_appended held a b d k other =
      record { order = appended keys a b d k other; done = inr (to_append a b d k other) }

  pub full_put : (held a : ℕ) (c : Counter) (l : List ℕ) → StopsInOrder keys (StashFull held)
      (log_of (block_events keys a first_counter (Tagged (message_of a c l) ∷ [])))
  unfolding stored first_order
  full_put held a c l = record {
    order = stored keys a c l;
    done = inl (record {
      before = [];
      last = block_notes keys a first_counter (Some (message_of a c l)) None Nothing;
      are = refl;
      done = (
        first_done keys a (block_events keys a first_counter (Tagged (message_of a c l) ∷ [])) (Some (message_of a c l))
            None Nothing refl tt,
        tt,
      );
      chosen = refl;
      behind = refl;
    });
  }

  -- the notes of a dummy's slot, of which nothing is noted but its point
  abbrev bare_notes : SlotNotes
  bare_notes = record (dummy_notes keys) { chosen = None }

  bare_order : (moves : List Move) → LogOrder keys (moved_log moves (drawn_events keys 256 None (Dummy 0)))
  bare_order moves = record {
    slots = bare_notes ∷ [];
    events = refl;
    order = (
      (refl, refl),
      inr (record { found = refl; put = refl; chosen = refl; behind = refl }, refl),
      tt,
    );
    noted = λ reply h. absurd h;
  }

  pub read : (level : ℕ) → StopsInOrder keys Device (broken_log keys level)
  unfolding bare_order
  read level = record {
    order = bare_order (along keys.shape.levels false 256 (keys.leaf_of (Dummy 0)) (level + 1));
    done = inl (
      record {
        before = [];
        last = bare_notes;
        are = refl;
        done = tt;
        bare = record { found = refl; put = refl; chosen = refl; behind = refl };
      },
      ends_in keys.shape.levels 256 (keys.leaf_of (Dummy 0)) level false [] (broken_log keys level) refl,
    );
  }

  pub written : (moves : List Move) (at bucket : ℕ) → StopsInOrder keys Device
      (moved_log (moves ++ write_move at bucket ∷ []) (drawn_events keys 256 None (Dummy 0)))
  unfolding bare_order
  written moves at bucket = record {
    order = bare_order (moves ++ write_move at bucket ∷ []);
    done = inr (
      record {
        before = [];
        last = bare_notes;
        are = refl;
        done = (
          record {
            joined = [];
            read = read_empty keys 256 (keys.leaf_of (Dummy 0));
            taken = (refl, refl);
            put = tt;
          },
          tt,
        );
        chosen = refl;
        behind = refl;
      },
      record { before = moves; last = write_move at bucket; are = refl; is = refl },
    );
  }

  pub starved : StopsInOrder keys NoMemory empty_log
  unfolding none
  starved = record { order = none keys; done = inl tt }
