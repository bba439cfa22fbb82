-- Logs in order by their slots, and what a log of one slot in order must note.
use Rattle.std.proofs.Common.{◌≡◌, inl, inr, ℕ, Bool, false, if◌then◌else◌, List, [], ◌∷◌, ◌++◌, Option}
use Rattle.std.proofs.Common.{None, Some, refl, sym, ◌∙◌, ap, subst, arith}
use Rattle.asc_base.specs.declared.block.Counter.{Counter}
use Rattle.asc_base.specs.declared.block.Leaf.{Leaf}
use Rattle.asc_base.specs.declared.block.Line.{Line}
use Rattle.asc_base.specs.declared.block.Message.{Message}
use Rattle.asc_base.specs.declared.block.Point.{Point}
use Rattle.asc_base.specs.declared.block.Point.TheVariants.{Dummy}
use Rattle.asc_base.specs.declared.stop.Evidence.{Evidence}
use Rattle.asc_base.specs.declared.stop.Evidence.TheVariants.{Missing}
use Rattle.bus_watch.specs.declared.log.Altered.{Altered}
use Rattle.bus_watch.specs.declared.log.Event.{Event}
use Rattle.bus_watch.specs.declared.log.Event.TheVariants.{Access, Drawn, Tagged, Accepted, Chosen, Answered}
use Rattle.oram_contents.specs.Counts.{zero_line}
use Rattle.oram_contents.specs.Entries.{Keys, real, message_of}
use Rattle.oram_contents.specs.Slots.{drawn_events}
use Rattle.oram_contents.specs.Starts.{empty_log}
use Rattle.oram_contents.specs.Verdict.{is_first, judged, put_events, IsOfPoint}
use Rattle.posmap_counters.specs.Counters.{first_counter}
use Rattle.log_replay.specs.Order.{Behind, Nothing, Appends, Answers, SlotNotes, chosen_events, behind_events}
use Rattle.log_replay.specs.Order.{events_of, accepted_events, IsTaken, IsNotedIn}
use Rattle.log_replay.specs.Order.{IsNextPoint, MayStand, IsDone, AreInOrder, LogOrder}
use Rattle.log_replay.specs.Rows.{log_of, dummy_events, block_events, fetched, displaced}
use Rattle.log_replay.proofs.FirstReads.{read_empty}
use Rattle.log_replay.proofs.OpenPaths.{AreQuiet}
use Rattle.log_replay.proofs.Orders.{all_events}
use Rattle.log_replay.proofs.SlotSplits.{Begins, IsFirstTouch, first_slot, first_touch, none_held}

some_line : (one other : Line) → Some one ≡ Some other → one ≡ other
some_line one other is = cc

no_line : (value : Line) → None ≡ Some value → ⊥
no_line value is = cc

module _ (keys : Keys) where
  unfoldable pub none : LogOrder keys empty_log
  none = record { slots = []; events = refl; order = tt; noted = λ reply h. absurd h }

  abbrev pub dummy_notes : SlotNotes
  dummy_notes = record {
    start = 256;
    asked = None;
    point = Dummy 0;
    found = None;
    put = None;
    chosen = Some 0;
    behind = Nothing;
  }

  pub dummy_done : (more : List Event) → IsDone keys (log_of (dummy_events keys 0 ++ more)) [] dummy_notes
  dummy_done more =
      record { joined = []; read = read_empty keys 256 (keys.leaf_of (Dummy 0)); taken = (refl, refl); put = tt }

  unfoldable pub dummy : LogOrder keys (log_of (dummy_events keys 0))
  dummy = record {
    slots = dummy_notes ∷ [];
    events = refl;
    order = ((refl, refl), inl (dummy_done []), tt);
    noted = λ reply h. absurd h;
  }

  abbrev bare_dummy : SlotNotes
  bare_dummy = record {
    start = 1008;
    asked = None;
    point = Dummy 1;
    found = None;
    put = None;
    chosen = None;
    behind = Nothing;
  }

  pub second : LogOrder keys (log_of (dummy_events keys 0 ++ drawn_events keys 1008 None (Dummy 1)))
  second = record {
    slots = dummy_notes ∷ bare_dummy ∷ [];
    events = refl;
    order = (
      (refl, refl),
      inl (dummy_done (drawn_events keys 1008 None (Dummy 1))),
      ((refl, refl), inr (record { found = refl; put = refl; chosen = refl; behind = refl }, refl), tt),
    );
    noted = λ reply h. absurd h;
  }

  module _ (a : ℕ) where
    abbrev pub block_notes : Counter → Option Message → Option ℕ → Behind → SlotNotes
    block_notes c put chosen behind = record {
      start = 256;
      asked = Some 0;
      point = real a c;
      found = None;
      put = put;
      chosen = chosen;
      behind = behind;
    }

    -- a first slot of a block, in which nothing but its own message is put back, was done
    pub first_done : (events : List Event) (put : Option Message) (chosen : Option ℕ) (behind : Behind)
        → IsOfPoint put (real a first_counter) → MayStand a None put behind
        → IsDone keys (log_of events) [] (block_notes first_counter put chosen behind)
    first_done events put chosen behind own stands = record {
      joined = [];
      read = read_empty keys 256 (keys.leaf_of (real a first_counter));
      taken = (none_held keys a, refl, stands);
      put = own;
    }

    unfoldable pub first_order : (put : Option Message) (chosen : Option ℕ) (behind : Behind)
        → IsOfPoint put (real a first_counter) → MayStand a None put behind
        → LogOrder keys (log_of (block_events keys a first_counter
        (put_events put ++ (chosen_events chosen ++ (behind_events behind ++ [])))))
    first_order put chosen behind own stands = record {
      slots = block_notes first_counter put chosen behind ∷ [];
      events = assoc put chosen;
      order = (
        (0, refl),
        inl (first_done (block_events keys a first_counter
            (put_events put ++ (chosen_events chosen ++ (behind_events behind ++ [])))) put chosen behind own stands),
        tt,
      );
      noted = λ reply h. absurd h;
    }
      where
        assoc : (p : Option Message) (o : Option ℕ) → block_events keys a first_counter
            (put_events p ++ (chosen_events o ++ (behind_events behind ++ [])))
            ≡ events_of keys (block_notes first_counter p o behind) ++ []
        assoc None None = refl
        assoc None (Some index) = refl
        assoc (Some m) None = refl
        assoc (Some m) (Some index) = refl

    pub first : (c : Counter)
        → LogOrder keys (log_of (block_events keys a first_counter (fetched (message_of a c zero_line) a zero_line)))
    first c = first_order (Some (message_of a c zero_line)) None (Answers a (record { 0 = zero_line })) refl
        (refl, refl, refl)

    unfoldable pub stored : (c : Counter) (l : List ℕ)
        → LogOrder keys (log_of (block_events keys a first_counter (Tagged (message_of a c l) ∷ [])))
    stored c l = first_order (Some (message_of a c l)) None Nothing refl tt

    unfoldable pub appended : (b : ℕ) (d : Counter) (k : List ℕ) → (b ≡ a → ⊥)
        → LogOrder keys (log_of (block_events keys a first_counter (displaced (message_of b d k))))
    appended b d k other = first_order None (Some 0) (Appends (message_of b d k)) tt (refl, other)

    unfoldable pub bare : (c : Counter) → LogOrder keys (log_of (block_events keys a c []))
    bare c = record {
      slots = block_notes c None None Nothing ∷ [];
      events = refl;
      order = (
        (0, refl),
        inr (record { found = refl; put = refl; chosen = refl; behind = refl }, refl),
        tt,
      );
      noted = λ reply h. absurd h;
    }

  pub no_slot : (line : ℕ) (events : List Event)
      → LogOrder keys (log_of (Answered line (record { 0 = zero_line }) ∷ events)) → ⊥
  no_slot line events o = by_slots o.slots o.events
    where
      by_slots : (slots : List SlotNotes) → (let value : Line = record { 0 = zero_line } in Answered line value ∷ events
          ≡ all_events keys slots) → ⊥
      by_slots [] is = cc
      by_slots (s ∷ later) is = cc

  pub no_slot_reply : (reply : Altered)
      → LogOrder keys (record { moves = []; events = []; altered = reply ∷ [] }) → ⊥
  no_slot_reply reply o = by_slots o.slots o.events (o.noted reply (inl refl))
    where
      by_slots : (slots : List SlotNotes) → [] ≡ all_events keys slots → IsNotedIn keys [] slots reply → ⊥
      by_slots [] is noted = noted
      by_slots (s ∷ later) is noted = cc

  pub no_point : LogOrder keys (log_of (Access 256 None ∷ Chosen 0 ∷ [])) → ⊥
  no_point o = by_slots o.slots o.events
    where
      by_slots : (slots : List SlotNotes) → Access 256 None ∷ Chosen 0 ∷ [] ≡ all_events keys slots → ⊥
      by_slots [] is = cc
      by_slots (s ∷ later) is = cc

  pub other_number : LogOrder keys (log_of (dummy_events keys 1)) → ⊥
  other_number o = absurd (let x = first_slot keys (log_of (dummy_events keys 1)) 256 None (Dummy 1)
      (record { 0 = keys.leaf_of (Dummy 1) }) (Chosen 0 ∷ []) [] (tt, tt) tt o refl in
      let bad : 1 ≡ 0 = x.next.0 in omega (arith, bad))

  pub same_number : LogOrder keys (log_of (dummy_events keys 0 ++ drawn_events keys 1008 None (Dummy 0))) → ⊥
  same_number o =
      let x = first_slot keys (log_of (dummy_events keys 0 ++ drawn_events keys 1008 None (Dummy 0))) 256 None
      (Dummy 0) (record { 0 = keys.leaf_of (Dummy 0) }) (Chosen 0 ∷ []) (drawn_events keys 1008 None (Dummy 0))
      (tt, tt) (λ quiet. quiet) o refl in
      by_slots x.s x.later x.later_are x.order
    where
      by_slots : (s : SlotNotes) (later : List SlotNotes)
          → all_events keys later ≡ drawn_events keys 1008 None (Dummy 0)
          → AreInOrder keys (log_of (dummy_events keys 0 ++ drawn_events keys 1008 None (Dummy 0)))
          (events_of keys s) 1 later → ⊥
      by_slots s [] is order = cc
      by_slots s (t ∷ later) is order =
          let point : t.point ≡ Dummy 0 = cc in
          let bad = subst (λ (q : Point). IsNextPoint 1 t.asked q) point order.0 in
          let wrong : 0 ≡ 1 = bad.0 in
          omega (arith, wrong)

  pub asked_dummy : LogOrder keys (log_of (drawn_events keys 256 (Some 0) (Dummy 0))) → ⊥
  asked_dummy o =
      let x = first_slot keys (log_of (drawn_events keys 256 (Some 0) (Dummy 0))) 256 (Some 0) (Dummy 0)
      (record { 0 = keys.leaf_of (Dummy 0) }) [] [] tt tt o refl in
      let bad : (let o : Option ℕ = Some 0 in o ≡ None) = x.next.1 in cc

  pub tagged_dummy : (m : Message) → LogOrder keys (log_of (drawn_events keys 256 None (Dummy 0) ++ Tagged m ∷ [])) → ⊥
  tagged_dummy m o =
      let x = first_slot keys (log_of (drawn_events keys 256 None (Dummy 0) ++ Tagged m ∷ [])) 256 None (Dummy 0)
      (record { 0 = keys.leaf_of (Dummy 0) }) (Tagged m ∷ []) [] (tt, tt) tt o refl in
      let notes : put_events x.s.put ++ (chosen_events x.s.chosen ++ behind_events x.s.behind) ≡ Tagged m ∷ [] =
      subst (λ (q : Point). accepted_events q x.s.found ++ (put_events x.s.put ++ (chosen_events x.s.chosen
      ++ behind_events x.s.behind)) ≡ Tagged m ∷ []) x.point_is x.tail_is in
      elim x.done [
        | inl d ↦ by_notes x.s.put x.s.chosen x.s.behind notes
            (subst (λ (q : Point). IsTaken keys d.joined q x.s) x.point_is d.taken).1
            (subst (λ (q : Point). IsOfPoint x.s.put q) x.point_is d.put)
        | inr b ↦ by_notes x.s.put x.s.chosen x.s.behind notes b.0.behind
            (subst (λ put. IsOfPoint put (Dummy 0)) (sym b.0.put) tt)
      ]
    where
      by_notes : (put : Option Message) (chosen : Option ℕ) (behind : Behind)
          → put_events put ++ (chosen_events chosen ++ behind_events behind) ≡ Tagged m ∷ [] → behind ≡ Nothing
          → IsOfPoint put (Dummy 0) → ⊥
      by_notes (Some k) chosen behind is bare own = own
      by_notes None (Some index) behind is bare own = cc
      by_notes None None Nothing is bare own = cc
      by_notes None None (Appends k) is bare own = cc
      by_notes None None (Answers line value) is bare own = cc

  pub unasked_block : (a : ℕ) (c : Counter) → LogOrder keys (log_of (drawn_events keys 256 None (real a c))) → ⊥
  unasked_block a c o =
      let x = first_slot keys (log_of (drawn_events keys 256 None (real a c))) 256 None (real a c)
      (record { 0 = keys.leaf_of (real a c) }) [] [] tt tt o refl in
      let bad : None ≡ Some x.next.0 = x.next.1 in cc

  pub other_leaf : (leaf : ℕ) → (leaf ≡ keys.leaf_of (Dummy 0) → ⊥)
      → LogOrder keys (log_of (Access 256 None ∷ Drawn (Dummy 0) (record { 0 = leaf }) ∷ Chosen 0 ∷ [])) → ⊥
  other_leaf leaf other o =
      let x = first_slot keys (log_of (Access 256 None ∷ Drawn (Dummy 0) (record { 0 = leaf }) ∷ Chosen 0 ∷ [])) 256
      None (Dummy 0) (record { 0 = leaf }) (Chosen 0 ∷ []) [] (tt, tt) tt o refl in
      other (ap (λ (l : Leaf). l.0) x.leaf_is)

  -- a log with one slot, of a block, in which something more is noted
  touched : (a : ℕ) (c : Counter) (e : Event) (tail zs : List Event) → AreQuiet (e ∷ tail) → Begins zs
      → LogOrder keys (log_of (block_events keys a c (e ∷ tail ++ zs))) → IsFirstTouch keys a c (e ∷ tail)
  touched a c e tail zs quiet begins o =
      let x = first_slot keys (log_of (block_events keys a c (e ∷ tail ++ zs))) 256 (Some 0) (real a c)
      (record { 0 = keys.leaf_of (real a c) }) (e ∷ tail) zs quiet begins o refl in
      elim (first_touch keys (block_events keys a c (e ∷ tail ++ zs)) 256 (Some 0) a c
      (record { 0 = keys.leaf_of (real a c) }) (e ∷ tail) zs x) [
        | inl b ↦ absurd (let bad : e ∷ tail ≡ [] = b.0 in cc)
        | inr t ↦ t
      ]

  pub accepted : (a : ℕ) (c : Counter) (l tag : List ℕ)
      → LogOrder keys (log_of (block_events keys a c (Accepted (message_of a c l) tag ∷ []))) → ⊥
  accepted a c l tag o =
      let t = touched a c (Accepted (message_of a c l) tag) [] [] (tt, tt) tt o in
      by_notes t.put t.chosen t.behind t.events
    where
      by_notes : (put : Option Message) (chosen : Option ℕ) (behind : Behind)
          → put_events put ++ (chosen_events chosen ++ behind_events behind) ≡ Accepted (message_of a c l) tag ∷ [] → ⊥
      by_notes (Some m) chosen behind is = cc
      by_notes None (Some index) behind is = cc
      by_notes None None Nothing is = cc
      by_notes None None (Appends m) is = cc
      by_notes None None (Answers line value) is = cc

  -- a message is put back and a line is answered: it is the block's own line, of zeros, and the one that is put back
  fetched_is : (a line : ℕ) (c : Counter) (l value : List ℕ)
      → LogOrder keys (log_of (block_events keys a first_counter (fetched (message_of a c l) line value)))
      → (line ≡ a) × (value ≡ zero_line) × (l ≡ value)
  fetched_is a line c l value o =
      let t = touched a first_counter (Tagged (message_of a c l)) (Answered line (record { 0 = value }) ∷ []) []
      (tt, (tt, tt)) tt o in
      by_notes t.put t.chosen t.behind t.events t.stands
    where
      by_notes : (put : Option Message) (chosen : Option ℕ) (behind : Behind)
          → put_events put ++ (chosen_events chosen ++ behind_events behind) ≡ fetched (message_of a c l) line value
          → MayStand a None put behind → (line ≡ a) × (value ≡ zero_line) × (l ≡ value)
      by_notes put (Some index) behind is stands = absurd (no_choice put behind is)
        where
          no_choice : (put : Option Message) (behind : Behind) → put_events put ++ (Chosen index ∷ behind_events behind)
              ≡ fetched (message_of a c l) line value → ⊥
          no_choice None behind is = cc
          no_choice (Some m) behind is = cc
      by_notes None None Nothing is stands = absurd cc
      by_notes None None (Appends m) is stands = absurd cc
      by_notes None None (Answers n v) is stands = absurd cc
      by_notes (Some m) None Nothing is stands = absurd cc
      by_notes (Some m) None (Appends k) is stands = absurd cc
      by_notes (Some m) None (Answers n v) is stands =
          let number : n ≡ line = cc in
          let same : v ≡ record { 0 = value } = cc in
          let own : m ≡ message_of a c l = cc in
          let back : m.line ≡ v = some_line m.line v stands.2 in (
            sym number ∙ stands.0,
            sym (ap (λ (x : Line). x.0) same) ∙ stands.1,
            ap (λ (x : Line). x.0) (ap (λ (x : Message). x.line) (sym own) ∙ back ∙ same),
          )

  pub other_line : (a line : ℕ) (c : Counter) (l : List ℕ) → (line ≡ a → ⊥)
      → LogOrder keys (log_of (block_events keys a first_counter (fetched (message_of a c l) line zero_line))) → ⊥
  other_line a line c l other o = other (fetched_is a line c l zero_line o).0

  pub other_value : (a : ℕ) (c : Counter) (l value : List ℕ) → (value ≡ zero_line → ⊥)
      → LogOrder keys (log_of (block_events keys a first_counter (fetched (message_of a c l) a value))) → ⊥
  other_value a c l value other o = other (fetched_is a a c l value o).1

  pub other_put : (a : ℕ) (c : Counter) (l : List ℕ) → (l ≡ zero_line → ⊥)
      → LogOrder keys (log_of (block_events keys a first_counter (fetched (message_of a c l) a zero_line))) → ⊥
  other_put a c l other o = other (fetched_is a a c l zero_line o).2

  pub unput : (a : ℕ) → LogOrder keys
      (log_of (block_events keys a first_counter (Answered a (record { 0 = zero_line }) ∷ []))) → ⊥
  unput a o =
      let t = touched a first_counter (Answered a (record { 0 = zero_line })) [] [] (tt, tt) tt o in
      by_notes t.put t.chosen t.behind t.events t.stands
    where
      by_notes : (put : Option Message) (chosen : Option ℕ) (behind : Behind)
          → put_events put ++ (chosen_events chosen ++ behind_events behind)
          ≡ Answered a (record { 0 = zero_line }) ∷ []
          → MayStand a None put behind → ⊥
      by_notes (Some m) chosen behind is stands = cc
      by_notes None (Some index) behind is stands = cc
      by_notes None None Nothing is stands = cc
      by_notes None None (Appends m) is stands = cc
      by_notes None None (Answers line value) is stands = no_line value stands.2

  pub other_block : (a b : ℕ) (c : Counter) (l : List ℕ) → (b ≡ a → ⊥) → LogOrder keys
      (log_of (block_events keys a first_counter (Tagged (message_of b c l) ∷ Chosen 0 ∷ []))) → ⊥
  other_block a b c l other o =
      let t = touched a first_counter (Tagged (message_of b c l)) (Chosen 0 ∷ []) [] (tt, (tt, tt)) tt o in
      by_notes t.put t.chosen t.behind t.events t.own
    where
      by_notes : (put : Option Message) (chosen : Option ℕ) (behind : Behind)
          → put_events put ++ (chosen_events chosen ++ behind_events behind) ≡ Tagged (message_of b c l) ∷ Chosen 0 ∷ []
          → IsOfPoint put (real a first_counter) → ⊥
      by_notes (Some m) chosen behind is own =
          let same : m ≡ message_of b c l = cc in other (sym (ap (λ (x : Message). x.address.0) same) ∙ own)
      by_notes None (Some index) behind is own = cc
      by_notes None None Nothing is own = cc
      by_notes None None (Appends m) is own = cc
      by_notes None None (Answers line value) is own = cc

  pub own_block : (a : ℕ) (d : Counter) (k : List ℕ)
      → LogOrder keys (log_of (block_events keys a first_counter (displaced (message_of a d k)))) → ⊥
  own_block a d k o =
      let t = touched a first_counter (Chosen 0) (Tagged (message_of a d k) ∷ []) [] (tt, (tt, tt)) tt o in
      by_notes t.put t.chosen t.behind t.events t.stands
    where
      by_notes : (put : Option Message) (chosen : Option ℕ) (behind : Behind)
          → put_events put ++ (chosen_events chosen ++ behind_events behind) ≡ displaced (message_of a d k)
          → MayStand a None put behind → ⊥
      by_notes (Some m) chosen behind is stands = cc
      by_notes None None Nothing is stands = cc
      by_notes None None (Appends m) is stands = cc
      by_notes None None (Answers line value) is stands = cc
      by_notes None (Some index) Nothing is stands = cc
      by_notes None (Some index) (Answers line value) is stands = cc
      by_notes None (Some index) (Appends x) is stands =
          let same : x ≡ message_of a d k = cc in stands.1 (ap (λ (y : Message). y.address.0) same)

  pub both_tagged : (a b : ℕ) (c d : Counter) (l k : List ℕ) → LogOrder keys
      (log_of (block_events keys a first_counter (Tagged (message_of a c l) ∷ displaced (message_of b d k)))) → ⊥
  both_tagged a b c d l k o =
      let t = touched a first_counter (Tagged (message_of a c l)) (Chosen 0 ∷ Tagged (message_of b d k) ∷ []) []
      (tt, (tt, (tt, tt))) tt o in
      by_notes t.put t.chosen t.behind t.events t.stands
    where
      by_notes : (put : Option Message) (chosen : Option ℕ) (behind : Behind)
          → put_events put ++ (chosen_events chosen ++ behind_events behind)
          ≡ Tagged (message_of a c l) ∷ displaced (message_of b d k)
          → MayStand a None put behind → ⊥
      by_notes None (Some index) behind is stands = cc
      by_notes None None Nothing is stands = cc
      by_notes None None (Appends m) is stands = cc
      by_notes None None (Answers line value) is stands = cc
      by_notes (Some m) None Nothing is stands = cc
      by_notes (Some m) None (Appends x) is stands = cc
      by_notes (Some m) None (Answers line value) is stands = cc
      by_notes (Some m) (Some index) Nothing is stands = cc
      by_notes (Some m) (Some index) (Answers line value) is stands = cc
      by_notes (Some m) (Some index) (Appends x) is stands = let bad = stands.0 in cc

  pub unread : (a : ℕ) (c : Counter) → is_first c ≡ false
      → LogOrder keys (log_of (block_events keys a c (drawn_events keys 1008 None (Dummy 0)))) → ⊥
  unread a c later o =
      let events = block_events keys a c (drawn_events keys 1008 None (Dummy 0)) in
      let x = first_slot keys (log_of events) 256 (Some 0) (real a c) (record { 0 = keys.leaf_of (real a c) }) []
      (drawn_events keys 1008 None (Dummy 0)) tt (λ quiet. quiet) o refl in
      elim (first_touch keys events 256 (Some 0) a c (record { 0 = keys.leaf_of (real a c) }) []
      (drawn_events keys 1008 None (Dummy 0)) x) [
        | inl b ↦ (let bad : drawn_events keys 1008 None (Dummy 0) ≡ [] = b.1 in cc)
        | inr t ↦ no_verdict t.right
      ]
    where
      judged_is : judged keys a c None ≡ Some (Missing (record { 0 = a }) c)
      judged_is = ap (λ (b : Bool). if b then None else Some (Missing (record { 0 = a }) c)) later

      no_verdict : judged keys a c None ≡ None → ⊥
      no_verdict right =
          let bad : (let e : Option Evidence = Some (Missing (record { 0 = a }) c) in e ≡ None)
          = sym judged_is ∙ right in cc
