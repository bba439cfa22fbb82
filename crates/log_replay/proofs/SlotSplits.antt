-- The events of a log in order say where its slots begin, and so what its first slot is.
use Rattle.std.proofs.Common.{◌≡◌, ◌⊎◌, inl, inr, ℕ, List, [], ◌∷◌, ◌++◌, length, Option, None}
use Rattle.std.proofs.Common.{refl, sym, ◌∙◌, ap, subst, arith}
use Rattle.asc_base.specs.declared.block.Counter.{Counter}
use Rattle.asc_base.specs.declared.block.Entry.{Entry}
use Rattle.asc_base.specs.declared.block.Leaf.{Leaf}
use Rattle.asc_base.specs.declared.block.Message.{Message}
use Rattle.asc_base.specs.declared.block.Point.{Point}
use Rattle.bus_watch.specs.Log.{LogLists}
use Rattle.bus_watch.specs.declared.log.Event.{Event}
use Rattle.bus_watch.specs.declared.log.Event.TheVariants.{Access, Drawn}
use Rattle.oram_contents.specs.Entries.{Keys, real}
use Rattle.oram_contents.specs.Steps.{next_dummy}
use Rattle.oram_contents.specs.Verdict.{judged, put_events, IsOfPoint}
use Rattle.oram_stash.specs.Entries.{held}
use Rattle.log_replay.specs.Order.{SlotNotes, Behind, accepted_events, chosen_events, behind_events, events_of}
use Rattle.log_replay.specs.Order.{IsNextPoint, MayStand, IsTaken, IsDone, IsBare, AreInOrder, LogOrder}
use Rattle.log_replay.specs.Rows.{log_of}
use Rattle.log_replay.proofs.FirstReads.{reads_only_empty}
use Rattle.log_replay.proofs.OpenPaths.{IsQuiet, AreQuiet, quiet_later}
use Rattle.log_replay.proofs.Orders.{later_events, all_events}

-- events that begin with a slot's start or its point, if there are any
abbrev pub Begins : List Event → Type 0
Begins [] = Unit {0}
Begins (e ∷ events) = IsQuiet e → ⊥

-- quiet events before such ones are told apart from them
pub split : (xs tail ys zs : List Event) → AreQuiet xs → AreQuiet tail → Begins ys → Begins zs
    → xs ++ ys ≡ tail ++ zs → (xs ≡ tail) × (ys ≡ zs)
split [] [] ys zs a b c d is = (refl, is)
split [] (t ∷ tail) ys zs a b c d is = absurd (let other : Begins (t ∷ tail ++ zs) = subst Begins is c in other b.0)
split (x ∷ xs) [] ys zs a b c d is = absurd (let other : Begins (x ∷ xs ++ ys) = subst Begins (sym is) d in other a.0)
split (x ∷ xs) (t ∷ tail) ys zs a b c d is =
    let head : x ≡ t = cc in
    let rest : xs ++ ys ≡ tail ++ zs = cc in
    let later = split xs tail ys zs a.1 b.1 c d rest in
    (let same = later.0 in cc, later.1)

-- the first slot of a log, whose start and point these are, with these events behind them, and then those of later
-- slots
pub record IsFirstSlot (keys : Keys) (log : LogLists) (start : ℕ) (asked : Option ℕ) (p : Point) (leaf : Leaf)
    (tail zs : List Event) : Type 0 where
  pub s : SlotNotes
  pub later : List SlotNotes
  pub start_is : s.start ≡ start
  pub asked_is : s.asked ≡ asked
  pub point_is : s.point ≡ p
  pub leaf_is : leaf ≡ record { 0 = keys.leaf_of p }
  pub tail_is : later_events s ≡ tail
  pub later_are : all_events keys later ≡ zs
  pub next : IsNextPoint 0 asked p
  pub done : IsDone keys log [] s ⊎ (IsBare s × (later ≡ []))
  pub order : AreInOrder keys log (events_of keys s) (next_dummy 0 p) later

module _ (keys : Keys) where
  pub begin : (slots : List SlotNotes) → Begins (all_events keys slots)
  begin [] = tt
  begin (s ∷ later) = λ quiet. quiet

  pub first_slot : (log : LogLists) (start : ℕ) (asked : Option ℕ) (p : Point) (leaf : Leaf) (tail zs : List Event)
      → AreQuiet tail → Begins zs → LogOrder keys log
      → log.events ≡ Access start asked ∷ Drawn p leaf ∷ (tail ++ zs)
      → IsFirstSlot keys log start asked p leaf tail zs
  first_slot log start asked p leaf tail zs quiet begins o are = by_slots o.slots o.events o.order
    where
      by_slots : (slots : List SlotNotes) → log.events ≡ all_events keys slots → AreInOrder keys log [] 0 slots
          → IsFirstSlot keys log start asked p leaf tail zs
      by_slots [] events order = absurd (omega (arith, ap length (sym events ∙ are)))
      by_slots (s ∷ later) events order =
          let both : Access s.start s.asked ∷ Drawn s.point (record { 0 = keys.leaf_of s.point })
          ∷ (later_events s ++ all_events keys later) ≡ Access start asked ∷ Drawn p leaf ∷ (tail ++ zs) =
          sym events ∙ are in
          let start_is : s.start ≡ start = cc in
          let asked_is : s.asked ≡ asked = cc in
          let point_is : s.point ≡ p = cc in
          let leaf_is : leaf ≡ record { 0 = keys.leaf_of s.point } = cc in
          let rest : later_events s ++ all_events keys later ≡ tail ++ zs = cc in
          let parts = split (later_events s) tail (all_events keys later) zs (quiet_later s) quiet (begin later)
          begins rest in record {
            s = s;
            later = later;
            start_is = start_is;
            asked_is = asked_is;
            point_is = point_is;
            leaf_is = subst (λ (q : Point). leaf ≡ record { 0 = keys.leaf_of q }) point_is leaf_is;
            tail_is = parts.0;
            later_are = parts.1;
            next = subst (λ (q : Point). IsNextPoint 0 asked q) point_is
                (subst (λ o. IsNextPoint 0 o s.point) asked_is order.0);
            done = order.1;
            order = subst (λ (q : Point). AreInOrder keys log (events_of keys s) (next_dummy 0 q) later) point_is
                order.2;
          }

  -- What is noted of a block in a first slot that was done, where no reply was altered: nothing is found for it.
  pub record IsFirstTouch (a : ℕ) (c : Counter) (tail : List Event) : Type 0 where
    pub put : Option Message
    pub chosen : Option ℕ
    pub behind : Behind
    pub events : put_events put ++ (chosen_events chosen ++ behind_events behind) ≡ tail
    pub right : judged keys a c None ≡ None
    pub stands : MayStand a None put behind
    pub own : IsOfPoint put (real a c)

  pub none_held : (a : ℕ) → held [] (record { 0 = a }) ≡ None
  unfolding held
  none_held a = refl

  pub first_touch : (events : List Event) (start : ℕ) (asked : Option ℕ) (a : ℕ) (c : Counter) (leaf : Leaf)
      (tail zs : List Event) (x : IsFirstSlot keys (log_of events) start asked (real a c) leaf tail zs)
      → ((tail ≡ []) × (zs ≡ [])) ⊎ IsFirstTouch a c tail
  first_touch events start asked a c leaf tail zs x = elim x.done [ inl d ↦ inr (is_done d) | inr b ↦ inl (is_bare b) ]
    where
      tail_of : (found : Option Entry) → x.s.found ≡ found
          → accepted_events (real a c) found ++ (put_events x.s.put ++ (chosen_events x.s.chosen
          ++ behind_events x.s.behind)) ≡ tail
      tail_of found is =
          subst (λ (q : Point). accepted_events q found ++ (put_events x.s.put ++ (chosen_events x.s.chosen
          ++ behind_events x.s.behind)) ≡ tail) x.point_is
          (subst (λ f. accepted_events x.s.point f ++ (put_events x.s.put ++ (chosen_events x.s.chosen
          ++ behind_events x.s.behind)) ≡ tail) is x.tail_is)

      nothing : IsBare x.s → put_events x.s.put ++ (chosen_events x.s.chosen ++ behind_events x.s.behind) ≡ []
      nothing b = rw b.put rw b.chosen rw b.behind refl

      is_bare : IsBare x.s × (x.later ≡ []) → (tail ≡ []) × (zs ≡ [])
      is_bare (b, last) = (sym (tail_of None b.found) ∙ nothing b, sym x.later_are ∙ ap (all_events keys) last)

      is_done : IsDone keys (log_of events) [] x.s → IsFirstTouch a c tail
      is_done d =
          let empty = reads_only_empty keys x.s.start (keys.leaf_of x.s.point) d.joined d.read in
          let taken = subst (λ (q : Point). IsTaken keys d.joined q x.s) x.point_is d.taken in
          let found : x.s.found ≡ None =
          sym taken.0 ∙ ap (λ l. held l (record { 0 = a })) empty ∙ none_held a in record {
            put = x.s.put;
            chosen = x.s.chosen;
            behind = x.s.behind;
            events = tail_of None found;
            right = subst (λ f. judged keys a c f ≡ None) found taken.1;
            stands = subst (λ f. MayStand a f x.s.put x.s.behind) found taken.2;
            own = subst (λ (q : Point). IsOfPoint x.s.put q) x.point_is d.put;
          }
