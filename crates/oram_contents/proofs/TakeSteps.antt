-- A block is taken: its entry leaves the hand, its counter rises, and it is in flight; its line is the stored one.
use Rattle.std.proofs.Common.{◌≡◌, ◌<◌, ◌⊎◌, inl, inr, ℕ, zero, suc, List, [], Option, None, Some, refl, sym, ◌∙◌, ap}
use Rattle.std.proofs.Common.{subst, arith}
use Rattle.std.proofs.lemmas.Bool.{cases_eq}
use Rattle.asc_base.specs.TreeShape.{parent_of}
use Rattle.asc_base.specs.declared.block.Counter.{Counter}
use Rattle.asc_base.specs.declared.block.Entry.{Entry}
use Rattle.asc_base.specs.declared.block.Leaf.{Leaf}
use Rattle.asc_base.specs.declared.block.Message.{Message}
use Rattle.asc_base.specs.declared.block.Point.TheVariants.{Dummy}
use Rattle.bus_watch.specs.Log.{LogLists}
use Rattle.bus_watch.specs.declared.log.Altered.{Altered}
use Rattle.bus_watch.specs.declared.log.Event.TheVariants.{Drawn, Tagged}
use Rattle.pmmac_tags.specs.Tag.{tag}
use Rattle.posmap_counters.specs.Counters.{IsBefore, IsNotAfter, first_counter}
use Rattle.posmap_counters.proofs.Order.{before_trans, not_after_trans, before_irreflexive}
use Rattle.oram_contents.specs.Contents.{Contents}
use Rattle.oram_contents.specs.Entries.{Keys, AreKeys, real, message_of, entries_at, OnPath}
use Rattle.asc_base.specs.Has.{Has}
use Rattle.oram_contents.specs.Counts.{Ghost, line_at, zero_line, IsAway, put_at}
use Rattle.oram_contents.specs.Provenance.{Genuine, Known, message_in, Untagged, OffOpen, Sound, Always}
use Rattle.oram_contents.specs.Steps.{Adds, raised, taken, accepted}
use Rattle.asc_base.proofs.Members.{has_left}
use Rattle.asc_base.specs.declared.block.Address.{Address}
use Rattle.asc_base.specs.declared.block.Point.{Point}
use Rattle.oram_stash.specs.Entries.{held, without}
use Rattle.oram_contents.specs.Verdict.{judged, line_found}
use Rattle.oram_contents.specs.Forgery.{Forgery, LastDrawn}
use Rattle.oram_contents.specs.Slots.{IsFound, MayRise}
use Rattle.oram_stash.proofs.Apart.{AreApart-without, without-left}
use Rattle.oram_contents.proofs.Lines.{put_same, put_other, line_same}
use Rattle.oram_contents.proofs.OfShape.{without_of_shape}
use Rattle.oram_contents.proofs.Among.{cases_tagged}
use Rattle.oram_contents.proofs.Found.{held_has, nothing_wrong, valid_tag}
use Rattle.oram_contents.proofs.GrowSteps.{came_more, sound_log, always_adds, AreUntagged, IsPast}

some_is : {a b : ℕ} → Some a ≡ Some b → a ≡ b
some_is e = cc

module _ (keys : Keys) where
  -- entries leave the hand
  pub sound_fewer : (log : LogLists) (g : Ghost) (now : Contents) (fewer : List Entry)
      → ((e : Entry) → Has e fewer → Has e now.hand)
      → Sound keys log g now → Sound keys log g (record now { hand = fewer })
  sound_fewer log g now fewer less s = record {
    fresh = s.fresh;
    last = s.last;
    once = s.once;
    blank = s.blank;
    drawn = s.drawn;
    dummies = s.dummies;
    away = s.away;
    at_hand = λ e h. s.at_hand e (less e h);
    in_tree = s.in_tree;
  }

  -- A block's counter rises, while its parent is on chip, and no genuine entry of it is left at hand or off the open
  -- path. Nothing is tagged under the new counter yet.
  module _ (lawful : AreKeys keys) (log : LogLists) (g : Ghost) (now : Contents) (a : ℕ) (c : Counter) (pend : Option ℕ)
      (up : IsBefore (g.count a) c) (parent_away : (p : ℕ) → parent_of keys.shape.lines keys.shape.layers a ≡ Some p
      → IsAway g p)
      (pend_same : (b : ℕ) → (b ≡ a → ⊥) → g.pend ≡ Some b → pend ≡ Some b)
      (hand_stale : (e : Entry) → Has e now.hand → e.address.0 ≡ a → Genuine keys log g.count e → ⊥)
      (tree_stale : (b : ℕ) (e : Entry) → OffOpen keys.shape.levels g.path b → Has e (entries_at keys now.mirror b)
      → e.address.0 ≡ a → Genuine keys log g.count e → ⊥)
      (s : Sound keys log g now) where
    above : (m : Message) → Has (Tagged m) log.events → m.address.0 ≡ a → IsBefore m.counter c
    above m h is = let f = s.fresh m h in not_before m.counter (g.count a) c
        (subst (λ b. IsNotAfter m.counter (g.count b)) is f.2) up
      where
        not_before : (x y z : Counter) → IsNotAfter x y → IsBefore y z → IsBefore x z
        not_before x y z (inl same) q = subst (λ w. IsBefore w z) (sym same) q
        not_before x y z (inr p) q = before_trans x y z p (inr q)

    none_yet : Untagged log.events a c
    none_yet m h is at = before_irreflexive c (subst (λ w. IsBefore w c) at (above m h is))

    now_at : put_at g.count a c a ≡ c
    now_at = put_same g.count a c

    now_other : (b : ℕ) → (b ≡ a → ⊥) → put_at g.count a c b ≡ g.count b
    now_other b other = put_other g.count a c b other

    -- a parent's line changes, and it is on chip
    line_kept : (b : ℕ) → b < keys.shape.total → (IsAway g b → ⊥)
        → line_at keys.shape (raised g a c pend) b ≡ line_at keys.shape g b
    line_kept b inside home = line_same keys.shape g.count a c (g.data_lines b) b lawful.shape inside
        (λ is. home (parent_away b is))

    later : {x : Counter} (b : ℕ) → IsNotAfter x (g.count b) → (b ≡ a) ⊎ (b ≡ a → ⊥)
        → IsNotAfter x (put_at g.count a c b)
    later {x} b p (inl is) = subst (λ w. IsNotAfter x w) (sym (ap (put_at g.count a c) is ∙ now_at))
        (not_after_trans x (g.count a) c (subst (λ w. IsNotAfter x (g.count w)) is p) (inr up))
    later {x} b p (inr other) = subst (λ w. IsNotAfter x w) (sym (now_other b other)) p

    last_of : (m : Message) → Has (Tagged m) log.events → m.counter ≡ put_at g.count a c m.address.0
        → (m.address.0 ≡ a) ⊎ (m.address.0 ≡ a → ⊥) → m.line.0 ≡ line_at keys.shape (raised g a c pend) m.address.0
    last_of m h is (inl at) = absurd (none_yet m h at (is ∙ ap (put_at g.count a c) at ∙ now_at))
    last_of m h is (inr other) =
        let same : m.counter ≡ g.count m.address.0 = is ∙ now_other m.address.0 other in
        s.last m h same ∙ sym (line_kept m.address.0 (s.fresh m h).0
        (λ gone. (s.away m.address.0 gone).2 m h refl same))

    blank_of : (b : ℕ) → b < keys.shape.total → put_at g.count a c b ≡ first_counter → (b ≡ a) ⊎ (b ≡ a → ⊥)
        → line_at keys.shape (raised g a c pend) b ≡ zero_line
    blank_of b inside none (inl is) =
        let here : c ≡ first_counter = sym now_at ∙ ap (put_at g.count a c) (sym is) ∙ none in
        absurd (not_before_first (g.count a) (subst (λ w. IsBefore (g.count a) w) here up))
      where
        not_before_first : (x : Counter) → IsBefore x first_counter → ⊥
        not_before_first x (inl p) = omega arith
        not_before_first x (inr p) = let less = p.1 in omega arith
    blank_of b inside none (inr other) =
        let was : g.count b ≡ first_counter = sym (now_other b other) ∙ none in
        line_kept b inside (λ gone. before_irreflexive first_counter
        (subst (λ w. IsBefore first_counter w) was (s.away b gone).1)) ∙ s.blank b inside was

    drawn_of : (b : ℕ) (x : Counter) → IsPast g b x → (b ≡ a) ⊎ (b ≡ a → ⊥) → IsPast (raised g a c pend) b x
    drawn_of b x past (inl is) = inl (subst (λ w. IsBefore x w) (sym (ap (put_at g.count a c) is ∙ now_at)) (elim past [
      | inl less ↦ before_trans x (g.count a) c (subst (λ w. IsBefore x (g.count w)) is less) (inr up)
      | inr now_is ↦ subst (λ w. IsBefore w c) (sym (now_is.1 ∙ ap g.count is)) up
    ]))
    drawn_of b x (inl less) (inr other) = inl (subst (λ w. IsBefore x w) (sym (now_other b other)) less)
    drawn_of b x (inr now_is) (inr other) = inr (pend_same b other now_is.0, now_is.1 ∙ sym (now_other b other))

    first_before : (x y : Counter) → IsBefore x y → IsBefore first_counter y
    first_before x y (inl p) = inl (omega arith)
    first_before x y (inr p) = by_group y.group refl
      where
        by_group : (n : ℕ) → y.group ≡ n → IsBefore first_counter y
        by_group zero at = inr (sym at, omega (arith, p.1))
        by_group (suc n) at = inl (omega arith)

    away_of : (b : ℕ) → IsAway g b → (b ≡ a) ⊎ (b ≡ a → ⊥)
        → (b < keys.shape.total) × IsBefore first_counter (put_at g.count a c b)
        × Untagged log.events b (put_at g.count a c b)
    away_of b is (inl same) =
        let here : c ≡ put_at g.count a c b = sym now_at ∙ ap (put_at g.count a c) (sym same) in (
          (s.away b is).0,
          subst (IsBefore first_counter) here
              (first_before (g.count a) c up),
          λ m h at counted. none_yet m h (at ∙ same) (counted ∙ sym here),
        )
    away_of b is (inr other) =
        let old = s.away b is in (
          old.0,
          subst (IsBefore first_counter) (sym (now_other b other)) old.1,
          λ m h at counted. old.2 m h at
              (counted ∙ now_other b other),
        )

    genuine_of : (e : Entry) → Genuine keys log g.count e → (e.address.0 ≡ a → ⊥)
        → Genuine keys log (put_at g.count a c) e
    genuine_of e k other = record {
      tagged = subst (λ n. Has (Tagged (message_in e n)) log.events) (sym (now_other e.address.0 other)) k.tagged;
      tag_is = k.tag_is ∙ ap (λ n. tag keys.tags (message_in e n)) (sym (now_other e.address.0 other));
      leaf = k.leaf ∙ ap (λ n. keys.leaf_of (real e.address.0 n)) (sym (now_other e.address.0 other));
    }

    known_of : (e : Entry) → (e.address.0 ≡ a → Genuine keys log g.count e → ⊥) → Known keys log g.count e
        → (e.address.0 ≡ a) ⊎ (e.address.0 ≡ a → ⊥) → Known keys log (put_at g.count a c) e
    known_of e stale (inl o) at = inl o
    known_of e stale (inr k) (inl is) = absurd (stale is k)
    known_of e stale (inr k) (inr other) = inr (genuine_of e k other)

    pub sound_raised : Sound keys log (raised g a c pend) now
    sound_raised = record {
      fresh = λ m h. let f = s.fresh m h in (f.0, f.1, later m.address.0 f.2 (cases_eq m.address.0 a));
      last = λ m h is. last_of m h is (cases_eq m.address.0 a);
      once = s.once;
      blank = λ b inside none. blank_of b inside none (cases_eq b a);
      drawn = λ b x leaf h. drawn_of b x (s.drawn b x leaf h) (cases_eq b a);
      dummies = s.dummies;
      away = λ b is. away_of b is (cases_eq b a);
      at_hand = λ e h. known_of e (hand_stale e h) (s.at_hand e h) (cases_eq e.address.0 a);
      in_tree = λ b e off h. known_of e (tree_stale b e off h) (s.in_tree b e off h) (cases_eq e.address.0 a);
    }

    pub counter_raised : (a < keys.shape.total) → (IsBefore first_counter c) × Untagged log.events a c
    counter_raised inside = (first_before (g.count a) c up, none_yet)

  sound_flight : (log : LogLists) (g : Ghost) (now : Contents) (a : ℕ) (stepped : Option ℕ) → (a < keys.shape.total)
      → IsBefore first_counter (g.count a) → Untagged log.events a (g.count a)
      → Sound keys log g now → Sound keys log (record g { flight = Some a; stepped = stepped }) now
  sound_flight log g now a stepped inside some none s = record {
    fresh = s.fresh;
    last = s.last;
    once = s.once;
    blank = s.blank;
    drawn = s.drawn;
    dummies = s.dummies;
    away = λ b is. elim is [
      | inl h ↦ s.away b (inl h)
      | inr same ↦ subst
          (λ x. (x < keys.shape.total) × IsBefore first_counter (g.count x) × Untagged log.events x (g.count x))
          (some_is same) (inside, some, none)
    ];
    at_hand = s.at_hand;
    in_tree = s.in_tree;
  }

  -- a block is taken
  module _ (lawful : AreKeys keys) (old new : LogLists) (g : Ghost) (now : Contents) (a : ℕ) (c : Counter)
      (found : Option Entry)
      (opened : g.path ≡ Some (keys.leaf_of (real a (g.count a)))) (next : g.pend ≡ Some a)
      (drawn : LastDrawn old.events a (g.count a))
      (rises : MayRise keys g a c) (f : IsFound keys old new now.hand a (g.count a) found) (w : Always keys old now)
      (s : Sound keys old g now) where
    abbrev address : Address
    address = record { 0 = a }

    left : (e : Entry) → Has e (without now.hand (record { 0 = a })) → Has e now.hand × (e.address.0 ≡ a → ⊥)
    left e h = without-left now.hand (record { 0 = a }) e w.apart h

    none_tagged_in : (o : Option Entry) → AreUntagged (accepted a (g.count a) o)
    none_tagged_in None m h = h
    none_tagged_in (Some e) m (inl is) = cc
    none_tagged_in (Some e) m (inr h) = h

    none_drawn_in : (o : Option Entry) (p : Point) (x : Leaf) → Has (Drawn p x) (accepted a (g.count a) o) → ⊥
    none_drawn_in None p x h = h
    none_drawn_in (Some e) p x (inl is) = cc
    none_drawn_in (Some e) p x (inr h) = h

    left_sound : Sound keys new g (record now { hand = without now.hand (record { 0 = a }) })
    left_sound = sound_fewer new g now (without now.hand (record { 0 = a })) (λ e h. (left e h).0)
        (sound_log keys old new (accepted a (g.count a) found) [] g now f.adds (none_tagged_in found)
        (λ b x leaf h. absurd (none_drawn_in found (real b x) leaf h))
        (λ n leaf h. absurd (none_drawn_in found (Dummy n) leaf h)) s)

    stale : (b : ℕ) (e : Entry) → OffOpen keys.shape.levels g.path b → Has e (entries_at keys now.mirror b)
        → e.address.0 ≡ a → Genuine keys new g.count e → ⊥
    stale b e off h is k =
        let same : e.leaf.0 ≡ keys.leaf_of (real a (g.count a)) = k.leaf
        ∙ ap (λ x. keys.leaf_of (real x (g.count x))) is in
        subst (λ p. OffOpen keys.shape.levels p b) opened off
        (subst (λ x. OnPath keys.shape.levels x b) same (w.placed b e h))

    pub take_sound : Sound keys new (taken g a c) (record now { hand = without now.hand (record { 0 = a }) })
    take_sound =
        let now' : Contents = record now { hand = without now.hand (record { 0 = a }) } in
        let pend_same : (b : ℕ) → (b ≡ a → ⊥) → g.pend ≡ Some b
        → None ≡ Some b = λ b other is. absurd (other (some_is (sym is ∙ next))) in
        let gone : (e : Entry) → Has e now'.hand → e.address.0 ≡ a → Genuine keys new g.count e
        → ⊥ = λ e h is k. (left e h).1 is in
        let up = sound_raised lawful new g now' a c None rises.up rises.parent pend_same gone stale left_sound in
        let facts = counter_raised lawful new g now' a c None rises.up rises.parent pend_same gone stale
        left_sound rises.inside in
        let at : put_at g.count a c a ≡ c = put_same g.count a c in
        sound_flight new (raised g a c None) now' a None rises.inside (subst (IsBefore first_counter) (sym at) facts.0)
        (subst (Untagged new.events a) (sym at) facts.1) up

    pub take_line : Forgery keys new ⊎ (line_found found ≡ line_at keys.shape g a)
    take_line = by_entry found f.found_is f.right f.adds
      where
        by_entry : (o : Option Entry) → held now.hand (record { 0 = a }) ≡ o → judged keys a (g.count a) o ≡ None
            → Adds old new (accepted a (g.count a) o) [] → Forgery keys new ⊎ (line_found o ≡ line_at keys.shape g a)
        by_entry None is right adds = inr (sym (s.blank a rises.inside (nothing_wrong keys a (g.count a) right)))
        by_entry (Some e) is right adds = by_case (cases_tagged (message_of a (g.count a) e.line.0) old.events)
            (s.at_hand e at.0)
          where
            at : Has e now.hand × (e.address.0 ≡ a)
            at = held_has now.hand (record { 0 = a }) e is

            by_case : Has (Tagged (message_of a (g.count a) e.line.0)) old.events
                ⊎ (Has (Tagged (message_of a (g.count a) e.line.0)) old.events → ⊥) → Known keys old g.count e
                → Forgery keys new ⊎ (e.line.0 ≡ line_at keys.shape g a)
            by_case (inl tagged) known = inr (s.last (message_of a (g.count a) e.line.0) tagged refl)
            by_case (inr never) (inr k) = absurd (never
                (subst (λ x. Has (Tagged (message_of x (g.count x) e.line.0)) old.events) at.1 k.tagged))
            by_case (inr never) (inl o) = inl (record {
              earlier = old.events;
              later = [];
              message = message_of a (g.count a) e.line.0;
              found = e.tag;
              accepted = adds.events_are;
              never = never;
              point = drawn;
              valid = valid_tag keys a (g.count a) e right;
              reply = o.0;
              altered = subst (λ (l : List Altered). Has o.0 l) (sym adds.altered_are)
                  (has_left o.0 old.altered [] o.1);
              before = w.past o.0 o.1;
              stood = (o.2.0, o.2.1, o.2.2 ∙ at.1, o.2.3, o.2.4);
            })

    pub take_keeps : Forgery keys new
        ⊎ (Sound keys new (taken g a c) (record now { hand = without now.hand (record { 0 = a }) })
        × (line_found found ≡ line_at keys.shape g a))
    take_keeps = elim take_line [ inl f ↦ inl f | inr same ↦ inr (take_sound, same) ]

  pub take_always : (old new : LogLists) (now : Contents) (a : ℕ) (c : Counter) (found : Option Entry)
      → IsFound keys old new now.hand a c found → Always keys old now
      → Always keys new (record now { hand = without now.hand (record { 0 = a }) })
  take_always old new now a c found f s =
      always_adds keys old new (accepted a c found) now (without now.hand (record { 0 = a })) f.adds
      (AreApart-without now.hand (record { 0 = a }) s.apart)
      (without_of_shape keys.shape now.hand (record { 0 = a }) s.of_shape)
      (λ e h. came_more keys old new (accepted a c found) [] e f.adds
      (s.hand_came e (without-left now.hand (record { 0 = a }) e s.apart h).0)) s
