-- A path is read: the slot's start and its point are noted, and its entries join the hand.
use Rattle.std.proofs.Common.{◌≡◌, ◌<◌, ◌⊎◌, inl, inr, ℕ, List, Option, None, Some, refl, sym, ◌∙◌, ap, subst, arith}
use Rattle.std.proofs.Common.{◌≤◌, ◌+◌, length, map, All, length-append}
use Rattle.asc_base.specs.declared.block.Counter.{Counter}
use Rattle.asc_base.specs.declared.block.Entry.{Entry}
use Rattle.asc_base.specs.declared.block.Leaf.{Leaf}
use Rattle.asc_base.specs.declared.block.Point.TheVariants.{Dummy, Real}
use Rattle.bus_watch.specs.Log.{LogLists}
use Rattle.bus_watch.specs.declared.log.Altered.{Altered}
use Rattle.bus_watch.specs.declared.log.Event.TheVariants.{Drawn}
use Rattle.oram_contents.specs.Contents.{Contents}
use Rattle.oram_contents.specs.Entries.{Keys, real, entries_at}
use Rattle.asc_base.specs.Has.{Has}
use Rattle.oram_contents.specs.Counts.{Ghost}
use Rattle.oram_contents.specs.Provenance.{FromOutside, OffOpen, Sound, Always}
use Rattle.oram_contents.specs.Steps.{Adds, next_dummy, opened_at, closed}
use Rattle.asc_base.proofs.Members.{has_split, has_right, all_has}
use Rattle.asc_base.specs.declared.block.Point.{Point}
use Rattle.bucket_codec.specs.Bucket.{opened}
use Rattle.oram_contents.specs.PathRead.{replies}
use Rattle.oram_contents.specs.Slots.{drawn_events, MayDraw, IsRead}
use Rattle.oram_contents.proofs.Joined.{joined_from, buckets-apart}
use Rattle.oram_contents.proofs.GrowSteps.{came_more, sound_log, AreUntagged, IsPast}

module _ (keys : Keys) where
  -- a path is read: each entry that joins stands in a bucket or came by an altered reply
  pub sound_read : (log : LogLists) (g : Ghost) (now : Contents) (joined : List Entry) (leaf : ℕ) → g.path ≡ None
      → ((e : Entry) → Has e joined → Has e now.hand ⊎
      (FromOutside keys log e ⊎ ((bucket : ℕ) × Has e (entries_at keys now.mirror bucket))))
      → Sound keys log g now → Sound keys log (record g { path = Some leaf }) (record now { hand = joined })
  sound_read log g now joined leaf closed from s = record {
    fresh = s.fresh;
    last = s.last;
    once = s.once;
    blank = s.blank;
    drawn = s.drawn;
    dummies = s.dummies;
    away = s.away;
    at_hand = λ e h. elim (from e h) [
      | inl l ↦ s.at_hand e l
      | inr r ↦ elim r
          [ inl o ↦ inl o | inr b ↦ s.in_tree b.0 e (off b.0) b.1 ]
    ];
    in_tree = λ b e no h. s.in_tree b e (off b) h;
  }
    where
      off : (b : ℕ) → OffOpen keys.shape.levels g.path b
      off b = subst (λ p. OffOpen keys.shape.levels p b) (sym closed) tt

  sound_dummies : (log : LogLists) (g : Ghost) (now : Contents) (n : ℕ) → g.dummies ≤ n → Sound keys log g now
      → Sound keys log (record g { dummies = n }) now
  sound_dummies log g now n more s = record {
    fresh = s.fresh;
    last = s.last;
    once = s.once;
    blank = s.blank;
    drawn = s.drawn;
    dummies = λ k x h. omega (arith, s.dummies k x h);
    away = s.away;
    at_hand = s.at_hand;
    in_tree = s.in_tree;
  }

  -- a slot's start and its point are noted, and altered replies after them
  module _ (old new : LogLists) (now : Contents) (start : ℕ) (asked : Option ℕ) (p : Point) (altered : List Altered)
      (adds : Adds old new (drawn_events keys start asked p) altered) where
    none_tagged : AreUntagged (drawn_events keys start asked p)
    none_tagged m (inl e) = cc
    none_tagged m (inr (inl e)) = cc
    none_tagged m (inr (inr h)) = h

    point_of : (q : Point) (x : Leaf) → Has (Drawn q x) (drawn_events keys start asked p) → q ≡ p
    point_of q x (inl e) = cc
    point_of q x (inr (inl e)) = cc
    point_of q x (inr (inr h)) = absurd h

    drawn_sound : (g : Ghost) → MayDraw g p → Sound keys old g now
        → Sound keys new (record g { dummies = next_dummy g.dummies p }) now
    drawn_sound g may s =
        sound_log keys old new (drawn_events keys start asked p) altered
        (record g { dummies = next_dummy g.dummies p }) now adds none_tagged past fewer
        (sound_dummies old g now (next_dummy g.dummies p) (more p may) s)
      where
        more : (q : Point) → MayDraw g q → g.dummies ≤ next_dummy g.dummies q
        more (Real a c) is = omega arith
        more (Dummy n) is = omega (arith, is)

        past_of : (q : Point) → MayDraw g q → (a : ℕ) (c : Counter) → real a c ≡ q → IsPast g a c
        past_of (Real b d) is a c same =
            let here : a ≡ b.0 = cc in
            let there : c ≡ d = cc in
            inr (is.0 ∙ ap Some (sym here), there ∙ is.1 ∙ ap g.count (sym here))
        past_of (Dummy n) is a c same = absurd (let bad : real a c ≡ Dummy n = same in cc)

        past : (a : ℕ) (c : Counter) (x : Leaf) → Has (Drawn (real a c) x) (drawn_events keys start asked p)
            → IsPast g a c
        past a c x h = past_of p may a c (point_of (real a c) x h)

        fewer_of : (q : Point) → MayDraw g q → (n : ℕ) → Dummy n ≡ q → n < next_dummy g.dummies q
        fewer_of (Real b d) is n same = absurd (let bad : Dummy n ≡ Real b d = same in cc)
        fewer_of (Dummy m) is n same = let here : n ≡ m = cc in omega arith

        fewer : (n : ℕ) (x : Leaf) → Has (Drawn (Dummy n) x) (drawn_events keys start asked p)
            → n < next_dummy g.dummies p
        fewer n x h = fewer_of p may n (point_of (Dummy n) x h)

    pub drawn_always : All (λ (reply : Altered). reply.before ≡ length old.events + 2) altered → Always keys old now
        → Always keys new now
    drawn_always noted s = record {
      placed = s.placed;
      apart = s.apart;
      of_shape = s.of_shape;
      hand_came = λ e h. came_more keys old new (drawn_events keys start asked p) altered e adds (s.hand_came e h);
      tree_came = λ b e h. came_more keys old new (drawn_events keys start asked p) altered e adds
          (s.tree_came b e h);
      past = λ reply h. elim (has_split reply old.altered altered
          (subst (λ (l : List Altered). Has reply l) adds.altered_are h)) [
            | inl o ↦ omega (
              arith,
              s.past reply o,
              ap length adds.events_are,
              length-append old.events
                  (drawn_events keys start asked p),
            )
            | inr n ↦ (let at : reply.before ≡ length old.events + 2 = all_has
                (λ (x : Altered). x.before ≡ length old.events + 2) reply altered noted n in omega
                (arith, at, ap length adds.events_are, length-append old.events (drawn_events keys start asked p)))
          ];
      mirrored = s.mirrored;
      seeds = s.seeds;
    }

    -- the reads of a slot stop, and nothing joined the hand
    pub begun_sound : (g : Ghost) → g.path ≡ None → MayDraw g p → Sound keys old g now
        → Sound keys new (opened_at g p (keys.leaf_of p)) now
    begun_sound g shut may s =
        sound_read new (record g { dummies = next_dummy g.dummies p }) now now.hand (keys.leaf_of p) shut
        (λ e h. inl h) (drawn_sound g may s)

  -- a path is read
  module _ (old new : LogLists) (g : Ghost) (now : Contents) (start : ℕ) (p : Point) (joined : List Entry)
      (r : IsRead keys old new now start p joined) where
    pub read_sound : g.path ≡ None → MayDraw g p → Sound keys old g now
        → Sound keys new (opened_at g p (keys.leaf_of p)) (record now { hand = joined })
    read_sound shut may s =
        sound_read new (record g { dummies = next_dummy g.dummies p }) now joined (keys.leaf_of p) shut from
        (drawn_sound old new now start r.asked p r.altered r.adds g may s)
      where
        from : (e : Entry) → Has e joined → Has e now.hand
            ⊎ (FromOutside keys new e ⊎ ((bucket : ℕ) × Has e (entries_at keys now.mirror bucket)))
        from e h = elim (joined_from keys start (keys.leaf_of p) r.altered now joined e r.read h) [
          | inl l ↦ inl l
          | inr c ↦ elim c [
            | inl o ↦ inr (inl (
              o.0,
              subst (λ (l : List Altered). Has o.0 l) (sym r.adds.altered_are)
                  (has_right o.0 old.altered r.altered o.1),
              (e, o.2, refl, refl, refl),
            ))
            | inr b ↦ inr (inr b)
          ]
        ]

    pub read_always : Always keys old now → Always keys new (record now { hand = joined })
    read_always s =
        let w : Always keys new now = drawn_always old new now start r.asked p r.altered r.adds r.noted s in record {
          placed = w.placed;
          apart = buckets-apart keys.shape.levels (keys.leaf_of p) 0
              (map (opened keys.pads keys.shape)
              (replies keys.shape.levels start (keys.leaf_of p) now.mirror r.altered)) now.hand joined r.read s.apart;
          of_shape = r.of_shape;
          hand_came = λ e h. elim (joined_from keys start (keys.leaf_of p) r.altered now joined e r.read h) [
            | inl l ↦ w.hand_came e l
            | inr c ↦ elim c [
              | inl o ↦ inl (
                o.0,
                subst (λ (l : List Altered). Has o.0 l) (sym r.adds.altered_are)
                    (has_right o.0 old.altered r.altered o.1),
                (e, o.2, refl, refl, refl),
              )
              | inr b ↦ w.tree_came b.0 e b.1
            ]
          ];
          tree_came = w.tree_came;
          past = w.past;
          mirrored = w.mirrored;
          seeds = w.seeds;
        }
