-- A line is put at hand under its block's counter: the block is no longer in flight.
use Rattle.std.proofs.Common.{◌≡◌, ◌<◌, ◌⊎◌, inl, inr, ℕ, List, [], ◌∷◌, ◌++◌, None, Some, refl, sym, ◌∙◌, ap, subst}
use Rattle.std.proofs.Common.{arith, ◌≤◌, ◌^◌, length}
use Rattle.std.proofs.lemmas.Bool.{cases_eq}
use Rattle.std.proofs.Math.Pow.{pow_mono}
use Rattle.asc_base.specs.declared.block.Counter.{Counter}
use Rattle.asc_base.specs.declared.block.Entry.{Entry}
use Rattle.asc_base.specs.declared.block.Message.{Message}
use Rattle.asc_base.specs.declared.block.Point.TheVariants.{Dummy}
use Rattle.bus_watch.specs.Log.{LogLists}
use Rattle.bus_watch.specs.declared.log.Event.{Event}
use Rattle.bus_watch.specs.declared.log.Event.TheVariants.{Drawn, Tagged}
use Rattle.posmap_counters.specs.Counters.{IsBefore, IsNotAfter, first_counter}
use Rattle.posmap_counters.proofs.Order.{before_irreflexive}
use Rattle.oram_contents.specs.Contents.{Contents}
use Rattle.oram_contents.specs.Entries.{Keys, AreKeys, real, message_of, entry_of}
use Rattle.asc_base.specs.Has.{Has}
use Rattle.oram_contents.specs.Counts.{Ghost, line_at, zero_line, IsAway, line_by}
use Rattle.oram_contents.specs.Provenance.{Came, Genuine, Untagged, AtMostOnce, Sound, Always}
use Rattle.oram_contents.specs.Steps.{Adds, landed, stored}
use Rattle.asc_base.proofs.Members.{has_last, has_new}
use Rattle.asc_base.specs.TreeShape.{children_of}
use Rattle.asc_base.proofs.ShapeFacts.{IsLayered, shape_layered}
use Rattle.bucket_codec.specs.Slot.{IsEntry}
use Rattle.oram_stash.specs.Entries.{held}
use Rattle.pmmac_tags.proofs.Tags.{length-tag}
use Rattle.oram_contents.specs.Slots.{IsPut}
use Rattle.oram_stash.proofs.Apart.{AreApart-append}
use Rattle.oram_stash.proofs.Held.{held-no_one}
use Rattle.oram_contents.specs.Fold.{whole}
use Rattle.oram_contents.proofs.Among.{tagged_same, once_append}
use Rattle.oram_contents.proofs.Lines.{put_other}
use Rattle.oram_contents.proofs.OfShape.{put_of_shape}
use Rattle.oram_contents.proofs.GrowSteps.{came_more, known_more, always_adds}

module _ (keys : Keys) where
  -- A line is put at hand under its block's counter, under which nothing was tagged: the block is no longer in flight.
  module _ (log new : LogLists) (g : Ghost) (now : Contents) (a : ℕ) (l : List ℕ) (flying : g.flight ≡ Some a)
      (unheld : Has a g.held → ⊥)
      (stored : l ≡ line_at keys.shape g a) (adds : Adds log new (Tagged (message_of a (g.count a) l) ∷ []) [])
      (s : Sound keys log g now) where
    abbrev message : Message
    message = message_of a (g.count a) l

    flew : (a < keys.shape.total) × IsBefore first_counter (g.count a) × Untagged log.events a (g.count a)
    flew = s.away a (inr flying)

    old_or_new : (m : Message) → Has (Tagged m) new.events → Has (Tagged m) log.events ⊎ (m ≡ message)
    old_or_new m h = elim (has_last (Tagged m) (Tagged message) log.events
        (subst (λ (x : List Event). Has (Tagged m) x) adds.events_are h))
        [ inl o ↦ inl o | inr e ↦ inr (tagged_same m message e) ]

    fresh_of : (m : Message) → Has (Tagged m) log.events ⊎ (m ≡ message)
        → (m.address.0 < keys.shape.total) × IsBefore first_counter m.counter
        × IsNotAfter m.counter (g.count m.address.0)
    fresh_of m (inl h) = s.fresh m h
    fresh_of m (inr is) = subst (λ (x : Message). (x.address.0 < keys.shape.total) × IsBefore first_counter x.counter
        × IsNotAfter x.counter (g.count x.address.0)) (sym is) (flew.0, flew.1, inl refl)

    last_new : (m : Message) → Has (Tagged m) log.events ⊎ (m ≡ message) → m.counter ≡ g.count m.address.0
        → m.line.0 ≡ line_at keys.shape g m.address.0
    last_new m (inl h) is = s.last m h is
    last_new m (inr same) is = subst (λ (x : Message). x.line.0 ≡ line_at keys.shape g x.address.0) (sym same) stored

    same_events : (e : Event) → ((m : Message) → e ≡ Tagged m → ⊥) → Has e new.events → Has e log.events
    same_events e other h = elim (has_last e (Tagged message) log.events
        (subst (λ (x : List Event). Has e x) adds.events_are h)) [ inl o ↦ o | inr is ↦ absurd (other message is) ]

    crossed : (m n : Message) → Has (Tagged m) log.events → Has (Tagged n) (Tagged message ∷ [])
        → n.address.0 ≡ m.address.0 → n.counter ≡ m.counter → ⊥
    crossed m n h (inr none) same_a same_c = none
    crossed m n h (inl e) same_a same_c =
        let is = tagged_same n message e in
        flew.2 m h (sym same_a ∙ ap (λ (x : Message). x.address.0) is) (sym same_c ∙ ap (λ (x : Message). x.counter) is)

    genuine_new : (e : Entry) → e ≡ entry_of keys a (g.count a) l → Genuine keys new g.count e
    genuine_new e is = subst (λ x. Genuine keys new g.count x) (sym is) (record {
      tagged = subst (λ (x : List Event). Has (Tagged message) x) (sym adds.events_are)
          (has_new (Tagged message) log.events);
      tag_is = refl;
      leaf = refl;
    })

    away_still : (b : ℕ) → Has b g.held → (b < keys.shape.total) × IsBefore first_counter (g.count b)
        × Untagged new.events b (g.count b)
    away_still b held =
        let old = s.away b (inl held) in (
          old.0,
          old.1,
          λ m h at counted. elim (old_or_new m h) [
            | inl o ↦ old.2 m o at counted
            | inr is ↦ unheld (subst (λ x. Has x g.held) (sym at ∙ ap (λ (x : Message). x.address.0) is) held)
          ],
        )

    no_flight : {b : ℕ} → None ≡ Some b → ⊥
    no_flight e = cc

    pub sound_put : Sound keys new (landed g) (record now { hand = now.hand ++ entry_of keys a (g.count a) l ∷ [] })
    sound_put = record {
      fresh = λ m h. fresh_of m (old_or_new m h);
      last = λ m h is. last_new m (old_or_new m h) is;
      once = subst AtMostOnce (sym adds.events_are) (once_append log.events (Tagged message ∷ []) s.once
          (λ m is n h. absurd h, tt) crossed);
      blank = s.blank;
      drawn = λ b x leaf h. s.drawn b x leaf (same_events (Drawn (real b x) leaf) (λ m e. cc) h);
      dummies = λ n leaf h. s.dummies n leaf (same_events (Drawn (Dummy n) leaf) (λ m e. cc) h);
      away = λ b is. elim is [ inl held ↦ away_still b held | inr none ↦ absurd (no_flight none) ];
      at_hand = λ e h. elim (has_last e (entry_of keys a (g.count a) l) now.hand h) [
        | inl old ↦ known_more keys log new (Tagged message ∷ []) [] g.count e adds (s.at_hand e old)
        | inr is ↦ inr (genuine_new e is)
      ];
      in_tree = λ b e off h. known_more keys log new (Tagged message ∷ []) [] g.count e adds (s.in_tree b e off h);
    }

  -- a line of a block becomes an entry of its types
  pub entry_typed : AreKeys keys → (a : ℕ) (c : Counter) (l : List ℕ) → a < keys.shape.total → length l ≡ 64
      → IsEntry (entry_of keys a c l)
  entry_typed lawful a c l inside whole =
      let layered : IsLayered keys.shape = shape_layered keys.shape lawful.shape in
      record {
        address = omega (arith, inside, layered.total_to);
        leaf = omega
            (arith, lawful.leaves (real a c), few keys.shape.levels layered.levels_to);
        line = whole;
        tag =
            length-tag keys.tags (message_of a c l);
      }
    where
      few : (n : ℕ) → n ≤ 17 → 2 ^ n ≤ 2 ^ 17
      few n less = pow_mono {i = n} {j = 17} less

  pub put_always : (lawful : AreKeys keys) (old new : LogLists) (now after : Contents) (a : ℕ) (c : Counter)
      (l : List ℕ) → a < keys.shape.total → length l ≡ 64
      → ((e : Entry) → Has e now.hand → e.address.0 ≡ a → ⊥) → IsPut keys old new now after a c l → Always keys old now
      → Always keys new after
  put_always lawful old new now after a c l inside whole other put s =
      subst (λ x. Always keys new x) (sym put.after_is)
      (always_adds keys old new (Tagged (message_of a c l) ∷ []) now (now.hand ++ entry_of keys a c l ∷ []) put.adds
      (AreApart-append now.hand (entry_of keys a c l) s.apart (held-no_one now.hand (record { 0 = a }) other))
      (put_of_shape keys.shape now.hand (now.hand ++ entry_of keys a c l ∷ []) (entry_of keys a c l) refl
      (entry_typed lawful a c l inside whole)
      (inside, lawful.leaves (real a c)) s.of_shape)
      came s)
    where
      came : (e : Entry) → Has e (now.hand ++ entry_of keys a c l ∷ []) → Came keys new e
      came e h = elim (has_last e (entry_of keys a c l) now.hand h) [
        | inl old_one ↦ came_more keys old new (Tagged (message_of a c l) ∷ []) [] e put.adds (s.hand_came e old_one)
        | inr is ↦ subst (λ x. Came keys new x) (sym is)
            (inr (
              message_of a c l,
              subst (λ (x : List Event). Has (Tagged (message_of a c l)) x)
                  (sym put.adds.events_are) (has_new (Tagged (message_of a c l)) old.events),
              refl,
              refl,
              refl,
            ))
      ]

  -- a line is put at hand under its block's counter
  pub put_sound : (old new : LogLists) (g : Ghost) (now after : Contents) (a : ℕ) (l : List ℕ) → g.flight ≡ Some a
      → (Has a g.held → ⊥) → l ≡ line_at keys.shape g a
      → IsPut keys old new now after a (g.count a) l → Sound keys old g now → Sound keys new (landed g) after
  put_sound old new g now after a l flying unheld is put s =
      subst (λ x. Sound keys new (landed g) x) (sym put.after_is)
      (sound_put old new g now a l flying unheld is put.adds s)

  -- a line is stored, while its block is in flight
  pub store_sound : (log : LogLists) (g : Ghost) (now : Contents) (a : ℕ) (l : List ℕ) → IsAway g a
      → Sound keys log g now → Sound keys log (stored g a l) now
  store_sound log g now a l away s = record {
    fresh = s.fresh;
    last = λ m h is. last_of m h is (cases_eq m.address.0 a);
    once = s.once;
    blank = λ b inside none. blank_of b inside none (cases_eq b a);
    drawn = s.drawn;
    dummies = s.dummies;
    away = s.away;
    at_hand = s.at_hand;
    in_tree = s.in_tree;
  }
    where
      other_line : (b : ℕ) → (b ≡ a → ⊥) → line_at keys.shape (stored g a l) b ≡ line_at keys.shape g b
      other_line b other = ap (λ bytes. line_by g.count bytes (children_of keys.shape.lines keys.shape.layers b))
          (put_other g.data_lines a l b other)

      last_of : (m : Message) → Has (Tagged m) log.events → m.counter ≡ g.count m.address.0
          → (m.address.0 ≡ a) ⊎ (m.address.0 ≡ a → ⊥) → m.line.0 ≡ line_at keys.shape (stored g a l) m.address.0
      last_of m h is (inl at) = absurd ((s.away a away).2 m h at (is ∙ ap g.count at))
      last_of m h is (inr other) = s.last m h is ∙ sym (other_line m.address.0 other)

      blank_of : (b : ℕ) → b < keys.shape.total → g.count b ≡ first_counter → (b ≡ a) ⊎ (b ≡ a → ⊥)
          → line_at keys.shape (stored g a l) b ≡ zero_line
      blank_of b inside none (inl at) = absurd (before_irreflexive first_counter
          (subst (IsBefore first_counter) (ap g.count (sym at) ∙ none) (s.away a away).1))
      blank_of b inside none (inr other) = other_line b other ∙ s.blank b inside none

  -- a line is stored and put at hand
  pub put_back_sound : (old new : LogLists) (g : Ghost) (now after : Contents) (a : ℕ) (l : List ℕ)
      → g.flight ≡ Some a → (Has a g.held → ⊥) → l ≡ line_at keys.shape (stored g a l) a
      → IsPut keys old new now after a (g.count a) l → Sound keys old g now
      → Sound keys new (landed (stored g a l)) after
  put_back_sound old new g now after a l flying unheld is put s =
      put_sound old new (stored g a l) now after a l flying unheld is put
      (store_sound old g now a l (inr flying) s)
