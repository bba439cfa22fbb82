-- A log of one slot, in which the root's reply was altered: an entry stands there in the first slot.
use Rattle.std.proofs.Common.{◌≡◌, ◌≤◌, ◌^◌, ◌==◌, ◌⊎◌, inl, inr, ℕ, zero, suc, Bool, true, false}
use Rattle.std.proofs.Common.{if◌then◌else◌, List, [], ◌∷◌, ◌++◌, All, Option, None, Some, Result, Ok, Err}
use Rattle.std.proofs.Common.{bytes_eq, is_some, refl, sym, ◌∙◌, ap, subst, arith}
use Rattle.std.proofs.lemmas.Bool.Decides.{eqb_tells}
use Rattle.std.proofs.lemmas.Slice.Eq.{bytes_eq-Decides}
use Rattle.asc_base.specs.Has.{Has}
use Rattle.asc_base.specs.TreeShape.{bucket_of}
use Rattle.asc_base.specs.declared.block.Counter.{Counter}
use Rattle.asc_base.specs.declared.block.Entry.{Entry}
use Rattle.asc_base.specs.declared.block.Message.{Message}
use Rattle.asc_base.specs.declared.block.Point.{Point}
use Rattle.asc_base.specs.declared.stop.Evidence.{Evidence}
use Rattle.asc_base.specs.declared.stop.Evidence.TheVariants.{BadTag, Doubled, OffPath, Unexpected}
use Rattle.asc_base.proofs.ShapeFacts.{IsLayered}
use Rattle.asc_base.proofs.ShapeFacts.{shape_layered}
use Rattle.std.proofs.Math.Pow.{pow_mono}
use Rattle.bucket_codec.specs.Bucket.{opened}
use Rattle.bucket_codec.specs.Slot.{IsEntry, IsSlot, IsInRange}
use Rattle.bucket_codec.proofs.Buckets.{opened_bucket}
use Rattle.bus_watch.specs.declared.log.Altered.{Altered}
use Rattle.bus_watch.specs.declared.log.Event.TheVariants.{Accepted}
use Rattle.oram_contents.specs.Contents.{IsReadTo}
use Rattle.oram_contents.specs.Entries.{Keys, real, message_of}
use Rattle.oram_contents.specs.PathRead.{then_join, join_entry, join_slots}
use Rattle.oram_contents.specs.Starts.{first_contents}
use Rattle.oram_contents.specs.Verdict.{is_first, judged, put_events}
use Rattle.oram_stash.specs.Entries.{held}
use Rattle.pmmac_tags.specs.Tag.{tag as tag_of}
use Rattle.log_replay.specs.Order.{Nothing, SlotNotes, accepted_events, chosen_events, behind_events, IsTaken}
use Rattle.log_replay.specs.Order.{IsDone, IsBare, LogOrder}
use Rattle.log_replay.specs.Rows.{found_entry, found_reply, found_log, CanStand}
use Rattle.log_replay.proofs.FirstReads.{read_altered}
use Rattle.log_replay.proofs.Orders.{later_events}
use Rattle.log_replay.proofs.SlotSplits.{first_slot, none_held}

pub same_number : (n : ℕ) → (n == n) ≡ true
same_number n = elim (eqb_tells n n) [ inl same ↦ same.0 | inr other ↦ absurd (other.1 refl) ]

module _ (keys : Keys) (a : ℕ) (c : Counter) (l tag : List ℕ) (can : CanStand keys a l tag) where
  range : IsInRange keys.shape (Some (found_entry keys a c l tag))
  range = (can.inside, can.lawful.leaves (real a c))

  is : IsEntry (found_entry keys a c l tag)
  is =
      let layered : IsLayered keys.shape = shape_layered keys.shape can.lawful.shape in record {
        address = omega (arith, can.inside, layered.total_to);
        leaf = omega (arith, can.lawful.leaves (real a c), few keys.shape.levels layered.levels_to);
        line = can.line;
        tag = can.tagged;
      }
    where
      few : (n : ℕ) → n ≤ 17 → 2 ^ n ≤ 2 ^ 17
      few n less = pow_mono {i = n} {j = 17} less

  pub opens : opened keys.pads keys.shape (found_reply keys a c l tag).bytes
      ≡ Ok (Some (found_entry keys a c l tag) ∷ None ∷ None ∷ None ∷ [])
  opens = opened_bucket keys.pads keys.shape 1 (Some (found_entry keys a c l tag) ∷ None ∷ None ∷ None ∷ [])
      (omega arith) (omega arith) (record { four = refl; each = each_slot }) each_range
    where
      each_slot : All IsSlot (Some (found_entry keys a c l tag) ∷ None ∷ None ∷ None ∷ [])
      each_slot zero d less = is
      each_slot (suc zero) d less = tt
      each_slot (suc (suc zero)) d less = tt
      each_slot (suc (suc (suc zero))) d less = tt
      each_slot (suc (suc (suc (suc k)))) d less = absurd (omega arith)

      each_range : All (IsInRange keys.shape) (Some (found_entry keys a c l tag) ∷ None ∷ None ∷ None ∷ [])
      each_range zero d less = range
      each_range (suc zero) d less = tt
      each_range (suc (suc zero)) d less = tt
      each_range (suc (suc (suc zero))) d less = tt
      each_range (suc (suc (suc (suc k)))) d less = absurd (omega arith)

  pub joins_it : join_entry keys.shape.levels (keys.leaf_of (real a c)) 0 0 (found_entry keys a c l tag) []
      ≡ Ok (found_entry keys a c l tag ∷ [])
  joins_it =
      ap (λ (b : Bool). if b then (if is_some (held [] (record { 0 = a })) then Err (Doubled (record { 0 = a }))
      else Ok (found_entry keys a c l tag ∷ []))
      else Err (OffPath (bucket_of keys.shape.levels (keys.leaf_of (real a c)) 0) 0))
      (same_number (bucket_of keys.shape.levels (keys.leaf_of (real a c)) 0))
      ∙ ap (λ o. if is_some o then Err (Doubled (record { 0 = a })) else Ok (found_entry keys a c l tag ∷ []))
      (none_held keys a)

  pub read_found : IsReadTo keys.pads keys.shape 256 (keys.leaf_of (real a c)) (found_reply keys a c l tag ∷ [])
      (first_contents keys) (found_entry keys a c l tag ∷ [])
  read_found =
      read_altered keys (keys.leaf_of (real a c)) (found_reply keys a c l tag) refl
      (Some (found_entry keys a c l tag) ∷ None ∷ None ∷ None ∷ []) (found_entry keys a c l tag ∷ []) opens
      (ap (λ r. then_join r (join_slots keys.shape.levels (keys.leaf_of (real a c)) 0 1
      (None ∷ None ∷ None ∷ []))) joins_it)

  pub held_found : held (found_entry keys a c l tag ∷ []) (record { 0 = a }) ≡ Some (found_entry keys a c l tag)
  unfolding held
  held_found = ap (λ (b : Bool). if b then Some (found_entry keys a c l tag) else None) (same_number a)

  -- with its valid tag the entry is accepted
  pub found : is_first c ≡ false → tag ≡ tag_of keys.tags (message_of a c l)
      → LogOrder keys (found_log keys a c l tag (message_of a c l) tag)
  found later valid = record {
    slots = record {
      start = 256;
      asked = Some 0;
      point = real a c;
      found = Some (found_entry keys a c l tag);
      put = None;
      chosen = None;
      behind = Nothing;
    } ∷ [];
    events = refl;
    order = (
      (0, refl),
      inl (record {
        joined = found_entry keys a c l tag ∷ [];
        read = read_found;
        taken = (held_found, right, tt);
        put = tt;
      }),
      tt,
    );
    noted = in_slot;
  }
    where
      in_slot : (reply : Altered) → Has reply (found_reply keys a c l tag ∷ [])
          → (reply.before ≡ 2) ⊎ ⊥
      in_slot reply (inl is) = inl (ap (λ (r : Altered). r.before) is)
      in_slot reply (inr none) = absurd none

      same_tag : bytes_eq tag (tag_of keys.tags (message_of a c l)) ≡ true
      same_tag = (bytes_eq-Decides tag (tag_of keys.tags (message_of a c l))).1 valid

      right : judged keys a c (Some (found_entry keys a c l tag)) ≡ None
      right = ap (λ (b : Bool). if b then Some (Unexpected (record { 0 = a }))
          else (if bytes_eq tag (tag_of keys.tags (message_of a c l)) then None
          else Some (BadTag (message_of a c l) tag (tag_of keys.tags (message_of a c l))))) later
          ∙ ap (λ (b : Bool). if b then None
          else Some (BadTag (message_of a c l) tag (tag_of keys.tags (message_of a c l)))) same_tag

  -- it is right only so
  only_valid : judged keys a c (Some (found_entry keys a c l tag)) ≡ None
      → (is_first c ≡ false) × (tag ≡ tag_of keys.tags (message_of a c l))
  only_valid right = by_tests (is_first c) (bytes_eq tag (tag_of keys.tags (message_of a c l))) refl refl right
    where
      by_tests : (b d : Bool) → is_first c ≡ b → bytes_eq tag (tag_of keys.tags (message_of a c l)) ≡ d
          → (if b then Some (Unexpected (record { 0 = a }))
          else (if d then None else Some (BadTag (message_of a c l) tag (tag_of keys.tags (message_of a c l))))) ≡ None
          → (is_first c ≡ false) × (tag ≡ tag_of keys.tags (message_of a c l))
      by_tests true d first same right = absurd cc
      by_tests false false first same right = absurd cc
      by_tests false true first same right =
          (first, (bytes_eq-Decides tag (tag_of keys.tags (message_of a c l))).0 same)

  -- What such a log in order accepts is what stood in the reply, and it is right.
  accepts : (m : Message) (u : List ℕ) → LogOrder keys (found_log keys a c l tag m u)
      → (m ≡ message_of a c l) × (u ≡ tag) × (is_first c ≡ false) × (tag ≡ tag_of keys.tags (message_of a c l))
  accepts m u o =
      let x = first_slot keys (found_log keys a c l tag m u) 256 (Some 0) (real a c)
      (record { 0 = keys.leaf_of (real a c) }) (Accepted m u ∷ []) [] (tt, tt) tt o refl in
      elim x.done [
        | inl d ↦ by_done x.s x.start_is x.point_is x.tail_is d
        | inr b ↦ absurd (by_bare x.s x.point_is x.tail_is b.0)
      ]
    where
      tail_of : (s : SlotNotes) (found : Option Entry) → s.point ≡ real a c → s.found ≡ found
          → later_events s ≡ Accepted m u ∷ []
          → accepted_events (real a c) found ++ (put_events s.put ++ (chosen_events s.chosen
          ++ behind_events s.behind)) ≡ Accepted m u ∷ []
      tail_of s found point is tail =
          subst (λ (q : Point). accepted_events q found ++ (put_events s.put ++ (chosen_events s.chosen
          ++ behind_events s.behind)) ≡ Accepted m u ∷ []) point
          (subst (λ f. accepted_events s.point f ++ (put_events s.put ++ (chosen_events s.chosen
          ++ behind_events s.behind)) ≡ Accepted m u ∷ []) is tail)

      by_bare : (s : SlotNotes) → s.point ≡ real a c → later_events s ≡ Accepted m u ∷ [] → IsBare s → ⊥
      by_bare s point tail b =
          let none : put_events s.put ++ (chosen_events s.chosen ++ behind_events s.behind) ≡ [] =
          rw b.put rw b.chosen rw b.behind refl in
          let some = tail_of s None point b.found tail in
          let bad : Accepted m u ∷ [] ≡ [] = sym some ∙ none in cc

      by_done : (s : SlotNotes) → s.start ≡ 256 → s.point ≡ real a c → later_events s ≡ Accepted m u ∷ []
          → IsDone keys (found_log keys a c l tag m u) [] s
          → (m ≡ message_of a c l) × (u ≡ tag) × (is_first c ≡ false) × (tag ≡ tag_of keys.tags (message_of a c l))
      by_done s start point tail d =
          let read : IsReadTo keys.pads keys.shape 256 (keys.leaf_of (real a c)) (found_reply keys a c l tag ∷ [])
          (first_contents keys) d.joined =
          subst (λ n. IsReadTo keys.pads keys.shape n (keys.leaf_of (real a c)) (found_reply keys a c l tag ∷ [])
          (first_contents keys) d.joined) start
          (subst (λ (q : Point). IsReadTo keys.pads keys.shape s.start (keys.leaf_of q)
          (found_reply keys a c l tag ∷ []) (first_contents keys) d.joined) point d.read) in
          let joined = same_hand d.joined (sym read ∙ read_found) in
          let taken = subst (λ (q : Point). IsTaken keys d.joined q s) point d.taken in
          let is_found : s.found ≡ Some (found_entry keys a c l tag) =
          sym taken.0 ∙ ap (λ hand. held hand (record { 0 = a })) joined ∙ held_found in
          let events = tail_of s (Some (found_entry keys a c l tag)) point is_found tail in
          let message : m ≡ message_of a c l = cc in
          let same : u ≡ tag = cc in
          let right = only_valid (subst (λ f. judged keys a c f ≡ None) is_found taken.1) in
          (message, same, right.0, right.1)
        where
          same_hand : (hand : List Entry) → (let left : Result (List Entry) Evidence = Ok hand in
              left ≡ Ok (found_entry keys a c l tag ∷ [])) → hand ≡ found_entry keys a c l tag ∷ []
          same_hand hand is = cc

  pub other_tag : (tag ≡ tag_of keys.tags (message_of a c l) → ⊥)
      → LogOrder keys (found_log keys a c l tag (message_of a c l) tag) → ⊥
  other_tag other o = other (accepts (message_of a c l) tag o).3

  pub other_message : (m : Message) (u : List ℕ) → (m ≡ message_of a c l → ⊥)
      → LogOrder keys (found_log keys a c l tag m u) → ⊥
  other_message m u other o = other (accepts m u o).0

  pub other_found : (m : Message) (u : List ℕ) → (u ≡ tag → ⊥) → LogOrder keys (found_log keys a c l tag m u) → ⊥
  other_found m u other o = other (accepts m u o).1

  pub unexpected : (m : Message) (u : List ℕ) → is_first c ≡ true
      → LogOrder keys (found_log keys a c l tag m u) → ⊥
  unexpected m u first o = let later = (accepts m u o).2 in cc
