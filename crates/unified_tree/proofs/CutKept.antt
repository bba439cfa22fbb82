-- A read that was refused and a write that broke off keep what is known of the contents.
use Rattle.std.proofs.Common.{◌≡◌, ◌<◌, ◌≤◌, ◌+◌, ◌^◌, ◌⊎◌, inl, inr, ℕ, zero, suc, Bool, true, false, if◌then◌else◌}
use Rattle.std.proofs.Common.{List, [], ◌++◌, length, map, get_or, All, Option, None, Some, Result, Ok, Err, refl, sym}
use Rattle.std.proofs.Common.{◌∙◌, ◌==◌, count_by, ap, subst, arith, append-nil, length-append}
use Rattle.std.proofs.lemmas.Bool.{cases_eq}
use Rattle.std.proofs.lemmas.Bool.Decides.{eqb_tells}
use Rattle.std.proofs.lemmas.Option.{unwrap_or-slice_get}
use Rattle.std.specs.Prelude.{unwrap_or}
use Rattle.asc_base.proofs.Members.{has_right}
use Rattle.asc_base.specs.Has.{Has}
use Rattle.asc_base.specs.TreeShape.{bucket_of}
use Rattle.asc_base.specs.declared.block.Entry.{Entry}
use Rattle.asc_base.specs.declared.block.Point.{Point}
use Rattle.asc_base.specs.declared.shape.Shape.{Shape}
use Rattle.asc_base.specs.declared.stop.Evidence.{Evidence}
use Rattle.asc_base.specs.declared.stop.Evidence.TheVariants as evidence
use Rattle.bucket_codec.specs.Bucket.{opened}
use Rattle.bus_watch.specs.Log.{LogLists, TapState}
use Rattle.bus_watch.specs.declared.log.Altered.{Altered}
use Rattle.oram_contents.specs.Contents.{Contents, IsReadTo}
use Rattle.oram_contents.specs.Counts.{Ghost}
use Rattle.oram_contents.specs.Entries.{Keys, AreKeys, entries_at, entries_in}
use Rattle.oram_contents.specs.Home.{Home, AreInForm, meets, flying, copies, tree_copies}
use Rattle.oram_contents.specs.PathRead.{replies, path_read}
use Rattle.oram_contents.specs.PathWritten.{sealed}
use Rattle.oram_contents.specs.Provenance.{FromOutside, OffOpen, Always, Sound}
use Rattle.oram_contents.specs.Shapes.{AreOfShape}
use Rattle.oram_contents.specs.Slots.{drawn_events, MayDraw}
use Rattle.oram_contents.specs.Steps.{Adds, opened_at}
use Rattle.oram_contents.specs.Verdict.{is_first}
use Rattle.oram_contents.proofs.ContentsLaws.{sealed-off}
use Rattle.oram_contents.proofs.Ends.{always_ends, sound_ends}
use Rattle.oram_contents.proofs.GrowSteps.{known_more}
use Rattle.oram_contents.proofs.Honest.{honest_read}
use Rattle.oram_contents.proofs.HomeLaws.{total_same}
use Rattle.oram_contents.proofs.ReadSteps.{drawn_always, begun_sound}
use Rattle.oram_contents.proofs.StopSteps.{part_sound, part_always}
use Rattle.oram_stash.specs.Entries.{AreApart}
use Rattle.unified_tree.specs.Joined.{path_joined}
use Rattle.unified_tree.specs.Left.{LeftByReadCut, LeftByWriteCut}
use Rattle.unified_tree.specs.Slot.{contents_of, GainsNow, WasRead}
use Rattle.unified_tree.specs.Stops.{IfRead, Says}
use Rattle.unified_tree.specs.Tree.{TreeState}
use Rattle.unified_tree.specs.declared.stop.TreeStop.{TreeStop}
use Rattle.unified_tree.specs.declared.stop.TreeStop.TheVariants.{BadSlot, OffPath, Doubled, Full, Device, NoMemory}
use Rattle.unified_tree.proofs.JoinedLaws.{joined_apart, joined_came}
use Rattle.unified_tree.proofs.Kept.{same_contents, ended, none_left, none_right}

-- a refused read has evidence, or is a stop of the bus
evidence_or_stop : (stop : TreeStop) (P Q : Type 0) → IfRead (Err stop) P (λ _. Q) → P ⊎ Q
evidence_or_stop (BadSlot bucket slot) P Q h = inl h
evidence_or_stop (OffPath bucket slot) P Q h = inl h
evidence_or_stop (Doubled address) P Q h = inl h
evidence_or_stop (Full held) P Q h = absurd h
evidence_or_stop Device P Q h = inr h
evidence_or_stop NoMemory P Q h = inr h

-- what is evidence isn't a path that was read
no_evidence : (stop : TreeStop) (verdict : Result (List Entry) Evidence) (joined hand : List Entry)
    → Says (Err stop) verdict hand → verdict ≡ Ok joined → ⊥
no_evidence (BadSlot bucket slot) verdict joined hand says is =
    let bad : Err (evidence.BadSlot bucket slot) ≡ Ok joined = sym says ∙ is in cc
no_evidence (OffPath bucket slot) verdict joined hand says is =
    let bad : Err (evidence.OffPath bucket slot) ≡ Ok joined = sym says ∙ is in cc
no_evidence (Doubled address) verdict joined hand says is =
    let bad : Err (evidence.Doubled address) ≡ Ok joined = sym says ∙ is in cc
no_evidence (Full held) verdict joined hand says is = says
no_evidence Device verdict joined hand says is = says
no_evidence NoMemory verdict joined hand says is = says

module _ (keys : Keys) (old : LogLists) (tap tap' : TapState) (tree tree' : TreeState) (start : ℕ) (asked : Option ℕ)
    (p : Point) (stop : TreeStop) (x : LeftByReadCut keys tap tap' tree tree' old start asked p stop) where
  abbrev Refused : Type 0
  Refused = WasRead tree.key tree.shape start (keys.leaf_of p) (Err stop) tap tap' tree.hand tree'.hand

  cases : Refused ⊎ (tree'.hand ≡ tree.hand)
  cases = evidence_or_stop stop Refused (tree'.hand ≡ tree.hand) x.read

  adds_of : (gains : GainsNow tap.log tap'.log) → Adds old tap'.log (drawn_events keys start asked p) gains.altered
  adds_of gains = record {
    events_are = x.silent ∙ x.drawn.events_are;
    altered_are = gains.gained
        ∙ ap (λ before. before ++ gains.altered) (x.drawn.altered_are ∙ append-nil old.altered);
  }

  noted_of : (gains : GainsNow tap.log tap'.log)
      → All (λ (reply : Altered). reply.before ≡ length old.events + 2) gains.altered
  noted_of gains = subst (λ n. All (λ (reply : Altered). reply.before ≡ n) gains.altered)
      (ap length x.drawn.events_are ∙ length-append old.events (drawn_events keys start asked p)) gains.noted

  -- what joined, by the keys
  joined_is : (r : Refused) → tree'.hand ≡ path_joined keys.pads keys.shape (keys.leaf_of p)
      (replies keys.shape.levels start (keys.leaf_of p) tap.mirror r.gains.altered) tree.hand
  joined_is r = subst (λ (s : Shape). tree'.hand ≡ path_joined keys.pads s (keys.leaf_of p)
      (replies s.levels start (keys.leaf_of p) tap.mirror r.gains.altered) tree.hand) (sym x.shape)
      (subst (λ k. tree'.hand ≡ path_joined k tree.shape (keys.leaf_of p)
      (replies tree.shape.levels start (keys.leaf_of p) tap.mirror r.gains.altered) tree.hand) (sym x.pads) r.joined)

  apart_of : Refused → AreApart tree.hand → AreApart tree'.hand
  apart_of r apart = subst AreApart (sym (joined_is r)) (joined_apart keys.shape.levels (keys.leaf_of p)
      (map (opened keys.pads keys.shape)
      (replies keys.shape.levels start (keys.leaf_of p) tap.mirror r.gains.altered)) tree.hand apart)

  came_of : Refused → (e : Entry) → Has e tree'.hand → Has e tree.hand
      ⊎ (FromOutside keys tap'.log e ⊎ ((bucket : ℕ) × Has e (entries_at keys tap.mirror bucket)))
  came_of r e h = elim (joined_came keys start (keys.leaf_of p) tap.mirror r.gains.altered tree.hand e
      (subst (Has e) (joined_is r) h)) [
        | inl l ↦ inl l
        | inr c ↦ elim c [
          | inl o ↦ inr (inl (
            o.0,
            subst (λ (l : List Altered). Has o.0 l) (sym (adds_of r.gains).altered_are)
                (has_right o.0 old.altered r.gains.altered o.1),
            (e, o.2, refl, refl, refl),
          ))
          | inr b ↦ inr (inr b)
        ]
      ]

  -- with nothing joined
  begun_always : Always keys old (contents_of tree tap) → Always keys tap'.log (contents_of tree tap)
  begun_always w = drawn_always keys old tap'.log (contents_of tree tap) start asked p x.gains.altered
      (adds_of x.gains) (noted_of x.gains) w

  after_cut : contents_of tree' tap' ≡ record (contents_of tree tap) { hand = tree'.hand }
  after_cut = same_contents refl x.mirror x.seed

  pub read_cut_keeps_always : Always keys old (contents_of tree tap)
      → Always keys tap'.log (contents_of tree' tap')
  read_cut_keeps_always w = subst (λ c. Always keys tap'.log c) (sym after_cut) (elim cases [
    | inl r ↦ joined r
    | inr same ↦ subst (λ h. Always keys tap'.log (record (contents_of tree tap) { hand = h })) (sym same)
        (begun_always w)
  ])
    where
      joined : Refused → Always keys tap'.log (record (contents_of tree tap) { hand = tree'.hand })
      joined r =
          let v = begun_always w in
          record {
            placed = v.placed;
            apart = apart_of r v.apart;
            of_shape = subst (λ (s : Shape). AreOfShape s tree'.hand) (sym x.shape) x.of_shape;
            hand_came = λ e h. elim (came_of r e h) [
              | inl l ↦ v.hand_came e l
              | inr c ↦ elim c [ inl o ↦ inl o | inr b ↦ v.tree_came b.0 e b.1 ]
            ];
            tree_came = v.tree_came;
            past = v.past;
            mirrored = v.mirrored;
            seeds = v.seeds;
          }

  pub read_cut_keeps_sound : (g : Ghost) → g.path ≡ None → MayDraw g p → Sound keys old g (contents_of tree tap)
      → Sound keys tap'.log (opened_at g p (keys.leaf_of p)) (contents_of tree' tap')
  read_cut_keeps_sound g shut may s =
      subst (λ c. Sound keys tap'.log (opened_at g p (keys.leaf_of p)) c) (sym after_cut) (elim cases [
        | inl r ↦ joined r
        | inr same ↦ subst (λ h. Sound keys tap'.log (opened_at g p (keys.leaf_of p))
            (record (contents_of tree tap) { hand = h })) (sym same) begun
      ])
    where
      begun : Sound keys tap'.log (opened_at g p (keys.leaf_of p)) (contents_of tree tap)
      begun = begun_sound keys old tap'.log (contents_of tree tap) start asked p x.gains.altered (adds_of x.gains) g
          shut may s

      joined : Refused → Sound keys tap'.log (opened_at g p (keys.leaf_of p))
          (record (contents_of tree tap) { hand = tree'.hand })
      joined r = record {
        fresh = begun.fresh;
        last = begun.last;
        once = begun.once;
        blank = begun.blank;
        drawn = begun.drawn;
        dummies = begun.dummies;
        away = begun.away;
        at_hand = λ e h. elim (came_of r e h) [
          | inl l ↦ begun.at_hand e l
          | inr c ↦ elim c [
            | inl o ↦ inl o
            | inr b ↦ known_more keys old tap'.log (drawn_events keys start asked p) x.gains.altered g.count e
                (adds_of x.gains) (s.in_tree b.0 e (subst (λ o. OffOpen keys.shape.levels o b.0) (sym shut) tt) b.1)
          ]
        ];
        in_tree = begun.in_tree;
      }

  pub read_cut_keeps_home : AreKeys keys → tap'.log.altered ≡ [] → AreInForm keys tap.mirror
      → Always keys old (contents_of tree tap) → (g : Ghost) → g.path ≡ None → Sound keys old g (contents_of tree tap)
      → Home keys g (contents_of tree tap) → Home keys g (contents_of tree' tap')
  read_cut_keeps_home lawful none forms w g shut s home =
      let same : tree'.hand ≡ tree.hand = elim cases [ inl r ↦ absurd (honest r) | inr same ↦ same ] in
      subst (λ c. Home keys g c) (sym (same_contents same x.mirror x.seed)) home
    where
      none_before : old.altered ≡ []
      none_before = none_left old.altered x.gains.altered tap'.log.altered (adds_of x.gains).altered_are none

      honest : Refused → ⊥
      honest r =
          let read = honest_read keys lawful old g (contents_of tree tap) none_before w s home start (keys.leaf_of p)
          (lawful.leaves p) shut forms in
          let gained : r.gains.altered ≡ [] =
          none_right old.altered r.gains.altered tap'.log.altered (adds_of r.gains).altered_are none in
          let by_keys : path_read keys.pads keys.shape (keys.leaf_of p)
          (replies keys.shape.levels start (keys.leaf_of p) tap.mirror r.gains.altered) tree.hand ≡ Ok read.0 =
          subst (λ (l : List Altered). IsReadTo keys.pads keys.shape start (keys.leaf_of p) l (contents_of tree tap)
          read.0) (sym gained) read.1 in
          let by_tree : path_read tree.key tree.shape (keys.leaf_of p)
          (replies tree.shape.levels start (keys.leaf_of p) tap.mirror r.gains.altered) tree.hand ≡ Ok read.0 =
          subst (λ k. IsReadTo k tree.shape start (keys.leaf_of p) r.gains.altered (contents_of tree tap) read.0) x.pads
          (subst (λ (s : Shape). IsReadTo keys.pads s start (keys.leaf_of p) r.gains.altered (contents_of tree tap)
          read.0) x.shape by_keys) in
          no_evidence stop _ read.0 tree'.hand r.says by_tree

-- a bucket of the first on a path
meets_all : (levels leaf n level b : ℕ) → level < n → b ≡ bucket_of levels leaf level → meets levels leaf n b ≡ true
meets_all levels leaf zero level b less is = absurd (omega arith)
meets_all levels leaf (suc n) level b less is = elim (eqb_tells b (bucket_of levels leaf n)) [
  | inl same ↦ rw same.0 refl
  | inr other ↦ rw other.0 (meets_all levels leaf n level b (below_n (cases_eq level n) other.1) is)
]
  where
    below_n : (level ≡ n) ⊎ (level ≡ n → ⊥) → (b ≡ bucket_of levels leaf n → ⊥) → level < n
    below_n (inl same) never = absurd (never (is ∙ ap (bucket_of levels leaf) same))
    below_n (inr apart) never = omega (arith, apart)

abbrev unless : Bool → ℕ → ℕ
unless met n = (if met then 0 else n)

-- the copies off the open path stay where some of its buckets are written
copies_off : (keys : Keys) (leaf level a : ℕ) (now : Contents) → level ≤ keys.shape.levels
    → tree_copies keys (Some leaf)
    (sealed keys.pads keys.shape.levels leaf now.seed now.hand now.mirror level) a
    ≡ tree_copies keys (Some leaf) now.mirror a
copies_off keys leaf level a now within = total_same _ _ keys.shape.buckets
    (λ b less. off_at b (meets keys.shape.levels leaf (keys.shape.levels + 1) b) refl)
  where
    part : List (List ℕ)
    part = sealed keys.pads keys.shape.levels leaf now.seed now.hand now.mirror level

    off_at : (b : ℕ) (t : Bool) → meets keys.shape.levels leaf (keys.shape.levels + 1) b ≡ t
        → unless (meets keys.shape.levels leaf (keys.shape.levels + 1) b) (copies a (entries_at keys part b))
        ≡ unless (meets keys.shape.levels leaf (keys.shape.levels + 1) b) (copies a (entries_at keys now.mirror b))
    off_at b true is = ap (λ t. unless t (copies a (entries_at keys part b))) is
        ∙ sym (ap (λ t. unless t (copies a (entries_at keys now.mirror b))) is)
    off_at b false is =
        let kept = sealed-off keys.pads keys.shape.levels leaf now.seed now.hand now.mirror level b
        (λ k less same. (let both : true ≡ false = sym
        (meets_all keys.shape.levels leaf (keys.shape.levels + 1) k b (omega (arith, less, within)) (sym same)) ∙ is in
        cc)) in
        let same : get_or part b [] ≡ get_or now.mirror b [] =
        sym (unwrap_or-slice_get part b []) ∙ ap (λ o. unwrap_or o []) kept ∙ unwrap_or-slice_get now.mirror b [] in
        ap (λ t. unless (meets keys.shape.levels leaf (keys.shape.levels + 1) b) (copies a (entries_in keys t))) same

module _ (keys : Keys) (tap tap' : TapState) (tree tree' : TreeState) (leaf level used : ℕ)
    (x : LeftByWriteCut keys tap tap' tree tree' leaf level used) where
  part_is : contents_of tree' tap' ≡ record (contents_of tree tap) {
    mirror = sealed keys.pads keys.shape.levels leaf tree.seed tree.hand tap.mirror level;
    seed = tree.seed + used;
  }
  part_is = same_contents x.hand (subst (λ (s : Shape). tap'.mirror
      ≡ sealed keys.pads s.levels leaf tree.seed tree.hand tap.mirror level) (sym x.shape)
      (subst (λ k. tap'.mirror ≡ sealed k tree.shape.levels leaf tree.seed tree.hand tap.mirror level)
      (sym x.pads) x.mirror)) x.seed

  in_keys : level ≤ keys.shape.levels
  in_keys = subst (λ (s : Shape). level ≤ s.levels) (sym x.shape) x.within

  pub write_cut_keeps_always : AreKeys keys → leaf < 2 ^ keys.shape.levels → tree.seed < 2 ^ 63
      → Always keys tap.log (contents_of tree tap) → Always keys tap'.log (contents_of tree' tap')
  write_cut_keeps_always lawful within room w = subst (λ c. Always keys tap'.log c) (sym part_is)
      (always_ends keys tap.log tap'.log _ (ended x.silent)
      (part_always keys lawful tap.log (contents_of tree tap) leaf level used within (omega (arith, in_keys)) room w))

  pub write_cut_keeps_sound : (g : Ghost) → g.path ≡ Some leaf → Sound keys tap.log g (contents_of tree tap)
      → Sound keys tap'.log g (contents_of tree' tap')
  write_cut_keeps_sound g opened s = subst (λ c. Sound keys tap'.log g c) (sym part_is)
      (sound_ends keys tap.log tap'.log g _ (ended x.silent) seeded)
    where
      part : Sound keys tap.log g (record (contents_of tree tap) {
        mirror = sealed keys.pads keys.shape.levels leaf tree.seed tree.hand tap.mirror level;
      })
      part = part_sound keys tap.log g (contents_of tree tap) leaf level opened (omega (arith, in_keys)) s

      seeded : Sound keys tap.log g (record (contents_of tree tap) {
        mirror = sealed keys.pads keys.shape.levels leaf tree.seed tree.hand tap.mirror level;
        seed = tree.seed + used;
      })
      seeded = record {
        fresh = part.fresh;
        last = part.last;
        once = part.once;
        blank = part.blank;
        drawn = part.drawn;
        dummies = part.dummies;
        away = part.away;
        at_hand = part.at_hand;
        in_tree = part.in_tree;
      }

  pub write_cut_keeps_home : (g : Ghost) → g.path ≡ Some leaf → Home keys g (contents_of tree tap)
      → Home keys g (contents_of tree' tap')
  write_cut_keeps_home g opened home = subst (λ c. Home keys g c) (sym part_is) at_part
    where
      at_part : Home keys g (record (contents_of tree tap) {
        mirror = sealed keys.pads keys.shape.levels leaf tree.seed tree.hand tap.mirror level;
        seed = tree.seed + used;
      })
      at_part a inside = subst (λ (n : ℕ). copies a tree.hand
          + (n + (count_by (λ b. b == a) g.held + flying a g.flight)) ≡ (if is_first (g.count a) then 0 else 1))
          (sym same) (home a inside)
        where
          same : tree_copies keys g.path
              (sealed keys.pads keys.shape.levels leaf tree.seed tree.hand tap.mirror level) a
              ≡ tree_copies keys g.path tap.mirror a
          same = subst (λ o. tree_copies keys o
              (sealed keys.pads keys.shape.levels leaf tree.seed tree.hand tap.mirror level) a
              ≡ tree_copies keys o tap.mirror a) (sym opened)
              (copies_off keys leaf level a (contents_of tree tap) in_keys)
