-- What stands in a bucket after a path is written.
use Rattle.std.proofs.Common.{◌≡◌, ◌<◌, ◌≤◌, ◌+◌, ◌-◌, ◌^◌, ◌⊎◌, inl, inr, ℕ, zero, suc}
use Rattle.std.proofs.Common.{List, [], ◌∷◌, length, flat_map, get_or, slice_get}
use Rattle.std.proofs.Common.{Some, refl, sym, ◌∙◌, ap, subst, arith}
use Rattle.std.specs.Option.{option_to_list}
use Rattle.std.proofs.lemmas.Bool.{cases_eq}
use Rattle.std.proofs.lemmas.Option.{get_or_from_slice_get, unwrap_or-slice_get}
use Rattle.std.specs.Prelude.{unwrap_or}
use Rattle.asc_base.specs.TreeShape.{bucket_of, shared_of, buckets_of}
use Rattle.asc_base.specs.declared.block.Entry.{Entry}
use Rattle.asc_base.proofs.Paths.{shared_iff, bucket_of-lt}
use Rattle.asc_base.proofs.ShapeFacts.{IsLayered, shape_layered}
use Rattle.bucket_codec.specs.Bucket.{bucket_text, opened}
use Rattle.bucket_codec.specs.Slot.{IsEntry, IsInRange}
use Rattle.path_evict.specs.Placed.{where_placed}
use Rattle.path_evict.specs.Placement.{stands_at}
use Rattle.oram_contents.specs.Contents.{Contents, entries_of, after_write}
use Rattle.oram_contents.specs.PathWritten.{places_of, four_slots, slots_at, sealed}
use Rattle.oram_contents.specs.Shapes.{AreOfShape}
use Rattle.oram_contents.proofs.ContentsLaws.{sealed-on, sealed-off, opened-sealed}
use Rattle.oram_contents.proofs.PlacedLaws.{placed_on_path}
use Rattle.oram_contents.specs.Entries.{Keys, AreKeys, OnPath, entries_at}
use Rattle.asc_base.specs.Has.{Has}
use Rattle.path_evict.proofs.Placed.{where_placed-has}
use Rattle.asc_base.proofs.Members.{all_has}
use Rattle.asc_base.proofs.Members.{has_flat_map, has_map}

get_has : (entries : List Entry) (i : ℕ) (e : Entry) → Has e (option_to_list (slice_get entries i)) → Has e entries
get_has [] i e h = absurd h
get_has (x ∷ entries) zero e (inl is) = inl is
get_has (x ∷ entries) zero e (inr none) = absurd none
get_has (x ∷ entries) (suc i) e h = inr (get_has entries i e h)

pub four_has : (entries : List Entry) (e : Entry) → Has e (flat_map option_to_list (four_slots entries)) → Has e entries
four_has entries e h =
    let slot = has_flat_map option_to_list e (four_slots entries) h in
    let at = has_map (slice_get entries) slot.0 (0 ∷ 1 ∷ 2 ∷ 3 ∷ []) slot.1 in
    get_has entries at.0 e (subst (λ o. Has e (option_to_list o)) at.2 slot.2)

-- a bucket is one of the first on a path, or none of them
cases_first : (levels leaf n b : ℕ) → ((level : ℕ) × (level < n) × (b ≡ bucket_of levels leaf level))
    ⊎ ((level : ℕ) → level < n → b ≡ bucket_of levels leaf level → ⊥)
cases_first levels leaf zero b = inr (λ level less is. omega arith)
cases_first levels leaf (suc n) b = elim (cases_first levels leaf n b) [
  | inl found ↦ inl (found.0, omega (arith, found.1), found.2)
  | inr none ↦ elim (cases_eq b (bucket_of levels leaf n)) [
    | inl is ↦ inl (n, omega arith, is)
    | inr other ↦ inr (λ level less is. elim (cases_eq level n) [
      | inl same ↦ other (is ∙ ap (bucket_of levels leaf) same)
      | inr less_n ↦ none level
          (omega (arith, less_n)) is
    ])
  ]
]

-- a bucket is on a path or not
pub cases_path : (levels leaf b : ℕ) → OnPath levels leaf b ⊎ (OnPath levels leaf b → ⊥)
cases_path levels leaf b = elim (cases_first levels leaf (suc levels) b) [
  | inl found ↦ inl (found.0, omega (arith, found.1), found.2)
  | inr none ↦ inr (λ on. none on.0 (omega (arith, on.1)) on.2)
]

pub buckets_are : (levels : ℕ) → buckets_of levels ≡ 2 ^ (levels + 1) - 1
unfolding buckets_of
buckets_are levels = refl

-- An entry in a bucket after the first n writes of a path: the bucket is none of them, and it stood there before; or it
-- was at hand, and the bucket is on the path of its leaf too.
pub written_to : (keys : Keys) (lawful : AreKeys keys) (leaf n : ℕ) (now : Contents) (b : ℕ) (e : Entry)
    → leaf < 2 ^ keys.shape.levels → n ≤ keys.shape.levels + 1 → AreOfShape keys.shape now.hand
    → length now.mirror ≡ keys.shape.buckets → 0 < now.seed → now.seed < 2 ^ 63
    → Has e (entries_at keys (sealed keys.pads keys.shape.levels leaf now.seed now.hand now.mirror n) b)
    → (Has e (entries_at keys now.mirror b)
    × ((level : ℕ) → level < n → b ≡ bucket_of keys.shape.levels leaf level → ⊥))
    ⊎ (Has e now.hand × OnPath keys.shape.levels e.leaf.0 b)
written_to keys lawful leaf n now b e within few of_shape mirrored some below h = by_path
    (cases_first keys.shape.levels leaf n b)
  where
    by_path : ((level : ℕ) × (level < n) × (b ≡ bucket_of keys.shape.levels leaf level))
        ⊎ ((level : ℕ) → level < n → b ≡ bucket_of keys.shape.levels leaf level → ⊥)
        → (Has e (entries_at keys now.mirror b)
        × ((level : ℕ) → level < n → b ≡ bucket_of keys.shape.levels leaf level → ⊥))
        ⊎ (Has e now.hand × OnPath keys.shape.levels e.leaf.0 b)
    by_path (inr off) =
        let kept = sealed-off keys.pads keys.shape.levels leaf now.seed now.hand now.mirror n b
        (λ level less is. off level less (sym is)) in
        let same : get_or (sealed keys.pads keys.shape.levels leaf now.seed now.hand now.mirror n) b []
        ≡ get_or now.mirror b [] =
        sym (unwrap_or-slice_get _ b []) ∙ ap (λ o. unwrap_or o []) kept ∙ unwrap_or-slice_get now.mirror b [] in
        inl (subst (λ t. Has e (entries_of (opened keys.pads keys.shape t))) same h, off)
    by_path (inl on) =
        let level = on.0 in
        let inside : level ≤ keys.shape.levels = omega (arith, on.1, few) in
        let layered : IsLayered keys.shape = shape_layered keys.shape lawful.shape in
        let there : bucket_of keys.shape.levels leaf level < length now.mirror = omega (
          arith,
          mirrored,
          layered.buckets,
          buckets_are keys.shape.levels,
          bucket_of-lt keys.shape.levels leaf level
              inside within,
        ) in
        let text = sealed-on keys.pads keys.shape.levels leaf now.seed now.hand now.mirror n level on.1 few within
        there in
        let bytes : get_or (sealed keys.pads keys.shape.levels leaf now.seed now.hand now.mirror n) b []
        ≡ bucket_text keys.pads (now.seed + level) (slots_at keys.shape.levels leaf now.hand level) =
        ap (λ k. get_or (sealed keys.pads keys.shape.levels leaf now.seed now.hand now.mirror n) k []) on.2
        ∙ get_or_from_slice_get _ (bucket_of keys.shape.levels leaf level) _ [] text in
        let opens = opened-sealed keys.pads keys.shape leaf (now.seed + level) level now.hand (omega arith)
        (omega (arith, inside, layered.levels_to)) of_shape in
        let slots : Has e (flat_map option_to_list (slots_at keys.shape.levels leaf now.hand level)) = subst
        (λ r. Has e (entries_of r)) (ap (opened keys.pads keys.shape) bytes ∙ opens) h in
        let here = four_has (where_placed (stands_at level) (places_of keys.shape.levels leaf now.hand) now.hand) e
        slots in
        let hand : Has e now.hand = where_placed-has (stands_at level)
        (places_of keys.shape.levels leaf now.hand) now.hand e here in
        let depth : level ≤ shared_of keys.shape.levels e.leaf.0 leaf = all_has
        (λ (x : Entry). level ≤ shared_of keys.shape.levels x.leaf.0 leaf) e _
        (placed_on_path keys.shape.levels leaf level now.hand) here in
        let range = all_has (λ (x : Entry). IsEntry x × IsInRange keys.shape (Some x)) e now.hand of_shape hand in
        inr (
          hand,
          (
            level,
            inside,
            on.2 ∙ sym ((shared_iff keys.shape.levels e.leaf.0 leaf level range.1.1 within inside).1
                depth),
          ),
        )

-- The same after all of them: the bucket isn't on the path, or it was at hand.
pub written_from : (keys : Keys) (lawful : AreKeys keys) (leaf : ℕ) (now : Contents) (b : ℕ) (e : Entry)
    → leaf < 2 ^ keys.shape.levels → AreOfShape keys.shape now.hand
    → length now.mirror ≡ keys.shape.buckets → 0 < now.seed → now.seed < 2 ^ 63
    → Has e (entries_at keys (after_write keys.pads keys.shape.levels leaf now).mirror b)
    → (Has e (entries_at keys now.mirror b) × (OnPath keys.shape.levels leaf b → ⊥))
    ⊎ (Has e now.hand × OnPath keys.shape.levels e.leaf.0 b)
written_from keys lawful leaf now b e within of_shape mirrored some below h =
    elim (written_to keys lawful leaf (keys.shape.levels + 1) now b e within (omega arith) of_shape mirrored some below
    h) [
      | inl kept ↦ inl (kept.0, λ on. kept.1 on.0 (omega (arith, on.1)) on.2)
      | inr from ↦ inr from
    ]
