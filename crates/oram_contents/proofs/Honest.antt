-- Where no reply is altered a path read gives no evidence, and what is found for a block is right.
use Rattle.std.proofs.Common.{◌≡◌, ◌<◌, ◌≤◌, ◌+◌, ◌^◌, ◌⊎◌, inl, inr, ℕ, zero, suc, Bool, true, false}
use Rattle.std.proofs.Common.{if◌then◌else◌, ◌==◌, List, [], ◌∷◌, ◌++◌, length, map, flat_map, get_or, count_by, Option}
use Rattle.std.proofs.Common.{None, Some, is_some, Result, Ok, Err, refl, sym, ◌∙◌, ap, ap₂, subst, arith, append_assoc}
use Rattle.std.proofs.Common.{append-nil}
use Rattle.std.specs.List.{range_with_len}
use Rattle.std.specs.Option.{option_to_list}
use Rattle.std.proofs.lemmas.Bool.{cases_eq}
use Rattle.std.proofs.lemmas.Bool.Decides.{eqb_tells}
use Rattle.std.proofs.lemmas.Slice.Eq.{bytes_eq-Decides}
use Rattle.asc_base.specs.TreeShape.{bucket_of}
use Rattle.asc_base.specs.declared.block.Address.{Address}
use Rattle.asc_base.specs.declared.block.Entry.{Entry}
use Rattle.asc_base.specs.declared.stop.Evidence.TheVariants.{OffPath, Doubled, Missing, Unexpected, BadTag}
use Rattle.asc_base.proofs.Paths.{bucket_of-apart}
use Rattle.bucket_codec.specs.Bucket.{opened}
use Rattle.bucket_codec.specs.declared.codec.BadSlot.{BadSlot as Bad}
use Rattle.bus_watch.specs.Log.{LogLists}
use Rattle.bus_watch.specs.declared.log.Altered.{Altered}
use Rattle.oram_stash.specs.Entries.{held}
use Rattle.pmmac_tags.specs.Tag.{tag}
use Rattle.oram_contents.specs.Contents.{Contents, entries_of, IsReadTo}
use Rattle.oram_contents.specs.PathRead.{replies, join_entry, join_slots, join_buckets}
use Rattle.oram_contents.specs.PathRead.{then_join}
use Rattle.oram_contents.specs.Entries.{Keys, AreKeys, OnPath, real, message_of, entries_in, entries_at}
use Rattle.asc_base.specs.Has.{Has}
use Rattle.oram_contents.specs.Counts.{Ghost}
use Rattle.oram_contents.specs.Home.{Home, copies, is_copy, tree_copies, flying, total, is_open, meets}
use Rattle.oram_contents.specs.Provenance.{Genuine, Known, OffOpen, Sound, Always}
use Rattle.oram_contents.specs.Verdict.{judged, is_first}
use Rattle.oram_contents.proofs.HomeLaws.{copies_cons, copies_append, copies_of_path, total_same, tree_split}
use Rattle.oram_contents.proofs.HomeLaws.{path_inside}
use Rattle.std.specs.Prelude.{unwrap_or}
use Rattle.std.proofs.lemmas.Option.{get_or_from_slice_get, unwrap_or-slice_get}
use Rattle.asc_base.proofs.ShapeFacts.{shape_layered}
use Rattle.bucket_codec.specs.Bucket.{bucket_text}
use Rattle.oram_contents.specs.Contents.{after_write}
use Rattle.oram_contents.specs.PathWritten.{sealed, slots_at}
use Rattle.oram_contents.specs.Shapes.{AreOfShape}
use Rattle.oram_contents.proofs.ContentsLaws.{sealed-on, sealed-off, opened-sealed}
use Rattle.oram_contents.specs.Home.{AreInForm}
use Rattle.oram_contents.specs.Slots.{HasSeeds}
use Rattle.oram_contents.proofs.Placing.{cases_path}
use Rattle.oram_contents.proofs.Found.{held_has}

-- none of a block is held where there are no copies of it
held_none : (hand : List Entry) (a : Address) → copies a.0 hand ≡ 0 → held hand a ≡ None
unfolding held
held_none [] a none = refl
held_none (e ∷ hand) a none = elim (eqb_tells e.address.0 a.0) [
  | inl same ↦ (let all = copies_cons a.0 e hand in let one :
      (let x : ℕ = (if is_copy a.0 e then 1 else 0) in x ≡ 1) = rw same.0 refl in absurd (omega arith))
  | inr other ↦ (let all = copies_cons a.0 e hand in rw other.0 (held_none hand a (omega arith)))
]

skipped : (e : Entry) (hand : List Entry) (a : Address) (x : Entry) → (e.address.0 == a.0) ≡ false
    → held hand a ≡ Some x → held (e ∷ hand) a ≡ Some x
unfolding held
skipped e hand a x other is = rw other is

first_held : (e : Entry) (hand : List Entry) (a : Address) → (e.address.0 == a.0) ≡ true → held (e ∷ hand) a ≡ Some e
unfolding held
first_held e hand a same = rw same refl

one_if : (b : Bool) (n : ℕ) → b ≡ false → (let x : ℕ = (if b then 1 else 0) in x ≡ 0)
one_if b n is = ap (λ c. (if c then 1 else 0)) is

-- and one is found where there are some
held_some : (hand : List Entry) (a : Address) → 0 < copies a.0 hand → (e : Entry) × (held hand a ≡ Some e)
held_some [] a some = absurd (omega arith)
held_some (e ∷ hand) a some = elim (eqb_tells e.address.0 a.0) [
  | inl same ↦ (e, first_held e hand a same.0)
  | inr other ↦
      (let all = copies_cons a.0 e hand in
      let none = one_if (is_copy a.0 e) 0 other.0 in
      let more : 0 < copies a.0 hand = omega arith in
      let rest = held_some hand a more in
      (rest.0, skipped e hand a rest.0 other.0 rest.1))
]

copies_none : (a : ℕ) (es : List Entry) → ((e : Entry) → Has e es → e.address.0 ≡ a → ⊥) → copies a es ≡ 0
copies_none a [] none = refl
copies_none a (e ∷ es) none =
    let all = copies_cons a e es in
    let rest = copies_none a es (λ x h. none x (inr h)) in
    let here : (let x : ℕ = (if is_copy a e then 1 else 0) in x ≡ 0) = elim
    (eqb_tells e.address.0 a) [ inl same ↦ absurd (none e (inl refl) same.1) | inr other ↦ rw other.0 refl ] in
    omega arith

-- at most one copy of each block of a shape of so many
abbrev AtMostOne : ℕ → List Entry → Type 0
AtMostOne blocks es = (a : ℕ) → a < blocks → copies a es ≤ 1

-- an entry that may stand in the bucket at a level of a path
abbrev MayStand : ℕ → ℕ → ℕ → ℕ → Entry → Type 0
MayStand blocks levels leaf level e = (e.address.0 < blocks)
    × (bucket_of levels e.leaf.0 level ≡ bucket_of levels leaf level)

entry_joins : (blocks levels leaf level slot : ℕ) (e : Entry) (hand rest : List Entry)
    → MayStand blocks levels leaf level e → AtMostOne blocks (hand ++ e ∷ rest)
    → join_entry levels leaf level slot e hand ≡ Ok (hand ++ e ∷ [])
entry_joins blocks levels leaf level slot e hand rest may once =
    let parts = copies_append e.address.0 hand (e ∷ rest) in
    let first = copies_cons e.address.0 e rest in
    let one : (let x : ℕ = (if is_copy e.address.0 e then 1 else 0) in x ≡ 1) = elim
    (eqb_tells e.address.0 e.address.0) [ inl same ↦ rw same.0 refl | inr other ↦ absurd (other.1 refl) ] in
    let at_most = once e.address.0 may.0 in
    let none : held hand e.address ≡ None = held_none hand e.address (omega arith) in
    let on : (bucket_of levels e.leaf.0 level == bucket_of levels leaf level) ≡ true = elim
    (eqb_tells (bucket_of levels e.leaf.0 level) (bucket_of levels leaf level))
    [ inl same ↦ same.0 | inr other ↦ absurd (other.1 may.1) ] in
    ap₂ (λ b c. (if b then (if c then Err (Doubled e.address) else Ok (hand ++ e ∷ [])) else Err
    (OffPath (bucket_of levels leaf level) slot))) on (ap is_some none)

slots_join : (blocks levels leaf level slot : ℕ) (slots : List (Option Entry)) (hand rest : List Entry)
    → ((e : Entry) → Has e (flat_map option_to_list slots) → MayStand blocks levels leaf level e)
    → AtMostOne blocks (hand ++ (flat_map option_to_list slots ++ rest))
    → join_slots levels leaf level slot slots hand ≡ Ok (hand ++ flat_map option_to_list slots)
slots_join blocks levels leaf level slot [] hand rest may once = ap Ok (sym (append-nil hand))
slots_join blocks levels leaf level slot (None ∷ slots) hand rest may once = slots_join blocks levels leaf level
    (slot + 1) slots hand rest may once
slots_join blocks levels leaf level slot (Some e ∷ slots) hand rest may once =
    ap (λ r. then_join r (join_slots levels leaf level (slot + 1) slots))
    (entry_joins blocks levels leaf level slot e hand (flat_map option_to_list slots ++ rest)
    (may e (inl refl)) once)
    ∙ slots_join blocks levels leaf level (slot + 1) slots (hand ++ e ∷ []) rest (λ x h. may x (inr h))
    (λ a inside. subst (λ l. copies a l ≤ 1) (sym (append_assoc hand (e ∷ [])
    (flat_map option_to_list slots ++ rest))) (once a inside))
    ∙ ap Ok (append_assoc hand (e ∷ []) (flat_map option_to_list slots))

-- buckets in the form, from a level on, whose entries may stand there
Fit : ℕ → ℕ → ℕ → ℕ → List (Result (List (Option Entry)) Bad) → Type 0
Fit blocks levels leaf level [] = Unit {0}
Fit blocks levels leaf level (b ∷ bs) = ((slots : List (Option Entry)) × (b ≡ Ok slots))
    × ((e : Entry) → Has e (entries_of b) → MayStand blocks levels leaf level e) × Fit blocks levels leaf (level + 1) bs

buckets_join : (blocks levels leaf level : ℕ) (buckets : List (Result (List (Option Entry)) Bad)) (hand : List Entry)
    → Fit blocks levels leaf level buckets → AtMostOne blocks (hand ++ flat_map entries_of buckets)
    → join_buckets levels leaf level buckets hand ≡ Ok (hand ++ flat_map entries_of buckets)
unfolding Fit
buckets_join blocks levels leaf level [] hand fit once = ap Ok (sym (append-nil hand))
buckets_join blocks levels leaf level (Err bad ∷ bs) hand fit once = absurd
    (let wrong : Err bad ≡ Ok fit.0.0 = fit.0.1 in cc)
buckets_join blocks levels leaf level (Ok slots ∷ bs) hand fit once =
    ap (λ r. then_join r (join_buckets levels leaf (level + 1) bs))
    (slots_join blocks levels leaf level 0 slots hand (flat_map entries_of bs) fit.1 once)
    ∙ buckets_join blocks levels leaf (level + 1) bs (hand ++ flat_map option_to_list slots) fit.2
    (λ a inside. subst (λ l. copies a l ≤ 1) (sym (append_assoc hand (flat_map option_to_list slots)
    (flat_map entries_of bs))) (once a inside))
    ∙ ap Ok (append_assoc hand (flat_map option_to_list slots) (flat_map entries_of bs))

on_meets : (levels leaf n level b : ℕ) → level < n → b ≡ bucket_of levels leaf level → meets levels leaf n b ≡ true
on_meets levels leaf zero level b less is = absurd (omega arith)
on_meets levels leaf (suc n) level b less is = elim (eqb_tells b (bucket_of levels leaf n)) [
  | inl same ↦ rw same.0 refl
  | inr other ↦ rw other.0 (on_meets levels leaf n level b (below (cases_eq level n) other.1) is)
]
  where
    below : (level ≡ n) ⊎ (level ≡ n → ⊥) → (b ≡ bucket_of levels leaf n → ⊥) → level < n
    below (inl same) never = absurd (never (is ∙ ap (bucket_of levels leaf) same))
    below (inr apart) never = omega (arith, apart)

no_sum : (f : ℕ → ℕ) (n : ℕ) → ((b : ℕ) → f b ≡ 0) → total f n ≡ 0
no_sum f zero none = refl
no_sum f (suc n) none = let before = no_sum f n none in let last = none n in omega arith

-- a path write leaves the buckets in the form
pub write_in_form : (keys : Keys) → AreKeys keys → (leaf : ℕ) (now : Contents) → leaf < 2 ^ keys.shape.levels
    → AreOfShape keys.shape now.hand → length now.mirror ≡ keys.shape.buckets → 0 < now.seed → HasSeeds now
    → AreInForm keys now.mirror → AreInForm keys (after_write keys.pads keys.shape.levels leaf now).mirror
write_in_form keys lawful leaf now within of_shape mirrored some room forms b inside = elim
    (cases_path keys.shape.levels leaf b) [
      | inr off ↦
          (let kept = sealed-off keys.pads keys.shape.levels leaf now.seed now.hand now.mirror (keys.shape.levels + 1) b
          (λ level less is. off (level, omega (arith, less), sym is)) in
          let same : get_or (sealed keys.pads keys.shape.levels leaf now.seed now.hand now.mirror
          (keys.shape.levels + 1))
          b [] ≡ get_or now.mirror b [] =
          sym (unwrap_or-slice_get (sealed keys.pads keys.shape.levels leaf now.seed now.hand now.mirror
          (keys.shape.levels + 1)) b []) ∙ ap (λ o. unwrap_or o []) kept ∙ unwrap_or-slice_get now.mirror b [] in
          let form = forms b inside in
          (form.0, ap (opened keys.pads keys.shape) same ∙ form.1))
      | inl on ↦
          (let there : bucket_of keys.shape.levels leaf on.0 < length now.mirror = omega
          (arith, mirrored, path_inside keys lawful leaf on.0 within on.1) in
          let text = sealed-on keys.pads keys.shape.levels leaf now.seed now.hand now.mirror
          (keys.shape.levels + 1) on.0
          (omega (arith, on.1)) (omega arith) within there in
          let bytes = get_or_from_slice_get (sealed keys.pads keys.shape.levels leaf now.seed now.hand now.mirror
          (keys.shape.levels + 1)) (bucket_of keys.shape.levels leaf on.0)
          (bucket_text keys.pads (now.seed + on.0) (slots_at keys.shape.levels leaf now.hand on.0)) [] text in (
            slots_at keys.shape.levels leaf now.hand on.0,
            ap (λ n. opened keys.pads keys.shape (get_or (sealed keys.pads keys.shape.levels leaf now.seed now.hand
                now.mirror (keys.shape.levels + 1)) n [])) on.2
                ∙ ap (opened keys.pads keys.shape) bytes
                ∙ opened-sealed keys.pads keys.shape leaf (now.seed + on.0) on.0 now.hand (omega arith)
                (omega (arith, on.1, (shape_layered keys.shape lawful.shape).levels_to)) of_shape,
          ))
    ]

module _ (keys : Keys) (lawful : AreKeys keys) (log : LogLists) (g : Ghost) (now : Contents)
    (none_altered : log.altered ≡ []) (w : Always keys log now) (s : Sound keys log g now)
    (home : Home keys g now) where
  genuine : (e : Entry) → Known keys log g.count e → Genuine keys log g.count e
  genuine e (inl o) = absurd (subst (λ (l : List Altered). Has o.0 l) none_altered o.1)
  genuine e (inr k) = k

  -- a path read has no evidence
  module _ (start leaf : ℕ) (within : leaf < 2 ^ keys.shape.levels) (shut : g.path ≡ None)
      (forms : AreInForm keys now.mirror) where
    open_in : (b : ℕ) (e : Entry) → Has e (entries_at keys now.mirror b) → Genuine keys log g.count e
    open_in b e h = genuine e (s.in_tree b e (subst (λ p. OffOpen keys.shape.levels p b) (sym shut) tt) h)

    -- an entry that stands on the path of its leaf stands there at the bucket's level
    same_level : (level : ℕ) → level ≤ keys.shape.levels → (e : Entry) → e.leaf.0 < 2 ^ keys.shape.levels
        → OnPath keys.shape.levels e.leaf.0 (bucket_of keys.shape.levels leaf level)
        → bucket_of keys.shape.levels e.leaf.0 level ≡ bucket_of keys.shape.levels leaf level
    same_level level less e in_e on = elim (cases_eq level on.0) [
      | inl same ↦ ap (bucket_of keys.shape.levels e.leaf.0) same ∙ sym on.2
      | inr apart ↦ absurd (bucket_of-apart keys.shape.levels leaf e.leaf.0 level on.0 apart less on.1 within in_e on.2)
    ]

    stands : (level : ℕ) → level ≤ keys.shape.levels → (e : Entry)
        → Has e (entries_at keys now.mirror (bucket_of keys.shape.levels leaf level))
        → MayStand keys.shape.total keys.shape.levels leaf level e
    stands level less e h =
        let k = open_in (bucket_of keys.shape.levels leaf level) e h in
        let in_e : e.leaf.0 < 2 ^ keys.shape.levels = subst (λ x. x < 2 ^ keys.shape.levels) (sym k.leaf)
        (lawful.leaves (real e.address.0 (g.count e.address.0))) in
        ((s.fresh _ k.tagged).0, same_level level less e in_e (w.placed (bucket_of keys.shape.levels leaf level) e h))

    fits : (from n : ℕ) → from + n ≤ keys.shape.levels + 1
        → Fit keys.shape.total keys.shape.levels leaf from
        (map (opened keys.pads keys.shape) (map (λ level. get_or now.mirror
        (bucket_of keys.shape.levels leaf level) []) (range_with_len from n)))
    unfolding Fit
    fits from zero few = tt
    fits from (suc n) few =
        let form = forms (bucket_of keys.shape.levels leaf from)
        (path_inside keys lawful leaf from within (omega (arith, few))) in
        (form, stands from (omega (arith, few)), fits (from + 1) n (omega (arith, few)))

    pub honest_read : (joined : List Entry) × IsReadTo keys.pads keys.shape start leaf [] now joined
    honest_read = (
      now.hand ++ flat_map entries_of (map (opened keys.pads keys.shape)
          (replies keys.shape.levels start leaf now.mirror [])),
      buckets_join keys.shape.total keys.shape.levels leaf 0
          (map (opened keys.pads keys.shape) (replies keys.shape.levels start leaf now.mirror [])) now.hand
          (fits 0 (keys.shape.levels + 1) (omega arith)) once,
    )
      where
        once : AtMostOne keys.shape.total (now.hand ++ flat_map entries_of
            (map (opened keys.pads keys.shape) (replies keys.shape.levels start leaf now.mirror [])))
        once a inside =
            let r : ℕ → List ℕ = λ level. get_or now.mirror (bucket_of keys.shape.levels leaf level) [] in
            let whole = copies_append a now.hand (flat_map entries_of
            (map (opened keys.pads keys.shape) (replies keys.shape.levels start leaf now.mirror []))) in
            let path : copies a (flat_map entries_of (map (opened keys.pads keys.shape)
            (replies keys.shape.levels start leaf now.mirror []))) ≡ total
            (λ k. copies a (entries_in keys (r (0 + k)))) (keys.shape.levels + 1) = copies_of_path keys a r 0
            (keys.shape.levels + 1) in
            let plain : total (λ k. copies a (entries_in keys (r (0 + k)))) (keys.shape.levels + 1) ≡ total
            (λ k. copies a (entries_at keys now.mirror (bucket_of keys.shape.levels leaf k)))
            (keys.shape.levels + 1) =
            total_same _ _ (keys.shape.levels + 1)
            (λ k less. ap (λ m. copies a (entries_in keys (r m))) (omega arith)) in
            let split = tree_split keys lawful now.mirror leaf a within in
            let all : copies a now.hand + (tree_copies keys None now.mirror a +
            (count_by (λ b. b == a) g.held + flying a g.flight)) ≡ (if is_first (g.count a) then 0 else 1) =
            subst (λ p. copies a now.hand + (tree_copies keys p now.mirror a +
            (count_by (λ b. b == a) g.held + flying a g.flight)) ≡ (if is_first (g.count a) then 0 else 1))
            shut (home a inside) in
            let most : (let x : ℕ = (if is_first (g.count a) then 0 else 1) in x ≤ 1) = at_most
            (is_first (g.count a)) in
            omega (arith, whole, path, plain, split, all, most)
          where
            at_most : (b : Bool) → (let x : ℕ = (if b then 0 else 1) in x ≤ 1)
            at_most true = omega arith
            at_most false = omega arith

  -- what is found for a block whose path is open is right
  pub honest_found : (a : ℕ) → a < keys.shape.total → g.path ≡ Some (keys.leaf_of (real a (g.count a)))
      → count_by (λ b. b == a) g.held ≡ 0 → flying a g.flight ≡ 0
      → judged keys a (g.count a) (held now.hand (record { 0 = a })) ≡ None
  honest_found a inside opened_at unheld grounded = by_first (is_first (g.count a)) refl
    where
      no_copy : (b : ℕ) (t : Bool) → is_open keys.shape.levels (Some (keys.leaf_of (real a (g.count a)))) b ≡ t
          → (let x : ℕ = (if t then 0 else copies a (entries_at keys now.mirror b)) in x ≡ 0)
      no_copy b true is = refl
      no_copy b false is = copies_none a (entries_at keys now.mirror b) (λ e h at.
          (let k = genuine e (s.in_tree b e (subst (λ p. OffOpen keys.shape.levels p b) (sym opened_at) (off b is)) h)
          in
          let same : e.leaf.0 ≡ keys.leaf_of (real a (g.count a)) = k.leaf
          ∙ ap (λ x. keys.leaf_of (real x (g.count x))) at in
          off b is (subst (λ x. OnPath keys.shape.levels x b) same (w.placed b e h))))
        where
          off : (b : ℕ) → is_open keys.shape.levels (Some (keys.leaf_of (real a (g.count a)))) b ≡ false
              → OnPath keys.shape.levels (keys.leaf_of (real a (g.count a))) b → ⊥
          off b is on = let both : true ≡ false = sym (on_meets keys.shape.levels (keys.leaf_of (real a (g.count a)))
              (keys.shape.levels + 1) on.0 b (omega (arith, on.1)) on.2) ∙ is in cc

      none_off : tree_copies keys (Some (keys.leaf_of (real a (g.count a)))) now.mirror a ≡ 0
      none_off = no_sum (λ b. (if is_open keys.shape.levels
          (Some (keys.leaf_of (real a (g.count a)))) b then 0 else copies a (entries_at keys now.mirror b)))
          keys.shape.buckets (λ b. no_copy b (is_open keys.shape.levels (Some (keys.leaf_of (real a (g.count a)))) b)
          refl)

      all : copies a now.hand + (tree_copies keys (Some (keys.leaf_of (real a (g.count a)))) now.mirror a +
          (count_by (λ b. b == a) g.held + flying a g.flight)) ≡ (if is_first (g.count a) then 0 else 1)
      all = subst (λ p. copies a now.hand + (tree_copies keys p now.mirror a +
          (count_by (λ b. b == a) g.held + flying a g.flight)) ≡ (if is_first (g.count a) then 0 else 1)) opened_at
          (home a inside)

      by_first : (t : Bool) → is_first (g.count a) ≡ t
          → judged keys a (g.count a) (held now.hand (record { 0 = a })) ≡ None
      by_first true is =
          let seat : (let x : ℕ = (if is_first (g.count a) then 0 else 1) in x ≡ 0) = ap
          (λ t. (if t then 0 else 1)) is in
          let none : copies a now.hand ≡ 0 = omega (arith, all, none_off, unheld, grounded, seat) in
          ap (judged keys a (g.count a)) (held_none now.hand (record { 0 = a }) none)
          ∙ ap (λ t. (if t then None else Some (Missing (record { 0 = a }) (g.count a)))) is
      by_first false is =
          let seat : (let x : ℕ = (if is_first (g.count a) then 0 else 1) in x ≡ 1) = ap
          (λ t. (if t then 0 else 1)) is in
          let some : 0 < copies a now.hand = omega (arith, all, none_off, unheld, grounded, seat) in
          let found = held_some now.hand (record { 0 = a }) some in
          let at = held_has now.hand (record { 0 = a }) found.0 found.1 in
          let k = genuine found.0 (s.at_hand found.0 at.0) in
          let valid : found.0.tag ≡ tag keys.tags (message_of a (g.count a) found.0.line.0) = k.tag_is
          ∙ ap (λ x. tag keys.tags (message_of x (g.count x) found.0.line.0)) at.1 in
          ap (judged keys a (g.count a)) found.1
          ∙ ap₂ (λ t v. (if t then Some (Unexpected (record { 0 = a })) else
          (if v then None else Some (BadTag (message_of a (g.count a) found.0.line.0) found.0.tag
          (tag keys.tags (message_of a (g.count a) found.0.line.0))))))
          is ((bytes_eq-Decides found.0.tag (tag keys.tags (message_of a (g.count a) found.0.line.0))).1 valid)
