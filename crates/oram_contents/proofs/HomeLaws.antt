-- No block is lost or doubled while no reply is altered.
use Rattle.std.proofs.Common.{◌≡◌, ◌<◌, ◌≤◌, ◌+◌, ◌^◌, ◌⊎◌, inl, inr, ℕ, zero, suc, Bool, true, false}
use Rattle.std.proofs.Common.{if◌then◌else◌, ◌==◌, List, [], ◌∷◌, ◌++◌, length, map, flat_map, get_or}
use Rattle.std.proofs.Common.{count_by, None, Some, refl, sym, ◌∙◌, ap, ap₂, subst, arith}
use Rattle.std.specs.List.{range_with_len}
use Rattle.std.specs.Option.{option_to_list}
use Rattle.std.specs.Prelude.{unwrap_or}
use Rattle.std.proofs.lemmas.Bool.{cases_eq}
use Rattle.std.proofs.lemmas.Bool.Decides.{eqb_tells}
use Rattle.std.proofs.lemmas.Option.{get_or_from_slice_get, unwrap_or-slice_get}
use Rattle.asc_base.specs.TreeShape.{bucket_of}
use Rattle.asc_base.specs.declared.block.Entry.{Entry}
use Rattle.asc_base.proofs.Paths.{bucket_of-lt, bucket_of-apart}
use Rattle.asc_base.proofs.ShapeFacts.{shape_layered}
use Rattle.bucket_codec.specs.Bucket.{opened, bucket_text}
use Rattle.asc_base.proofs.Lookups.{count_by-yes, count_by-no}
use Rattle.oram_contents.specs.Contents.{Contents, entries_of, IsReadTo, after_write}
use Rattle.oram_contents.specs.Copies.{copies_to}
use Rattle.oram_contents.specs.PathRead.{replies}
use Rattle.oram_contents.specs.PathWritten.{sealed, slots_at, stays}
use Rattle.oram_contents.specs.Shapes.{AreOfShape}
use Rattle.oram_contents.proofs.ContentsLaws.{sealed-on, sealed-off, opened-sealed}
use Rattle.oram_contents.proofs.CopyLaws.{copies_add_up}
use Rattle.oram_contents.proofs.JoinLaws.{buckets-joined}
use Rattle.oram_contents.specs.Entries.{Keys, AreKeys, entries_at, entries_in}
use Rattle.oram_contents.specs.Counts.{Ghost}
use Rattle.oram_contents.specs.Home.{total, meets, is_copy, copies, tree_copies, flying, Home}
use Rattle.oram_contents.specs.Slots.{HasSeeds}
use Rattle.oram_contents.specs.Steps.{closed}
use Rattle.oram_contents.specs.Verdict.{is_first}
use Rattle.oram_contents.proofs.Placing.{buckets_are}

-- sums
pub total_same : (f g : ℕ → ℕ) (n : ℕ) → ((b : ℕ) → b < n → f b ≡ g b) → total f n ≡ total g n
total_same f g zero same = refl
total_same f g (suc n) same = ap₂ (λ x y. x + y) (total_same f g n (λ b less. same b (omega arith)))
    (same n (omega arith))

total_first : (f : ℕ → ℕ) (n : ℕ) → total f (suc n) ≡ f 0 + total (λ b. f (suc b)) n
total_first f zero = omega arith
total_first f (suc n) = let before = total_first f n in omega arith

but_one : (f : ℕ → ℕ) (k b : ℕ) → (b ≡ k → ⊥) → (if b == k then 0 else f b) ≡ f b
but_one f k b other = elim (eqb_tells b k) [ inl same ↦ absurd (other same.1) | inr apart ↦ rw apart.0 refl ]

this_one : (f : ℕ → ℕ) (k : ℕ) → (if k == k then 0 else f k) ≡ 0
this_one f k = elim (eqb_tells k k) [ inl same ↦ rw same.0 refl | inr apart ↦ absurd (apart.1 refl) ]

-- without one number, and that one
total_but : (f : ℕ → ℕ) (k n : ℕ) → k < n → total (λ b. (if b == k then 0 else f b)) n + f k ≡ total f n
total_but f k zero less = absurd (omega arith)
total_but f k (suc n) less = elim (cases_eq n k) [
  | inl same ↦
      (let below = total_same (λ b. (if b == k then 0 else f b)) f n (λ b under. but_one f k b (omega (arith, same))) in
      let last = ap (λ m. (if m == k then 0 else f m)) same ∙ this_one f k in
      let at = ap f same in
      omega arith)
  | inr other ↦
      (let below = total_but f k n (omega (arith, other)) in
      let last = but_one f k n other in
      omega arith)
]

meets_below : (levels leaf n k : ℕ) → leaf < 2 ^ levels → n ≤ k → k ≤ levels
    → meets levels leaf n (bucket_of levels leaf k) ≡ false
meets_below levels leaf zero k within less in_k = refl
meets_below levels leaf (suc n) k within less in_k = elim
    (eqb_tells (bucket_of levels leaf k) (bucket_of levels leaf n)) [
      | inl same ↦ absurd (bucket_of-apart levels leaf leaf k n (λ e. omega (arith, e)) in_k
          (omega arith) within within same.1)
      | inr other ↦ rw other.0 (meets_below levels leaf n k within (omega arith) in_k)
    ]

-- the buckets of a path, and those off it, are all buckets
total_path : (levels leaf buckets : ℕ) (f : ℕ → ℕ) (n : ℕ) → leaf < 2 ^ levels
    → ((k : ℕ) → k ≤ levels → bucket_of levels leaf k < buckets) → n ≤ levels + 1
    → total (λ b. (if meets levels leaf n b then 0 else f b)) buckets + total
    (λ k. f (bucket_of levels leaf k)) n ≡ total f buckets
total_path levels leaf buckets f zero within inside few = omega arith
total_path levels leaf buckets f (suc n) within inside few =
    let before = total_path levels leaf buckets f n within inside (omega arith) in
    let one = total_but (λ b. (if meets levels leaf n b then 0 else f b)) (bucket_of levels leaf n) buckets
    (inside n (omega arith)) in
    let here : (if meets levels leaf n (bucket_of levels leaf n) then 0 else f (bucket_of levels leaf n)) ≡ f
    (bucket_of levels leaf n) =
    ap (λ b. (if b then 0 else f (bucket_of levels leaf n)))
    (meets_below levels leaf n n within (omega arith) (omega arith)) in
    let same = total_same (λ b. (if meets levels leaf (suc n) b then 0 else f b))
    (λ b. (if b == bucket_of levels leaf n then 0 else (if meets levels leaf n b then 0 else f b))) buckets
    (λ b less. split b (b == bucket_of levels leaf n)) in
    omega arith
  where
    split : (b : ℕ) (t : Bool) → (if (if t then true else meets levels leaf n b) then 0 else f b) ≡
        (if t then 0 else (if meets levels leaf n b then 0 else f b))
    split b true = refl
    split b false = refl

-- copies in lists
pub copies_cons : (a : ℕ) (e : Entry) (es : List Entry)
    → copies a (e ∷ es) ≡ (if is_copy a e then 1 else 0) + copies a es
copies_cons a e es = both (is_copy a e) refl
  where
    both : (b : Bool) → is_copy a e ≡ b → copies a (e ∷ es) ≡ (if b then 1 else 0) + copies a es
    both true is = count_by-yes (is_copy a) e es is
    both false is = count_by-no (is_copy a) e es is

pub copies_append : (a : ℕ) (xs ys : List Entry) → copies a (xs ++ ys) ≡ copies a xs + copies a ys
copies_append a [] ys = omega arith
copies_append a (x ∷ xs) ys =
    let before = copies_append a xs ys in
    let whole = copies_cons a x (xs ++ ys) in
    let part = copies_cons a x xs in
    omega arith

pub copies_of_path : (keys : Keys) (a : ℕ) (r : ℕ → List ℕ) (from n : ℕ)
    → copies a (flat_map entries_of (map (opened keys.pads keys.shape) (map r (range_with_len from n)))) ≡ total
    (λ k. copies a (entries_in keys (r (from + k)))) n
copies_of_path keys a r from zero = refl
copies_of_path keys a r from (suc n) =
    let before = copies_of_path keys a r (from + 1) n in
    let parts = copies_append a (entries_in keys (r from))
    (flat_map entries_of (map (opened keys.pads keys.shape) (map r (range_with_len (from + 1) n)))) in
    let first = total_first (λ k. copies a (entries_in keys (r (from + k)))) n in
    let zeroth : copies a (entries_in keys (r (from + 0))) ≡ copies a (entries_in keys (r from)) = ap
    (λ m. copies a (entries_in keys (r m))) (omega arith) in
    let rest : total (λ k. copies a (entries_in keys (r (from + 1 + k)))) n ≡ total
    (λ k. copies a (entries_in keys (r (from + suc k)))) n = total_same _ _ n
    (λ k less. ap (λ m. copies a (entries_in keys (r m))) (omega arith)) in
    parts ∙ ap (λ m. copies a (entries_in keys (r from)) + m) (before ∙ rest)
    ∙ ap (λ m. m + total (λ k. copies a (entries_in keys (r (from + suc k)))) n) (sym zeroth) ∙ sym first

-- the buckets after a path is written
abbrev written : Keys → ℕ → Contents → List (List ℕ)
written keys leaf now = sealed keys.pads keys.shape.levels leaf now.seed now.hand now.mirror (keys.shape.levels + 1)

module _ (keys : Keys) (lawful : AreKeys keys) where
  pub path_inside : (leaf k : ℕ) → leaf < 2 ^ keys.shape.levels → k ≤ keys.shape.levels
      → bucket_of keys.shape.levels leaf k < keys.shape.buckets
  path_inside leaf k within less = omega (
    arith,
    (shape_layered keys.shape lawful.shape).buckets,
    buckets_are
        keys.shape.levels,
    bucket_of-lt keys.shape.levels leaf k less within,
  )

  -- the copies of a tree are those off a path and those on it
  pub tree_split : (mirror : List (List ℕ)) (leaf a : ℕ) → leaf < 2 ^ keys.shape.levels
      → tree_copies keys (Some leaf) mirror a + total (λ k. copies a
      (entries_at keys mirror (bucket_of keys.shape.levels leaf k)))
      (keys.shape.levels + 1) ≡ tree_copies keys None mirror a
  tree_split mirror leaf a within =
      total_path keys.shape.levels leaf keys.shape.buckets (λ b. copies a (entries_at keys mirror b))
      (keys.shape.levels + 1) within (λ k less. path_inside leaf k within less) (omega arith)

  -- a path read without an altered reply moves its entries from the tree to the hand
  pub home_read : (g : Ghost) (now : Contents) (start leaf : ℕ) (joined : List Entry) (dummies : ℕ)
      → leaf < 2 ^ keys.shape.levels → g.path ≡ None → IsReadTo keys.pads keys.shape start leaf [] now joined
      → Home keys g now → Home keys (record g { path = Some leaf; dummies = dummies }) (record now { hand = joined })
  home_read g now start leaf joined dummies within shut read home a inside =
      let r : ℕ → List ℕ = λ level. get_or now.mirror (bucket_of keys.shape.levels leaf level) [] in
      let came = flat_map entries_of (map (opened keys.pads keys.shape)
      (replies keys.shape.levels start leaf now.mirror [])) in
      let whole : joined ≡ now.hand ++ came = buckets-joined keys.shape.levels leaf 0
      (map (opened keys.pads keys.shape) (replies keys.shape.levels start leaf now.mirror [])) now.hand joined read
      in
      let grown : copies a joined ≡ copies a now.hand + copies a came = ap (copies a) whole
      ∙ copies_append a now.hand came in
      let path : copies a came ≡ total (λ k. copies a (entries_in keys (r (0 + k))))
      (keys.shape.levels + 1) = copies_of_path keys a r 0 (keys.shape.levels + 1) in
      let plain : total (λ k. copies a (entries_in keys (r (0 + k)))) (keys.shape.levels + 1) ≡ total
      (λ k. copies a (entries_at keys now.mirror (bucket_of keys.shape.levels leaf k))) (keys.shape.levels + 1) =
      total_same _ _ (keys.shape.levels + 1) (λ k less. ap (λ m. copies a (entries_in keys (r m))) (omega arith)) in
      let split = tree_split now.mirror leaf a within in
      let old : copies a now.hand + (tree_copies keys None now.mirror a +
      (count_by (λ b. b == a) g.held + flying a g.flight)) ≡ (if is_first (g.count a) then 0 else 1) =
      subst (λ p. copies a now.hand + (tree_copies keys p now.mirror a +
      (count_by (λ b. b == a) g.held + flying a g.flight)) ≡ (if is_first (g.count a) then 0 else 1)) shut
      (home a inside) in
      adds (copies a joined) (copies a now.hand) (copies a came) (tree_copies keys (Some leaf) now.mirror a)
      (tree_copies keys None now.mirror a) _ grown
      (ap (λ m. tree_copies keys (Some leaf) now.mirror a + m) (path ∙ plain) ∙ split) ∙ old
    where
      adds : (joined hand came off shut rest : ℕ) → joined ≡ hand + came → off + came ≡ shut
          → joined + (off + rest) ≡ hand + (shut + rest)
      adds joined hand came off shut rest p q = omega arith

  -- a path write moves entries from the hand to the tree
  pub home_write : (g : Ghost) (now : Contents) (leaf : ℕ) → leaf < 2 ^ keys.shape.levels → g.path ≡ Some leaf
      → AreOfShape keys.shape now.hand → length now.mirror ≡ keys.shape.buckets → 0 < now.seed → HasSeeds now
      → Home keys g now → Home keys (closed g) (after_write keys.pads keys.shape.levels leaf now)
  home_write g now leaf within opened_at_leaf of_shape mirrored some below home a inside =
      let old : copies a now.hand + (tree_copies keys (Some leaf) now.mirror a +
      (count_by (λ b. b == a) g.held + flying a g.flight)) ≡ (if is_first (g.count a) then 0 else 1) =
      subst (λ p. copies a now.hand + (tree_copies keys p now.mirror a +
      (count_by (λ b. b == a) g.held + flying a g.flight)) ≡ (if is_first (g.count a) then 0 else 1))
      opened_at_leaf (home a inside) in
      let split = tree_split (written keys leaf now) leaf a within in
      let off : tree_copies keys (Some leaf) (written keys leaf now) a ≡ tree_copies keys
      (Some leaf) now.mirror a = total_same _ _ keys.shape.buckets
      (λ b less. off_at b (meets keys.shape.levels leaf (keys.shape.levels + 1) b) refl) in
      let on : total (λ k. copies a (entries_at keys (written keys leaf now) (bucket_of keys.shape.levels leaf k)))
      (keys.shape.levels + 1) ≡ copies_to (is_copy a) keys.shape.levels leaf now.hand (keys.shape.levels + 1) =
      total_same _ _ (keys.shape.levels + 1) (λ k less. ap (copies a) (on_at k (omega (arith, less))))
      ∙ placed_sum (keys.shape.levels + 1) in
      let parted = copies_add_up (is_copy a) keys.shape.levels leaf now.hand in
      adds (copies a (stays keys.shape.levels leaf now.hand))
      (copies_to (is_copy a) keys.shape.levels leaf now.hand (keys.shape.levels + 1)) (copies a now.hand)
      (tree_copies keys (Some leaf) now.mirror a) (tree_copies keys None (written keys leaf now) a) _ parted
      (ap₂ (λ x y. x + y) (sym off) (sym on) ∙ split) ∙ old
    where
      adds : (stay placed hand off shut rest : ℕ) → stay + placed ≡ hand → off + placed ≡ shut
          → stay + (shut + rest) ≡ hand + (off + rest)
      adds stay placed hand off shut rest p q = omega arith

      placed_sum : (n : ℕ) → total (λ k. copies a (flat_map option_to_list
          (slots_at keys.shape.levels leaf now.hand k))) n ≡ copies_to (is_copy a) keys.shape.levels leaf now.hand n
      placed_sum zero = refl
      placed_sum (suc n) = ap (λ m. m + copies a (flat_map option_to_list
          (slots_at keys.shape.levels leaf now.hand n))) (placed_sum n)

      meets_all : (n level b : ℕ) → level < n → b ≡ bucket_of keys.shape.levels leaf level
          → meets keys.shape.levels leaf n b ≡ true
      meets_all zero level b less is = absurd (omega arith)
      meets_all (suc n) level b less is = elim (eqb_tells b (bucket_of keys.shape.levels leaf n)) [
        | inl same ↦ rw same.0 refl
        | inr other ↦ rw other.0 (meets_all n level b (below_n (cases_eq level n) other.1) is)
      ]
        where
          below_n : (level ≡ n) ⊎ (level ≡ n → ⊥) → (b ≡ bucket_of keys.shape.levels leaf n → ⊥) → level < n
          below_n (inl same) never = absurd (never (is ∙ ap (bucket_of keys.shape.levels leaf) same))
          below_n (inr apart) never = omega (arith, apart)

      off_at : (b : ℕ) (t : Bool) → meets keys.shape.levels leaf (keys.shape.levels + 1) b ≡ t
          → (if meets keys.shape.levels leaf (keys.shape.levels + 1) b then 0 else copies a
          (entries_at keys (written keys leaf now) b)) ≡
          (if meets keys.shape.levels leaf (keys.shape.levels + 1) b then 0 else copies a
          (entries_at keys now.mirror b))
      off_at b true is = ap (λ t. (if t then 0 else copies a (entries_at keys (written keys leaf now) b))) is
          ∙ sym (ap (λ t. (if t then 0 else copies a (entries_at keys now.mirror b))) is)
      off_at b false is =
          let kept = sealed-off keys.pads keys.shape.levels leaf now.seed now.hand now.mirror (keys.shape.levels + 1) b
          (λ level less same. (let both : true ≡ false = sym
          (meets_all (keys.shape.levels + 1) level b less (sym same)) ∙ is in cc)) in
          let same : get_or (sealed keys.pads keys.shape.levels leaf now.seed now.hand now.mirror
          (keys.shape.levels + 1)) b [] ≡ get_or now.mirror b [] =
          sym (unwrap_or-slice_get (sealed keys.pads keys.shape.levels leaf now.seed now.hand now.mirror
          (keys.shape.levels + 1)) b []) ∙ ap (λ o. unwrap_or o []) kept
          ∙ unwrap_or-slice_get now.mirror b [] in
          ap (λ t. (if meets keys.shape.levels leaf (keys.shape.levels + 1) b then 0 else copies a
          (entries_in keys t))) same

      on_at : (level : ℕ) → level ≤ keys.shape.levels → entries_at keys (written keys leaf now)
          (bucket_of keys.shape.levels leaf level) ≡ flat_map option_to_list
          (slots_at keys.shape.levels leaf now.hand level)
      on_at level less =
          let there : bucket_of keys.shape.levels leaf level < length now.mirror = omega
          (arith, mirrored, path_inside leaf level within less) in
          let text = sealed-on keys.pads keys.shape.levels leaf now.seed now.hand now.mirror
          (keys.shape.levels + 1) level (omega arith) (omega arith) within there in
          let bytes = get_or_from_slice_get (sealed keys.pads keys.shape.levels leaf now.seed now.hand now.mirror
          (keys.shape.levels + 1)) (bucket_of keys.shape.levels leaf level)
          (bucket_text keys.pads (now.seed + level) (slots_at keys.shape.levels leaf now.hand level)) [] text in
          ap entries_of (ap (opened keys.pads keys.shape) bytes
          ∙ opened-sealed keys.pads keys.shape leaf (now.seed + level) level now.hand (omega arith)
          (omega (arith, (shape_layered keys.shape lawful.shape).levels_to)) of_shape)
