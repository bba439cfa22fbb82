-- Over buckets that were never written a path is read to an empty hand, and where the root's reply is altered to what
-- stands in it.
use Rattle.std.proofs.Common.{◌≡◌, ◌<◌, ◌≤◌, ◌+◌, ◌*◌, ◌==◌, ◌⊎◌, inl, inr, ℕ, zero, suc}
use Rattle.std.proofs.Common.{Bool, true, false, if◌then◌else◌}
use Rattle.std.proofs.Common.{List, [], ◌∷◌, map, get_or, replicate, Option, Ok, Result, refl, sym, ◌∙◌, ap, arith}
use Rattle.std.proofs.lemmas.Bool.Decides.{eqb_tells}
use Rattle.std.specs.List.{range_with_len}
use Rattle.asc_base.specs.TreeShape.{bucket_of}
use Rattle.asc_base.specs.declared.block.Entry.{Entry}
use Rattle.asc_base.specs.declared.stop.Evidence.{Evidence}
use Rattle.asc_outside.specs.Memory.{zero_bucket, zero_buckets}
use Rattle.bucket_codec.specs.Bucket.{seed_in, opened, empty_slots}
use Rattle.bus_watch.specs.declared.log.Altered.{Altered}
use Rattle.oram_contents.specs.Contents.{Contents, IsReadTo}
use Rattle.oram_contents.specs.Entries.{Keys}
use Rattle.oram_contents.specs.PathRead.{reply_at, then_join, join_slots, join_bucket, join_buckets}
use Rattle.oram_contents.specs.Starts.{first_contents}

no_seed : seed_in zero_bucket ≡ 0
unfolding seed_in zero_bucket
no_seed = refl

no_seed_at_all : seed_in [] ≡ 0
unfolding seed_in
no_seed_at_all = refl

zero_at : (n b : ℕ) → (get_or (replicate n zero_bucket) b [] ≡ zero_bucket)
    ⊎ (get_or (replicate n zero_bucket) b [] ≡ [])
zero_at zero b = inr refl
zero_at (suc n) zero = inl refl
zero_at (suc n) (suc b) = zero_at n b

module _ (keys : Keys) where
  unsown : (bytes : List ℕ) → seed_in bytes ≡ 0 → opened keys.pads keys.shape bytes ≡ Ok empty_slots
  unfolding opened
  unsown bytes is = rw is refl

  -- a bucket of zero bytes has four empty slots, and so has one that isn't there
  pub opens_empty : (n b : ℕ) → opened keys.pads keys.shape (get_or (replicate n zero_bucket) b []) ≡ Ok empty_slots
  opens_empty n b = elim (zero_at n b) [
    | inl is ↦ ap (opened keys.pads keys.shape) is ∙ unsown zero_bucket no_seed
    | inr is ↦ ap (opened keys.pads keys.shape) is ∙ unsown [] no_seed_at_all
  ]

  joins_none : (start leaf level from many : ℕ)
      → join_buckets keys.shape.levels leaf level (map (opened keys.pads keys.shape)
      (map (λ l. reply_at (zero_buckets keys.shape.buckets) [] (start + 40 * l)
      (bucket_of keys.shape.levels leaf l)) (range_with_len from many))) [] ≡ Ok []
  joins_none start leaf level from zero = refl
  joins_none start leaf level from (suc many) =
      ap (λ r. then_join (join_bucket keys.shape.levels leaf level r []) (join_buckets keys.shape.levels leaf
      (level + 1) (map (opened keys.pads keys.shape) (map (λ l. reply_at (zero_buckets keys.shape.buckets) []
      (start + 40 * l) (bucket_of keys.shape.levels leaf l)) (range_with_len (from + 1) many)))))
      (opens_empty keys.shape.buckets (bucket_of keys.shape.levels leaf from))
      ∙ joins_none start leaf (level + 1) (from + 1) many

  pub read_empty : (start leaf : ℕ) → IsReadTo keys.pads keys.shape start leaf [] (first_contents keys) []
  read_empty start leaf = joins_none start leaf 0 0 (keys.shape.levels + 1)

  pub reads_only_empty : (start leaf : ℕ) (joined : List Entry)
      → IsReadTo keys.pads keys.shape start leaf [] (first_contents keys) joined → joined ≡ []
  reads_only_empty start leaf joined read =
      let none : IsReadTo keys.pads keys.shape start leaf [] (first_contents keys) [] = read_empty start leaf in
      same_hand (sym read ∙ none)
    where
      same_hand : (let left : Result (List Entry) Evidence = Ok joined in left ≡ Ok []) → joined ≡ []
      same_hand is = cc

  -- the root's reply is altered, and the buckets below it on the path are empty
  module _ (leaf start : ℕ) (now : Contents) (reply : Altered) (at : reply.time ≡ start)
      (empty : (level : ℕ) → 0 < level → level ≤ keys.shape.levels
      → opened keys.pads keys.shape (get_or now.mirror (bucket_of keys.shape.levels leaf level) []) ≡ Ok empty_slots)
    where
      abbrev reply_of : ℕ → List ℕ
      reply_of level = reply_at now.mirror (reply ∷ []) (start + 40 * level) (bucket_of keys.shape.levels leaf level)

      abbrev joins : ℕ → List ℕ → List Entry → Result (List Entry) Evidence
      joins level levels hand = join_buckets keys.shape.levels leaf level
          (map (opened keys.pads keys.shape) (map (λ level. reply_of level) levels)) hand

      -- below the root the replies are as written last
      below_root : (level from many : ℕ) (hand : List Entry) → 0 < from → from + many ≤ keys.shape.levels + 1
          → joins level (range_with_len from many) hand ≡ Ok hand
      below_root level from zero hand some within = refl
      below_root level from (suc many) hand some within =
          ap (λ (b : Bool). then_join (join_bucket keys.shape.levels leaf level
          (opened keys.pads keys.shape (if b then reply.bytes else get_or now.mirror
          (bucket_of keys.shape.levels leaf from) [])) hand)
          (joins (level + 1) (range_with_len (from + 1) many))) other_time
          ∙ ap (λ r. then_join (join_bucket keys.shape.levels leaf level r hand)
          (joins (level + 1) (range_with_len (from + 1) many)))
          (empty from some (omega arith))
          ∙ below_root (level + 1) (from + 1) many hand (omega arith) (omega arith)
        where
          other_time : (reply.time == start + 40 * from) ≡ false
          other_time = elim (eqb_tells reply.time (start + 40 * from)) [
            | inl same ↦ absurd (omega (arith, same.1, at, some))
            | inr other ↦ other.0
          ]

      root_time : (reply.time == start + 40 * 0) ≡ true
      root_time = elim (eqb_tells reply.time (start + 40 * 0)) [
        | inl same ↦ same.0
        | inr other ↦ absurd (other.1 (omega (arith, at)))
      ]

      -- then what stands in it joins the hand
      pub read_over : (slots : List (Option Entry)) (joined : List Entry)
          → opened keys.pads keys.shape reply.bytes ≡ Ok slots
          → join_slots keys.shape.levels leaf 0 0 slots now.hand ≡ Ok joined
          → IsReadTo keys.pads keys.shape start leaf (reply ∷ []) now joined
      read_over slots joined opens joined_is =
          let one : keys.shape.levels + 1 ≡ suc keys.shape.levels = omega arith in
          ap (λ n. joins 0 (range_with_len 0 n) now.hand) one
          ∙ ap (λ (b : Bool). then_join (join_bucket keys.shape.levels leaf 0 (opened keys.pads keys.shape
          (if b then reply.bytes else get_or now.mirror (bucket_of keys.shape.levels leaf 0) []))
          now.hand) (joins 1 (range_with_len 1 keys.shape.levels))) root_time
          ∙ ap (λ r. then_join (join_bucket keys.shape.levels leaf 0 r now.hand)
          (joins 1 (range_with_len 1 keys.shape.levels))) opens
          ∙ ap (λ r. then_join r (joins 1 (range_with_len 1 keys.shape.levels))) joined_is
          ∙ below_root 1 1 keys.shape.levels joined (omega arith) (omega arith)

  -- so it is in a first slot
  pub read_altered : (leaf : ℕ) (reply : Altered) → reply.time ≡ 256 → (slots : List (Option Entry))
      (joined : List Entry) → opened keys.pads keys.shape reply.bytes ≡ Ok slots
      → join_slots keys.shape.levels leaf 0 0 slots [] ≡ Ok joined
      → IsReadTo keys.pads keys.shape 256 leaf (reply ∷ []) (first_contents keys) joined
  read_altered leaf reply at slots joined opens joined_is =
      read_over leaf 256 (first_contents keys) reply at
      (λ level some within. opens_empty keys.shape.buckets (bucket_of keys.shape.levels leaf level)) slots joined opens
      joined_is
