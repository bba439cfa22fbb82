-- What a path write leaves in each bucket, and what a path read joins.
use Rattle.std.proofs.Common.{◌≡◌, ◌≢◌, ◌<◌, ◌≤◌, ◌+◌, ◌^◌, ℕ, zero, suc, inl, inr}
use Rattle.std.proofs.Common.{List, [], ◌∷◌, length, set, slice_get, All, Option, None, Some, Ok, refl, sym, ◌∙◌, ap}
use Rattle.std.proofs.Common.{subst, arith}
use Rattle.std.proofs.Math.ListN.{length-set}
use Rattle.std.proofs.lemmas.Bool.{cases_lt}
use Rattle.std.proofs.lemmas.List.Elements.{All-cons}
use Rattle.asc_base.specs.TreeShape.{bucket_of}
use Rattle.asc_base.specs.declared.block.Entry.{Entry}
use Rattle.asc_base.specs.declared.shape.Shape.{Shape}
use Rattle.asc_base.proofs.Paths.{bucket_of-apart}
use Rattle.bucket_codec.specs.Bucket.{bucket_text, opened}
use Rattle.bucket_codec.specs.Slot.{IsSlot, IsEntry, IsInRange}
use Rattle.bucket_codec.proofs.Buckets.{opened_bucket}
use Rattle.path_evict.specs.Placed.{where_placed}
use Rattle.path_evict.proofs.Placed.{All-where_placed}
use Rattle.path_evict.specs.Placement.{stands_at}
use Rattle.oram_contents.specs.Shapes.{AreOfShape}
use Rattle.oram_contents.specs.PathWritten.{places_of, four_slots, slots_at, sealed}

All-rest : {X : Type 0} (P : X → Type 0) (x : X) (xs : List X) → All P (x ∷ xs) → All P xs
All-rest P x xs all = λ k d less. all (suc k) d (omega arith)

All-first : {X : Type 0} (P : X → Type 0) (x : X) (xs : List X) → All P (x ∷ xs) → P x
All-first P x xs all = all 0 x (omega arith)

at_slice : (P : Entry → Type 0) (Q : Option Entry → Type 0) → Q None → ((e : Entry) → P e → Q (Some e))
    → (es : List Entry) → All P es → (i : ℕ) → Q (slice_get es i)
at_slice P Q none some [] all i = none
at_slice P Q none some (e ∷ es) all zero = some e (All-first P e es all)
at_slice P Q none some (e ∷ es) all (suc i) = at_slice P Q none some es (All-rest P e es all) i

All-four : (P : Entry → Type 0) (Q : Option Entry → Type 0) → Q None → ((e : Entry) → P e → Q (Some e))
    → (es : List Entry) → All P es → All Q (four_slots es)
All-four P Q none some es all =
    let at = at_slice P Q none some es all in
    All-cons Q (slice_get es 0) (slice_get es 1 ∷ slice_get es 2 ∷ slice_get es 3 ∷ []) (at 0)
    (All-cons Q (slice_get es 1) (slice_get es 2 ∷ slice_get es 3 ∷ []) (at 1)
    (All-cons Q (slice_get es 2) (slice_get es 3 ∷ []) (at 2)
    (All-cons Q (slice_get es 3) [] (at 3) (λ k d less. absurd (omega arith)))))

-- what is written of entries of the shape is opened again
pub opened-sealed : (key : List ℕ) (shape : Shape) (leaf seed level : ℕ) (hand : List Entry) → 0 < seed → seed < 2 ^ 64
    → AreOfShape shape hand
    → opened key shape (bucket_text key seed (slots_at shape.levels leaf hand level)) ≡ Ok
    (slots_at shape.levels leaf hand level)
opened-sealed key shape leaf seed level hand some below all =
    let P : Entry → Type 0 = λ e. IsEntry e × IsInRange shape (Some e) in
    let entries = where_placed (stands_at level) (places_of shape.levels leaf hand) hand in
    let kept = All-where_placed P (stands_at level) (places_of shape.levels leaf hand) hand all in
    opened_bucket key shape seed (four_slots entries) some below
    (record { four = refl; each = All-four P IsSlot tt (λ e p. p.0) entries kept })
    (All-four P (IsInRange shape) tt (λ e p. p.1) entries kept)

get-set : {X : Type 0} (xs : List X) (i : ℕ) (x : X) → i < length xs → slice_get (set xs i x) i ≡ Some x
get-set [] i x less = absurd (omega arith)
get-set (y ∷ xs) zero x less = refl
get-set (y ∷ xs) (suc i) x less = get-set xs i x (omega arith)

get-set-other : {X : Type 0} (xs : List X) (i j : ℕ) (x : X) → i ≢ j → slice_get (set xs i x) j ≡ slice_get xs j
get-set-other [] i j x other = refl
get-set-other (y ∷ xs) zero zero x other = absurd (other refl)
get-set-other (y ∷ xs) zero (suc j) x other = refl
get-set-other (y ∷ xs) (suc i) zero x other = refl
get-set-other (y ∷ xs) (suc i) (suc j) x other = get-set-other xs i j x (λ e. other (ap suc e))

module _ (key : List ℕ) (levels leaf seed : ℕ) (hand : List Entry) (mirror : List (List ℕ)) where
  pub sealed-length : (n : ℕ) → length (sealed key levels leaf seed hand mirror n) ≡ length mirror
  unfolding sealed
  sealed-length zero = refl
  sealed-length (suc n) = length-set (sealed key levels leaf seed hand mirror n) (bucket_of levels leaf n)
      (bucket_text key (seed + n) (slots_at levels leaf hand n)) ∙ sealed-length n

  -- a bucket that isn't on the path is as it was
  pub sealed-off : (n b : ℕ) → ((level : ℕ) → level < n → bucket_of levels leaf level ≢ b)
      → slice_get (sealed key levels leaf seed hand mirror n) b ≡ slice_get mirror b
  unfolding sealed
  sealed-off zero b off = refl
  sealed-off (suc n) b off =
      get-set-other (sealed key levels leaf seed hand mirror n) (bucket_of levels leaf n) b
      (bucket_text key (seed + n) (slots_at levels leaf hand n)) (off n (omega arith))
      ∙ sealed-off n b (λ level less. off level (omega arith))

  -- a bucket of the path is sealed, under a seed of its own
  pub sealed-on : (n level : ℕ) → level < n → n ≤ levels + 1 → leaf < 2 ^ levels
      → bucket_of levels leaf level < length mirror
      → slice_get (sealed key levels leaf seed hand mirror n) (bucket_of levels leaf level) ≡ Some
      (bucket_text key (seed + level) (slots_at levels leaf hand level))
  unfolding sealed
  sealed-on zero level less within leaf_in there = absurd (omega arith)
  sealed-on (suc n) level less within leaf_in there = elim (cases_lt level n) [
    | inl under ↦
        get-set-other (sealed key levels leaf seed hand mirror n) (bucket_of levels leaf n)
        (bucket_of levels leaf level) (bucket_text key (seed + n) (slots_at levels leaf hand n))
        (bucket_of-apart levels leaf leaf n level (λ e. omega (arith, e)) (omega arith) (omega arith) leaf_in leaf_in)
        ∙ sealed-on n level under (omega arith) leaf_in there
    | inr over ↦
        let same : level ≡ n = omega arith in
        let inside : bucket_of levels leaf n < length (sealed key levels leaf seed hand mirror n) = omega
        (arith, sealed-length n, ap (bucket_of levels leaf) same) in
        subst (λ l. slice_get (set (sealed key levels leaf seed hand mirror n) (bucket_of levels leaf n)
        (bucket_text key (seed + n) (slots_at levels leaf hand n))) (bucket_of levels leaf l) ≡ Some
        (bucket_text key (seed + l) (slots_at levels leaf hand l)))
        (sym same)
        (get-set (sealed key levels leaf seed hand mirror n) (bucket_of levels leaf n)
        (bucket_text key (seed + n) (slots_at levels leaf hand n)) inside)
  ]
