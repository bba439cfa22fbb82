-- The start is sound and at home.
use Rattle.std.proofs.Common.{◌≡◌, ◌+◌, ◌⊎◌, inl, inr, ℕ, zero, suc, Bool, true, false, if◌then◌else◌}
use Rattle.std.proofs.Common.{List, [], length, map, get_or, replicate, Option, None, Some}
use Rattle.std.proofs.Common.{refl, ◌∙◌, ap, subst, arith, nat_lt}
use Rattle.std.specs.List.{range_with_len}
use Rattle.asc_base.specs.TreeShape.{children_of}
use Rattle.asc_base.specs.declared.block.Counter.{Counter}
use Rattle.asc_base.specs.declared.block.Entry.{Entry}
use Rattle.asc_outside.specs.Memory.{zero_bucket, zero_buckets}
use Rattle.bucket_codec.specs.Bucket.{seed_in, opened}
use Rattle.posmap_counters.specs.Counters.{first_counter}
use Rattle.posmap_counters.specs.Digits.{digits}
use Rattle.posmap_counters.specs.Families.{own_counts}
use Rattle.posmap_counters.specs.Group.{line_of}
use Rattle.oram_contents.specs.Entries.{Keys, entries_in, entries_at}
use Rattle.asc_base.specs.Has.{Has}
use Rattle.oram_contents.specs.Counts.{line_by, zero_line}
use Rattle.oram_contents.specs.Home.{Home, total, copies, tree_copies}
use Rattle.oram_contents.specs.Provenance.{Sound, Always}
use Rattle.oram_contents.specs.Starts.{empty_log, first_ghost, first_contents}
use Rattle.oram_stash.proofs.Apart.{AreApart-nil}

zeros_same : (f : ℕ → ℕ) (n from : ℕ) → ((k : ℕ) → f k ≡ 0)
    → map f (range_with_len from n) ≡ map (λ k. 0) (range_with_len from n)
zeros_same f zero from none = refl
zeros_same f (suc n) from none = let rest = zeros_same f n (from + 1) none in let first = none from in cc

no_own : (b : Bool) → (let x : ℕ = (if b then 0 else 0) in x ≡ 0)
no_own true = refl
no_own false = refl

zero_group : line_of 0 (map (λ k. 0) (range_with_len 0 32)) ≡ zero_line
unfolding line_of digits zero_line
zero_group = refl

first_line : (first number : ℕ) → line_of 0 (own_counts (λ a. first_counter) first number) ≡ zero_line
unfolding own_counts
first_line first number = ap (line_of 0) (zeros_same (λ k.
    (if nat_lt k number then (let c : Counter = first_counter in c).own else 0)) 32 0 (λ k. no_own (nat_lt k number)))
    ∙ zero_group

blank_line : (bytes : List ℕ) (o : Option (ℕ × ℕ)) → bytes ≡ zero_line
    → line_by (λ a. first_counter) bytes o ≡ zero_line
blank_line bytes None is = is
blank_line bytes (Some (first, number)) is = first_line first number

-- a bucket of zero bytes has no entries, nor has one that isn't there
no_seed : seed_in (zero_bucket) ≡ 0
unfolding seed_in zero_bucket
no_seed = refl

no_seed_at_all : seed_in [] ≡ 0
unfolding seed_in
no_seed_at_all = refl

unsown : (keys : Keys) (bytes : List ℕ) → seed_in bytes ≡ 0 → entries_in keys bytes ≡ []
unfolding opened
unsown keys bytes is = rw is refl

zero_at : (n b : ℕ) → (get_or (replicate n (zero_bucket)) b [] ≡ zero_bucket)
    ⊎ (get_or (replicate n (zero_bucket)) b [] ≡ [])
zero_at zero b = inr refl
zero_at (suc n) zero = inl refl
zero_at (suc n) (suc b) = zero_at n b

pub none_at : (keys : Keys) (b : ℕ) → entries_at keys (zero_buckets keys.shape.buckets) b ≡ []
none_at keys b = elim (zero_at keys.shape.buckets b) [
  | inl is ↦ ap (entries_in keys) is ∙ unsown keys (zero_bucket) no_seed
  | inr is ↦ ap (entries_in keys) is ∙ unsown keys [] no_seed_at_all
]

nothing_there : (keys : Keys) (b : ℕ) (e : Entry) → Has e (entries_at keys (zero_buckets keys.shape.buckets) b) → ⊥
nothing_there keys b e h = subst (λ l. Has e l) (none_at keys b) h

no_total : (f : ℕ → ℕ) (n : ℕ) → ((b : ℕ) → f b ≡ 0) → total f n ≡ 0
no_total f zero none = refl
no_total f (suc n) none = let before = no_total f n none in let last = none n in omega arith

length-zeros : (n : ℕ) (x : List ℕ) → length (replicate n x) ≡ n
length-zeros zero x = refl
length-zeros (suc n) x = ap suc (length-zeros n x)

pub start_sound : (keys : Keys) → Sound keys empty_log first_ghost (first_contents keys)
start_sound keys = record {
  fresh = λ m h. absurd h;
  last = λ m h is. absurd h;
  once = tt;
  blank = λ a inside none. blank_line zero_line (children_of keys.shape.lines keys.shape.layers a) refl;
  drawn = λ a c x h. absurd h;
  dummies = λ n x h. absurd h;
  away = λ a is. elim is [ inl h ↦ absurd h | inr at ↦ absurd (let bad : None ≡ Some a = at in cc) ];
  at_hand = λ e h. absurd h;
  in_tree = λ b e off h. absurd (nothing_there keys b e h);
}

pub start_always : (keys : Keys) → Always keys empty_log (first_contents keys)
start_always keys = record {
  placed = λ b e h. absurd (nothing_there keys b e h);
  apart = AreApart-nil;
  of_shape = λ k d less. absurd (omega arith);
  hand_came = λ e h. absurd h;
  tree_came = λ b e h. absurd (nothing_there keys b e h);
  past = λ reply h. absurd h;
  mirrored = length-zeros keys.shape.buckets (zero_bucket);
  seeds = omega arith;
}

pub start_home : (keys : Keys) → Home keys first_ghost (first_contents keys)
start_home keys a inside =
    let none : tree_copies keys None (zero_buckets keys.shape.buckets) a ≡ 0 = no_total
    (λ b. copies a (entries_at keys (zero_buckets keys.shape.buckets) b)) keys.shape.buckets
    (λ b. ap (copies a) (none_at keys b)) in
    ap (λ n. 0 + (n + (0 + 0))) none
