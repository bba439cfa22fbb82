-- The buckets of the path to a leaf, and those that two paths share.
use Rattle.std.specs.Prelude.{◌↔◌}
use Rattle.std.proofs.Common.{◌≡◌, ◌≢◌, ℕ, zero, suc, ◌+◌, ◌-◌, ◌*◌, ◌/◌, ◌^◌, ◌<◌, ◌≤◌, ◌⊎◌, ◌==◌, sym, ◌∙◌, ap, inl}
use Rattle.std.proofs.Common.{inr, arith, add-one}
use Rattle.std.proofs.Math.Nat.{two-pow-succ, div-lt_iff_lt-mul}
use Rattle.std.proofs.Math.Pow.{pow_mono}
use Rattle.std.proofs.lemmas.Bool.{cases_lt, eqb-true, eqb-false, eq-eqb, ne_eqb}
use Rattle.std.proofs.lemmas.Nat.{pow_pos, pow-add, shr-shr}
use Rattle.asc_base.specs.Greatest.{greatest}
use Rattle.asc_base.specs.TreeShape.{bucket_of, shared_of, buckets_of}
use Rattle.asc_base.proofs.Extremes.{greatest_is, greatest-le, greatest_found, greatest_above}

-- the place of a path's bucket in its level
pub place-lt : (levels leaf level : ℕ) → level ≤ levels → leaf < 2 ^ levels → leaf / 2 ^ (levels - level) < 2 ^ level
place-lt levels leaf level within below =
    let parts : 2 ^ level * 2 ^ (levels - level) ≡ 2 ^ levels =
    sym (pow-add 2 level (levels - level)) ∙ ap (λ n. 2 ^ n) (omega arith) in
    (div-lt_iff_lt-mul {k = 2 ^ (levels - level)} {x = leaf} {y = 2 ^ level} (pow_pos (levels - level))).1
    (rw parts below)

-- the buckets of a level stand between those above and those below
pub bucket_of-bounds : (levels leaf level : ℕ) → level ≤ levels → leaf < 2 ^ levels
    → (2 ^ level ≤ bucket_of levels leaf level + 1) × (bucket_of levels leaf level + 1 < 2 ^ (level + 1))
unfolding bucket_of
bucket_of-bounds levels leaf level within below =
    let place = place-lt levels leaf level within below in
    let some = pow_pos level in
    let twice : 2 ^ (level + 1) ≡ 2 ^ level + 2 ^ level = rw add-one (two-pow-succ level) in
    (omega arith, omega arith)

-- they are buckets of the tree
pub bucket_of-lt : (levels leaf level : ℕ) → level ≤ levels → leaf < 2 ^ levels
    → bucket_of levels leaf level < buckets_of levels
unfolding buckets_of
bucket_of-lt levels leaf level within below =
    omega (
      arith,
      (bucket_of-bounds levels leaf level within below).1,
      pow_mono {i = level + 1} {j = levels + 1} (omega arith),
    )

-- and rise with the level
pub bucket_of-rises : (levels leaf low high : ℕ) → low < high → high ≤ levels → leaf < 2 ^ levels
    → bucket_of levels leaf low < bucket_of levels leaf high
bucket_of-rises levels leaf low high under within below =
    omega (
      arith,
      (bucket_of-bounds levels leaf low (omega arith) below).1,
      (bucket_of-bounds levels leaf high within below).0,
      pow_mono {i = low + 1} {j = high} (omega arith),
    )

-- paths whose buckets at a level are one have one bucket at the level above
pub bucket_of-above : (levels x y level : ℕ) → level + 1 ≤ levels
    → bucket_of levels x (level + 1) ≡ bucket_of levels y (level + 1)
    → bucket_of levels x level ≡ bucket_of levels y level
unfolding bucket_of
bucket_of-above levels x y level within same =
    let places : x / 2 ^ (levels - (level + 1)) ≡ y / 2 ^ (levels - (level + 1)) = omega arith in
    let halves = ap (λ n. n / 2 ^ 1) places in
    let further : (levels - (level + 1)) + 1 ≡ levels - level = omega arith in
    let step : (leaf : ℕ) → leaf / 2 ^ (levels - (level + 1)) / 2 ^ 1 ≡ leaf / 2 ^ (levels - level) =
    λ leaf. shr-shr leaf (levels - (level + 1)) 1 ∙ ap (λ n. leaf / 2 ^ n) further in
    let one : x / 2 ^ (levels - level) ≡ y / 2 ^ (levels - level) = sym (step x) ∙ halves ∙ step y in
    ap (λ n. (2 ^ level - 1) + n) one

pub bucket_of-same : (levels x y low high : ℕ) → low ≤ high → high ≤ levels
    → bucket_of levels x high ≡ bucket_of levels y high → bucket_of levels x low ≡ bucket_of levels y low
bucket_of-same levels x y low zero under within same = (let e : low ≡ 0 = omega arith in rw e same)
bucket_of-same levels x y low (suc high) under within same =
    elim (cases_lt low (suc high)) [
      | inl below ↦ bucket_of-same levels x y low high (omega arith) (omega arith)
          (bucket_of-above levels x y high (omega arith) (rw add-one same))
      | inr last ↦ (let e : low ≡ suc high = omega arith in rw e same)
    ]

-- all paths have the root
pub bucket_of-zero : (levels leaf : ℕ) → leaf < 2 ^ levels → bucket_of levels leaf 0 ≡ 0
bucket_of-zero levels leaf below = omega (arith, (bucket_of-bounds levels leaf 0 (omega arith) below).1)

-- two paths share the buckets of the levels up to the greatest shared one
pub shared_of-le : (levels x y : ℕ) → shared_of levels x y ≤ levels
unfolding shared_of
shared_of-le levels x y = greatest-le (λ level. bucket_of levels x level == bucket_of levels y level) levels

pub shared_of_same : (levels x y : ℕ) → x < 2 ^ levels → y < 2 ^ levels
    → bucket_of levels x (shared_of levels x y) ≡ bucket_of levels y (shared_of levels x y)
unfolding shared_of
shared_of_same levels x y in_x in_y =
    elim (greatest_found (λ level. bucket_of levels x level == bucket_of levels y level) levels) [
      | inl root ↦ rw root (bucket_of-zero levels x in_x ∙ sym (bucket_of-zero levels y in_y))
      | inr found ↦ eqb-true _ _ found
    ]

pub shared_of-ge : (levels x y level : ℕ) → level ≤ levels → bucket_of levels x level ≡ bucket_of levels y level
    → level ≤ shared_of levels x y
unfolding shared_of
shared_of-ge levels x y level within same =
    elim (cases_lt (greatest (λ level. bucket_of levels x level == bucket_of levels y level) levels) level) [
      | inl under ↦
          absurd (eqb-false _ _ (greatest_above (λ level. bucket_of levels x level == bucket_of levels y level)
          levels level under within) same)
      | inr over ↦ over
    ]

-- the level is the greatest, where it is the root's or its buckets are one, and the buckets below differ
pub shared_of_is : (levels x y level : ℕ) → level ≤ levels
    → (level ≡ 0) ⊎ (bucket_of levels x level ≡ bucket_of levels y level)
    → ((above : ℕ) → level < above → above ≤ levels → bucket_of levels x above ≢ bucket_of levels y above)
    → shared_of levels x y ≡ level
unfolding shared_of
shared_of_is levels x y level within here differ =
    greatest_is (λ level. bucket_of levels x level == bucket_of levels y level) levels level within
    (elim here [ inl root ↦ inl root | inr same ↦ inr (eq-eqb _ _ same) ])
    (λ above over up_to. ne_eqb _ _ (differ above over up_to))

-- buckets of two levels are two
pub bucket_of-apart : (levels x y low high : ℕ) → low ≢ high → low ≤ levels → high ≤ levels → x < 2 ^ levels
    → y < 2 ^ levels
    → bucket_of levels x low ≢ bucket_of levels y high
bucket_of-apart levels x y low high other in_low in_high in_x in_y same =
    elim (cases_lt low high) [
      | inl under ↦ omega (
        arith,
        (bucket_of-bounds levels x low in_low in_x).1,
        (bucket_of-bounds levels y high in_high in_y).0,
        pow_mono {i = low + 1} {j = high} (omega arith),
      )
      | inr over ↦ omega (
        arith,
        (bucket_of-bounds levels y high in_high in_y).1,
        (bucket_of-bounds levels x low in_low in_x).0,
        pow_mono {i = high + 1} {j = low} (omega arith),
      )
    ]

-- paths share a bucket of a level exactly where it isn't deeper than their greatest shared one
pub shared_iff : (levels x y level : ℕ) → x < 2 ^ levels → y < 2 ^ levels → level ≤ levels
    → (bucket_of levels x level ≡ bucket_of levels y level) ↔ (level ≤ shared_of levels x y)
shared_iff levels x y level in_x in_y within = (
  shared_of-ge levels x y level within,
  λ up_to. bucket_of-same levels x y level (shared_of levels x y) up_to (shared_of-le levels x y)
      (shared_of_same levels x y in_x in_y),
)
