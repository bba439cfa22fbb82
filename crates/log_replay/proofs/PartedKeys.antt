-- Keys under which blocks can't stand below the root where they first are.
use Rattle.std.proofs.Common.{◌≡◌, ◌<◌, ◌≤◌, ◌-◌, ◌+◌, ◌/◌, ◌^◌, inl, inr, ℕ, zero, suc, Bool, true, false}
use Rattle.std.proofs.Common.{if◌then◌else◌, List, length, sym, ◌∙◌, ap, subst, arith}
use Rattle.std.proofs.lemmas.Bool.{cases_lt}
use Rattle.std.proofs.lemmas.Nat.{pow_pos}
use Rattle.std.proofs.Math.Nat.{div_self, div-le_self, two-pow-succ}
use Rattle.asc_base.specs.Shape.{IsShape}
use Rattle.asc_base.specs.TreeShape.{bucket_of, shared_of}
use Rattle.asc_base.specs.declared.block.Counter.{Counter}
use Rattle.asc_base.specs.declared.block.Point.{Point}
use Rattle.asc_base.specs.declared.block.Point.TheVariants.{Real, Dummy}
use Rattle.asc_base.specs.declared.shape.Shape.{Shape}
use Rattle.asc_base.proofs.Paths.{shared_iff}
use Rattle.asc_base.proofs.ShapeFacts.{shape_layered}
use Rattle.oram_contents.specs.Verdict.{is_first}
use Rattle.log_replay.specs.Rows.{AreApartBelow, parted_leaf, parted_keys}

twice : (n : ℕ) → 2 ^ n < 2 ^ suc n
twice n = let some = pow_pos n in omega (arith, two-pow-succ n)

one_less : (n : ℕ) → suc n - 1 ≡ n
one_less n = omega arith

other_half : (n : ℕ) → bucket_of (suc n) (2 ^ n) 1 ≡ 2
unfolding bucket_of
other_half n = ap (λ k. 1 + 2 ^ n / 2 ^ k) (one_less n) ∙ ap (λ q. 1 + q) (div_self (pow_pos n))

first_half : (n : ℕ) → bucket_of (suc n) 0 1 ≡ 1
unfolding bucket_of
first_half n = omega (arith, div-le_self 0 (2 ^ (suc n - 1)))

next_part : (n : ℕ) → shared_of (suc n) (2 ^ n) 0 ≡ 0
next_part n = elim (cases_lt 0 (shared_of (suc n) (2 ^ n) 0)) [
  | inl more ↦ absurd (omega (
    arith,
    other_half n,
    first_half n,
    (shared_iff (suc n) (2 ^ n) 0 1 (twice n) (pow_pos (suc n)) (omega arith)).1 (omega (arith, more)),
  ))
  | inr none ↦ omega (arith, none)
]

halves_part : (levels : ℕ) → 1 ≤ levels → shared_of levels (2 ^ (levels - 1)) 0 ≡ 0
halves_part zero some = absurd (omega arith)
halves_part (suc n) some = ap (λ k. shared_of (suc n) (2 ^ k) 0) (one_less n) ∙ next_part n

half_below : (levels : ℕ) → 1 ≤ levels → 2 ^ (levels - 1) < 2 ^ levels
half_below zero some = absurd (omega arith)
half_below (suc n) some = subst (λ k. 2 ^ k < 2 ^ suc n) (sym (one_less n)) (twice n)

pub parted : (shape : Shape) (c : Counter) (l tag : List ℕ) → IsShape shape → 4 < shape.total → is_first c ≡ false
    → length l ≡ 64 → length tag ≡ 16 → AreApartBelow (parted_keys shape) c (2 ^ (shape.levels - 1)) l tag
parted shape c l tag is blocks later line tagged =
    let some : 1 ≤ shape.levels = (shape_layered shape is).levels_from in record {
      lawful = record { shape = is; leaves = below };
      blocks = blocks;
      within = half_below shape.levels some;
      line = line;
      tagged = tagged;
      others = halves_part shape.levels some;
      again = ap (λ (b : Bool). shared_of shape.levels (if b then 0 else 2 ^ (shape.levels - 1)) 0) later
          ∙ halves_part shape.levels some;
    }
  where
    by_test : (b : Bool) → (if b then 0 else 2 ^ (shape.levels - 1)) < 2 ^ shape.levels
    by_test true = pow_pos shape.levels
    by_test false = half_below shape.levels (shape_layered shape is).levels_from

    below : (p : Point) → parted_leaf shape.levels p < 2 ^ shape.levels
    below (Real a d) = by_test (is_first d)
    below (Dummy n) = pow_pos shape.levels
