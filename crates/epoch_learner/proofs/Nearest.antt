-- The nearest of rates.
use Rattle.std.specs.Prelude.{nat_le}
use Rattle.std.specs.Int.{abs_diff}
use Rattle.std.specs.List.Sorted.{IsStrictlyIncreasing}
use Rattle.std.proofs.Common.{◌≡◌, ℕ, zero, suc, ◌+◌, ◌-◌, ◌<◌, ◌≤◌, true, List, length, take, arith, refl, inl, inr}
use Rattle.std.proofs.lemmas.Bool.{cases_lt, cases_Bool, le-leb, leb-true}
use Rattle.std.proofs.lemmas.List.{length-take-le, get_or-take, get_or_default}
use Rattle.std.proofs.lemmas.List.Sums.{AllPass-from_list_all, list_all-from_AllPass}
use Rattle.asc_base.proofs.Extremes.{least_is}
use Rattle.bus_schedule.specs.Timetable.{rate_at}
use Rattle.epoch_learner.specs.LearnerRule.{is_nearest, nearest}

-- how far a number is from the rate with an index
abbrev pub far : List ℕ → ℕ → ℕ → ℕ
far rates number index = abs_diff number (rate_at rates index)

-- Of the first so many rates none is nearer than the one with an index, and each with a lower index is farther.
pub record IsFirstNearest (rates : List ℕ) (number count index : ℕ) : Type 0 where
  pub none_nearer : (k : ℕ) → k < count → far rates number index ≤ far rates number k
  pub first : (k : ℕ) → k < index → far rates number index < far rates number k

-- the test of being nearest, by its index
pub nearest_passes : (rates : List ℕ) (number index : ℕ)
    → ((k : ℕ) → k < length rates → far rates number index ≤ far rates number k) → is_nearest rates number index ≡ true
nearest_passes rates number index h =
    list_all-from_AllPass (λ rate. nat_le (far rates number index) (abs_diff number rate)) rates
    (λ k d below. rw (get_or_default rates k d 0 below) (le-leb _ _ (h k below)))

pub passes_nearest : (rates : List ℕ) (number index k : ℕ) → is_nearest rates number index ≡ true → k < length rates
    → far rates number index ≤ far rates number k
passes_nearest rates number index k e below =
    leb-true _ _
    (AllPass-from_list_all (λ rate. nat_le (far rates number index) (abs_diff number rate)) rates e k 0 below)

-- the nearest rate is the first nearest
pub nearest_is : (rates : List ℕ) (number index : ℕ) → index < length rates
    → IsFirstNearest rates number (length rates) index → nearest rates number ≡ index
unfolding nearest
nearest_is rates number index within h =
    least_is (is_nearest rates number) (length rates - 1) index (omega arith)
    (nearest_passes rates number index h.none_nearer)
    (λ j below. elim (cases_Bool (is_nearest rates number j)) [
      | inl near ↦ absurd (omega (arith, passes_nearest rates number j index near within, h.first j below))
      | inr other ↦ other
    ])

-- of numbers of rates there is a first nearest
some_nearest : (rates : List ℕ) (number count : ℕ)
    → (index : ℕ) × (index < suc count) × IsFirstNearest rates number (suc count) index
some_nearest rates number zero = (
  0,
  omega arith,
  record {
    none_nearer = λ k below. (let same : k ≡ 0 = omega arith in rw same (omega arith));
    first = λ k below. absurd (omega arith);
  },
)
some_nearest rates number (suc count) =
    let before = some_nearest rates number count in
    elim (cases_lt (far rates number (suc count)) (far rates number before.0)) [
      | inl nearer ↦ (
        suc count,
        omega arith,
        record {
          none_nearer = λ k below. elim (cases_lt k (suc count)) [
            | inl old ↦ omega (arith, before.2.none_nearer k old)
            | inr new ↦ (let same : k ≡ suc count = omega arith in rw same (omega arith))
          ];
          first = λ k below. omega (arith, before.2.none_nearer k below);
        },
      )
      | inr farther ↦ (
        before.0,
        omega (arith, before.1),
        record {
          none_nearer = λ k below. elim (cases_lt k (suc count)) [
            | inl old ↦ before.2.none_nearer k old
            | inr new ↦ (let same : k ≡ suc count = omega arith in rw same farther)
          ];
          first = before.2.first;
        },
      )
    ]

-- the nearest rate is one of them, and the first nearest
pub nearest_first : (rates : List ℕ) (number : ℕ) → 0 < length rates
    → (nearest rates number < length rates) × IsFirstNearest rates number (length rates) (nearest rates number)
nearest_first rates number some =
    let found = some_nearest rates number (length rates - 1) in
    let whole : suc (length rates - 1) ≡ length rates = omega arith in
    let within : found.0 < length rates = omega (arith, found.1) in
    let first : IsFirstNearest rates number (length rates) found.0 = rw whole at found.2 in
    rw (nearest_is rates number found.0 within first) (within, first)

-- a list's first rates are as far as in the list
pub far_in_take : (list : List ℕ) (number count index : ℕ) → index < count
    → far (take count list) number index ≡ far list number index
far_in_take list number count index within = rw (get_or-take count list index 0 within) refl

pub nearest_in_take : (list : List ℕ) (number count index : ℕ) → count ≤ length list → index < count
    → IsFirstNearest list number count index → nearest (take count list) number ≡ index
nearest_in_take list number count index whole within h =
    let few : length (take count list) ≡ count = length-take-le count list whole in
    nearest_is (take count list) number index (omega arith) record {
      none_nearer = λ k below. omega (
        arith,
        h.none_nearer k (omega arith),
        far_in_take list number count k (omega arith),
        far_in_take list number count index within,
      );
      first = λ k below. omega (
        arith,
        h.first k below,
        far_in_take list number count k (omega arith),
        far_in_take list number count index within,
      );
    }

-- of rates that rise, a later one is greater
pub later_is_greater : (rates : List ℕ) (low more : ℕ) → IsStrictlyIncreasing rates → low + more < length rates
    → rate_at rates low ≤ rate_at rates (low + more)
later_is_greater rates low zero rise within = let same : low + 0 ≡ low = omega arith in rw same (omega arith)
later_is_greater rates low (suc more) rise within =
    let same : low + suc more ≡ low + more + 1 = omega arith in
    rw same (omega (arith, later_is_greater rates low more rise (omega arith), rise (low + more) (omega arith)))

pub rates_rise : (rates : List ℕ) (low high : ℕ) → IsStrictlyIncreasing rates → low ≤ high → high < length rates
    → rate_at rates low ≤ rate_at rates high
rates_rise rates low high rise up within =
    let same : low + (high - low) ≡ high = omega arith in
    rw same at (later_is_greater rates low (high - low) rise (omega arith))

-- of two rates that are equally near the smaller is taken
pub smaller_on_tie : (rates : List ℕ) (number k : ℕ) → IsStrictlyIncreasing rates → k < length rates
    → abs_diff number (rate_at rates k) ≡ abs_diff number (rate_at rates (nearest rates number))
    → rate_at rates (nearest rates number) ≤ rate_at rates k
smaller_on_tie rates number k rise below tie =
    let near = nearest_first rates number (omega arith) in
    elim (cases_lt k (nearest rates number)) [
      | inl before ↦ absurd (omega (arith, near.1.first k before))
      | inr from ↦ rates_rise rates (nearest rates number) k rise from below
    ]

pub none_is_nearer : (rates : List ℕ) (number k : ℕ) → k < length rates
    → abs_diff number (rate_at rates (nearest rates number)) ≤ abs_diff number (rate_at rates k)
none_is_nearer rates number k below = (nearest_first rates number (omega arith)).1.none_nearer k below
