-- What is known of a learner of a configuration.
use Rattle.std.specs.List.Sorted.{IsStrictlyIncreasing}
use Rattle.std.proofs.Common.{◌≡◌, ℕ, ◌-◌, ◌<◌, ◌≤◌, length, refl, ap, inl, inr, arith}
use Rattle.std.proofs.lemmas.Bool.{cases_eq, eq-eqb, ne_eqb}
use Rattle.std.proofs.lemmas.List.{length-take-le}
use Rattle.asc_base.specs.Settings.{IsPowerTo}
use Rattle.asc_base.specs.declared.settings.Config.{Config}
use Rattle.asc_base.proofs.RateLists.{rate_count-le}
use Rattle.asc_base.proofs.ShapeFacts.{shape_layered}
use Rattle.bus_schedule.specs.Timetable.{rate_at}
use Rattle.epoch_learner.specs.LearnerRule.{index_by_sums, nearest}
use Rattle.epoch_learner.specs.Learner.{IsLearnerOf, rates_of, idle_at, apart_at, chosen_at}
use Rattle.epoch_learner.specs.declared.Learner.{Learner}
use Rattle.epoch_learner.proofs.Nearest.{nearest_first, rates_rise, none_is_nearer, smaller_on_tie}

-- the ranges of a learner's numbers
pub record HasRanges (learner : Learner) : Type 0 where
  pub some : 1 ≤ learner.rates.count
  pub few : learner.rates.count ≤ 16
  pub power : IsPowerTo 4 learner.rates.count
  pub listed : length (rates_of learner) ≡ learner.rates.count
  pub olat : learner.olat ≤ 1456
  pub epoch_from : 1 ≤ learner.epoch
  pub epoch_to : learner.epoch ≤ 268435456

pub has_ranges : (config : Config) (learner : Learner) → IsLearnerOf config learner → HasRanges learner
has_ranges config learner h =
    let counted = rate_count-le config.rates.list config.rates.count h.is_config.rates in
    let count : learner.rates.count ≡ config.rates.count = ap (λ r. r.count) h.rates in
    let few : learner.rates.count ≤ 16 = omega (arith, counted.1) in
    let levels = (shape_layered config.shape h.is_config.is_shape).levels_to in
    record {
      some = omega (arith, counted.0);
      few = few;
      power = rw count h.is_config.rates.power;
      listed = length-take-le learner.rates.count learner.rates.list
          (omega (arith, ap (λ r. length r.list) h.rates, h.is_config.sixteen));
      olat = omega (arith, h.olat, levels);
      epoch_from = omega (arith, h.epoch, h.is_config.epoch.0);
      epoch_to = omega (arith, h.epoch, h.is_config.epoch.1);
    }

-- the index of a choice where there was no real access, and where there was one
pub chosen_at_none : (learner : Learner) (end : ℕ) → HasRanges learner → learner.real ≡ 0
    → chosen_at learner end ≡ learner.rates.count - 1
unfolding index_by_sums
chosen_at_none learner end h none = rw (eq-eqb learner.real 0 none, h.listed) refl

pub chosen_at_some : (learner : Learner) (end : ℕ) → 0 < learner.real
    → chosen_at learner end
    ≡ nearest (rates_of learner) (idle_at learner end)
unfolding index_by_sums
chosen_at_some learner end some = rw (ne_eqb learner.real 0 (λ none. absurd (omega arith))) refl

-- a choice takes one of the rates
pub chosen_at_below : (learner : Learner) (end : ℕ) → HasRanges learner → chosen_at learner end < learner.rates.count
chosen_at_below learner end h =
    elim (cases_eq learner.real 0) [
      | inl none ↦ omega (arith, chosen_at_none learner end h none, h.some)
      | inr some ↦
          (let near = nearest_first (rates_of learner) (idle_at learner end) (omega (arith, h.listed, h.some)) in
          omega (arith, chosen_at_some learner end (omega arith), near.0, h.listed))
    ]

-- the greatest rate is taken where there was no real access
pub greatest_taken : (config : Config) (learner : Learner) (end k : ℕ) → IsLearnerOf config learner → learner.real ≡ 0
    → k < length (rates_of learner) → rate_at (rates_of learner) k ≤ rate_at (rates_of learner) (chosen_at learner end)
greatest_taken config learner end k h none below =
    let ranges = has_ranges config learner h in
    let last : chosen_at learner end ≡ learner.rates.count - 1 = chosen_at_none learner end ranges none in
    let rise : IsStrictlyIncreasing (rates_of learner) = rw h.rates h.is_config.rates.rise in
    rw last
    (rates_rise (rates_of learner) k (learner.rates.count - 1) rise (omega (arith, ranges.listed))
    (omega (arith, ranges.listed, ranges.some)))

-- and else the nearest, the smaller on a tie
pub nearest_taken : (learner : Learner) (end k : ℕ) → 0 < learner.real → k < length (rates_of learner)
    → apart_at learner end (chosen_at learner end) ≤ apart_at learner end k
nearest_taken learner end k some below =
    rw (chosen_at_some learner end some) (none_is_nearer (rates_of learner) (idle_at learner end) k below)

pub smaller_taken : (config : Config) (learner : Learner) (end k : ℕ) → IsLearnerOf config learner → 0 < learner.real
    → k < length (rates_of learner)
    → apart_at learner end k ≡ apart_at learner end (chosen_at learner end)
    → rate_at (rates_of learner) (chosen_at learner end) ≤ rate_at (rates_of learner) k
smaller_taken config learner end k h some below tie =
    let own = chosen_at_some learner end some in
    let rise : IsStrictlyIncreasing (rates_of learner) = rw h.rates h.is_config.rates.rise in
    rw own (smaller_on_tie (rates_of learner) (idle_at learner end) k rise below (rw own at tie))
