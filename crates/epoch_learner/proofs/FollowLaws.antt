-- Learners and the timetable.
use Rattle.std.proofs.Common.{◌≡◌, ℕ, ◌<◌, ◌≤◌, true, false, length, get_or, take, Option, refl, ap, sym, ◌∙◌, arith}
use Rattle.std.proofs.Math.Nat.{pow-zero}
use Rattle.std.proofs.lemmas.List.{get_or-take}
use Rattle.asc_base.specs.Settings.{IsConfig}
use Rattle.asc_base.specs.TreeShape.{olat_of}
use Rattle.asc_base.specs.declared.settings.Config.{Config}
use Rattle.bus_schedule.specs.declared.beat.Beat.{Beat}
use Rattle.bus_schedule.specs.Timetable.{Public, public_of, count_of, choices_of, most_of, falls_next, rate_at}
use Rattle.bus_schedule.specs.Timetable.{first_beat, beat_after}
use Rattle.bus_schedule.proofs.PublicParts.{count-is}
use Rattle.epoch_learner.specs.Learner.{rates_of, IsLearnerOf, Follows, learner_at_start, after_access, falls_at}
use Rattle.epoch_learner.specs.Learner.{chosen_at, after_end, next_end}
use Rattle.epoch_learner.specs.declared.Learner.{Learner}
use Rattle.epoch_learner.proofs.Facts.{has_ranges, chosen_at_below}
use Rattle.epoch_learner.proofs.Steps.{after_choice_keeps, after_end_keeps}

-- a new learner is one of its configuration
pub start_is_of : (config : Config) → IsConfig config → IsLearnerOf config (learner_at_start config)
start_is_of config h = record {
  is_config = h;
  rates = refl;
  epoch = refl;
  olat = refl;
  most = refl;
  in_force = (config.first, h.first, refl);
  choices = omega arith;
  code = rw (pow-zero config.rates.count) (omega arith);
}

pub start_follows : (config : Config) → IsLearnerOf config (learner_at_start config)
    → Follows config (first_beat (public_of config)) (learner_at_start config)
start_follows config h = record {
  is_of = h;
  rate = sym (get_or-take config.rates.count config.rates.list config.first 0 h.is_config.first);
  reached = refl;
  choices = refl;
}

pub access_keeps : (config : Config) (learner : Learner) (start : ℕ) (asked : Option ℕ)
    → IsLearnerOf config learner → IsLearnerOf config (after_access learner start asked)
access_keeps config learner start asked h = record {
  is_config = h.is_config;
  rates = h.rates;
  epoch = h.epoch;
  olat = h.olat;
  most = h.most;
  in_force = h.in_force;
  choices = h.choices;
  code = h.code;
}

pub access_follows : (config : Config) (beat : Beat) (learner : Learner) (start : ℕ) (asked : Option ℕ)
    → Follows config beat learner → Follows config beat (after_access learner start asked)
access_follows config beat learner start asked h = record {
  is_of = access_keeps config learner start asked h.is_of;
  rate = h.rate;
  reached = h.reached;
  choices = h.choices;
}

-- a learner's numbers, and those that are public
pub record HasPublic (p : Public) (learner : Learner) : Type 0 where
  pub rates : p.rates ≡ rates_of learner
  pub count : count_of p ≡ learner.rates.count
  pub olat : olat_of p.levels ≡ learner.olat
  pub epoch : p.epoch ≡ learner.epoch
  pub most : choices_of p ≡ learner.most

pub has_public : (config : Config) (learner : Learner) → IsLearnerOf config learner
    → HasPublic (public_of config) learner
has_public config learner h =
    let p = public_of config in
    let same : p.rates ≡ rates_of learner = sym (ap (λ r. take r.count r.list) h.rates) in
    let count : count_of p ≡ learner.rates.count = ap length same ∙ (has_ranges config learner h).listed in
    let number : learner.rates.count ≡ config.rates.count = ap (λ r. r.count) h.rates in
    record {
      rates = same;
      count = count;
      olat = sym h.olat;
      epoch = sym h.epoch;
      most = ap (λ n. most_of n config.leak) (count ∙ number) ∙ sym h.most;
    }

-- a choice falls where the timetable has one
pub falls_as_next : (config : Config) (beat : Beat) (learner : Learner) → Follows config beat learner
    → falls_at learner (next_end (public_of config) beat) ≡ falls_next (public_of config) beat
falls_as_next config beat learner h =
    let public = has_public config learner h.is_of in
    rw (public.epoch, public.most, h.reached, h.choices) refl

-- a rate of the list is one of the public rates
pub public_rate : (config : Config) (learner : Learner) (index : ℕ) → IsLearnerOf config learner
    → index < learner.rates.count → rate_at (public_of config).rates index ≡ rate_at learner.rates.list index
public_rate config learner index h below =
    ap (λ rates. get_or rates index 0) (has_public config learner h).rates
    ∙ get_or-take learner.rates.count learner.rates.list index 0 below

-- an end where no choice falls
pub end_passed : (config : Config) (beat : Beat) (learner : Learner) (index : ℕ) → Follows config beat learner
    → falls_next (public_of config) beat ≡ false
    → Follows config (beat_after (public_of config) beat index) (after_end learner (next_end (public_of config) beat))
end_passed config beat learner index h none =
    let public = has_public config learner h.is_of in
    let end = next_end (public_of config) beat in
    let own : falls_at learner end ≡ false = falls_as_next config beat learner h ∙ none in
    let kept = after_end_keeps config learner end h.is_of in
    rw (none, own) record {
      is_of = rw own at kept;
      rate = h.rate;
      reached = rw (public.epoch, h.reached) refl;
      choices = h.choices;
    }

-- an end where one falls
pub end_chosen : (config : Config) (beat : Beat) (learner : Learner) → Follows config beat learner
    → falls_next (public_of config) beat ≡ true
    → Follows config (beat_after (public_of config) beat (chosen_at learner (next_end (public_of config) beat)))
    (after_end learner (next_end (public_of config) beat))
end_chosen config beat learner h some =
    let public = has_public config learner h.is_of in
    let end = next_end (public_of config) beat in
    let own : falls_at learner end ≡ true = falls_as_next config beat learner h ∙ some in
    let below = chosen_at_below learner end (has_ranges config learner h.is_of) in
    rw (some, own) record {
      is_of = after_choice_keeps config learner end h.is_of own;
      rate = sym (public_rate config learner (chosen_at learner end) h.is_of below);
      reached = rw (public.epoch, h.reached) refl;
      choices = rw h.choices refl;
    }

-- the rate in force is one of the configuration's
pub rate_bounds : (config : Config) (learner : Learner) → IsLearnerOf config learner
    → (64 ≤ learner.rate) × (learner.rate ≤ 1048576)
rate_bounds config learner h =
    let index : ℕ = h.in_force.0 in
    let counted : length (take config.rates.count config.rates.list) ≡ config.rates.count =
    count-is config h.is_config in
    let bounds = h.is_config.rates.bounds index 0 (omega (arith, h.in_force.1)) in
    let same : get_or (take config.rates.count config.rates.list) index 0 ≡ learner.rate =
    get_or-take config.rates.count config.rates.list index 0 h.in_force.1 ∙ sym h.in_force.2 in
    (omega (arith, bounds.0, same), omega (arith, bounds.1, same))
