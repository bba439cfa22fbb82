use Rattle.std.proofs.Common.{◌≡◌, ℕ, ◌-◌, ◌/◌, List, length, take, drop, replicate, refl, sym, ap, subst, arith}
use Rattle.std.proofs.Math.Pow.{pow_mono}
use Rattle.std.specs.Prelude.{All, fold, max}
use Rattle.std.specs.List.Sorted.{IsStrictlyIncreasing}
use Rattle.asc_base.specs.declared.settings.Config.{Config}
use Rattle.asc_base.specs.declared.settings.Rates.{Rates as RateList}
use Rattle.asc_base.specs.declared.settings.Settings.{Settings}
use Rattle.asc_base.specs.declared.settings.Setting.TheVariants.{Size, Base, Sets, Ways, Plb, Roots, Ic, Stash}
use Rattle.asc_base.specs.declared.settings.Setting.TheVariants.{Budget, Time, Leak, Rates, First, Epoch}
use Rattle.asc_base.specs.declared.shape.Shape.{Shape}
use Rattle.asc_base.specs.Settings.{IsFromTo, AreAllowed, IsConfig, config_of, narrow_rates, greatest_rate}
use Rattle.asc_base.specs.Shape.{IsShape, shape_of}
use Rattle.asc_base.proofs.RateLists.{rate_count-le}
use Rattle.asc_base.proofs.settings.Settings.config.Goals as goal

-- a configuration with these rates and this shape
made : Settings → RateList → Shape → Config
made settings rates shape = record {
  size = settings.size;
  base = settings.base;
  sets = settings.sets;
  ways = settings.ways;
  plb = settings.plb;
  roots = settings.roots;
  ic = settings.ic;
  stash = settings.stash;
  budget = settings.budget;
  time = settings.time;
  leak = settings.leak;
  rates = rates;
  first = settings.first;
  epoch = settings.epoch;
  shape = shape;
}

made_is : (settings : Settings) (rates : RateList) (shape : Shape) → rates ≡ narrow_rates settings.rates
    → shape ≡ shape_of (settings.size / 64) settings.roots → made settings rates shape ≡ config_of settings
unfolding made config_of
made_is settings rates shape r s = rw (r, s) refl

-- where the settings are in their ranges, it is one that there is
made_config : (settings : Settings) (rates : RateList) (shape : Shape) → AreAllowed settings
    → rates.count ≡ settings.rates.count → take rates.count rates.list ≡ take settings.rates.count settings.rates.list
    → drop rates.count rates.list ≡ replicate (16 - rates.count) 0 → length rates.list ≡ 16
    → IsShape shape → shape ≡ shape_of (settings.size / 64) settings.roots → IsConfig (made settings rates shape)
unfolding made
made_config settings rates shape allowed count kept rest sixteen is_shape same = record {
  memory = record {
    size_from = (allowed Size).0.0;
    size_to = (allowed Size).0.1;
    size_pages = (allowed Size).1;
    base_pages = (allowed Base).0;
    below_top = (allowed Base).1;
  };
  sets = allowed Sets;
  ways = allowed Ways;
  plb = allowed Plb;
  roots = allowed Roots;
  ic = allowed Ic;
  stash = allowed Stash;
  budget = allowed Budget;
  time = allowed Time;
  leak = allowed Leak;
  rates = record {
    power = rw count (allowed Rates).power;
    rise = subst (λ (l : List ℕ). IsStrictlyIncreasing l) (sym kept) (allowed Rates).rise;
    bounds = subst (λ (l : List ℕ). All (IsFromTo 64 1048576) l) (sym kept) (allowed Rates).bounds;
  };
  sixteen = sixteen;
  rest = rest;
  first = rw count (allowed First);
  epoch = (let greatest : greatest_rate rates.list rates.count ≡ greatest_rate settings.rates.list
      settings.rates.count =
      ap (λ (l : List ℕ). fold max 0 l) kept in
      rw (greatest, same) (allowed Epoch));
  is_shape = is_shape;
  shape = same;
}

pub narrowed-rates-requires : goal.narrowed-rates-requires
narrowed-rates-requires c = c.requires Rates

pub overflow_cast-result : goal.overflow_cast-result
overflow_cast-result c = omega (arith, c.requires Size)

pub overflow_cast-result-2 : goal.overflow_cast-result-2
overflow_cast-result-2 c = omega (arith, c.requires Base)

pub overflow_cast-result-3 : goal.overflow_cast-result-3
overflow_cast-result-3 c =
    let sets = c.requires Sets in
    omega (arith, sets.2, pow_mono {i = sets.0} {j = 10} sets.1)

pub overflow_cast-result-4 : goal.overflow_cast-result-4
overflow_cast-result-4 c = omega (arith, c.requires Ways)

pub overflow_cast-result-5 : goal.overflow_cast-result-5
overflow_cast-result-5 c = omega (arith, c.requires Plb)

pub overflow_cast-result-6 : goal.overflow_cast-result-6
overflow_cast-result-6 c = omega (arith, c.requires Roots)

pub overflow_cast-result-7 : goal.overflow_cast-result-7
overflow_cast-result-7 c = omega (arith, c.requires Ic)

pub overflow_cast-result-8 : goal.overflow_cast-result-8
overflow_cast-result-8 c = omega (arith, c.requires Stash)

pub overflow_cast-result-9 : goal.overflow_cast-result-9
overflow_cast-result-9 c = omega (arith, c.requires Leak)

pub overflow_cast-result-10 : goal.overflow_cast-result-10
overflow_cast-result-10 c =
    let first = c.requires First in
    omega (arith, first, (rate_count-le _ _ (c.requires Rates)).1)

pub returns-clause-config : goal.returns-clause-config
unfolding made
returns-clause-config c =
    made_is c.args.self.now c.narrowed-rates.result c.shape-shape.result c.narrowed-rates.ensures.rates
    c.shape-shape.ensures.shape

pub returns-clause-is_config : goal.returns-clause-is_config
unfolding made narrow_rates
returns-clause-is_config c =
    made_config c.args.self.now c.narrowed-rates.result c.shape-shape.result c.requires
    (ap (λ (r : RateList). r.count) c.narrowed-rates.ensures.rates) c.narrowed-rates.ensures.kept
    c.narrowed-rates.ensures.rest
    c.narrowed-rates.ensures.sixteen c.shape-shape.ensures.is_shape c.shape-shape.ensures.shape
