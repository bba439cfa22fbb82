use Rattle.std.proofs.Common.{◌≡◌, ℕ, ◌-◌, List, ◌++◌, take, replicate, refl, arith, rules}
use Rattle.asc_base.specs.declared.settings.Rates.{Rates}
use Rattle.asc_base.specs.declared.settings.WideRates.{WideRates}
use Rattle.asc_base.specs.Settings.{narrow_rates}
use Rattle.asc_base.proofs.RateLists.{rate_count-le, rate-le, set-narrow, take-narrow, drop-narrow}
use Rattle.asc_base.proofs.settings.WideRates.narrowed.Goals as goal

narrow_is : (wide : WideRates) (list : List ℕ) (place : ℕ) → list ≡ take place wide.list ++ replicate (16 - place) 0
    → place ≡ wide.count → (let made : Rates = record { list = list; count = wide.count } in made ≡ narrow_rates wide)
unfolding narrow_rates
narrow_is wide list place e same = rw (e, same) refl

pub bounds-self-place : goal.bounds-self-place
bounds-self-place c = omega (arith, (rate_count-le _ _ c.requires).1)

pub overflow_cast-list : goal.overflow_cast-list
overflow_cast-list c =
    omega (
      arith,
      rate-le c.args.self.now.list c.args.self.now.count c.loop-place.place c.requires (search rules)
          c.loop-place-test.true,
    )

pub bounds-list-place : goal.bounds-list-place
bounds-list-place c = omega (arith, (rate_count-le _ _ c.requires).1)

pub loop-place-preserved : goal.loop-place-preserved
loop-place-preserved c =
    rw c.loop-place.invariant
    (set-narrow c.args.self.now.list c.loop-place.place _ (search rules)
    (omega (arith, (rate_count-le _ _ c.requires).1)) refl)

pub returns-clause-rates : goal.returns-clause-rates
returns-clause-rates c = narrow_is c.args.self.now c.loop-place.list c.loop-place.place c.loop-place.invariant
    (omega arith)

pub returns-clause-kept : goal.returns-clause-kept
returns-clause-kept c =
    let last : c.loop-place.place ≡ c.args.self.now.count = omega arith in
    rw (c.loop-place.invariant, last) (take-narrow c.args.self.now.list c.args.self.now.count (search rules)
    (rate_count-le _ _ c.requires).1)

pub returns-clause-rest : goal.returns-clause-rest
returns-clause-rest c =
    let last : c.loop-place.place ≡ c.args.self.now.count = omega arith in
    rw (c.loop-place.invariant, last) (drop-narrow c.args.self.now.list c.args.self.now.count (search rules)
    (rate_count-le _ _ c.requires).1)
