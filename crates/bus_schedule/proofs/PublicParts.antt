-- The public parts of configurations.
use Rattle.std.proofs.Common.{◌≡◌, ◌<◌, ◌≤◌, sym, arith, subst}
use Rattle.std.proofs.lemmas.List.{length-take}
use Rattle.asc_base.specs.Settings.{IsPowerTo, IsConfig}
use Rattle.asc_base.specs.declared.settings.Config.{Config}
use Rattle.asc_base.proofs.RateLists.{power_count-le}
use Rattle.bus_schedule.specs.Timetable.{public_of, count_of}

pub count-is : (config : Config) → IsConfig config → count_of (public_of config) ≡ config.rates.count
count-is config h =
    omega (
      arith,
      length-take config.rates.count config.rates.list,
      power_count-le config.rates.count h.rates.power,
      h.sixteen,
    )

pub count-power : (config : Config) → IsConfig config → IsPowerTo 4 (count_of (public_of config))
count-power config h = subst (IsPowerTo 4) (sym (count-is config h)) h.rates.power

pub first-among : (config : Config) → IsConfig config → (public_of config).first < count_of (public_of config)
first-among config h = omega (arith, count-is config h, h.first)

pub epoch-some : (config : Config) → IsConfig config → 1 ≤ (public_of config).epoch
epoch-some config h = omega (arith, h.epoch.0)
