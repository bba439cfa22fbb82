-- The ranges of the settings, and the configurations that come of settings in their ranges.
use Rattle.std.specs.Prelude.{◌≡◌, ℕ, ◌+◌, ◌-◌, ◌/◌, ◌%◌, ◌^◌, ◌<◌, ◌≤◌, max}
use Rattle.std.specs.Prelude.{List, ◌++◌, length, All, fold, take, drop, replicate}
use Rattle.std.specs.List.Sorted.{IsStrictlyIncreasing}
use Rattle.asc_base.specs.Memory.{IsMemory}
use Rattle.asc_base.specs.Shape.{IsShape, shape_of}
use Rattle.asc_base.specs.TreeShape.{olat_of}
use Rattle.asc_base.specs.declared.settings.Config.{Config}
use Rattle.asc_base.specs.declared.settings.Rates.{Rates}
use Rattle.asc_base.specs.declared.settings.WideRates.{WideRates}
use Rattle.asc_base.specs.declared.settings.Setting.{Setting}
use Rattle.asc_base.specs.declared.settings.Setting.TheVariants.{Size, Base, Sets, Ways, Plb, Roots, Ic}
use Rattle.asc_base.specs.declared.settings.Setting.TheVariants.{Stash, Budget, Time, Leak, Rates as RatesSetting}
use Rattle.asc_base.specs.declared.settings.Setting.TheVariants.{First, Epoch}
use Rattle.asc_base.specs.declared.settings.Settings.{Settings}

-- the number is a power of two, at most 2 ^ most
abbrev pub IsPowerTo : ℕ → ℕ → Type 0
IsPowerTo most number = (power : ℕ) × (power ≤ most) × (number ≡ 2 ^ power)

-- the number is one of these and those between
abbrev pub IsFromTo : ℕ → ℕ → ℕ → Type 0
IsFromTo least most number = (least ≤ number) × (number ≤ most)

-- the first `count` of the list are 1, 2, 4, 8 or 16 strictly rising numbers from 64 to 1,048,576
pub record AreRates (list : List ℕ) (count : ℕ) : Type 0 where
  pub power : IsPowerTo 4 count
  pub rise : IsStrictlyIncreasing (take count list)
  pub bounds : All (IsFromTo 64 1048576) (take count list)

-- the greatest of the first `count` of the list
abbrev pub greatest_rate : List ℕ → ℕ → ℕ
greatest_rate list count = fold max 0 (take count list)

-- the order in which the settings are tested: how many come before a setting
abbrev pub place_of : Setting → ℕ
place_of Size = 0
place_of Base = 1
place_of Sets = 2
place_of Ways = 3
place_of Plb = 4
place_of Roots = 5
place_of Ic = 6
place_of Stash = 7
place_of Budget = 8
place_of Time = 9
place_of Leak = 10
place_of RatesSetting = 11
place_of First = 12
place_of Epoch = 13

-- a setting is in its range
abbrev pub InRange : Settings → Setting → Type 0
InRange settings Size = IsFromTo 4096 16777216 settings.size × (settings.size % 4096 ≡ 0)
InRange settings Base = (settings.base % 4096 ≡ 0) × (settings.base + settings.size ≤ 4294901760)
InRange settings Sets = IsPowerTo 10 settings.sets
InRange settings Ways = IsFromTo 1 16 settings.ways
InRange settings Plb = IsFromTo 1 4096 settings.plb
InRange settings Roots = IsFromTo 1 4096 settings.roots
InRange settings Ic = IsFromTo 2 14 settings.ic
InRange settings Stash = settings.stash ≤ 4096
InRange settings Budget = settings.budget ≤ 1000000000
InRange settings Time = IsFromTo 1 268435456 settings.time
InRange settings Leak = settings.leak ≤ 60
InRange settings RatesSetting = AreRates settings.rates.list settings.rates.count
InRange settings First = settings.first < settings.rates.count
InRange settings Epoch =
    IsFromTo (olat_of (shape_of (settings.size / 64) settings.roots).levels
    + greatest_rate settings.rates.list settings.rates.count) 268435456 settings.epoch

-- the settings that are tested before this one are in their ranges
abbrev pub AreBefore : Settings → Setting → Type 0
AreBefore settings setting = (earlier : Setting) → place_of earlier < place_of setting → InRange settings earlier

-- a setting isn't in its range, and all before it are
pub record IsFirstFault (settings : Settings) (setting : Setting) : Type 0 where
  pub fails : InRange settings setting → ⊥
  pub before : AreBefore settings setting

-- all settings are in their ranges
abbrev pub AreAllowed : Settings → Type 0
AreAllowed settings = (setting : Setting) → InRange settings setting

-- the rates of settings, with zeros in the places that are left
unfoldable pub narrow_rates : WideRates → Rates
narrow_rates wide = record { list = take wide.count wide.list ++ replicate (16 - wide.count) 0; count = wide.count }

-- the configuration with the numbers of settings
unfoldable pub config_of : Settings → Config
config_of settings = record {
  size = settings.size;
  base = settings.base;
  sets = settings.sets;
  ways = settings.ways;
  plb = settings.plb;
  roots = settings.roots;
  ic = settings.ic;
  stash = settings.stash;
  budget = settings.budget;
  time = settings.time;
  leak = settings.leak;
  rates = narrow_rates settings.rates;
  first = settings.first;
  epoch = settings.epoch;
  shape = shape_of (settings.size / 64) settings.roots;
}

-- a configuration that settings in their ranges give
pub record IsConfig (config : Config) : Type 0 where
  pub memory : IsMemory config.base config.size
  pub sets : IsPowerTo 10 config.sets
  pub ways : IsFromTo 1 16 config.ways
  pub plb : IsFromTo 1 4096 config.plb
  pub roots : IsFromTo 1 4096 config.roots
  pub ic : IsFromTo 2 14 config.ic
  pub stash : config.stash ≤ 4096
  pub budget : config.budget ≤ 1000000000
  pub time : IsFromTo 1 268435456 config.time
  pub leak : config.leak ≤ 60
  pub rates : AreRates config.rates.list config.rates.count
  pub sixteen : length config.rates.list ≡ 16
  pub rest : drop config.rates.count config.rates.list ≡ replicate (16 - config.rates.count) 0
  pub first : config.first < config.rates.count
  pub epoch : IsFromTo (olat_of config.shape.levels + greatest_rate config.rates.list config.rates.count)
      268435456 config.epoch
  pub is_shape : IsShape config.shape
  pub shape : config.shape ≡ shape_of (config.size / 64) config.roots
