-- The configuration of the default settings.
use Rattle.std.proofs.Common.{◌≡◌, ◌<◌, ◌≤◌, ℕ, ◌+◌, ◌-◌, ◌^◌, zero, suc, max, true, false, refl, ap, ◌∙◌, arith, inr}
use Rattle.std.proofs.Common.{pow_mono}
use Rattle.std.specs.Prelude.{nat_le}
use Rattle.std.proofs.lemmas.Bool.{lt-leb}
use Rattle.asc_base.specs.Settings.{config_of, narrow_rates}
use Rattle.asc_base.specs.Shape.{places_of, layered, shape_of}
use Rattle.asc_base.specs.TreeShape.{layer_count, layer_first, top_layer, levels_of, buckets_of}
use Rattle.asc_base.proofs.Extremes.{least_is, greatest_is}
use Rattle.asc_base.specs.declared.settings.Config.{Config}
use Rattle.asc_base.specs.declared.shape.Shape.{Shape}
use Rattle.run_play.specs.Rows.{default_settings, default_config}

-- 2 ^ 14 is the greatest power of two below the number of blocks
levels-most : (level : ℕ) → 13 < level → level ≤ 16912 → nat_le (2 ^ (level + 1)) 16912 ≡ false
levels-most level over below =
    lt-leb (2 ^ (level + 1)) 16912 (omega (arith, pow_mono {i = 15} {j = level + 1} (omega arith)))

levels-are : levels_of 16912 ≡ 13
unfolding levels_of
levels-are = ap (λ n. max 1 n)
    (greatest_is (λ level. nat_le (2 ^ (level + 1)) 16912) 16912 13 (omega arith) (inr refl) levels-most)

-- layer 2 is the first that has at most 16 blocks
tops-less : (layer : ℕ) → layer < 2 → nat_le (layer_count 16384 layer) 16 ≡ false
unfolding layer_count
tops-less zero below = refl
tops-less (suc zero) below = refl
tops-less (suc (suc layer)) below = absurd (omega arith)

two-fits : nat_le (layer_count 16384 2) 16 ≡ true
unfolding layer_count
two-fits = refl

top-is : top_layer 16384 16 ≡ 2
unfolding top_layer
top-is = least_is (λ layer. nat_le (layer_count 16384 layer) 16) 16384 2 (omega arith) two-fits tops-less

abbrev with_levels : ℕ → Config
with_levels levels = record default_config {
  shape = record default_config.shape { levels = levels; buckets = 2 ^ (levels + 1) - 1 };
}

abbrev with_shape : Shape → Config
with_shape shape = record default_config { shape = shape }

config-is : config_of default_settings ≡ with_shape (layered 16384 (top_layer 16384 16 + 1))
unfolding shape_of config_of narrow_rates
config-is = refl

layers-are : with_shape (layered 16384 3) ≡ with_levels (levels_of 16912)
unfolding layer_count layer_first buckets_of places_of layered
layers-are = refl

pub default-is : config_of default_settings ≡ default_config
default-is =
    config-is ∙ ap (λ top. with_shape (layered 16384 (top + 1))) top-is ∙ layers-are ∙ ap with_levels levels-are
