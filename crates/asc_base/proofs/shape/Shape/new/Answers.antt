use Rattle.std.proofs.Common.{◌≡◌, ℕ, ◌+◌, ◌-◌, ◌*◌, ◌%◌, ◌^◌, ◌≤◌, List, ap, arith}
use Rattle.std.proofs.lemmas.Nat.{one_shl, pow_pos}
use Rattle.asc_base.specs.declared.shape.Shape.{Shape}
use Rattle.asc_base.specs.Shape.{shape_of, layered, places_of}
use Rattle.asc_base.specs.TreeShape.{layer_count, layer_first, top_layer, levels_of, buckets_of}
use Rattle.asc_base.proofs.shape.Shape.new.Goals as goal

-- a shape from its parts
from_parts : (lines roots layers : ℕ) (firsts counts : List ℕ) (levels total buckets : ℕ)
    → layers ≡ top_layer lines roots + 1 → firsts ≡ places_of (layer_first lines) layers
    → counts ≡ places_of (layer_count lines) layers → levels ≡ levels_of total → total ≡ layer_first lines layers
    → buckets ≡ buckets_of levels
    → (let made : Shape = record {
      lines = lines;
      layers = layers;
      firsts = firsts;
      counts = counts;
      levels = levels;
      total = total;
      buckets = buckets;
    } in made ≡ shape_of lines roots)
unfolding shape_of layered
from_parts lines roots layers firsts counts levels total buckets e f c l t b = cc

bucket_count : (levels : ℕ) → levels ≤ 17
    → ((1 * 2 ^ (levels + 1)) % 4294967296 - 1 ≡ buckets_of levels) × (1 ≤ (1 * 2 ^ (levels + 1)) % 4294967296)
unfolding buckets_of
bucket_count levels few =
    let whole : (1 * 2 ^ (levels + 1)) % 4294967296 ≡ 2 ^ (levels + 1) = one_shl (levels + 1) 32 (omega arith) in
    (ap (λ n. n - 1) whole, omega (arith, pow_pos (levels + 1)))

pub overflow_sub-buckets : goal.overflow_sub-buckets
overflow_sub-buckets c = (bucket_count c.levels_under-levels.result c.levels_under-levels.ensures.few).1

pub returns-clause-shape : goal.returns-clause-shape
returns-clause-shape c =
    from_parts c.args.lines c.args.roots c.over-layers.result.layers c.over-layers.result.firsts
    c.over-layers.result.counts
    c.levels_under-levels.result c.over-layers.result.total _ c.over-layers.ensures.layers c.over-layers.ensures.firsts
    c.over-layers.ensures.counts c.levels_under-levels.ensures.level c.over-layers.ensures.total
    (bucket_count c.levels_under-levels.result c.levels_under-levels.ensures.few).0

pub returns-clause-is_shape : goal.returns-clause-is_shape
returns-clause-is_shape c = record {
  lines_from = omega arith;
  lines_to = omega arith;
  rooted = (
    c.args.roots,
    omega arith,
    from_parts c.args.lines c.args.roots c.over-layers.result.layers
        c.over-layers.result.firsts c.over-layers.result.counts c.levels_under-levels.result
        c.over-layers.result.total _
        c.over-layers.ensures.layers c.over-layers.ensures.firsts c.over-layers.ensures.counts
        c.levels_under-levels.ensures.level
        c.over-layers.ensures.total (bucket_count c.levels_under-levels.result c.levels_under-levels.ensures.few).0,
  );
}
