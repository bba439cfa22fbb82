use Rattle.std.proofs.Common.{◌≡◌, ℕ, ◌+◌, ◌-◌, ◌*◌, ◌/◌, ◌%◌, ◌^◌, ◌<◌, ◌≤◌, ap, arith}
use Rattle.std.proofs.Math.Pow.{pow_mono}
use Rattle.std.proofs.lemmas.Nat.{one_shl, pow_pos}
use Rattle.asc_base.specs.TreeShape.{bucket_of, buckets_of}
use Rattle.asc_base.proofs.Paths.{bucket_of-lt}
use Rattle.asc_base.proofs.ShapeFacts.{IsLayered, shape_layered}
use Rattle.asc_base.proofs.shape.Shape.bucket_on.Goals as goal

-- what the code computes is the bucket, and is one of the tree
computed : (levels leaf level buckets : ℕ) → levels ≤ 17 → buckets + 1 ≡ 2 ^ (levels + 1) → level ≤ levels
    → leaf < 2 ^ levels
    → ((1 * 2 ^ level) % 4294967296 - 1 + leaf / 2 ^ (levels - level) ≡ bucket_of levels leaf level)
    × (1 ≤ (1 * 2 ^ level) % 4294967296)
    × ((1 * 2 ^ level) % 4294967296 - 1 + leaf / 2 ^ (levels - level) < buckets) × (buckets < 262144)
unfolding bucket_of buckets_of
computed levels leaf level buckets few counted within below =
    let whole : (1 * 2 ^ level) % 4294967296 ≡ 2 ^ level = one_shl level 32 (omega arith) in
    let same : (1 * 2 ^ level) % 4294967296 - 1 + leaf / 2 ^ (levels - level)
    ≡ (2 ^ level - 1) + leaf / 2 ^ (levels - level) =
    ap (λ n. n - 1 + leaf / 2 ^ (levels - level)) whole in
    let inside : (2 ^ level - 1) + leaf / 2 ^ (levels - level) < 2 ^ (levels + 1) - 1 =
    bucket_of-lt levels leaf level within below in
    let some = pow_pos level in
    let most = pow_mono {i = levels + 1} {j = 18} (omega arith) in
    (same, omega arith, omega arith, omega arith)

pub overflow_shl-result : goal.overflow_shl-result
overflow_shl-result c =
    let facts : IsLayered c.args.self.now = shape_layered c.args.self.now c.requires.shape in
    omega arith

pub overflow_sub-result : goal.overflow_sub-result
overflow_sub-result c =
    let facts : IsLayered c.args.self.now = shape_layered c.args.self.now c.requires.shape in
    (computed c.args.self.now.levels c.args.leaf.0 c.args.level c.args.self.now.buckets facts.levels_to facts.buckets
    c.requires.level c.requires.leaf).1

pub overflow_shr-result : goal.overflow_shr-result
overflow_shr-result c =
    let facts : IsLayered c.args.self.now = shape_layered c.args.self.now c.requires.shape in
    omega arith

pub overflow_add-result : goal.overflow_add-result
overflow_add-result c =
    let facts : IsLayered c.args.self.now = shape_layered c.args.self.now c.requires.shape in
    let sure = computed c.args.self.now.levels c.args.leaf.0 c.args.level c.args.self.now.buckets facts.levels_to
    facts.buckets
    c.requires.level c.requires.leaf in
    omega (arith, sure.2, sure.3)

pub returns-clause-bucket : goal.returns-clause-bucket
returns-clause-bucket c =
    let facts : IsLayered c.args.self.now = shape_layered c.args.self.now c.requires.shape in
    (computed c.args.self.now.levels c.args.leaf.0 c.args.level c.args.self.now.buckets facts.levels_to facts.buckets
    c.requires.level c.requires.leaf).0

pub returns-clause-inside : goal.returns-clause-inside
returns-clause-inside c =
    let facts : IsLayered c.args.self.now = shape_layered c.args.self.now c.requires.shape in
    (computed c.args.self.now.levels c.args.leaf.0 c.args.level c.args.self.now.buckets facts.levels_to facts.buckets
    c.requires.level c.requires.leaf).2
