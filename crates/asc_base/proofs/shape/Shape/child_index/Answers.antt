use Rattle.std.proofs.Common.{ℕ, ◌%◌, ap, arith}
use Rattle.asc_base.specs.TreeShape.{child_index_of}
use Rattle.asc_base.proofs.Placed.{placed}
use Rattle.asc_base.proofs.shape.Shape.child_index.Goals as goal

pub bounds-self-layer : goal.bounds-self-layer
bounds-self-layer c =
    let block = placed c.args.self.now c.args.address.0 c.layer-layer.result c.requires.shape c.requires.address
    c.layer-layer.ensures.layer in
    omega (arith, block.layers, block.one_of)

pub overflow_sub-result : goal.overflow_sub-result
overflow_sub-result c =
    (placed c.args.self.now c.args.address.0 c.layer-layer.result c.requires.shape c.requires.address
    c.layer-layer.ensures.layer).from

pub returns-clause-place : goal.returns-clause-place
unfolding child_index_of
returns-clause-place c =
    let block = placed c.args.self.now c.args.address.0 c.layer-layer.result c.requires.shape c.requires.address
    c.layer-layer.ensures.layer in
    ap (λ (n : ℕ). n % 32) block.index
