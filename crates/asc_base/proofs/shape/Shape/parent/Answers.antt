use Rattle.std.proofs.Common.{arith}
use Rattle.asc_base.proofs.Layers.{parent_of-top, parent_of-below}
use Rattle.asc_base.proofs.Placed.{placed, parent_in_is, parent_of_is}
use Rattle.asc_base.proofs.shape.Shape.parent.Goals as goal

pub overflow_add-layer : goal.overflow_add-layer
overflow_add-layer c =
    let block = placed c.args.self.now c.args.address.0 c.layer-layer.result c.requires.shape c.requires.address
    c.layer-layer.ensures.layer in
    omega (arith, block.layers, block.one_of)

pub returns-then-layer-self-clause-parent : goal.returns-then-layer-self-clause-parent
returns-then-layer-self-clause-parent c =
    rw (parent_of-top c.args.self.now.lines c.args.self.now.layers c.args.address.0 c.layer-layer.result
    c.layer-layer.ensures.layer
    c.if-layer-self.true)

pub bounds-self-layer : goal.bounds-self-layer
bounds-self-layer c =
    let block = placed c.args.self.now c.args.address.0 c.layer-layer.result c.requires.shape c.requires.address
    c.layer-layer.ensures.layer in
    omega (arith, block.layers, block.one_of)

pub overflow_sub-index : goal.overflow_sub-index
overflow_sub-index c =
    (placed c.args.self.now c.args.address.0 c.layer-layer.result c.requires.shape c.requires.address
    c.layer-layer.ensures.layer).from

pub bounds-self-layer-2 : goal.bounds-self-layer-2
bounds-self-layer-2 c =
    let block = placed c.args.self.now c.args.address.0 c.layer-layer.result c.requires.shape c.requires.address
    c.layer-layer.ensures.layer in
    omega (arith, block.layers, block.one_of)

pub overflow_add-result-2 : goal.overflow_add-result-2
overflow_add-result-2 c =
    let block = placed c.args.self.now c.args.address.0 c.layer-layer.result c.requires.shape c.requires.address
    c.layer-layer.ensures.layer in
    omega (arith, block.total, (block.above (omega (arith, block.one_of))).1)

pub returns-clause-parent : goal.returns-clause-parent
returns-clause-parent c =
    let block = placed c.args.self.now c.args.address.0 c.layer-layer.result c.requires.shape c.requires.address
    c.layer-layer.ensures.layer in
    parent_in_is c.args.self.now c.args.address _ _
    (parent_of-below c.args.self.now.lines c.args.self.now.layers c.args.address.0 c.layer-layer.result
    c.layer-layer.ensures.layer
    c.if-layer-self.false)
    (omega (arith, (block.above (omega (arith, block.one_of))).0, block.index))

pub returns-clause-inside : goal.returns-clause-inside
returns-clause-inside c =
    let block = placed c.args.self.now c.args.address.0 c.layer-layer.result c.requires.shape c.requires.address
    c.layer-layer.ensures.layer in
    (block.above (omega (arith, block.one_of))).1

pub returns-then-layer-self-clause-top : goal.returns-then-layer-self-clause-top
returns-then-layer-self-clause-top c =
    parent_of-top c.args.self.now.lines c.args.self.now.layers c.args.address.0 c.layer-layer.result
    c.layer-layer.ensures.layer c.if-layer-self.true

pub returns-clause-above : goal.returns-clause-above
returns-clause-above c =
    let block = placed c.args.self.now c.args.address.0 c.layer-layer.result c.requires.shape c.requires.address
    c.layer-layer.ensures.layer in
    parent_of_is c.args.self.now c.args.address.0 _ _
    (parent_of-below c.args.self.now.lines c.args.self.now.layers c.args.address.0 c.layer-layer.result
    c.layer-layer.ensures.layer c.if-layer-self.false)
    (omega (arith, (block.above (omega (arith, block.one_of))).0, block.index))
