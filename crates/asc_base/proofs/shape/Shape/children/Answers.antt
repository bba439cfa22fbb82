use Rattle.std.proofs.Common.{arith}
use Rattle.asc_base.proofs.Layers.{children_of-line, children_of-above}
use Rattle.asc_base.proofs.Placed.{placed, children_in_is, children_of_is}
use Rattle.asc_base.proofs.shape.Shape.children.Goals as goal

pub returns-then-layer-eq0-clause-children : goal.returns-then-layer-eq0-clause-children
returns-then-layer-eq0-clause-children c =
    rw (children_of-line c.args.self.now.lines c.args.self.now.layers c.args.address.0 c.layer-layer.result
    c.layer-layer.ensures.layer
    c.if-layer-eq0.true)

pub bounds-self-layer : goal.bounds-self-layer
bounds-self-layer c =
    let block = placed c.args.self.now c.args.address.0 c.layer-layer.result c.requires.shape c.requires.address
    c.layer-layer.ensures.layer in
    omega (arith, block.layers, block.one_of)

pub overflow_sub-place : goal.overflow_sub-place
overflow_sub-place c =
    (placed c.args.self.now c.args.address.0 c.layer-layer.result c.requires.shape c.requires.address
    c.layer-layer.ensures.layer).from

pub overflow_mul-place : goal.overflow_mul-place
overflow_mul-place c =
    let block = placed c.args.self.now c.args.address.0 c.layer-layer.result c.requires.shape c.requires.address
    c.layer-layer.ensures.layer in
    let under = block.below (omega arith) in
    omega (arith, block.total, under.2, under.3)

pub bounds-self-below : goal.bounds-self-below
bounds-self-below c =
    let block = placed c.args.self.now c.args.address.0 c.layer-layer.result c.requires.shape c.requires.address
    c.layer-layer.ensures.layer in
    omega (arith, block.layers, block.one_of)

pub overflow_sub-self : goal.overflow_sub-self
overflow_sub-self c =
    let block = placed c.args.self.now c.args.address.0 c.layer-layer.result c.requires.shape c.requires.address
    c.layer-layer.ensures.layer in
    let under = block.below (omega arith) in
    omega (arith, under.2)

pub bounds-self-below-2 : goal.bounds-self-below-2
bounds-self-below-2 c =
    let block = placed c.args.self.now c.args.address.0 c.layer-layer.result c.requires.shape c.requires.address
    c.layer-layer.ensures.layer in
    omega (arith, block.layers, block.one_of)

pub overflow_add-result : goal.overflow_add-result
overflow_add-result c =
    let block = placed c.args.self.now c.args.address.0 c.layer-layer.result c.requires.shape c.requires.address
    c.layer-layer.ensures.layer in
    let under = block.below (omega arith) in
    omega (arith, block.total, under.2, under.3)

pub returns-clause-children : goal.returns-clause-children
returns-clause-children c =
    let block = placed c.args.self.now c.args.address.0 c.layer-layer.result c.requires.shape c.requires.address
    c.layer-layer.ensures.layer in
    let under = block.below (omega arith) in
    children_in_is c.args.self.now c.args.address _ _ _ _
    (children_of-above c.args.self.now.lines c.args.self.now.layers c.args.address.0 c.layer-layer.result
    c.layer-layer.ensures.layer
    (omega arith))
    (omega (arith, under.0, block.index))
    (omega (arith, under.1, block.index, c.min-number.ensures))

pub returns-clause-inside : goal.returns-clause-inside
returns-clause-inside c =
    let block = placed c.args.self.now c.args.address.0 c.layer-layer.result c.requires.shape c.requires.address
    c.layer-layer.ensures.layer in
    let under = block.below (omega arith) in (
      omega (arith, under.2, under.3, c.min-number.ensures),
      omega (arith, under.2, c.min-number.ensures),
      omega
          (arith, c.min-number.ensures),
    )

pub returns-then-layer-eq0-clause-line : goal.returns-then-layer-eq0-clause-line
returns-then-layer-eq0-clause-line c =
    children_of-line c.args.self.now.lines c.args.self.now.layers c.args.address.0 c.layer-layer.result
    c.layer-layer.ensures.layer c.if-layer-eq0.true

pub returns-clause-below : goal.returns-clause-below
returns-clause-below c =
    let block = placed c.args.self.now c.args.address.0 c.layer-layer.result c.requires.shape c.requires.address
    c.layer-layer.ensures.layer in
    let under = block.below (omega arith) in
    children_of_is c.args.self.now c.args.address.0 _ _ _ _
    (children_of-above c.args.self.now.lines c.args.self.now.layers c.args.address.0 c.layer-layer.result
    c.layer-layer.ensures.layer (omega arith))
    (omega (arith, under.0, block.index))
    (omega (arith, under.1, block.index, c.min-number.ensures))
