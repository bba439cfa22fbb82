use Rattle.std.proofs.Common.{◌≡◌, ℕ, ◌+◌, ◌-◌, ◌<◌, ◌≤◌, sym, ap, arith}
use Rattle.asc_base.specs.TreeShape.{layer_first, layer_of}
use Rattle.asc_base.proofs.Layers.{layer_of_is, layer_first-zero}
use Rattle.asc_base.proofs.ShapeFacts.{IsLayered, shape_layered}
use Rattle.asc_base.proofs.shape.Shape.layer.Goals as goal

-- a block between the first of a layer and the first of the next is in that layer
between : (lines layers next address : ℕ) → 1 ≤ next → next ≤ layers → layer_first lines (next - 1) ≤ address
    → address < layer_first lines next → next - 1 ≡ layer_of lines layers address
between lines layers next address some within from below =
    let back : next ≡ next - 1 + 1 = omega arith in
    let ends = ap (layer_first lines) back in
    sym (layer_of_is lines layers (next - 1) address (omega arith) record { from = from; below = omega arith })

pub loop-layer-init : goal.loop-layer-init
loop-layer-init c = omega (arith, layer_first-zero c.args.self.now.lines)

pub bounds-self-layer : goal.bounds-self-layer
bounds-self-layer c =
    let facts : IsLayered c.args.self.now = shape_layered c.args.self.now c.requires.shape in
    omega arith

pub returns-then-address-self-clause-layer : goal.returns-then-address-self-clause-layer
returns-then-address-self-clause-layer c =
    let facts : IsLayered c.args.self.now = shape_layered c.args.self.now c.requires.shape in
    between c.args.self.now.lines c.args.self.now.layers c.loop-layer.layer c.args.address.0 (omega arith) (omega arith)
    c.loop-layer.invariant (omega (arith, facts.firsts c.loop-layer.layer (omega arith)))

pub loop-layer-preserved : goal.loop-layer-preserved
loop-layer-preserved c =
    let facts : IsLayered c.args.self.now = shape_layered c.args.self.now c.requires.shape in
    let back : c.loop-layer.layer + 1 - 1 ≡ c.loop-layer.layer = omega arith in
    let same = ap (layer_first c.args.self.now.lines) back in
    omega (arith, same, facts.firsts c.loop-layer.layer (omega arith))

pub overflow_sub-result-2 : goal.overflow_sub-result-2
overflow_sub-result-2 c =
    let facts : IsLayered c.args.self.now = shape_layered c.args.self.now c.requires.shape in
    omega arith

pub returns-clause-layer : goal.returns-clause-layer
returns-clause-layer c =
    let facts : IsLayered c.args.self.now = shape_layered c.args.self.now c.requires.shape in
    let last : c.loop-layer.layer ≡ c.args.self.now.layers = omega arith in
    between c.args.self.now.lines c.args.self.now.layers c.args.self.now.layers c.args.address.0 (omega arith)
    (omega arith)
    (rw (sym last) c.loop-layer.invariant) (omega (arith, facts.total, c.requires.address))

pub returns-clause-inside : goal.returns-clause-inside
returns-clause-inside c =
    let facts : IsLayered c.args.self.now = shape_layered c.args.self.now c.requires.shape in
    omega arith
