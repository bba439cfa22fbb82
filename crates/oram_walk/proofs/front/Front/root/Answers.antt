use Rattle.std.proofs.Common.{◌-◌, length, ap, ◌∙◌, arith}
use Rattle.oram_walk.specs.Front.{FrontState, root_place}
use Rattle.oram_walk.proofs.Roots.{IsRoot, view_root}
use Rattle.oram_walk.proofs.front.Front.root.Goals as goal

pub overflow_sub-result : goal.overflow_sub-result
overflow_sub-result c =
    (view_root _ _ c.args.address c.self.view_is c.self.invariant c.requires.inside c.requires.top).layers_from

pub bounds-self-inside-self-inside : goal.bounds-self-inside-self-inside
bounds-self-inside-self-inside c =
    let root : IsRoot c.self.inside.shape c.args.address =
    view_root _ _ c.args.address c.self.view_is c.self.invariant c.requires.inside c.requires.top in
    omega (arith, root.layers_from, root.layers_to)

pub overflow_sub-result-2 : goal.overflow_sub-result-2
overflow_sub-result-2 c =
    let root : IsRoot c.self.inside.shape c.args.address =
    view_root _ _ c.args.address c.self.view_is c.self.invariant c.requires.inside c.requires.top in
    omega (arith, root.first, root.from)

pub returns-clause-place : goal.returns-clause-place
returns-clause-place c =
    let root : IsRoot c.self.inside.shape c.args.address =
    view_root _ _ c.args.address c.self.view_is c.self.invariant c.requires.inside c.requires.top in
    ap (λ n. c.args.address.0 - n) root.first
    ∙ ap (λ (f : FrontState). root_place f.shape c.args.address) c.self.view_is

pub returns-clause-below : goal.returns-clause-below
returns-clause-below c =
    let root : IsRoot c.self.inside.shape c.args.address =
    view_root _ _ c.args.address c.self.view_is c.self.invariant c.requires.inside c.requires.top in
    let many = ap (λ (f : FrontState). length f.roots) c.self.view_is in
    omega (arith, root.first, root.below, c.self.invariant.roots, many)
