use Rattle.std.proofs.Common.{◌<◌, IfOk, IfSome, sym, subst}
use Rattle.oram_walk.specs.Front.{FrontState}
use Rattle.oram_walk.proofs.Fronts.{inserted_front, displaced_inside}
use Rattle.oram_walk.proofs.front.Front.insert.Goals as goal

pub invariant_of-self : goal.invariant_of-self
invariant_of-self c =
    let low = subst (λ (f : FrontState). c.args.held.address.0 < f.shape.total)
    (sym c.self.view_is) c.requires.inside in
    inserted_front _ c.args.held c.insert.new.self c.insert.result low c.insert.ensures.list c.insert.ensures.err
    c.insert.ensures.whole c.self.invariant

pub returns-clause-inside : goal.returns-clause-inside
returns-clause-inside c =
    let low = subst (λ (f : FrontState). c.args.held.address.0 < f.shape.total)
    (sym c.self.view_is) c.requires.inside in
    subst (λ (f : FrontState).
    IfOk c.insert.result (λ last. IfSome last (λ block. block.address.0 < f.shape.total))) c.self.view_is
    (displaced_inside _ c.args.held c.insert.result low c.insert.ensures.last c.self.invariant)

pub returns-clause-whole : goal.returns-clause-whole
returns-clause-whole c =
    let low = subst (λ (f : FrontState). c.args.held.address.0 < f.shape.total)
    (sym c.self.view_is) c.requires.inside in
    inserted_front _ c.args.held c.insert.new.self c.insert.result low c.insert.ensures.list c.insert.ensures.err
    c.insert.ensures.whole c.self.invariant
