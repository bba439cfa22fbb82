use Rattle.std.proofs.Common.{subst, sym, arith}
use Rattle.asc_base.proofs.ShapeFacts.{IsLayered, shape_layered}
use Rattle.oram_walk.specs.Front.{IsFront}
use Rattle.oram_walk.proofs.Fronts.{first_is, new_is_first}
use Rattle.oram_walk.proofs.front.Front.new.Goals as goal

pub overflow_sub-top : goal.overflow_sub-top
overflow_sub-top c = (shape_layered c.args.config.now.shape c.requires.is_shape).layers_from

pub bounds-config-top : goal.bounds-config-top
bounds-config-top c =
    let facts : IsLayered c.args.config.now.shape = shape_layered c.args.config.now.shape c.requires.is_shape in
    omega (arith, facts.layers_from, facts.layers_to)

pub invariant_of-result : goal.invariant_of-result
invariant_of-result c =
    let same = new_is_first c.args.config.now c.in-Ok.roots.items c.in_ok-held.held
    c.requires.is_shape (c.in-Ok.ensures.items_if_clones_equal (λ y h. h)) c.in_ok-held.ensures in
    subst IsFront (sym same) (first_is c.args.config.now c.requires)

pub returns-in-Ok-clause-front : goal.returns-in-Ok-clause-front
returns-in-Ok-clause-front c =
    new_is_first c.args.config.now c.in-Ok.roots.items c.in_ok-held.held
    c.requires.is_shape (c.in-Ok.ensures.items_if_clones_equal (λ y h. h)) c.in_ok-held.ensures

pub returns-in-Ok-clause-whole : goal.returns-in-Ok-clause-whole
returns-in-Ok-clause-whole c =
    let same = new_is_first c.args.config.now c.in-Ok.roots.items c.in_ok-held.held
    c.requires.is_shape (c.in-Ok.ensures.items_if_clones_equal (λ y h. h)) c.in_ok-held.ensures in
    subst IsFront (sym same) (first_is c.args.config.now c.requires)
