use Rattle.std.proofs.Common.{List, subst, length, ap, arith, sym}
use Rattle.asc_base.specs.declared.block.Entry.{Entry}
use Rattle.oram_contents.specs.Shapes.{AreOfShape}
use Rattle.oram_contents.proofs.OfShape.{without_of_shape}
use Rattle.unified_tree.specs.Tree.{TreeState}
use Rattle.unified_tree.proofs.Places.{length-without-le, take_spare}
use Rattle.unified_tree.proofs.tree.Tree.take.Goals as goal

pub invariant_of-self : goal.invariant_of-self
invariant_of-self c =
    let i = c.self.invariant in
    let less = length-without-le c.self.inside.hand.entries c.args.address in
    let same = ap length c.take.ensures.others in
    record {
      shape = i.shape;
      small = i.small;
      seed = i.seed;
      texts = i.texts;
      depths = omega (arith, i.depths);
      places = omega (arith, i.places);
      of_shape = subst (λ (entries : List Entry). AreOfShape c.self.inside.shape entries) (sym c.take.ensures.others)
          (without_of_shape c.self.inside.shape c.self.inside.hand.entries c.args.address i.of_shape);
      few = omega (arith, i.few);
      path = i.path;
    }

pub returns-clause-spare : goal.returns-clause-spare
returns-clause-spare c =
    take_spare c.take.result c.self.inside.hand.entries c.take.new.self.entries c.args.address c.args.self.now.spare
    c.self.inside.hand.spare c.take.new.self.spare _ _
    c.take.ensures.taken c.take.ensures.others c.take.ensures.spare
    (sym (ap (λ (s : TreeState). s.spare) c.self.view_is)) c.self.invariant.depths c.self.invariant.places
