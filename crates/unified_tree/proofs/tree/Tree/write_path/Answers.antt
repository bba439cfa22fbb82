use Rattle.std.proofs.Common.{rules, Some, ◌≡◌, ◌≤◌, ◌∙◌, ℕ, List, All, length, is_none, ap, sym, subst, arith}
use Rattle.std.proofs.lemmas.Grind.{common_steps}
use Rattle.asc_base.specs.declared.block.Entry.{Entry}
use Rattle.bucket_codec.specs.Slot.{IsEntry, IsInRange}
use Rattle.oram_contents.specs.Shapes.{AreOfShape}
use Rattle.oram_contents.specs.PathWritten.{rest_of}
use Rattle.path_evict.specs.Placement.{left}
use Rattle.path_evict.specs.Rest.{rest}
use Rattle.path_evict.proofs.Placed.{All-where_placed, length-where_all}
use Rattle.unified_tree.specs.Tree.{TreeState}
use Rattle.unified_tree.proofs.Places.{depths_within, kept_fewer}
use Rattle.unified_tree.proofs.tree.Tree.write_path.Goals as goal

pub plan-requires : goal.plan-requires
plan-requires g c =
    subst (λ (depths : List ℕ). All (λ depth. depth ≤ c.self.inside.shape.levels) depths)
    (sym (c.deref-2.ensures.value ∙ c.depths_on.ensures.depths))
    (depths_within c.self.inside.shape.levels c.args.leaf.0 c.self.inside.hand.entries)

pub invariant_of-self-2 : goal.invariant_of-self-2
invariant_of-self-2 g c =
    let i = c.self.invariant in
    let less = kept_fewer c.deref-4.result.now c.self.inside.hand.entries in
    let same = ap length c.keep_unplaced.ensures.entries in
    record {
      shape = i.shape;
      small = i.small;
      seed = omega (arith, i.seed);
      texts = i.texts;
      depths = omega (arith, i.depths, c.depths_on.ensures.capacity);
      places = omega (arith, i.places, c.plan.ensures.capacity);
      of_shape = subst (λ (entries : List Entry). AreOfShape c.self.inside.shape entries)
          (sym c.keep_unplaced.ensures.entries)
          (All-where_placed (λ (e : Entry). IsEntry e × IsInRange c.self.inside.shape (Some e)) is_none
          c.deref-4.result.now c.self.inside.hand.entries i.of_shape);
      few = omega (arith, i.few);
      path = tt;
    }

pub returns-clause-spare : goal.returns-clause-spare
returns-clause-spare g c =
    let less = kept_fewer c.deref-4.result.now c.self.inside.hand.entries in
    let same = ap length c.keep_unplaced.ensures.entries in
    let seen = ap (λ (s : TreeState). s.spare) c.self.view_is in
    omega (arith, c.depths_on.ensures.capacity, c.plan.ensures.capacity, c.keep_unplaced.ensures.spare)

pub returns-clause-stay : goal.returns-clause-stay
returns-clause-stay g c =
    let tree = c.self.inside in
    let places = c.deref-4.result.now in
    let planned : places ≡ c.plan.new.into.items = c.deref-4.ensures.value in
    let depths = c.deref-2.ensures.value ∙ c.depths_on.ensures.depths in
    let counted : length places ≡ length tree.hand.entries = first_of (search rules, grind (arith, common_steps)) in
    let stayed = ap length c.keep_unplaced.ensures.entries ∙ length-where_all is_none places tree.hand.entries counted
    ∙ ap left planned ∙ c.in-Ok.ensures.rest ∙ ap (λ ds. rest ds tree.shape.levels) depths in
    subst (λ (s : TreeState). length c.keep_unplaced.new.self.entries ≡ rest_of s.shape.levels c.args.leaf.0 s.hand)
    c.self.view_is stayed

pub returns-clause-few : goal.returns-clause-few
returns-clause-few g c =
    let tree = c.self.inside in
    let stays = returns-clause-stay g c in
    let seen = ap (λ (s : TreeState). rest_of s.shape.levels c.args.leaf.0 s.hand) c.self.view_is in
    let depths = ap (λ ds. rest ds tree.shape.levels) (c.deref.ensures.value ∙ c.depths_on.ensures.depths) in
    let room = ap (λ (s : TreeState). s.stash) c.self.view_is in
    omega (arith, stays, seen, depths, room, c.remainder-rest.ensures.rest, c.if-rest-self.false)

pub returns-clause-of_shape : goal.returns-clause-of_shape
returns-clause-of_shape g c = (invariant_of-self-2 g c).of_shape
