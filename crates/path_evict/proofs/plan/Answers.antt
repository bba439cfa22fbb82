use Rattle.std.proofs.Common.{arith, rules, length}
use Rattle.path_evict.proofs.Planned.{planned}
use Rattle.path_evict.proofs.plan.Goals as goal

pub returns : goal.returns
returns c =
    let p = planned c.args.depths.now c.args.levels c.resize.new.self.len _ (length c.fill_path.new.places)
    c.clear.new.self.items c.resize.new.self.items c.deref_mut.result.now c.fill_path.new.places
    c.resize.new.self.items c.requires c.clear.ensures.items c.clear.ensures.len c.in-Ok.ensures.items
    c.deref_mut.ensures.value c.fill_path.ensures (omega arith) in
    record {
      rule = p.rule;
      len = search rules;
      placement = p.placement;
      rest = p.leaves;
      fewest = p.fewest;
      room = search rules;
      capacity = search rules;
      err = search rules;
    }
