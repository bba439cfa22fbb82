use Rattle.std.proofs.Common.{refl, subst, sym}
use Rattle.oram_stash.proofs.Apart.{AreApart-append}
use Rattle.oram_stash.specs.Entries.{AreApart}
use Rattle.rate_enforcer.proofs.StateLaws.{hand_changed}
use Rattle.rate_enforcer.proofs.port.Port.put.Goals as goal

pub returns-clause-opens : goal.returns-clause-opens
returns-clause-opens g c notes memory tap o =
    hand_changed c.put.new.self c.put.ensures.same c.put.ensures.seed c.put.ensures.path
    (subst AreApart (sym c.in-Ok.ensures.hand)
    (AreApart-append c.args.self.now.tree.hand c.args.entry o.is_for.apart c.requires.absent)) o

pub returns-clause-step : goal.returns-clause-step
returns-clause-step g c memory tap = (
  refl,
  record {
    others = record {
      clock = refl;
      tree = c.put.ensures.same;
      seed = c.put.ensures.seed;
      memory = refl;
      tap = refl;
    };
    hand = c.in-Ok.ensures.hand;
    in_slot = λ notes leaf o. record {
      slot = o.slot;
      opens = hand_changed c.put.new.self c.put.ensures.same c.put.ensures.seed c.put.ensures.path
          (subst AreApart (sym c.in-Ok.ensures.hand)
          (AreApart-append c.args.self.now.tree.hand c.args.entry o.opens.is_for.apart c.requires.absent)) o.opens;
      leaf_is = o.leaf_is;
    };
  },
)
