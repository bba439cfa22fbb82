use Rattle.std.proofs.Common.{refl, subst, sym}
use Rattle.oram_stash.proofs.Apart.{AreApart-without}
use Rattle.oram_stash.specs.Entries.{AreApart}
use Rattle.rate_enforcer.proofs.StateLaws.{hand_changed}
use Rattle.rate_enforcer.proofs.port.Port.take.Goals as goal

pub returns-clause-opens : goal.returns-clause-opens
returns-clause-opens g c notes memory tap o =
    hand_changed c.take.new.self c.take.ensures.same c.take.ensures.seed c.take.ensures.path
    (subst AreApart (sym c.take.ensures.hand)
    (AreApart-without c.args.self.now.tree.hand c.args.address o.is_for.apart)) o

pub returns-clause-step : goal.returns-clause-step
returns-clause-step g c memory tap = (
  refl,
  record {
    others = record {
      clock = refl;
      tree = c.take.ensures.same;
      seed = c.take.ensures.seed;
      memory = refl;
      tap = refl;
    };
    found_is = c.take.ensures.taken;
    hand = c.take.ensures.hand;
    in_slot = λ notes leaf o. record {
      slot = o.slot;
      opens = hand_changed c.take.new.self c.take.ensures.same c.take.ensures.seed c.take.ensures.path
          (subst AreApart (sym c.take.ensures.hand)
          (AreApart-without c.args.self.now.tree.hand c.args.address o.opens.is_for.apart)) o.opens;
      leaf_is = o.leaf_is;
    };
  },
)
