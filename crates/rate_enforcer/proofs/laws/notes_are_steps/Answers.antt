use Rattle.std.proofs.Common.{refl}
use Rattle.rate_enforcer.proofs.Counted.{counted_note}
use Rattle.rate_enforcer.proofs.Steps.{opens_noted, rests_noted}
use Rattle.rate_enforcer.proofs.laws.notes_are_steps.Goals as goal

pub returns : goal.returns
returns c leaf_of levels event clock tree m m2 t t2 note made memory log mirror = (
  refl,
  record {
    clock = refl;
    tree = refl;
    memory = memory;
    made = made;
    log = log;
    mirror = mirror;
    counts = λ counted. counted_note clock t.log t2.log event note log counted;
    in_slot = λ notes leaf o. record {
      slot = o.slot;
      opens = opens_noted event note made o.opens;
      leaf_is = o.leaf_is;
    };
    rests = λ notes r. rests_noted event note made r;
  },
)
