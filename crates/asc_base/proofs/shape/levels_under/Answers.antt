use Rattle.std.proofs.Common.{◌+◌, sym, arith}
use Rattle.std.proofs.lemmas.Nat.{one_shl}
use Rattle.asc_base.proofs.Levels.{levels_of_is}
use Rattle.asc_base.proofs.shape.levels_under.Goals as goal

pub returns-clause-level : goal.returns-clause-level
returns-clause-level c =
    sym (levels_of_is c.args.total c.loop-levels.levels record {
      some = c.loop-levels.invariant.some;
      room = c.loop-levels.invariant.room;
      greatest = omega (arith, one_shl (c.loop-levels.levels + 2) 32 (omega arith));
    })
