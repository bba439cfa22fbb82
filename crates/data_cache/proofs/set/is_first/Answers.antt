use Rattle.std.proofs.Common.{[], false, arith}
use Rattle.std.proofs.lemmas.Bool.{eqb-true}
use Rattle.data_cache.proofs.SetLaws.{first_is}
use Rattle.data_cache.proofs.set.is_first.Goals as goal

pub returns-then-not-is_empty : goal.returns-then-not-is_empty
returns-then-not-is_empty c is =
    first_is c.args.line c.args.set.now (record { line = 0; dirty = false; value = record { 0 = [] } }) (grind arith)
    (eqb-true _ _ is)
