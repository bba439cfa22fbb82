use Rattle.std.proofs.Common.{arith, sym, ◌∙◌}
use Rattle.path_evict.proofs.Steps.{fill_up-more, fill_up-root}
use Rattle.path_evict.proofs.fill_path.Goals as goal

pub loop-level-preserved : goal.loop-level-preserved
loop-level-preserved c = rw c.fill_level.ensures
    (sym (fill_up-more c.loop-level.level c.args.depths.now c.loop-level.places (omega arith)) ∙ c.loop-level.invariant)

pub returns-2 : goal.returns-2
returns-2 c = c.fill_level.ensures
    ∙ sym (fill_up-root c.loop-level.level c.args.depths.now c.loop-level.places (omega arith)) ∙ c.loop-level.invariant
