use Rattle.oram_contents.proofs.SmallLaws.{small_start, small_more, small_raised, small_drawn, small_renumbered}
use Rattle.oram_contents.proofs.SmallLaws.{small_fits}
use Rattle.oram_contents.proofs.laws.counters_stay_small.Goals as goal

pub returns-clause-start : goal.returns-clause-start
returns-clause-start c = small_start

pub returns-clause-grown : goal.returns-clause-grown
returns-clause-grown c = small_more

pub returns-clause-changed : goal.returns-clause-changed
returns-clause-changed c = small_raised

pub returns-clause-fits : goal.returns-clause-fits
returns-clause-fits c = small_fits

pub returns-clause-drawn : goal.returns-clause-drawn
returns-clause-drawn c = small_drawn

pub returns-clause-renumbered : goal.returns-clause-renumbered
returns-clause-renumbered c = small_renumbered
