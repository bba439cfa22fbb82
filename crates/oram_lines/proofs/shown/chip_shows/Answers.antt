use Rattle.oram_lines.proofs.ShownHeld.{insert_shown, used_shown, used_first}
use Rattle.oram_lines.proofs.ShownLaws.{start_shown, shown_same, step_shown}
use Rattle.oram_lines.proofs.shown.chip_shows.Goals as goal

pub returns-clause-start : goal.returns-clause-start
returns-clause-start c = start_shown

pub returns-clause-same : goal.returns-clause-same
returns-clause-same c = shown_same

pub returns-clause-step : goal.returns-clause-step
returns-clause-step c = step_shown

pub returns-clause-insert : goal.returns-clause-insert
returns-clause-insert c = insert_shown

pub returns-clause-used : goal.returns-clause-used
returns-clause-used c = used_shown

pub returns-clause-first : goal.returns-clause-first
returns-clause-first c = used_first
