use Rattle.oram_contents.proofs.VerdictLaws.{slot_shows, append_shows, end_shows, answer_shows}
use Rattle.oram_contents.proofs.laws.verdicts_are_the_first.Goals as goal

pub returns-clause-slot : goal.returns-clause-slot
returns-clause-slot c = slot_shows

pub returns-clause-append : goal.returns-clause-append
returns-clause-append c = append_shows

pub returns-clause-ended : goal.returns-clause-ended
returns-clause-ended c = end_shows

pub returns-clause-answered : goal.returns-clause-answered
returns-clause-answered c = answer_shows
