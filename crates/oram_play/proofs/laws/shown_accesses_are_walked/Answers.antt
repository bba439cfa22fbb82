use Rattle.oram_play.proofs.Found.{shown-walked}
use Rattle.oram_play.proofs.laws.shown_accesses_are_walked.Goals as goal

pub returns : goal.returns
returns c = shown-walked
