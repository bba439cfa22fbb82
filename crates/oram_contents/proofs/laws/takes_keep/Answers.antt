use Rattle.oram_contents.proofs.TakeSteps.{take_keeps, take_always}
use Rattle.oram_contents.proofs.laws.takes_keep.Goals as goal

pub returns-clause-sound : goal.returns-clause-sound
returns-clause-sound c = take_keeps

pub returns-clause-always : goal.returns-clause-always
returns-clause-always c = take_always
