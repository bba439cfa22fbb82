use Rattle.oram_contents.proofs.WriteSteps.{write_sound, write_always}
use Rattle.oram_contents.proofs.laws.writes_keep.Goals as goal

pub returns-clause-sound : goal.returns-clause-sound
returns-clause-sound c = write_sound

pub returns-clause-always : goal.returns-clause-always
returns-clause-always c = write_always
