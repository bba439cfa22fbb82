use Rattle.oram_contents.proofs.PutSteps.{put_back_sound, put_always}
use Rattle.oram_contents.proofs.laws.puts_keep.Goals as goal

pub returns-clause-sound : goal.returns-clause-sound
returns-clause-sound c = put_back_sound

pub returns-clause-always : goal.returns-clause-always
returns-clause-always c = put_always
