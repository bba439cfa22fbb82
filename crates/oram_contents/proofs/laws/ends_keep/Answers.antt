use Rattle.oram_contents.proofs.Answers.{answered_sound, answered_always}
use Rattle.oram_contents.proofs.Ends.{whole_ends, whole_answered, sound_ends, always_ends, forgery_ends}
use Rattle.oram_contents.proofs.laws.ends_keep.Goals as goal

pub returns-clause-contents : goal.returns-clause-contents
returns-clause-contents c = whole_ends

pub returns-clause-sound : goal.returns-clause-sound
returns-clause-sound c = sound_ends

pub returns-clause-always : goal.returns-clause-always
returns-clause-always c = always_ends

pub returns-clause-forgery : goal.returns-clause-forgery
returns-clause-forgery c = forgery_ends

pub returns-clause-answered : goal.returns-clause-answered
returns-clause-answered c = answered_sound

pub returns-clause-answered_always : goal.returns-clause-answered_always
returns-clause-answered_always c = answered_always

pub returns-clause-answered_contents : goal.returns-clause-answered_contents
returns-clause-answered_contents c = whole_answered
