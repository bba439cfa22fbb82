use Rattle.oram_contents.proofs.ReadSteps.{begun_sound, drawn_always}
use Rattle.oram_contents.proofs.StopSteps.{part_sound, part_always, refused_sound, refused_always}
use Rattle.oram_contents.proofs.laws.stops_keep.Goals as goal

pub returns-clause-reading : goal.returns-clause-reading
returns-clause-reading c = begun_sound

pub returns-clause-reading_always : goal.returns-clause-reading_always
returns-clause-reading_always c = drawn_always

pub returns-clause-writing : goal.returns-clause-writing
returns-clause-writing c = part_sound

pub returns-clause-writing_always : goal.returns-clause-writing_always
returns-clause-writing_always c = part_always

pub returns-clause-appending : goal.returns-clause-appending
returns-clause-appending c = refused_sound

pub returns-clause-appending_always : goal.returns-clause-appending_always
returns-clause-appending_always c = refused_always
