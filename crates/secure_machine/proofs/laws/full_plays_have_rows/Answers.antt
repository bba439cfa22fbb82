use Rattle.secure_machine.proofs.FullPlays.{stops, full}
use Rattle.secure_machine.proofs.laws.full_plays_have_rows.Goals as goal

pub returns-clause-stops : goal.returns-clause-stops
returns-clause-stops c = stops

pub returns-clause-full : goal.returns-clause-full
returns-clause-full c = full
