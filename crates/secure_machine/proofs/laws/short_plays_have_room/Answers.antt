use Rattle.secure_machine.proofs.ShortPlays.{short, load_has_room}
use Rattle.secure_machine.proofs.laws.short_plays_have_room.Goals as goal

pub returns-clause-any : goal.returns-clause-any
returns-clause-any c = short

pub returns-clause-load : goal.returns-clause-load
returns-clause-load c = load_has_room
