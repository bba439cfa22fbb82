use Rattle.secure_machine.proofs.UntaggedPlays.{without_tags, jumps_have_room}
use Rattle.secure_machine.proofs.laws.plays_without_tags_have_room.Goals as goal

pub returns-clause-any : goal.returns-clause-any
returns-clause-any c = without_tags

pub returns-clause-dummies : goal.returns-clause-dummies
returns-clause-dummies c = jumps_have_room
