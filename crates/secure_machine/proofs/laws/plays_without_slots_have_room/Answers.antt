use Rattle.secure_machine.proofs.Roomy.{without_slots}
use Rattle.secure_machine.proofs.laws.plays_without_slots_have_room.Goals as goal

pub returns : goal.returns
returns c keys stash whole none = without_slots keys stash whole none
