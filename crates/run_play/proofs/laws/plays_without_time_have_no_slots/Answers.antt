use Rattle.run_play.proofs.NoSlots.{no-slots}
use Rattle.run_play.proofs.laws.plays_without_time_have_no_slots.Goals as goal

pub returns : goal.returns
returns c config memory marked machine late = no-slots config memory marked machine late
