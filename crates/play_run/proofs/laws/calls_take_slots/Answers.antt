use Rattle.play_run.proofs.Calls.{calls-play}
use Rattle.play_run.proofs.laws.calls_take_slots.Goals as goal

pub returns : goal.returns
returns c keys lawful levels config is = calls-play keys lawful levels config is
