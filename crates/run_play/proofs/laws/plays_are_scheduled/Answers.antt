use Rattle.run_play.proofs.PlaysOnTime.{play-on-time, code-in-budget}
use Rattle.run_play.proofs.Events.{log-shows}
use Rattle.run_play.proofs.laws.plays_are_scheduled.Goals as goal

pub returns : goal.returns
returns c = record { slots = play-on-time; code = code-in-budget; log = log-shows }
