use Rattle.bus_watch.proofs.MadeLaws.{silent_events, silent_replies}
use Rattle.bus_watch.proofs.laws.silent_runs_keep_events.Goals as goal

pub returns-clause-events : goal.returns-clause-events
returns-clause-events c = λ end moves m m2 t t2 made. silent_events made

pub returns-clause-replies : goal.returns-clause-replies
returns-clause-replies c = λ end moves m m2 t t2 made. silent_replies made
