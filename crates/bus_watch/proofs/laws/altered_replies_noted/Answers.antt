use Rattle.bus_watch.proofs.Replies.{reply_same, reply_other, reply-moves, reply-events}
use Rattle.bus_watch.proofs.laws.altered_replies_noted.Goals as goal

pub returns-clause-same : goal.returns-clause-same
returns-clause-same c = reply_same

pub returns-clause-other : goal.returns-clause-other
returns-clause-other c = reply_other

pub returns-clause-moves : goal.returns-clause-moves
returns-clause-moves c = reply-moves

pub returns-clause-events : goal.returns-clause-events
returns-clause-events c = reply-events
