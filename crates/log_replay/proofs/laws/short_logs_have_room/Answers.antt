use Rattle.log_replay.proofs.FewEntries.{few_other}
use Rattle.log_replay.proofs.laws.short_logs_have_room.Goals as goal

pub returns : goal.returns
returns c keys stash held log = few_other keys stash held log
