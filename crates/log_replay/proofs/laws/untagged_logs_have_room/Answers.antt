use Rattle.asc_base.proofs.ShapeFacts.{shape_layered}
use Rattle.log_replay.proofs.UntaggedLogs.{untagged_other}
use Rattle.log_replay.proofs.laws.untagged_logs_have_room.Goals as goal

pub returns : goal.returns
returns c keys shape stash held log = untagged_other keys (shape_layered keys.shape shape).levels_to stash held log
