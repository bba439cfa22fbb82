use Rattle.ascend_top.proofs.Instances.{late_room, short_is_read, short_right, short_room}
use Rattle.ascend_top.proofs.laws.completeness_can_be_met.Goals as goal

pub returns-clause-late : goal.returns-clause-late
returns-clause-late c command given files late = late_room command given files late

pub returns-clause-room : goal.returns-clause-room
returns-clause-room c files = short_room files

pub returns-clause-right : goal.returns-clause-right
returns-clause-right c files have = short_right files have

pub returns-clause-read : goal.returns-clause-read
returns-clause-read c = short_is_read
