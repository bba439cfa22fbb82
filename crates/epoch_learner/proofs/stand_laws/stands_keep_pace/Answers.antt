use Rattle.bus_schedule.proofs.ScheduledLaws.{scheduled-config}
use Rattle.epoch_learner.proofs.StandLaws.{stands_pace, reads_pace, writes_pace}
use Rattle.epoch_learner.proofs.stand_laws.stands_keep_pace.Goals as goal

pub returns-clause-between : goal.returns-clause-between
returns-clause-between c = λ config n last next end learner log. stands_pace end

pub returns-clause-reads : goal.returns-clause-reads
returns-clause-reads c = λ config n start leaf made end learner log. reads_pace made end

pub returns-clause-writes : goal.returns-clause-writes
returns-clause-writes c = λ config n start leaf made end learner log. writes_pace made end

pub returns-clause-budget : goal.returns-clause-budget
returns-clause-budget c = λ config end log is pace. scheduled-config config end log is pace.scheduled
