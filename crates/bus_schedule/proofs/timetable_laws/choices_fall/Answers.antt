use Rattle.bus_schedule.proofs.Epochs.{epoch_at-is, epoch_at-holds}
use Rattle.bus_schedule.proofs.ChoiceLaws.{rate-chosen, rate-kept, falls-where}
use Rattle.bus_schedule.proofs.timetable_laws.choices_fall.Goals as goal

pub returns-clause-epoch : goal.returns-clause-epoch
returns-clause-epoch c = epoch_at-is

pub returns-clause-falls : goal.returns-clause-falls
returns-clause-falls c = falls-where

pub returns-clause-chosen : goal.returns-clause-chosen
returns-clause-chosen c = rate-chosen

pub returns-clause-kept : goal.returns-clause-kept
returns-clause-kept c = rate-kept

pub returns-clause-in_epoch : goal.returns-clause-in_epoch
returns-clause-in_epoch c = epoch_at-holds
