use Rattle.bus_schedule.proofs.ScheduledRows.{before-end, at-end, too-early, not-noted, no-rate, two-idle}
use Rattle.bus_schedule.proofs.ScheduledRows.{two-after, none-yet, no-choice, longer-start, longer-twice}
use Rattle.bus_schedule.proofs.scheduled_laws.scheduled_rows.Goals as goal

pub returns-clause-before : goal.returns-clause-before
returns-clause-before c = before-end

pub returns-clause-early : goal.returns-clause-early
returns-clause-early c = too-early

pub returns-clause-missed : goal.returns-clause-missed
returns-clause-missed c = not-noted

pub returns-clause-noted : goal.returns-clause-noted
returns-clause-noted c = at-end

pub returns-clause-no_rate : goal.returns-clause-no_rate
returns-clause-no_rate c = no-rate

pub returns-clause-twice : goal.returns-clause-twice
returns-clause-twice c = two-idle

pub returns-clause-twice_after : goal.returns-clause-twice_after
returns-clause-twice_after c = two-after

pub returns-clause-idle : goal.returns-clause-idle
returns-clause-idle c = none-yet

pub returns-clause-longer : goal.returns-clause-longer
returns-clause-longer c = no-choice

pub returns-clause-longer_idle : goal.returns-clause-longer_idle
returns-clause-longer_idle c = longer-start

pub returns-clause-longer_twice : goal.returns-clause-longer_twice
returns-clause-longer_twice c = longer-twice
