use Rattle.std.proofs.Common.{sym}
use Rattle.bus_schedule.proofs.ScheduledLaws.{between-chosen, MoreChosen, more-chosen, beat-more}
use Rattle.bus_schedule.proofs.scheduled_laws.slot_ends_with_choice.Goals as goal

pub returns-clause-between : goal.returns-clause-between
returns-clause-between c = between-chosen

pub returns-clause-code : goal.returns-clause-code
returns-clause-code c =
    λ p n index old new h small is. let m : MoreChosen p n index old new =
    more-chosen p n index old new h small is in m.code

pub returns-clause-before : goal.returns-clause-before
returns-clause-before c =
    λ p n index old new h small is. let m : MoreChosen p n index old new =
    more-chosen p n index old new h small is in sym m.beat_is

pub returns-clause-beat : goal.returns-clause-beat
returns-clause-beat c =
    λ p n index old new h some small is. beat-more p n index old new (more-chosen p n index old new h small is) some
