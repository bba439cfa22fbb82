use Rattle.std.proofs.Common.{◌+◌, ◌≤◌, arith}
use Rattle.std.proofs.lemmas.List.Elements.{All-weaker}
use Rattle.asc_base.specs.TreeShape.{olat_of}
use Rattle.bus_schedule.proofs.Rising.{pairs-last}
use Rattle.bus_schedule.proofs.ScheduleLaws.{cut-over, cut-inside}
use Rattle.bus_schedule.proofs.SlotMoves.{slot-begun}
use Rattle.bus_schedule.proofs.schedule_laws.moves_are_cut.Goals as goal

pub returns-clause-over : goal.returns-clause-over
returns-clause-over c = cut-over

pub returns-clause-inside : goal.returns-clause-inside
returns-clause-inside c = cut-inside

pub returns-clause-started : goal.returns-clause-started
returns-clause-started c = λ levels end start starts rise h.
    All-weaker (λ s. s + olat_of levels ≤ start) (λ s. s + olat_of levels ≤ end) (λ s g. omega arith) starts
    (pairs-last (λ s t. s + olat_of levels ≤ t) starts start rise)

pub returns-clause-begun : goal.returns-clause-begun
returns-clause-begun c = slot-begun
