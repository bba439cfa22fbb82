use Rattle.std.proofs.Common.{◌≡◌, ◌+◌, ◌*◌, Some, arith, ap, ◌∙◌}
use Rattle.bus_schedule.specs.Schedule.{move_time_of}
use Rattle.bus_schedule.proofs.SlotMoves.{slot-time}
use Rattle.bus_schedule.proofs.moves.move_time.Goals as goal

pub returns-then-k-levels-clause-of_slot : goal.returns-then-k-levels-clause-of_slot
returns-then-k-levels-clause-of_slot c = λ leaf.
    let at : move_time_of c.args.start c.args.levels c.args.k ≡ c.args.start + 40 * c.from.result = grind arith in
    slot-time c.args.levels c.args.start leaf c.args.k c.requires.number ∙ ap Some at

pub returns-else-k-levels-clause-of_slot : goal.returns-else-k-levels-clause-of_slot
returns-else-k-levels-clause-of_slot c = λ leaf.
    let at : move_time_of c.args.start c.args.levels c.args.k ≡ c.args.start + 40 * c.from.result + 16 = grind arith in
    slot-time c.args.levels c.args.start leaf c.args.k c.requires.number ∙ ap Some at
