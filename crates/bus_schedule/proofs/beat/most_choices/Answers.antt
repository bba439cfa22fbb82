use Rattle.std.proofs.Common.{◌/◌, sym, ap, ◌∙◌}
use Rattle.bus_schedule.proofs.ChoiceLaws.{most-one, most-more, bits_of-is}
use Rattle.bus_schedule.proofs.beat.most_choices.Goals as goal

pub returns-then-count-le1 : goal.returns-then-count-le1
returns-then-count-le1 c = sym (most-one c.args.count c.args.leak c.if-count-le1.true)

pub returns-else-count-le1 : goal.returns-else-count-le1
returns-else-count-le1 c =
    sym (most-more c.args.count c.args.leak c.if-count-le1.false
    ∙ ap (λ b. c.args.leak / b)
    (bits_of-is c.args.count c.ilog2.result c.ilog2.ensures.power_le c.ilog2.ensures.next_power_gt))
