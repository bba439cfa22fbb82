use Rattle.std.proofs.Common.{◌≡◌, length, sym, rules, arith}
use Rattle.asc_base.proofs.RateLists.{rate_count-le}
use Rattle.epoch_learner.proofs.Nearest.{nearest_in_take}
use Rattle.epoch_learner.proofs.nearest_rate.Goals as goal

pub apart-requires : goal.apart-requires
apart-requires c = omega (arith, (rate_count-le _ _ c.requires).1)

pub apart-requires-in-loop-index : goal.apart-requires-in-loop-index
apart-requires-in-loop-index c = omega (arith, (rate_count-le _ _ c.requires).1)

pub returns : goal.returns
returns c =
    let few = rate_count-le _ _ c.requires in
    let last : c.loop-index.index ≡ c.args.rates.now.count = omega arith in
    let whole : length c.args.rates.now.list ≡ 16 = search rules in
    let rates = c.args.rates.now in
    sym (nearest_in_take rates.list c.args.number rates.count c.loop-index.best (omega arith) (omega arith)
    (rw last at c.loop-index.invariant.first))
