use Rattle.std.proofs.Common.{◌≡◌, ◌+◌, ◌-◌, ◌*◌, min, arith, sym, ◌∙◌}
use Rattle.bus_schedule.proofs.SlotMoves.{forties, slot-before}
use Rattle.bus_schedule.proofs.moves.moves_before.Goals as goal

pub returns : goal.returns
returns c = λ leaf.
    let since : c.saturating_sub-since.result ≡ c.args.end - c.args.start = omega arith in
    let reads : c.min-reads.result ≡ min (forties (c.args.end - c.args.start)) (c.args.levels + 1) = omega arith in
    let writes : c.min-writes.result ≡ min (forties (c.args.end - c.args.start - (40 * (c.args.levels + 1) + 16)))
    (c.args.levels + 1) = omega arith in
    (let e : c.min-reads.result + c.min-writes.result
    ≡ min (forties (c.args.end - c.args.start)) (c.args.levels + 1)
    + min (forties (c.args.end - c.args.start - (40 * (c.args.levels + 1) + 16))) (c.args.levels + 1) =
    omega arith in e)
    ∙ sym (slot-before c.args.levels c.args.start leaf c.args.end)
