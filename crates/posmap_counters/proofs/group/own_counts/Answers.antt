use Rattle.std.proofs.Common.{◌≡◌, ◌+◌, ◌-◌, length, ◌*◌, ◌∙◌, ap, take, drop, arith}
use Rattle.std.specs.Int.Digits.{number_from_digits}
use Rattle.posmap_counters.specs.Digits.{digits}
use Rattle.posmap_counters.specs.Group.{own_of}
use Rattle.posmap_counters.proofs.PieceLaws.{own_more, own_whole, own_below, digits-zero}
use Rattle.posmap_counters.proofs.group.own_counts.Goals as goal

pub loop-piece-init : goal.loop-piece-init
loop-piece-init c = (ap length c.fresh_own-own.ensures.own, digits-zero 16384 0)

pub loop-piece-preserved : goal.loop-piece-preserved
loop-piece-preserved c =
    let width : 8 + 7 * c.loop-piece.piece + 7 - (8 + 7 * c.loop-piece.piece) ≡ 7 = omega arith in
    own_more c.loop-piece.piece _ c.args.line.now c.copy_from_slice.new.self c.loop-piece.own
    c.told-line c.loop-piece.invariant.0 c.fits-line c.loop-piece-test.true (omega arith) c.loop-piece.invariant.1
    (c.copy_from_slice.ensures.after ∙ c.four_of-four.ensures
    ∙ ap (λ k. digits 16384 4 (number_from_digits 256 (take k (drop (8 + 7 * c.loop-piece.piece) c.args.line.now))))
    width)

pub returns-clause-own : goal.returns-clause-own
returns-clause-own c =
    own_whole c.loop-piece.piece c.args.line.now c.loop-piece.own c.told-line c.loop-piece.invariant.0
    (omega (arith, c.loop-piece-test.false, c.loop-piece.auto.piece-end)) c.loop-piece.invariant.1

pub returns-clause-in_range : goal.returns-clause-in_range
returns-clause-in_range c =
    let whole : c.loop-piece.own ≡ own_of c.args.line.now =
    own_whole c.loop-piece.piece c.args.line.now c.loop-piece.own c.told-line c.loop-piece.invariant.0
    (omega (arith, c.loop-piece-test.false, c.loop-piece.auto.piece-end)) c.loop-piece.invariant.1 in
    rw whole (own_below c.args.line.now)
