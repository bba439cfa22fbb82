use Rattle.std.proofs.Common.{◌≡◌, ◌+◌, ◌-◌, ◌*◌, ◌∙◌, ap, take, drop, arith}
use Rattle.std.specs.Int.Digits.{number_from_digits}
use Rattle.posmap_counters.specs.Digits.{digits}
use Rattle.posmap_counters.proofs.PieceLaws.{line_more, line_whole, no_digits}
use Rattle.posmap_counters.proofs.group.line_bytes.Goals as goal

pub loop-piece-init : goal.loop-piece-init
loop-piece-init c = (
  c.fresh_line-line.ensures.long,
  no_digits 8 256 c.args.group c.fresh_line-line.result
      c.fresh_line-line.ensures.front,
)

pub loop-piece-preserved : goal.loop-piece-preserved
loop-piece-preserved c =
    let width : 4 * c.loop-piece.piece + 4 - 4 * c.loop-piece.piece ≡ 4 = omega arith in
    line_more c.args.group c.loop-piece.piece _ c.loop-piece.line c.copy_from_slice.new.self c.args.own.now
    c.loop-piece.invariant.0 c.told-own c.requires c.loop-piece-test.true (omega arith) c.loop-piece.invariant.1
    (c.copy_from_slice.ensures.after ∙ c.packed-seven.ensures
    ∙ ap (λ k. digits 256 7 (number_from_digits 16384 (take k (drop (4 * c.loop-piece.piece) c.args.own.now)))) width)

pub returns : goal.returns
returns c =
    line_whole c.args.group c.loop-piece.piece c.loop-piece.line c.args.own.now c.loop-piece.invariant.0 c.told-own
    (omega (arith, c.loop-piece-test.false, c.loop-piece.auto.piece-end)) c.loop-piece.invariant.1
