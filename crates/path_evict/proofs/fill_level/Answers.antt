use Rattle.std.proofs.Common.{◌<◌, None, length, sym, ◌∙◌, arith}
use Rattle.path_evict.proofs.Steps.{step_skip, step_take, after_all, not_both}
use Rattle.path_evict.proofs.fill_level.Goals as goal
use Rattle.path_evict.proofs.fill_level.Goals.{then-room-gt0+then-is_none+then-level-depths, else-room-gt0}
use Rattle.path_evict.proofs.fill_level.Goals.{else-room-gt0-via-then-room-gt0+then-is_none+else-level-depths}
use Rattle.path_evict.proofs.fill_level.Goals.{else-room-gt0-via-then-room-gt0+else-is_none}
use Rattle.path_evict.proofs.fill_level.Goals.{else-room-gt0-via-else-room-gt0}

pub loop-i-preserved : goal.loop-i-preserved
loop-i-preserved c =
    let in_depths : c.loop-i.i < length c.args.depths.now = omega arith in
    let in_places : c.loop-i.i < length c.loop-i.places = omega arith in
    let skip = step_skip c.args.level c.loop-i.room c.loop-i.i c.args.depths.now c.loop-i.places 0 None in_depths
    in_places in
    elim c.if-room-gt0.branch [
      | then-room-gt0+then-is_none+then-level-depths w ↦
          rw (w.places-is, w.room-is) (step_take c.args.level c.loop-i.room c.loop-i.i c.args.depths.now
          c.loop-i.places 0 None in_depths in_places w.if-room-gt0.true w.if-is_none.ensures w.if-level-depths.true
          ∙ c.loop-i.invariant)
      | else-room-gt0 w ↦
          rw (w.places-is, w.room-is) (skip (elim w.else-room-gt0.branch [
            | else-room-gt0-via-then-room-gt0+then-is_none+else-level-depths w' ↦ λ some none reaches. omega
                (arith, w'.if-level-depths.false)
            | else-room-gt0-via-then-room-gt0+else-is_none w' ↦ λ some none reaches. not_both _ _ w'.is_none.ensures
                w'.if-is_none.false none
            | else-room-gt0-via-else-room-gt0 w' ↦ λ some none reaches. omega (arith, w'.if-room-gt0.false)
          ]) ∙ c.loop-i.invariant)
    ]

pub returns : goal.returns
returns c = sym (after_all c.args.level c.loop-i.room c.loop-i.i c.args.depths.now c.loop-i.places (omega arith)
    (omega arith)) ∙ c.loop-i.invariant
