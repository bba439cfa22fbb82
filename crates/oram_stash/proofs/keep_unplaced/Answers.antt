use Rattle.std.proofs.Common.{◌+◌, ◌++◌, ◌∙◌, take, drop, set, ap, arith}
use Rattle.std.proofs.Math.ListN.{length-set}
use Rattle.path_evict.specs.Placed.{kept}
use Rattle.oram_stash.proofs.Kept.{kept_more, kept_same, none_is}
use Rattle.oram_stash.proofs.keep_unplaced.Goals as goal
use Rattle.oram_stash.proofs.keep_unplaced.Goals.{then-is_none, else-is_none}

pub loop-at-preserved : goal.loop-at-preserved
loop-at-preserved c =
    let l = c.loop-at.invariant in
    let entries = c.loop-at.entries.items in
    let places = c.args.places.now in
    let at = c.loop-at.at in
    let done = c.loop-at.kept in
    elim c.if-is_none.branch [
      | then-is_none w ↦
          let d = w.index.result.now in
          rw (w.entries-is, w.kept-is) (record {
            within = omega arith;
            counted = length-set entries done d ∙ l.counted;
            rest = ap (λ y. take (done + 1) (set entries done y)
                ++ kept (drop (at + 1) places) (drop (at + 1) (set entries done y))) w.index.ensures
                ∙ kept_more places entries done at d l.within (omega arith) (omega (arith, l.counted))
                (none_is _ _ c.is_none.ensures ∙ w.if-is_none.true) ∙ l.rest;
            capacity = l.capacity;
          })
      | else-is_none w ↦
          rw (w.entries-is, w.kept-is) (record {
            within = omega arith;
            counted = l.counted;
            rest = kept_same places entries done at (omega arith) (omega (arith, l.counted))
                (none_is _ _ c.is_none.ensures ∙ w.if-is_none.false) ∙ l.rest;
            capacity = l.capacity;
          })
    ]
