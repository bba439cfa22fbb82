use Rattle.std.proofs.Common.{arith}
use Rattle.path_evict.proofs.Bound.{fewest}
use Rattle.path_evict.proofs.Highest.{searched_higher, searched_on, searched_rest, searched_witness, searched_none}
use Rattle.path_evict.proofs.Highest.{rest-le-length}
use Rattle.path_evict.proofs.remainder.Goals as goal
use Rattle.path_evict.proofs.remainder.Goals.{then-beyond-most, else-beyond-most}

pub loop-k-preserved : goal.loop-k-preserved
loop-k-preserved c =
    elim c.if-beyond-most.branch [
      | then-beyond-most w ↦ rw (w.most-is, w.witness-is)
          (searched_higher _ _ _ _ _ c.loop-k.invariant c.excess-beyond.ensures w.if-beyond-most.true)
      | else-beyond-most w ↦ rw (w.most-is, w.witness-is)
          (searched_on _ _ _ _ _ c.loop-k.invariant c.excess-beyond.ensures w.if-beyond-most.false)
    ]

pub returns-after-beyond-most-clause-rest : goal.returns-after-beyond-most-clause-rest
returns-after-beyond-most-clause-rest c =
    elim c.if-beyond-most.branch [
      | then-beyond-most w ↦ rw w.most-is
          (searched_rest _ _ _ _ _ (searched_higher _ _ _ _ _ c.loop-k.invariant c.excess-beyond.ensures
          w.if-beyond-most.true) (omega arith))
      | else-beyond-most w ↦ rw w.most-is
          (searched_rest _ _ _ _ _ (searched_on _ _ _ _ _ c.loop-k.invariant c.excess-beyond.ensures
          w.if-beyond-most.false) (omega arith))
    ]

pub returns-after-beyond-most-clause-witness : goal.returns-after-beyond-most-clause-witness
returns-after-beyond-most-clause-witness c =
    elim c.if-beyond-most.branch [
      | then-beyond-most w ↦ rw w.witness-is
          (searched_witness _ _ _ _ _ (searched_higher _ _ _ _ _ c.loop-k.invariant c.excess-beyond.ensures
          w.if-beyond-most.true) (omega arith))
      | else-beyond-most w ↦ rw w.witness-is
          (searched_witness _ _ _ _ _ (searched_on _ _ _ _ _ c.loop-k.invariant c.excess-beyond.ensures
          w.if-beyond-most.false) (omega arith))
    ]

pub returns-after-beyond-most-clause-none : goal.returns-after-beyond-most-clause-none
returns-after-beyond-most-clause-none c =
    elim c.if-beyond-most.branch [
      | then-beyond-most w ↦ rw w.witness-is
          (searched_none _ _ c.args.levels _ _ (searched_higher _ _ _ _ _ c.loop-k.invariant c.excess-beyond.ensures
          w.if-beyond-most.true) (omega arith))
      | else-beyond-most w ↦ rw w.witness-is
          (searched_none _ _ c.args.levels _ _ (searched_on _ _ _ _ _ c.loop-k.invariant c.excess-beyond.ensures
          w.if-beyond-most.false) (omega arith))
    ]

pub returns-after-beyond-most-clause-fewest : goal.returns-after-beyond-most-clause-fewest
returns-after-beyond-most-clause-fewest c =
    elim c.if-beyond-most.branch [
      | then-beyond-most w ↦
          let higher = searched_higher _ _ _ _ _ c.loop-k.invariant c.excess-beyond.ensures w.if-beyond-most.true in
          rw w.most-is (fewest _ c.args.levels _ (searched_rest _ _ _ _ _ higher (omega arith)))
      | else-beyond-most w ↦
          let on = searched_on _ _ _ _ _ c.loop-k.invariant c.excess-beyond.ensures w.if-beyond-most.false in
          rw w.most-is (fewest _ c.args.levels _ (searched_rest _ _ _ _ _ on (omega arith)))
    ]

pub returns-after-beyond-most-clause-few : goal.returns-after-beyond-most-clause-few
returns-after-beyond-most-clause-few c =
    elim c.if-beyond-most.branch [
      | then-beyond-most w ↦
          (let higher = searched_higher _ _ _ _ _ c.loop-k.invariant c.excess-beyond.ensures w.if-beyond-most.true in
          let is = searched_rest _ _ c.args.levels _ _ higher (omega arith) in
          omega (arith, w.most-is, is, rest-le-length c.args.depths.now c.args.levels))
      | else-beyond-most w ↦
          (let on = searched_on _ _ _ _ _ c.loop-k.invariant c.excess-beyond.ensures w.if-beyond-most.false in
          let is = searched_rest _ _ c.args.levels _ _ on (omega arith) in
          omega (arith, w.most-is, is, rest-le-length c.args.depths.now c.args.levels))
    ]
