use Rattle.unified_tree.proofs.join.join_slots.Goals as goal

pub returns-in-Err-clause-of_shape : goal.returns-in-Err-clause-of_shape
returns-in-Err-clause-of_shape c = λ all. c.join_slot.ensures.of_shape (c.loop-slot.invariant.of_shape all)
