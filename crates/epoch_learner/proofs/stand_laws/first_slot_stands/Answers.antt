use Rattle.epoch_learner.proofs.FirstSlot.{slot_inside, slot_before, slot_done, slot_at_end}
use Rattle.epoch_learner.proofs.stand_laws.first_slot_stands.Goals as goal

pub returns-clause-inside : goal.returns-clause-inside
returns-clause-inside c = slot_inside

pub returns-clause-before : goal.returns-clause-before
returns-clause-before c = slot_before

pub returns-clause-done : goal.returns-clause-done
returns-clause-done c = slot_done

pub returns-clause-at_end : goal.returns-clause-at_end
returns-clause-at_end c = slot_at_end
