use Rattle.oram_frontend.proofs.SlotLaws.{served_slot, served_append, served_answer}
use Rattle.oram_frontend.proofs.laws.answered_requests.Goals as goal

pub returns : goal.returns
returns c = record { slot = served_slot; append = served_append; answer = served_answer }
