use Rattle.std.proofs.Common.{◌+◌}
use Rattle.oram_frontend.proofs.SlotLaws.{served_slot, served_append, served_answer}
use Rattle.oram_play.proofs.Accesses.{access-taken}
use Rattle.oram_play.proofs.Between.{append-taken, answer-taken}
use Rattle.oram_play.proofs.Waits.{wait-taken}
use Rattle.oram_play.proofs.laws.answered_requests_take_slots.Goals as goal

pub returns-clause-slot : goal.returns-clause-slot
returns-clause-slot c keys levels notes access seen old new slots pace numbers fits rests had step =
    let served = served_slot keys levels notes access seen old new fits rests step in
    access-taken keys levels (notes + 1) access seen old new served.0 served.1 slots pace numbers had

pub returns-clause-append : goal.returns-clause-append
returns-clause-append c keys levels notes message seen old new slots slot pace fits rests had none step =
    append-taken keys message old new slots slot pace
    (served_append keys levels notes message seen old new fits rests step).0 had none

pub returns-clause-answer : goal.returns-clause-answer
returns-clause-answer c keys levels notes line value seen old new slots pace fits rests had step =
    answer-taken line value old new slots pace
    (served_answer keys levels notes line value seen old new fits rests step).0 had

pub returns-clause-wait : goal.returns-clause-wait
returns-clause-wait c keys levels notes time told old new slots pace numbers fits rests had step =
    wait-taken keys levels notes time told.end old.port new.port slots pace numbers fits rests had (step.3).1
