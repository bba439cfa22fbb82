use Rattle.std.proofs.Common.{All, ◌<◌, [], ◌∷◌, arith}
use Rattle.std.proofs.lemmas.List.Elements.{All-nil, All-cons, All-head}
use Rattle.bus_schedule.specs.Rows.{first_slot_log}
use Rattle.bus_schedule.specs.Asked.{IsFirstFrom, ArePrompt}
use Rattle.bus_schedule.proofs.AskedLaws.{serves-each}
use Rattle.bus_schedule.proofs.asked_laws.asked_rows.Goals as goal

pub returns-clause-served : goal.returns-clause-served
unfolding ArePrompt
returns-clause-served c =
    let others : All (λ other. other < 129) (128 ∷ []) =
    All-cons (λ other. other < 129) 128 [] (omega arith) (All-nil (λ other. other < 129)) in
    (tt, (tt, (record { from = omega arith; others = others }, tt)))

pub returns-clause-passed_by : goal.returns-clause-passed_by
returns-clause-passed_by c = λ h.
    let first : IsFirstFrom 128 (128 ∷ []) 432 = serves-each (first_slot_log []).events [] 432 128 h in
    let early : 128 < 128 = All-head (λ other. other < 128) 128 [] first.others in
    absurd (omega arith)

pub returns-clause-too_soon : goal.returns-clause-too_soon
returns-clause-too_soon c = λ h.
    let first : IsFirstFrom 433 (128 ∷ []) 432 = serves-each (first_slot_log []).events [] 432 433 h in
    absurd (omega (arith, first.from))
