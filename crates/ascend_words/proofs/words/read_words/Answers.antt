use Rattle.std.proofs.Common.{rules, ◌≡◌, ◌+◌, ◌∷◌, length, sym, ap, ◌∙◌, subst, true, false}
use Rattle.std.proofs.lemmas.List.{length-map}
use Rattle.std.specs.Prelude.{string_bytes}
use Rattle.ascend_words.specs.Grammar.{texts, IsFault, IsWords, has_required}
use Rattle.ascend_words.specs.Reading.{pairs, IsFaultOf}
use Rattle.ascend_words.specs.Tables.{commanded}
use Rattle.ascend_words.proofs.GrammarLaws.{commanded-some, fault_of_command, fault_of_lack}
use Rattle.ascend_words.proofs.ReadLaws.{accepted_read, refused_read, accepted_fault, refused_fault, stop_fault}
use Rattle.ascend_words.proofs.words.read_words.Goals as goal

pub returns-in_default-written-clause-fault : goal.returns-in_default-written-clause-fault
returns-in_default-written-clause-fault c =
    let split : texts c.args.words.now ≡ string_bytes c.in-Some.first.now ∷ texts c.in-Some.rest.now = search rules in
    subst (λ ws. IsFault ws 1) (sym split)
    (fault_of_command (string_bytes c.in-Some.first.now) (texts c.in-Some.rest.now)
    (ap commanded (sym c.as_str.ensures.value) ∙ sym c.in_default-written.ensures))

pub returns-in-Err-clause-fault : goal.returns-in-Err-clause-fault
returns-in-Err-clause-fault c =
    let split : texts c.args.words.now ≡ string_bytes c.in-Some.first.now ∷ texts c.in-Some.rest.now = search rules in
    let is = commanded-some (string_bytes c.in-Some.first.now) c.in-Some-written.command
    (ap commanded (sym c.as_str.ensures.value) ∙ sym c.in-Some-written.ensures) in
    subst (λ ws. IsFaultOf ws c.in-Err.fault) (sym split)
    (stop_fault c.in-Some-written.command (string_bytes c.in-Some.first.now) (texts c.in-Some.rest.now)
    c.in-Err.fault is c.in-Err.ensures.stop)

pub returns-in-Err-clause-accepted : goal.returns-in-Err-clause-accepted
returns-in-Err-clause-accepted c = accepted_fault (texts c.args.words.now) c.in-Err.fault
    (returns-in-Err-clause-fault c)

pub returns-in-Err-clause-refused : goal.returns-in-Err-clause-refused
returns-in-Err-clause-refused c = refused_fault (texts c.args.words.now) c.in-Err.fault (returns-in-Err-clause-fault c)

pub returns-then-not-has_required-clause-fault : goal.returns-then-not-has_required-clause-fault
returns-then-not-has_required-clause-fault c =
    let split : texts c.args.words.now ≡ string_bytes c.in-Some.first.now ∷ texts c.in-Some.rest.now = search rules in
    let is = commanded-some (string_bytes c.in-Some.first.now) c.in-Some-written.command
    (ap commanded (sym c.as_str.ensures.value) ∙ sym c.in-Some-written.ensures) in
    let lack : has_required (record { command = c.in-Some-written.command; given = pairs c.in-Ok.given.items }) ≡
    false =
    ap (λ g. has_required (record { command = c.in-Some-written.command; given = pairs g }))
    (sym c.as_slice.ensures.value)
    ∙ sym c.has_required.ensures ∙ c.if-not-has_required.true in
    let number : length (texts c.args.words.now) ≡ length c.args.words.now = length-map c.args.words.now string_bytes in
    subst (λ n. IsFault (texts c.args.words.now) (n + 1)) number
    (subst (λ ws. IsFault ws (length ws + 1)) (sym split)
    (fault_of_lack c.in-Some-written.command (string_bytes c.in-Some.first.now) (texts c.in-Some.rest.now)
    (pairs c.in-Ok.given.items) is c.in-Ok.ensures.read lack))

pub returns-then-not-has_required-clause-accepted : goal.returns-then-not-has_required-clause-accepted
returns-then-not-has_required-clause-accepted c = accepted_fault (texts c.args.words.now) _
    (returns-then-not-has_required-clause-fault c)

pub returns-then-not-has_required-clause-refused : goal.returns-then-not-has_required-clause-refused
returns-then-not-has_required-clause-refused c = refused_fault (texts c.args.words.now) _
    (returns-then-not-has_required-clause-fault c)

pub returns-clause-read : goal.returns-clause-read
returns-clause-read c =
    let split : texts c.args.words.now ≡ string_bytes c.in-Some.first.now ∷ texts c.in-Some.rest.now = search rules in
    let is = commanded-some (string_bytes c.in-Some.first.now) c.in-Some-written.command
    (ap commanded (sym c.as_str.ensures.value) ∙ sym c.in-Some-written.ensures) in
    let complete : has_required (record { command = c.in-Some-written.command; given = pairs c.in-Ok.given.items }) ≡
    true =
    ap (λ g. has_required (record { command = c.in-Some-written.command; given = pairs g }))
    (sym c.as_slice.ensures.value)
    ∙ sym c.has_required.ensures ∙ c.if-not-has_required.false in
    subst (λ ws. IsWords ws (record { command = c.in-Some-written.command; given = pairs c.in-Ok.given.items }))
    (sym split)
    (record { keeps = (is, c.in-Ok.ensures.read); complete = complete })

pub returns-clause-accepted : goal.returns-clause-accepted
returns-clause-accepted c = accepted_read (texts c.args.words.now) _ (returns-clause-read c)

pub returns-clause-refused : goal.returns-clause-refused
returns-clause-refused c = refused_read (texts c.args.words.now) _ (returns-clause-read c)
