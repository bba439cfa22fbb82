use Rattle.std.proofs.Common.{◌≡◌, Result, Ok, Err, IfOk, OnOk, refl, subst}
use Rattle.std.proofs.lemmas.Result.{IfOk-weaker}
use Rattle.ascend_top.specs.Flat.{input_steps}
use Rattle.ascend_top.specs.FlatRun.{input_as}
use Rattle.ascend_top.specs.Parts.{WasRead}
use Rattle.ascend_top.specs.Steps.{AllDone, Anything, Shows}
use Rattle.ascend_top.specs.declared.refusal.Source.TheVariants.{Input}
use Rattle.ascend_top.proofs.Shown.{shows_any}
use Rattle.ascend_top.proofs.StepLaws.{read_bytes, read_done}
use Rattle.ascend_top.proofs.commands.flat.read_input.Goals as goal

-- what follows from any answer
on_ok : {A E : Type 0} (r : Result A E) (P : A → Type 0) (Q : Type 0) → ((a : A) → P a → Q) → IfOk r P → OnOk r Q
on_ok (Ok a) P Q f h = f a h
on_ok (Err e) P Q f h = tt

pub returns-in-Some-clause-input : goal.returns-in-Some-clause-input
returns-in-Some-clause-input g c =
    let old = g.H.Host.state c.args.host.now in
    let new = g.H.Host.state c.read_file.new.host in
    IfOk-weaker c.read_file.result (λ bytes. WasRead Input c.in-Some.name.now bytes.items old new) _
    (λ input read. subst (λ o. Shows new.files (λ files. input.items ≡ input_as files o)) c.in-Some.ensures
    (read_bytes Input c.in-Some.name.now input.items old new read)) c.read_file.ensures.read

pub returns-in-Some-clause-done : goal.returns-in-Some-clause-done
returns-in-Some-clause-done g c =
    let old = g.H.Host.state c.args.host.now in
    let new = g.H.Host.state c.read_file.new.host in
    on_ok c.read_file.result (λ bytes. WasRead Input c.in-Some.name.now bytes.items old new) _
    (λ input read. subst (λ o. AllDone (input_steps o) old new) c.in-Some.ensures
    (new, read_done Input c.in-Some.name.now input.items Anything old new read tt, refl)) c.read_file.ensures.read

pub returns-in-None-clause-input : goal.returns-in-None-clause-input
returns-in-None-clause-input g c =
    shows_any (g.H.Host.state c.args.host.now).files _ (λ files.
    subst (λ o. c.new.result.items ≡ input_as files o) c.in-None.ensures c.new.ensures.items)
