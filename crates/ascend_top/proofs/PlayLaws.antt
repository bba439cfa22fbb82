-- A run over an honest memory, no slot of whose Play is full, is the whole Play of its program.
use Rattle.std.proofs.Common.{◌≡◌, ◌<◌, ◌∙◌, inl, inr, ℕ, List, Option, Some, Ok, IsSome, refl, sym, ap, subst}
use Rattle.asc_outside.specs.Host.{Files, HostState}
use Rattle.play_run.specs.Shows.{IsOwn, IsWholePlay}
use Rattle.run_play.specs.PlayEvents.{PlayReport}
use Rattle.secure_machine.specs.Full.{NoSlotIsFull}
use Rattle.secure_machine.specs.Plays.{play_ending, play_report}
use Rattle.secure_machine.specs.declared.report.Ending.{Ending}
use Rattle.secure_machine.specs.declared.report.Ending.TheVariants.{Exit, Trap, Budget, TimeUp, StashFull, Integrity}
use Rattle.secure_machine.specs.declared.report.Ending.TheVariants.{Device}
use Rattle.secure_machine.proofs.Full.{completes as run_completes, ends_itself}
use Rattle.ascend_words.specs.Grammar.{Pair, Read}
use Rattle.ascend_words.specs.declared.table.Command.{Command}
use Rattle.ascend_words.specs.declared.table.Command.TheVariants.{Run, Flat, Asm, Disasm, Check, Gen}
use Rattle.ascend_top.specs.Command.{CommandEnds, Completes, IsMade}
use Rattle.ascend_top.specs.Complete.{CompletesPlay, HasRoom, IsPlayStatus}
use Rattle.ascend_top.specs.EncryptedRun.{keys_from}
use Rattle.ascend_top.specs.Lent.{Lent}
use Rattle.ascend_top.specs.Headline.{program_play, RunsEncrypted}
use Rattle.ascend_top.specs.Made.{Made, Encrypted, Ran, Assembled, Listed, Held}
use Rattle.ascend_top.specs.Run.{IsRun}
use Rattle.ascend_top.specs.Status.{status_of_made, status_of_run}
use Rattle.ascend_top.specs.declared.commands.run.Encrypted.{Encrypted as EncryptedRun}

module _ (command : Command) (given : List Pair) (told : Option Files) (lent : Lent) (run : EncryptedRun)
    (ran : IsRun command given told lent run) (some : IsSome lent.memory.told)
    (sound : ¬ (lent.memory.faults < lent.memory'.faults))
    (room : NoSlotIsFull (keys_from ran.begin.program.config ran.begin.key) ran.begin.program.config.stash
    (program_play ran.begin.program)) where
  pub run_is_own : IsOwn (play_ending run.report.ending)
  run_is_own =
      let runs = ran.outcome.runs in
      let none = runs.end_to_end.unaltered some in
      ends_itself (keys_from ran.begin.program.config ran.begin.key) ran.begin.program.config
      (program_play ran.begin.program) run.report lent.tap'.log refl (runs.end_to_end.played none)
      runs.dishonest.contents.order none runs.dishonest.verdicts.verdict (runs.end_to_end.honest none)
      (λ is. sound (runs.causes.device is)) room

  pub run_is_play : IsWholePlay ran.begin.program.config (program_play ran.begin.program) (play_report run.report)
      lent.tap'.log
  run_is_play =
      let runs = ran.outcome.runs in
      let none = runs.end_to_end.unaltered some in
      run_completes (keys_from ran.begin.program.config ran.begin.key) ran.begin.program.config
      (program_play ran.begin.program) run.report lent.tap'.log refl (runs.end_to_end.played none)
      runs.dishonest.contents.order none runs.dishonest.verdicts.verdict (runs.end_to_end.honest none)
      (λ is. sound (runs.causes.device is)) room

own_status : (ending : Ending) → IsOwn (play_ending ending) → IsPlayStatus (play_ending ending) (status_of_run ending)
own_status (Exit status) own = refl
own_status (Trap kind pc) own = refl
own_status Budget own = refl
own_status (TimeUp at) own = refl
own_status (StashFull held) own = absurd own
own_status (Integrity evidence) own = absurd own
own_status Device own = absurd own

-- what a run's command made is a run
record IsARun (command : Command) (given : List Pair) (lent : Lent) (told : Option Files) (made : Made) : Type 0 where
  run : EncryptedRun
  is : made ≡ Encrypted run
  ran : IsRun command given told lent run

made_run : (command : Command) (given : List Pair) (lent : Lent) (told : Option Files) (made : Made)
    → RunsEncrypted command → IsMade command given lent told made → IsARun command given lent told made
made_run Run given lent told (Encrypted run) runs is = record { run = run; is = refl; ran = is }
made_run Run given lent told (Ran report) runs is = absurd is
made_run Run given lent told (Assembled file) runs is = absurd is
made_run Run given lent told (Listed text) runs is = absurd is
made_run Run given lent told (Held code bits) runs is = absurd is
made_run Gen given lent told (Encrypted run) runs is = record { run = run; is = refl; ran = is }
made_run Gen given lent told (Ran report) runs is = absurd is
made_run Gen given lent told (Assembled file) runs is = absurd is
made_run Gen given lent told (Listed text) runs is = absurd is
made_run Gen given lent told (Held code bits) runs is = absurd is
made_run Flat given lent told made runs is = absurd runs
made_run Asm given lent told made runs is = absurd runs
made_run Disasm given lent told made runs is = absurd runs
made_run Check given lent told made runs is = absurd runs

-- A command that comes to what its work makes, or wants memory, comes to the whole Play.
pub completes_play : (read : Read) (files : Files) (lent : Lent) (status : ℕ) (old new : HostState)
    → RunsEncrypted read.command → Completes read files lent status old new → IsSome lent.memory.told
    → ¬ (lent.memory.faults < lent.memory'.faults) → HasRoom read.command read.given files
    → CompletesPlay read files lent status old new
completes_play read files lent status old new runs (inl none) some sound room = inl none
completes_play read files lent status old new runs (inr (made, meant, is, ends)) some sound room =
    let a = made_run read.command read.given lent (Some files) made runs meant in
    let space = room a.ran.begin a.ran.begins in
    let whole = run_is_play read.command read.given (Some files) lent a.run a.ran some sound space in
    let own = run_is_own read.command read.given (Some files) lent a.run a.ran some sound space in
    inr (record {
      run = a.run;
      ran = a.ran;
      play = whole;
      ends_so = subst (λ n. IsPlayStatus (program_play a.ran.begin.program).ending n)
          (sym (is ∙ ap status_of_made a.is))
          (subst (λ e. IsPlayStatus e (status_of_run a.run.report.ending))
          (ap (λ (r : PlayReport). r.ending) whole.report_is) (own_status a.run.report.ending own));
      ends = subst (λ (m : Made). CommandEnds read lent (Ok m) old new) a.is ends;
    })
