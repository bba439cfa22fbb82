-- A run over encrypted memory carries the headline.
use Rattle.std.proofs.Common.{◌⊎◌, ◌∙◌, ◌++◌, ℕ, List, Option, Result, Ok, Err, inl, inr, ap, sym}
use Rattle.rv32_core.proofs.OutputLaws.{longer-output}
use Rattle.secure_machine.specs.Run.{IsFlatReport, start_of}
use Rattle.asc_outside.specs.Host.{Files, HostState}
use Rattle.secure_machine.specs.declared.report.Report.{Report}
use Rattle.ascend_words.specs.Grammar.{Pair, Read}
use Rattle.ascend_words.specs.declared.table.Command.{Command}
use Rattle.ascend_words.specs.declared.table.Command.TheVariants.{Run, Flat, Asm, Disasm, Check, Gen}
use Rattle.ascend_top.specs.Command.{CommandEnds, IsLost, IsMade, WorkEnds}
use Rattle.ascend_top.specs.EncryptedRun.{IsRunOf, IsWantOf}
use Rattle.ascend_top.specs.Lent.{Lent}
use Rattle.ascend_top.specs.Headline.{CarriesHeadline, Headline, IsCutShort, IsFlatOrPrefix, IsForged}
use Rattle.ascend_top.specs.Headline.{MadeByHeadline, RunsEncrypted}
use Rattle.ascend_top.specs.Made.{Made, Encrypted, Ran, Assembled, Listed, Held}
use Rattle.ascend_top.specs.Run.{IsRun, RunWants}
use Rattle.ascend_top.specs.declared.commands.run.Encrypted.{Encrypted as EncryptedRun}
use Rattle.ascend_top.specs.declared.commands.flat.Program.{Program}
use Rattle.ascend_top.specs.declared.refusal.Refusal.{Refusal}

-- where the flat run goes on, its output begins with the one reported
pub prefixed : (program : Program) (report : Report)
    → IsFlatReport program.config program.image program.input.items report → IsFlatOrPrefix program report
prefixed program report is = record {
  flat = is;
  prefix = λ more.
      let longer = longer-output report.instructions more
      (start_of program.config program.image program.input.items) program.image.bytes.items in
      (longer.0, longer.1 ∙ ap (λ output. output ++ longer.0) (sym is.output));
}

-- of a report
headline_of : (program : Program) (key : List ℕ) (lent : Lent) (report : Report)
    → IsRunOf program.config program.image program.input.items key lent report → Headline program key lent report
headline_of program key lent report is = record {
  flat = elim is.dishonest.refinement.flat [ inl forged ↦ inr forged | inr flat ↦ inl (prefixed program report flat) ];
  honest = λ told. prefixed program report (is.end_to_end.flat (is.end_to_end.unaltered told));
  play = turned is.dishonest.refinement.plays;
  always = record {
    starts = is.dishonest.schedule.pace.scheduled.starts;
    leaves = is.dishonest.schedule.pace.scheduled.leaves;
    moves = is.dishonest.schedule.pace.scheduled.moves;
    code = is.dishonest.schedule.bits;
    asked = is.dishonest.schedule.asked;
  };
}
  where
    turned : {A : Type 0} → IsForged program key lent.tap'.log ⊎ A → A ⊎ IsForged program key lent.tap'.log
    turned (inl forged) = inr forged
    turned (inr other) = inl other

-- where memory ran out
cut_short : (program : Program) (key : List ℕ) (lent : Lent)
    → IsWantOf program.config program.image program.input.items key lent → IsCutShort program lent
cut_short program key lent is = record {
  end = is.last_move.end;
  after = is.last_move.after;
  always = record {
    starts = is.last_move.on_time.starts;
    leaves = is.last_move.on_time.leaves;
    moves = is.last_move.on_time.moves;
    code = is.bits;
    asked = is.asked;
  };
}

-- what such a command made, as it ends
run_carried : (command : Command) (given : List Pair) (lent : Lent) (told : Option Files) (run : EncryptedRun)
    → IsRun command given told lent run → MadeByHeadline command given told lent (Encrypted run)
run_carried command given lent told run is = (
  is.begin,
  is.begins,
  headline_of is.begin.program is.begin.key lent run.report is.outcome.runs,
)

made_carries : (command : Command) (given : List Pair) (lent : Lent) (told : Option Files) (made : Made)
    → RunsEncrypted command → IsMade command given lent told made → MadeByHeadline command given told lent made
made_carries Run given lent told (Encrypted run) may is = run_carried Run given lent told run is
made_carries Run given lent told (Ran report) may is = absurd is
made_carries Run given lent told (Assembled file) may is = absurd is
made_carries Run given lent told (Listed text) may is = absurd is
made_carries Run given lent told (Held code bits) may is = absurd is
made_carries Gen given lent told (Encrypted run) may is = run_carried Gen given lent told run is
made_carries Gen given lent told (Ran report) may is = absurd is
made_carries Gen given lent told (Assembled file) may is = absurd is
made_carries Gen given lent told (Listed text) may is = absurd is
made_carries Gen given lent told (Held code bits) may is = absurd is
made_carries Flat given lent told made may is = absurd may
made_carries Asm given lent told made may is = absurd may
made_carries Disasm given lent told made may is = absurd may
made_carries Check given lent told made may is = absurd may

-- the same where a step behind the run was refused
refused_carries : (command : Command) (given : List Pair) (lent : Lent) (told : Option Files) (made : Made)
    (refusal : Refusal) → MadeByHeadline command given told lent made
    → CarriesHeadline command given told lent (Err refusal)
refused_carries command given lent told (Encrypted run) refusal (begin, is, headline) =
    inr (begin, is, inl (run.report, headline))
refused_carries command given lent told (Ran report) refusal carried = absurd carried
refused_carries command given lent told (Assembled file) refusal carried = absurd carried
refused_carries command given lent told (Listed text) refusal carried = absurd carried
refused_carries command given lent told (Held code bits) refusal carried = absurd carried

-- so where a run wanted memory
want_carries : (command : Command) (given : List Pair) (lent : Lent) (told : Option Files) (refusal : Refusal)
    → RunWants command given told lent → CarriesHeadline command given told lent (Err refusal)
want_carries command given lent told refusal is = elim is.wants [
  | inl wants ↦ inr (is.begin, is.begins, inr (cut_short is.begin.program is.begin.key lent wants))
  | inr (report, ran) ↦
      inr (is.begin, is.begins, inl (report, headline_of is.begin.program is.begin.key lent report ran))
]

lost_carries : (command : Command) (given : List Pair) (lent : Lent) (told : Option Files) (refusal : Refusal)
    → RunsEncrypted command → IsLost command given lent told → CarriesHeadline command given told lent (Err refusal)
lost_carries Run given lent told refusal may is = want_carries Run given lent told refusal is
lost_carries Gen given lent told refusal may is = want_carries Gen given lent told refusal is
lost_carries Flat given lent told refusal may is = absurd may
lost_carries Asm given lent told refusal may is = absurd may
lost_carries Disasm given lent told refusal may is = absurd may
lost_carries Check given lent told refusal may is = absurd may

work_carries : (command : Command) (given : List Pair) (lent : Lent) (end : Result Made Refusal) (old new : HostState)
    → RunsEncrypted command → WorkEnds command given lent end old new
    → CarriesHeadline command given old.files lent end
work_carries command given lent (Ok made) old new may (at, done, is, last) =
    made_carries command given lent old.files made may is
work_carries command given lent (Err refusal) old new may (inl (idle, refused)) = inl idle
work_carries command given lent (Err refusal) old new may (inr (at, done, inl (none, same, lost))) =
    lost_carries command given lent old.files refusal may lost
work_carries command given lent (Err refusal) old new may (inr (at, done, inr (made, is, refused))) =
    refused_carries command given lent old.files made refusal (made_carries command given lent old.files made may is)

-- A command whose program runs over encrypted memory carries the headline.
pub ends_carry : (read : Read) (lent : Lent) (end : Result Made Refusal) (old new : HostState)
    → RunsEncrypted read.command → CommandEnds read lent end old new
    → CarriesHeadline read.command read.given old.files lent end
ends_carry read lent (Ok made) old new may ends =
    work_carries read.command read.given lent (Ok made) old new may ends
ends_carry read lent (Err end) old new may (refusal, mid, work, tells) =
    work_carries read.command read.given lent (Err refusal) old mid may work
