use Rattle.std.proofs.Common.{◌≡◌, ◌∙◌, List, Option, ap, sym, refl, subst}
use Rattle.asc_outside.specs.Host.{Files}
use Rattle.ascend_words.specs.Grammar.{Pair}
use Rattle.ascend_words.specs.declared.table.Command.TheVariants.{Run, Flat, Asm, Disasm, Check, Gen}
use Rattle.ascend_top.specs.Asm.{asm_file, write_steps}
use Rattle.ascend_top.specs.Check.{AreHeld, held_steps}
use Rattle.ascend_top.specs.Command.{WorkEnds, bytes_end, end_of, run_end}
use Rattle.ascend_top.specs.Disasm.{disasm_listing, print_steps}
use Rattle.ascend_top.specs.Flat.{report_steps}
use Rattle.ascend_top.specs.FlatRun.{Report, flat_report}
use Rattle.ascend_top.specs.Lent.{IsIdle, lent_as}
use Rattle.ascend_top.specs.Made.{Ran, Assembled, Listed, Held}
use Rattle.ascend_top.specs.Steps.{Shows}
use Rattle.ascend_top.proofs.EndLaws.{lift_ends}
use Rattle.ascend_top.proofs.Shown.{shows_more}
use Rattle.ascend_top.proofs.take_steps.Goals as goal

-- the report of a flat run, as what its work made
ran_is : (given : List Pair) (told : Option Files) (made : Report)
    → Shows told (λ files. Shows told (λ later. made ≡ flat_report given files later))
    → Shows told (λ files. Shows told (λ later. Ran made ≡ Ran (flat_report given files later)))
ran_is given told made =
    shows_more told (λ files. Shows told (λ later. made ≡ flat_report given files later))
    (λ files. Shows told (λ later. Ran made ≡ Ran (flat_report given files later)))
    (λ files. shows_more told (λ later. made ≡ flat_report given files later)
    (λ later. Ran made ≡ Ran (flat_report given files later)) (λ later e. ap Ran e))

pub returns-in-Run : goal.returns-in-Run
returns-in-Run g c =
    let given = c.args.words.now.given in
    let old = g.H.Host.state c.args.host.now in
    let new = g.H.Host.state c.run.new.host in
    let lent = lent_as (g.M.UntrustedMemory.state c.args.memory.now) (g.M.UntrustedMemory.state c.run.new.memory)
    c.args.tap.now c.run.new.tap in
    subst (λ command. WorkEnds command given lent (end_of c.encrypted.result) old new) (sym c.in-Run.is
    ∙ c.command.ensures)
    (subst (λ end. WorkEnds Run given lent end old new) (sym c.encrypted.ensures) c.run.ensures)

pub returns-in-Gen : goal.returns-in-Gen
returns-in-Gen g c =
    let given = c.args.words.now.given in
    let old = g.H.Host.state c.args.host.now in
    let new = g.H.Host.state c.run_generated.new.host in
    let lent = lent_as (g.M.UntrustedMemory.state c.args.memory.now)
    (g.M.UntrustedMemory.state c.run_generated.new.memory) c.args.tap.now c.run_generated.new.tap in
    subst (λ command. WorkEnds command given lent (end_of c.encrypted-in-Gen.result) old new) (sym c.in-Gen.is
    ∙ c.command.ensures)
    (subst (λ end. WorkEnds Gen given lent end old new) (sym c.encrypted-in-Gen.ensures) c.run_generated.ensures)

pub returns-in-Flat : goal.returns-in-Flat
returns-in-Flat g c =
    let given = c.args.words.now.given in
    let old = g.H.Host.state c.args.host.now in
    let new = g.H.Host.state c.flat.new.host in
    let lent = lent_as (g.M.UntrustedMemory.state c.args.memory.now) (g.M.UntrustedMemory.state c.args.memory.now)
    c.args.tap.now c.args.tap.now in
    let idle : IsIdle lent = record { memory = refl; tap = refl } in
    subst (λ command. WorkEnds command given lent (end_of c.ran.result) old new) (sym c.in-Flat.is
    ∙ c.command.ensures)
    (subst (λ end. WorkEnds Flat given lent end old new) (sym c.ran.ensures)
    (lift_ends Ran (report_steps given)
    (λ told made. Shows told (λ files. Shows told (λ later. made ≡ flat_report given files later))) Flat given lent idle
    (λ e. absurd (let no : ⊥ = cc in no))
    (λ made. refl) (λ told made is. (idle, ran_is given told made is)) (λ told. idle)
    (run_end c.flat.result) old new c.flat.ensures))

pub returns-in-Asm : goal.returns-in-Asm
returns-in-Asm g c =
    let given = c.args.words.now.given in
    let old = g.H.Host.state c.args.host.now in
    let new = g.H.Host.state c.asm.new.host in
    let lent = lent_as (g.M.UntrustedMemory.state c.args.memory.now) (g.M.UntrustedMemory.state c.args.memory.now)
    c.args.tap.now c.args.tap.now in
    let idle : IsIdle lent = record { memory = refl; tap = refl } in
    subst (λ command. WorkEnds command given lent (end_of c.assembled.result) old new) (sym c.in-Asm.is
    ∙ c.command.ensures)
    (subst (λ end. WorkEnds Asm given lent end old new) (sym c.assembled.ensures)
    (lift_ends Assembled (write_steps given) (λ told made. Shows told (λ files. made ≡ asm_file given files)) Asm given
    lent idle
    (λ e. absurd (let no : ⊥ = cc in no))
    (λ made. refl) (λ told made is. (
      idle,
      shows_more told (λ files. made ≡ asm_file given files)
          (λ files. Assembled made ≡ Assembled (asm_file given files)) (λ files e. ap Assembled e) is,
    )) (λ told. idle)
    (bytes_end (λ file. file.items) c.asm.result) old new c.asm.ensures))

pub returns-in-Disasm : goal.returns-in-Disasm
returns-in-Disasm g c =
    let given = c.args.words.now.given in
    let old = g.H.Host.state c.args.host.now in
    let new = g.H.Host.state c.disasm.new.host in
    let lent = lent_as (g.M.UntrustedMemory.state c.args.memory.now) (g.M.UntrustedMemory.state c.args.memory.now)
    c.args.tap.now c.args.tap.now in
    let idle : IsIdle lent = record { memory = refl; tap = refl } in
    subst (λ command. WorkEnds command given lent (end_of c.listed.result) old new) (sym c.in-Disasm.is
    ∙ c.command.ensures)
    (subst (λ end. WorkEnds Disasm given lent end old new) (sym c.listed.ensures)
    (lift_ends Listed print_steps (λ told made. Shows told (λ files. made ≡ disasm_listing given files)) Disasm given
    lent idle
    (λ e. absurd (let no : ⊥ = cc in no))
    (λ made. refl) (λ told made is. (
      idle,
      shows_more told (λ files. made ≡ disasm_listing given files)
          (λ files. Listed made ≡ Listed (disasm_listing given files)) (λ files e. ap Listed e) is,
    )) (λ told. idle)
    (bytes_end (λ text. text.items) c.disasm.result) old new c.disasm.ensures))

pub returns-in-Check : goal.returns-in-Check
returns-in-Check g c =
    let given = c.args.words.now.given in
    let old = g.H.Host.state c.args.host.now in
    let new = g.H.Host.state c.check.new.host in
    let lent = lent_as (g.M.UntrustedMemory.state c.args.memory.now) (g.M.UntrustedMemory.state c.args.memory.now)
    c.args.tap.now c.args.tap.now in
    let idle : IsIdle lent = record { memory = refl; tap = refl } in
    subst (λ command. WorkEnds command given lent (end_of c.held.result) old new) (sym c.in-Check.is
    ∙ c.command.ensures)
    (subst (λ end. WorkEnds Check given lent end old new) (sym c.held.ensures)
    (lift_ends (λ held. Held held.code held.bits) (λ held. held_steps held.code held.bits)
    (λ told held. Shows told (λ files. AreHeld given files held.code held.bits)) Check given lent idle
    (λ e. absurd (let no : ⊥ = cc in no))
    (λ made. refl) (λ told made is. (idle, is)) (λ told. idle) c.check.result old new c.check.ensures))
