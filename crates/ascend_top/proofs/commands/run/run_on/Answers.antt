use Rattle.std.proofs.Common.{◌≡◌, ◌⊎◌, ℕ, List, None, IfOk, OnErr, inl, inr, ap, subst}
use Rattle.asc_base.specs.declared.settings.Config.{Config}
use Rattle.bucket_codec.specs.Pad.{pad_key}
use Rattle.std.proofs.lemmas.Result.{IfOk-weaker}
use Rattle.leaf_function.specs.Leaf.{Keyed, leaf, leaf_key}
use Rattle.oram_contents.specs.Entries.{Keys}
use Rattle.oram_contents.specs.Forgery.{Forgery}
use Rattle.oram_lines.specs.Standing.{DrawnOnce}
use Rattle.pmmac_tags.specs.Tag.{tag_key}
use Rattle.log_replay.specs.Judged.{BreaksOffReading, HaveOrigins, SaysMirror, verdict_on}
use Rattle.log_replay.specs.LastSlot.{StopsInOrder}
use Rattle.log_replay.specs.Order.{LogOrder}
use Rattle.asc_base.specs.declared.stop.Stop.TheVariants as why
use Rattle.secure_machine.specs.Home.{EndsAtHome}
use Rattle.secure_machine.specs.Judged.{EndsInOrder, SaysWanting, ShowsEnding, log_end}
use Rattle.secure_machine.specs.Plays.{play_with}
use Rattle.secure_machine.specs.Run.{IsUnprepared, chip_keys}
use Rattle.ascend_top.specs.EncryptedRun.{IsRunOf, keys_from}
use Rattle.ascend_top.specs.Lent.{lent_as}
use Rattle.ascend_top.proofs.RunLaws.{ran_of, wants_of}
use Rattle.ascend_top.proofs.TraceLaws.{levels_few}
use Rattle.ascend_top.proofs.commands.run.run_on.Goals as goal

pub new-leaf-requires-clause-some : goal.new-leaf-requires-clause-some
new-leaf-requires-clause-some g c = (levels_few c.args.begin.now.program.config c.requires.config).0

pub new-leaf-requires-clause-most : goal.new-leaf-requires-clause-most
new-leaf-requires-clause-most g c = (levels_few c.args.begin.now.program.config c.requires.config).1

-- the keys of the chip are those that the master key gives
keys_are : (key : List ℕ) (config : Config) (pads tags : List ℕ) (keyed : Keyed) → pads ≡ pad_key key
    → tags ≡ tag_key key → keyed ≡ record { key = leaf_key key; levels = config.shape.levels }
    → chip_keys config pads tags (leaf keyed.key keyed.levels) ≡ keys_from config key
keys_are key config pads tags keyed pads_are tags_are keyed_is =
    let leaf_is = ap (λ (k : Keyed). leaf k.key k.levels) keyed_is in
    λ i. record {
      shape = config.shape;
      pads = pads_are i;
      tags = tags_are i;
      leaf_of = leaf_is i;
    }

pub returns-clause-ran : goal.returns-clause-ran
returns-clause-ran g c =
    let program = c.args.begin.now.program in
    let key = c.args.begin.now.key in
    let lent = lent_as (g.M.UntrustedMemory.state c.args.bus.now.memory.now)
    (g.M.UntrustedMemory.state c.run.new.bus.memory.now) c.args.bus.now.tap.now c.run.new.bus.tap.now in
    let same = keys_are key program.config c.new-codec.result c.new-tagger.result c.new-leaf.result
    c.new-codec.ensures c.new-tagger.ensures c.new-leaf.ensures in
    subst (λ (input : List ℕ). IfOk c.run.result (IsRunOf program.config program.image input key lent))
    c.as_slice.ensures.value
    (ran_of program.config program.image c.as_slice.result.now key lent c.run.ensures.bits c.run.ensures.faults
    c.run.ensures.budget c.run.ensures.asked c.run.ensures.unaltered c.run.ensures.leaves
    (subst (λ (z : Keys). LogOrder z lent.tap'.log) same c.run.ensures.order)
    (subst (λ (z : Keys). Forgery z lent.tap'.log ⊎ DrawnOnce lent.tap'.log.events) same c.run.ensures.points)
    c.run.result c.run.ensures.pace
    c.run.ensures.last c.run.ensures.real c.run.ensures.dummies c.run.ensures.tied c.run.ensures.device
    c.run.ensures.right c.run.ensures.choices c.run.ensures.code c.run.ensures.fetches c.run.ensures.spent
    c.run.ensures.flat_unaltered c.run.ensures.honest
    (IfOk-weaker c.run.result _ _ (λ report known. elim known [
      | inl forged ↦ inl (subst (λ (z : Keys). Forgery z lent.tap'.log) same forged)
      | inr flat ↦ inr flat
    ]) c.run.ensures.refines)
    (IfOk-weaker c.run.result _ _ (λ report known. elim known [
      | inl forged ↦ inl (subst (λ (z : Keys). Forgery z lent.tap'.log) same forged)
      | inr played ↦ inr played
    ]) c.run.ensures.plays)
    c.run.ensures.plays_unaltered c.run.ensures.fed
    (IfOk-weaker c.run.result _ _ (λ report. subst (λ (z : Keys). ShowsEnding z program.config.stash report.ending
    lent.tap'.log) same) c.run.ensures.verdict)
    (IfOk-weaker c.run.result _ _ (λ report. subst (λ (z : Keys). SaysMirror z lent.tap'.log (log_end report.ending)
    lent.tap'.mirror ⊎ IsUnprepared report lent.tap lent.tap') same) c.run.ensures.contents)
    c.run.ensures.told c.run.ensures.count c.run.ensures.time_up
    (IfOk-weaker c.run.result _ _ (λ report. subst (λ (z : Keys). EndsInOrder z report.ending lent.tap'.log
    ⊎ IsUnprepared report lent.tap lent.tap') same) c.run.ensures.done)
    (IfOk-weaker c.run.result _ _ (λ report. subst (λ (z : Keys). EndsAtHome z program.config
    (play_with program.config program.image c.as_slice.result.now) report.instructions report.cycles report.ending
    lent.tap'.log) same)
    c.run.ensures.home)
    (IfOk-weaker c.run.result _ _ (λ report. subst (λ (z : Keys). HaveOrigins z lent.tap'.log lent.tap'.mirror
    ⊎ IsUnprepared report lent.tap lent.tap') same) c.run.ensures.origins))

pub returns-clause-wanting : goal.returns-clause-wanting
returns-clause-wanting g c =
    let program = c.args.begin.now.program in
    let key = c.args.begin.now.key in
    let lent = lent_as (g.M.UntrustedMemory.state c.args.bus.now.memory.now)
    (g.M.UntrustedMemory.state c.run.new.bus.memory.now) c.args.bus.now.tap.now c.run.new.bus.tap.now in
    let same = keys_are key program.config c.new-codec.result c.new-tagger.result c.new-leaf.result
    c.new-codec.ensures c.new-tagger.ensures c.new-leaf.ensures in
    wants_of program.config program.image program.input.items key lent c.run.ensures.bits c.run.ensures.faults
    c.run.ensures.budget c.run.ensures.asked c.run.ensures.unaltered c.run.ensures.leaves
    (subst (λ (z : Keys). LogOrder z lent.tap'.log) same c.run.ensures.order)
    (subst (λ (z : Keys). Forgery z lent.tap'.log ⊎ DrawnOnce lent.tap'.log.events) same c.run.ensures.points)
    c.run.result c.run.ensures.pace_err
    c.run.ensures.end_err c.run.ensures.tied_err
    (subst (λ (z : Keys). OnErr c.run.result ((verdict_on z program.config.stash lent.tap'.log ≡ None)
    ⊎ BreaksOffReading z program.config.stash lent.tap'.log)) same c.run.ensures.verdict_err)
    (subst (λ (z : Keys). OnErr c.run.result (SaysWanting z lent.tap'.log lent.tap'.mirror ⊎ (lent.tap' ≡ lent.tap)))
    same c.run.ensures.contents_err) c.run.ensures.count_err
    (subst (λ (z : Keys). OnErr c.run.result (StopsInOrder z why.NoMemory lent.tap'.log)) same c.run.ensures.done_err)
    (subst (λ (z : Keys). OnErr c.run.result (HaveOrigins z lent.tap'.log lent.tap'.mirror ⊎ (lent.tap' ≡ lent.tap)))
    same c.run.ensures.origins_err)
