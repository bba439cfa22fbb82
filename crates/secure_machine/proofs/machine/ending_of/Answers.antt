use Rattle.std.proofs.Common.{◌∙◌, sym, ap, subst, max}
use Rattle.asc_base.specs.declared.settings.Config.{Config}
use Rattle.asc_base.specs.declared.stop.Stop.{Stop}
use Rattle.secure_machine.specs.Finish.{Settled}
use Rattle.secure_machine.specs.Goes.{Breaks}
use Rattle.secure_machine.specs.Runs.{port}
use Rattle.secure_machine.specs.declared.report.Ending.TheVariants.{StashFull, Integrity, TimeUp, Device}
use Rattle.secure_machine.proofs.Settles.{integrity_settles, full_settles, time_settles, device_settles, short_of}
use Rattle.std.proofs.Common.{◌≡◌, max, arith}
use Rattle.secure_machine.specs.Plays.{EndedInPlay, StoppedInPlay}
use Rattle.secure_machine.specs.Same.{timed_of}
use Rattle.secure_machine.proofs.machine.ending_of.Goals as goal

pub returns-in-Integrity-clause-settled : goal.returns-in-Integrity-clause-settled
returns-in-Integrity-clause-settled g c =
    let new = port g.M.UntrustedMemory.state g.W.Watch.state g.L.LeafFn.levels c.args.lines.now in
    λ budget instructions cycles old h within.
    subst (λ n. Settled budget instructions cycles (Integrity c.in-Integrity.evidence) n old new)
    (sym c.last-last.ensures)
    (integrity_settles budget instructions cycles old new c.in-Integrity.evidence
    (subst (λ (s : Stop). Breaks s old new) c.in-Integrity.is h) within)

pub returns-in-StashFull-clause-settled : goal.returns-in-StashFull-clause-settled
returns-in-StashFull-clause-settled g c =
    let new = port g.M.UntrustedMemory.state g.W.Watch.state g.L.LeafFn.levels c.args.lines.now in
    λ budget instructions cycles old h within.
    subst (λ n. Settled budget instructions cycles (StashFull c.in-StashFull.held) n old new) (sym c.last-last.ensures)
    (full_settles budget instructions cycles old new c.in-StashFull.held
    (subst (λ (s : Stop). Breaks s old new) c.in-StashFull.is h) within)

pub returns-in-Device-clause-settled : goal.returns-in-Device-clause-settled
returns-in-Device-clause-settled g c =
    let new = port g.M.UntrustedMemory.state g.W.Watch.state g.L.LeafFn.levels c.args.lines.now in
    λ budget instructions cycles old h within.
    subst (λ n. Settled budget instructions cycles Device n old new) (sym c.last-last.ensures)
    (device_settles budget instructions cycles old new (subst (λ (s : Stop). Breaks s old new) c.in-Device.is h)
    within)

pub returns-in-NoMemory-clause-settled : goal.returns-in-NoMemory-clause-settled
returns-in-NoMemory-clause-settled g c =
    let new = port g.M.UntrustedMemory.state g.W.Watch.state g.L.LeafFn.levels c.args.lines.now in
    λ budget instructions cycles old h within.
    short_of budget instructions cycles old new (subst (λ (s : Stop). Breaks s old new) c.in-NoMemory.is h)

pub returns-in-TimeUp-clause-settled : goal.returns-in-TimeUp-clause-settled
returns-in-TimeUp-clause-settled g c =
    let new = port g.M.UntrustedMemory.state g.W.Watch.state g.L.LeafFn.levels c.args.lines.now in
    λ budget instructions cycles old h within.
    let broke = subst (λ (s : Stop). Breaks s old new) c.in-TimeUp.is h in
    time_settles budget instructions cycles old new c.in-TimeUp.at c.max.result broke within
    (c.max.ensures ∙ (ap (λ n. max n c.time.result) c.last-last.ensures
    ∙ ap (max new.clock.last) (c.time.ensures ∙ ap (λ (config : Config). config.time) broke.config)))

pub returns-in-Integrity-clause-plays : goal.returns-in-Integrity-clause-plays
returns-in-Integrity-clause-plays g c config whole instructions cycles same known =
    subst (λ n. EndedInPlay g.M.UntrustedMemory.state g.W.Watch.state g.L.LeafFn.leaf_of g.L.LeafFn.levels config whole
    instructions cycles (Integrity c.in-Integrity.evidence) n c.args.lines.now) (sym c.last-last.ensures)
    (subst (λ (s : Stop). StoppedInPlay g.M.UntrustedMemory.state g.W.Watch.state g.L.LeafFn.leaf_of g.L.LeafFn.levels
    config
    whole instructions cycles s c.args.lines.now) c.in-Integrity.is known)

pub returns-in-StashFull-clause-plays : goal.returns-in-StashFull-clause-plays
returns-in-StashFull-clause-plays g c config whole instructions cycles same known =
    subst (λ n. EndedInPlay g.M.UntrustedMemory.state g.W.Watch.state g.L.LeafFn.leaf_of g.L.LeafFn.levels config whole
    instructions cycles (StashFull c.in-StashFull.held) n c.args.lines.now) (sym c.last-last.ensures)
    (subst (λ (s : Stop). StoppedInPlay g.M.UntrustedMemory.state g.W.Watch.state g.L.LeafFn.leaf_of g.L.LeafFn.levels
    config
    whole instructions cycles s c.args.lines.now) c.in-StashFull.is known)

pub returns-in-Device-clause-plays : goal.returns-in-Device-clause-plays
returns-in-Device-clause-plays g c config whole instructions cycles same known =
    subst (λ n. EndedInPlay g.M.UntrustedMemory.state g.W.Watch.state g.L.LeafFn.leaf_of g.L.LeafFn.levels config whole
    instructions cycles Device n c.args.lines.now) (sym c.last-last.ensures)
    (subst (λ (s : Stop). StoppedInPlay g.M.UntrustedMemory.state g.W.Watch.state g.L.LeafFn.leaf_of g.L.LeafFn.levels
    config
    whole instructions cycles s c.args.lines.now) c.in-Device.is known)

pub returns-in-TimeUp-clause-plays : goal.returns-in-TimeUp-clause-plays
returns-in-TimeUp-clause-plays g c config whole instructions cycles same known =
    let last = (timed_of g.M.UntrustedMemory.state g.W.Watch.state c.args.lines.now).oram.port.clock.last in
    let time = c.time.ensures ∙ ap (λ (config : Config). config.time) same in
    let e : max config.time last ≡ c.max.result = omega (arith, c.max.ensures, c.last-last.ensures, time) in
    subst (λ n. EndedInPlay g.M.UntrustedMemory.state g.W.Watch.state g.L.LeafFn.leaf_of g.L.LeafFn.levels config whole
    instructions cycles (TimeUp c.in-TimeUp.at) n c.args.lines.now) e
    (subst (λ (s : Stop). StoppedInPlay g.M.UntrustedMemory.state g.W.Watch.state g.L.LeafFn.leaf_of g.L.LeafFn.levels
    config
    whole instructions cycles s c.args.lines.now) c.in-TimeUp.is known)
