use Rattle.std.proofs.Common.{◌<◌, ◌+◌, ◌∙◌, inl, inr, min, refl, sym, ap, subst, arith}
use Rattle.asc_base.specs.declared.settings.Config.{Config}
use Rattle.rv32_core.specs.FlatMachine.{FlatStep}
use Rattle.rv32_core.specs.StepPlan.{machine_of}
use Rattle.secure_machine.specs.FlatEnds.{HaltsFlat}
use Rattle.secure_machine.specs.Halting.{time_of}
use Rattle.secure_machine.specs.Refines.{CauseUnblamed}
use Rattle.secure_machine.specs.Runs.{HaltsOver}
use Rattle.secure_machine.specs.declared.machine.Halted.{Halted}
use Rattle.secure_machine.specs.declared.report.Ending.TheVariants.{Exit, Trap, TimeUp}
use Rattle.secure_machine.proofs.LineChains.{onwards_none, ends_after}
use Rattle.secure_machine.specs.Fed.{HaltsFed}
use Rattle.secure_machine.proofs.FedChains.{exit_halts, trap_halts, stop_halts, time_halts}
use Rattle.secure_machine.specs.Plays.{HaltsInPlay}
use Rattle.secure_machine.proofs.Playing.{no_time_left, went_on, exited, trapped}
use Rattle.secure_machine.specs.Spent.{HaltsSpent}
use Rattle.secure_machine.proofs.SpentRuns.{exit_spends, trap_spends, stopped_spends, stops_later, time_spends}
use Rattle.secure_machine.proofs.machine.instruction.Goals as goal

pub returns-in-Err-clause-stops : goal.returns-in-Err-clause-stops
returns-in-Err-clause-stops g c is = c.in-Err.ensures.stops

pub returns-then-start-time-clause-refines : goal.returns-then-start-time-clause-refines
returns-then-start-time-clause-refines g c before memory lawful core known halted is =
    let machine = machine_of c.args.core.now c.args.files.now in
    inr (subst (λ (h : Halted). HaltsFlat before machine memory h machine) (sym is) (refl, refl))

pub returns-in-Err-clause-refines : goal.returns-in-Err-clause-refines
returns-in-Err-clause-refines g c before memory lawful core known halted (stop, kept, is) =
    inr (subst (λ (h : Halted). HaltsFlat before (machine_of c.args.core.now c.args.files.now) memory h
    (machine_of c.step.new.core c.step.new.files)) (sym is)
    (refl, (c.in-Err.ensures.refines memory lawful core known).1))

pub returns-in-No-clause-refines : goal.returns-in-No-clause-refines
returns-in-No-clause-refines g c before memory lawful core known =
    elim (c.in-Ok.ensures.refines memory lawful core known) [
      | inl forged ↦ inl forged
      | inr (now, step, stands) ↦ inr (now, c.in-Ok.done, c.in-No.is, step, stands)
    ]

pub returns-in-Exit-clause-refines : goal.returns-in-Exit-clause-refines
returns-in-Exit-clause-refines g c before memory lawful core known halted is =
    elim (c.in-Ok.ensures.refines memory lawful core known) [
      | inl forged ↦ inl forged
      | inr (now, step, stands) ↦ inr (subst (λ (h : Halted). HaltsFlat before
          (machine_of c.args.core.now c.args.files.now) memory h (machine_of c.step.new.core c.step.new.files))
          (sym is)
          (refl, (ap (λ (s : FlatStep). s.done.ended) step ∙ c.in-Exit.is, ap (λ (s : FlatStep). s.machine) step)))
    ]

pub returns-in-Trap-clause-refines : goal.returns-in-Trap-clause-refines
returns-in-Trap-clause-refines g c before memory lawful core known halted is =
    elim (c.in-Ok.ensures.refines memory lawful core known) [
      | inl forged ↦ inl forged
      | inr (now, step, stands) ↦ inr (subst (λ (h : Halted). HaltsFlat before
          (machine_of c.args.core.now c.args.files.now) memory h (machine_of c.step.new.core c.step.new.files))
          (sym is)
          (refl, (ap (λ (s : FlatStep). s.done.ended) step ∙ c.in-Trap.is, ap (λ (s : FlatStep). s.machine) step)))
    ]

pub returns-then-start-time-clause-honest : goal.returns-then-start-time-clause-honest
returns-then-start-time-clause-honest g c memory lawful core known before halted is =
    subst (λ (h : Halted). CauseUnblamed g.M.UntrustedMemory.state g.W.Watch.state g.L.LeafFn.leaf_of g.L.LeafFn.levels
    h.cause c.args.lines.now) (sym is) (c.args.cache.now, memory, known)

pub returns-in-Err-clause-honest : goal.returns-in-Err-clause-honest
returns-in-Err-clause-honest g c memory lawful core known before halted (stop, kept, is) =
    subst (λ (h : Halted). CauseUnblamed g.M.UntrustedMemory.state g.W.Watch.state g.L.LeafFn.leaf_of g.L.LeafFn.levels
    h.cause c.step.new.lines) (sym is) (c.in-Err.ensures.honest memory lawful known stop kept)

pub returns-in-Exit-clause-honest : goal.returns-in-Exit-clause-honest
returns-in-Exit-clause-honest g c memory lawful core known before halted is =
    subst (λ (h : Halted). CauseUnblamed g.M.UntrustedMemory.state g.W.Watch.state g.L.LeafFn.leaf_of g.L.LeafFn.levels
    h.cause c.step.new.lines) (sym is)
    (elim (c.in-Ok.ensures.refines memory lawful core known) [
      | inl forged ↦ (c.step.new.cache, memory, inl forged)
      | inr (now, step, stands) ↦ (c.step.new.cache, now, inr stands)
    ])

pub returns-in-Trap-clause-honest : goal.returns-in-Trap-clause-honest
returns-in-Trap-clause-honest g c memory lawful core known before halted is =
    subst (λ (h : Halted). CauseUnblamed g.M.UntrustedMemory.state g.W.Watch.state g.L.LeafFn.leaf_of g.L.LeafFn.levels
    h.cause c.step.new.lines) (sym is)
    (elim (c.in-Ok.ensures.refines memory lawful core known) [
      | inl forged ↦ (c.step.new.cache, memory, inl forged)
      | inr (now, step, stands) ↦ (c.step.new.cache, now, inr stands)
    ])

pub returns-then-start-time-clause-halts : goal.returns-then-start-time-clause-halts
returns-then-start-time-clause-halts g c before budget few halted is =
    let start = c.args.lines.now.clock in
    subst (λ (h : Halted). HaltsOver g.M.UntrustedMemory.state g.W.Watch.state g.L.LeafFn.leaf_of g.L.LeafFn.levels
    budget h c.args.lines.now c.args.lines.now) (sym is)
    (ends_after g.M.UntrustedMemory.state g.W.Watch.state g.L.LeafFn.leaf_of g.L.LeafFn.levels budget before start
    (time_of c.args.lines.now) (TimeUp start) c.args.lines.now c.args.lines.now
    (onwards_none g.M.UntrustedMemory.state g.W.Watch.state g.L.LeafFn.leaf_of g.L.LeafFn.levels c.args.lines.now
    c.requires.ready) (omega arith)
    (few, omega (arith, c.if-start-time.true, c.time-time.ensures), refl, refl))

pub returns-in-Err-clause-halts : goal.returns-in-Err-clause-halts
returns-in-Err-clause-halts g c before budget few halted (stop, kept, is) =
    let off = c.in-Err.ensures.breaks stop kept in
    let config = c.args.lines.now.oram.now.port.clock.config in
    let early : c.args.lines.now.clock < config.time = omega (arith, c.if-start-time.false, c.time-time.ensures) in
    subst (λ (h : Halted). HaltsOver g.M.UntrustedMemory.state g.W.Watch.state g.L.LeafFn.leaf_of g.L.LeafFn.levels
    budget h c.args.lines.now c.step.new.lines) (sym is)
    (record {
      same = off.same;
      halts = (off.breaks, omega (arith, few));
      late = λ at named some. stops_later g.M.UntrustedMemory.state g.W.Watch.state g.L.LeafFn.levels config 0
          g.L.LeafFn.leaf_of c.args.lines.now.clock stop c.args.lines.now c.step.new.lines refl early off at named;
      fetches = off.fetches;
      replays = off.replays;
    })

pub returns-in-Exit-clause-halts : goal.returns-in-Exit-clause-halts
returns-in-Exit-clause-halts g c before budget few halted is =
    let time = ap (λ (config : Config). config.time) c.in-Ok.ensures.onwards.goes.config in
    let clock = c.step.new.lines.clock in
    subst (λ (h : Halted). HaltsOver g.M.UntrustedMemory.state g.W.Watch.state g.L.LeafFn.leaf_of g.L.LeafFn.levels
    budget h c.args.lines.now c.step.new.lines) (sym is)
    (ends_after g.M.UntrustedMemory.state g.W.Watch.state g.L.LeafFn.leaf_of g.L.LeafFn.levels budget (before + 1)
    clock (min clock (time_of c.step.new.lines)) (Exit c.in-Exit.status) c.args.lines.now c.step.new.lines
    c.in-Ok.ensures.onwards (omega arith) (omega arith, omega (arith, few), ap (min clock) time))

pub returns-in-Trap-clause-halts : goal.returns-in-Trap-clause-halts
returns-in-Trap-clause-halts g c before budget few halted is =
    let time = ap (λ (config : Config). config.time) c.in-Ok.ensures.onwards.goes.config in
    let start = c.args.lines.now.clock in
    subst (λ (h : Halted). HaltsOver g.M.UntrustedMemory.state g.W.Watch.state g.L.LeafFn.leaf_of g.L.LeafFn.levels
    budget h c.args.lines.now c.step.new.lines) (sym is)
    (ends_after g.M.UntrustedMemory.state g.W.Watch.state g.L.LeafFn.leaf_of g.L.LeafFn.levels budget before start start
    (Trap c.in-Trap.kind c.in-Trap.pc) c.args.lines.now c.step.new.lines c.in-Ok.ensures.onwards
    (omega (arith, c.if-start-time.false, c.time-time.ensures, time))
    (few, omega (arith, c.if-start-time.false, c.time-time.ensures)))

pub returns-then-start-time-clause-fed : goal.returns-then-start-time-clause-fed
returns-then-start-time-clause-fed g c before ways lists core stands halted is =
    let start = c.args.lines.now.clock in
    let machine = machine_of c.args.core.now c.args.files.now in
    subst (λ (h : Halted). HaltsFed g.W.Watch.state ways before machine lists c.args.lines.now c.args.lines.now h
    machine) (sym is)
    (time_halts g.W.Watch.state ways before start start (time_of c.args.lines.now) machine lists c.args.lines.now)

pub returns-in-Err-clause-fed : goal.returns-in-Err-clause-fed
returns-in-Err-clause-fed g c before ways lists core stands halted (stop, kept, is) =
    let machine = machine_of c.args.core.now c.args.files.now in
    let next = machine_of c.step.new.core c.step.new.files in
    let (starves, same) = c.in-Err.ensures.fed ways lists core stands in
    subst (λ (h : Halted). HaltsFed g.W.Watch.state ways before machine lists c.args.lines.now c.step.new.lines h
    next) (sym is)
    (stop_halts g.W.Watch.state ways before c.args.lines.now.clock stop machine next lists c.args.lines.now
    c.step.new.lines same starves)

pub returns-in-No-clause-fed : goal.returns-in-No-clause-fed
returns-in-No-clause-fed g c before ways lists core stands =
    (c.in-Ok.done, c.in-No.is, c.in-Ok.ensures.fed ways lists core stands)

pub returns-in-Exit-clause-fed : goal.returns-in-Exit-clause-fed
returns-in-Exit-clause-fed g c before ways lists core stands halted is =
    let machine = machine_of c.args.core.now c.args.files.now in
    let next = machine_of c.step.new.core c.step.new.files in
    let clock = c.step.new.lines.clock in
    subst (λ (h : Halted). HaltsFed g.W.Watch.state ways before machine lists c.args.lines.now c.step.new.lines h
    next) (sym is)
    (exit_halts g.W.Watch.state ways before clock c.in-Exit.status (min clock (time_of c.step.new.lines)) machine next
    lists c.args.lines.now c.step.new.lines c.step.new.cache c.in-Ok.done c.in-Exit.is
    (c.in-Ok.ensures.fed ways lists core stands))

pub returns-in-Trap-clause-fed : goal.returns-in-Trap-clause-fed
returns-in-Trap-clause-fed g c before ways lists core stands halted is =
    let start = c.args.lines.now.clock in
    let machine = machine_of c.args.core.now c.args.files.now in
    let next = machine_of c.step.new.core c.step.new.files in
    subst (λ (h : Halted). HaltsFed g.W.Watch.state ways before machine lists c.args.lines.now c.step.new.lines h
    next) (sym is)
    (trap_halts g.W.Watch.state ways before start c.in-Trap.pc start c.in-Trap.kind machine next lists
    c.args.lines.now c.step.new.lines c.step.new.cache c.in-Ok.done c.in-Trap.is
    (c.in-Ok.ensures.fed ways lists core stands))

pub returns-then-start-time-clause-plays : goal.returns-then-start-time-clause-plays
returns-then-start-time-clause-plays g c config whole before left lawful calls is_config core known halted is =
    subst (λ (h : Halted). HaltsInPlay g.M.UntrustedMemory.state g.W.Watch.state g.L.LeafFn.leaf_of g.L.LeafFn.levels
    config whole h c.args.lines.now) (sym is)
    (no_time_left g.M.UntrustedMemory.state g.W.Watch.state g.L.LeafFn.leaf_of g.L.LeafFn.levels config whole
    before left (machine_of c.args.core.now c.args.files.now) c.args.cache.now c.args.lines.now
    (time_of c.args.lines.now) refl (omega (arith, c.if-start-time.true, c.time-time.ensures)) known)

pub returns-in-Err-clause-plays : goal.returns-in-Err-clause-plays
returns-in-Err-clause-plays g c config whole before left lawful calls is_config core known halted (stop, kept, is) =
    subst (λ (h : Halted). HaltsInPlay g.M.UntrustedMemory.state g.W.Watch.state g.L.LeafFn.leaf_of g.L.LeafFn.levels
    config whole h c.step.new.lines) (sym is)
    (c.in-Err.ensures.plays config whole before left lawful calls is_config core
    (omega (arith, c.if-start-time.false, c.time-time.ensures)) known stop kept)

pub returns-in-No-clause-plays : goal.returns-in-No-clause-plays
returns-in-No-clause-plays g c config whole before left lawful calls is_config core known =
    went_on g.M.UntrustedMemory.state g.W.Watch.state g.L.LeafFn.leaf_of g.L.LeafFn.levels config whole before
    left c.args.lines.now.clock (machine_of c.step.new.core c.step.new.files) c.step.new.cache c.in-Ok.done.ended
    c.step.new.lines c.in-No.is
    (c.in-Ok.ensures.plays config whole before left lawful calls is_config core
    (omega (arith, c.if-start-time.false, c.time-time.ensures)) known)

pub returns-in-Exit-clause-plays : goal.returns-in-Exit-clause-plays
returns-in-Exit-clause-plays g c config whole before left lawful calls is_config core known halted is =
    let clock = c.step.new.lines.clock in
    let time = time_of c.step.new.lines in
    subst (λ (h : Halted). HaltsInPlay g.M.UntrustedMemory.state g.W.Watch.state g.L.LeafFn.leaf_of g.L.LeafFn.levels
    config whole h c.step.new.lines) (sym is)
    (exited g.M.UntrustedMemory.state g.W.Watch.state g.L.LeafFn.leaf_of g.L.LeafFn.levels config whole before
    left c.args.lines.now.clock (machine_of c.step.new.core c.step.new.files) c.step.new.cache c.in-Ok.done.ended
    c.step.new.lines c.in-Exit.status (min clock time) time c.in-Exit.is refl refl
    (c.in-Ok.ensures.plays config whole before left lawful calls is_config core
    (omega (arith, c.if-start-time.false, c.time-time.ensures)) known))

pub returns-in-Trap-clause-plays : goal.returns-in-Trap-clause-plays
returns-in-Trap-clause-plays g c config whole before left lawful calls is_config core known halted is =
    let same = ap (λ (config : Config). config.time) c.in-Ok.ensures.onwards.goes.config in
    subst (λ (h : Halted). HaltsInPlay g.M.UntrustedMemory.state g.W.Watch.state g.L.LeafFn.leaf_of g.L.LeafFn.levels
    config whole h c.step.new.lines) (sym is)
    (trapped g.M.UntrustedMemory.state g.W.Watch.state g.L.LeafFn.leaf_of g.L.LeafFn.levels config whole before
    left c.args.lines.now.clock (machine_of c.step.new.core c.step.new.files) c.step.new.cache c.in-Ok.done.ended
    c.step.new.lines c.in-Trap.kind c.in-Trap.pc c.time-time.result c.in-Trap.is c.if-start-time.false
    (c.time-time.ensures ∙ sym same)
    (c.in-Ok.ensures.plays config whole before left lawful calls is_config core
    (omega (arith, c.if-start-time.false, c.time-time.ensures)) known))

pub returns-then-start-time-clause-spends : goal.returns-then-start-time-clause-spends
returns-then-start-time-clause-spends g c config levels costs before ways lists core stands known halted is =
    let machine = machine_of c.args.core.now c.args.files.now in
    subst (HaltsSpent g.M.UntrustedMemory.state g.W.Watch.state g.L.LeafFn.levels config levels costs ways before
    machine lists c.args.lines.now c.args.lines.now) (sym is)
    (time_spends g.M.UntrustedMemory.state g.W.Watch.state g.L.LeafFn.levels config levels costs ways before
    (time_of c.args.lines.now) machine lists c.args.lines.now known)

pub returns-in-Err-clause-spends : goal.returns-in-Err-clause-spends
returns-in-Err-clause-spends g c config levels costs before ways lists core stands known halted (stop, kept, is) =
    let machine = machine_of c.args.core.now c.args.files.now in
    let early : c.args.lines.now.clock < config.time =
    omega (arith, c.if-start-time.false, c.time-time.ensures, ap (λ (c : Config). c.time) known.config_is) in
    subst (HaltsSpent g.M.UntrustedMemory.state g.W.Watch.state g.L.LeafFn.levels config levels costs ways before
    machine lists c.args.lines.now c.step.new.lines) (sym is)
    (stopped_spends g.M.UntrustedMemory.state g.W.Watch.state g.L.LeafFn.levels config levels costs ways before
    c.args.lines.now.clock stop machine lists c.args.lines.now c.step.new.lines
    (c.in-Err.ensures.fed ways lists core stands).0
    (c.in-Err.ensures.spends config levels costs ways lists core stands early known stop kept)
    (λ at named some. stops_later g.M.UntrustedMemory.state g.W.Watch.state g.L.LeafFn.levels config levels
    g.L.LeafFn.leaf_of c.args.lines.now.clock stop c.args.lines.now c.step.new.lines known.config_is early
    (c.in-Err.ensures.breaks stop kept) at named))

pub returns-in-No-clause-spends : goal.returns-in-No-clause-spends
returns-in-No-clause-spends g c config levels costs before ways lists core stands known =
    let early : c.args.lines.now.clock < config.time =
    omega (arith, c.if-start-time.false, c.time-time.ensures, ap (λ (c : Config). c.time) known.config_is) in (
      c.in-Ok.done,
      c.in-No.is,
      c.in-Ok.ensures.fed ways lists core stands,
      (c.in-Ok.ensures.spends config levels costs ways lists core stands early known).0,
    )

pub returns-in-Exit-clause-spends : goal.returns-in-Exit-clause-spends
returns-in-Exit-clause-spends g c config levels costs before ways lists core stands known halted is =
    let machine = machine_of c.args.core.now c.args.files.now in
    let next = machine_of c.step.new.core c.step.new.files in
    let until = min c.step.new.lines.clock (time_of c.step.new.lines) in
    let early : c.args.lines.now.clock < config.time =
    omega (arith, c.if-start-time.false, c.time-time.ensures, ap (λ (c : Config). c.time) known.config_is) in
    let (spent, onward) = c.in-Ok.ensures.spends config levels costs ways lists core stands early known in
    subst (HaltsSpent g.M.UntrustedMemory.state g.W.Watch.state g.L.LeafFn.levels config levels costs ways before
    machine lists c.args.lines.now c.step.new.lines) (sym is)
    (exit_spends g.M.UntrustedMemory.state g.W.Watch.state g.L.LeafFn.levels config levels costs ways before
    c.in-Exit.status until machine next lists c.args.lines.now c.step.new.lines c.step.new.cache c.in-Ok.done
    c.in-Exit.is (c.in-Ok.ensures.fed ways lists core stands) spent)

pub returns-in-Trap-clause-spends : goal.returns-in-Trap-clause-spends
returns-in-Trap-clause-spends g c config levels costs before ways lists core stands known halted is =
    let start = c.args.lines.now.clock in
    let machine = machine_of c.args.core.now c.args.files.now in
    let next = machine_of c.step.new.core c.step.new.files in
    let early : c.args.lines.now.clock < config.time =
    omega (arith, c.if-start-time.false, c.time-time.ensures, ap (λ (c : Config). c.time) known.config_is) in
    let (spent, onward) = c.in-Ok.ensures.spends config levels costs ways lists core stands early known in
    subst (HaltsSpent g.M.UntrustedMemory.state g.W.Watch.state g.L.LeafFn.levels config levels costs ways before
    machine lists c.args.lines.now c.step.new.lines) (sym is)
    (trap_spends g.M.UntrustedMemory.state g.W.Watch.state g.L.LeafFn.levels config levels costs ways before
    c.in-Trap.pc start c.in-Trap.kind machine next lists c.args.lines.now c.step.new.lines c.step.new.cache
    c.in-Ok.done (c.in-Ok.ensures.fed ways lists core stands) spent onward)
