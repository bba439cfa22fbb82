use Rattle.std.proofs.Common.{◌≡◌, ◌∙◌, ◌*◌, inl, inr, min, refl, sym, ap, subst, arith, ℕ, suc, ◌+◌, ◌-◌, length}
use Rattle.asc_base.specs.declared.settings.Config.{Config}
use Rattle.encrypted_run.specs.Refined.{loaded}
use Rattle.oram_contents.specs.Entries.{AreKeys}
use Rattle.rv32_core.specs.StepPlan.{machine_of}
use Rattle.secure_machine.specs.FlatEnds.{HaltsFlat}
use Rattle.secure_machine.specs.Refines.{CauseUnblamed}
use Rattle.secure_machine.specs.Runs.{HaltsOver}
use Rattle.secure_machine.specs.declared.machine.Halted.{Halted}
use Rattle.secure_machine.specs.declared.report.Ending.TheVariants.{Budget}
use Rattle.secure_machine.proofs.FlatLaws.{reaches_none, reaches_more, halts_run}
use Rattle.secure_machine.proofs.LineChains.{onwards_then, halts_later, ends_after}
use Rattle.secure_machine.proofs.Refining.{keys_same}
use Rattle.secure_machine.specs.Fed.{over_loaded, HaltsFed}
use Rattle.secure_machine.specs.declared.machine.Cause.TheVariants.{Ends, Ends as EndsBy}
use Rattle.secure_machine.proofs.FedChains.{fed_none, fed_more, fed_halts, load_halts, budget_halts}
use Rattle.play_run.specs.Given.{CallsPlay}
use Rattle.secure_machine.specs.Plays.{HaltsInPlay, CauseInPlay, InRun}
use Rattle.secure_machine.proofs.Playing.{at_same, none_left}
use Rattle.secure_machine.specs.Spent.{HaltsSpent}
use Rattle.secure_machine.proofs.SpentRuns.{spent_none, spent_more, spent_halts, load_spends, budget_spends}
use Rattle.secure_machine.proofs.machine.play.Goals as goal

pub returns-in-Err-instruction : goal.returns-in-Err-instruction
returns-in-Err-instruction g c =
    let machine = machine_of c.args.core.now c.args.files.now in
    let bytes = loaded c.args.image.now.bytes.items c.args.image.now.marked.items in
    record {
      halts = halts_later g.M.UntrustedMemory.state g.W.Watch.state g.L.LeafFn.leaf_of g.L.LeafFn.levels c.args.budget
          c.halted_by.result c.args.lines.now c.loop-before.lines c.instruction.new.lines
          c.loop-before.invariant.onwards (c.in-Err-instruction.ensures.halts c.loop-before.before c.args.budget
          c.loop-before-test.true c.halted_by.result c.halted_by.ensures);
      refines = λ memory lawful core known.
          let lawful_now = subst AreKeys (sym (keys_same g.M.UntrustedMemory.state g.W.Watch.state g.L.LeafFn.leaf_of
          g.L.LeafFn.levels c.args.lines.now c.loop-before.lines c.loop-before.invariant.onwards.same)) lawful in
          elim (c.loop-before.invariant.refines memory lawful core known) [
            | inl forged ↦ inl (c.instruction.ensures.forged lawful_now forged)
            | inr (now, reaches, stands) ↦ elim (c.in-Err-instruction.ensures.refines
                c.loop-before.before now lawful_now (c.loop-before.invariant.core core) (inr stands)
                c.halted_by.result c.halted_by.ensures) [
                  | inl forged ↦ inl forged
                  | inr flat ↦ inr (halts_run c.loop-before.before machine
                      (machine_of c.loop-before.core c.loop-before.files)
                      (machine_of c.instruction.new.core c.instruction.new.files) (bytes memory) now
                      c.halted_by.result reaches flat)
                ]
          ];
      honest = λ memory lawful core known.
          let lawful_now = subst AreKeys (sym (keys_same g.M.UntrustedMemory.state g.W.Watch.state g.L.LeafFn.leaf_of
          g.L.LeafFn.levels c.args.lines.now c.loop-before.lines c.loop-before.invariant.onwards.same)) lawful in
          elim (c.loop-before.invariant.refines memory lawful core known) [
            | inl forged ↦ c.in-Err-instruction.ensures.honest memory lawful_now (c.loop-before.invariant.core core)
                (inl forged) c.loop-before.before c.halted_by.result c.halted_by.ensures
            | inr (now, reaches, stands) ↦ c.in-Err-instruction.ensures.honest now lawful_now
                (c.loop-before.invariant.core core) (inr stands) c.loop-before.before c.halted_by.result
                c.halted_by.ensures
          ];
      fed = λ ways sets core stands.
          let started = over_loaded ways c.args.image.now sets in
          let first = c.loop-before.invariant.fed ways sets core stands in
          fed_halts g.W.Watch.state ways c.loop-before.before machine
          (machine_of c.loop-before.core c.loop-before.files)
          (machine_of c.instruction.new.core c.instruction.new.files) started c.args.lines.now c.loop-before.lines
          c.instruction.new.lines c.loop-before.cache c.halted_by.result first
          (c.in-Err-instruction.ensures.fed c.loop-before.before ways (first.1) (c.loop-before.invariant.core core)
          (first.3) c.halted_by.result c.halted_by.ensures);
      plays = λ config whole lawful calls is_config core budget known.
          let lawful_now = subst AreKeys (sym (keys_same g.M.UntrustedMemory.state g.W.Watch.state g.L.LeafFn.leaf_of
          g.L.LeafFn.levels c.args.lines.now c.loop-before.lines c.loop-before.invariant.onwards.same)) lawful in
          let calls_now = at_same g.M.UntrustedMemory.state g.W.Watch.state g.L.LeafFn.leaf_of g.L.LeafFn.levels
          (λ z n. CallsPlay z n config) c.args.lines.now c.loop-before.lines c.loop-before.invariant.onwards.same calls
          in
          let left : ℕ = c.args.budget - c.loop-before.before - 1 in
          let sum : c.loop-before.before + suc left ≡ c.args.budget = omega (arith, c.loop-before-test.true) in
          c.in-Err-instruction.ensures.plays config whole c.loop-before.before left lawful_now calls_now is_config
          (c.loop-before.invariant.core core)
          (c.loop-before.invariant.plays config whole (suc left) lawful calls is_config core budget known sum)
          c.halted_by.result c.halted_by.ensures;
      spends = λ config levels costs ways sets core stands low known.
          let all : ℕ = costs + length c.args.image.now.marked.items in
          let first = c.loop-before.invariant.spends config levels costs ways sets core stands low known in
          spent_halts g.M.UntrustedMemory.state g.W.Watch.state g.L.LeafFn.levels config levels all ways
          c.loop-before.before machine (machine_of c.loop-before.core c.loop-before.files)
          (over_loaded ways c.args.image.now sets) c.args.lines.now c.loop-before.lines c.instruction.new.lines
          c.loop-before.cache c.halted_by.result first
          (c.in-Err-instruction.ensures.spends config levels (all + first.total) c.loop-before.before ways first.now
          (c.loop-before.invariant.core core) first.stands first.spent c.halted_by.result c.halted_by.ensures);
    }

pub loop-before-preserved : goal.loop-before-preserved
loop-before-preserved g c =
    let machine = machine_of c.args.core.now c.args.files.now in
    let bytes = loaded c.args.image.now.bytes.items c.args.image.now.marked.items in
    record {
      onwards = onwards_then g.M.UntrustedMemory.state g.W.Watch.state g.L.LeafFn.leaf_of g.L.LeafFn.levels
          c.args.lines.now c.loop-before.lines c.instruction.new.lines c.loop-before.invariant.onwards
          c.in-Ok-instruction.ensures.onwards;
      below = c.in-Ok-instruction.ensures.below;
      base = c.loop-before.invariant.base ∙ sym c.instruction.ensures.same_base;
      size = c.instruction.ensures.same_size ∙ c.loop-before.invariant.size
          ∙ ap (λ n. 64 * n) (sym c.in-Ok-instruction.ensures.onwards.same.count);
      core = λ is. c.in-Ok-instruction.ensures.core (c.loop-before.invariant.core is);
      refines = λ memory lawful core known.
          let lawful_now = subst AreKeys (sym (keys_same g.M.UntrustedMemory.state g.W.Watch.state g.L.LeafFn.leaf_of
          g.L.LeafFn.levels c.args.lines.now c.loop-before.lines c.loop-before.invariant.onwards.same)) lawful in
          elim (c.loop-before.invariant.refines memory lawful core known) [
            | inl forged ↦ inl (c.instruction.ensures.forged lawful_now forged)
            | inr (now, reaches, stands) ↦ elim (c.in-Ok-instruction.ensures.refines
                c.loop-before.before now lawful_now (c.loop-before.invariant.core core) (inr stands)) [
                  | inl forged ↦ inl forged
                  | inr (later, done, going, step, after) ↦ inr (
                    later,
                    reaches_more c.loop-before.before machine (machine_of c.loop-before.core c.loop-before.files)
                        (machine_of c.instruction.new.core c.instruction.new.files) (bytes memory) now later done
                        reaches going step,
                    after,
                  )
                ]
          ];
      fed = λ ways sets core stands.
          let started = over_loaded ways c.args.image.now sets in
          let first = c.loop-before.invariant.fed ways sets core stands in
          let (done, going, step) = c.in-Ok-instruction.ensures.fed c.loop-before.before ways (first.1)
          (c.loop-before.invariant.core core) (first.3) in
          fed_more g.W.Watch.state ways c.loop-before.before machine (machine_of c.loop-before.core c.loop-before.files)
          (machine_of c.instruction.new.core c.instruction.new.files) started c.args.lines.now c.loop-before.lines
          c.instruction.new.lines c.loop-before.cache c.instruction.new.cache done going first step;
      plays = λ config whole left lawful calls is_config core budget known sum.
          let lawful_now = subst AreKeys (sym (keys_same g.M.UntrustedMemory.state g.W.Watch.state g.L.LeafFn.leaf_of
          g.L.LeafFn.levels c.args.lines.now c.loop-before.lines c.loop-before.invariant.onwards.same)) lawful in
          let calls_now = at_same g.M.UntrustedMemory.state g.W.Watch.state g.L.LeafFn.leaf_of g.L.LeafFn.levels
          (λ z n. CallsPlay z n config) c.args.lines.now c.loop-before.lines c.loop-before.invariant.onwards.same calls
          in
          let before : c.loop-before.before + suc left ≡ c.args.budget = omega (arith, sum) in
          c.in-Ok-instruction.ensures.plays config whole c.loop-before.before left lawful_now calls_now is_config
          (c.loop-before.invariant.core core)
          (c.loop-before.invariant.plays config whole (suc left) lawful calls is_config core budget known before);
      spends = λ config levels costs ways sets core stands low known.
          let all : ℕ = costs + length c.args.image.now.marked.items in
          let first = c.loop-before.invariant.spends config levels costs ways sets core stands low known in
          let (done, going, step, spent) = c.in-Ok-instruction.ensures.spends config levels (all + first.total)
          c.loop-before.before ways first.now (c.loop-before.invariant.core core) first.stands first.spent in
          spent_more g.M.UntrustedMemory.state g.W.Watch.state g.L.LeafFn.levels config levels all ways
          c.loop-before.before machine (machine_of c.loop-before.core c.loop-before.files)
          (machine_of c.instruction.new.core c.instruction.new.files) (over_loaded ways c.args.image.now sets)
          c.args.lines.now c.loop-before.lines c.instruction.new.lines c.loop-before.cache c.instruction.new.cache done
          going first step spent;
    }

pub returns-in-Err-clause-refines : goal.returns-in-Err-clause-refines
returns-in-Err-clause-refines g c memory lawful core known =
    let machine = machine_of c.args.core.now c.args.files.now in
    let bytes = loaded c.args.image.now.bytes.items c.args.image.now.marked.items memory in
    inr (halts_run 0 machine machine machine bytes bytes c.in-Err.halted (reaches_none machine bytes)
    (c.in-Err.ensures.none machine bytes))

pub loop-before-init : goal.loop-before-init
loop-before-init g c =
    let machine = machine_of c.args.core.now c.args.files.now in
    record {
      onwards = c.in-Ok.ensures.onwards;
      below = c.in-Ok.ensures.below;
      base = c.requires.base;
      size = c.requires.size ∙ ap (λ n. 64 * n) (sym c.in-Ok.ensures.onwards.same.count);
      core = λ is. is;
      refines = λ memory lawful core known.
          let bytes = loaded c.args.image.now.bytes.items c.args.image.now.marked.items memory in
          elim (c.in-Ok.ensures.refines memory lawful known) [
            | inl forged ↦ inl forged
            | inr stands ↦ inr (bytes, reaches_none machine bytes, stands)
          ];
      fed = λ ways sets core stands.
          let started = over_loaded ways c.args.image.now sets in
          let (none, standing) = c.in-Ok.ensures.fed ways sets stands in
          fed_none g.W.Watch.state ways machine started c.args.lines.now c.load.new.lines c.load.new.cache none
          standing;
      plays = λ config whole left lawful calls is_config core budget known sum.
          let e : config.budget ≡ left = omega (arith, sum, budget) in
          subst (λ n. InRun g.M.UntrustedMemory.state g.W.Watch.state g.L.LeafFn.leaf_of g.L.LeafFn.levels config whole
          0 n
          machine c.load.new.cache c.load.new.lines) e
          (c.in-Ok.ensures.plays config whole machine lawful calls is_config known);
      spends = λ config levels costs ways sets core stands low known.
          let (none, standing) = c.in-Ok.ensures.fed ways sets stands in
          spent_none g.M.UntrustedMemory.state g.W.Watch.state g.L.LeafFn.levels config levels
          (costs + length c.args.image.now.marked.items) ways machine (over_loaded ways c.args.image.now sets)
          c.args.lines.now c.load.new.lines c.load.new.cache none standing
          (c.in-Ok.ensures.spends config levels costs low known);
    }

pub returns-clause-halts : goal.returns-clause-halts
returns-clause-halts g c =
    let on = c.loop-before.invariant.onwards in
    let clock = c.loop-before.lines.clock in
    let config = ap (λ (config : Config). config.time) on.goes.config in
    subst (λ (h : Halted). HaltsOver g.M.UntrustedMemory.state g.W.Watch.state g.L.LeafFn.leaf_of g.L.LeafFn.levels
    c.args.budget h c.args.lines.now c.loop-before.lines) (sym c.ended.ensures)
    (ends_after g.M.UntrustedMemory.state g.W.Watch.state g.L.LeafFn.leaf_of g.L.LeafFn.levels c.args.budget
    c.args.budget clock c.min.result Budget c.args.lines.now c.loop-before.lines on
    (omega (arith, c.min.ensures, c.time.ensures)) (refl, c.min.ensures ∙ ap (min clock) (c.time.ensures ∙ config)))

pub returns-clause-refines : goal.returns-clause-refines
returns-clause-refines g c memory lawful core known =
    let machine = machine_of c.args.core.now c.args.files.now in
    let next = machine_of c.loop-before.core c.loop-before.files in
    let bytes = loaded c.args.image.now.bytes.items c.args.image.now.marked.items memory in
    elim (c.loop-before.invariant.refines memory lawful core known) [
      | inl forged ↦ inl forged
      | inr (now, reaches, stands) ↦ inr (halts_run c.loop-before.before machine next next bytes now c.ended.result
          reaches (subst (λ (h : Halted). HaltsFlat c.loop-before.before next now h next) (sym c.ended.ensures) (
            let e : c.args.budget ≡ c.loop-before.before
                = omega (arith, c.loop-before-test.false, c.loop-before.auto.before-end) in e,
            refl,
          )))
    ]

pub returns-in-Err-clause-honest : goal.returns-in-Err-clause-honest
returns-in-Err-clause-honest g c memory lawful core known = c.in-Err.ensures.honest memory lawful known

pub returns-clause-honest : goal.returns-clause-honest
returns-clause-honest g c memory lawful core known =
    subst (λ (h : Halted). CauseUnblamed g.M.UntrustedMemory.state g.W.Watch.state g.L.LeafFn.leaf_of g.L.LeafFn.levels
    h.cause c.loop-before.lines) (sym c.ended.ensures)
    (elim (c.loop-before.invariant.refines memory lawful core known) [
      | inl forged ↦ (c.loop-before.cache, memory, inl forged)
      | inr (now, reaches, stands) ↦ (c.loop-before.cache, now, inr stands)
    ])

pub returns-in-Err-clause-fed : goal.returns-in-Err-clause-fed
returns-in-Err-clause-fed g c ways sets core stands =
    let machine = machine_of c.args.core.now c.args.files.now in
    let started = over_loaded ways c.args.image.now sets in
    let (none, cause) = c.in-Err.ensures.fed ways sets stands in
    load_halts g.W.Watch.state ways machine started c.args.lines.now c.load.new.lines c.in-Err.halted none
    (cause machine)

pub returns-clause-fed : goal.returns-clause-fed
returns-clause-fed g c ways sets core stands =
    let machine = machine_of c.args.core.now c.args.files.now in
    let next = machine_of c.loop-before.core c.loop-before.files in
    let started = over_loaded ways c.args.image.now sets in
    let first = c.loop-before.invariant.fed ways sets core stands in
    let all : c.loop-before.before ≡ c.args.budget
    = omega (arith, c.loop-before-test.false, c.loop-before.auto.before-end) in
    fed_halts g.W.Watch.state ways c.loop-before.before machine next next started c.args.lines.now c.loop-before.lines
    c.loop-before.lines c.loop-before.cache c.ended.result first
    (subst (λ (h : Halted). HaltsFed g.W.Watch.state ways c.loop-before.before next (first.1) c.loop-before.lines
    c.loop-before.lines h next) (sym c.ended.ensures)
    (subst (λ n. HaltsFed g.W.Watch.state ways c.loop-before.before next (first.1) c.loop-before.lines
    c.loop-before.lines (record {
      instructions = n;
      cycles = c.loop-before.lines.clock;
      cause = Ends Budget c.min.result;
    }) next) all
    (budget_halts g.W.Watch.state ways c.loop-before.before c.loop-before.lines.clock c.min.result next (first.1)
    c.loop-before.lines)))

pub returns-in-Err-clause-plays : goal.returns-in-Err-clause-plays
returns-in-Err-clause-plays g c config whole lawful calls is_config core budget known =
    c.in-Err.ensures.plays config whole (machine_of c.args.core.now c.args.files.now) lawful calls is_config known

pub returns-clause-plays : goal.returns-clause-plays
returns-clause-plays g c config whole lawful calls is_config core budget known =
    let e : c.args.budget ≡ c.loop-before.before =
    omega (arith, c.loop-before-test.false, c.loop-before.auto.before-end) in
    let sum : c.loop-before.before + 0 ≡ c.args.budget = omega (arith, e) in
    let next = machine_of c.loop-before.core c.loop-before.files in
    subst (λ (h : Halted). HaltsInPlay g.M.UntrustedMemory.state g.W.Watch.state g.L.LeafFn.leaf_of g.L.LeafFn.levels
    config whole h c.loop-before.lines) (sym c.ended.ensures)
    (subst (λ n. CauseInPlay g.M.UntrustedMemory.state g.W.Watch.state g.L.LeafFn.leaf_of g.L.LeafFn.levels config whole
    n
    c.loop-before.lines.clock (EndsBy Budget c.min.result) c.loop-before.lines) (sym e)
    (none_left g.M.UntrustedMemory.state g.W.Watch.state g.L.LeafFn.leaf_of g.L.LeafFn.levels config whole
    c.loop-before.before next c.loop-before.cache c.loop-before.lines c.min.result c.time.result c.time.ensures
    c.min.ensures (c.loop-before.invariant.plays config whole 0 lawful calls is_config core budget known sum)))

pub returns-in-Err-clause-spends : goal.returns-in-Err-clause-spends
returns-in-Err-clause-spends g c config levels costs ways sets core stands low known =
    let (none, fed) = c.in-Err.ensures.fed ways sets stands in
    let (first, cause) = c.in-Err.ensures.spends config levels costs low known in
    load_spends g.M.UntrustedMemory.state g.W.Watch.state g.L.LeafFn.levels config levels
    (costs + length c.args.image.now.marked.items) ways (machine_of c.args.core.now c.args.files.now)
    (over_loaded ways c.args.image.now sets) c.args.lines.now c.load.new.lines c.in-Err.halted none first cause

pub returns-clause-spends : goal.returns-clause-spends
returns-clause-spends g c config levels costs ways sets core stands low known =
    let next = machine_of c.loop-before.core c.loop-before.files in
    let all : ℕ = costs + length c.args.image.now.marked.items in
    let first = c.loop-before.invariant.spends config levels costs ways sets core stands low known in
    let done : c.loop-before.before ≡ c.args.budget
    = omega (arith, c.loop-before-test.false, c.loop-before.auto.before-end) in
    spent_halts g.M.UntrustedMemory.state g.W.Watch.state g.L.LeafFn.levels config levels all ways c.loop-before.before
    (machine_of c.args.core.now c.args.files.now) next (over_loaded ways c.args.image.now sets) c.args.lines.now
    c.loop-before.lines c.loop-before.lines c.loop-before.cache c.ended.result first
    (subst (HaltsSpent g.M.UntrustedMemory.state g.W.Watch.state g.L.LeafFn.levels config levels (all + first.total)
    ways c.loop-before.before next first.now c.loop-before.lines c.loop-before.lines) (sym c.ended.ensures)
    (subst (λ n. HaltsSpent g.M.UntrustedMemory.state g.W.Watch.state g.L.LeafFn.levels config levels
    (all + first.total) ways c.loop-before.before next first.now c.loop-before.lines c.loop-before.lines (record {
      instructions = n;
      cycles = c.loop-before.lines.clock;
      cause = Ends Budget c.min.result;
    })) done
    (budget_spends g.M.UntrustedMemory.state g.W.Watch.state g.L.LeafFn.levels config levels (all + first.total) ways
    c.loop-before.before c.min.result next first.now c.loop-before.lines first.spent)))
