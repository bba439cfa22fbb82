use Rattle.std.proofs.Common.{◌≡◌, ◌++◌, ◌∙◌, ℕ, ◌+◌, inl, inr, length, refl, sym, ap, subst, arith}
use Rattle.data_cache.specs.Cached.{StandsAs}
use Rattle.encrypted_run.specs.Refined.{loaded}
use Rattle.fed_run.specs.Answered.{feed_of}
use Rattle.oram_contents.specs.Entries.{AreKeys}
use Rattle.rv32_core.specs.StepPlan.{machine_of}
use Rattle.secure_machine.specs.Answered.{answered_lines}
use Rattle.secure_machine.specs.Home.{EndsAtHome}
use Rattle.secure_machine.specs.Judged.{EndsReplayed}
use Rattle.secure_machine.specs.Fed.{over_image, over_loaded, CauseFed}
use Rattle.secure_machine.proofs.LineChains.{same_then, halts_replayed}
use Rattle.secure_machine.proofs.Refining.{keys_same, at_parts, keys_by, forged_first, StandBy}
use Rattle.play_run.specs.Given.{CallsPlay}
use Rattle.secure_machine.proofs.Playing.{at_same, begins, halts_config, ended_first}
use Rattle.play_run.specs.Spent.{fed_cost, waits}
use Rattle.secure_machine.specs.Spent.{EndsSpent}
use Rattle.secure_machine.proofs.SpentRuns.{clock_begins}
use Rattle.secure_machine.proofs.machine.drive.Goals as goal

pub returns-clause-refines : goal.returns-clause-refines
returns-clause-refines g c memory lawful core stands =
    let keys = keys_by g.M.UntrustedMemory.state g.W.Watch.state g.L.LeafFn.leaf_of g.L.LeafFn.levels in
    let same = c.play-halted.ensures.halts.same in
    let lawful_first = subst (λ o. AreKeys (keys o)) (sym c.new-lines.ensures.oram) lawful in
    let stands_first = at_parts g.M.UntrustedMemory.state g.W.Watch.state g.L.LeafFn.leaf_of g.L.LeafFn.levels
    (StandBy g.M.UntrustedMemory.state g.W.Watch.state g.L.LeafFn.leaf_of g.L.LeafFn.levels c.args.cache.now memory)
    c.new-lines.result c.args.oram.now c.args.bus.now.memory.now c.args.bus.now.tap.now c.new-lines.ensures.memory
    c.new-lines.ensures.tap c.new-lines.ensures.oram stands in
    elim (c.in_ok-ending.ensures.refines (machine_of c.args.core.now c.args.files.now)
    (machine_of c.play-halted.new.core c.play-halted.new.files)
    (loaded c.args.image.now.bytes.items c.args.image.now.marked.items memory)
    (subst AreKeys (sym (keys_same g.M.UntrustedMemory.state g.W.Watch.state g.L.LeafFn.leaf_of g.L.LeafFn.levels
    c.new-lines.result c.play-halted.new.lines same)) lawful_first)
    (c.play-halted.ensures.refines memory lawful_first core (inr stands_first))) [
      | inl forged ↦ inl (forged_first g.M.UntrustedMemory.state g.W.Watch.state g.L.LeafFn.leaf_of g.L.LeafFn.levels
          c.new-lines.result c.finish.new.lines c.args.oram.now c.new-lines.ensures.oram
          (same_then same c.finish.ensures.same) forged)
      | inr flat ↦ inr flat
    ]

pub returns-clause-honest : goal.returns-clause-honest
returns-clause-honest g c memory lawful core stands =
    let keys = keys_by g.M.UntrustedMemory.state g.W.Watch.state g.L.LeafFn.leaf_of g.L.LeafFn.levels in
    let same = c.play-halted.ensures.halts.same in
    let lawful_first = subst (λ o. AreKeys (keys o)) (sym c.new-lines.ensures.oram) lawful in
    let stands_first = at_parts g.M.UntrustedMemory.state g.W.Watch.state g.L.LeafFn.leaf_of g.L.LeafFn.levels
    (StandBy g.M.UntrustedMemory.state g.W.Watch.state g.L.LeafFn.leaf_of g.L.LeafFn.levels c.args.cache.now memory)
    c.new-lines.result c.args.oram.now c.args.bus.now.memory.now c.args.bus.now.tap.now c.new-lines.ensures.memory
    c.new-lines.ensures.tap c.new-lines.ensures.oram stands in
    c.in_ok-ending.ensures.honest
    (subst AreKeys (sym (keys_same g.M.UntrustedMemory.state g.W.Watch.state g.L.LeafFn.leaf_of g.L.LeafFn.levels
    c.new-lines.result c.play-halted.new.lines same)) lawful_first)
    (c.play-halted.ensures.honest memory lawful_first core (inr stands_first))

-- the points of a run that was driven, whether it was answered or wanted memory
pub returns-clause-points : goal.returns-clause-points
returns-clause-points g c memory lawful core stands =
    let keys = keys_by g.M.UntrustedMemory.state g.W.Watch.state g.L.LeafFn.leaf_of g.L.LeafFn.levels in
    let same = c.play-halted.ensures.halts.same in
    let lawful_first = subst (λ o. AreKeys (keys o)) (sym c.new-lines.ensures.oram) lawful in
    let stands_first = at_parts g.M.UntrustedMemory.state g.W.Watch.state g.L.LeafFn.leaf_of g.L.LeafFn.levels
    (StandBy g.M.UntrustedMemory.state g.W.Watch.state g.L.LeafFn.leaf_of g.L.LeafFn.levels c.args.cache.now memory)
    c.new-lines.result c.args.oram.now c.args.bus.now.memory.now c.args.bus.now.tap.now c.new-lines.ensures.memory
    c.new-lines.ensures.tap c.new-lines.ensures.oram stands in
    elim (c.finish.ensures.points
    (subst AreKeys (sym (keys_same g.M.UntrustedMemory.state g.W.Watch.state g.L.LeafFn.leaf_of g.L.LeafFn.levels
    c.new-lines.result c.play-halted.new.lines same)) lawful_first)
    (c.play-halted.ensures.honest memory lawful_first core (inr stands_first))) [
      | inl forged ↦ inl (forged_first g.M.UntrustedMemory.state g.W.Watch.state g.L.LeafFn.leaf_of g.L.LeafFn.levels
          c.new-lines.result c.finish.new.lines c.args.oram.now c.new-lines.ensures.oram
          (same_then same c.finish.ensures.same) forged)
      | inr once ↦ inr once
    ]

pub returns-in_err-ending-clause-points : goal.returns-in_err-ending-clause-points
returns-in_err-ending-clause-points g c memory lawful core stands =
    let keys = keys_by g.M.UntrustedMemory.state g.W.Watch.state g.L.LeafFn.leaf_of g.L.LeafFn.levels in
    let same = c.play-halted.ensures.halts.same in
    let lawful_first = subst (λ o. AreKeys (keys o)) (sym c.new-lines.ensures.oram) lawful in
    let stands_first = at_parts g.M.UntrustedMemory.state g.W.Watch.state g.L.LeafFn.leaf_of g.L.LeafFn.levels
    (StandBy g.M.UntrustedMemory.state g.W.Watch.state g.L.LeafFn.leaf_of g.L.LeafFn.levels c.args.cache.now memory)
    c.new-lines.result c.args.oram.now c.args.bus.now.memory.now c.args.bus.now.tap.now c.new-lines.ensures.memory
    c.new-lines.ensures.tap c.new-lines.ensures.oram stands in
    elim (c.finish.ensures.points
    (subst AreKeys (sym (keys_same g.M.UntrustedMemory.state g.W.Watch.state g.L.LeafFn.leaf_of g.L.LeafFn.levels
    c.new-lines.result c.play-halted.new.lines same)) lawful_first)
    (c.play-halted.ensures.honest memory lawful_first core (inr stands_first))) [
      | inl forged ↦ inl (forged_first g.M.UntrustedMemory.state g.W.Watch.state g.L.LeafFn.leaf_of g.L.LeafFn.levels
          c.new-lines.result c.finish.new.lines c.args.oram.now c.new-lines.ensures.oram
          (same_then same c.finish.ensures.same) forged)
      | inr once ↦ inr once
    ]

pub returns-clause-fed : goal.returns-clause-fed
returns-clause-fed g c ways sets core stands =
    let machine = machine_of c.args.core.now c.args.files.now in
    let last = machine_of c.play-halted.new.core c.play-halted.new.files in
    let started = over_loaded ways c.args.image.now sets in
    let (lines, k, (more, whole), count, cause) = c.play-halted.ensures.fed ways sets core
    (subst (λ n. StandsAs n ways c.args.cache.now (over_image c.args.image.now sets)) (sym c.new-lines.ensures.count)
    stands) in
    let all : k ≡ c.play-halted.result.instructions = omega (arith, count) in (
      lines,
      c.finish.ensures.noted ∙ (more
          ∙ ap (λ w. answered_lines (g.W.Watch.state w).log.events ++ lines) c.new-lines.ensures.tap),
      c.in_ok-ending.ensures.fed ways machine last (feed_of started lines)
          (subst (λ n. CauseFed ways n machine (feed_of started lines) c.play-halted.result.cause last) all cause),
    )

pub returns-clause-plays : goal.returns-clause-plays
returns-clause-plays g c config whole lawful calls is_config core budget port stands =
    let keys = keys_by g.M.UntrustedMemory.state g.W.Watch.state g.L.LeafFn.leaf_of g.L.LeafFn.levels in
    let lines = c.new-lines.result in
    let played = c.play-halted.new.lines in
    let same = c.play-halted.ensures.halts.same in
    let lawful_first = subst (λ o. AreKeys (keys o)) (sym c.new-lines.ensures.oram) lawful in
    let calls_first = subst (λ o. CallsPlay (keys o) (g.L.LeafFn.levels o.port.leaves) config)
    (sym c.new-lines.ensures.oram) calls in
    let begun = begins g.M.UntrustedMemory.state g.W.Watch.state g.L.LeafFn.leaf_of g.L.LeafFn.levels config whole
    c.args.image.now.bytes.items (machine_of c.args.core.now c.args.files.now) c.args.image.now.marked.items
    c.args.cache.now lines c.args.oram.now c.args.bus.now.memory.now c.args.bus.now.tap.now
    c.new-lines.ensures.memory c.new-lines.ensures.tap c.new-lines.ensures.oram c.new-lines.ensures.clock
    c.new-lines.ensures.fetches stands in
    let halted = c.play-halted.ensures.plays config whole lawful_first calls_first is_config core budget begun in
    let settings = halts_config g.M.UntrustedMemory.state g.W.Watch.state g.L.LeafFn.leaf_of g.L.LeafFn.levels
    c.args.budget
    c.play-halted.result lines played c.args.oram.now c.new-lines.ensures.oram c.play-halted.ensures.halts ∙ port in
    ended_first g.M.UntrustedMemory.state g.W.Watch.state g.L.LeafFn.leaf_of g.L.LeafFn.levels config whole _ _ _ _
    lines
    c.finish.new.lines c.args.oram.now c.new-lines.ensures.oram (same_then same c.finish.ensures.same)
    (c.in_ok-ending.ensures.plays config whole
    (subst AreKeys (sym (keys_same g.M.UntrustedMemory.state g.W.Watch.state g.L.LeafFn.leaf_of g.L.LeafFn.levels lines
    played
    same)) lawful_first)
    (at_same g.M.UntrustedMemory.state g.W.Watch.state g.L.LeafFn.leaf_of g.L.LeafFn.levels (λ z n. CallsPlay z n
    config)
    lines played same calls_first) settings halted)

pub returns-clause-replays : goal.returns-clause-replays
returns-clause-replays g c =
    let tap = g.W.Watch.state c.finish.new.lines.tap.now in
    halts_replayed g.M.UntrustedMemory.state g.W.Watch.state g.L.LeafFn.leaf_of g.L.LeafFn.levels
    (λ keys stash. EndsReplayed keys stash c.in_ok-ending.ending tap) c.args.budget c.play-halted.result
    c.new-lines.result c.play-halted.new.lines c.args.oram.now c.args.bus.now.memory.now c.args.bus.now.tap.now
    c.new-lines.ensures.memory c.new-lines.ensures.tap c.new-lines.ensures.oram c.play-halted.ensures.halts
    c.in_ok-ending.ensures.replays

pub returns-clause-spends : goal.returns-clause-spends
returns-clause-spends g c ways sets core stands known =
    let config = c.args.oram.now.port.clock.config in
    let levels = g.L.LeafFn.levels c.args.oram.now.port.leaves in
    let machine = machine_of c.args.core.now c.args.files.now in
    let started = over_loaded ways c.args.image.now sets in
    let halted = c.play-halted.result in
    let log = (g.W.Watch.state c.finish.new.lines.tap.now).log in
    let begun = clock_begins g.M.UntrustedMemory.state g.W.Watch.state g.L.LeafFn.levels config levels
    c.new-lines.result c.args.oram.now c.args.bus.now.memory.now c.args.bus.now.tap.now c.new-lines.ensures.memory
    c.new-lines.ensures.tap c.new-lines.ensures.oram c.new-lines.ensures.clock c.new-lines.ensures.fetches refl refl
    known in
    let (lines, k, (more, whole), count, cause) = c.play-halted.ensures.spends config levels 0 ways sets core
    (subst (λ n. StandsAs n ways c.args.cache.now (over_image c.args.image.now sets)) (sym c.new-lines.ensures.count)
    stands) (omega (arith, c.new-lines.ensures.clock)) begun in
    let all : k ≡ halted.instructions = omega (arith, count) in
    let marked : ℕ = length c.args.image.now.marked.items in
    let e : 0 + marked + fed_cost ways k machine (feed_of started lines)
    ≡ marked + fed_cost ways halted.instructions machine (feed_of started lines) =
    (let none : 0 + marked ≡ marked = omega arith in
    ap (λ m. m + fed_cost ways k machine (feed_of started lines)) none
    ∙ ap (λ n. marked + fed_cost ways n machine (feed_of started lines)) all) in (
      lines,
      c.finish.ensures.noted ∙ (more
          ∙ ap (λ w. answered_lines (g.W.Watch.state w).log.events ++ lines) c.new-lines.ensures.tap),
      subst (λ n. EndsSpent config levels (n + waits levels log) halted.instructions halted.cycles
          c.in_ok-ending.ending) e
          (c.in_ok-ending.ensures.spends config levels _ cause),
    )

pub returns-clause-home : goal.returns-clause-home
returns-clause-home g c config whole lawful calls is_config core budget stands =
    let keys = keys_by g.M.UntrustedMemory.state g.W.Watch.state g.L.LeafFn.leaf_of g.L.LeafFn.levels in
    let lines = c.new-lines.result in
    let played = c.play-halted.new.lines in
    let same = c.play-halted.ensures.halts.same in
    let lawful_first = subst (λ o. AreKeys (keys o)) (sym c.new-lines.ensures.oram) lawful in
    let calls_first = subst (λ o. CallsPlay (keys o) (g.L.LeafFn.levels o.port.leaves) config)
    (sym c.new-lines.ensures.oram) calls in
    let begun = begins g.M.UntrustedMemory.state g.W.Watch.state g.L.LeafFn.leaf_of g.L.LeafFn.levels config whole
    c.args.image.now.bytes.items (machine_of c.args.core.now c.args.files.now) c.args.image.now.marked.items
    c.args.cache.now lines c.args.oram.now c.args.bus.now.memory.now c.args.bus.now.tap.now
    c.new-lines.ensures.memory c.new-lines.ensures.tap c.new-lines.ensures.oram c.new-lines.ensures.clock
    c.new-lines.ensures.fetches stands in
    let halted = c.play-halted.ensures.plays config whole lawful_first calls_first is_config core budget begun in
    let log = (g.W.Watch.state c.finish.new.lines.tap.now).log in
    halts_replayed g.M.UntrustedMemory.state g.W.Watch.state g.L.LeafFn.leaf_of g.L.LeafFn.levels
    (λ keys stash. EndsAtHome keys config whole c.play-halted.result.instructions c.play-halted.result.cycles
    c.in_ok-ending.ending log) c.args.budget c.play-halted.result
    lines played c.args.oram.now c.args.bus.now.memory.now c.args.bus.now.tap.now
    c.new-lines.ensures.memory c.new-lines.ensures.tap c.new-lines.ensures.oram c.play-halted.ensures.halts
    (λ calls cause. c.in_ok-ending.ensures.home config whole
    (subst AreKeys (sym (keys_same g.M.UntrustedMemory.state g.W.Watch.state g.L.LeafFn.leaf_of g.L.LeafFn.levels lines
    played same)) lawful_first) halted calls cause c.play-halted.ensures.halts.late)
