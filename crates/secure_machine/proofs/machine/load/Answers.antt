use Rattle.std.proofs.Common.{◌≡◌, ℕ, List, [], ◌∙◌, refl, sym, subst, arith, take, ◌+◌, ◌<◌, drop, length}
use Rattle.std.proofs.lemmas.List.{take_all}
use Rattle.data_cache.specs.Cached.{StandsAs}
use Rattle.data_cache.specs.CacheLists.{Sets}
use Rattle.fed_run.specs.Answered.{feed_of}
use Rattle.fed_run.specs.Fed.{sets_along}
use Rattle.rv32_core.specs.LineList.{WholeWrite, used}
use Rattle.secure_machine.specs.Fed.{over_image, CauseFed}
use Rattle.secure_machine.proofs.FedChains.{along_more}
use Rattle.secure_machine.proofs.FedLaws.{unbegun_stops}
use Rattle.encrypted_run.specs.Refined.{loaded}
use Rattle.oram_contents.specs.Entries.{AreKeys}
use Rattle.secure_machine.specs.FlatEnds.{HaltsFlat}
use Rattle.secure_machine.specs.Refines.{Knows, CauseUnblamed}
use Rattle.secure_machine.proofs.Refining.{keys_same, loaded_more}
use Rattle.secure_machine.specs.Runs.{HaltsOver}
use Rattle.secure_machine.specs.declared.machine.Halted.{Halted}
use Rattle.secure_machine.proofs.LineChains.{onwards_then, breaks_later, onwards_none}
use Rattle.asc_base.specs.TreeShape.{olat_of}
use Rattle.play_run.specs.Given.{CallsPlay}
use Rattle.secure_machine.specs.Plays.{HaltsInPlay}
use Rattle.secure_machine.proofs.Playing.{at_same, image_first, image_next, image_stops, image_all}
use Rattle.secure_machine.specs.Spent.{ClockSpent, CauseSpent}
use Rattle.secure_machine.proofs.SpentChains.{image_limit}
use Rattle.secure_machine.proofs.SpentRuns.{line_stop_spends}
use Rattle.secure_machine.proofs.machine.load.Goals as goal

pub returns-in-Err-clause-halts : goal.returns-in-Err-clause-halts
returns-in-Err-clause-halts g c =
    subst (λ (h : Halted). HaltsOver g.M.UntrustedMemory.state g.W.Watch.state g.L.LeafFn.leaf_of g.L.LeafFn.levels
    c.args.budget h c.args.lines.now c.load_line.new.lines) (sym c.stopped.ensures)
    (breaks_later g.M.UntrustedMemory.state g.W.Watch.state g.L.LeafFn.leaf_of g.L.LeafFn.levels c.args.budget 0
    c.loop-at.lines.clock c.in-Err.stop c.args.lines.now c.loop-at.lines c.load_line.new.lines
    c.loop-at.invariant.onwards c.in-Err.ensures.breaks (λ at is some. absurd (omega (arith, some)))
    (omega arith))

pub loop-at-preserved : goal.loop-at-preserved
loop-at-preserved g c = record {
  onwards = onwards_then g.M.UntrustedMemory.state g.W.Watch.state g.L.LeafFn.leaf_of g.L.LeafFn.levels c.args.lines.now
      c.loop-at.lines c.load_line.new.lines c.loop-at.invariant.onwards c.in-Ok.ensures.onwards;
  below = c.in-Ok.ensures.below;
  refines = λ memory lawful known.
      let image = c.args.image.now.bytes.items in
      let marked = c.args.image.now.marked.items in
      subst (λ m. Knows g.M.UntrustedMemory.state g.W.Watch.state g.L.LeafFn.leaf_of g.L.LeafFn.levels
      c.load_line.new.cache m c.load_line.new.lines)
      (sym (loaded_more image marked c.loop-at.at c.index.result.now memory
      (omega (arith, c.loop-at-test.true, c.len-at-end.ensures)) c.index.ensures))
      (c.in-Ok.ensures.refines (loaded image (take c.loop-at.at marked) memory)
      (subst AreKeys (sym (keys_same g.M.UntrustedMemory.state g.W.Watch.state g.L.LeafFn.leaf_of g.L.LeafFn.levels
      c.args.lines.now c.loop-at.lines c.loop-at.invariant.onwards.same)) lawful)
      (c.loop-at.invariant.refines memory lawful known));
  fed = λ ways sets stands.
      let marked = c.args.image.now.marked.items in
      let (none, standing) = c.loop-at.invariant.fed ways sets stands in
      let (same, after) = c.in-Ok.ensures.fed ways (sets_along ways sets (used WholeWrite (take c.loop-at.at marked)))
      standing in (
        same ∙ none,
        subst (λ (l : Sets). StandsAs c.load_line.new.lines.count ways c.load_line.new.cache
            (over_image c.args.image.now l)) (sym (along_more ways sets marked c.loop-at.at c.index.result.now
            (omega (arith, c.loop-at-test.true, c.len-at-end.ensures)) c.index.ensures)) after,
      );
  plays = λ config whole machine lawful calls is_config known.
      let lines = c.args.lines.now in
      let marked = c.args.image.now.marked.items in
      let same = c.loop-at.invariant.onwards.same in
      let below : c.loop-at.at < length marked = omega (arith, c.loop-at-test.true, c.len-at-end.ensures) in
      let inside = c.requires.image.marked_below c.loop-at.at 0 below in
      image_next g.M.UntrustedMemory.state g.W.Watch.state g.L.LeafFn.leaf_of g.L.LeafFn.levels config whole
      c.loop-at.at
      c.index.result.now c.args.image.now.bytes.items machine marked c.loop-at.cache c.load_line.new.cache
      c.loop-at.lines
      c.load_line.new.lines below c.index.ensures c.requires.image.marked_rise
      (omega (arith, inside, same.count)) c.loop-at.invariant.onwards.ready is_config
      (λ limit. c.in-Ok.ensures.plays config whole machine (drop (c.loop-at.at + 1) marked) limit
      (subst AreKeys (sym (keys_same g.M.UntrustedMemory.state g.W.Watch.state g.L.LeafFn.leaf_of g.L.LeafFn.levels
      lines
      c.loop-at.lines same)) lawful)
      (at_same g.M.UntrustedMemory.state g.W.Watch.state g.L.LeafFn.leaf_of g.L.LeafFn.levels
      (λ z n. CallsPlay z n config) lines c.loop-at.lines same calls))
      (c.loop-at.invariant.plays config whole machine lawful calls is_config known);
  spends = λ config levels costs low known.
      let marked = c.args.image.now.marked.items in
      let (spent, most) = c.loop-at.invariant.spends config levels costs low known in
      let below : c.loop-at.at < length marked = omega (arith, c.loop-at-test.true, c.len-at-end.ensures) in
      let limit : ℕ = config.time + olat_of config.shape.levels + c.loop-at.at in
      let (more, bound) = c.in-Ok.ensures.spends config levels (costs + c.loop-at.at) limit (omega arith)
      (image_limit g.M.UntrustedMemory.state g.W.Watch.state g.L.LeafFn.leaf_of g.L.LeafFn.levels config
      levels (costs + c.loop-at.at) c.loop-at.at c.index.result.now marked c.loop-at.lines below c.index.ensures
      c.requires.image.marked_rise
      (omega (arith, c.requires.image.marked_below c.loop-at.at 0 below, c.loop-at.invariant.onwards.same.count))
      c.loop-at.invariant.onwards.ready spent) most spent in (
        subst (λ n. ClockSpent g.M.UntrustedMemory.state g.W.Watch.state g.L.LeafFn.levels config levels n
            c.load_line.new.lines)
            (let e : costs + c.loop-at.at + 1 ≡ costs + (c.loop-at.at + 1) = omega arith in e) more,
        omega (arith, bound),
      );
}

pub returns-clause-refines : goal.returns-clause-refines
returns-clause-refines g c memory lawful known =
    subst (λ (marked : List ℕ). Knows g.M.UntrustedMemory.state g.W.Watch.state g.L.LeafFn.leaf_of g.L.LeafFn.levels
    c.loop-at.cache (loaded c.args.image.now.bytes.items marked memory) c.loop-at.lines)
    (take_all c.loop-at.at c.args.image.now.marked.items (omega (arith, c.loop-at-test.false, c.len-at-end.ensures)))
    (c.loop-at.invariant.refines memory lawful known)

pub returns-in-Err-clause-none : goal.returns-in-Err-clause-none
returns-in-Err-clause-none g c machine memory =
    subst (λ (h : Halted). HaltsFlat 0 machine memory h machine) (sym c.stopped.ensures) (refl, refl)

pub returns-in-Err-clause-honest : goal.returns-in-Err-clause-honest
returns-in-Err-clause-honest g c memory lawful known =
    let image = c.args.image.now.bytes.items in
    let marked = c.args.image.now.marked.items in
    subst (λ (h : Halted). CauseUnblamed g.M.UntrustedMemory.state g.W.Watch.state g.L.LeafFn.leaf_of g.L.LeafFn.levels
    h.cause c.load_line.new.lines) (sym c.stopped.ensures)
    (c.in-Err.ensures.honest (loaded image (take c.loop-at.at marked) memory)
    (subst AreKeys (sym (keys_same g.M.UntrustedMemory.state g.W.Watch.state g.L.LeafFn.leaf_of g.L.LeafFn.levels
    c.args.lines.now c.loop-at.lines c.loop-at.invariant.onwards.same)) lawful)
    (c.loop-at.invariant.refines memory lawful known))

pub returns-in-Err-clause-fed : goal.returns-in-Err-clause-fed
returns-in-Err-clause-fed g c ways sets stands =
    let marked = c.args.image.now.marked.items in
    let started = over_image c.args.image.now (sets_along ways sets (used WholeWrite marked)) in
    let (none, standing) = c.loop-at.invariant.fed ways sets stands in
    let (same, after) = c.in-Err.ensures.fed ways (sets_along ways sets (used WholeWrite (take c.loop-at.at marked)))
    standing in (
      same ∙ none,
      λ machine. subst (λ (h : Halted). CauseFed ways h.instructions machine (feed_of started []) h.cause machine)
          (sym c.stopped.ensures) (unbegun_stops ways machine (feed_of started []) c.in-Err.stop refl),
    )

pub returns-clause-fed : goal.returns-clause-fed
returns-clause-fed g c ways sets stands =
    let marked = c.args.image.now.marked.items in
    let (none, standing) = c.loop-at.invariant.fed ways sets stands in (
      none,
      subst (λ (l : List ℕ). StandsAs c.loop-at.lines.count ways c.loop-at.cache
          (over_image c.args.image.now (sets_along ways sets (used WholeWrite l))))
          (take_all c.loop-at.at marked (omega (arith, c.loop-at-test.false, c.len-at-end.ensures))) standing,
    )

pub loop-at-init : goal.loop-at-init
loop-at-init g c = record {
  onwards = onwards_none g.M.UntrustedMemory.state g.W.Watch.state g.L.LeafFn.leaf_of g.L.LeafFn.levels c.args.lines.now
      c.requires.ready;
  below = c.requires.below;
  refines = λ memory lawful known. known;
  fed = λ ways sets stands. (refl, stands);
  plays = λ config whole machine lawful calls is_config known.
      image_first g.M.UntrustedMemory.state g.W.Watch.state g.L.LeafFn.leaf_of g.L.LeafFn.levels config whole 0
      (config.time + olat_of config.shape.levels + 0) c.args.image.now.bytes.items machine
      c.args.image.now.marked.items c.args.cache.now c.args.lines.now (omega arith) known;
  spends = λ config levels costs low known. (
    subst (λ n. ClockSpent g.M.UntrustedMemory.state g.W.Watch.state g.L.LeafFn.levels config levels n c.args.lines.now)
        (let e : costs ≡ costs + 0 = omega arith in e) known,
    omega (arith, low),
  );
}

pub returns-in-Err-clause-plays : goal.returns-in-Err-clause-plays
returns-in-Err-clause-plays g c config whole machine lawful calls is_config known =
    let lines = c.args.lines.now in
    let marked = c.args.image.now.marked.items in
    let same = c.loop-at.invariant.onwards.same in
    let below : c.loop-at.at < length marked = omega (arith, c.loop-at-test.true, c.len-at-end.ensures) in
    let inside = c.requires.image.marked_below c.loop-at.at 0 below in
    subst (λ (h : Halted). HaltsInPlay g.M.UntrustedMemory.state g.W.Watch.state g.L.LeafFn.leaf_of g.L.LeafFn.levels
    config whole h c.load_line.new.lines) (sym c.stopped.ensures)
    (image_stops g.M.UntrustedMemory.state g.W.Watch.state g.L.LeafFn.leaf_of g.L.LeafFn.levels config whole
    c.loop-at.at
    c.index.result.now c.args.image.now.bytes.items machine marked c.loop-at.cache c.loop-at.lines
    c.load_line.new.lines c.in-Err.stop below c.index.ensures c.requires.image.marked_rise
    (omega (arith, inside, same.count)) c.loop-at.invariant.onwards.ready is_config
    (λ limit. c.in-Err.ensures.plays config whole machine (drop (c.loop-at.at + 1) marked) limit
    (subst AreKeys (sym (keys_same g.M.UntrustedMemory.state g.W.Watch.state g.L.LeafFn.leaf_of g.L.LeafFn.levels lines
    c.loop-at.lines same)) lawful)
    (at_same g.M.UntrustedMemory.state g.W.Watch.state g.L.LeafFn.leaf_of g.L.LeafFn.levels
    (λ z n. CallsPlay z n config) lines c.loop-at.lines same calls))
    (c.loop-at.invariant.plays config whole machine lawful calls is_config known))

pub returns-clause-plays : goal.returns-clause-plays
returns-clause-plays g c config whole machine lawful calls is_config known =
    image_all g.M.UntrustedMemory.state g.W.Watch.state g.L.LeafFn.leaf_of g.L.LeafFn.levels config whole
    (config.time + olat_of config.shape.levels + c.loop-at.at) c.loop-at.at c.args.image.now.bytes.items machine
    c.args.image.now.marked.items c.loop-at.cache c.loop-at.lines
    (omega (arith, c.loop-at-test.false, c.loop-at.auto.at-end, c.len-at-end.ensures))
    (c.loop-at.invariant.plays config whole machine lawful calls is_config known)

pub returns-in-Err-clause-spends : goal.returns-in-Err-clause-spends
returns-in-Err-clause-spends g c config levels costs low known =
    let marked = c.args.image.now.marked.items in
    let (spent, most) = c.loop-at.invariant.spends config levels costs low known in
    let below : c.loop-at.at < length marked = omega (arith, c.loop-at-test.true, c.len-at-end.ensures) in
    let limit : ℕ = config.time + olat_of config.shape.levels + c.loop-at.at in
    let stopped = c.in-Err.ensures.spends config levels (costs + c.loop-at.at) limit (omega arith)
    (image_limit g.M.UntrustedMemory.state g.W.Watch.state g.L.LeafFn.leaf_of g.L.LeafFn.levels config levels
    (costs + c.loop-at.at) c.loop-at.at c.index.result.now marked c.loop-at.lines below c.index.ensures
    c.requires.image.marked_rise
    (omega (arith, c.requires.image.marked_below c.loop-at.at 0 below, c.loop-at.invariant.onwards.same.count))
    c.loop-at.invariant.onwards.ready spent) most spent in
    subst (λ (h : Halted). (h.instructions ≡ 0) × CauseSpent g.M.UntrustedMemory.state g.W.Watch.state g.L.LeafFn.levels
    config levels (costs + length marked) h.instructions h.cycles h.cause c.load_line.new.lines)
    (sym c.stopped.ensures) (
      refl,
      line_stop_spends g.M.UntrustedMemory.state g.W.Watch.state g.L.LeafFn.levels config levels (costs + c.loop-at.at)
          (costs + length marked) c.loop-at.lines.clock c.in-Err.stop c.load_line.new.lines (omega (arith, below))
          stopped,
    )

pub returns-clause-spends : goal.returns-clause-spends
returns-clause-spends g c config levels costs low known =
    let marked = c.args.image.now.marked.items in
    let all : c.loop-at.at ≡ length marked =
    omega (arith, c.loop-at-test.false, c.loop-at.auto.at-end, c.len-at-end.ensures) in
    subst (λ n. ClockSpent g.M.UntrustedMemory.state g.W.Watch.state g.L.LeafFn.levels config levels (costs + n)
    c.loop-at.lines) all (c.loop-at.invariant.spends config levels costs low known).0
