use Rattle.std.proofs.Common.{◌+◌, ◌*◌, ◌∙◌, ap, arith, sym, subst, false, true, length-append}
use Rattle.std.proofs.Math.Pow.{pow_mono}
use Rattle.asc_base.specs.declared.shape.Shape.{Shape}
use Rattle.asc_base.proofs.ShapeFacts.{shape_layered}
use Rattle.bus_watch.specs.Path.{reads, writes, writes_start}
use Rattle.bus_watch.specs.Ready.{IsReady}
use Rattle.bus_watch.proofs.MadeLaws.{ready_after}
use Rattle.bus_watch.proofs.PathLaws.{length-along}
use Rattle.bus_watch.proofs.PreparedLaws.{prepared_ready}
use Rattle.unified_tree.proofs.tests.slot_and_read.Goals as goal

pub prepare-requires-clause-some : goal.prepare-requires-clause-some
prepare-requires-clause-some g c =
    let shape = c.args.shape.now in
    omega (
      arith,
      (shape_layered shape c.requires.shape).buckets,
      pow_mono {i = 1} {j = shape.levels + 1} (omega arith),
    )

pub read_path-requires-clause-ready : goal.read_path-requires-clause-ready
read_path-requires-clause-ready g c =
    let m = g.M.UntrustedMemory.state in
    let t = g.W.Watch.state in
    let shape = c.args.shape.now in
    let levels = c.args.tree.now.shape.levels in
    let leaf = c.args.leaf.0 in
    let ready = prepared_ready shape.buckets shape.levels 2 c.in-Ok.ensures.prepared
    (omega (arith, c.requires.moved, c.requires.small)) in
    let left = ready_after shape.buckets (2 * (shape.levels + 1) * 2) (6 * 2) (shape.levels + 1) 0 ready
    c.in-Ok-pass_by.ensures.ran.made
    (omega (
      arith,
      length-append (reads levels 256 leaf) (writes levels 256 leaf),
      length-along levels false 256 leaf (levels + 1),
      length-along levels true (writes_start levels 256) leaf (levels + 1),
      ap (λ (s : Shape). s.levels) c.requires.same,
    )) (omega arith) in
    subst (λ (s : Shape). IsReady s.buckets (s.levels + 1) 0 (m c.pass_by.new.bus.memory.now)
    (t c.pass_by.new.bus.tap.now))
    (sym (c.room.ensures.same.shape ∙ c.pass_by.ensures.kept.shape ∙ c.requires.same)) left
