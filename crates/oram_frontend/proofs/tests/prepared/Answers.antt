use Rattle.std.proofs.Common.{◌≡◌, ◌≤◌, ◌∙◌, ◌+◌, ◌*◌, ap, subst, arith}
use Rattle.std.proofs.lemmas.Nat.{mul-le}
use Rattle.std.proofs.Math.Pow.{pow_mono}
use Rattle.asc_base.proofs.ShapeFacts.{shape_layered}
use Rattle.bus_watch.proofs.PreparedLaws.{prepared_ready}
use Rattle.bus_watch.specs.Log.{LogLists}
use Rattle.bus_watch.specs.Ready.{IsReady}
use Rattle.oram_frontend.proofs.tests.prepared.Goals as goal

pub prepare-requires-clause-some : goal.prepare-requires-clause-some
prepare-requires-clause-some g c =
    let shape = c.args.config.now.shape in
    omega (
      arith,
      (shape_layered shape c.requires.config.is_shape).buckets,
      pow_mono {i = 1} {j = shape.levels + 1} (omega arith),
    )

pub returns-clause-rests : goal.returns-clause-rests
returns-clause-rests g c =
    let p = c.in-Ok-prepare.ensures.prepared in
    let shape = c.args.config.now.shape in
    let log = p.log in
    let time = subst (λ n. c.args.config.now.time ≤ 64 + c.args.slots * n) c.olat-olat.ensures
    (let within : c.args.config.now.time ≤ 64 + c.args.slots * c.olat-olat.result = omega arith in within) in
    let levels = (shape_layered shape c.requires.config.is_shape).levels_to in
    let few : 2 * (shape.levels + 1) * c.args.slots ≤ 36 * 1000 =
    mul-le (2 * (shape.levels + 1)) c.args.slots 36 1000 (omega (arith, levels)) (omega arith) in
    let m = g.M.UntrustedMemory.state c.prepare.new.self.memory.now in
    let t = g.W.Watch.state c.prepare.new.self.tap.now in
    let none : 6 * c.args.slots ≡ 6 * c.args.slots + 0 = omega arith in
    c.new-in-Ok-prepare.ensures.rests 0 c.args.slots m t (ap (λ (x : LogLists). x.events) log ∙ c.requires.events)
    (ap (λ (x : LogLists). x.moves) log ∙ c.requires.moves) time
    (subst (λ n. IsReady shape.buckets (2 * (shape.levels + 1) * c.args.slots) n m t) none
    (prepared_ready shape.buckets shape.levels c.args.slots p (omega arith)))
