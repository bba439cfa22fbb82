use Rattle.std.proofs.Common.{subst, inr, arith}
use Rattle.rate_enforcer.proofs.StateLaws.{opens_less, ran_on, stops_on}
use Rattle.unified_tree.specs.Slot.{contents_of}
use Rattle.rate_enforcer.specs.Breaks.{WriteStops}
use Rattle.rate_enforcer.specs.Served.{keys_of}
use Rattle.rate_enforcer.proofs.Breaks.{dummy_stops}
use Rattle.rate_enforcer.proofs.Contents.{dummy_of}
use Rattle.rate_enforcer.proofs.port.Port.dummy.Goals as goal

pub close-requires : goal.close-requires
close-requires g c = record { opens = opens_less 0 (omega arith) (c.in-Ok.ensures.opens 0 c.requires.rests) }

pub returns-in-Err-close-clause-ran_err : goal.returns-in-Err-close-clause-ran_err
returns-in-Err-close-clause-ran_err g c =
    stops_on g.M.UntrustedMemory.state g.W.Watch.state c.in-Ok.ensures.ran c.in-Err-close.ensures.ran_err

pub returns-clause-rests : goal.returns-clause-rests
returns-clause-rests g c notes r =
    c.in-Ok-close.ensures.rests notes (opens_less notes (omega arith) (c.in-Ok.ensures.opens notes r))

pub returns-clause-ran : goal.returns-clause-ran
returns-clause-ran g c =
    ran_on g.M.UntrustedMemory.state g.W.Watch.state c.in-Ok.ensures.ran c.in-Ok-close.ensures.ran

pub returns-clause-passed : goal.returns-clause-passed
returns-clause-passed g c tags =
    let t = g.W.Watch.state in
    dummy_of c.args.self.now.tree c.begin.new.self.tree c.close.new.self.tree tags
    (g.L.LeafFn.leaf_of c.args.self.now.leaves) c.args.self.now.clock.next c.args.self.now.clock.dummies
    c.in-Ok.slot.leaf.0 (t c.args.bus.now.tap.now) (t c.begin.new.bus.tap.now) (t c.close.new.bus.tap.now)
    c.begin.ensures.kept c.in-Ok.ensures.leaf c.begin.ensures.seed c.begin.ensures.mirror (c.in-Ok.ensures.read tags)
    c.in-Ok.ensures.noted c.in-Ok-close.ensures.written c.in-Ok-close.ensures.ended

pub returns-in-Err-close-clause-breaks : goal.returns-in-Err-close-clause-breaks
returns-in-Err-close-clause-breaks g c tags =
    let t = g.W.Watch.state in
    let leaf_of = g.L.LeafFn.leaf_of in
    let w = subst (λ x. WriteStops (keys_of c.begin.new.self.tree tags (leaf_of x)) c.begin.new.self.tree.stash
    c.in-Err-close.stop (t c.begin.new.bus.tap.now).log (t c.close.new.bus.tap.now).log
    (contents_of c.begin.new.self.tree (t c.begin.new.bus.tap.now))
    (contents_of c.close.new.self.tree (t c.close.new.bus.tap.now)) c.in-Ok.slot.start c.in-Ok.slot.leaf.0)
    c.begin.ensures.leaves (c.in-Err-close.ensures.breaks tags) in
    let w2 = subst (λ n. WriteStops (keys_of c.begin.new.self.tree tags (leaf_of c.args.self.now.leaves))
    c.begin.new.self.tree.stash c.in-Err-close.stop (t c.begin.new.bus.tap.now).log (t c.close.new.bus.tap.now).log
    (contents_of c.begin.new.self.tree (t c.begin.new.bus.tap.now))
    (contents_of c.close.new.self.tree (t c.close.new.bus.tap.now)) n c.in-Ok.slot.leaf.0) c.in-Ok.ensures.start w in
    inr (dummy_stops c.args.self.now.tree c.begin.new.self.tree c.close.new.self.tree tags
    (leaf_of c.args.self.now.leaves) c.in-Err-close.stop c.args.self.now.clock.next c.args.self.now.clock.dummies
    c.in-Ok.slot.leaf.0 (t c.args.bus.now.tap.now) (t c.begin.new.bus.tap.now) (t c.close.new.bus.tap.now)
    c.begin.ensures.kept c.in-Ok.ensures.leaf c.begin.ensures.seed c.begin.ensures.mirror (c.in-Ok.ensures.read tags)
    c.in-Ok.ensures.noted c.in-Ok.ensures.moves w2)
