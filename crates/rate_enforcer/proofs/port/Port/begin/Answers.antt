use Rattle.std.proofs.Common.{◌≡◌, ◌∙◌, ◌+◌, ◌<◌, ◌^◌, ◌∷◌, [], Some, ℕ, refl, ap, sym, subst, inl}
use Rattle.asc_base.specs.declared.shape.Shape.{Shape}
use Rattle.asc_base.specs.declared.stop.Stop.{Stop}
use Rattle.bus_watch.specs.RunEnd.{Whole}
use Rattle.bus_watch.specs.Path.{reads}
use Rattle.bus_watch.specs.declared.log.Event.TheVariants.{Access, Drawn}
use Rattle.bus_watch.proofs.MadeLaws.{made_then, silent_events, ran_none, ran_then}
use Rattle.unified_tree.specs.Tree.{TreeState, IsSameTree}
use Rattle.unified_tree.specs.Slot.{contents_of}
use Rattle.rate_enforcer.specs.Breaks.{ReadStops}
use Rattle.rate_enforcer.specs.Served.{keys_of}
use Rattle.rate_enforcer.specs.Clock.{with_dummy, with_real}
use Rattle.rate_enforcer.specs.State.{Opens, Stopped}
use Rattle.rate_enforcer.specs.Stops.{RanStop}
use Rattle.rate_enforcer.specs.declared.clock.Clock.{Clock}
use Rattle.oram_stash.specs.Entries.{AreApart}
use Rattle.rate_enforcer.proofs.Contents.{read_apart}
use Rattle.rate_enforcer.proofs.StateLaws.{begun, ready_begun, opened, no_room, read_stops, read_stopped}
use Rattle.rate_enforcer.proofs.StateLaws.{few_dummies, few_real}
use Rattle.rate_enforcer.proofs.Breaks.{moves_read, read_breaks, same_contents}
use Rattle.rate_enforcer.proofs.Contents.{two_events, slot_read}
use Rattle.rate_enforcer.proofs.Counted.{counted_begun, counted_still}
use Rattle.rate_enforcer.proofs.Breaks.{read_silent}
use Rattle.rate_enforcer.proofs.WholeSlots.{rests_whole}
use Rattle.rate_enforcer.proofs.port.Port.begin.Goals as goal

-- the leaf of a point is one of the tree
drawn_below : (leaf drawn levels wanted : ℕ) → drawn ≡ leaf → levels ≡ wanted → drawn < 2 ^ levels → leaf < 2 ^ wanted
drawn_below leaf drawn levels wanted is same below =
    subst (λ n. n < 2 ^ wanted) is (subst (λ n. drawn < 2 ^ n) same below)

pub returns-in-Err-clause-ran_err : goal.returns-in-Err-clause-ran_err
returns-in-Err-clause-ran_err g c = record {
  end = Whole;
  is_end = inl refl;
  ran = record {
    moves = [];
    events = [];
    ran = ran_none g.M.UntrustedMemory.state g.W.Watch.state c.args.bus.now;
  };
}

pub returns-in-Err-clause-stopped : goal.returns-in-Err-clause-stopped
returns-in-Err-clause-stopped g c = no_room c.stop_at.new.self.clock c.requires.rests c.stop_at.ensures.clock

pub read_path-requires-clause-ready : goal.read_path-requires-clause-ready
read_path-requires-clause-ready g c =
    let b = begun c.args.asked c.args.point c.leaf-leaf.result (g.W.Watch.state c.note.new.self.tap.now).log
    c.requires.rests c.requires.early c.requires.first
    c.note.ensures.log c.note-2.ensures.log (made_then c.note.ensures.ran.made c.note-2.ensures.ran.made) in
    ready_begun c.room.new.self.shape b (c.room.ensures.same.shape ∙ c.requires.rests.is_for.shape)

pub returns-in-Ok-read_path-clause-opens : goal.returns-in-Ok-read_path-clause-opens
returns-in-Ok-read_path-clause-opens g c notes rests =
    let b = begun c.args.asked c.args.point c.leaf-leaf.result (g.W.Watch.state c.note.new.self.tap.now).log rests
    c.requires.early c.requires.first
    c.note.ensures.log c.note-2.ensures.log (made_then c.note.ensures.ran.made c.note-2.ensures.ran.made) in
    let one = c.room.ensures.same in
    let two = c.read_path.ensures.kept in
    let kept : IsSameTree c.args.self.now.tree c.read_path.new.self = record {
      shape = two.shape ∙ one.shape;
      stash = two.stash ∙ one.stash;
      key = two.key ∙ one.key;
    } in
    let clock = c.args.self.now.clock in
    let d = with_dummy c.args.asked clock.dummies in
    let r = with_real c.args.asked clock.real in
    subst (λ (x : Clock). Opens (notes + 3) x (record { start = clock.next; leaf = c.leaf-leaf.result })
    c.read_path.new.self (g.L.LeafFn.levels c.args.self.now.leaves)
    (g.M.UntrustedMemory.state c.read_path.new.bus.memory.now) (g.W.Watch.state c.read_path.new.bus.tap.now))
    (sym c.count.ensures)
    (opened c.read_path.new.self c.leaf-leaf.result c.saw.new.self d r c.room.new.self.shape rests c.requires.early
    c.saw.ensures.after b c.leaf-leaf.ensures.below (one.shape ∙ rests.is_for.shape) c.in-Ok-read_path.ensures.ran.made
    kept (c.read_path.ensures.seed ∙ c.room.ensures.seed) c.in-Ok-read_path.ensures.path
    (few_dummies c.args.asked clock.dummies clock.next rests.dummies)
    (few_real c.args.asked clock.real clock.next rests.real)
    (read_apart c.room.new.self.key c.room.new.self.shape c.leaf-leaf.result.0 _ c.room.new.self.hand
    c.read_path.new.self.hand c.in-Ok-read_path.ensures.read.says (subst AreApart
    (sym c.room.ensures.hand) rests.is_for.apart)))

pub returns-in-Ok-read_path-clause-ran : goal.returns-in-Ok-read_path-clause-ran
returns-in-Ok-read_path-clause-ran g c =
    let m = g.M.UntrustedMemory.state in
    let t = g.W.Watch.state in
    let start = c.args.self.now.clock.next in
    record {
      moves = reads c.room.new.self.shape.levels start c.leaf-leaf.result.0;
      events = Access start c.args.asked ∷ Drawn c.args.point c.leaf-leaf.result ∷ [];
      ran = ran_then m t (ran_then m t c.note.ensures.ran c.note-2.ensures.ran) c.in-Ok-read_path.ensures.ran;
    }

pub returns-in-Err-read_path-clause-ran_err : goal.returns-in-Err-read_path-clause-ran_err
returns-in-Err-read_path-clause-ran_err g c =
    let m = g.M.UntrustedMemory.state in
    let t = g.W.Watch.state in
    let start = c.args.self.now.clock.next in
    subst (λ (x : Stop). RanStop m t x c.args.bus.now c.read_path.new.bus) (sym c.stop_of-stop.ensures)
    (read_stops m t start c.leaf-leaf.result.0 c.in-Err-read_path.stop c.room.new.self c.read_path.new.self
    (record {
      moves = [];
      events = Access start c.args.asked ∷ Drawn c.args.point c.leaf-leaf.result ∷ [];
      ran = ran_then m t c.note.ensures.ran c.note-2.ensures.ran;
    }) c.in-Err-read_path.ensures.ran)

pub returns-in-Err-read_path-clause-stopped : goal.returns-in-Err-read_path-clause-stopped
returns-in-Err-read_path-clause-stopped g c =
    let m = g.M.UntrustedMemory.state in
    let t = g.W.Watch.state in
    let clock = c.args.self.now.clock in
    let b = begun c.args.asked c.args.point c.leaf-leaf.result (g.W.Watch.state c.note.new.self.tap.now).log
    c.requires.rests c.requires.early c.requires.first
    c.note.ensures.log c.note-2.ensures.log (made_then c.note.ensures.ran.made c.note-2.ensures.ran.made) in
    let d = with_dummy c.args.asked clock.dummies in
    let r = with_real c.args.asked clock.real in
    let make = λ (x : Clock) (n : ℕ) (s : Stop). let k : Clock = record x { last = n; stop = Some s } in k in
    let is = c.stop_at-in-Err-read_path.ensures.clock
    ∙ ap (λ x. make x c.ended-last.result c.stop_of-stop.result) c.count.ensures
    ∙ ap (λ n. make (record clock { learner = c.saw.new.self; dummies = d; real = r }) n c.stop_of-stop.result)
    c.ended-last.ensures
    ∙ ap (λ s. make (record clock { learner = c.saw.new.self; dummies = d; real = r }) c.read_path.new.self.ended s)
    c.stop_of-stop.ensures in
    subst (λ (x : Stop). Stopped clock.config c.stop_at-in-Err-read_path.new.self.clock x
    (t c.read_path.new.bus.tap.now).log) (sym c.stop_of-stop.ensures)
    (read_stopped m t c.note-2.new.self c.read_path.new.bus c.leaf-leaf.result.0 c.saw.new.self d r
    c.in-Err-read_path.stop c.room.new.self c.read_path.new.self
    c.stop_at-in-Err-read_path.new.self.clock b c.requires.early (c.room.ensures.same.shape
    ∙ c.requires.rests.is_for.shape)
    c.in-Err-read_path.ensures.ran c.in-Err-read_path.ensures.ended is)

pub returns-in-Ok-read_path-clause-noted : goal.returns-in-Ok-read_path-clause-noted
returns-in-Ok-read_path-clause-noted g c =
    let t = g.W.Watch.state in
    two_events (t c.args.bus.now.tap.now) (t c.note.new.self.tap.now) (t c.note-2.new.self.tap.now)
    (t c.read_path.new.bus.tap.now) c.args.self.now.clock.next c.args.asked c.args.point c.leaf-leaf.result _
    c.leaf-leaf.ensures.value c.note.ensures.log c.note-2.ensures.log
    (silent_events c.in-Ok-read_path.ensures.ran.made)

pub returns-in-Ok-read_path-clause-read : goal.returns-in-Ok-read_path-clause-read
returns-in-Ok-read_path-clause-read g c tags =
    let t = g.W.Watch.state in
    slot_read tags (g.L.LeafFn.leaf_of c.args.self.now.leaves) c.args.self.now.tree c.room.new.self
    c.read_path.new.self c.args.self.now.clock.next c.args.asked c.args.point c.leaf-leaf.result
    (t c.args.bus.now.tap.now) (t c.note.new.self.tap.now) (t c.note-2.new.self.tap.now)
    (t c.read_path.new.bus.tap.now) c.room.ensures.same c.read_path.ensures.kept c.room.ensures.hand
    c.room.ensures.seed c.leaf-leaf.ensures.value c.note.ensures.log c.note-2.ensures.log
    (c.note-2.ensures.mirror ∙ c.note.ensures.mirror) (silent_events c.in-Ok-read_path.ensures.ran.made)
    c.in-Ok-read_path.ensures.read c.read_path.ensures.of_shape

pub returns-in-Ok-read_path-clause-moves : goal.returns-in-Ok-read_path-clause-moves
returns-in-Ok-read_path-clause-moves g c =
    moves_read g.M.UntrustedMemory.state g.W.Watch.state c.note-2.new.self c.read_path.new.bus
    c.room.new.self.shape.levels c.args.self.now.tree.shape.levels c.args.self.now.clock.next _ c.args.asked
    c.args.point c.leaf-leaf.result (g.W.Watch.state c.args.bus.now.tap.now) (g.W.Watch.state c.note.new.self.tap.now)
    c.note.ensures.log c.note-2.ensures.log (ap (λ (s : Shape). s.levels) c.room.ensures.same.shape)
    c.leaf-leaf.ensures.value c.in-Ok-read_path.ensures.ran

pub returns-in-Err-clause-breaks : goal.returns-in-Err-clause-breaks
returns-in-Err-clause-breaks g c tags =
    let t = g.W.Watch.state c.args.bus.now.tap.now in
    let now = c.stop_at.new.self.tree in
    let same : now ≡ c.room.new.self = c.stop_at.ensures.tree in
    inl (
      refl,
      same_contents c.args.self.now.tree now t t (ap (λ (x : TreeState). x.hand) same ∙ c.room.ensures.hand)
          refl (ap (λ (x : TreeState). x.seed) same ∙ c.room.ensures.seed),
      rests_whole c.requires.rests,
    )

pub returns-in-Err-read_path-clause-breaks : goal.returns-in-Err-read_path-clause-breaks
returns-in-Err-read_path-clause-breaks g c tags =
    let t = g.W.Watch.state in
    let old = c.args.self.now.tree in
    let keys = keys_of old tags (g.L.LeafFn.leaf_of c.args.self.now.leaves) in
    let log = (t c.args.bus.now.tap.now).log in
    let tap = t c.read_path.new.bus.tap.now in
    let start = c.args.self.now.clock.next in
    subst (λ (x : TreeState). ReadStops keys c.stop_of-stop.result log tap.log
    (contents_of old (t c.args.bus.now.tap.now)) (contents_of x tap) start c.args.asked c.args.point)
    (sym c.stop_at-in-Err-read_path.ensures.tree)
    (subst (λ (x : Stop). ReadStops keys x log tap.log
    (contents_of old (t c.args.bus.now.tap.now)) (contents_of c.read_path.new.self tap) start c.args.asked c.args.point)
    (sym c.stop_of-stop.ensures)
    (read_breaks g.M.UntrustedMemory.state t c.note-2.new.self c.read_path.new.bus tags
    (g.L.LeafFn.leaf_of c.args.self.now.leaves) old c.room.new.self c.read_path.new.self start c.args.asked
    c.args.point c.leaf-leaf.result (t c.args.bus.now.tap.now) (t c.note.new.self.tap.now) c.room.ensures.same
    c.room.ensures.hand (c.read_path.ensures.seed ∙ c.room.ensures.seed) c.leaf-leaf.ensures.value
    c.note.ensures.log c.note-2.ensures.log (c.note-2.ensures.mirror ∙ c.note.ensures.mirror)
    c.read_path.ensures.mirror c.in-Err-read_path.stop c.read_path.ensures.gains c.in-Err-read_path.ensures.ran
    c.in-Err-read_path.ensures.read))

pub returns-in-Err-clause-counts : goal.returns-in-Err-clause-counts
returns-in-Err-clause-counts g c counted =
    let log = (g.W.Watch.state c.args.bus.now.tap.now).log in
    let is = c.stop_at.ensures.clock in
    counted_still c.args.self.now.clock c.stop_at.new.self.clock log log refl (ap (λ (x : Clock). x.config) is)
    (ap (λ (x : Clock). x.learner) is) (ap (λ (x : Clock). x.dummies) is) (ap (λ (x : Clock). x.real) is) counted

pub returns-in-Err-read_path-clause-counts : goal.returns-in-Err-read_path-clause-counts
returns-in-Err-read_path-clause-counts g c counted =
    let t = g.W.Watch.state in
    let clock = c.args.self.now.clock in
    let is = c.stop_at-in-Err-read_path.ensures.clock in
    counted_begun clock c.stop_at-in-Err-read_path.new.self.clock (t c.args.bus.now.tap.now).log
    (t c.read_path.new.bus.tap.now).log clock.next (g.L.LeafFn.leaf_of c.args.self.now.leaves c.args.point) c.args.asked
    c.args.point
    (two_events (t c.args.bus.now.tap.now) (t c.note.new.self.tap.now) (t c.note-2.new.self.tap.now)
    (t c.read_path.new.bus.tap.now) clock.next c.args.asked c.args.point c.leaf-leaf.result _
    c.leaf-leaf.ensures.value c.note.ensures.log c.note-2.ensures.log
    (read_silent g.M.UntrustedMemory.state t c.note-2.new.self c.read_path.new.bus clock.next c.leaf-leaf.result.0
    c.room.new.self c.read_path.new.self c.in-Err-read_path.stop c.in-Err-read_path.ensures.ran))
    (ap (λ (x : Clock). x.config) is ∙ ap (λ (x : Clock). x.config) c.count.ensures)
    (ap (λ (x : Clock). x.learner) is ∙ ap (λ (x : Clock). x.learner) c.count.ensures ∙ c.saw.ensures.after)
    (ap (λ (x : Clock). x.dummies) is ∙ ap (λ (x : Clock). x.dummies) c.count.ensures)
    (ap (λ (x : Clock). x.real) is ∙ ap (λ (x : Clock). x.real) c.count.ensures)
    (drawn_below _ _ _ _ c.leaf-leaf.ensures.value c.requires.rests.is_for.levels_are c.leaf-leaf.ensures.below) counted

pub returns-in-Ok-read_path-clause-counts : goal.returns-in-Ok-read_path-clause-counts
returns-in-Ok-read_path-clause-counts g c counted =
    let t = g.W.Watch.state in
    let clock = c.args.self.now.clock in
    counted_begun clock c.count.new.self (t c.args.bus.now.tap.now).log (t c.read_path.new.bus.tap.now).log clock.next
    (g.L.LeafFn.leaf_of c.args.self.now.leaves c.args.point) c.args.asked c.args.point
    (returns-in-Ok-read_path-clause-noted g c) (ap (λ (x : Clock). x.config) c.count.ensures)
    (ap (λ (x : Clock). x.learner) c.count.ensures ∙ c.saw.ensures.after)
    (ap (λ (x : Clock). x.dummies) c.count.ensures) (ap (λ (x : Clock). x.real) c.count.ensures)
    (drawn_below _ _ _ _ c.leaf-leaf.ensures.value c.requires.rests.is_for.levels_are c.leaf-leaf.ensures.below) counted
