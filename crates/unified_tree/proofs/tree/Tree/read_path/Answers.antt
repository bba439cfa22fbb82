use Rattle.std.proofs.Common.{◌≡◌, List, ℕ, Ok, Err, subst}
use Rattle.oram_contents.specs.PathRead.{path_read}
use Rattle.unified_tree.specs.Joined.{path_joined}
use Rattle.unified_tree.specs.Slot.{WasRead}
use Rattle.unified_tree.specs.Stops.{Says}
use Rattle.unified_tree.specs.Tree.{TreeState}
use Rattle.unified_tree.proofs.Replies.{was_read_of, if_read}
use Rattle.unified_tree.proofs.tree.Tree.read_path.Goals as goal

pub returns-in-Ok-join_buckets-clause-read : goal.returns-in-Ok-join_buckets-clause-read
returns-in-Ok-join_buckets-clause-read g c =
    let tree = c.self.inside in
    let old = g.W.Watch.state c.args.bus.now.tap.now in
    let new = g.W.Watch.state c.read_buckets.new.bus.tap.now in
    let texts = c.read_buckets.new.texts.items in
    let hand = c.join_buckets.new.hand.entries in
    let says = subst (λ (t : List (List ℕ)). Says (Ok tt)
    (path_read tree.codec tree.shape c.args.leaf.0 t tree.hand.entries) hand) c.deref.ensures.value
    c.in-Ok-join_buckets.ensures.says in
    let joined = subst (λ (t : List (List ℕ)). hand ≡ path_joined tree.codec tree.shape c.args.leaf.0 t
    tree.hand.entries) c.deref.ensures.value c.join_buckets.ensures.joined in
    subst (λ (s : TreeState). WasRead s.key s.shape c.args.start c.args.leaf.0 (Ok tt) old new s.hand hand)
    c.self.view_is
    (was_read_of tree.codec tree.shape c.args.start c.args.leaf.0
    (Ok tt) old new tree.hand.entries hand texts c.in-Ok.ensures.count c.in-Ok.ensures.log says joined)

pub returns-in-Err-join_buckets-clause-read : goal.returns-in-Err-join_buckets-clause-read
returns-in-Err-join_buckets-clause-read g c =
    let tree = c.self.inside in
    let old = g.W.Watch.state c.args.bus.now.tap.now in
    let new = g.W.Watch.state c.read_buckets.new.bus.tap.now in
    let texts = c.read_buckets.new.texts.items in
    let hand = c.join_buckets.new.hand.entries in
    let result = Err c.in-Err-join_buckets.stop in
    let says = subst (λ (t : List (List ℕ)). Says result
    (path_read tree.codec tree.shape c.args.leaf.0 t tree.hand.entries) hand) c.deref.ensures.value
    c.in-Err-join_buckets.ensures.says in
    let joined = subst (λ (t : List (List ℕ)). hand ≡ path_joined tree.codec tree.shape c.args.leaf.0 t
    tree.hand.entries) c.deref.ensures.value c.join_buckets.ensures.joined in
    if_read result _ hand _ _ says
    (subst (λ (s : TreeState). WasRead s.key s.shape c.args.start c.args.leaf.0 result old new s.hand hand)
    c.self.view_is
    (was_read_of tree.codec tree.shape c.args.start c.args.leaf.0 result old new tree.hand.entries hand texts
    c.in-Ok.ensures.count c.in-Ok.ensures.log says joined))
