use Rattle.std.proofs.Common.{◌∙◌, ap}
use Rattle.unified_tree.specs.Tree.{TreeState}
use Rattle.secure_machine.proofs.Starts.{new_serves, new_keys, new_is, new_counts}
use Rattle.secure_machine.proofs.new_oram.Goals as goal

pub returns-clause-serving : goal.returns-clause-serving
returns-clause-serving g c =
    new_serves g.L.LeafFn.levels c.args.config.now c.new-port.result c.new-2.result c.new-2.ensures.front
    c.new-2.ensures.port c.new-2.ensures.stop
    (ap (λ (tree : TreeState). tree.shape) c.new-port.ensures.tree ∙ c.in_ok-tree.ensures.shape)
    c.new-port.ensures.rests

pub returns-clause-keys : goal.returns-clause-keys
returns-clause-keys g c =
    new_keys g.L.LeafFn.leaf_of g.L.LeafFn.levels c.args.config.now c.args.codec c.args.tagger c.args.leaf
    c.new-port.result c.new-2.result c.new-2.ensures.tagger c.new-2.ensures.port
    (ap (λ (tree : TreeState). tree.shape) c.new-port.ensures.tree ∙ c.in_ok-tree.ensures.shape)
    (ap (λ (tree : TreeState). tree.key) c.new-port.ensures.tree ∙ c.in_ok-tree.ensures.key)
    c.new-port.ensures.leaves

pub returns-clause-new : goal.returns-clause-new
returns-clause-new g c =
    new_is g.L.LeafFn.leaf_of g.L.LeafFn.levels c.args.config.now c.args.codec c.args.tagger c.args.leaf
    c.new-port.result c.new-2.result c.new-2.ensures.tagger c.new-2.ensures.port
    (ap (λ (tree : TreeState). tree.shape) c.new-port.ensures.tree ∙ c.in_ok-tree.ensures.shape)
    c.new-2.ensures.front
    (ap (λ (tree : TreeState). tree.hand) c.new-port.ensures.tree ∙ c.in_ok-tree.ensures.hand)
    (ap (λ (tree : TreeState). tree.seed) c.new-port.ensures.tree ∙ c.in_ok-tree.ensures.seed)
    c.new-port.ensures.dummies c.new-port.ensures.real

pub returns-clause-counts : goal.returns-clause-counts
returns-clause-counts g c =
    new_counts c.new-port.result c.new-2.result c.new-2.ensures.port c.new-port.ensures.counts
