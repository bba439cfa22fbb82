use Rattle.leaf_function.proofs.Leaves.{leaf_below}
use Rattle.leaf_function.proofs.keyed.KeyedLeafLeafFn.gives_leaves.Goals as goal

pub returns : goal.returns
returns c = leaf_below c.args.self.now.key c.args.self.now.levels
