use Rattle.asc_base.proofs.ShapeFacts.{top_layer_first}
use Rattle.asc_base.proofs.laws.top_layer_first.Goals as goal

pub returns-clause-top : goal.returns-clause-top
returns-clause-top c lines roots some rooted = (top_layer_first lines roots some rooted).0

pub returns-clause-below : goal.returns-clause-below
returns-clause-below c lines roots layer some rooted below = (top_layer_first lines roots some rooted).1 layer below
