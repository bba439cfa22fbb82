use Rattle.asc_base.proofs.Layers.{layer_of-lt, layer_of_in, layer_of_is}
use Rattle.asc_base.proofs.laws.blocks_in_one_layer.Goals as goal

pub returns-clause-one : goal.returns-clause-one
returns-clause-one c lines layers address below =
    (layer_of-lt lines layers address below, layer_of_in lines layers address below)

pub returns-clause-alone : goal.returns-clause-alone
returns-clause-alone c = layer_of_is
