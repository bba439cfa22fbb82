use Rattle.oram_contents.proofs.KeyLaws.{lawful_keys, sized_keys}
use Rattle.bucket_codec.specs.Pad.{pad_key}
use Rattle.leaf_function.specs.Leaf.{leaf_key}
use Rattle.pmmac_tags.specs.Tag.{tag_key}
use Rattle.oram_contents.proofs.laws.chips_have_keys.Goals as goal

pub returns-clause-shape : goal.returns-clause-shape
returns-clause-shape c = lawful_keys

pub returns-clause-sized : goal.returns-clause-sized
returns-clause-sized c = sized_keys

pub returns-clause-derived : goal.returns-clause-derived
returns-clause-derived c = λ lines roots master from to some. sized_keys lines roots (pad_key master) (tag_key master)
    (leaf_key master) from to some
