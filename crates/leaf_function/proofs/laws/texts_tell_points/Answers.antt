use Rattle.leaf_function.proofs.Texts.{point_of_text}
use Rattle.leaf_function.proofs.laws.texts_tell_points.Goals as goal

pub returns : goal.returns
returns c = point_of_text
