use Rattle.std.proofs.Common.{sym}
use Rattle.leaf_function.proofs.Texts.{point_of_test, test_of_itself}
use Rattle.leaf_function.proofs.laws.search_tells_points.Goals as goal

pub returns : goal.returns
returns c x y = (point_of_test x y, λ e. rw (sym e) (test_of_itself x))
