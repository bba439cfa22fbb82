use Rattle.run_play.proofs.Keeping.{passed-none, passed-one, passed-far}
use Rattle.run_play.proofs.laws.dummies_pass.Goals as goal

pub returns : goal.returns
returns c = record { none = passed-none; one = passed-one; far = passed-far }
