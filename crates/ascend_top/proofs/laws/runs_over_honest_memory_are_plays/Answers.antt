use Rattle.ascend_top.proofs.PlayLaws.{run_is_play}
use Rattle.ascend_top.proofs.laws.runs_over_honest_memory_are_plays.Goals as goal

pub returns : goal.returns
returns c = run_is_play
