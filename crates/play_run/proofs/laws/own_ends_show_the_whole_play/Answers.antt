use Rattle.play_run.proofs.Whole.{played-whole}
use Rattle.play_run.proofs.laws.own_ends_show_the_whole_play.Goals as goal

pub returns : goal.returns
returns c = played-whole
