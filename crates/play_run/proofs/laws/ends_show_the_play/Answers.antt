use Rattle.play_run.proofs.Ends.{wait-shows, wait-stop-shows}
use Rattle.play_run.proofs.Reports.{shown-played}
use Rattle.play_run.proofs.laws.ends_show_the_play.Goals as goal

pub returns : goal.returns
returns c = record { waits = wait-shows; stops = wait-stop-shows; reports = shown-played }
