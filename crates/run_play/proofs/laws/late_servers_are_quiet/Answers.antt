use Rattle.run_play.proofs.Lines.{late-request, late-access}
use Rattle.run_play.proofs.laws.late_servers_are_quiet.Goals as goal

pub returns : goal.returns
returns c = record { request = late-request; access = late-access }
