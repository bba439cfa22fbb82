use Rattle.bus_watch.proofs.MadeLaws.{made_none}
use Rattle.bus_watch.proofs.TiedLaws.{tied_start}
use Rattle.bus_watch.proofs.laws.runs_start.Goals as goal

pub returns-clause-tied : goal.returns-clause-tied
returns-clause-tied c = tied_start

pub returns-clause-made : goal.returns-clause-made
returns-clause-made c = made_none
