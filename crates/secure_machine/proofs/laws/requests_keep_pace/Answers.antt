use Rattle.secure_machine.proofs.OramGoes.{oram_goes, oram_breaks, fetch_takes, wait_pace}
use Rattle.secure_machine.proofs.laws.requests_keep_pace.Goals as goal

pub returns-clause-goes : goal.returns-clause-goes
returns-clause-goes c = oram_goes

pub returns-clause-breaks : goal.returns-clause-breaks
returns-clause-breaks c = oram_breaks

pub returns-clause-takes : goal.returns-clause-takes
returns-clause-takes c = fetch_takes

pub returns-clause-waits : goal.returns-clause-waits
returns-clause-waits c = wait_pace
