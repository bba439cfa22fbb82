use Rattle.generated_run.proofs.LeadLaws.{leads_none, leads_both}
use Rattle.generated_run.proofs.laws.pieces_lead_on.Goals as goal

pub returns-clause-none : goal.returns-clause-none
returns-clause-none c = leads_none

pub returns-clause-both : goal.returns-clause-both
returns-clause-both c = λ count more machine next last memory after end first second. leads_both first second
