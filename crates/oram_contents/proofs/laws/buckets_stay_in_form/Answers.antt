use Rattle.oram_contents.proofs.FormLaws.{start_forms, access_forms, refill_forms, passes_forms}
use Rattle.oram_contents.proofs.laws.buckets_stay_in_form.Goals as goal

pub returns-clause-start : goal.returns-clause-start
returns-clause-start c = start_forms

pub returns-clause-access : goal.returns-clause-access
returns-clause-access c = access_forms

pub returns-clause-refill : goal.returns-clause-refill
returns-clause-refill c = refill_forms

pub returns-clause-dummies : goal.returns-clause-dummies
returns-clause-dummies c = passes_forms
