use Rattle.trace_checker.proofs.Verdicts.{fails_all, fit_holds, fits_agree, one_verdict}
use Rattle.trace_checker.proofs.laws.verdicts_are_exact.Goals as goal

pub returns-clause-holds : goal.returns-clause-holds
returns-clause-holds c = fit_holds

pub returns-clause-fails : goal.returns-clause-fails
returns-clause-fails c = fails_all

pub returns-clause-digits : goal.returns-clause-digits
returns-clause-digits c = fits_agree

pub returns-clause-one : goal.returns-clause-one
returns-clause-one c = one_verdict
