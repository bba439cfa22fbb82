use Rattle.secure_machine.proofs.FedRows.{load, unfed, spent, overspent}
use Rattle.secure_machine.proofs.rows.fed_reports_have_rows.Goals as goal

pub returns : goal.returns
returns c = record { load = load; unfed = unfed; spent = spent; less = overspent }
