use Rattle.secure_machine.proofs.FlatRows.{exit, trap, budget, time_up, full, refused, device, other_status, more}
use Rattle.secure_machine.proofs.FlatRows.{no_end}
use Rattle.secure_machine.proofs.rows.flat_reports_have_rows.Goals as goal

pub returns : goal.returns
returns c = record {
  exit = exit;
  trap = trap;
  budget = budget;
  time_up = λ at image report. time_up image report at;
  full = λ held image report. full image report held;
  evidence = λ evidence image report. refused image report evidence;
  device = device;
  other_status = other_status;
  more = λ ending image report. more image report ending;
  no_end = no_end;
}
