use Rattle.secure_machine.proofs.EndingRows.{exit, trap, budget, time_up, full_ends, evidence_ends, device_ends}
use Rattle.secure_machine.proofs.EndingRows.{no_exit, no_evidence, no_full, no_device}
use Rattle.secure_machine.proofs.rows.endings_have_rows.Goals as goal

pub returns : goal.returns
returns c = record {
  exit = λ keys stash status tap log mirror. exit keys stash tap log mirror status;
  trap = λ keys stash pc kind tap log mirror. trap keys stash tap log mirror kind pc;
  budget = budget;
  time_up = λ keys stash at tap log mirror. time_up keys stash tap log mirror at;
  full = full_ends;
  evidence = evidence_ends;
  device = device_ends;
  no_exit = no_exit;
  no_evidence = no_evidence;
  no_full = no_full;
  no_device = no_device;
}
