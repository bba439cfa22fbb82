use Rattle.std.proofs.Common.{refl, inl, inr}
use Rattle.log_replay.proofs.VerdictRows.{dummy_right, first_right, right, missing, full, breaks_off, no_moves, written}
use Rattle.log_replay.proofs.VerdictRows.{buckets, other_buckets}
use Rattle.log_replay.proofs.ForgedRows.{forged_right}
use Rattle.log_replay.proofs.FullRows.{overfull}
use Rattle.log_replay.proofs.PartedKeys.{parted}
use Rattle.log_replay.proofs.rows.verdicts_have_rows.Goals as goal

pub returns : goal.returns
returns c = record {
  dummy = dummy_right;
  first = first_right;
  right = right;
  missing = missing;
  full = full;
  overfull = overfull;
  parted = parted;
  forged = forged_right;
  breaks_off = breaks_off;
  no_moves = no_moves;
  written = written;
  ends = (refl, inr refl);
  time_ends = λ at is. cc;
  device_ends = λ is. cc;
  memory_ends = λ is. elim is [ inl whole ↦ cc | inr out ↦ cc ];
  buckets = buckets;
  other_buckets = other_buckets;
}
