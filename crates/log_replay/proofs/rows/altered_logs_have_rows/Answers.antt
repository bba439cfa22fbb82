use Rattle.log_replay.proofs.AlteredRows.{found, other_tag, other_message, other_found, unexpected}
use Rattle.log_replay.proofs.rows.altered_logs_have_rows.Goals as goal

pub returns : goal.returns
returns c = record {
  found = found;
  other_tag = other_tag;
  other_message = other_message;
  other_found = other_found;
  unexpected = unexpected;
}
