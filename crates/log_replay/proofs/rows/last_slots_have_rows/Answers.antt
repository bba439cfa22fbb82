use Rattle.log_replay.proofs.LastRows.{in_time, refused, doubled, full_appended, full_put, read, written, starved}
use Rattle.log_replay.proofs.LastRows.{early, full_unread, starved_unread, full_chosen, refused_put, unmoved, read_put}
use Rattle.log_replay.proofs.LastRows.{written_chosen}
use Rattle.log_replay.proofs.rows.last_slots_have_rows.Goals as goal

pub returns : goal.returns
returns c = record {
  in_time = in_time;
  refused = refused;
  doubled = doubled;
  full_appended = full_appended;
  full_put = full_put;
  read = read;
  written = written;
  starved = starved;
  early = λ keys at a c later. early keys a c later at;
  full_unread = λ keys held a c later. full_unread keys a c later held;
  starved_unread = starved_unread;
  full_chosen = full_chosen;
  refused_put = refused_put;
  unmoved = unmoved;
  read_put = read_put;
  written_chosen = written_chosen;
}
