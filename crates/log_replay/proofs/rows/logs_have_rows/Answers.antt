use Rattle.log_replay.proofs.OrderRows.{none, dummy, first, appended, bare, second, no_slot, no_point, other_number}
use Rattle.log_replay.proofs.OrderRows.{same_number, asked_dummy, tagged_dummy, unasked_block, other_leaf, accepted}
use Rattle.log_replay.proofs.OrderRows.{no_slot_reply, stored, other_line, other_put, unput, both_tagged}
use Rattle.log_replay.proofs.OrderRows.{other_value, other_block, own_block, unread}
use Rattle.log_replay.proofs.AgainRows.{read_back, lost, other_read}
use Rattle.log_replay.proofs.rows.logs_have_rows.Goals as goal

pub returns : goal.returns
returns c = record {
  none = none;
  dummy = dummy;
  first = first;
  stored = stored;
  appended = appended;
  bare = bare;
  second = second;
  read_back = read_back;
  lost = lost;
  other_read = other_read;
  no_slot = no_slot;
  no_slot_reply = no_slot_reply;
  no_point = no_point;
  other_number = other_number;
  same_number = same_number;
  asked_dummy = asked_dummy;
  tagged_dummy = tagged_dummy;
  unasked_block = unasked_block;
  other_leaf = other_leaf;
  accepted = accepted;
  other_line = other_line;
  other_value = other_value;
  other_put = other_put;
  unput = unput;
  other_block = other_block;
  own_block = own_block;
  both_tagged = both_tagged;
  unread = unread;
}
