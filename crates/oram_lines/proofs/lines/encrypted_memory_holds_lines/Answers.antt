use Rattle.oram_lines.proofs.LineLaws.{new_holds, call_holds, calls_hold, holds_from_start, points_differ, blocks_home}
use Rattle.oram_lines.proofs.LineLaws.{forgery_call, forgery_stop, counters_low}
use Rattle.oram_lines.proofs.HonestLaws.{points_stop}
use Rattle.oram_lines.proofs.StopLaws.{call_stops, calls_stop}
use Rattle.oram_lines.proofs.lines.encrypted_memory_holds_lines.Goals as goal

pub returns : goal.returns
returns c = record {
  start = new_holds;
  call = call_holds;
  calls = calls_hold;
  from_start = holds_from_start;
  call_stop = call_stops;
  calls_stop = calls_stop;
  points = points_differ;
  points_stop = points_stop;
  home = blocks_home;
  counters = counters_low;
  forged = forgery_call;
  forged_stop = forgery_stop;
}
