use Rattle.oram_play.proofs.HomeCalls.{calls_home}
use Rattle.oram_play.proofs.Homes.{counts_are, line_is, held_are, play_home, start_home, request_home, wait_home}
use Rattle.oram_play.proofs.laws.blocks_of_plays_are_at_home.Goals as goal

pub returns : goal.returns
returns c = record {
  counters = counts_are;
  lines = line_is;
  held = held_are;
  home = play_home;
  start = start_home;
  request = request_home;
  wait = wait_home;
  calls = calls_home;
}
