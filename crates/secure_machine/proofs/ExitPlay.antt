-- The play of a program that exits before its first slot: what is reported of it, and that it has no event.
use Rattle.std.proofs.Common.{◌≡◌, [], refl}
use Rattle.asc_base.specs.Greatest.{greatest}
use Rattle.bus_schedule.specs.Shown.{code_of}
use Rattle.bus_schedule.specs.Timetable.{public_of, bits_of, most_of, epoch_at}
use Rattle.run_play.specs.Play.{Exited, play_from, image_slots}
use Rattle.run_play.specs.PlayEvents.{play_events, report_of}
use Rattle.run_play.specs.Programs.{exit_words, play_at}
use Rattle.run_play.specs.Requests.{one_by_one}
use Rattle.run_play.specs.Rows.{small}
use Rattle.run_play.specs.Slots.{pass_up_to}
use Rattle.rv32_core.specs.LineList.{lines_from}
use Rattle.rv32_core.specs.Transfer.{pieces_within}
use Rattle.rv32_table.specs.Meaning.{load_meaning, register_meaning}
use Rattle.rv32_table.specs.Table.{decoded, table}

pub exit_report : report_of (public_of small) (play_at small 0 exit_words) ≡ record {
  ending = Exited 0;
  instructions = 2;
  cycles = 12;
  last = 12;
  fetches = 0;
  real = 0;
  dummies = 0;
  choices = 0;
  code = 0;
}
unfolding greatest bits_of most_of epoch_at code_of lines_from pieces_within decoded table register_meaning
    load_meaning pass_up_to one_by_one image_slots play_from
exit_report = refl

pub exit_events : play_events (play_at small 0 exit_words).slots ≡ []
unfolding greatest bits_of most_of epoch_at code_of lines_from pieces_within decoded table register_meaning
    load_meaning pass_up_to one_by_one image_slots play_from
exit_events = refl
