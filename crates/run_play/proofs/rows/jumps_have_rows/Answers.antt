use Rattle.std.proofs.Common.{ap}
use Rattle.std.specs.Prelude.{slice_index}
use Rattle.asc_base.specs.Greatest.{greatest}
use Rattle.bus_schedule.specs.Shown.{code_of}
use Rattle.bus_schedule.specs.Timetable.{public_of, bits_of, most_of, epoch_at}
use Rattle.epoch_learner.specs.LearnerRule.{nearest, index_by_sums}
use Rattle.run_play.specs.Slots.{pass_up_to}
use Rattle.run_play.specs.Play.{Play}
use Rattle.run_play.specs.PlayEvents.{starts_in, points_in, report_of}
use Rattle.run_play.specs.Rows.{short_time, one_choice}
use Rattle.run_play.proofs.Jumps.{short-play, long-play}
use Rattle.run_play.proofs.rows.jumps_have_rows.Goals as goal

pub returns-clause-one_rate : goal.returns-clause-one_rate
unfolding greatest bits_of most_of epoch_at nearest index_by_sums code_of pass_up_to
returns-clause-one_rate c = ap (report_of (public_of short_time)) short-play

pub returns-clause-starts : goal.returns-clause-starts
unfolding greatest bits_of most_of epoch_at nearest index_by_sums code_of pass_up_to
returns-clause-starts c = ap (λ (run : Play). starts_in run.slots) short-play

pub returns-clause-points : goal.returns-clause-points
unfolding greatest bits_of most_of epoch_at nearest index_by_sums code_of pass_up_to
returns-clause-points c = ap (λ (run : Play). points_in run.slots) short-play

pub returns-clause-one_choice : goal.returns-clause-one_choice
unfolding greatest bits_of most_of epoch_at nearest index_by_sums code_of pass_up_to
returns-clause-one_choice c = ap (report_of (public_of one_choice)) long-play

pub returns-clause-slower : goal.returns-clause-slower
unfolding greatest bits_of most_of epoch_at nearest index_by_sums code_of pass_up_to
returns-clause-slower c = ap (λ (run : Play). slice_index (starts_in run.slots) 44) long-play

pub returns-clause-last : goal.returns-clause-last
unfolding greatest bits_of most_of epoch_at nearest index_by_sums code_of pass_up_to
returns-clause-last c = ap (λ (run : Play). slice_index (starts_in run.slots) 52) long-play
