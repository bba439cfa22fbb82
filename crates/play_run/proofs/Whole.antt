-- A run that ends by no stop of its memory's shows the whole play.
use Rattle.std.proofs.Common.{◌≡◌, ◌⊎◌, inl, inr, ℕ, ap, ◌∙◌, subst}
use Rattle.asc_base.specs.declared.settings.Config.{Config}
use Rattle.bus_schedule.specs.Timetable.{public_of}
use Rattle.bus_watch.specs.Log.{LogLists}
use Rattle.run_play.specs.Halt as cut
use Rattle.run_play.specs.Halt.{Refused, Overfull, MoveFails, AppendRefused, AppendOverfull, ending_of, unprepared}
use Rattle.run_play.specs.Play.{Play}
use Rattle.run_play.specs.PlayEvents.{PlayReport, play_events, report_of}
use Rattle.run_play.proofs.Halts.{halt-numbers}
use Rattle.play_run.specs.Shows.{IsRunOf, IsPlayed, IsWholePlay, IsOwn}

-- a stop's ending is none
stop-ends : (stop : cut.Stop) → IsOwn (ending_of stop) → ⊥
stop-ends (Refused evidence) own = own
stop-ends (Overfull held) own = own
stop-ends (MoveFails move) own = own
stop-ends (AppendRefused evidence) own = own
stop-ends (AppendOverfull held) own = own

-- a run that is halted, or whose memory couldn't be prepared, ends by one
run-whole : (levels : ℕ) (whole run : Play) → IsRunOf levels whole run ⊎ (run ≡ unprepared) → IsOwn run.ending
    → run ≡ whole
run-whole levels whole run (inl (inl is)) own = is
run-whole levels whole run (inl (inr h)) own =
    let ends : run.ending ≡ ending_of h.stop =
    ap (λ (r : Play). r.ending) h.is ∙ (halt-numbers levels whole h.before h.stop h.slot h.at).1 in
    absurd (stop-ends h.stop (subst IsOwn ends own))
run-whole levels whole run (inr is) own = absurd (subst (λ (r : Play). IsOwn r.ending) is own)

pub played-whole : (config : Config) (whole : Play) (report : PlayReport) (log : LogLists)
    → IsPlayed config whole report log → IsOwn report.ending → IsWholePlay config whole report log
played-whole config whole report log x own =
    let ends : report.ending ≡ x.run.ending = ap (λ (r : PlayReport). r.ending) x.report_is in
    let run : x.run ≡ whole = run-whole config.shape.levels whole x.run x.is (subst IsOwn ends own) in
    record {
      events = x.events ∙ ap (λ (r : Play). play_events r.slots) run;
      report_is = x.report_is ∙ ap (report_of (public_of config)) run;
    }
