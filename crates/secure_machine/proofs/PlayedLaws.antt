-- What is reported of a run beside its play, and where a run begins in it.
use Rattle.std.proofs.Common.{◌≡◌, ◌<◌, ◌*◌, ◌⊎◌, ◌∙◌, inr, ℕ, List, [], length, replicate, refl, sym, ap, subst, arith}
use Rattle.std.specs.List.{count_by}
use Rattle.asc_base.specs.Has.{Has}
use Rattle.asc_base.specs.Settings.{IsConfig}
use Rattle.asc_base.specs.declared.settings.Config.{Config}
use Rattle.asc_base.specs.declared.shape.Shape.{Shape}
use Rattle.bus_schedule.specs.Scheduled.{log_code}
use Rattle.bus_schedule.specs.Shown.{indices_of, code_of}
use Rattle.bus_schedule.specs.Timetable.{public_of}
use Rattle.bus_watch.specs.Log.{LogLists, TapState}
use Rattle.data_cache.specs.CacheLists.{line_in}
use Rattle.data_cache.specs.Contents.{Contents}
use Rattle.elf_loader.specs.Memory.{IsImage}
use Rattle.elf_loader.specs.declared.image.Image.{Image}
use Rattle.encrypted_run.specs.Refined.{empty_cache}
use Rattle.oram_contents.specs.Entries.{Keys}
use Rattle.oram_frontend.specs.Oram.{OramState}
use Rattle.oram_lines.specs.Lines.{IsNew}
use Rattle.oram_walk.specs.Front.{sizes_of}
use Rattle.play_run.specs.Given.{CallsPlay}
use Rattle.play_run.specs.Shows.{RunShows, shown_report, IsPlayed}
use Rattle.play_run.specs.Stands.{numbers_of, StandsInImage}
use Rattle.play_run.proofs.Reports.{shown-played}
use Rattle.play_run.proofs.Runs.{start-stands}
use Rattle.rate_enforcer.specs.Counts.{is_dummy, is_real}
use Rattle.run_play.specs.Play.{Play}
use Rattle.run_play.specs.Halt.{unprepared}
use Rattle.run_play.specs.PlayEvents.{PlayReport, said_of_all}
use Rattle.rv32_core.specs.Machine.{Machine}
use Rattle.secure_machine.specs.Plays.{play_ending, play_report, play_with}
use Rattle.secure_machine.specs.Run.{IsUnprepared, start_of}
use Rattle.secure_machine.specs.declared.report.Ending.{Ending}
use Rattle.secure_machine.specs.declared.report.Report.{Report}
use Rattle.secure_machine.proofs.ImageZeros.{image_zeros}
use Rattle.secure_machine.proofs.ReportLaws.{config_lines, some_sets, some_ways}

-- A report with the numbers of a run is the play's.
pub report_played : (config : Config) (whole : Play) (report : Report) (levels instructions cycles fetches last : ℕ)
    (ending : Ending) (log : LogLists) → levels ≡ config.shape.levels → report.instructions ≡ instructions
    → report.cycles ≡ cycles → report.fetches ≡ fetches → report.last ≡ last → report.ending ≡ ending
    → report.real ≡ count_by is_real log.events → report.dummies ≡ count_by is_dummy log.events
    → report.choices ≡ length (indices_of log.events) → report.code ≡ log_code (public_of config) log
    → RunShows levels whole (play_ending ending) (numbers_of instructions cycles fetches) last log
    → IsPlayed config whole (play_report report) log
report_played config whole report levels instructions cycles fetches last ending log at count ran fetched up ends real
    dummies choices code shows =
    let same : play_report report
    ≡ shown_report (public_of config) (play_ending ending) (numbers_of instructions cycles fetches) last log =
    λ i. record {
      ending = play_ending (ends i);
      instructions = count i;
      cycles = ran i;
      last = up i;
      fetches = fetched i;
      real = real i;
      dummies = dummies i;
      choices = choices i;
      code = code i;
    } in
    subst (λ (r : PlayReport). IsPlayed config whole r log) (sym same)
    (shown-played config whole (play_ending ending) (numbers_of instructions cycles fetches) last log
    (subst (λ n. RunShows n whole (play_ending ending) (numbers_of instructions cycles fetches) last log) at shows))

-- A run begins in the Play of its image and input.
pub start_played : (keys : Keys) (config : Config) (levels : ℕ) (o : OramState) (image : Image) (input : List ℕ)
    (machine : Machine) (cache : Contents) → IsConfig config → IsImage config.base config.size image
    → length image.bytes.items ≡ config.size → IsNew keys config levels o → o.port.clock.config ≡ config
    → CallsPlay keys levels config → machine ≡ start_of config image input
    → cache ≡ empty_cache config.sets config.ways
    → StandsInImage keys levels config (play_with config image input) image.bytes.items machine image.marked.items cache
    (record { oram = o; clock = 0; fetches = 0 })
start_played keys config levels o image input machine cache is_config is_image long new port calls is empty =
    let lines : keys.shape.lines ≡ config.shape.lines = ap (λ (s : Shape). s.lines) (sym new.shape) in
    let whole : length image.bytes.items ≡ 64 * config.shape.lines = long ∙ config_lines config is_config in
    let is_there = subst (λ n. IsImage config.base n image) (config_lines config is_config) is_image in
    let zeros : (n : ℕ) → n < keys.shape.lines
    → Has n image.marked.items ⊎ (line_in image.bytes.items n ≡ replicate 64 0) =
    λ n below. image_zeros config.base config.shape.lines image is_there whole n (omega (arith, below, lines)) in
    subst (λ (c : Contents). StandsInImage keys levels config (play_with config image input) image.bytes.items machine
    image.marked.items c (record { oram = o; clock = 0; fetches = 0 })) (sym empty)
    (subst (λ (m : Machine). StandsInImage keys levels config (play_with config image input) image.bytes.items m
    image.marked.items (empty_cache config.sets config.ways) (record { oram = o; clock = 0; fetches = 0 })) (sym is)
    (start-stands keys levels config image.bytes.items image.marked.items (start_of config image input) o
    (some_sets config is_config) (some_ways config is_config) (whole ∙ ap (λ n. 64 * n) (sym lines)) zeros
    (calls.start_plays o new port (ap sizes_of new.front))))

-- A run whose memory couldn't be prepared took no slot of its play.
pub unprepared_played : (config : Config) (whole : Play) (report : Report) (tap tap' : TapState) (log : LogLists)
    → IsUnprepared report tap tap' → log.events ≡ [] → IsPlayed config whole (play_report report) log
unfolding code_of
unprepared_played config whole report tap tap' log is none = record {
  run = unprepared;
  is = inr refl;
  events = ap said_of_all none;
  report_is = λ i. record {
    ending = play_ending (is.ending i);
    instructions = is.instructions i;
    cycles = is.cycles i;
    last = is.last i;
    fetches = is.fetches i;
    real = is.real i;
    dummies = is.dummies i;
    choices = is.choices i;
    code = is.code i;
  };
}
