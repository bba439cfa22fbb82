-- What is reported of a settled run.
use Rattle.std.proofs.Common.{◌≡◌, ◌<◌, ◌+◌, ◌*◌, ◌/◌, ◌∙◌, ℕ, List, length, replicate, refl, sym, ap, subst, arith}
use Rattle.std.proofs.Math.Pow.{pow_mono}
use Rattle.std.specs.List.{count_by}
use Rattle.asc_base.specs.Settings.{IsConfig}
use Rattle.asc_base.specs.Shape.{shape_of, layered}
use Rattle.asc_base.specs.TreeShape.{olat_of}
use Rattle.asc_base.specs.declared.settings.Config.{Config}
use Rattle.asc_base.specs.declared.shape.Shape.{Shape}
use Rattle.bus_watch.specs.Tied.{TiedAt}
use Rattle.bus_watch.specs.Log.{TapState}
use Rattle.elf_loader.specs.Memory.{IsImage}
use Rattle.elf_loader.specs.declared.image.Image.{Image}
use Rattle.encrypted_run.specs.Refined.{Computes, empty_cache, loaded}
use Rattle.encrypted_run.proofs.WholeLaws.{start_computes}
use Rattle.epoch_learner.specs.Stands.{KeepsPace}
use Rattle.oram_contents.specs.Entries.{Keys, AreKeys}
use Rattle.oram_frontend.specs.Oram.{OramState}
use Rattle.oram_lines.specs.Lines.{IsNew}
use Rattle.rv32_core.specs.FlatRun.{FlatRun, flat_run}
use Rattle.rv32_core.specs.Machine.{Machine}
use Rattle.rv32_core.proofs.FlatRunLaws.{flat_run-zero}
use Rattle.rate_enforcer.specs.Counts.{IsCounted, is_answered}
use Rattle.bus_schedule.specs.Scheduled.{log_code}
use Rattle.bus_schedule.specs.Timetable.{public_of}
use Rattle.rate_enforcer.specs.PortStep.{PortState}
use Rattle.secure_machine.specs.Finish.{Settled, Short, IsRightEnding, IsTimeUp, moves_end}
use Rattle.secure_machine.specs.FlatEnds.{FlatEnds, IsFlat}
use Rattle.secure_machine.specs.Run.{Reported, Wanting, DrawsLeaves, IsFlatReport, IsUnprepared, start_of}
use Rattle.secure_machine.proofs.ImageZeros.{loaded_image}
use Rattle.secure_machine.specs.declared.report.Ending.{Ending}
use Rattle.secure_machine.specs.declared.report.Ending.TheVariants.{Device}
use Rattle.secure_machine.specs.declared.report.Report.{Report}

-- a shape has so many lines
shape_lines : (lines roots : ℕ) → (shape_of lines roots).lines ≡ lines
unfolding shape_of layered
shape_lines lines roots = refl

-- a configuration's lines are those of its memory
pub config_lines : (config : Config) → IsConfig config → config.size ≡ 64 * config.shape.lines
config_lines config is =
    let lines : config.shape.lines ≡ config.size / 64 = ap (λ (s : Shape). s.lines) is.shape
    ∙ shape_lines (config.size / 64) config.roots in
    omega (arith, lines, is.memory.size_pages)

pub reported_of : (config : Config) (report : Report) (instructions cycles last : ℕ) (ending : Ending)
    (old new : PortState)
    → old.clock.config ≡ config → IsCounted old.clock old.tap.log
    → Settled config.budget instructions cycles ending last old new
    → report.instructions ≡ instructions → report.cycles ≡ cycles → report.ending ≡ ending → report.last ≡ last
    → report.real ≡ new.clock.real → report.dummies ≡ new.clock.dummies
    → report.choices ≡ new.clock.learner.choices → report.code ≡ new.clock.learner.code
    → report.fetches ≡ count_by is_answered new.tap.log.events
    → Reported config report old.memory new.memory old.tap new.tap
reported_of config report instructions cycles last ending old new same counted s is ran ends up real dummies choices
    code fetches =
    let counts = s.counts counted in
    record {
      pace = subst (λ (c : Config). KeepsPace c report.last new.tap.log) same
          (subst (λ n. KeepsPace old.clock.config n new.tap.log) (sym up) s.pace);
      in_time = subst (λ (c : Config). report.last < c.time + olat_of c.shape.levels) same
          (subst (λ n. n < old.clock.config.time + olat_of old.clock.config.shape.levels) (sym up) s.in_time);
      leaves = subst (λ (c : Config). DrawsLeaves c new.tap.log) (s.config ∙ same) counts.leaves;
      real = real ∙ counts.real;
      dummies = dummies ∙ counts.dummies;
      choices = choices ∙ sym counts.code.choices;
      code = code ∙ counts.code.code
          ∙ ap (λ (c : Config). log_code (public_of c) new.tap.log) (s.config ∙ same);
      fetches = fetches;
      tied = λ start buckets tied. subst (λ e. TiedAt (moves_end e) start buckets new.memory new.tap) (sym ends)
          (s.tied start buckets tied);
      later = s.later;
      cause = λ failed. s.cause (sym ends ∙ failed);
      unaltered = s.unaltered;
      told = s.told;
      prepared = s.prepared;
      asked = s.asked;
      right = subst (λ (c : Config). IsRightEnding config.budget c.time report.instructions report.cycles report.last
          report.ending) same
          (subst (λ n. IsRightEnding config.budget old.clock.config.time n report.cycles report.last report.ending)
          (sym is) (subst (λ n. IsRightEnding config.budget old.clock.config.time instructions n report.last
          report.ending) (sym ran) (subst (λ n. IsRightEnding config.budget old.clock.config.time instructions cycles n
          report.ending) (sym up) (subst (IsRightEnding config.budget old.clock.config.time instructions cycles last)
          (sym ends) s.right))));
      time_up = λ at ended. subst (λ (c : Config). IsTimeUp c config.budget report.instructions report.cycles
          new.tap.log at) same
          (subst (λ n. IsTimeUp old.clock.config config.budget n report.cycles new.tap.log at) (sym is)
          (subst (λ n. IsTimeUp old.clock.config config.budget instructions n new.tap.log at) (sym ran)
          (s.time_up at (sym ends ∙ ended))));
    }

-- what is left where memory was wanted
pub wanting_of : (config : Config) (old new : PortState) → old.clock.config ≡ config
    → IsCounted old.clock old.tap.log → Short old new → Wanting config old.memory new.memory old.tap new.tap
wanting_of config old new same counted s = record {
  end = s.end;
  pace = subst (λ (c : Config). KeepsPace c s.end new.tap.log) same s.pace;
  leaves = subst (λ (c : Config). DrawsLeaves c new.tap.log) (s.config ∙ same) (s.counts counted).leaves;
  tied = s.tied;
  later = s.later;
  unaltered = s.unaltered;
  prepared = s.prepared;
  asked = s.asked;
}

-- A report of what a run over an encrypted memory finished is the flat run's.
pub report_flat : (config : Config) (image : Image) (input : List ℕ) (report : Report) (instructions : ℕ)
    (ending : Ending) (last : Machine) → report.instructions ≡ instructions → report.ending ≡ ending
    → report.output.items ≡ last.files.output
    → IsFlat instructions (start_of config image input) image.bytes.items ending last
    → IsFlatReport config image input report
report_flat config image input report instructions ending last count ends output flat =
    let run : ℕ → FlatRun = λ n. flat_run n (start_of config image input) image.bytes.items in
    record {
      finished = ap (λ n. (run n).instructions) count ∙ (flat.finished ∙ sym count);
      output = output ∙ sym (ap (λ n. (run n).machine.files.output) count
          ∙ ap (λ (m : Machine). m.files.output) flat.leaves);
      ends = subst (λ n. FlatEnds n (start_of config image input) image.bytes.items report.ending) (sym count)
          (subst (FlatEnds instructions (start_of config image input) image.bytes.items) (sym ends) flat.ends);
    }

-- A report of a run whose memory wasn't prepared is the flat run's before its first instruction.
pub unprepared_flat : (config : Config) (image : Image) (input : List ℕ) (report : Report) (tap tap' : TapState)
    → IsUnprepared report tap tap' → IsFlatReport config image input report
unprepared_flat config image input report tap tap' is =
    let start = start_of config image input in
    report_flat config image input report 0 Device start is.instructions is.ending is.output (record {
      finished = ap (λ (r : FlatRun). r.instructions) (flat_run-zero start image.bytes.items);
      leaves = ap (λ (r : FlatRun). r.machine) (flat_run-zero start image.bytes.items);
      ends = tt;
    })

-- An empty cache over a new encrypted memory stands for zeros, into which the image is loaded.
pub start_image : (keys : Keys) (config : Config) (levels : ℕ) (o : OramState) (image : Image) → AreKeys keys
    → IsConfig config → IsImage config.base config.size image → length image.bytes.items ≡ config.size
    → IsNew keys config levels o → 0 < config.sets → 0 < config.ways
    → (memory : List ℕ) × Computes keys levels (empty_cache config.sets config.ways) memory o
    × (loaded image.bytes.items image.marked.items memory ≡ image.bytes.items)
start_image keys config levels o image lawful is_config is_image long new some room =
    let lines : keys.shape.lines ≡ config.shape.lines = ap (λ (s : Shape). s.lines) (sym new.shape) in
    let image_is = subst (λ n. IsImage config.base n image) (config_lines config is_config) is_image in (
      replicate (64 * keys.shape.lines) 0,
      start_computes keys lawful levels config o config.sets config.ways is_config new some room,
      ap (λ n. loaded image.bytes.items image.marked.items (replicate (64 * n) 0)) lines
          ∙ loaded_image config.base config.shape.lines image image_is (long ∙ config_lines config is_config),
    )

-- a configuration's cache has sets, and these have ways
pub some_sets : (config : Config) → IsConfig config → 0 < config.sets
some_sets config is =
    let (power, most, sets) = is.sets in omega (arith, sets, pow_mono {i = 0} {j = power} (omega arith))

pub some_ways : (config : Config) → IsConfig config → 0 < config.ways
some_ways config is = omega (arith, is.ways.0)
