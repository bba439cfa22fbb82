-- A report of what a run finished is that of the machine that is fed.
use Rattle.std.proofs.Common.{◌≡◌, ◌+◌, ◌∙◌, ℕ, List, [], ◌∷◌, length, refl, sym, ap, subst, arith}
use Rattle.std.specs.List.{count_by}
use Rattle.asc_base.specs.Settings.{IsConfig}
use Rattle.asc_base.specs.declared.settings.Config.{Config}
use Rattle.bus_watch.specs.Log.{TapState}
use Rattle.bus_watch.specs.declared.log.Event.{Event}
use Rattle.data_cache.specs.Cached.{StandsAs}
use Rattle.data_cache.specs.CacheLists.{no_lines}
use Rattle.data_cache.proofs.UseLaws.{empty-mirrors}
use Rattle.elf_loader.specs.declared.image.Image.{Image}
use Rattle.encrypted_run.specs.Refined.{empty_cache}
use Rattle.fed_run.specs.Fed.{NotedLine, FedRun}
use Rattle.fed_run.specs.Whole.{feed_at_start}
use Rattle.rate_enforcer.specs.Counts.{is_answered}
use Rattle.rv32_core.specs.Machine.{Machine}
use Rattle.secure_machine.specs.Answered.{answered_lines}
use Rattle.secure_machine.specs.Fed.{FedEnds, IsFed, IsFedRun, over_image, fed_from_start}
use Rattle.secure_machine.specs.Run.{IsUnprepared, start_of}
use Rattle.secure_machine.specs.declared.report.Ending.{Ending}
use Rattle.secure_machine.specs.declared.report.Ending.TheVariants.{Device}
use Rattle.secure_machine.specs.declared.report.Report.{Report}
use Rattle.secure_machine.proofs.FedLaws.{unbegun}
use Rattle.secure_machine.proofs.NotedLines.{count_lines}
use Rattle.secure_machine.proofs.ReportLaws.{config_lines, some_sets, some_ways}

-- An empty cache stands as the lists that hold nothing, beside the image.
pub start_stands : (config : Config) (image : Image) → IsConfig config → length image.bytes.items ≡ config.size
    → StandsAs config.shape.lines config.ways (empty_cache config.sets config.ways)
    (over_image image (no_lines config.sets))
start_stands config image is long = (
  empty-mirrors config.shape.lines config.sets config.ways image.bytes.items (some_sets config is) (some_ways config is)
      (long ∙ config_lines config is),
  refl,
)

-- where no line is counted as answered none was
none_listed : (lines : List NotedLine) → length lines ≡ 0 → lines ≡ []
none_listed [] none = refl
none_listed (first ∷ others) none = absurd (omega (arith, none))

pub none_answered : (events : List Event) → count_by is_answered events ≡ 0 → answered_lines events ≡ []
none_answered events none = none_listed (answered_lines events) (sym (count_lines events) ∙ none)

pub report_fed : (config : Config) (image : Image) (input : List ℕ) (report : Report) (lines : List NotedLine)
    (instructions : ℕ) (ending : Ending) (last : Machine) → report.instructions ≡ instructions → report.ending ≡ ending
    → report.output.items ≡ last.files.output
    → IsFedRun config.ways instructions (start_of config image input)
    (feed_at_start config.ways config.sets image.bytes.items image.marked.items lines) ending last
    → IsFed config image input report lines
report_fed config image input report lines instructions ending last count ends output (to, so) =
    let run : ℕ → FedRun = λ n. fed_from_start config image input n lines in
    record {
      uses = ap (λ n. (run (n + 1)).feed.left) count ∙ to.uses;
      finished = ap (λ n. (run n).instructions) count ∙ (to.finished ∙ sym count);
      output = output ∙ sym (ap (λ n. (run n).machine.files.output) count
          ∙ ap (λ (m : Machine). m.files.output) to.leaves);
      ends = subst (λ n. FedEnds config.ways n (start_of config image input)
          (feed_at_start config.ways config.sets image.bytes.items image.marked.items lines) report.ending) (sym count)
          (subst (FedEnds config.ways instructions (start_of config image input)
          (feed_at_start config.ways config.sets image.bytes.items image.marked.items lines)) (sym ends) so);
    }

-- Before its first instruction nothing was answered.
pub unprepared_fed : (config : Config) (image : Image) (input : List ℕ) (report : Report) (tap tap' : TapState)
    → IsUnprepared report tap tap' → IsFed config image input report []
unprepared_fed config image input report tap tap' is =
    let start = start_of config image input in
    report_fed config image input report [] 0 Device start is.instructions is.ending is.output (
      unbegun config.ways start (feed_at_start config.ways config.sets image.bytes.items image.marked.items []) refl,
      tt,
    )
