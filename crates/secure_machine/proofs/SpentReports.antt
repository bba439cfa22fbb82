-- A report of a run says what its cycles were spent on.
use Rattle.std.proofs.Common.{◌≡◌, ◌+◌, ◌∙◌, ℕ, List, length, sym, subst, arith}
use Rattle.asc_base.specs.declared.settings.Config.{Config}
use Rattle.bus_watch.specs.Log.{LogLists, TapState}
use Rattle.elf_loader.specs.declared.image.Image.{Image}
use Rattle.fed_run.specs.Whole.{feed_at_start}
use Rattle.play_run.specs.Spent.{waits, fed_cost}
use Rattle.secure_machine.specs.Answered.{answered_lines}
use Rattle.secure_machine.specs.Run.{IsUnprepared, start_of}
use Rattle.secure_machine.specs.Spent.{EndsAtClock, EndsSpent, IsSpentOn}
use Rattle.secure_machine.specs.declared.report.Ending.{Ending}
use Rattle.secure_machine.specs.declared.report.Ending.TheVariants.{TimeUp, Device}
use Rattle.secure_machine.specs.declared.report.Report.{Report}

-- a run's end, as a report
pub report_spent : (config : Config) (image : Image) (input : List ℕ) (report : Report) (log : LogLists)
    (levels instructions cycles : ℕ) (ending : Ending) → levels ≡ config.shape.levels
    → report.instructions ≡ instructions → report.cycles ≡ cycles → report.ending ≡ ending
    → EndsSpent config levels (length image.marked.items
    + fed_cost config.ways instructions (start_of config image input)
    (feed_at_start config.ways config.sets image.bytes.items image.marked.items (answered_lines log.events))
    + waits levels log) instructions cycles ending → IsSpentOn config image input report log
report_spent config image input report log levels instructions cycles ending shape count clock ends spent =
    let spent_on : ℕ → ℕ → ℕ = λ l n. length image.marked.items
    + fed_cost config.ways n (start_of config image input)
    (feed_at_start config.ways config.sets image.bytes.items image.marked.items (answered_lines log.events))
    + waits l log in
    let x = subst (λ e. EndsSpent config config.shape.levels (spent_on config.shape.levels report.instructions)
    report.instructions report.cycles e) (sym ends)
    (subst (λ k. EndsSpent config config.shape.levels (spent_on config.shape.levels report.instructions)
    report.instructions k ending) (sym clock)
    (subst (λ n. EndsSpent config config.shape.levels (spent_on config.shape.levels n) n cycles ending) (sym count)
    (subst (λ l. EndsSpent config l (spent_on l instructions) instructions cycles ending) shape spent))) in
    record { cycles = x.cycles; whole = x.whole; time = x.time }

-- Before its first instruction nothing was spent.
pub unprepared_spent : (config : Config) (image : Image) (input : List ℕ) (report : Report) (tap tap' : TapState)
    (log : LogLists) → IsUnprepared report tap tap' → IsSpentOn config image input report log
unprepared_spent config image input report tap tap' log is =
    let none = is.cycles in
    record {
      cycles = omega (arith, none);
      whole = λ ends. absurd (subst (EndsAtClock report.instructions report.cycles) is.ending ends);
      time = λ at up. (let e : Device ≡ TimeUp at = sym is.ending ∙ up in absurd cc);
    }
