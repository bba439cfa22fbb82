-- What holds of a run over every memory, whatever it answers, in six parts; and what holds where no reply was altered.
use Rattle.std.specs.Prelude.{◌≡◌, ◌<◌, ◌+◌, ◌^◌, ◌⊎◌, ℕ, List, [], IsSome, length}
use Rattle.std.specs.List.{count_by}
use Rattle.asc_base.specs.TreeShape.{olat_of}
use Rattle.asc_base.specs.declared.settings.Config.{Config}
use Rattle.asc_base.specs.declared.stop.Evidence.{Evidence}
use Rattle.bus_schedule.specs.Scheduled.{log_code}
use Rattle.bus_schedule.specs.Shown.{indices_of}
use Rattle.bus_schedule.specs.Timetable.{public_of}
use Rattle.bus_watch.specs.Honest.{MayTellMirror}
use Rattle.elf_loader.specs.declared.image.Image.{Image}
use Rattle.epoch_learner.specs.Stands.{KeepsPace}
use Rattle.log_replay.specs.Judged.{SaysMirror, HaveOrigins}
use Rattle.log_replay.specs.Order.{LogOrder}
use Rattle.oram_contents.specs.Entries.{Keys}
use Rattle.oram_contents.specs.Forgery.{Forgery}
use Rattle.oram_lines.specs.Standing.{DrawnOnce}
use Rattle.play_run.specs.Shows.{IsPlayed}
use Rattle.rate_enforcer.specs.Counts.{is_answered}
use Rattle.secure_machine.specs.Answered.{answered_lines}
use Rattle.secure_machine.specs.Fed.{IsFed}
use Rattle.secure_machine.specs.Home.{EndsAtHome}
use Rattle.secure_machine.specs.Judged.{EndsInOrder, ShowsEnding, log_end}
use Rattle.secure_machine.specs.Plays.{play_report, play_with}
use Rattle.secure_machine.specs.Run.{DrawsLeaves, IsFlatReport, IsInBudget, IsTiedOr, IsUnprepared}
use Rattle.secure_machine.specs.Spent.{IsSpentOn}
use Rattle.secure_machine.specs.declared.report.Ending.TheVariants.{Integrity}
use Rattle.secure_machine.specs.declared.report.Report.{Report}
use Rattle.ascend_top.specs.Lent.{Lent}

module _ (config : Config) (image : Image) (input : List ℕ) (keys : Keys) (lent : Lent) (report : Report) where
  -- 1. Refinement or forgery: the report is the flat run's, and report and log are those of the program's Play, of the
  -- Play cut in a slot by a stop that can come there, or of the run whose memory couldn't be prepared; or the log shows
  -- a forgery.
  pub record IsRefined : Type 0 where
    pub flat : Forgery keys lent.tap'.log ⊎ IsFlatReport config image input report
    pub plays : Forgery keys lent.tap'.log
        ⊎ IsPlayed config (play_with config image input) (play_report report) lent.tap'.log

  -- 2. Schedule: up to the reported end, which comes less than a slot's cycles after the time of the settings, the log
  -- keeps the pace of the timetable, and its code tells no more bits than the settings allow. No move passes by the
  -- tap: the memory was asked for just these. Where the bus was prepared, what the memory was asked is tied to the log,
  -- and any buckets that it tells afterwards are the mirror's; a move that failed was the last one, and the ending says
  -- so. As many buckets count as prepared as the shape has.
  pub record IsOnSchedule : Type 0 where
    pub pace : KeepsPace config report.last lent.tap'.log
    pub in_time : report.last < config.time + olat_of config.shape.levels
    pub bits : log_code (public_of config) lent.tap'.log < 2 ^ config.leak
    pub asked : lent.memory'.moved ≡ lent.memory.moved + length lent.tap'.log.moves
    pub tied : IsTiedOr config report.ending (IsUnprepared report lent.tap lent.tap') lent.memory lent.memory'
        lent.tap'
    pub told : MayTellMirror lent.memory' lent.tap' ⊎ IsUnprepared report lent.tap lent.tap'
    pub count : lent.memory'.count ≡ config.shape.buckets

  -- 3. Points, seeds, contents: the log notes slots in order, each leaf that of its point, and of the tree, and each
  -- was done, the last one as far as the ending says; where the bus was prepared, each bucket is as it was sealed last,
  -- of the slots that the log says, under the number of its write, and each entry in it stands on the path of its leaf
  -- and was tagged or stood in an altered reply; and no point was drawn twice, or the log shows a forgery.
  pub record HasContents : Type 0 where
    pub order : LogOrder keys lent.tap'.log
    pub done : EndsInOrder keys report.ending lent.tap'.log ⊎ IsUnprepared report lent.tap lent.tap'
    pub leaves : DrawsLeaves config lent.tap'.log
    pub contents : SaysMirror keys lent.tap'.log (log_end report.ending) lent.tap'.mirror
        ⊎ IsUnprepared report lent.tap lent.tap'
    pub origins : HaveOrigins keys lent.tap'.log lent.tap'.mirror ⊎ IsUnprepared report lent.tap lent.tap'
    pub points : Forgery keys lent.tap'.log ⊎ DrawnOnce lent.tap'.log.events

  -- 4. Rates: when slots start, and which rates are chosen, is in the pace of 2. The choices are as many as reported,
  -- their code is the one reported, and so many choices have at most two to the leakage budget codes.
  pub record HasRates : Type 0 where
    pub choices : report.choices ≡ length (indices_of lent.tap'.log.events)
    pub code : report.code ≡ log_code (public_of config) lent.tap'.log
    pub budget : IsInBudget config lent.tap'.log

  -- 5. Verdicts: the run ends with evidence or a full stash exactly at the first slot, or the first append, that the
  -- log shows to be wrong, and as it shows it.
  pub record HasVerdict : Type 0 where
    pub verdict : ShowsEnding keys config.stash report.ending lent.tap'.log

  -- 6. What the core sees: the reported fetches are the answered lines, the report is that of the machine that is fed
  -- with these, and its clock is no further than what its cycles were spent on.
  pub record SeesAnswers : Type 0 where
    pub fetches : report.fetches ≡ count_by is_answered lent.tap'.log.events
    pub fed : IsFed config image input report (answered_lines lent.tap'.log.events)
    pub spent : IsSpentOn config image input report lent.tap'.log

  -- Whatever the memory answers.
  pub record Dishonest : Type 0 where
    pub refinement : IsRefined
    pub schedule : IsOnSchedule
    pub contents : HasContents
    pub rates : HasRates
    pub verdicts : HasVerdict
    pub core : SeesAnswers

  -- Where no reply was altered the report is the flat run's, report and log are those of the Play, or of the Play cut
  -- by a full stash or a failure, since no evidence comes, and there is no forgery; and where the run ended behind an
  -- instruction each block stands at one place, under its counter and with its line. No reply is altered over a memory
  -- that told its buckets before the run.
  pub record EndToEnd : Type 0 where
    pub flat : lent.tap'.log.altered ≡ [] → IsFlatReport config image input report
    pub played : lent.tap'.log.altered ≡ []
        → IsPlayed config (play_with config image input) (play_report report) lent.tap'.log
    pub honest : lent.tap'.log.altered ≡ [] → (evidence : Evidence) → report.ending ≡ Integrity evidence → ⊥
    pub unforged : lent.tap'.log.altered ≡ [] → Forgery keys lent.tap'.log → ⊥
    pub home : EndsAtHome keys config (play_with config image input) report.instructions report.cycles report.ending
        lent.tap'.log
    pub unaltered : IsSome lent.memory.told → lent.tap'.log.altered ≡ []
