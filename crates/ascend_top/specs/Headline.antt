-- The headline of a run over encrypted memory, word by word:
--
-- For every accepted program, input, key, budget and behaviour of the memory, the output and ending are those of flat
-- RV32IM after the reported instructions, or a named stop's prefix, unless an altered reply carried a valid tag on a
-- message never tagged; and always the bus's moves are the schedule of the drawn leaves, the rate code below two to the
-- leakage budget, and the end time.
use Rattle.std.specs.Prelude.{◌≡◌, ◌<◌, ◌+◌, ◌^◌, ◌⊎◌, ◌++◌, ℕ, List, length, Option, IsSome, Result, Ok, Err}
use Rattle.asc_base.specs.declared.settings.Config.{Config}
use Rattle.asc_outside.specs.Host.{Files}
use Rattle.bus_schedule.specs.Schedule.{schedule}
use Rattle.bus_schedule.specs.Scheduled.{log_code}
use Rattle.bus_schedule.specs.Shown.{starts_of, leaves_of}
use Rattle.bus_schedule.specs.Timetable.{public_of, timetable}
use Rattle.bus_watch.specs.Log.{LogLists}
use Rattle.oram_contents.specs.Forgery.{Forgery}
use Rattle.play_run.specs.Shows.{IsPlayed}
use Rattle.run_play.specs.Play.{Play}
use Rattle.rv32_core.specs.FlatRun.{flat_run}
use Rattle.secure_machine.specs.LastMove.{IsAfter}
use Rattle.secure_machine.specs.Plays.{play_report, play_with}
use Rattle.secure_machine.specs.Run.{IsFlatReport, start_of}
use Rattle.secure_machine.specs.declared.report.Report.{Report}
use Rattle.ascend_words.specs.Grammar.{Pair}
use Rattle.ascend_words.specs.declared.table.Command.{Command}
use Rattle.ascend_words.specs.declared.table.Command.TheVariants.{Run, Flat, Asm, Disasm, Check, Gen}
use Rattle.ascend_top.specs.EncryptedRun.{keys_from}
use Rattle.ascend_top.specs.Lent.{IsIdle, Lent}
use Rattle.ascend_top.specs.Made.{Made, Encrypted}
use Rattle.ascend_top.specs.Run.{IsBegin}
use Rattle.ascend_top.specs.declared.commands.flat.Program.{Program}
use Rattle.ascend_top.specs.declared.commands.run.Begin.{Begin}
use Rattle.ascend_top.specs.declared.refusal.Refusal.{Refusal}

-- An altered reply carried a valid tag on a message never tagged: the log shows a forgery, under the keys of the
-- master key. `Forgery` stands in oram_contents, specs/Forgery.antt.
abbrev pub IsForged : Program → (key : List ℕ) → LogLists → Type 0
IsForged program key log = Forgery (keys_from program.config key) log

-- The output and ending are those of flat RV32IM after the reported instructions, or a named stop's prefix.
pub record IsFlatOrPrefix (program : Program) (report : Report) : Type 0 where
  -- The flat run finishes as many instructions, writes the output, and ends so where no stop is named: secure_machine,
  -- specs/Run.antt and specs/FlatEnds.antt.
  pub flat : IsFlatReport program.config program.image program.input.items report
  -- The output of every longer flat run begins with the one reported. `flat_run` stands in rv32_core,
  -- specs/FlatRun.antt.
  pub prefix : (more : ℕ) → (rest : List ℕ)
      × ((flat_run (report.instructions + more) (start_of program.config program.image program.input.items)
      program.image.bytes.items).machine.files.output ≡ report.output.items ++ rest)

-- the Play of a program with its input
abbrev pub program_play : Program → Play
program_play program = play_with program.config program.image program.input.items

-- Beside the sentence: report and log are those of the program's Play, or of the Play cut in one of its slots by a stop
-- that can come there, or of the run whose memory couldn't be prepared. `Play` and `Halt` stand in run_play,
-- specs/Play.antt and specs/Halt.antt, `IsPlayed` in play_run, specs/Shows.antt. Which evidence stops it is the verdict
-- of the log (`Dishonest`).
abbrev pub IsPlayOrCut : Program → Report → LogLists → Type 0
IsPlayOrCut program report log =
    IsPlayed program.config (program_play program) (play_report report) log

-- Always: the slots start when the timetable says, one leaf is drawn for each, and the bus's moves are the schedule of
-- the drawn leaves, the rate code and the end time; and the rate code is below two to the leakage budget. No other move
-- was asked of the memory. `timetable`, `schedule` and `log_code` stand in bus_schedule, specs/Timetable.antt,
-- specs/Schedule.antt and specs/Scheduled.antt.
pub record IsAlways (config : Config) (lent : Lent) (end : ℕ) : Type 0 where
  pub starts : starts_of lent.tap'.log.events
      ≡ timetable (public_of config) (log_code (public_of config) lent.tap'.log) end
  pub leaves : length (leaves_of lent.tap'.log.events)
      ≡ length (timetable (public_of config) (log_code (public_of config) lent.tap'.log) end)
  pub moves : lent.tap'.log.moves
      ≡ schedule (public_of config) (log_code (public_of config) lent.tap'.log) (leaves_of lent.tap'.log.events) end
  pub code : log_code (public_of config) lent.tap'.log < 2 ^ config.leak
  pub asked : lent.memory'.moved ≡ lent.memory.moved + length lent.tap'.log.moves

-- The headline, of an accepted program with its input, a key, and a report. Over a memory that tells its buckets there
-- is no forgery. Which report it is, and which events the log has, the Play says.
pub record Headline (program : Program) (key : List ℕ) (lent : Lent) (report : Report) : Type 0 where
  pub flat : IsFlatOrPrefix program report ⊎ IsForged program key lent.tap'.log
  pub honest : IsSome lent.memory.told → IsFlatOrPrefix program report
  pub play : IsPlayOrCut program report lent.tap'.log ⊎ IsForged program key lent.tap'.log
  pub always : IsAlways program.config lent report.last

-- What is left of it where memory runs out: the end time is the cycle after the last move, or 0 where there is none.
pub record IsCutShort (program : Program) (lent : Lent) : Type 0 where
  pub end : ℕ
  pub after : IsAfter lent.tap'.log.moves end
  pub always : IsAlways program.config lent end

-- the commands whose programs run over encrypted memory
abbrev pub RunsEncrypted : Command → Type 0
RunsEncrypted Run = Unit {0}
RunsEncrypted Gen = Unit {0}
RunsEncrypted Flat = ⊥
RunsEncrypted Asm = ⊥
RunsEncrypted Disasm = ⊥
RunsEncrypted Check = ⊥

-- The headline of what such a command made, over the files as they were before it, told or not: the settings, the key,
-- the program and the input were accepted, and the headline holds of the report.
abbrev pub MadeByHeadline : Command → List Pair → Option Files → Lent → Made → Type 0
MadeByHeadline command given told lent (Encrypted run) =
    (begin : Begin) × IsBegin command given told begin × Headline begin.program begin.key lent run.report
MadeByHeadline command given told lent made = ⊥

-- The command carries it. Where it was refused nothing was asked of the memory; or it was refused behind its run, of
-- which the headline holds, or in which memory ran out.
abbrev pub CarriesHeadline : Command → List Pair → Option Files → Lent → Result Made Refusal → Type 0
CarriesHeadline command given told lent (Ok made) = MadeByHeadline command given told lent made
CarriesHeadline command given told lent (Err refusal) =
    IsIdle lent
    ⊎ ((begin : Begin) × IsBegin command given told begin
    × (((report : Report) × Headline begin.program begin.key lent report) ⊎ IsCutShort begin.program lent))
