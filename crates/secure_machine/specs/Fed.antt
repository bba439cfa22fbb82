-- What the core of a run computes on, whatever was answered: it is the machine that is fed with the answered lines.
use Rattle.std.specs.Prelude.{◌≡◌, ◌+◌, ℕ, List, [], ◌++◌, Ok, Err}
use Rattle.asc_base.specs.declared.settings.Config.{Config}
use Rattle.bus_watch.specs.Log.{TapState}
use Rattle.data_cache.specs.Cached.{StandsAs}
use Rattle.data_cache.specs.CacheLists.{Sets, Lines}
use Rattle.data_cache.specs.Contents.{Contents}
use Rattle.elf_loader.specs.declared.image.Image.{Image}
use Rattle.fed_run.specs.Answered.{AreLines, feed_of}
use Rattle.fed_run.specs.Fed.{Feed, NotedLine, NoneLeft, FedRun, Ends as EndsAs, fed_step, fed_run, sets_along}
use Rattle.fed_run.specs.Whole.{fed, feed_at_start}
use Rattle.rv32_core.specs.FlatRun.{FlatEnding, Exited, Trapped, Budget as FlatBudget}
use Rattle.rv32_core.specs.LineList.{WholeWrite, used}
use Rattle.rv32_core.specs.Machine.{Machine}
use Rattle.rv32_core.specs.declared.outcome.Done.{Done}
use Rattle.secure_machine.specs.Answered.{answered_lines}
use Rattle.secure_machine.specs.Run.{start_of}
use Rattle.secure_machine.specs.declared.lines.TimedLines.{TimedLines}
use Rattle.secure_machine.specs.declared.machine.Cause.{Cause}
use Rattle.secure_machine.specs.declared.machine.Cause.TheVariants.{Ends, Stops}
use Rattle.secure_machine.specs.declared.machine.Halted.{Halted}
use Rattle.secure_machine.specs.declared.report.Ending.{Ending}
use Rattle.secure_machine.specs.declared.report.Ending.TheVariants.{Exit, Trap, Budget, TimeUp, StashFull, Integrity}
use Rattle.secure_machine.specs.declared.report.Ending.TheVariants.{Device}
use Rattle.secure_machine.specs.declared.report.Report.{Report}

-- ---- how the machine that is fed ends
module _ (ways instructions : ℕ) (machine : Machine) (feed : Feed) where
  -- with one instruction more it ends so, and finishes just so many
  abbrev pub EndsWith : FlatEnding → Type 0
  EndsWith ending =
      let run = fed_run ways (instructions + 1) machine feed in
      (run.ending ≡ EndsAs ending) × (run.instructions ≡ instructions)

  -- How the machine that is fed ends after so many instructions, where a run over an encrypted memory ends so. At an
  -- exit it has exited with this status, and at a trap the next instruction traps so. Where the budget or the time was
  -- used up it goes on. After a stop nothing is said of how it ends: the stop may have come behind an exit or a trap.
  abbrev pub FedEnds : Ending → Type 0
  FedEnds (Exit status) = EndsWith (Exited status)
  FedEnds (Trap kind pc) = EndsWith (Trapped kind pc)
  FedEnds Budget = (fed_run ways instructions machine feed).ending ≡ EndsAs FlatBudget
  FedEnds (TimeUp at) = (fed_run ways instructions machine feed).ending ≡ EndsAs FlatBudget
  FedEnds (StashFull held) = Unit {0}
  FedEnds (Integrity evidence) = Unit {0}
  FedEnds Device = Unit {0}

  -- With one instruction more the machine that is fed uses all lines that are left to it; it finishes so many, and they
  -- leave this machine.
  pub record IsFedTo (last : Machine) : Type 0 where
    pub uses : (fed_run ways (instructions + 1) machine feed).feed.left ≡ []
    pub finished : (fed_run ways instructions machine feed).instructions ≡ instructions
    pub leaves : (fed_run ways instructions machine feed).machine ≡ last

  -- And a run ended so; or no more instructions came, by itself or by a stop.
  abbrev pub IsFedRun : Ending → Machine → Type 0
  IsFedRun ending last = IsFedTo last × FedEnds ending

  abbrev pub CauseFed : Cause → Machine → Type 0
  CauseFed (Ends ending until) last = IsFedRun ending last
  CauseFed (Stops stop) last =
      IsFedTo last × ((fed_run ways instructions machine feed).ending ≡ EndsAs FlatBudget)

-- ---- lines with a clock
-- the list of bytes of an image, beside these lists of kept lines
abbrev pub over_image : Image → Sets → Lines
over_image image sets = record { memory = image.bytes.items; sets = sets }

-- the same after its lines were written whole into a cache for which these lists stood
abbrev pub over_loaded : ℕ → Image → Sets → Lines
over_loaded ways image sets = over_image image (sets_along ways sets (used WholeWrite image.marked.items))

module _ {M W L : Type 0} (tap_of : W → TapState) where
  -- the lines that were answered, as the log notes them
  abbrev pub noted : TimedLines M W L → List NotedLine
  noted s = answered_lines (tap_of s.tap.now).log.events

  -- these were answered since
  abbrev pub NotesMore : TimedLines M W L → List NotedLine → TimedLines M W L → Type 0
  NotesMore s lines t = (noted t ≡ noted s ++ lines) × AreLines lines

  -- An instruction is that of the machine that is fed with just the lines that were answered: it leaves this machine,
  -- and lists that stand for the cache.
  abbrev pub IsFedStep : ℕ → Machine → Lines → (s t : TimedLines M W L) → Contents → Machine → Done → Type 0
  IsFedStep ways machine lists s t cache next done =
      (lines : List NotedLine) × (now : Lines) × NotesMore s lines t × StandsAs t.count ways cache now
      × ((more : List NotedLine) → AreLines more
      → fed_step ways machine (feed_of lists (lines ++ more))
      ≡ Ok (record { machine = next; feed = feed_of now more; done = done }))

  -- It was stopped; and the machine that is fed with the lines that were answered until then starves.
  abbrev pub IsStarvedStep : ℕ → Machine → Lines → (s t : TimedLines M W L) → Type 0
  IsStarvedStep ways machine lists s t =
      (lines : List NotedLine) × NotesMore s lines t × (fed_step ways machine (feed_of lists lines) ≡ Err NoneLeft)

  -- After so many instructions a run came to its end in some more; and so does the machine that is fed with just the
  -- lines that were answered for these.
  abbrev pub HaltsFed : ℕ → ℕ → Machine → Lines → (s t : TimedLines M W L) → Halted → Machine → Type 0
  HaltsFed ways before machine lists s t halted last =
      (lines : List NotedLine) × (more : ℕ) × NotesMore s lines t × (halted.instructions ≡ before + more)
      × CauseFed ways more machine (feed_of lists lines) halted.cause last

-- ---- a report
-- so many instructions of the machine that is fed with these lines, from the start with an image and an input
abbrev pub fed_from_start : Config → Image → List ℕ → ℕ → List NotedLine → FedRun
fed_from_start config image input n lines =
    fed config.ways config.sets image.bytes.items image.marked.items n (start_of config image input) lines

-- A report is that of the machine that is fed with these lines, whatever they are. With one instruction more than were
-- reported it uses all of them, in order, each for the line for which the cache's lists ask then: one with another
-- number would be left. With just the reported instructions it finishes these, and its output is the reported one. And
-- it ends as was reported.
pub record IsFed (config : Config) (image : Image) (input : List ℕ) (report : Report) (lines : List NotedLine) : Type 0
  where
    pub uses : (fed_from_start config image input (report.instructions + 1) lines).feed.left ≡ []
    pub finished : (fed_from_start config image input report.instructions lines).instructions ≡ report.instructions
    pub output : report.output.items
        ≡ (fed_from_start config image input report.instructions lines).machine.files.output
    pub ends : FedEnds config.ways report.instructions (start_of config image input)
        (feed_at_start config.ways config.sets image.bytes.items image.marked.items lines) report.ending
