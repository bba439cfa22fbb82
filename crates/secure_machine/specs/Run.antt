-- What a run leaves of its memory and its tap.
use Rattle.std.specs.Prelude.{◌≡◌, ◌+◌, ◌<◌, ◌≤◌, ◌^◌, ◌⊎◌, ℕ, List, [], length, All}
use Rattle.std.specs.List.{count_by}
use Rattle.asc_base.specs.TreeShape.{olat_of}
use Rattle.asc_base.specs.declared.settings.Config.{Config}
use Rattle.asc_outside.specs.Memory.{MemoryState, zero_buckets}
use Rattle.bus_schedule.specs.Scheduled.{log_code}
use Rattle.bus_schedule.specs.Shown.{indices_of, leaves_of}
use Rattle.bus_schedule.specs.Timetable.{public_of, count_of}
use Rattle.bus_watch.specs.Honest.{TellsMirror, MayTellMirror}
use Rattle.bus_watch.specs.Log.{TapState, LogLists}
use Rattle.bus_watch.specs.RunEnd.{RanOut}
use Rattle.bus_watch.specs.Tied.{Tied, TiedAt}
use Rattle.epoch_learner.specs.Stands.{KeepsPace}
use Rattle.rate_enforcer.specs.Counts.{is_dummy, is_real, is_answered}
use Rattle.asc_base.specs.declared.block.Point.{Point}
use Rattle.elf_loader.specs.declared.image.Image.{Image}
use Rattle.oram_contents.specs.Entries.{Keys}
use Rattle.rv32_core.specs.FlatRun.{flat_run, machine_at_start, output_limit}
use Rattle.rv32_core.specs.Machine.{Machine}
use Rattle.secure_machine.specs.Finish.{IsRightEnding, IsTimeUp, moves_end}
use Rattle.secure_machine.specs.FlatEnds.{FlatEnds}
use Rattle.secure_machine.specs.Goes.{AsksMoves}
use Rattle.secure_machine.specs.declared.report.Ending.{Ending}
use Rattle.secure_machine.specs.declared.report.Ending.TheVariants.{Device, TimeUp}
use Rattle.secure_machine.specs.declared.report.Report.{Report}

-- A log's code is below the number of codes with so many digits as it has choices, and these are no more than the
-- budget of bits allows.
pub record IsInBudget (config : Config) (log : LogLists) : Type 0 where
  pub code : log_code (public_of config) log < count_of (public_of config) ^ length (indices_of log.events)
  pub few : count_of (public_of config) ^ length (indices_of log.events) ≤ 2 ^ config.leak

-- The leaves that are drawn are those of the configuration's tree.
abbrev pub DrawsLeaves : Config → LogLists → Type 0
DrawsLeaves config log = All (λ leaf. leaf < 2 ^ config.shape.levels) (leaves_of log.events)

-- A report over a prepared bus: the log keeps the pace up to its end, which comes less than a slot's cycles after the
-- time of the settings, draws leaves of the tree, has as many starts, choices and answered lines as it says, and their
-- code, and is tied to what the memory was asked; a failure has its cause, the ending is right, and time is up when it
-- is said to be. Buckets that the memory tells are still the mirror's, and as many of them are prepared.
pub record Reported (config : Config) (report : Report) (memory memory' : MemoryState) (tap tap' : TapState)
    : Type 0 where
  pub pace : KeepsPace config report.last tap'.log
  pub in_time : report.last < config.time + olat_of config.shape.levels
  pub leaves : DrawsLeaves config tap'.log
  pub real : report.real ≡ count_by is_real tap'.log.events
  pub dummies : report.dummies ≡ count_by is_dummy tap'.log.events
  pub choices : report.choices ≡ length (indices_of tap'.log.events)
  pub code : report.code ≡ log_code (public_of config) tap'.log
  pub fetches : report.fetches ≡ count_by is_answered tap'.log.events
  pub tied : (start : MemoryState) (buckets : List (List ℕ)) → Tied start buckets memory tap
      → TiedAt (moves_end report.ending) start buckets memory' tap'
  pub later : memory.faults ≤ memory'.faults
  pub cause : report.ending ≡ Device → memory.faults < memory'.faults
  pub right : IsRightEnding config.budget config.time report.instructions report.cycles report.last
      report.ending
  pub time_up : (at : ℕ) → report.ending ≡ TimeUp at
      → IsTimeUp config config.budget report.instructions report.cycles tap'.log at
  pub unaltered : TellsMirror memory tap → tap'.log.altered ≡ tap.log.altered
  pub told : MayTellMirror memory tap → MayTellMirror memory' tap'
  pub prepared : memory'.count ≡ memory.count
  pub asked : AsksMoves memory memory' tap tap'

-- Want of memory over a prepared bus: up to some time the log keeps the pace, and it draws leaves of the tree.
pub record Wanting (config : Config) (memory memory' : MemoryState) (tap tap' : TapState) : Type 0 where
  pub end : ℕ
  pub pace : KeepsPace config end tap'.log
  pub leaves : DrawsLeaves config tap'.log
  pub tied : (start : MemoryState) (buckets : List (List ℕ)) → Tied start buckets memory tap
      → TiedAt RanOut start buckets memory' tap'
  pub later : memory.faults ≤ memory'.faults
  pub unaltered : TellsMirror memory tap → tap'.log.altered ≡ tap.log.altered
  pub prepared : memory'.count ≡ memory.count
  pub asked : AsksMoves memory memory' tap tap'

-- The memory failed before the first slot: nothing was noted, and all numbers are 0.
pub record IsUnprepared (report : Report) (tap tap' : TapState) : Type 0 where
  pub tap_is : tap' ≡ tap
  pub ending : report.ending ≡ Device
  pub instructions : report.instructions ≡ 0
  pub cycles : report.cycles ≡ 0
  pub last : report.last ≡ 0
  pub output : report.output.items ≡ []
  pub fetches : report.fetches ≡ 0
  pub real : report.real ≡ 0
  pub dummies : report.dummies ≡ 0
  pub choices : report.choices ≡ 0
  pub code : report.code ≡ 0

-- From buckets of zero bytes on memory and tap are tied, as the run's moves ended, or the bus wasn't prepared. So a
-- run that doesn't report a failure had none, and one that does ended with it.
abbrev pub IsTiedOr : Config → Ending → Type 0 → (memory memory' : MemoryState) (tap' : TapState) → Type 0
IsTiedOr config ending Otherwise memory memory' tap' =
    TiedAt (moves_end ending) memory (zero_buckets config.shape.buckets) memory' tap' ⊎ Otherwise

-- the same where memory ran out, maybe in the last move
abbrev pub IsTiedButLast : Config → (memory memory' : MemoryState) (tap tap' : TapState) → Type 0
IsTiedButLast config memory memory' tap tap' =
    TiedAt RanOut memory (zero_buckets config.shape.buckets) memory' tap' ⊎ (tap' ≡ tap)

-- the keys of a chip: the tree's shape, the derived keys of pads and tags, and the leaf function
abbrev pub chip_keys : Config → (pads tags : List ℕ) → (Point → ℕ) → Keys
chip_keys config pads tags leaf_of = record { shape = config.shape; pads = pads; tags = tags; leaf_of = leaf_of }

-- the flat machine before its first instruction, for an image, a memory and an input
abbrev pub start_of : Config → Image → List ℕ → Machine
start_of config image input =
    machine_at_start image.entry config.base config.size image.heap input output_limit

-- A report is that of flat RV32IM: the flat run of the image with the input finishes as many instructions as were
-- reported, writes the output, and ends so. Where the ending is a stop, or budget or time were used up, this is a
-- prefix of every longer run.
pub record IsFlatReport (config : Config) (image : Image) (input : List ℕ) (report : Report) : Type 0 where
  pub finished : (flat_run report.instructions (start_of config image input) image.bytes.items).instructions
      ≡ report.instructions
  pub output : report.output.items
      ≡ (flat_run report.instructions (start_of config image input) image.bytes.items).machine.files.output
  pub ends : FlatEnds report.instructions (start_of config image input) image.bytes.items report.ending
