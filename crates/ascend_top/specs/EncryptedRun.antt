-- What a run over encrypted memory leaves of the memory and the tap that it was lent.
use Rattle.std.specs.Prelude.{◌≡◌, ◌<◌, ◌≤◌, ◌+◌, ◌^◌, ◌⊎◌, ℕ, List, [], None, IsSome, length}
use Rattle.std.specs.List.{count_by}
use Rattle.asc_base.specs.declared.settings.Config.{Config}
use Rattle.asc_base.specs.declared.stop.Stop.TheVariants as why
use Rattle.bucket_codec.specs.Pad.{pad_key}
use Rattle.bus_schedule.specs.Scheduled.{log_code}
use Rattle.bus_schedule.specs.Timetable.{public_of}
use Rattle.elf_loader.specs.declared.image.Image.{Image}
use Rattle.epoch_learner.specs.Stands.{KeepsPace}
use Rattle.leaf_function.specs.Leaf.{leaf, leaf_key}
use Rattle.log_replay.specs.Judged.{BreaksOffReading, HaveOrigins, verdict_on}
use Rattle.log_replay.specs.LastSlot.{StopsInOrder}
use Rattle.log_replay.specs.Order.{LogOrder}
use Rattle.oram_contents.specs.Entries.{Keys}
use Rattle.oram_contents.specs.Forgery.{Forgery}
use Rattle.oram_lines.specs.Standing.{DrawnOnce}
use Rattle.pmmac_tags.specs.Tag.{tag_key}
use Rattle.rate_enforcer.specs.Counts.{is_dummy, is_real}
use Rattle.secure_machine.specs.Finish.{IsRightEnding, IsTimeUp}
use Rattle.secure_machine.specs.Judged.{SaysWanting}
use Rattle.secure_machine.specs.LastMove.{EndsWithMove}
use Rattle.secure_machine.specs.Run.{DrawsLeaves, IsInBudget, IsTiedButLast, chip_keys}
use Rattle.secure_machine.specs.declared.report.Ending.TheVariants.{Device, TimeUp}
use Rattle.secure_machine.specs.declared.report.Report.{Report}
use Rattle.ascend_top.specs.Dishonest.{Dishonest, EndToEnd}
use Rattle.ascend_top.specs.Lent.{Lent}

-- the keys that a chip derives from a master key: those of pads and of tags, and its leaf function
abbrev pub keys_from : Config → List ℕ → Keys
keys_from config master =
    chip_keys config (pad_key master) (tag_key master) (leaf (leaf_key master) config.shape.levels)

-- What is reported has its causes: a count of faults never falls, and the run ends by a failure only where it rose; the
-- ending is right by budget and time; where time is up, it is so at the clock before an instruction that the budget
-- still has room for, or at the timetable's first start that isn't before the time of the settings; and slots are
-- counted.
pub record HasCauses (config : Config) (lent : Lent) (report : Report) : Type 0 where
  pub faults : lent.memory.faults ≤ lent.memory'.faults
  pub device : report.ending ≡ Device → lent.memory.faults < lent.memory'.faults
  pub right : IsRightEnding config.budget config.time report.instructions report.cycles report.last report.ending
  pub time_up : (at : ℕ) → report.ending ≡ TimeUp at
      → IsTimeUp config config.budget report.instructions report.cycles lent.tap'.log at
  pub real : report.real ≡ count_by is_real lent.tap'.log.events
  pub dummies : report.dummies ≡ count_by is_dummy lent.tap'.log.events

-- A run of a program over its input, with the keys of a master key, leaves this of memory and tap, and is reported so:
-- as it does over every memory, as it does where no reply was altered, and with the causes of its ending.
pub record IsRunOf (config : Config) (image : Image) (input key : List ℕ) (lent : Lent) (report : Report)
    : Type 0 where
  pub dishonest : Dishonest config image input (keys_from config key) lent report
  pub end_to_end : EndToEnd config image input (keys_from config key) lent report
  pub causes : HasCauses config lent report

-- The same of a run that found no memory: up to some time the log keeps the pace, and it is on time up to the cycle
-- after its last move. It notes slots in order, which were done as far as the last move; no point was drawn twice, or
-- it shows a forgery; nothing is wrong in it, or its reading broke off; and where the bus was prepared the buckets are
-- those that it says, and each entry in them has its origin. No bucket counts as prepared, or as many as the shape has.
pub record IsWantOf (config : Config) (image : Image) (input key : List ℕ) (lent : Lent) : Type 0 where
  pub end : ℕ
  pub pace : KeepsPace config end lent.tap'.log
  pub leaves : DrawsLeaves config lent.tap'.log
  pub bits : log_code (public_of config) lent.tap'.log < 2 ^ config.leak
  pub tied : IsTiedButLast config lent.memory lent.memory' lent.tap lent.tap'
  pub faults : lent.memory.faults ≤ lent.memory'.faults
  pub last_move : EndsWithMove config lent.tap'.log
  pub budget : IsInBudget config lent.tap'.log
  pub asked : lent.memory'.moved ≡ lent.memory.moved + length lent.tap'.log.moves
  pub unaltered : IsSome lent.memory.told → lent.tap'.log.altered ≡ []
  pub order : LogOrder (keys_from config key) lent.tap'.log
  pub done : StopsInOrder (keys_from config key) why.NoMemory lent.tap'.log
  pub verdict : (verdict_on (keys_from config key) config.stash lent.tap'.log ≡ None)
      ⊎ BreaksOffReading (keys_from config key) config.stash lent.tap'.log
  pub contents : SaysWanting (keys_from config key) lent.tap'.log lent.tap'.mirror ⊎ (lent.tap' ≡ lent.tap)
  pub origins : HaveOrigins (keys_from config key) lent.tap'.log lent.tap'.mirror ⊎ (lent.tap' ≡ lent.tap)
  pub points : Forgery (keys_from config key) lent.tap'.log ⊎ DrawnOnce lent.tap'.log.events
  pub count : (lent.memory'.count ≡ 0) ⊎ (lent.memory'.count ≡ config.shape.buckets)

-- A run wanted memory: it found none, or it was whole and there was none for the text of its trace.
abbrev pub Wants : (config : Config) (image : Image) (input key : List ℕ) (lent : Lent) → Type 0
Wants config image input key lent =
    IsWantOf config image input key lent ⊎ ((report : Report) × IsRunOf config image input key lent report)
