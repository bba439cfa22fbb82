-- Where a run over a cache and an encrypted memory stands in a whole play: before an image line, before an instruction,
-- and where no more instructions come.
use Rattle.std.specs.Prelude.{◌≡◌, ◌+◌, ℕ, min, List, []}
use Rattle.asc_base.specs.declared.settings.Config.{Config}
use Rattle.data_cache.specs.Cached.{StandsAs}
use Rattle.data_cache.specs.CacheLists.{Lines, Sets}
use Rattle.data_cache.specs.Contents.{Contents}
use Rattle.oram_contents.specs.Entries.{Keys}
use Rattle.oram_frontend.specs.Oram.{OramState}
use Rattle.oram_play.specs.Playing.{PlaysAs}
use Rattle.play_run.specs.Follows.{Follows}
use Rattle.play_run.specs.Timed.{TimedState}
use Rattle.run_play.specs.Honest.{IsHonest}
use Rattle.run_play.specs.Play.{Play, PlayEnding, Exited, Trapped, after_slots, after_image, image_slots, image_sets}
use Rattle.run_play.specs.Play.{ends, play_from}
use Rattle.run_play.specs.Requests.{Standing, Taken}
use Rattle.run_play.specs.Slots.{Slot, Numbers}
use Rattle.rv32_core.specs.Machine.{Machine}
use Rattle.rv32_core.specs.declared.outcome.Ended.{Ended}
use Rattle.rv32_core.specs.declared.outcome.Ended.TheVariants.{No, Exit, Trap}

-- the play from image lines on that are still to be loaded
abbrev pub image_from : Config → List ℕ → Machine → List ℕ → Sets → Standing → Play
image_from config memory machine marked sets now =
    let loaded : Taken = image_slots config memory marked sets now in
    let lines : Lines = record { memory = memory; sets = image_sets config marked sets } in
    after_slots loaded.slots
    (after_image config (play_from config config.budget machine lines) loaded.standing loaded.standing.late)

-- with cycles more on the clock
abbrev pub spent : ℕ → TimedState → TimedState
spent cost s = record s { clock = s.clock + cost }

-- these numbers
abbrev pub numbers_of : ℕ → ℕ → ℕ → Numbers
numbers_of instructions cycles fetches =
    record { instructions = instructions; cycles = cycles; fetches = fetches }

module _ (keys : Keys) (levels : ℕ) (config : Config) where
  -- Cache and encrypted memory stand where a play stands, before an image line or an instruction, after so many
  -- instructions: the one took the play's slots, and cache and lists stand for the same bytes, of which these lines are
  -- still to be loaded.
  pub record StandsAt (before : ℕ) (pending : List ℕ) (slots : List Slot) (lines : Lines) (now : Standing)
      (cache : Contents) (s : TimedState) : Type 0 where
    pub follows : Follows keys levels config slots now s
    pub cycles : now.numbers.cycles ≡ now.clock
    pub instructions : now.numbers.instructions ≡ before
    pub cached : StandsAs keys.shape.lines config.ways cache lines
    pub honest : IsHonest config.ways keys.shape.lines pending lines now.data_lines

  -- So in a whole play, where these image lines are still to be loaded into these bytes.
  pub record StandsInImage (whole : Play) (memory : List ℕ) (machine : Machine) (marked : List ℕ) (cache : Contents)
      (s : TimedState) : Type 0 where
    pub slots : List Slot
    pub sets : Sets
    pub now : Standing
    pub whole_is : whole ≡ after_slots slots (image_from config memory machine marked sets now)
    pub at : StandsAt 0 marked slots (record { memory = memory; sets = sets }) now cache s

  -- So after so many instructions, where so many are left.
  pub record StandsInRun (whole : Play) (before left : ℕ) (machine : Machine) (cache : Contents) (s : TimedState)
      : Type 0 where
    pub slots : List Slot
    pub lines : Lines
    pub now : Standing
    pub whole_is : whole ≡ after_slots slots (play_from config left machine lines now)
    pub at : StandsAt before [] slots lines now cache s

  -- No more instructions come in a whole play: it ends so, with these numbers, after the slots that start before a
  -- time.
  pub record EndsIn (whole : Play) (ending : PlayEnding) (numbers : Numbers) (until : ℕ) (o : OramState) : Type 0 where
    pub slots : List Slot
    pub now : Standing
    pub whole_is : whole ≡ after_slots slots (ends config ending until now)
    pub plays : PlaysAs keys levels config slots now o
    pub numbers_are : now.numbers ≡ numbers

  -- After an instruction that began at a clock, after so many, and whose cost is spent: the run stands before the next
  -- one, or ends.
  abbrev pub InstructionLeaves : Play → (before left clock : ℕ) → Machine → Contents → TimedState → Ended → Type 0
  InstructionLeaves whole before left clock machine cache t No =
      StandsInRun whole (before + 1) left machine cache t
  InstructionLeaves whole before left clock machine cache t (Exit status) =
      EndsIn whole (Exited status) (numbers_of (before + 1) t.clock t.fetches) (min t.clock config.time) t.oram
  InstructionLeaves whole before left clock machine cache t (Trap kind pc) =
      EndsIn whole (Trapped kind pc) (numbers_of before clock t.fetches) (min clock config.time) t.oram
