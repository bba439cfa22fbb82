-- What a stop leaves in the log of a port of an access, an append or a wait: which part of which slot was done.
use Rattle.std.specs.Prelude.{◌≡◌, ◌<◌, ◌≤◌, ◌⊎◌, ℕ, List, [], ◌∷◌, ◌++◌, Option}
use Rattle.asc_base.specs.declared.block.Entry.{Entry}
use Rattle.asc_base.specs.declared.block.Line.{Line}
use Rattle.asc_base.specs.declared.block.Message.{Message}
use Rattle.asc_base.specs.declared.stop.Stop.{Stop}
use Rattle.asc_base.specs.declared.stop.Stop.TheVariants.{Integrity, StashFull, TimeUp, Device, NoMemory}
use Rattle.bus_schedule.specs.Timetable.{public_of}
use Rattle.bus_watch.specs.Log.{LogLists}
use Rattle.bus_watch.specs.declared.log.Event.{Event}
use Rattle.oram_contents.specs.Contents.{Contents}
use Rattle.oram_contents.specs.Entries.{Keys}
use Rattle.oram_contents.specs.Slots.{ArePasses, HasSeeds, IsRefill}
use Rattle.oram_contents.specs.Steps.{Adds}
use Rattle.oram_contents.specs.Verdict.{line_found}
use Rattle.oram_walk.specs.declared.slots.Access.{Access}
use Rattle.rate_enforcer.specs.PortStep.{PortState, contents}
use Rattle.run_play.specs.Halt as cut
use Rattle.run_play.specs.Halt.{Refused, Overfull, MoveFails, AppendRefused, AppendOverfull}
use Rattle.run_play.specs.Slots.{Pace, Numbers, Slot, passed}
use Rattle.oram_play.specs.Playing.{IsCut}
use Rattle.oram_play.specs.Taken.{HasTaken, with_appended, before_asked, asked_start, asked_slots}

-- A line was found in the slot of an access that stopped later: dummies passed; up to what was accepted the log is that
-- of a slot that puts nothing back; and since then no reply was altered.
pub record WasFound (keys : Keys) (access : Access) (line : Line) (old new : PortState) : Type 0 where
  pub passed : ℕ
  pub mid : LogLists
  pub between : Contents
  pub passes : ArePasses keys passed old.tap.log mid (contents old) between old.clock.dummies
  pub seeds : HasSeeds between
  pub start : ℕ
  pub found : Option Entry
  pub log : LogLists
  pub after : Contents
  pub slot : IsRefill keys mid log between after start access.address.0 access.counter found
  pub line_is : line.0 ≡ line_found found
  pub more : List Event
  pub adds : Adds log new.tap.log more []

module _ (keys : Keys) (levels : ℕ) (numbers : Numbers) (slots : List Slot) (pace : Pace) where
  -- The own slot of an access was cut, which starts before the time of the settings: before its block was put back, so
  -- that any line will do; or after it, with the line that was found. Whatever would be appended behind it will do.
  abbrev pub IsOwnCut : Access → PortState → cut.Stop → PortState → Type 0
  IsOwnCut access old stop new =
      (asked_start old.clock.config numbers pace access < old.clock.config.time)
      × (((line : Line) (appended : Option Message)
      → IsCut levels slots (asked_slots old.clock.config numbers pace access line appended).slots stop new)
      ⊎ ((line : Line) × WasFound keys access line old new × ((appended : Option Message)
      → IsCut levels slots (asked_slots old.clock.config numbers pace access line appended).slots stop new)))

  -- one of the dummies before an access was cut, or its own slot before its block was put back
  abbrev pub IsReadCut : Access → PortState → cut.Stop → PortState → Type 0
  IsReadCut access old stop new =
      IsCut levels slots (before_asked old.clock.config numbers pace access).slots stop new
      ⊎ ((asked_start old.clock.config numbers pace access < old.clock.config.time)
      × ((line : Line) (appended : Option Message)
      → IsCut levels slots (asked_slots old.clock.config numbers pace access line appended).slots stop new))

  -- one of the dummies before an access was cut, or its own slot
  abbrev pub IsAccessCut : Access → PortState → cut.Stop → PortState → Type 0
  IsAccessCut access old stop new =
      IsCut levels slots (before_asked old.clock.config numbers pace access).slots stop new
      ⊎ IsOwnCut access old stop new

  -- What a stop leaves of an access: evidence comes after the reads of one of its slots; a full stash between its reads
  -- and its writes; a move of one fails; or all dummies are taken, behind which no slot starts before the time of the
  -- settings. Of want of memory nothing is said.
  abbrev pub AccessLeaves : Access → PortState → Stop → PortState → Type 0
  AccessLeaves access old (Integrity evidence) new = IsReadCut access old (Refused evidence) new
  AccessLeaves access old (StashFull held) new = IsAccessCut access old (Overfull held) new
  AccessLeaves access old (TimeUp at) new =
      let before = before_asked old.clock.config numbers pace access in
      HasTaken new (slots ++ before.slots) before.pace × (at ≡ asked_start old.clock.config numbers pace access)
      × (old.clock.config.time ≤ at) × (new.clock.last ≡ before.pace.heard.ended)
  AccessLeaves access old Device new = (move : ℕ) × IsAccessCut access old (MoveFails move) new
  AccessLeaves access old NoMemory new = Unit {0}

  -- What a stop leaves of a wait up to a time: one of the dummies was cut.
  abbrev pub WaitLeaves : ℕ → PortState → Stop → PortState → Type 0
  WaitLeaves time old (Integrity evidence) new =
      IsCut levels slots (passed (public_of old.clock.config) numbers time pace).slots (Refused evidence) new
  WaitLeaves time old (StashFull held) new =
      IsCut levels slots (passed (public_of old.clock.config) numbers time pace).slots (Overfull held) new
  WaitLeaves time old (TimeUp at) new = ⊥
  WaitLeaves time old Device new =
      (move : ℕ) × IsCut levels slots (passed (public_of old.clock.config) numbers time pace).slots (MoveFails move) new
  WaitLeaves time old NoMemory new = Unit {0}

-- What a stop leaves of an append behind a slot: the whole slot with its message, which is refused or finds no room.
abbrev pub AppendLeaves : ℕ → List Slot → Slot → Message → Stop → PortState → Type 0
AppendLeaves levels slots slot message (Integrity evidence) new =
    IsCut levels slots (with_appended slot message ∷ []) (AppendRefused evidence) new
AppendLeaves levels slots slot message (StashFull held) new =
    IsCut levels slots (with_appended slot message ∷ []) (AppendOverfull held) new
AppendLeaves levels slots slot message (TimeUp at) new = ⊥
AppendLeaves levels slots slot message Device new = ⊥
AppendLeaves levels slots slot message NoMemory new = ⊥
