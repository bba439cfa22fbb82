-- Where each block stands at the end of a run in which no reply was altered.
use Rattle.std.specs.Prelude.{◌≡◌, ◌<◌, ℕ, List, [], Some}
use Rattle.asc_base.specs.declared.settings.Config.{Config}
use Rattle.bus_watch.specs.Log.{LogLists}
use Rattle.oram_contents.specs.Entries.{Keys}
use Rattle.oram_contents.specs.Fold.{whole as contents_in}
use Rattle.oram_contents.specs.Starts.{first_fold}
use Rattle.oram_play.specs.AtHome.{IsAtHome}
use Rattle.posmap_lookaside.specs.declared.held.Held.{Held}
use Rattle.run_play.specs.Play.{Play}
use Rattle.run_play.specs.Requests.{Standing}
use Rattle.secure_machine.specs.declared.report.Ending.{Ending}
use Rattle.secure_machine.specs.declared.report.Ending.TheVariants.{Exit, Trap, Budget, TimeUp, StashFull, Integrity}
use Rattle.secure_machine.specs.declared.report.Ending.TheVariants.{Device}

-- An ending behind an instruction: no request is cut by it. So is one where time is up at the clock and an instruction
-- is finished: a slot for which no time was left starts after the clock.
abbrev pub EndsBehind : (instructions cycles : ℕ) → Ending → Type 0
EndsBehind instructions cycles (Exit status) = Unit {0}
EndsBehind instructions cycles (Trap kind pc) = Unit {0}
EndsBehind instructions cycles Budget = Unit {0}
EndsBehind instructions cycles (TimeUp at) = (0 < instructions) × (at ≡ cycles)
EndsBehind instructions cycles (StashFull held) = ⊥
EndsBehind instructions cycles (Integrity evidence) = ⊥
EndsBehind instructions cycles Device = ⊥

-- Each block is at home in the contents that a log says: at one place, under the counter and with the line that stand
-- behind the last request of a play.
pub record LeavesHome (keys : Keys) (config : Config) (play : Play) (log : LogLists) : Type 0 where
  pub now : Standing
  pub is : play.behind ≡ Some now
  pub held : List Held
  pub home : IsAtHome keys config now held (contents_in keys (first_fold keys) log)

-- So where a run ended behind an instruction, after so many and at this clock, and no reply was altered.
abbrev pub EndsAtHome : Keys → Config → Play → (instructions cycles : ℕ) → Ending → LogLists → Type 0
EndsAtHome keys config play instructions cycles ending log =
    EndsBehind instructions cycles ending → log.altered ≡ [] → LeavesHome keys config play log
