-- What one call of an encrypted memory does to the play that it stands in: it takes the slots of its request, or the
-- log shows a forgery.
use Rattle.std.specs.Prelude.{◌≡◌, ◌<◌, ◌⊎◌, ℕ, max, List, [], ◌++◌, Option, None, Some, Ok, Err, length}
use Rattle.asc_base.specs.declared.block.Line.{Line}
use Rattle.asc_base.specs.declared.settings.Config.{Config}
use Rattle.asc_base.specs.declared.stop.Stop.{Stop}
use Rattle.bus_schedule.specs.Timetable.{public_of}
use Rattle.data_cache.specs.Lines.{LineRequest, Fetch, Store}
use Rattle.oram_contents.specs.Entries.{Keys}
use Rattle.oram_contents.specs.Forgery.{Forgery}
use Rattle.oram_frontend.specs.Oram.{OramState, OramStep, Told, Wait}
use Rattle.oram_lines.specs.Lines.{IsNew}
use Rattle.oram_play.specs.Playing.{PlaysAs, called, LeavesOf}
use Rattle.oram_walk.specs.Front.{sizes_of}
use Rattle.run_play.specs.Requests.{StoredLines, Standing, Taken, data_line, requested, request_slots, walk_sizes}
use Rattle.run_play.specs.Requests.{standing_at_start}
use Rattle.run_play.specs.Slots.{Slot, passed}

-- a line that is stored has 64 bytes
abbrev pub IsWhole : LineRequest → Type 0
IsWhole (Fetch line) = Unit {0}
IsWhole (Store line value) = length value ≡ 64

-- what is told to a fetch, and to a store
abbrev pub told_line : StoredLines → LineRequest → Option Line
told_line lines (Fetch line) = Some (record { 0 = data_line lines line })
told_line lines (Store line value) = None

-- the dummies that start before a time, and what stands after them
abbrev pub waited : Config → ℕ → Standing → Taken
waited config time now =
    let more = passed (public_of config) now.numbers time now.pace in
    record { slots = more.slots; standing = record now { pace = more.pace } }

module _ (keys : Keys) (levels : ℕ) (config : Config) where
  -- Before its first slot an encrypted memory in these settings stands where a play begins.
  abbrev pub StartPlays : Type 0
  StartPlays = (o : OramState) → IsNew keys config levels o → o.port.clock.config ≡ config
      → sizes_of o.front ≡ walk_sizes config → PlaysAs keys levels config [] (standing_at_start config) o

  -- An answered request took its slots, ends with the last of them, and a fetch is told the line as last stored.
  abbrev pub RequestPlays : Type 0
  RequestPlays = (slots : List Slot) (now : Standing) (old new : OramState) (request : LineRequest) (told : Told)
      → PlaysAs keys levels config slots now old → requested request < keys.shape.lines → IsWhole request
      → OramStep keys levels old (called now.clock request) (Ok told) new
      → Forgery keys new.port.tap.log
      ⊎ (let taken = request_slots config now request in
      PlaysAs keys levels config (slots ++ taken.slots) taken.standing new × (told.end ≡ taken.standing.clock)
      × (told.line ≡ told_line now.data_lines request))

  -- A stopped request leaves of its slots what its stop says.
  abbrev pub RequestStops : Type 0
  RequestStops = (slots : List Slot) (now : Standing) (old new : OramState) (request : LineRequest) (stop : Stop)
      → PlaysAs keys levels config slots now old → old.stop ≡ None → requested request < keys.shape.lines
      → IsWhole request → OramStep keys levels old (called now.clock request) (Err stop) new
      → Forgery keys new.port.tap.log ⊎ LeavesOf levels slots (request_slots config now request) stop new.port

  -- A wait took the dummies that start before its time, and answers the greater of it and the last end.
  abbrev pub WaitPlays : Type 0
  WaitPlays = (slots : List Slot) (now : Standing) (old new : OramState) (time : ℕ) (told : Told)
      → PlaysAs keys levels config slots now old → OramStep keys levels old (Wait time) (Ok told) new
      → Forgery keys new.port.tap.log
      ⊎ (let taken = waited config time now in
      PlaysAs keys levels config (slots ++ taken.slots) taken.standing new
      × (told.end ≡ max time taken.standing.pace.heard.ended))

  -- A stopped wait leaves of them what its stop says.
  abbrev pub WaitStops : Type 0
  WaitStops = (slots : List Slot) (now : Standing) (old new : OramState) (time : ℕ) (stop : Stop)
      → PlaysAs keys levels config slots now old → old.stop ≡ None
      → OramStep keys levels old (Wait time) (Err stop) new
      → Forgery keys new.port.tap.log ⊎ LeavesOf levels slots (waited config time now) stop new.port

  -- So an encrypted memory begins, and so each of its calls does.
  pub record CallsPlay : Type 0 where
    pub start_plays : StartPlays
    pub request_plays : RequestPlays
    pub request_stops : RequestStops
    pub wait_plays : WaitPlays
    pub wait_stops : WaitStops
