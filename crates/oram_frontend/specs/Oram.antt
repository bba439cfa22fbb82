-- What contracts see of an encrypted memory of lines, and its calls as steps of one relation.
use Rattle.std.specs.Prelude.{◌≡◌, ◌⊎◌, ℕ, Option, None, Some, Result, Ok, Err}
use Rattle.request_plan.specs.Plan.{Ends, Stops}
use Rattle.asc_base.specs.declared.block.Line.{Line}
use Rattle.asc_base.specs.declared.stop.Stop.{Stop}
use Rattle.asc_outside.specs.Memory.{MemoryState}
use Rattle.bus_watch.specs.Log.{TapState}
use Rattle.oram_contents.specs.Entries.{Keys}
use Rattle.oram_walk.specs.Front.{FrontState}
use Rattle.oram_walk.specs.Plans.{fetch_plan, store_plan}
use Rattle.oram_walk.specs.Request.{Steps}
use Rattle.oram_walk.specs.declared.slots.Seen.{Seen}
use Rattle.rate_enforcer.specs.PortStep.{PortState, PortStep, Idle, port_of}
use Rattle.rate_enforcer.specs.State.{Rests}
use Rattle.rate_enforcer.specs.declared.clock.Clock.{Clock}
use Rattle.unified_tree.specs.Tree.{TreeState}
use Rattle.oram_frontend.specs.Access.{SlotStep}

-- counters and held blocks on chip, the port with what it is lent, and the stop that stays
pub record OramState : Type 0 where
  pub front : FrontState
  pub port : PortState
  pub stop : Option Stop

-- an encrypted memory of these parts, over this memory and this tap
abbrev pub oram_of : FrontState → Clock → TreeState → Option Stop → MemoryState → TapState → OramState
oram_of front clock tree stop memory tap =
    record { front = front; port = port_of clock tree memory tap; stop = stop }

-- It can serve: its port stands between two slots, and is of its front end's shape.
pub record CanServe (front : FrontState) (clock : Clock) (tree : TreeState) (levels : ℕ) (memory : MemoryState)
    (tap : TapState) : Type 0 where
  pub rests : Rests 0 clock tree levels memory tap
  pub shape : front.shape ≡ tree.shape

-- what is asked for: at a time a line, or a line's bytes to be stored; or that nothing is asked for up to a time
pub data OramRequest : Type 0 where
  Fetch : (asked line : ℕ) → OramRequest
  Store : (asked line : ℕ) → Line → OramRequest
  Wait : (time : ℕ) → OramRequest

-- an answer: a line where one was fetched, and a time
pub record Told : Type 0 where
  pub line : Option Line
  pub end : ℕ

-- nothing is done but that the stop from before is answered
abbrev pub HadStopped : Stop → OramState → OramState → Type 0
HadStopped stop old new = (old.stop ≡ Some stop) × (new ≡ old)

-- it served before the call, and after it; or the call stopped it
abbrev pub Serves : OramState → OramState → Type 0
Serves old new = (old.stop ≡ None) × (new.stop ≡ None)

abbrev pub StopsWith : Stop → OramState → OramState → Type 0
StopsWith stop old new = (old.stop ≡ None) × (new.stop ≡ Some stop)

-- A call's request and answer, between what stands before it and after it: its walk's accesses were served one after
-- another by the port's slots.
module _ (keys : Keys) (levels : ℕ) where
  abbrev pub OramStep : OramState → OramRequest → Result Told Stop → OramState → Type 0
  OramStep old (Fetch asked line) (Ok told) new =
      Serves old new × (seen : Seen) × (told ≡ record { line = Some seen.line; end = seen.end })
      × Ends (Steps (SlotStep keys levels)) (fetch_plan old.front asked line) old.port new.port (new.front, seen)
  OramStep old (Fetch asked line) (Err stop) new = HadStopped stop old new
      ⊎ (StopsWith stop old new
      × Stops (Steps (SlotStep keys levels)) (fetch_plan old.front asked line) old.port new.port stop new.front)
  OramStep old (Store asked line value) (Ok told) new =
      Serves old new × (told ≡ record { line = None; end = told.end })
      × Ends (Steps (SlotStep keys levels)) (store_plan old.front asked line value) old.port new.port
      (new.front, told.end)
  OramStep old (Store asked line value) (Err stop) new = HadStopped stop old new
      ⊎ (StopsWith stop old new
      × Stops (Steps (SlotStep keys levels)) (store_plan old.front asked line value) old.port new.port stop new.front)
  OramStep old (Wait time) (Ok told) new =
      Serves old new × (told ≡ record { line = None; end = told.end }) × (new.front ≡ old.front)
      × PortStep keys.leaf_of levels old.port (Idle time) (Ok (record { found = None; end = told.end })) new.port
  OramStep old (Wait time) (Err stop) new = HadStopped stop old new
      ⊎ (StopsWith stop old new × (new.front ≡ old.front)
      × PortStep keys.leaf_of levels old.port (Idle time) (Err stop) new.port)
