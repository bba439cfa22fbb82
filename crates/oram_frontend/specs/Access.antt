-- One access as a plan of a port's calls, and an append; and what the slots of a port make of a walk's requests.
use Rattle.std.specs.Prelude.{ℕ, Option, Some, None, Result}
use Rattle.request_plan.specs.Plan.{Plan, Done, Ask, bind, Reply, Refuses, Gives, ComesTo}
use Rattle.asc_base.specs.declared.block.Entry.{Entry}
use Rattle.asc_base.specs.declared.block.Line.{Line}
use Rattle.asc_base.specs.declared.block.Message.{Message}
use Rattle.asc_base.specs.declared.block.Point.TheVariants.{Real}
use Rattle.asc_base.specs.declared.stop.Evidence.{Evidence}
use Rattle.asc_base.specs.declared.stop.Stop.{Stop}
use Rattle.asc_base.specs.declared.stop.Stop.TheVariants.{Integrity}
use Rattle.bus_watch.specs.declared.log.Event.TheVariants.{Accepted, Tagged, Answered}
use Rattle.oram_contents.specs.Entries.{Keys}
use Rattle.oram_contents.specs.Fold.{tagged_entry}
use Rattle.oram_contents.specs.Verdict.{judged, line_found}
use Rattle.oram_walk.specs.Request.{Request, Slot, Append, Answer, Room, nothing}
use Rattle.oram_walk.specs.declared.slots.Access.{Access}
use Rattle.oram_walk.specs.declared.slots.Purpose.{Purpose}
use Rattle.oram_walk.specs.declared.slots.Purpose.TheVariants.{Refill, Keep, Replace}
use Rattle.oram_walk.specs.declared.slots.Seen.{Seen}
use Rattle.rate_enforcer.specs.PortStep.{PortState, PortRequest, Open, Take, Note, Put, Close, Abort, Join, Said}
use Rattle.rate_enforcer.specs.PortStep.{PortStep}

-- a plan of a port's calls that leaves nothing where it is stopped
abbrev pub PortPlan : Type 0 → Type 0
PortPlan A = Plan PortRequest Said (Unit {0}) A

-- what a request of a walk comes to: it is refused with a stop, or answered
abbrev pub Served : Type 0
Served = Reply Stop (Unit {0}) Seen

-- one plan after another
abbrev pub and_then : {A B : Type 0} → PortPlan A → (A → PortPlan B) → PortPlan B
and_then plan next = bind (λ left. left) plan next

-- the message of what was found, and that of what is put back
abbrev pub found_message : Access → Line → Message
found_message access line = record { address = access.address; counter = access.counter; line = line }

abbrev pub next_message : Access → Line → Message
next_message access line = record { address = access.address; counter = access.next; line = line }

-- the line of what was found, zeros where nothing was
abbrev pub found_line : Option Entry → Line
found_line found = record { 0 = line_found found }

-- what was found is noted as accepted
abbrev pub accept_plan : Access → Option Entry → PortPlan (Unit {0})
accept_plan access None = Done tt
accept_plan access (Some entry) = Ask (Note (Accepted (found_message access entry.line) entry.tag)) tt (λ _. Done tt)

module _ (keys : Keys) where
  -- a message is noted as tagged, and its entry put back
  abbrev pub put_plan : Message → PortPlan (Unit {0})
  put_plan message = Ask (Note (Tagged message)) tt (λ _. Ask (Put (tagged_entry keys message)) tt (λ _. Done tt))

  -- what is put back: nothing in a refill
  abbrev pub back_plan : Access → Line → Purpose → PortPlan (Unit {0})
  back_plan access line Refill = Done tt
  back_plan access line Keep = put_plan (next_message access line)
  back_plan access line (Replace value) = put_plan (next_message access value)

  -- the path is written
  abbrev pub close_plan : Line → PortPlan Served
  close_plan line = Ask Close tt (λ said. Done (Gives tt (record { line = line; end = said.end })))

  -- the rest of a slot in which nothing is wrong
  abbrev pub finish_plan : Access → Option Entry → PortPlan Served
  finish_plan access found =
      and_then (accept_plan access found) (λ _.
      and_then (back_plan access (found_line found) access.purpose) (λ _. close_plan (found_line found)))

  abbrev pub judged_plan : Access → Option Entry → Option Evidence → PortPlan Served
  judged_plan access found (Some evidence) =
      Ask (Abort (Integrity evidence)) tt (λ _. Done (Refuses (Integrity evidence)))
  judged_plan access found None = finish_plan access found

  -- One access: the slot is opened at the block's point, the block taken out and judged.
  abbrev pub access_plan : Access → PortPlan Served
  access_plan access =
      Ask (Open access.asked (Real access.address access.counter)) tt (λ _.
      Ask (Take access.address) tt (λ said.
      judged_plan access said.found (judged keys access.address.0 access.counter said.found)))

  -- a displaced block is noted as tagged, and joins those at hand
  abbrev pub append_plan : Message → PortPlan Served
  append_plan message =
      Ask (Note (Tagged message)) tt (λ _. Ask (Join (tagged_entry keys message)) tt (λ _. Done (Gives tt nothing)))

  -- a line is noted as answered
  abbrev pub answer_plan : ℕ → Line → PortPlan Served
  answer_plan line value = Ask (Note (Answered line value)) tt (λ _. Done (Gives tt nothing))

  -- What a walk asks for, in the port's calls; room for a held block asks for nothing there.
  abbrev pub serve_plan : Request → PortPlan Served
  serve_plan (Slot access) = access_plan access
  serve_plan (Append message) = append_plan message
  serve_plan (Answer line value) = answer_plan line value
  serve_plan Room = Done (Gives tt nothing)

-- The rest of a slot, after what was found in it: its answer or stop, and the port before it and after it.
abbrev pub FinishStep : Keys → ℕ → Access → Option Entry → PortState → Result Seen Stop → PortState → Type 0
FinishStep keys levels access found old answer new =
    ComesTo (PortStep keys.leaf_of levels) (finish_plan keys access found) old answer new

-- A request of a walk, its answer or stop, and the port before it and after it.
abbrev pub SlotStep : Keys → ℕ → PortState → Request → Result Seen Stop → PortState → Type 0
SlotStep keys levels old request answer new =
    ComesTo (PortStep keys.leaf_of levels) (serve_plan keys request) old answer new
