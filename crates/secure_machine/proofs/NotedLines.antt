-- Which lines a log notes as answered, and how many: an answered fetch adds its line, and nothing else does.
use Rattle.std.proofs.Common.{◌≡◌, ◌+◌, ◌++◌, ◌∙◌, ℕ, zero, suc, List, [], ◌∷◌, Option, None, Some, Ok, Err, refl, ap}
use Rattle.std.proofs.Common.{sym, inl, inr, arith, is_some, Bool, true, false, length, append-nil, length-append}
use Rattle.std.proofs.lemmas.List.Concat.{flat_map-append}
use Rattle.std.specs.List.{count_by}
use Rattle.std.specs.Option.{option_map_or}
use Rattle.request_plan.specs.Plan.{Plan, Done, Ask, Ends, Stops, Asks}
use Rattle.request_plan.proofs.Alike.{Asks-bind}
use Rattle.request_plan.proofs.Chains.{Ends-unbind, Stops-unbind}
use Rattle.asc_base.specs.Shape.{parent_in, children_in}
use Rattle.asc_base.specs.declared.block.Address.{Address}
use Rattle.asc_base.specs.declared.block.Entry.{Entry}
use Rattle.asc_base.specs.declared.block.Line.{Line}
use Rattle.asc_base.specs.declared.block.Point.{Point}
use Rattle.asc_base.specs.declared.stop.Evidence.{Evidence}
use Rattle.asc_base.specs.declared.stop.Stop.{Stop}
use Rattle.asc_base.specs.declared.stop.Stop.TheVariants.{Integrity, StashFull, TimeUp, Device, NoMemory}
use Rattle.bus_watch.specs.Log.{LogLists, TapState}
use Rattle.bus_watch.specs.declared.log.Event.{Event}
use Rattle.bus_watch.specs.declared.log.Event.TheVariants as kinds
use Rattle.bus_watch.specs.declared.log.Event.TheVariants.{Answered, Chosen}
use Rattle.fed_run.specs.Fed.{NotedLine, numbered}
use Rattle.data_cache.specs.Lines.{LineRequest, Fetch as LineFetch, Store as LineStore}
use Rattle.oram_contents.specs.Contents.{Contents}
use Rattle.oram_contents.specs.Entries.{Keys}
use Rattle.oram_contents.specs.Slots.{IsEnd, ArePasses, drawn_events}
use Rattle.oram_frontend.specs.Access.{SlotStep, serve_plan, accept_plan, back_plan, finish_plan, judged_plan}
use Rattle.oram_frontend.specs.Access.{found_line}
use Rattle.oram_frontend.specs.Oram.{OramState, OramRequest, OramStep, Told, Fetch, Store, Wait}
use Rattle.oram_walk.specs.Front.{FrontState, full_parent, with_held}
use Rattle.oram_walk.specs.Plans.{FrontPlan, on, child_by, child_plan, children_plan, family_plan, full_plan}
use Rattle.oram_walk.specs.Plans.{group_plan, visit_plan, append_plan, hold_plan, refill_plan, found_plan, walk_plan}
use Rattle.oram_walk.specs.Plans.{request_plan, fetch_plan, store_plan}
use Rattle.oram_walk.specs.Request.{Request, Slot, Append, Answer, Room, Steps}
use Rattle.oram_walk.specs.declared.slots.Access.{Access}
use Rattle.oram_walk.specs.declared.slots.Purpose.{Purpose}
use Rattle.oram_walk.specs.declared.slots.Purpose.TheVariants.{Refill, Keep, Replace}
use Rattle.oram_walk.specs.declared.slots.Seen.{Seen}
use Rattle.posmap_counters.specs.Group.{GroupState}
use Rattle.posmap_lookaside.specs.Held.{held_at, promoted}
use Rattle.posmap_lookaside.specs.declared.held.Held.{Held}
use Rattle.rate_enforcer.proofs.Counted.{count_more, stop_silent}
use Rattle.rate_enforcer.specs.Breaks.{ReadStops, DummyStops, PassesStop, AskedStops}
use Rattle.rate_enforcer.specs.Counts.{is_answered}
use Rattle.rate_enforcer.specs.PortStep.{PortState, PortStep, PortRequest, Open, Take, Note, Put, Close, Abort, Join}
use Rattle.rate_enforcer.specs.PortStep.{Idle, Said, OpenBreaks}
use Rattle.play_run.specs.Timed.{TimedState, TimedStep, KeepsNoted}
use Rattle.secure_machine.specs.Answered.{answered_of, answered_lines}
use Rattle.secure_machine.proofs.SlotGoes.{answer_breaks}

abbrev answered : LogLists → List NotedLine
answered log = answered_lines log.events

-- more events, none of which answers a line
events_more : (old new : LogLists) (more : List Event) → new.events ≡ old.events ++ more
    → answered_lines more ≡ [] → answered new ≡ answered old
events_more old new more events none =
    ap answered_lines events
    ∙ (flat_map-append answered_of old.events more
    ∙ (ap (λ l. answered_lines old.events ++ l) none ∙ append-nil (answered_lines old.events)))

-- as many as are counted
count_one : (noted : Event) → count_by is_answered (noted ∷ []) ≡ length (answered_of noted)
count_one (kinds.Access start asked) = refl
count_one (kinds.Drawn point leaf) = refl
count_one (kinds.Tagged message) = refl
count_one (kinds.Accepted message tag) = refl
count_one (Chosen index) = refl
count_one (Answered line value) = refl

pub count_lines : (events : List Event) → count_by is_answered events ≡ length (answered_lines events)
count_lines [] = refl
count_lines (first ∷ events) =
    count_more is_answered (first ∷ []) events
    ∙ (ap (λ n. n + count_by is_answered events) (count_one first)
    ∙ (ap (λ n. length (answered_of first) + n) (count_lines events)
    ∙ sym (length-append (answered_of first) (answered_lines events))))

abbrev count_is : (old new : LogLists) → answered new ≡ answered old
    → count_by is_answered new.events ≡ count_by is_answered old.events
count_is old new same = count_lines new.events ∙ (ap length same ∙ sym (count_lines old.events))

-- ---- slots
end_quiet : (old new : LogLists) → IsEnd old new → answered new ≡ answered old
end_quiet old new ends = elim ends.events [
  | inl same ↦ ap answered_lines same
  | inr more ↦ events_more old new (Chosen more.0 ∷ []) more.1 refl
]

passes_quiet : (keys : Keys) (k : ℕ) (old new : LogLists) (now after : Contents) (n : ℕ)
    → ArePasses keys k old new now after n → answered new ≡ answered old
passes_quiet keys zero old new now after n h = ap answered h.0
passes_quiet keys (suc k) old new now after n (mid, between, start, before, seeds, one) =
    end_quiet one.mid new one.ends
    ∙ events_more mid one.mid (drawn_events keys start one.pass.asked _) one.pass.events_are refl
    ∙ passes_quiet keys k old mid now between n before

reads_quiet : (keys : Keys) (stop : Stop) (old new : LogLists) (now after : Contents) (start : ℕ) (asked : Option ℕ)
    (point : Point) → ReadStops keys stop old new now after start asked point → answered new ≡ answered old
reads_quiet keys (Integrity evidence) old new now after start asked point h =
    events_more old new (drawn_events keys start asked point) h.begins.adds.events_are refl
reads_quiet keys (StashFull held) old new now after start asked point h = absurd h
reads_quiet keys (TimeUp at) old new now after start asked point h = absurd h
reads_quiet keys Device old new now after start asked point h =
    events_more old new (drawn_events keys start asked point) h.begins.adds.events_are refl
reads_quiet keys NoMemory old new now after start asked point (inl same) = ap answered same.0
reads_quiet keys NoMemory old new now after start asked point (inr h) =
    events_more old new (drawn_events keys start asked point) h.begins.adds.events_are refl

dummy_quiet : (keys : Keys) (stash : ℕ) (stop : Stop) (old new : LogLists) (now after : Contents) (start n : ℕ)
    → DummyStops keys stash stop old new now after start n → answered new ≡ answered old
dummy_quiet keys stash stop old new now after start n (inl reads) =
    reads_quiet keys stop old new now after start None _ reads
dummy_quiet keys stash stop old new now after start n (inr h) =
    ap answered_lines (stop_silent keys stash stop h.mid new h.between after start _ h.writes)
    ∙ events_more old h.mid (drawn_events keys start h.read.asked _) h.read.adds.events_are refl

stop_quiet : (keys : Keys) (stash : ℕ) (stop : Stop) (old new : LogLists) (now after : Contents) (start n : ℕ)
    → PassesStop keys stash stop old new now after start n → answered new ≡ answered old
stop_quiet keys stash stop old new now after start n h =
    dummy_quiet keys stash stop h.mid new h.between after start _ h.stops
    ∙ passes_quiet keys h.done old h.mid now h.between n h.passed

asked_quiet : (keys : Keys) (stash : ℕ) (stop : Stop) (old new : LogLists) (now after : Contents) (start n asked : ℕ)
    (point : Point) → AskedStops keys stash stop old new now after start n asked point → answered new ≡ answered old
asked_quiet keys stash stop old new now after start n asked point h =
    reads_quiet keys stop h.mid new h.between after start (Some asked) point h.stops
    ∙ passes_quiet keys h.done old h.mid now h.between n h.passed

-- ---- a port's calls
-- what it notes, if anything, is no answered line
abbrev Quiet : PortRequest → Type 0
Quiet (Open asked point) = Unit {0}
Quiet (Take address) = Unit {0}
Quiet (Note event) = answered_of event ≡ []
Quiet (Put entry) = Unit {0}
Quiet Close = Unit {0}
Quiet (Abort stop) = Unit {0}
Quiet (Join entry) = Unit {0}
Quiet (Idle time) = Unit {0}

one_none : (event : Event) → answered_of event ≡ [] → answered_lines (event ∷ []) ≡ []
one_none event quiet = ap (λ (l : List NotedLine). l ++ []) quiet

module _ (leaf_of : Point → ℕ) (levels : ℕ) where
  same_tap : (old new : PortState) → new.tap ≡ old.tap → answered new.tap.log ≡ answered old.tap.log
  same_tap old new is = ap (λ (t : TapState). answered t.log) is

  port_quiet : (old : PortState) (request : PortRequest) (said : Said) (new : PortState) → Quiet request
      → PortStep leaf_of levels old request (Ok said) new → answered new.tap.log ≡ answered old.tap.log
  port_quiet old (Open asked point) said new quiet h =
      let served = h.1.served [] in
      events_more served.mid new.tap.log _ served.noted refl
      ∙ passes_quiet _ _ old.tap.log served.mid _ served.between _ served.passed
  port_quiet old (Take address) said new quiet h = same_tap old new h.1.others.tap
  port_quiet old (Note event) said new quiet h =
      events_more old.tap.log new.tap.log (event ∷ []) (ap (λ (x : LogLists). x.events) h.1.log) (one_none event quiet)
  port_quiet old (Put entry) said new quiet h = same_tap old new h.1.others.tap
  port_quiet old Close said new quiet h = end_quiet old.tap.log new.tap.log h.1.ends
  port_quiet old (Abort stop) said new quiet h = same_tap old new h.1.tap
  port_quiet old (Join entry) said new quiet h = same_tap old new h.1.others.tap
  port_quiet old (Idle time) said new quiet h = passes_quiet _ _ old.tap.log new.tap.log _ _ _ (h.1.passed [])

  open_quiet : (asked : ℕ) (point : Point) (stop : Stop) (old new : PortState)
      → OpenBreaks leaf_of levels asked point stop old new [] → answered new.tap.log ≡ answered old.tap.log
  open_quiet asked point (Integrity evidence) old new (inl h) = stop_quiet _ _ _ _ _ _ _ _ _ h.0
  open_quiet asked point (Integrity evidence) old new (inr h) = asked_quiet _ _ _ _ _ _ _ _ _ _ _ h.0
  open_quiet asked point (StashFull held) old new (inl h) = stop_quiet _ _ _ _ _ _ _ _ _ h.0
  open_quiet asked point (StashFull held) old new (inr h) = asked_quiet _ _ _ _ _ _ _ _ _ _ _ h.0
  open_quiet asked point (TimeUp at) old new h = passes_quiet _ _ _ _ _ _ _ h.1
  open_quiet asked point Device old new (inl h) = stop_quiet _ _ _ _ _ _ _ _ _ h.0
  open_quiet asked point Device old new (inr h) = asked_quiet _ _ _ _ _ _ _ _ _ _ _ h.0
  open_quiet asked point NoMemory old new (inl h) = stop_quiet _ _ _ _ _ _ _ _ _ h.0
  open_quiet asked point NoMemory old new (inr h) = asked_quiet _ _ _ _ _ _ _ _ _ _ _ h.0

  port_stop : (old : PortState) (request : PortRequest) (stop : Stop) (new : PortState)
      → PortStep leaf_of levels old request (Err stop) new → answered new.tap.log ≡ answered old.tap.log
  port_stop old (Open asked point) stop new (inl had) = ap (λ (s : PortState). answered s.tap.log) had.1
  port_stop old (Open asked point) stop new (inr h) = open_quiet asked point stop old new (h.breaks [])
  port_stop old (Take address) stop new h = absurd h
  port_stop old (Note event) stop new h = absurd h
  port_stop old (Put entry) stop new h = absurd h
  port_stop old Close stop new h =
      ap answered_lines (stop_silent _ _ stop old.tap.log new.tap.log _ _ _ _ (h.breaks []))
  port_stop old (Abort by) stop new h = absurd h
  port_stop old (Join entry) stop new (inl had) = ap (λ (s : PortState). answered s.tap.log) had.1
  port_stop old (Join entry) stop new (inr h) = same_tap old new h.tap
  port_stop old (Idle time) stop new (inl had) = ap (λ (s : PortState). answered s.tap.log) had.1
  port_stop old (Idle time) stop new (inr h) = stop_quiet _ _ _ _ _ _ _ _ _ (h.breaks [])

  calls_quiet : {B A : Type 0} (plan : Plan PortRequest Said B A) (s t : PortState) (outcome : A) → Asks Quiet plan
      → Ends (PortStep leaf_of levels) plan s t outcome → answered t.tap.log ≡ answered s.tap.log
  calls_quiet (Done a) s t outcome asks ends = ap (λ (x : PortState). answered x.tap.log) ends.1
  calls_quiet (Ask q b k) s t outcome asks (said, mid, one, rest) =
      calls_quiet (k said) mid t outcome (asks.1 said) rest ∙ port_quiet s q said mid asks.0 one

  calls_stop : {B A : Type 0} (plan : Plan PortRequest Said B A) (s t : PortState) (stop : Stop) (left : B)
      → Asks Quiet plan → Stops (PortStep leaf_of levels) plan s t stop left
      → answered t.tap.log ≡ answered s.tap.log
  calls_stop (Done a) s t stop left asks stops = absurd stops
  calls_stop (Ask q b k) s t stop left asks (inl one) = port_stop s q stop t one.0
  calls_stop (Ask q b k) s t stop left asks (inr (said, mid, one, rest)) =
      calls_stop (k said) mid t stop left (asks.1 said) rest ∙ port_quiet s q said mid asks.0 one

-- ---- a slot's calls, and an append's
module _ (keys : Keys) where
  accept_asks : (access : Access) (found : Option Entry) → Asks Quiet (accept_plan access found)
  accept_asks access None = tt
  accept_asks access (Some entry) = (refl, λ x. tt)

  back_asks : (access : Access) (line : Line) (purpose : Purpose) → Asks Quiet (back_plan keys access line purpose)
  back_asks access line Refill = tt
  back_asks access line Keep = (refl, λ x. (tt, λ y. tt))
  back_asks access line (Replace value) = (refl, λ x. (tt, λ y. tt))

  finish_asks : (access : Access) (found : Option Entry) → Asks Quiet (finish_plan keys access found)
  finish_asks access found =
      Asks-bind Quiet (λ left. left) (accept_plan access found) _ (accept_asks access found)
      (λ a. Asks-bind Quiet (λ left. left) (back_plan keys access (found_line found) access.purpose) _
      (back_asks access (found_line found) access.purpose) (λ b. (tt, λ x. tt)))

  judged_asks : (access : Access) (found : Option Entry) (verdict : Option Evidence)
      → Asks Quiet (judged_plan keys access found verdict)
  judged_asks access found (Some evidence) = (tt, λ x. tt)
  judged_asks access found None = finish_asks access found

-- it asks for no line to be answered
abbrev Unanswering : Request → Type 0
Unanswering (Slot access) = Unit {0}
Unanswering (Append message) = Unit {0}
Unanswering (Answer line value) = ⊥
Unanswering Room = Unit {0}

serve_asks : (keys : Keys) (request : Request) → Unanswering request → Asks Quiet (serve_plan keys request)
serve_asks keys (Slot access) quiet = (tt, λ x. (tt, λ said. judged_asks keys access said.found _))
serve_asks keys (Append message) quiet = (refl, λ x. (tt, λ y. tt))
serve_asks keys (Answer line value) quiet = absurd quiet
serve_asks keys Room quiet = tt

-- ---- walks
child_asks : (held : Bool) (state : FrontState) (access : Access) → Asks Unanswering (child_by held state access)
child_asks true state access = tt
child_asks false state access = (tt, λ x. tt)

children_asks : (group : GroupState) (first child left : ℕ) (state : FrontState) (asked : ℕ)
    → Asks Unanswering (children_plan group first child left state asked)
children_asks group first child zero state asked = tt
children_asks group first child (suc left) state asked =
    Asks-bind Unanswering _ (child_plan state asked _ _ _) _ (child_asks _ _ _)
    (λ a. children_asks group first (child + 1) left a.0 a.1)

family_asks : (group : GroupState) (family : Option (Address × ℕ)) (state : FrontState) (asked : ℕ)
    → Asks Unanswering (family_plan group family state asked)
family_asks group None state asked = tt
family_asks group (Some (first, number)) state asked = children_asks group first.0 0 number state asked

full_asks : (state : FrontState) (asked : ℕ) (full : Option (Address × GroupState))
    → Asks Unanswering (full_plan state asked full)
full_asks state asked None = tt
full_asks state asked (Some (parent, group)) =
    Asks-bind Unanswering _ (family_plan group (children_in state.shape parent) state asked) _
    (family_asks group (children_in state.shape parent) state asked) (λ a. tt)

visit_asks : (state : FrontState) (asked : ℕ) (address : Address) (purpose : Purpose)
    → Asks Unanswering (visit_plan state asked address purpose)
visit_asks state asked address purpose =
    Asks-bind Unanswering _ (group_plan state asked address) _ (full_asks state asked (full_parent state address))
    (λ a. (tt, λ x. tt))

append_asks : (last : Option Held) (state : FrontState) → Asks Unanswering (append_plan last state)
append_asks None state = tt
append_asks (Some last) state = (tt, λ x. tt)

refill_asks : (state : FrontState) (asked : ℕ) (address : Address)
    → Asks Unanswering (refill_plan state asked address)
refill_asks state asked address =
    Asks-bind Unanswering _ (visit_plan state asked address _) _ (visit_asks state asked address _)
    (λ a. Asks-bind Unanswering _ (hold_plan a.0 _) _ (tt, λ x. append_asks _ _) (λ c. tt))

found_asks : (found : Bool) (state : FrontState) (asked : ℕ) (rest : FrontPlan ℕ) → Asks Unanswering rest
    → Asks Unanswering (found_plan found state asked rest)
found_asks true state asked rest h = tt
found_asks false state asked rest h = h

parent_asks : (above : ℕ) (state : FrontState) (asked : ℕ) (parent : Option Address)
    → ((state : FrontState) (asked : ℕ) (address : Address) → Asks Unanswering (walk_plan above state asked address))
    → Asks Unanswering (option_map_or (λ (parent : Address).
    let now = with_held state (promoted state.held parent) in
    found_plan (is_some (held_at state.held parent)) now asked
    (on (walk_plan above now asked parent) (λ later end. refill_plan later end parent)))
    parent (Done (state, asked)))
parent_asks above state asked None walk = tt
parent_asks above state asked (Some parent) walk =
    found_asks (is_some (held_at state.held parent)) _ asked _
    (Asks-bind Unanswering _ (walk_plan above _ asked parent) _ (walk _ asked parent)
    (λ a. refill_asks a.0 a.1 parent))

walk_asks : (above : ℕ) (state : FrontState) (asked : ℕ) (address : Address)
    → Asks Unanswering (walk_plan above state asked address)
walk_asks zero state asked address = tt
walk_asks (suc above) state asked address =
    parent_asks above state asked (parent_in state.shape address) (walk_asks above)

request_asks : (state : FrontState) (asked : ℕ) (address : Address) (purpose : Purpose)
    → Asks Unanswering (request_plan state asked address purpose)
request_asks state asked address purpose =
    Asks-bind Unanswering _ (walk_plan state.shape.layers state asked address) _
    (walk_asks state.shape.layers state asked address) (λ a. visit_asks a.0 a.1 address purpose)

-- ---- requests
module _ (keys : Keys) (levels : ℕ) where
  slot_quiet : (request : Request) (seen : Seen) (s t : PortState) → Unanswering request
      → Steps (SlotStep keys levels) s request (Ok seen) t → answered t.tap.log ≡ answered s.tap.log
  slot_quiet (Slot access) seen s t quiet one =
      calls_quiet keys.leaf_of levels (serve_plan keys (Slot access)) s t _ (serve_asks keys (Slot access) tt) one
  slot_quiet (Append message) seen s t quiet one =
      calls_quiet keys.leaf_of levels (serve_plan keys (Append message)) s t _ (serve_asks keys (Append message) tt) one
  slot_quiet (Answer line value) seen s t quiet one = absurd quiet
  slot_quiet Room seen s t quiet one = ap (λ (x : PortState). answered x.tap.log) one.1

  serve_stop : (request : Request) (stop : Stop) (s t : PortState) → Unanswering request
      → SlotStep keys levels s request (Err stop) t → answered t.tap.log ≡ answered s.tap.log
  serve_stop request stop s t quiet (inl ends) =
      calls_quiet keys.leaf_of levels (serve_plan keys request) s t _ (serve_asks keys request quiet) ends
  serve_stop request stop s t quiet (inr stops) =
      calls_stop keys.leaf_of levels (serve_plan keys request) s t stop tt (serve_asks keys request quiet) stops

  slot_stop : (request : Request) (stop : Stop) (s t : PortState) → Unanswering request
      → Steps (SlotStep keys levels) s request (Err stop) t → answered t.tap.log ≡ answered s.tap.log
  slot_stop (Slot access) stop s t quiet one = serve_stop (Slot access) stop s t tt one
  slot_stop (Append message) stop s t quiet one = serve_stop (Append message) stop s t tt one
  slot_stop (Answer line value) stop s t quiet one = absurd quiet
  slot_stop Room stop s t quiet one = ap (λ (x : PortState). answered x.tap.log) one.1

  walk_quiet : {B A : Type 0} (plan : Plan Request Seen B A) (s t : PortState) (outcome : A) → Asks Unanswering plan
      → Ends (Steps (SlotStep keys levels)) plan s t outcome → answered t.tap.log ≡ answered s.tap.log
  walk_quiet (Done a) s t outcome asks ends = ap (λ (x : PortState). answered x.tap.log) ends.1
  walk_quiet (Ask q b k) s t outcome asks (seen, mid, one, rest) =
      walk_quiet (k seen) mid t outcome (asks.1 seen) rest ∙ slot_quiet q seen s mid asks.0 one

  walk_stop : {B A : Type 0} (plan : Plan Request Seen B A) (s t : PortState) (stop : Stop) (left : B)
      → Asks Unanswering plan → Stops (Steps (SlotStep keys levels)) plan s t stop left
      → answered t.tap.log ≡ answered s.tap.log
  walk_stop (Done a) s t stop left asks stops = absurd stops
  walk_stop (Ask q b k) s t stop left asks (inl one) = slot_stop q stop s t asks.0 one.0
  walk_stop (Ask q b k) s t stop left asks (inr (seen, mid, one, rest)) =
      walk_stop (k seen) mid t stop left (asks.1 seen) rest ∙ slot_quiet q seen s mid asks.0 one

  -- the line of a fetch is noted
  answer_noted : (line : ℕ) (value : Line) (seen : Seen) (s t : PortState)
      → SlotStep keys levels s (Answer line value) (Ok seen) t
      → answered t.tap.log ≡ answered s.tap.log ++ numbered line value.0 ∷ []
  answer_noted line value seen s t (said, mid, noted, is) =
      ap (λ (x : PortState). answered x.tap.log) is.1
      ∙ ap (λ (x : LogLists). answered x) noted.1.log
      ∙ flat_map-append answered_of s.tap.log.events (Answered line value ∷ [])

  pub fetch_lines : (old new : OramState) (asked line : ℕ) (told : Told) (value : Line) → told.line ≡ Some value
      → OramStep keys levels old (Fetch asked line) (Ok told) new
      → answered_lines new.port.tap.log.events ≡ answered_lines old.port.tap.log.events ++ numbered line value.0 ∷ []
  fetch_lines old new asked line told value told_is (serves, seen, is, ends) =
      let (a, mid, first, (x, last, note, done)) = Ends-unbind (Steps (SlotStep keys levels)) (λ state. state)
      (request_plan old.front asked (record { 0 = line }) Keep) _ old.port new.port _ ends in
      let seen_is : seen ≡ a.1 = ap (λ (z : FrontState × Seen). z.1) done.0 in
      let some : Some value ≡ Some seen.line = sym told_is ∙ ap (λ (t : Told). t.line) is in
      let same : value ≡ seen.line = cc in
      let value_is : value ≡ (a.1).line = same ∙ ap (λ (s : Seen). s.line) seen_is in
      ap (λ (p : PortState). answered p.tap.log) done.1
      ∙ answer_noted line (a.1).line x mid last note
      ∙ ap (λ (v : Line). answered mid.tap.log ++ numbered line v.0 ∷ []) (sym value_is)
      ∙ ap (λ l. l ++ numbered line value.0 ∷ [])
      (walk_quiet (request_plan old.front asked (record { 0 = line }) Keep) old.port mid a
      (request_asks old.front asked (record { 0 = line }) Keep) first)

  store_asks : (state : FrontState) (asked line : ℕ) (value : Line)
      → Asks Unanswering (store_plan state asked line value)
  store_asks state asked line value =
      Asks-bind Unanswering _ (request_plan state asked (record { 0 = line }) (Replace value)) _
      (request_asks state asked (record { 0 = line }) (Replace value)) (λ a. tt)

  pub store_lines : (old new : OramState) (asked line : ℕ) (value : Line) (told : Told)
      → OramStep keys levels old (Store asked line value) (Ok told) new
      → answered_lines new.port.tap.log.events ≡ answered_lines old.port.tap.log.events
  store_lines old new asked line value told (serves, is, ends) =
      walk_quiet (store_plan old.front asked line value) old.port new.port _ (store_asks old.front asked line value)
      ends

  pub wait_lines : (old new : OramState) (time : ℕ) (told : Told) → OramStep keys levels old (Wait time) (Ok told) new
      → answered_lines new.port.tap.log.events ≡ answered_lines old.port.tap.log.events
  wait_lines old new time told (serves, is, front, one) =
      port_quiet keys.leaf_of levels old.port (Idle time) _ new.port tt one

  pub wait_quiet : (old new : OramState) (time : ℕ) (told : Told) → OramStep keys levels old (Wait time) (Ok told) new
      → count_by is_answered new.port.tap.log.events ≡ count_by is_answered old.port.tap.log.events
  wait_quiet old new time told step = count_is old.port.tap.log new.port.tap.log (wait_lines old new time told step)

  fetch_stop : (old new : OramState) (asked line : ℕ) (stop : Stop)
      → Stops (Steps (SlotStep keys levels)) (fetch_plan old.front asked line) old.port new.port stop new.front
      → answered new.port.tap.log ≡ answered old.port.tap.log
  fetch_stop old new asked line stop stops =
      let first = request_plan old.front asked (record { 0 = line }) Keep in
      elim (Stops-unbind (Steps (SlotStep keys levels)) (λ state. state) first _ old.port new.port stop new.front
      stops) [
        | inl (left, within, is) ↦ walk_stop first old.port new.port stop left
            (request_asks old.front asked (record { 0 = line }) Keep) within
        | inr (a, mid, whole, inl one) ↦ absurd (answer_breaks keys levels line (a.1).line stop mid new.port one.0)
        | inr (a, mid, whole, inr (x, last, note, rest)) ↦ absurd rest
      ]

  pub stop_lines : (old new : OramState) (request : OramRequest) (stop : Stop)
      → OramStep keys levels old request (Err stop) new
      → answered_lines new.port.tap.log.events ≡ answered_lines old.port.tap.log.events
  stop_lines old new (Fetch asked line) stop (inl had) = ap (λ (o : OramState). answered o.port.tap.log) had.1
  stop_lines old new (Fetch asked line) stop (inr h) = fetch_stop old new asked line stop h.1
  stop_lines old new (Store asked line value) stop (inl had) = ap (λ (o : OramState). answered o.port.tap.log) had.1
  stop_lines old new (Store asked line value) stop (inr h) =
      walk_stop (store_plan old.front asked line value) old.port new.port stop _
      (store_asks old.front asked line value) h.1
  stop_lines old new (Wait time) stop (inl had) = ap (λ (o : OramState). answered o.port.tap.log) had.1
  stop_lines old new (Wait time) stop (inr h) = port_stop keys.leaf_of levels old.port (Idle time) stop new.port h.2

  pub request_stop : (old new : OramState) (request : OramRequest) (stop : Stop)
      → OramStep keys levels old request (Err stop) new
      → count_by is_answered new.port.tap.log.events ≡ count_by is_answered old.port.tap.log.events
  request_stop old new request stop step =
      count_is old.port.tap.log new.port.tap.log (stop_lines old new request stop step)

-- ---- lines with a clock
pub timed_noted : (keys : Keys) (levels count : ℕ) (old new : TimedState) (request : LineRequest) (bytes : List ℕ)
    → TimedStep keys levels count old request (Ok bytes) new → KeepsNoted old new
timed_noted keys levels count old new (LineFetch line) bytes h known =
    let old_log = old.oram.port.tap.log in
    let new_log = new.oram.port.tap.log in
    let more : length (answered_lines new_log.events) ≡ length (answered_lines old_log.events) + 1 =
    ap length (fetch_lines keys levels old.oram new.oram old.clock line
    (record { line = Some (record { 0 = bytes }); end = new.clock }) (record { 0 = bytes }) refl h.0)
    ∙ length-append (answered_lines old_log.events) (numbered line bytes ∷ []) in
    omega (arith, known, h.1, more, count_lines old_log.events, count_lines new_log.events)
timed_noted keys levels count old new (LineStore line value) bytes h known =
    h.1 ∙ known ∙ sym (count_is old.oram.port.tap.log new.oram.port.tap.log
    (store_lines keys levels old.oram new.oram old.clock line (record { 0 = value }) _ h.0))

pub timed_stop : (keys : Keys) (levels count : ℕ) (old new : TimedState) (request : LineRequest) (stop : Stop)
    → TimedStep keys levels count old request (Err stop) new → KeepsNoted old new
timed_stop keys levels count old new (LineFetch line) stop h known =
    h.1 ∙ known ∙ sym (request_stop keys levels old.oram new.oram (Fetch old.clock line) stop h.0)
timed_stop keys levels count old new (LineStore line value) stop h known =
    h.1 ∙ known
    ∙ sym (request_stop keys levels old.oram new.oram (Store old.clock line (record { 0 = value })) stop h.0)
