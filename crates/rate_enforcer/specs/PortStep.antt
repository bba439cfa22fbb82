-- All calls of a port as steps of one relation, between what stands before a call and what stands after it.
use Rattle.std.specs.Prelude.{◌≡◌, ◌<◌, ◌≤◌, ◌+◌, ◌-◌, ◌++◌, ◌⊎◌, ℕ, min, max, List, [], ◌∷◌, Option, None}
use Rattle.std.specs.Prelude.{Some}
use Rattle.std.specs.Prelude.{Result, Ok, Err}
use Rattle.asc_base.specs.TreeShape.{olat_of}
use Rattle.asc_base.specs.declared.block.Address.{Address}
use Rattle.asc_base.specs.declared.block.Entry.{Entry}
use Rattle.asc_base.specs.declared.block.Point.{Point}
use Rattle.asc_base.specs.declared.stop.Stop.{Stop}
use Rattle.asc_base.specs.declared.stop.Stop.TheVariants.{TimeUp}
use Rattle.asc_outside.specs.Memory.{MemoryState}
use Rattle.bus_watch.specs.Log.{TapState, with_event}
use Rattle.bus_watch.specs.Made.{Made}
use Rattle.bus_watch.specs.Path.{reads_end}
use Rattle.bus_watch.specs.RunEnd.{RunEnd, Whole}
use Rattle.bus_watch.specs.declared.log.Event.{Event}
use Rattle.bus_watch.specs.declared.log.Event.TheVariants.{Access, Drawn, Tagged, Accepted, Chosen, Answered}
use Rattle.bus_watch.specs.declared.log.Move.{Move}
use Rattle.epoch_learner.specs.Stands.{IsFirstFor, KeepsPace}
use Rattle.oram_contents.specs.Contents.{Contents, after_write}
use Rattle.oram_contents.specs.Entries.{Keys}
use Rattle.oram_contents.specs.Slots.{ArePasses, IsEnd}
use Rattle.oram_contents.specs.Verdict.{append_verdict}
use Rattle.oram_stash.specs.Entries.{held, without}
use Rattle.unified_tree.specs.Slot.{contents_of}
use Rattle.unified_tree.specs.Tree.{TreeState, IsSameTree}
use Rattle.unified_tree.specs.declared.stop.OpenPath.{OpenPath}
use Rattle.rate_enforcer.specs.Counts.{IsCounted}
use Rattle.rate_enforcer.specs.Breaks.{WriteStops, PassesStop, AskedStops}
use Rattle.rate_enforcer.specs.Served.{keys_of, AreFew, IsServed}
use Rattle.rate_enforcer.specs.State.{Rests, Opens, Stopped, IsUp}
use Rattle.rate_enforcer.specs.Stops.{IsEndOf, first_stop}
use Rattle.rate_enforcer.specs.declared.clock.Clock.{Clock}
use Rattle.rate_enforcer.specs.declared.port.OpenSlot.{OpenSlot}

-- a port, and the memory and the tap that it is lent
pub record PortState : Type 0 where
  pub clock : Clock
  pub tree : TreeState
  pub memory : MemoryState
  pub tap : TapState

-- a port of this clock and this tree, over this memory and this tap
abbrev pub port_of : Clock → TreeState → MemoryState → TapState → PortState
port_of clock tree memory tap = record { clock = clock; tree = tree; memory = memory; tap = tap }

-- what a port is asked for
pub data PortRequest : Type 0 where
  -- the first slot at or after a time is that of a point, and its path is read
  Open : ℕ → Point → PortRequest
  -- the entry of an address leaves the hand
  Take : Address → PortRequest
  -- an event is noted
  Note : Event → PortRequest
  -- an entry joins the hand in a slot
  Put : Entry → PortRequest
  -- the path is written
  Close : PortRequest
  -- the slot is given up
  Abort : Stop → PortRequest
  -- an entry joins the hand between slots
  Join : Entry → PortRequest
  -- the slots that start before a time are dummies
  Idle : ℕ → PortRequest

-- an answer: what was taken, and a time
pub record Said : Type 0 where
  pub found : Option Entry
  pub end : ℕ

abbrev pub silent : Said
silent = record { found = None; end = 0 }

abbrev pub took : Option Entry → Said
took found = record { found = found; end = 0 }

abbrev pub told : ℕ → Said
told end = record { found = None; end = end }

-- an event that begins no slot and is no choice
abbrev pub IsNote : Event → Type 0
IsNote (Access start asked) = ⊥
IsNote (Drawn point leaf) = ⊥
IsNote (Tagged message) = Unit {0}
IsNote (Accepted message tag) = Unit {0}
IsNote (Chosen index) = ⊥
IsNote (Answered line value) = Unit {0}

-- the contents of a port
abbrev pub contents : PortState → Contents
contents s = contents_of s.tree s.tap

-- memory and tap were used through a bus, and the run ended so
pub record Used (end : RunEnd) (old new : PortState) : Type 0 where
  pub moves : List Move
  pub events : List Event
  pub made : Made end moves events old.memory new.memory old.tap new.tap

-- the same port: its configuration, its tree's shape, stash and key
pub record IsSamePort (old new : PortState) : Type 0 where
  pub config : new.clock.config ≡ old.clock.config
  pub tree : IsSameTree old.tree new.tree

-- A port stood between two slots, with so many notes left, as its leaf function has so many levels.
abbrev pub Resting : (notes levels : ℕ) → PortState → Type 0
Resting notes levels s = Rests notes s.clock s.tree levels s.memory s.tap

-- A slot is open, on the path of a leaf.
pub record InSlot (notes levels leaf : ℕ) (s : PortState) : Type 0 where
  pub slot : OpenSlot
  pub opens : Opens notes s.clock slot s.tree levels s.memory s.tap
  pub leaf_is : slot.leaf.0 ≡ leaf

-- The clock still counts the starts and the choices that the log notes.
abbrev pub KeepsCount : PortState → PortState → Type 0
KeepsCount old new = IsCounted old.clock old.tap.log → IsCounted new.clock new.tap.log

-- the path that is open
abbrev pub IsOn : OpenPath → PortState → Type 0
IsOn path s = s.tree.path ≡ Some path

-- nothing is done but that the stop from before is answered
abbrev pub HadStopped : Stop → PortState → PortState → Type 0
HadStopped stop old new = (old.clock.stop ≡ Some stop) × (new ≡ old)

module _ (leaf_of : Point → ℕ) (levels : ℕ) where
  -- the keys of a port's memory, with any key of tags
  abbrev pub port_keys : PortState → List ℕ → Keys
  port_keys s tags = keys_of s.tree tags leaf_of

  -- The slot that was asked for is open: dummies passed before it, and its path is read.
  pub record Opened (asked : ℕ) (point : Point) (old new : PortState) : Type 0 where
    pub going : old.clock.stop ≡ None
    pub same : IsSamePort old new
    pub used : Used Whole old new
    pub in_slot : (notes : ℕ) → Resting notes levels old → InSlot (notes + 3) levels (leaf_of point) new
    pub first : IsFirstFor (olat_of old.clock.config.shape.levels) new.clock.last new.clock.next (Some asked)
    pub served : (tags : List ℕ) → IsServed (port_keys old tags) old.tree.stash old.tap.log new.tap.log (contents old)
        (contents new) old.clock.dummies new.clock asked point
    pub real : new.clock.real ≡ old.clock.real + 1
    pub counts : KeepsCount old new

  -- The log and the contents of a stop in `Open`: in a dummy before the slot, which starts before the time asked and
  -- that of the settings, in the slot, or where no slot is left.
  abbrev pub OpenBreaks : ℕ → Point → Stop → PortState → PortState → List ℕ → Type 0
  OpenBreaks asked point (TimeUp at) old new tags =
      IsUp old.clock.config at asked new.clock new.tap.log
      × (passed : ArePasses (port_keys old tags) (new.clock.dummies - old.clock.dummies) old.tap.log new.tap.log
      (contents old) (contents new) old.clock.dummies)
      × (old.clock.dummies ≤ new.clock.dummies)
      × AreFew (port_keys old tags) old.tree.stash (new.clock.dummies - old.clock.dummies) old.tap.log new.tap.log
      (contents old) (contents new) old.clock.dummies passed
  OpenBreaks asked point stop old new tags =
      (PassesStop (port_keys old tags) old.tree.stash stop old.tap.log new.tap.log (contents old) (contents new)
      new.clock.next old.clock.dummies × (new.clock.next < min asked old.clock.config.time))
      ⊎ (AskedStops (port_keys old tags) old.tree.stash stop old.tap.log new.tap.log (contents old) (contents new)
      new.clock.next old.clock.dummies asked point × (new.clock.next < old.clock.config.time))

  -- It stops there, and every later call answers the same stop.
  pub record OpenStopped (asked : ℕ) (point : Point) (stop : Stop) (old new : PortState) : Type 0 where
    pub going : old.clock.stop ≡ None
    pub same : IsSamePort old new
    pub end : RunEnd
    pub is_end : IsEndOf stop end
    pub used : Used end old new
    pub stopped : Stopped old.clock.config new.clock stop new.tap.log
    pub counts : KeepsCount old new
    pub breaks : (tags : List ℕ) → OpenBreaks asked point stop old new tags

  -- The open path is written, and with it the slot ends.
  pub record Closed (end : ℕ) (old new : PortState) : Type 0 where
    pub path : OpenPath
    pub on : IsOn path old
    pub same : IsSamePort old new
    pub used : Used Whole old new
    pub rests : (notes leaf : ℕ) → InSlot notes levels leaf old → Resting notes levels new
    pub end_is : end ≡ path.start + olat_of old.clock.config.shape.levels
    pub last : new.clock.last ≡ end
    pub dummies : new.clock.dummies ≡ old.clock.dummies
    pub real : new.clock.real ≡ old.clock.real
    pub written : contents new ≡ after_write old.tree.key old.tree.shape.levels path.leaf.0 (contents old)
    pub ends : IsEnd old.tap.log new.tap.log
    pub counts : KeepsCount old new

  pub record CloseStopped (stop : Stop) (old new : PortState) : Type 0 where
    pub path : OpenPath
    pub on : IsOn path old
    pub same : IsSamePort old new
    pub end : RunEnd
    pub is_end : IsEndOf stop end
    pub used : Used end old new
    pub stopped : Stopped old.clock.config new.clock stop new.tap.log
    pub next : new.clock.next ≡ old.clock.next
    pub dummies : new.clock.dummies ≡ old.clock.dummies
    pub real : new.clock.real ≡ old.clock.real
    pub counts : KeepsCount old new
    pub breaks : (tags : List ℕ) → WriteStops (port_keys old tags) old.tree.stash stop old.tap.log new.tap.log
        (contents old) (contents new) path.start path.leaf.0

  -- Of the port nothing is changed but its hand, and how many entries more find room.
  pub record HandOnly (old new : PortState) : Type 0 where
    pub clock : new.clock ≡ old.clock
    pub tree : IsSameTree old.tree new.tree
    pub seed : new.tree.seed ≡ old.tree.seed
    pub memory : new.memory ≡ old.memory
    pub tap : new.tap ≡ old.tap

  pub record Taken (address : Address) (found : Option Entry) (old new : PortState) : Type 0 where
    pub others : HandOnly old new
    pub found_is : found ≡ held old.tree.hand address
    pub hand : new.tree.hand ≡ without old.tree.hand address
    pub in_slot : (notes leaf : ℕ) → InSlot notes levels leaf old → InSlot notes levels leaf new

  pub record HasPut (entry : Entry) (old new : PortState) : Type 0 where
    pub others : HandOnly old new
    pub hand : new.tree.hand ≡ old.tree.hand ++ entry ∷ []
    pub in_slot : (notes leaf : ℕ) → InSlot notes levels leaf old → InSlot notes levels leaf new

  -- An event is noted that begins no slot and is no choice; one note less is left.
  pub record HasNoted (event : Event) (old new : PortState) : Type 0 where
    pub clock : new.clock ≡ old.clock
    pub tree : new.tree ≡ old.tree
    pub memory : new.memory ≡ old.memory
    pub made : Made Whole [] (event ∷ []) old.memory new.memory old.tap new.tap
    pub log : new.tap.log ≡ with_event old.tap.log event
    pub mirror : new.tap.mirror ≡ old.tap.mirror
    pub counts : KeepsCount old new
    pub in_slot : (notes leaf : ℕ) → InSlot (notes + 1) levels leaf old → InSlot notes levels leaf new
    pub rests : (notes : ℕ) → Resting (notes + 1) levels old → Resting notes levels new

  -- The slot is given up after its reads.
  pub record Aborted (stop : Stop) (end : ℕ) (old new : PortState) : Type 0 where
    pub path : OpenPath
    pub on : IsOn path old
    pub end_is : end ≡ reads_end old.clock.config.shape.levels path.start
    pub clock : new.clock ≡ record old.clock { last = end; stop = Some (first_stop old.clock.stop stop) }
    pub tree : new.tree ≡ old.tree
    pub memory : new.memory ≡ old.memory
    pub tap : new.tap ≡ old.tap
    pub pace : (notes leaf : ℕ) → InSlot notes levels leaf old → KeepsPace old.clock.config end new.tap.log

  -- An entry joins the hand between slots.
  pub record HasJoined (entry : Entry) (old new : PortState) : Type 0 where
    pub going : old.clock.stop ≡ None
    pub others : HandOnly old new
    pub right : append_verdict old.tree.stash entry.address old.tree.hand ≡ None
    pub hand : new.tree.hand ≡ old.tree.hand ++ entry ∷ []
    pub rests : (notes : ℕ) → Resting notes levels old → Resting notes levels new

  pub record JoinStopped (entry : Entry) (stop : Stop) (old new : PortState) : Type 0 where
    pub going : old.clock.stop ≡ None
    pub wrong : append_verdict old.tree.stash entry.address old.tree.hand ≡ Some stop
    pub clock : new.clock ≡ record old.clock { stop = Some stop }
    pub tree : IsSameTree old.tree new.tree
    pub seed : new.tree.seed ≡ old.tree.seed
    pub memory : new.memory ≡ old.memory
    pub tap : new.tap ≡ old.tap

  -- All slots that start before a time are done, as dummies, and no others: the last one ends less than a slot's cycles
  -- after it, or is the one before.
  pub record HasIdled (time end : ℕ) (old new : PortState) : Type 0 where
    pub going : old.clock.stop ≡ None
    pub same : IsSamePort old new
    pub used : Used Whole old new
    pub rests : (notes : ℕ) → Resting notes levels old → Resting notes levels new
    pub end_is : end ≡ max time new.clock.last
    pub reached : time ≤ new.clock.next
    pub early : new.clock.last < max old.clock.last time + olat_of old.clock.config.shape.levels
    pub more : old.clock.dummies ≤ new.clock.dummies
    pub real : new.clock.real ≡ old.clock.real
    pub counts : KeepsCount old new
    pub passed : (tags : List ℕ) → ArePasses (port_keys old tags) (new.clock.dummies - old.clock.dummies)
        old.tap.log new.tap.log (contents old) (contents new) old.clock.dummies
    pub few : (tags : List ℕ) → AreFew (port_keys old tags) old.tree.stash (new.clock.dummies - old.clock.dummies)
        old.tap.log new.tap.log (contents old) (contents new) old.clock.dummies (passed tags)
    pub pace : KeepsPace old.clock.config end new.tap.log

  -- One of them stops, which starts before the time.
  pub record IdleStopped (time : ℕ) (stop : Stop) (old new : PortState) : Type 0 where
    pub going : old.clock.stop ≡ None
    pub early : new.clock.next < time
    pub same : IsSamePort old new
    pub end : RunEnd
    pub is_end : IsEndOf stop end
    pub used : Used end old new
    pub stopped : Stopped old.clock.config new.clock stop new.tap.log
    pub real : new.clock.real ≡ old.clock.real
    pub counts : KeepsCount old new
    pub breaks : (tags : List ℕ) → PassesStop (port_keys old tags) old.tree.stash stop old.tap.log new.tap.log
        (contents old) (contents new) new.clock.next old.clock.dummies

  -- A call's request and answer, between what stands before it and after it.
  abbrev pub PortStep : PortState → PortRequest → Result Said Stop → PortState → Type 0
  PortStep old (Open asked point) (Ok said) new = (said ≡ silent) × Opened asked point old new
  PortStep old (Open asked point) (Err stop) new = HadStopped stop old new ⊎ OpenStopped asked point stop old new
  PortStep old (Take address) (Ok said) new = (said ≡ took said.found) × Taken address said.found old new
  PortStep old (Take address) (Err stop) new = ⊥
  PortStep old (Note event) (Ok said) new = (said ≡ silent) × HasNoted event old new
  PortStep old (Note event) (Err stop) new = ⊥
  PortStep old (Put entry) (Ok said) new = (said ≡ silent) × HasPut entry old new
  PortStep old (Put entry) (Err stop) new = ⊥
  PortStep old Close (Ok said) new = (said ≡ told said.end) × Closed said.end old new
  PortStep old Close (Err stop) new = CloseStopped stop old new
  PortStep old (Abort stop) (Ok said) new = (said ≡ told said.end) × Aborted stop said.end old new
  PortStep old (Abort stop) (Err other) new = ⊥
  PortStep old (Join entry) (Ok said) new = (said ≡ silent) × HasJoined entry old new
  PortStep old (Join entry) (Err stop) new = HadStopped stop old new ⊎ JoinStopped entry stop old new
  PortStep old (Idle time) (Ok said) new = (said ≡ told said.end) × HasIdled time said.end old new
  PortStep old (Idle time) (Err stop) new = HadStopped stop old new ⊎ IdleStopped time stop old new
