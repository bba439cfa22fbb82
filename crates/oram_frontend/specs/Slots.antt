-- What an answered request of a walk leaves in the log and in the contents.
use Rattle.std.specs.Prelude.{◌≡◌, ◌≤◌, ◌+◌, ◌++◌, ℕ, List, [], ◌∷◌, Option, None, Some}
use Rattle.asc_base.specs.TreeShape.{olat_of}
use Rattle.asc_base.specs.declared.block.Entry.{Entry}
use Rattle.asc_base.specs.declared.block.Line.{Line}
use Rattle.asc_base.specs.declared.block.Message.{Message}
use Rattle.asc_base.specs.declared.block.Point.TheVariants.{Real}
use Rattle.bus_watch.specs.Log.{LogLists}
use Rattle.bus_watch.specs.declared.log.Event.{Event}
use Rattle.bus_watch.specs.declared.log.Event.TheVariants.{Tagged, Answered}
use Rattle.epoch_learner.specs.Stands.{IsFirstFor}
use Rattle.oram_contents.specs.Contents.{Contents}
use Rattle.oram_contents.specs.Entries.{Keys}
use Rattle.oram_contents.specs.Fold.{with_entry, tagged_entry}
use Rattle.oram_contents.specs.Slots.{drawn_events, IsAccess, IsRefill, IsEnd, ArePasses, HasSeeds}
use Rattle.oram_contents.specs.Verdict.{append_verdict, line_found}
use Rattle.oram_walk.specs.declared.slots.Access.{Access}
use Rattle.oram_walk.specs.declared.slots.Purpose.{Purpose}
use Rattle.oram_walk.specs.declared.slots.Purpose.TheVariants.{Refill, Keep, Replace}
use Rattle.oram_walk.specs.declared.slots.Seen.{Seen}
use Rattle.rate_enforcer.specs.PortStep.{PortState, Resting, contents}
use Rattle.rate_enforcer.specs.Served.{AreFew}

-- the keys are those of a port's tree
pub record FitKeys (keys : Keys) (s : PortState) : Type 0 where
  pub shape : s.tree.shape ≡ keys.shape
  pub pads : s.tree.key ≡ keys.pads

-- What an answered request keeps: the port is of the same configuration and the same keys, and stands between slots
-- with so many notes left at least.
pub record Keeps (keys : Keys) (levels least : ℕ) (old new : PortState) : Type 0 where
  pub fits : FitKeys keys new
  pub config : new.clock.config ≡ old.clock.config
  pub stash : new.tree.stash ≡ old.tree.stash
  pub rests : (notes : ℕ) × (least ≤ notes) × Resting notes levels new

-- The slot of an access, by its purpose: nothing is put back in a refill, else the line that was found or a given one.
abbrev pub SlotOf : Keys → Access → Purpose → LogLists → LogLists → Contents → Contents → ℕ → Option Entry → Type 0
SlotOf keys access Refill old new now after start found =
    IsRefill keys old new now after start access.address.0 access.counter found
SlotOf keys access Keep old new now after start found =
    IsAccess keys old new now after start access.address.0 access.counter access.next found (line_found found)
SlotOf keys access (Replace value) old new now after start found =
    IsAccess keys old new now after start access.address.0 access.counter access.next found value.0

-- a slot's first events: it starts, asked for by an access, and its point is drawn
abbrev pub BeginsAt : Keys → Access → LogLists → LogLists → ℕ → Type 0
BeginsAt keys access old new start =
    (later : List Event) × (new.events ≡ old.events
    ++ (drawn_events keys start (Some access.asked) (Real access.address access.counter) ++ later))

-- An answered access: dummies from the next number on, its slot, in which the answered line is that of what was found,
-- and the choice at its end if one falls.
pub record IsServedSlot (keys : Keys) (access : Access) (seen : Seen) (old new : PortState) : Type 0 where
  pub passed : ℕ
  pub mid : LogLists
  pub between : Contents
  pub passes : ArePasses keys passed old.tap.log mid (contents old) between old.clock.dummies
  pub few : AreFew keys old.tree.stash passed old.tap.log mid (contents old) between old.clock.dummies passes
  pub seeds : HasSeeds between
  pub start : ℕ
  pub found : Option Entry
  pub log : LogLists
  pub slot : SlotOf keys access access.purpose mid log between (contents new) start found
  pub begins : BeginsAt keys access mid log start
  pub first : (last : ℕ) × IsFirstFor (olat_of old.clock.config.shape.levels) last start (Some access.asked)
  pub ends : IsEnd log new.tap.log
  pub line : seen.line.0 ≡ line_found found
  pub end : seen.end ≡ start + olat_of old.clock.config.shape.levels
  pub last : new.clock.last ≡ seen.end
  pub dummies : new.clock.dummies ≡ old.clock.dummies + passed
  pub real : new.clock.real ≡ old.clock.real + 1

-- An appended message: it is noted as tagged, and its entry joins those at hand, where it may.
pub record IsServedAppend (keys : Keys) (message : Message) (old new : PortState) : Type 0 where
  pub events : new.tap.log.events ≡ old.tap.log.events ++ Tagged message ∷ []
  pub altered : new.tap.log.altered ≡ old.tap.log.altered
  pub contents_are : contents new ≡ with_entry (contents old) (tagged_entry keys message)
  pub right : append_verdict old.tree.stash message.address old.tree.hand ≡ None
  pub clock : new.clock ≡ old.clock

-- An answered line: it is noted.
pub record IsServedAnswer (line : ℕ) (value : Line) (old new : PortState) : Type 0 where
  pub events : new.tap.log.events ≡ old.tap.log.events ++ Answered line value ∷ []
  pub altered : new.tap.log.altered ≡ old.tap.log.altered
  pub contents_are : contents new ≡ contents old
  pub clock : new.clock ≡ old.clock
