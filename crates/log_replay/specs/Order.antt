-- The order of a log's events: what is noted in each slot, and what stands behind it up to the next one.
use Rattle.std.specs.Prelude.{◌≡◌, ◌+◌, ◌⊎◌, ℕ, List, [], ◌∷◌, ◌++◌, length, map, Option, None, Some, option_map}
use Rattle.std.specs.Prelude.{option_to_list}
use Rattle.std.specs.List.{flat_map}
use Rattle.asc_base.specs.Has.{Has}
use Rattle.asc_base.specs.declared.block.Entry.{Entry}
use Rattle.asc_base.specs.declared.block.Line.{Line}
use Rattle.asc_base.specs.declared.block.Message.{Message}
use Rattle.asc_base.specs.declared.block.Point.{Point}
use Rattle.asc_base.specs.declared.block.Point.TheVariants.{Real, Dummy}
use Rattle.bus_watch.specs.Log.{LogLists}
use Rattle.bus_watch.specs.declared.log.Altered.{Altered}
use Rattle.bus_watch.specs.declared.log.Event.{Event}
use Rattle.bus_watch.specs.declared.log.Event.TheVariants.{Tagged, Chosen, Answered}
use Rattle.oram_contents.specs.Contents.{IsReadTo}
use Rattle.oram_contents.specs.Entries.{Keys}
use Rattle.oram_contents.specs.Fold.{noted_at, whole}
use Rattle.oram_contents.specs.Slots.{drawn_events}
use Rattle.oram_contents.specs.Starts.{first_fold}
use Rattle.oram_contents.specs.Steps.{accepted, next_dummy}
use Rattle.oram_contents.specs.Verdict.{judged, line_found, put_events, IsOfPoint}
use Rattle.oram_stash.specs.Entries.{held}

-- what stands behind a slot: nothing; a message that is appended; or a line that is answered
pub data Behind : Type 0 where
  Nothing : Behind
  Appends : Message → Behind
  Answers : ℕ → Line → Behind

-- What is noted of a slot: its start, the time for which it was asked, its point, what was found for it, what is put
-- back, the choice at its end, and what stands behind it.
pub record SlotNotes : Type 0 where
  pub start : ℕ
  pub asked : Option ℕ
  pub point : Point
  pub found : Option Entry
  pub put : Option Message
  pub chosen : Option ℕ
  pub behind : Behind

-- what was found for a block is accepted: its line under the point's counter, with its tag
abbrev pub accepted_events : Point → Option Entry → List Event
accepted_events (Real a c) found = accepted a.0 c found
accepted_events (Dummy n) found = []

abbrev pub chosen_events : Option ℕ → List Event
chosen_events index = map Chosen (option_to_list index)

abbrev pub behind_events : Behind → List Event
behind_events Nothing = []
behind_events (Appends m) = Tagged m ∷ []
behind_events (Answers line value) = Answered line value ∷ []

-- The events of a slot, in order.
abbrev pub events_of : Keys → SlotNotes → List Event
events_of keys s = drawn_events keys s.start s.asked s.point ++ (accepted_events s.point s.found
    ++ (put_events s.put ++ (chosen_events s.chosen ++ behind_events s.behind)))

-- a dummy has the number of the next one and wasn't asked for, and any other slot was
abbrev pub IsNextPoint : ℕ → Option ℕ → Point → Type 0
IsNextPoint dummies asked (Real a c) = (time : ℕ) × (asked ≡ Some time)
IsNextPoint dummies asked (Dummy n) = (n ≡ dummies) × (asked ≡ None)

-- the line that is put back, where a message is
abbrev pub put_line : Option Message → Option Line
put_line put = option_map (λ (m : Message). m.line) put

-- What may stand behind the slot of a block: another block's message, where nothing was put back; or the line of this
-- one, as it was found and as it was put back.
abbrev pub MayStand : ℕ → Option Entry → Option Message → Behind → Type 0
MayStand a found put Nothing = Unit {0}
MayStand a found put (Appends m) = (put ≡ None) × (m.address.0 ≡ a → ⊥)
MayStand a found put (Answers line value) =
    (line ≡ a) × (value.0 ≡ line_found found) × (put_line put ≡ Some value)

-- A slot's path is read behind these events, over the contents that they say, and these are then at hand.
abbrev pub IsReadIn : Keys → LogLists → List Event → SlotNotes → List Entry → Type 0
IsReadIn keys log before s joined =
    IsReadTo keys.pads keys.shape s.start (keys.leaf_of s.point) (noted_at (length before + 2) log.altered)
    (whole keys (first_fold keys) (record log { events = before })) joined

-- What is noted of a slot whose path was read: of a block, what is found for it at hand, which is right under the
-- point's counter; of a dummy, nothing.
abbrev pub IsTaken : Keys → List Entry → Point → SlotNotes → Type 0
IsTaken keys joined (Real a c) s =
    (held joined a ≡ s.found) × (judged keys a.0 c s.found ≡ None) × MayStand a.0 s.found s.put s.behind
IsTaken keys joined (Dummy n) s = (s.found ≡ None) × (s.behind ≡ Nothing)

-- A slot was done: its path was read without evidence, and a message of its own block alone is put back.
pub record IsDone (keys : Keys) (log : LogLists) (before : List Event) (s : SlotNotes) : Type 0 where
  pub joined : List Entry
  pub read : IsReadIn keys log before s joined
  pub taken : IsTaken keys joined s.point s
  pub put : IsOfPoint s.put s.point

-- Of a slot nothing is noted but its point.
pub record IsBare (s : SlotNotes) : Type 0 where
  pub found : s.found ≡ None
  pub put : s.put ≡ None
  pub chosen : s.chosen ≡ None
  pub behind : s.behind ≡ Nothing

-- These slots stand in order behind some events, with so many dummies among them. Only of the last one may there be
-- nothing but its point.
abbrev pub AreInOrder : Keys → LogLists → List Event → ℕ → List SlotNotes → Type 0
AreInOrder keys log before dummies [] = Unit {0}
AreInOrder keys log before dummies (s ∷ later) =
    IsNextPoint dummies s.asked s.point
    × (IsDone keys log before s ⊎ (IsBare s × (later ≡ [])))
    × AreInOrder keys log (before ++ events_of keys s) (next_dummy dummies s.point) later

-- Each of these slots, behind some events, was done.
abbrev pub AreDone : Keys → LogLists → List Event → List SlotNotes → Type 0
AreDone keys log before [] = Unit {0}
AreDone keys log before (s ∷ later) = IsDone keys log before s × AreDone keys log (before ++ events_of keys s) later

-- An altered reply was noted in one of these slots, behind some events: right behind the slot's point.
abbrev pub IsNotedIn : Keys → List Event → List SlotNotes → Altered → Type 0
IsNotedIn keys before [] reply = ⊥
IsNotedIn keys before (s ∷ later) reply =
    (reply.before ≡ length before + 2) ⊎ IsNotedIn keys (before ++ events_of keys s) later reply

-- The events of a log are those of slots in order: each slot's leaf is that of its point, dummies are numbered in turn,
-- what is accepted is what the contents have, under the point's counter and with its tag, a line that is answered is
-- that of the block in whose slot it is answered, as it was found and as it was put back, and another block's message
-- is appended only where nothing was put back. Each altered reply was noted in one of the slots.
pub record LogOrder (keys : Keys) (log : LogLists) : Type 0 where
  pub slots : List SlotNotes
  pub events : log.events ≡ flat_map (events_of keys) slots
  pub order : AreInOrder keys log [] 0 slots
  pub noted : (reply : Altered) → Has reply log.altered → IsNotedIn keys [] slots reply
