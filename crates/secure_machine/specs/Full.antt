-- Which slots of a play find too many blocks to keep: what the play's log shows, over a memory that alters nothing.
use Rattle.std.specs.Prelude.{◌≡◌, ◌+◌, ◌*◌, ℕ, [], map, None, Some}
use Rattle.asc_base.specs.declared.stop.Stop.TheVariants as why
use Rattle.bus_watch.specs.Log.{LogLists}
use Rattle.bus_watch.specs.declared.log.Event.{Event}
use Rattle.bus_watch.specs.declared.log.Event.TheVariants.{Access, Drawn, Tagged, Chosen}
use Rattle.log_replay.specs.Judged.{verdict_on}
use Rattle.oram_contents.specs.Entries.{Keys}
use Rattle.run_play.specs.Halt as cut
use Rattle.run_play.specs.Halt.{ending_of, halt}
use Rattle.run_play.specs.Play as how
use Rattle.run_play.specs.Play.{Play}
use Rattle.run_play.specs.PlayEvents.{PlayEvent, Starts, Draws, Tags, Chooses, play_events}
use Rattle.run_play.specs.Slots.{Slot}

-- an event of a play as it is noted, with the leaf of its point
abbrev pub noted : Keys → PlayEvent → Event
noted keys (Starts start asked) = Access start asked
noted keys (Draws point) = Drawn point (record { 0 = keys.leaf_of point })
noted keys (Tags message) = Tagged message
noted keys (Chooses index) = Chosen index

-- The log of a play over a memory that alters nothing, but for its moves and for what is accepted and answered: these
-- change nothing of hand and buckets.
abbrev pub log_of : Keys → Play → LogLists
log_of keys run = record { moves = []; events = map (noted keys) (play_events run.slots); altered = [] }

-- No slot of a play has the verdict that too many blocks stay at hand, before its path is written or where a message is
-- appended behind it: wherever the play is cut by a full stash, its log doesn't show one.
abbrev pub NoSlotIsFull : Keys → (stash : ℕ) → Play → Type 0
NoSlotIsFull keys stash whole = (k : ℕ) (stop : cut.Stop) (held : ℕ) → ending_of stop ≡ how.StashFull held
    → verdict_on keys stash (log_of keys (halt keys.shape.levels whole k stop)) ≡ Some (why.StashFull held) → ⊥

-- In a slot nothing is put back, and nothing is appended behind it: as in a dummy's.
abbrev pub TagsNothing : Slot → Type 0
TagsNothing slot = (slot.put ≡ None) × (slot.appended ≡ None)

-- how many blocks a slot can bring to hand at most: four from each bucket of its path, one that is put back and one
-- that is appended
abbrev pub slot_entries : (levels : ℕ) → ℕ
slot_entries levels = 4 * (levels + 1) + 2
