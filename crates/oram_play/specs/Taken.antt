-- What a port's log says of the slots of a play, and which slots an answered access takes.
use Rattle.std.specs.Prelude.{◌≡◌, ◌+◌, ℕ, min, List, [], ◌∷◌, ◌++◌, Option, Some, None}
use Rattle.asc_base.specs.TreeShape.{olat_of}
use Rattle.asc_base.specs.declared.block.Line.{Line}
use Rattle.asc_base.specs.declared.block.Message.{Message}
use Rattle.asc_base.specs.declared.block.Point.TheVariants.{Real}
use Rattle.asc_base.specs.declared.settings.Config.{Config}
use Rattle.bus_schedule.specs.Timetable.{public_of}
use Rattle.epoch_learner.specs.Learner.{Follows, Remembers}
use Rattle.oram_frontend.specs.Access.{next_message}
use Rattle.oram_walk.specs.declared.slots.Access.{Access}
use Rattle.oram_walk.specs.declared.slots.Purpose.{Purpose}
use Rattle.oram_walk.specs.declared.slots.Purpose.TheVariants.{Refill, Keep, Replace}
use Rattle.rate_enforcer.specs.PortStep.{PortState}
use Rattle.run_play.specs.OnTime.{IsPace}
use Rattle.run_play.specs.PlayEvents.{said_of_all, play_events}
use Rattle.run_play.specs.Requests.{Standing, Taken}
use Rattle.run_play.specs.Slots.{Pace, Numbers, Slot, Passed, passed, slot_next, pace_after}

-- The log of a port says the events of these slots, which leave this pace; the port counts the dummies among them.
pub record HasTaken (s : PortState) (slots : List Slot) (after : Pace) : Type 0 where
  pub said : said_of_all s.tap.log.events ≡ play_events slots
  pub pace : IsPace (public_of s.clock.config) slots after
  pub dummies : after.dummies ≡ s.clock.dummies

-- This pace is a port's, between two slots: its next start, its last end, and its learner.
pub record IsPaceOf (s : PortState) (now : Pace) : Type 0 where
  pub next : now.beat.next ≡ s.clock.next
  pub last : now.heard.ended ≡ s.clock.last
  pub follows : Follows s.clock.config now.beat s.clock.learner
  pub remembers : Remembers s.clock.learner now.heard

-- what is put back in the slot of an access: nothing in a refill, else the line that was found or the one that is
-- stored, under the next counter
abbrev pub put_in : Access → Line → Purpose → Option Message
put_in access line Refill = None
put_in access line Keep = Some (next_message access line)
put_in access line (Replace value) = Some (next_message access value)

-- a slot behind which a message is appended
abbrev pub with_appended : Slot → Message → Slot
with_appended slot message = record slot { appended = Some message }

module _ (config : Config) (numbers : Numbers) where
  -- the dummies before an access, which start before it is asked for
  abbrev pub before_asked : Pace → Access → Passed
  before_asked pace access = passed (public_of config) numbers (min access.asked config.time) pace

  -- its slot's start
  abbrev pub asked_start : Pace → Access → ℕ
  asked_start pace access = (before_asked pace access).pace.beat.next

  -- The slots of an access after a pace, and the pace after them: those dummies, and the next slot, at its block's
  -- point, in which the line is found, and behind which a message may be appended.
  abbrev pub asked_slots : Pace → Access → Line → Option Message → Passed
  asked_slots pace access line appended =
      let before = before_asked pace access in
      record {
        slots = before.slots ++ slot_next (public_of config) before.pace numbers (Some access.asked)
            (Real access.address access.counter) (put_in access line access.purpose) appended ∷ [];
        pace = pace_after (public_of config) before.pace (Some access.asked);
      }

-- The same of a play: its slots, after which its clock is the end of the access's.
abbrev pub slots_taken : Config → Standing → Access → Line → Option Message → Taken
slots_taken config now access line appended =
    let taken = asked_slots config now.numbers now.pace access line appended in
    record {
      slots = taken.slots;
      standing = record now {
        pace = taken.pace;
        clock = asked_start config now.numbers now.pace access + olat_of config.shape.levels;
      };
    }
