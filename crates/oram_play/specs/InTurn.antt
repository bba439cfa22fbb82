-- The slots of accesses that are taken one after another.
use Rattle.std.specs.Prelude.{◌≡◌, ◌<◌, ◌+◌, ℕ, List, [], ◌∷◌, ◌++◌, Option}
use Rattle.asc_base.specs.TreeShape.{olat_of}
use Rattle.asc_base.specs.declared.block.Line.{Line}
use Rattle.asc_base.specs.declared.block.Message.{Message}
use Rattle.asc_base.specs.declared.settings.Config.{Config}
use Rattle.oram_walk.specs.declared.slots.Access.{Access}
use Rattle.rate_enforcer.specs.PortStep.{PortState}
use Rattle.run_play.specs.Slots.{Pace, Numbers, Slot, Passed}
use Rattle.oram_play.specs.Taken.{HasTaken, asked_start, asked_slots}

-- an access, the line that was answered, and the message that was appended behind its slot, if one was
pub record AnsweredAccess : Type 0 where
  pub access : Access
  pub line : Line
  pub appended : Option Message

module _ (config : Config) (numbers : Numbers) where
  -- the slots of one after a pace, and the pace after them
  abbrev pub answered_slots : Pace → AnsweredAccess → Passed
  answered_slots pace one = asked_slots config numbers pace one.access one.line one.appended

  -- The slots of these accesses after a pace, one after another, and the pace after them all.
  abbrev pub slots_in_turn : List AnsweredAccess → Pace → Passed
  slots_in_turn [] pace = record { slots = []; pace = pace }
  slots_in_turn (one ∷ more) pace =
      let first = answered_slots pace one in
      let rest = slots_in_turn more first.pace in
      record { slots = first.slots ++ rest.slots; pace = rest.pace }

  -- The first of these accesses is asked for at a time, and each other one at the end of the one before; each slot
  -- starts before the time of the settings; and the last one ends at a time, the first time where there is none.
  abbrev pub AreInTurn : ℕ → List AnsweredAccess → Pace → ℕ → Type 0
  AreInTurn asked [] pace end = end ≡ asked
  AreInTurn asked (one ∷ more) pace end =
      let start = asked_start config numbers pace one.access in
      (one.access.asked ≡ asked) × (start < config.time)
      × AreInTurn (start + olat_of config.shape.levels) more (answered_slots pace one).pace end

-- A port has taken these slots, and behind them those of some accesses one after another, from the one that is asked
-- for at a time to one that ends at a time.
pub record TakesInTurn (config : Config) (numbers : Numbers) (asked end : ℕ) (slots : List Slot) (pace : Pace)
    (new : PortState) : Type 0 where
  pub accesses : List AnsweredAccess
  pub in_turn : AreInTurn config numbers asked accesses pace end
  pub taken : HasTaken new (slots ++ (slots_in_turn config numbers accesses pace).slots)
      (slots_in_turn config numbers accesses pace).pace
