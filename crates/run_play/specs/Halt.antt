-- The Halt: a play cut by a stop in one of its slots, or in the append after it.
use Rattle.std.specs.Prelude.{◌≡◌, ◌<◌, ℕ, zero, suc, ◌+◌, ◌*◌, nat_le, if◌then◌else◌, List, [], ◌∷◌, ◌++◌, take}
use Rattle.std.specs.Prelude.{slice_get, None, Some, IsSome}
use Rattle.std.specs.Option.{option_map, option_map_or}
use Rattle.asc_base.specs.TreeShape.{olat_of}
use Rattle.asc_base.specs.declared.block.Message.{Message}
use Rattle.asc_base.specs.declared.stop.Evidence.{Evidence}
use Rattle.asc_base.specs.declared.stop.Evidence.TheVariants.{Doubled}
use Rattle.bus_schedule.specs.Schedule.{move_time_of}
use Rattle.bus_watch.specs.Path.{reads_end}
use Rattle.run_play.specs.Slots.{Slot, no_numbers}
use Rattle.run_play.specs.Play.{PlayEnding, StashFull, Integrity, Device, Play}

-- Where in a slot a stop comes: its reads are refused; too many blocks stay; a move fails, the first being 0; or the
-- append after it is refused, or finds too many blocks.
pub data Stop : Type 0 where
  Refused : Evidence → Stop
  Overfull : ℕ → Stop
  MoveFails : ℕ → Stop
  AppendRefused : Evidence → Stop
  AppendOverfull : ℕ → Stop

-- how the run ends then
abbrev pub ending_of : Stop → PlayEnding
ending_of (Refused evidence) = Integrity evidence
ending_of (Overfull held) = StashFull held
ending_of (MoveFails move) = Device
ending_of (AppendRefused evidence) = Integrity evidence
ending_of (AppendOverfull held) = StashFull held

-- the evidence of a message that is refused behind a slot: there are two blocks of its address
abbrev pub doubled_by : Message → Evidence
doubled_by message = Doubled message.address

-- the slot with nothing after its point, and with nothing after its block is put back
abbrev pub before_put : Slot → Slot
before_put slot = record slot { put = None; chosen = None; appended = None }

abbrev pub after_put : Slot → Slot
after_put slot = record slot { chosen = None; appended = None }

-- the run whose memory couldn't be prepared
abbrev pub unprepared : Play
unprepared = record { slots = []; ending = Device; numbers = no_numbers; last = 0; behind = None }

module _ (levels : ℕ) where
  -- A stop can come in a slot: a move that fails is one of its reads or writes; a message that is refused behind it, or
  -- that finds too many blocks, is appended there, and it is refused as one of two blocks of its address.
  abbrev pub Fits : Stop → Slot → Type 0
  Fits (Refused evidence) slot = Unit {0}
  Fits (Overfull held) slot = Unit {0}
  Fits (MoveFails move) slot = move < 2 * (levels + 1)
  Fits (AppendRefused evidence) slot = option_map doubled_by slot.appended ≡ Some evidence
  Fits (AppendOverfull held) slot = IsSome slot.appended

  -- The end time of a stop in the slot with this start: that of its reads; the end of the move that failed; or that of
  -- the slot.
  abbrev pub end_of : ℕ → Stop → ℕ
  end_of start (Refused evidence) = reads_end levels start
  end_of start (Overfull held) = reads_end levels start
  end_of start (MoveFails move) = move_time_of start levels move + 1
  end_of start (AppendRefused evidence) = start + olat_of levels
  end_of start (AppendOverfull held) = start + olat_of levels

  -- What is done of the slot. Its block is put back after the reads, which are refused or not, and before the writes,
  -- of which there are none where too many blocks stay.
  abbrev pub part_of : Stop → Slot → Slot
  part_of (Refused evidence) slot = before_put slot
  part_of (Overfull held) slot = after_put slot
  part_of (MoveFails move) slot = if nat_le move levels then before_put slot else after_put slot
  part_of (AppendRefused evidence) slot = slot
  part_of (AppendOverfull held) slot = slot

  -- some slots, a part of the next one, and how far the run came there
  abbrev pub cut_at : Stop → List Slot → Slot → Play
  cut_at stop before slot = record {
    slots = before ++ part_of stop slot ∷ [];
    ending = ending_of stop;
    numbers = slot.left;
    last = end_of slot.start stop;
    behind = None;
  }

  -- A play cut by a stop in its k-th slot, the first being 1, or in the append after it. The run whose memory couldn't
  -- be prepared is cut at 0. A play with fewer slots is left as it is.
  abbrev pub halt : Play → ℕ → Stop → Play
  halt play zero stop = unprepared
  halt play (suc k) stop = option_map_or (cut_at stop (take k play.slots)) (slice_get play.slots k) play

  -- A run is a play cut in one of its slots, or in the append after it, by a stop that can come there; so many slots
  -- stand before that one.
  pub record IsHalted (whole run : Play) : Type 0 where
    pub before : ℕ
    pub slot : Slot
    pub at : slice_get whole.slots before ≡ Some slot
    pub stop : Stop
    pub fits : Fits stop slot
    pub is : run ≡ halt whole (suc before) stop
