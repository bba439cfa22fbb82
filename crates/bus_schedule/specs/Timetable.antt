-- The Timetable: when slots start, and when a rate is chosen. It mentions no program. All numbers of cycles, the epochs
-- and the choices are this project's own.
use Rattle.std.specs.Prelude.{◌≡◌, ℕ, zero, suc, ◌+◌, ◌-◌, ◌*◌, ◌/◌, ◌%◌, ◌^◌, ◌<◌, nat_lt, nat_le, max, Bool, ◌&&◌}
use Rattle.std.specs.Prelude.{if◌then◌else◌, List, [], ◌∷◌, length, take, slice_index}
use Rattle.std.specs.List.{filter}
use Rattle.asc_base.specs.Greatest.{greatest}
use Rattle.asc_base.specs.TreeShape.{olat_of}
use Rattle.asc_base.specs.declared.settings.Config.{Config}
use Rattle.bus_schedule.specs.declared.beat.Beat.{Beat}

-- What is public of a configuration: the levels of the tree, the rates in cycles, the place of the first among them,
-- the length of epoch 0 in cycles, and the leakage budget in bits.
pub record Public : Type 0 where
  pub levels : ℕ
  pub rates : List ℕ
  pub first : ℕ
  pub epoch : ℕ
  pub leak : ℕ

-- the public part of a configuration
abbrev pub public_of : Config → Public
public_of config = record {
  levels = config.shape.levels;
  rates = take config.rates.count config.rates.list;
  first = config.first;
  epoch = config.epoch;
  leak = config.leak;
}

-- the number of rates
abbrev pub count_of : Public → ℕ
count_of p = length p.rates

-- the bits of one choice among so many: the logarithm to base 2, rounded down
unfoldable pub bits_of : ℕ → ℕ
bits_of count = greatest (λ bits. nat_le (2 ^ bits) count) count

-- how many choices a budget of so many bits allows among so many rates: none where there is one rate alone
unfoldable pub most_of : ℕ → ℕ → ℕ
most_of count leak = if nat_le count 1 then 0 else leak / bits_of count

-- how many choices are allowed
abbrev pub choices_of : Public → ℕ
choices_of p = most_of (count_of p) p.leak

-- The epoch of a time below 2 ^ 40: epoch i starts at epoch * (2 ^ i - 1), so that its length is epoch * 2 ^ i. No such
-- time is in an epoch above 40.
unfoldable pub epoch_at : ℕ → ℕ → ℕ
epoch_at epoch time = greatest (λ i. nat_le (epoch * (2 ^ i - 1)) time) 40

-- a digit of a code to a base, the least first
abbrev pub digit_of : ℕ → ℕ → ℕ → ℕ
digit_of code base place = code / base ^ place % base

-- two codes agree on their first so many digits
abbrev pub AgreeTo : Public → ℕ → ℕ → ℕ → Type 0
AgreeTo p first second places =
    (place : ℕ) → place < places → digit_of first (count_of p) place ≡ digit_of second (count_of p) place

-- the rate with an index
abbrev pub rate_at : List ℕ → ℕ → ℕ
rate_at rates index = slice_index rates index

-- A choice falls at an end whose epoch is greater than that of every earlier end, while choices are left.
abbrev pub falls : (epoch most reached choices end : ℕ) → Bool
falls epoch most reached choices end = nat_lt reached (epoch_at epoch end) && nat_lt choices most

-- A Beat is where the timetable stands between two slots: the start of the next slot, the rate in force, the greatest
-- epoch of an end so far, 0 before the first end, and how many choices fell.

-- whether a choice falls at the end of the slot that is next
abbrev pub falls_next : Public → Beat → Bool
falls_next p beat = falls p.epoch (choices_of p) beat.reached beat.choices (beat.next + olat_of p.levels)

-- before the first slot, which starts at the first rate
abbrev pub first_beat : Public → Beat
first_beat p = record { next = rate_at p.rates p.first; rate = rate_at p.rates p.first; reached = 0; choices = 0 }

-- after the slot that is next, where this rate is in force from its end on and so many choices fell
abbrev pub beat_with : Public → Beat → ℕ → ℕ → Beat
beat_with p beat rate choices = record {
  next = beat.next + olat_of p.levels + rate;
  rate = rate;
  reached = max beat.reached (epoch_at p.epoch (beat.next + olat_of p.levels));
  choices = choices;
}

-- after the slot that is next, where a choice that falls at its end takes this index
abbrev pub beat_after : Public → Beat → ℕ → Beat
beat_after p beat index =
    if falls_next p beat then beat_with p beat (rate_at p.rates index) (beat.choices + 1)
    else beat_with p beat beat.rate beat.choices

-- after the slot that is next, where the choices take the digits of a code, base the number of rates
abbrev pub beat_by : Public → ℕ → Beat → Beat
beat_by p code beat = beat_after p beat (digit_of code (count_of p) beat.choices)

-- after so many slots
unfoldable pub beat_at : Public → ℕ → ℕ → Beat
beat_at p code zero = first_beat p
beat_at p code (suc n) = beat_by p code (beat_at p code n)

-- the start of a slot, the first being 0
abbrev pub start_at : Public → ℕ → ℕ → ℕ
start_at p code n = (beat_at p code n).next

-- the end of the last of so many slots, 0 before the first
abbrev pub end_at : Public → ℕ → ℕ → ℕ
end_at p code zero = 0
end_at p code (suc n) = start_at p code n + olat_of p.levels

-- the starts of the next so many slots
unfoldable pub starts_from : Public → ℕ → Beat → ℕ → List ℕ
starts_from p code beat zero = []
starts_from p code beat (suc n) = beat.next ∷ starts_from p code (beat_by p code beat) n

-- the starts of the first so many slots
unfoldable pub starts : Public → ℕ → ℕ → List ℕ
starts p code n = starts_from p code (first_beat p) n

-- how many slots go into a time at most, the one that it cuts among them
abbrev pub slots_within : Public → ℕ → ℕ
slots_within p end = end / olat_of p.levels + 1

-- The timetable up to a time: the starts below it.
unfoldable pub timetable : Public → ℕ → ℕ → List ℕ
timetable p code end = filter (λ start. nat_lt start end) (starts p code (slots_within p end))

-- how many of its slots end by then
unfoldable pub ended_by : Public → ℕ → ℕ → ℕ
ended_by p code end = length (filter (λ start. nat_le (start + olat_of p.levels) end) (timetable p code end))

-- how many choices fall by then, each of which falls at an end
abbrev pub fallen : Public → ℕ → ℕ → ℕ
fallen p code end = (beat_at p code (ended_by p code end)).choices

-- the first start that isn't before a time: that of the slot that comes after those that start before it
abbrev pub first_from : Public → ℕ → ℕ → ℕ
first_from p code time = start_at p code (length (timetable p code time))
