-- What the steps of the checker do, as the timetable says.
use Rattle.std.specs.Prelude.{◌≡◌, ℕ, suc, ◌+◌, ◌-◌, ◌*◌, ◌^◌, ◌<◌, true, false}
use Rattle.asc_base.specs.TreeShape.{olat_of}
use Rattle.bus_schedule.specs.Timetable.{Public, AgreeTo, count_of, choices_of}
use Rattle.bus_schedule.specs.Timetable.{rate_at, falls_next, beat_after, beat_at}
use Rattle.bus_schedule.specs.Timetable.{start_at}
use Rattle.bus_schedule.specs.declared.beat.Beat.{Beat}
use Rattle.bus_trace.specs.Trace.{TraceLists}
use Rattle.trace_checker.specs.Checker.{Allows}
use Rattle.trace_checker.specs.declared.progress.Next.{Next}
use Rattle.trace_checker.specs.declared.progress.Next.TheVariants.{Known, Open}
use Rattle.trace_checker.specs.declared.progress.Progress.{Progress}
use Rattle.trace_checker.specs.declared.progress.Slot.{Slot}

-- the start after a slot, where the rate of this index is in force from its end on
abbrev pub start_with : Public → Beat → ℕ → ℕ
start_with p before index = before.next + olat_of p.levels + rate_at p.rates index

-- the code with one digit more, which is the highest
abbrev pub with_index : Public → ℕ → ℕ → ℕ → ℕ
with_index p code places index = code + index * count_of p ^ places

-- Of k lines that are allowed, the code is the least that allows them, its digits are those of each other one, and the
-- next slot is known.
pub record KnownAt (t : TraceLists) (k code : ℕ) (beat : Beat) : Type 0 where
  pub allows : Allows t k code
  pub beat_is : beat ≡ beat_at t.header code k
  pub fits : code < count_of t.header ^ beat.choices
  pub others : (other : ℕ) → Allows t k other → AgreeTo t.header code other beat.choices
  pub kept : (last : ℕ) → k ≡ suc last → falls_next t.header (beat_at t.header code last) ≡ false

-- The same, where a choice fell at the end of the last slot, whose digit isn't known yet.
pub record OpenAt (t : TraceLists) (k code : ℕ) (before : Beat) : Type 0 where
  pub last : ℕ
  pub is_last : k ≡ suc last
  pub allows : Allows t k code
  pub before_is : before ≡ beat_at t.header code last
  pub falls : falls_next t.header before ≡ true
  pub fits : code < count_of t.header ^ before.choices
  pub others : (other : ℕ) → Allows t k other → AgreeTo t.header code other before.choices

-- so far the checker has come
abbrev pub KnowsNext : TraceLists → ℕ → ℕ → Next → Type 0
KnowsNext t k code (Known beat) = KnownAt t k code beat
KnowsNext t k code (Open before) = OpenAt t k code before

abbrev pub Knows : TraceLists → ℕ → Progress → Type 0
Knows t k progress = KnowsNext t k progress.code progress.next

-- The same with a start that the next slot has: its digit is known.
pub record SlotAt (t : TraceLists) (k : ℕ) (slot : Slot) (start : ℕ) : Type 0 where
  pub allows : Allows t k slot.code
  pub beat_is : slot.beat ≡ beat_at t.header slot.code k
  pub fits : slot.code < count_of t.header ^ slot.beat.choices
  pub next : slot.beat.next ≡ start
  pub others : (other : ℕ) → Allows t k other → start_at t.header other k ≡ start
      → AgreeTo t.header slot.code other slot.beat.choices

-- ---- what a step needs and does

-- the digits are in their ranges, and the next slot or the last one starts early enough
abbrev pub IsSoundNext : Public → ℕ → Next → Type 0
IsSoundNext p code (Known beat) = code < count_of p ^ beat.choices
IsSoundNext p code (Open before) =
    (code < count_of p ^ before.choices) × (before.next < 2 ^ 39) × (before.choices < choices_of p)

abbrev pub IsSound : Public → Progress → Type 0
IsSound p progress = IsSoundNext p progress.code progress.next

-- the next slot may have this start
abbrev pub MayStartNext : Public → Next → ℕ → Type 0
MayStartNext p (Known beat) start = beat.next ≡ start
MayStartNext p (Open before) start = (index : ℕ) × (index < count_of p) × (start_with p before index ≡ start)

-- it has it, with these digits
pub record TakesIndex (p : Public) (code : ℕ) (before : Beat) (start : ℕ) (slot : Slot) : Type 0 where
  pub index : ℕ
  pub within : index < count_of p
  pub starts : start_with p before index ≡ start
  pub code_is : slot.code ≡ with_index p code before.choices index
  pub beat_is : slot.beat ≡ beat_after p before index

pub record TakesBeat (code : ℕ) (beat : Beat) (start : ℕ) (slot : Slot) : Type 0 where
  pub starts : beat.next ≡ start
  pub code_is : slot.code ≡ code
  pub beat_is : slot.beat ≡ beat

abbrev pub TakesNext : Public → ℕ → Next → ℕ → Slot → Type 0
TakesNext p code (Known beat) start slot = TakesBeat code beat start slot
TakesNext p code (Open before) start slot = TakesIndex p code before start slot

-- what is known after a slot: whether a choice falls at its end, and else the next one
abbrev pub FollowsNext : Public → Beat → Next → Type 0
FollowsNext p beat (Known next) = (falls_next p beat ≡ false) × (next ≡ beat_after p beat 0)
FollowsNext p beat (Open before) = (falls_next p beat ≡ true) × (before ≡ beat)

pub record Follows (p : Public) (slot : Slot) (progress : Progress) : Type 0 where
  pub code_is : progress.code ≡ slot.code
  pub next : FollowsNext p slot.beat progress.next

-- the least start that the next slot may have, and the greatest
abbrev pub first_start : Public → Next → ℕ
first_start p (Known beat) = beat.next
first_start p (Open before) = start_with p before 0

abbrev pub last_start : Public → Next → ℕ
last_start p (Known beat) = beat.next
last_start p (Open before) = start_with p before (count_of p - 1)

-- the last slot starts early enough for the arithmetic
abbrev pub IsEarly : Next → Type 0
IsEarly (Known beat) = Unit {0}
IsEarly (Open before) = before.next < 2 ^ 39
