-- The LearnerRule: the index that a choice of a rate takes, as sums over the accesses since the last choice. The rule
-- is this project's own.
use Rattle.std.specs.Prelude.{ℕ, ◌-◌, ◌*◌, ◌/◌, nat_le, ◌==◌, Bool, if◌then◌else◌, List, length, Option, Some, None}
use Rattle.std.specs.Int.{abs_diff}
use Rattle.std.specs.List.{sum_by, list_all}
use Rattle.asc_base.specs.Greatest.{least}
use Rattle.bus_schedule.specs.Timetable.{rate_at}

-- An access of the memory: the start of its slot, and when it was asked for, both in cycles. A dummy wasn't asked for.
pub record Seen : Type 0 where
  pub start : ℕ
  pub asked : Option ℕ

-- 1 for a real access, and 0 for a dummy
abbrev pub real_count : Option ℕ → ℕ
real_count None = 0
real_count (Some asked) = 1

-- how many cycles an access that starts here waited; a dummy waits none
abbrev pub waiting : ℕ → Option ℕ → ℕ
waiting start None = 0
waiting start (Some asked) = start - asked

-- how many of these are real
abbrev pub real_of : List Seen → ℕ
real_of accesses = sum_by (λ (a : Seen). real_count a.asked) accesses

-- how many cycles they waited in all
abbrev pub waste_of : List Seen → ℕ
waste_of accesses = sum_by (λ (a : Seen). waiting a.start a.asked) accesses

-- no rate is nearer to a number than the one with this index
abbrev pub is_nearest : List ℕ → ℕ → ℕ → Bool
is_nearest rates number index =
    list_all (λ rate. nat_le (abs_diff number (rate_at rates index)) (abs_diff number rate)) rates

-- The index of the nearest of rates that rise, the smaller on a tie: the least at which no rate is nearer.
unfoldable pub nearest : List ℕ → ℕ → ℕ
nearest rates number = least (is_nearest rates number) (length rates - 1)

-- how many cycles of these no access waited or took, for each real access
abbrev pub idle_per_access : (olat cycles real waste : ℕ) → ℕ
idle_per_access olat cycles real waste = (cycles - waste - real * olat) / real

-- The rule on sums: the nearest rate to the idle cycles for each real access since the last choice, and the greatest
-- rate where there was no real access.
unfoldable pub index_by_sums : List ℕ → (olat cycles real waste : ℕ) → ℕ
index_by_sums rates olat cycles real waste =
    if real == 0 then length rates - 1 else nearest rates (idle_per_access olat cycles real waste)

-- The rule on the accesses themselves.
abbrev pub learner_rule : List ℕ → ℕ → List Seen → ℕ → ℕ
learner_rule rates olat accesses cycles = index_by_sums rates olat cycles (real_of accesses) (waste_of accesses)
