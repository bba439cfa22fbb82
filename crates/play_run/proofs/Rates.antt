-- No rate in force is above the greatest of the rates, so the next slot starts at most that after the last end.
use Rattle.std.proofs.Common.{◌≡◌, ◌≤◌, ℕ, zero, suc, ◌+◌, List, [], ◌∷◌, length, get_or, fold, max, sym, ap}
use Rattle.std.proofs.Common.{subst, arith}
use Rattle.asc_base.specs.Settings.{IsConfig, greatest_rate}
use Rattle.asc_base.specs.declared.settings.Config.{Config}
use Rattle.bus_schedule.specs.declared.beat.Beat.{Beat}
use Rattle.bus_schedule.specs.Timetable.{public_of, rate_at, beat_at, start_at, end_at}
use Rattle.bus_schedule.proofs.ChoiceLaws.{rate-among}
use Rattle.bus_schedule.proofs.PublicParts.{first-among}
use Rattle.bus_schedule.proofs.TimetableLaws.{start-first, start-next}
use Rattle.run_play.specs.OnTime.{IsPace}
use Rattle.run_play.specs.PlayEvents.{code_in}
use Rattle.run_play.specs.Slots.{Pace, Slot}

-- ---- the greatest of a list
most-start : (start : ℕ) (xs : List ℕ) → start ≤ fold max start xs
most-start start [] = omega arith
most-start start (x ∷ xs) = let rest = most-start (max start x) xs in omega (arith, rest)

most-each : (start : ℕ) (xs : List ℕ) (i : ℕ) → get_or xs i 0 ≤ fold max start xs
most-each start [] i = omega arith
most-each start (x ∷ xs) zero = let rest = most-start (max start x) xs in omega (arith, rest)
most-each start (x ∷ xs) (suc i) = most-each (max start x) xs i

-- the greatest rate of a configuration
abbrev pub greatest_of : Config → ℕ
greatest_of config = greatest_rate config.rates.list config.rates.count

rate-few : (config : Config) (index : ℕ) → rate_at (public_of config).rates index ≤ greatest_of config
rate-few config index = most-each 0 (public_of config).rates index

module _ (config : Config) (is : IsConfig config) where
  beat-few : (code n : ℕ) → (beat_at (public_of config) code n).rate ≤ greatest_of config
  beat-few code n =
      let among = rate-among (public_of config) code n (first-among config is) in
      subst (λ rate. rate ≤ greatest_of config) (sym among.2) (rate-few config among.0)

  start-few : (code n : ℕ)
      → start_at (public_of config) code n ≤ end_at (public_of config) code n + greatest_of config
  start-few code zero =
      let few : rate_at (public_of config).rates (public_of config).first ≤ greatest_of config =
      rate-few config (public_of config).first in
      let first = start-first (public_of config) code in
      omega (arith, first, few)
  start-few code (suc n) =
      let few : (beat_at (public_of config) code (suc n)).rate ≤ greatest_of config = beat-few code (suc n) in
      let next = start-next (public_of config) code n in
      omega (arith, next, few)

  -- of the pace that slots leave
  pub pace-rate : (slots : List Slot) (pace : Pace) → IsPace (public_of config) slots pace
      → pace.beat.rate ≤ greatest_of config
  pace-rate slots pace h =
      subst (λ (b : Beat). b.rate ≤ greatest_of config) (sym h.beat)
      (beat-few (code_in (public_of config) slots) (length slots))

  pub pace-next : (slots : List Slot) (pace : Pace) → IsPace (public_of config) slots pace
      → pace.beat.next ≤ pace.heard.ended + greatest_of config
  pace-next slots pace h =
      let code : ℕ = code_in (public_of config) slots in
      let few = start-few code (length slots) in
      let next : pace.beat.next ≡ start_at (public_of config) code (length slots) =
      ap (λ (b : Beat). b.next) h.beat in
      omega (arith, few, next, h.ended)
