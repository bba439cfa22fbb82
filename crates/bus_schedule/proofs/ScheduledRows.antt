-- Logs of one slot and of none.
use Rattle.std.proofs.Common.{◌≡◌, ℕ, ◌<◌, [], ◌∷◌, refl, arith}
use Rattle.std.proofs.lemmas.List.Elements.{All-nil, All-cons, All-head}
use Rattle.asc_base.specs.Greatest.{greatest}
use Rattle.bus_watch.specs.declared.log.Event.TheVariants.{Chosen}
use Rattle.bus_schedule.specs.Timetable.{choices_of, start_at, bits_of, most_of, epoch_at, beat_at, starts_from, starts}
use Rattle.bus_schedule.specs.Timetable.{timetable, ended_by, fallen}
use Rattle.bus_watch.specs.Path.{along}
use Rattle.bus_schedule.specs.Schedule.{moves_of, schedule}
use Rattle.bus_schedule.specs.Shown.{code_of}
use Rattle.bus_schedule.specs.Scheduled.{log_code, IsScheduled}
use Rattle.bus_schedule.specs.Rows.{two_rates, longer_epoch, first_slot_log, idle_log}
use Rattle.bus_schedule.proofs.TimetableLaws.{start-first}
use Rattle.bus_schedule.proofs.TimetableParts.{fallen-inside}
use Rattle.bus_schedule.proofs.ScheduledLaws.{scheduled-few}

pub before-end : IsScheduled two_rates 303 (first_slot_log [])
unfolding greatest bits_of most_of epoch_at beat_at starts_from starts timetable ended_by
    along moves_of schedule code_of
before-end =
    record { starts = refl; leaves = refl; moves = refl; indices = All-nil (λ index. index < 2); fell = refl }

pub at-end : IsScheduled two_rates 304 (first_slot_log (Chosen 1 ∷ []))
unfolding greatest bits_of most_of epoch_at beat_at starts_from starts timetable ended_by
    along moves_of schedule code_of
at-end = record {
  starts = refl;
  leaves = refl;
  moves = refl;
  indices = All-cons (λ index. index < 2) 1 [] (omega arith) (All-nil (λ index. index < 2));
  fell = refl;
}

-- how many choices fall by the end of the first slot, and by the cycle before it
fallen-before : (index : ℕ) → fallen two_rates (log_code two_rates (first_slot_log (Chosen index ∷ []))) 303 ≡ 0
unfolding beat_at
fallen-before index =
    let code : ℕ = log_code two_rates (first_slot_log (Chosen index ∷ [])) in
    let first : start_at two_rates code 0 ≡ 128 = start-first two_rates code in
    fallen-inside two_rates code 0 303 (omega arith) (omega arith)

fallen-after : fallen two_rates (log_code two_rates (first_slot_log [])) 304 ≡ 1
unfolding greatest bits_of most_of epoch_at beat_at starts_from starts timetable ended_by code_of
fallen-after = refl

pub too-early : (index : ℕ) → IsScheduled two_rates 303 (first_slot_log (Chosen index ∷ [])) → ⊥
too-early index h = absurd (omega (arith, h.fell, fallen-before index))

pub not-noted : IsScheduled two_rates 304 (first_slot_log []) → ⊥
not-noted h = absurd (omega (arith, h.fell, fallen-after))

pub no-rate : IsScheduled two_rates 304 (first_slot_log (Chosen 2 ∷ [])) → ⊥
no-rate h = let small : 2 < 2 = All-head (λ index. index < 2) 2 [] h.indices in absurd (omega arith)

-- one choice is allowed
one-choice : choices_of two_rates ≡ 1
unfolding greatest bits_of most_of
one-choice = refl

pub two-idle : (end first second : ℕ) → IsScheduled two_rates end (idle_log (Chosen first ∷ Chosen second ∷ [])) → ⊥
two-idle end first second h =
    absurd (omega (arith, scheduled-few two_rates end (idle_log (Chosen first ∷ Chosen second ∷ [])) h, one-choice))

pub two-after : (end first second : ℕ)
    → IsScheduled two_rates end (first_slot_log (Chosen first ∷ Chosen second ∷ [])) → ⊥
two-after end first second h =
    let few = scheduled-few two_rates end (first_slot_log (Chosen first ∷ Chosen second ∷ [])) h in
    absurd (omega (arith, few, one-choice))

pub none-yet : IsScheduled two_rates 0 (idle_log [])
unfolding greatest bits_of most_of epoch_at beat_at starts_from starts timetable ended_by
    along moves_of schedule code_of
none-yet = record { starts = refl; leaves = refl; moves = refl; indices = All-nil (λ index. index < 2); fell = refl }

-- where epoch 1 starts at 400
pub no-choice : IsScheduled longer_epoch 304 (first_slot_log [])
unfolding greatest bits_of most_of epoch_at beat_at starts_from starts timetable ended_by
    along moves_of schedule code_of
no-choice =
    record { starts = refl; leaves = refl; moves = refl; indices = All-nil (λ index. index < 2); fell = refl }

pub longer-start : IsScheduled longer_epoch 0 (idle_log [])
unfolding greatest bits_of most_of epoch_at beat_at starts_from starts timetable ended_by
    along moves_of schedule code_of
longer-start =
    record { starts = refl; leaves = refl; moves = refl; indices = All-nil (λ index. index < 2); fell = refl }

fallen-none : fallen longer_epoch (log_code longer_epoch (idle_log (Chosen 1 ∷ Chosen 1 ∷ []))) 0 ≡ 0
unfolding greatest bits_of most_of epoch_at beat_at starts_from starts timetable ended_by code_of
fallen-none = refl

pub longer-twice : IsScheduled longer_epoch 0 (idle_log (Chosen 1 ∷ Chosen 1 ∷ [])) → ⊥
longer-twice h = absurd (omega (arith, h.fell, fallen-none))
