-- What is known at the end of a trace.
use Rattle.std.proofs.Common.{◌≡◌, ℕ, zero, suc, ◌+◌, ◌^◌, ◌<◌, ◌≤◌, false, length, get_or, refl, sym, ◌∙◌}
use Rattle.std.proofs.Common.{ap, subst, arith, inl, inr, Some}
use Rattle.std.specs.Prelude.{slice_get}
use Rattle.std.proofs.lemmas.Bool.{cases_lt}
use Rattle.std.proofs.lemmas.List.{get_or_default}
use Rattle.asc_base.specs.TreeShape.{olat_of}
use Rattle.bus_schedule.specs.declared.beat.Beat.{Beat}
use Rattle.bus_schedule.specs.Timetable.{count_of, choices_of, digit_of, falls_next, beat_at}
use Rattle.bus_schedule.specs.Timetable.{start_at, end_at, timetable, fallen}
use Rattle.bus_schedule.proofs.ChoiceLaws.{choices-few, rate-kept}
use Rattle.bus_schedule.proofs.Digits.{code-least, code-next-le}
use Rattle.bus_schedule.proofs.TimetableParts.{fallen-between, fallen-inside, timetable-has}
use Rattle.bus_trace.specs.Trace.{TraceLists}
use Rattle.bus_trace.specs.Grammar.{IsTrace, IsSeen}
use Rattle.bus_trace.specs.declared.trace.Seen.{Seen}
use Rattle.trace_checker.specs.Checker.{Allows, IsAllowed, Fits, IsLeast, IsMost, Next}
use Rattle.trace_checker.specs.Steps.{start_with, with_index, KnownAt, OpenAt, Knows, IsSound}
use Rattle.trace_checker.specs.Steps.{KnowsNext, IsSoundNext}
use Rattle.trace_checker.specs.declared.progress.Next.{Next as NextSlot}
use Rattle.trace_checker.specs.declared.progress.Next.TheVariants.{Known, Open}
use Rattle.trace_checker.specs.declared.progress.Progress.{Progress}
use Rattle.trace_checker.proofs.HeaderLaws.{some_count}
use Rattle.trace_checker.proofs.Allowed.{all_allowed, allows_last, at_seen, fits_late, fits_of, of_fits, slots_counted}
use Rattle.trace_checker.proofs.StepLaws.{beat_then, index_allows, index_before, index_beat, index_digit}
use Rattle.trace_checker.proofs.StepLaws.{index_agrees, index_start, open_choices, open_start, with_index_fits}

-- ---- the slots so far start before the end

pub seen_of : (t : TraceLists) (k : ℕ) → k < length t.accesses → (seen : Seen) × (slice_get t.accesses k ≡ Some seen)
seen_of t k small =
    let nil : Seen = record { start = 0; leaf = record { 0 = 0 }; moves = 0 } in
    let seen = get_or t.accesses k nil in
    (seen, at_seen t.accesses k seen small (get_or_default t.accesses k seen nil small))

-- a start of an allowed slot is the trace's
pub start_small : (t : TraceLists) (k code : ℕ) → IsTrace t → k < length t.accesses → Allows t (k + 1) code
    → (start_at t.header code k ≤ 536870912) × (start_at t.header code k < t.end)
unfolding seen_of
start_small t k code is small allows =
    let one = seen_of t k small in
    let last = allows_last t k code one.0 allows one.1 in
    let ranges : IsSeen t.header.levels one.0 = is.accesses k (record { start = 0; leaf = record { 0 = 0 }; moves = 0 })
    small in
    (omega (arith, ranges.start, last.starts), last.early)

pub open_early : (t : TraceLists) (k code : ℕ) (before : Beat) → IsTrace t → k ≤ length t.accesses
    → OpenAt t k code before
    → (before.next ≤ 536870912) × (before.next < t.end) × (before.choices + 1 ≤ choices_of t.header)
open_early t k code before is within opened =
    let same : k ≡ opened.last + 1 = omega (arith, opened.is_last) in
    let small = start_small t opened.last code is (omega (arith, within, same))
    (subst (λ n. Allows t n code) same opened.allows) in
    let next = ap (λ (b : Beat). b.next) opened.before_is in
    let choices = ap (λ (b : Beat). b.choices) (beat_then t.header code opened.last before opened.before_is) in
    let more = open_choices t.header before (digit_of code (count_of t.header) before.choices) opened.falls in (
      omega (arith, small.0, next),
      omega (arith, small.1, next),
      omega (arith, choices, more, choices-few t.header code (suc opened.last)),
    )

pub knows_sound : (t : TraceLists) (k : ℕ) (progress : Progress) → IsTrace t → k ≤ length t.accesses
    → Knows t k progress → IsSound t.header progress
knows_sound t k progress is within knows = sound progress.next knows
  where
    sound : (next : NextSlot) → KnowsNext t k progress.code next → IsSoundNext t.header progress.code next
    sound (Known beat) known = known.fits
    sound (Open before) opened =
        let early = open_early t k progress.code before is within opened in
        (opened.fits, omega (arith, early.0), omega (arith, early.2))

-- ---- the end of the trace

ended_choices : (t : TraceLists) (code n : ℕ) → t.end ≤ start_at t.header code n → n ≡ length t.accesses
    → Allows t n code
    → ((last : ℕ) → n ≡ suc last → falls_next t.header (beat_at t.header code last) ≡ false)
    → fallen t.header code t.end ≡ (beat_at t.header code n).choices
ended_choices t code zero late counted allows kept = fallen-between t.header code 0 t.end (omega arith) late
ended_choices t code (suc j) late counted allows kept =
    elim (cases_lt t.end (end_at t.header code (suc j))) [
      | inl cut ↦
          (let small : j < length (timetable t.header code t.end) =
          omega (arith, slots_counted t (suc j) code allows (omega (arith, counted))) in
          fallen-inside t.header code j t.end ((timetable-has t.header code t.end j).0 small) cut
          ∙ sym (rate-kept t.header code j (kept j refl)).1)
      | inr over ↦ fallen-between t.header code (suc j) t.end over late
    ]

pub known_end : (t : TraceLists) (n code : ℕ) (beat : Beat) → IsTrace t → n ≡ length t.accesses → KnownAt t n code beat
    → t.end ≤ beat.next → IsLeast (Fits t) code × (fallen t.header code t.end ≡ beat.choices)
known_end t n code beat is counted known late =
    let next : start_at t.header code n ≡ beat.next = ap (λ (b : Beat). b.next) (sym known.beat_is) in (
      record {
        has = fits_of t code (subst (λ m. Allows t m code) counted known.allows)
            (subst (λ m. t.end ≤ start_at t.header code m) counted (omega (arith, late, next)));
        least = λ other fits.
            code-least (count_of t.header) code other beat.choices (some_count t.header is.header).0 known.fits
            (known.others other (of_fits t n other fits));
      },
      ended_choices t code n (omega (arith, late, next)) counted known.allows known.kept
          ∙ ap (λ (b : Beat). b.choices) (sym known.beat_is),
    )

-- so many choices fell by the end, where the last may fall at this end of a slot
pub record FellBy (t : TraceLists) (before : Beat) (fell : ℕ) : Type 0 where
  pub over : before.next + olat_of t.header.levels ≤ t.end → fell ≡ before.choices + 1
  pub cut : t.end < before.next + olat_of t.header.levels → fell ≡ before.choices

open_fallen : (t : TraceLists) (n code : ℕ) (before : Beat) (index fell : ℕ) → IsTrace t → n ≤ length t.accesses
    → (opened : OpenAt t n code before) → index < count_of t.header → t.end ≤ start_with t.header before index
    → FellBy t before fell → fallen t.header (with_index t.header code before.choices index) t.end ≡ fell
open_fallen t n code before index fell is within opened small late by =
    let some = (some_count t.header is.header).0 in
    let other = with_index t.header code before.choices index in
    let start : before.next ≡ start_at t.header other opened.last =
    ap (λ (b : Beat). b.next) (index_before t n code before index opened some) in
    let next : start_at t.header other (suc opened.last) ≡ start_with t.header before index =
    ap (start_at t.header other) (sym opened.is_last) ∙ index_start t n code before index opened some small in
    elim (cases_lt t.end (before.next + olat_of t.header.levels)) [
      | inl cut ↦
          fallen-inside t.header other opened.last t.end
          (omega (arith, (open_early t n code before is within opened).1, start)) (omega (arith, cut, start))
          ∙ ap (λ (b : Beat). b.choices) (sym (index_before t n code before index opened some)) ∙ sym (by.cut cut)
      | inr over ↦
          fallen-between t.header other (suc opened.last) t.end (omega (arith, over, start)) (omega (arith, late, next))
          ∙ ap (λ m. (beat_at t.header other m).choices) (sym opened.is_last)
          ∙ ap (λ (b : Beat). b.choices) (sym (index_beat t n code before index opened some small))
          ∙ open_choices t.header before index opened.falls ∙ sym (by.over over)
    ]

pub open_end : (t : TraceLists) (n code : ℕ) (before : Beat) (index fell : ℕ) → IsTrace t → n ≡ length t.accesses
    → OpenAt t n code before → index < count_of t.header → t.end ≤ start_with t.header before index
    → ((lower : ℕ) → lower < index → start_with t.header before lower < t.end) → FellBy t before fell
    → IsLeast (Fits t) (with_index t.header code before.choices index)
    × (fallen t.header (with_index t.header code before.choices index) t.end ≡ fell)
open_end t n code before index fell is counted opened small late lower by =
    let some = (some_count t.header is.header).0 in
    let other = with_index t.header code before.choices index in
    let within : n ≤ length t.accesses = omega (arith, counted) in
    let next = index_start t n code before index opened some small in (
      record {
        has = fits_of t other
            (subst (λ m. Allows t m other) counted (index_allows t n code before index opened some within))
            (subst (λ m. t.end ≤ start_at t.header other m) counted (omega (arith, late, next)));
        least = λ any fits. least any fits (of_fits t n any fits) some;
      },
      open_fallen t n code before index fell is within opened small late by,
    )
  where
    least : (any : ℕ) → Fits t any → Allows t n any → 1 ≤ count_of t.header
        → with_index t.header code before.choices index ≤ any
    least any fits allows some =
        let digit = digit_of any (count_of t.header) before.choices in
        let start = open_start t n code before any opened allows in
        let from : t.end ≤ start_at t.header any n =
        subst (λ m. t.end ≤ start_at t.header any m) (sym counted) (fits_late t any fits) in
        let up : index ≤ digit = elim (cases_lt digit index) [
          | inl below ↦ absurd (omega (arith, lower digit below, from, start))
          | inr up ↦ up
        ] in
        let one = index_digit t.header code before.choices index opened.fits small in
        code-next-le (count_of t.header) (with_index t.header code before.choices index) any before.choices some
        (subst (λ m. with_index t.header code before.choices index < count_of t.header ^ m)
        (let e : before.choices + 1 ≡ suc before.choices = omega arith in e)
        (with_index_fits (count_of t.header) code before.choices index opened.fits small))
        (λ place below. sym (index_agrees t.header code before.choices index some place below)
        ∙ opened.others any allows place below)
        (omega (arith, one, up))

-- where the latest start that may come next is before the end, no code has the trace's slots
pub no_end : (t : TraceLists) (n wanted : ℕ) → n ≡ length t.accesses → IsMost (Next t n) wanted → wanted < t.end
    → ¬ IsAllowed t (suc n)
no_end t n wanted counted most early = λ allowed.
    let code = allowed.0 in
    let fits = all_allowed t code (subst (λ m. Allows t (suc m) code) counted allowed.1) in
    let late : t.end ≤ start_at t.header code n =
    subst (λ m. t.end ≤ start_at t.header code m) (sym counted) (fits_late t code fits) in
    omega (
      arith,
      late,
      early,
      most.most (start_at t.header code n)
          (record { code = code; allows = of_fits t n code fits; starts = refl }),
    )
