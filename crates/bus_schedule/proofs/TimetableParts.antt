-- Which starts are below a time, slot by slot.
use Rattle.std.proofs.Common.{◌≡◌, ◌↔◌, ℕ, zero, suc, ◌+◌, ◌-◌, ◌*◌, ◌/◌, ◌<◌, ◌≤◌, Bool, true, cond, List, [], ◌∷◌}
use Rattle.std.proofs.Common.{◌++◌, length, take, get_or, refl, sym, ◌∙◌, ap, subst, inl, inr, arith, append-nil}
use Rattle.std.specs.Prelude.{nat_le}
use Rattle.std.specs.List.{filter, All}
use Rattle.std.proofs.Math.Nat.{div-mul-le_self}
use Rattle.std.proofs.lemmas.Nat.{mul-le}
use Rattle.std.proofs.lemmas.Bool.{cases_lt, le-leb, lt-leb}
use Rattle.std.proofs.lemmas.List.{get_or_append_left, get_or-append_right, take_all, take-append-le}
use Rattle.std.proofs.lemmas.List.Elements.{All-head, All-tail, All-weaker, filter-append}
use Rattle.asc_base.specs.TreeShape.{olat_of}
use Rattle.bus_schedule.specs.Timetable.{Public, beat_at, start_at, end_at, starts, slots_within, timetable}
use Rattle.bus_schedule.specs.Timetable.{ended_by, fallen, first_from}
use Rattle.bus_schedule.proofs.Rising.{filter-all}
use Rattle.bus_schedule.proofs.TimetableLaws.{length-starts, starts-next, starts-all, start-up, start-rises}
use Rattle.bus_schedule.proofs.TimetableLaws.{starts-ended, end-before, within-far, timetable-upto}
use Rattle.bus_schedule.proofs.TimetableLaws.{timetable-between, timetable-inside}

-- an earlier slot starts no later
pub start-order : (p : Public) (code k n : ℕ) → k ≤ n → start_at p code k ≤ start_at p code n
start-order p code k n up =
    let all : k + (n - k) ≡ n = omega arith in
    subst (λ m. start_at p code k ≤ start_at p code m) all (start-up p code k (n - k))

-- the k-th of the starts
pub starts-at : (p : Public) (code n k : ℕ) → k < n → get_or (starts p code n) k 0 ≡ start_at p code k
starts-at p code zero k below = absurd (omega arith)
starts-at p code (suc n) k below =
    ap (λ l. get_or l k 0) (starts-next p code n)
    ∙ elim (cases_lt k n) [
      | inl lower ↦
          get_or_append_left (starts p code n) (start_at p code n ∷ []) 0 k (omega (arith, length-starts p code n))
          ∙ starts-at p code n k lower
      | inr top ↦ (
          let here : n ≡ k = omega arith in
          let none : n - n ≡ 0 = omega arith in
          subst (λ j. get_or (starts p code n ++ start_at p code n ∷ []) j 0 ≡ start_at p code j) here
          (get_or-append_right (starts p code n) (start_at p code n ∷ []) n n 0 (length-starts p code n) (omega arith)
          ∙ ap (λ j. get_or (start_at p code n ∷ []) j 0) none)
          )
    ]

-- the first of the starts
pub starts-first : (p : Public) (code n k : ℕ) → k ≤ n → take k (starts p code n) ≡ starts p code k
starts-first p code zero k few =
    let none : k ≡ 0 = omega arith in
    subst (λ j. take j (starts p code 0) ≡ starts p code j) (sym none)
    (take_all 0 (starts p code 0) (omega (arith, length-starts p code 0)))
starts-first p code (suc n) k few =
    elim (cases_lt n k) [
      | inl all ↦ (
          let same : suc n ≡ k = omega arith in
          subst (λ j. take j (starts p code (suc n)) ≡ starts p code j) same
          (take_all (suc n) (starts p code (suc n)) (omega (arith, length-starts p code (suc n))))
          )
      | inr less ↦
          ap (take k) (starts-next p code n)
          ∙ take-append-le k (starts p code n) (start_at p code n ∷ []) (omega (arith, length-starts p code n))
          ∙ starts-first p code n k less
    ]

-- so many slots start before a time, and the next one doesn't
pub record StartsBefore (p : Public) (code end n : ℕ) : Type 0 where
  pub next : end ≤ start_at p code n
  pub before : (k : ℕ) → k < n → start_at p code k < end

pub starts-before : (p : Public) (code end n : ℕ) → end ≤ start_at p code n → (m : ℕ) × StartsBefore p code end m
starts-before p code end zero h = (0, record { next = h; before = λ k below. absurd (omega arith) })
starts-before p code end (suc n) h =
    elim (cases_lt (start_at p code n) end) [
      | inl begun ↦ (
        suc n,
        record { next = h; before = λ k below. omega (arith, start-order p code k n (omega arith)) },
      )
      | inr late ↦ starts-before p code end n late
    ]

-- then the timetable has their starts
pub timetable-of : (p : Public) (code end n : ℕ) → StartsBefore p code end n → timetable p code end ≡ starts p code n
timetable-of p code end n h =
    timetable-upto p code n end h.next
    ∙ filter-all (λ start. start) end (starts p code n) (starts-all (λ start. start < end) p code n h.before)

pub length-timetable-of : (p : Public) (code end n : ℕ) → StartsBefore p code end n → length (timetable p code end) ≡ n
length-timetable-of p code end n h = ap length (timetable-of p code end n h) ∙ length-starts p code n

-- and that is so of as many as it has
pub timetable-before : (p : Public) (code end : ℕ) → StartsBefore p code end (length (timetable p code end))
timetable-before p code end =
    let found : (m : ℕ) × StartsBefore p code end m =
    starts-before p code end (slots_within p end) (within-far p code end) in
    subst (StartsBefore p code end) (sym (length-timetable-of p code end found.0 found.1)) found.1

pub timetable-is : (p : Public) (code end : ℕ) → timetable p code end ≡ starts p code (length (timetable p code end))
timetable-is p code end = timetable-of p code end (length (timetable p code end)) (timetable-before p code end)

pub timetable-has : (p : Public) (code end k : ℕ) → (k < length (timetable p code end)) ↔ (start_at p code k < end)
timetable-has p code end k =
    let cut : StartsBefore p code end (length (timetable p code end)) = timetable-before p code end in (
      cut.before k,
      λ early. elim (cases_lt k (length (timetable p code end))) [
        | inl below ↦ below
        | inr beyond ↦ absurd (omega (arith, cut.next, start-order p code (length (timetable p code end)) k beyond))
      ],
    )

pub timetable-at : (p : Public) (code end k : ℕ) → k < length (timetable p code end)
    → get_or (timetable p code end) k 0 ≡ start_at p code k
timetable-at p code end k below =
    ap (λ l. get_or l k 0) (timetable-is p code end) ∙ starts-at p code (length (timetable p code end)) k below

pub timetable-first : (p : Public) (code end k : ℕ) → k ≤ length (timetable p code end)
    → take k (timetable p code end) ≡ starts p code k
timetable-first p code end k few =
    ap (take k) (timetable-is p code end) ∙ starts-first p code (length (timetable p code end)) k few

-- no more slots start before a time than go into it
pub timetable-few : (p : Public) (code end : ℕ)
    → length (timetable p code end) * olat_of p.levels ≤ end + olat_of p.levels
timetable-few p code end =
    let few : length (timetable p code end) ≤ slots_within p end =
    elim (cases_lt (slots_within p end) (length (timetable p code end))) [
      | inl more ↦ (
          let before = (timetable-before p code end).before (slots_within p end) more in
          absurd (omega (arith, before, within-far p code end))
          )
      | inr few ↦ few
    ] in
    product (length (timetable p code end)) (olat_of p.levels) few (div-mul-le_self end (olat_of p.levels))
  where
    product : (n olat : ℕ) → n ≤ end / olat + 1 → end / olat * olat ≤ end → n * olat ≤ end + olat
    product n olat few all =
        let most : n * olat ≤ (end / olat + 1) * olat = mul-le n olat (end / olat + 1) olat few (omega arith) in
        omega arith

-- a test that all of a list pass, or none
filter-true : {X : Type 0} (test : X → Bool) (xs : List X) → All (λ x. test x ≡ true) xs → filter test xs ≡ xs
filter-true test [] h = refl
filter-true test (x ∷ xs) h =
    ap (λ b. cond b (x ∷ filter test xs) (filter test xs)) (All-head (λ y. test y ≡ true) x xs h)
    ∙ ap (λ l. x ∷ l) (filter-true test xs (All-tail (λ y. test y ≡ true) x xs h))

-- the slots that end by a time
abbrev ends_by : Public → ℕ → ℕ → Bool
ends_by p end start = nat_le (start + olat_of p.levels) end

starts-end : (p : Public) (code n end : ℕ) → end_at p code n ≤ end
    → filter (ends_by p end) (starts p code n) ≡ starts p code n
starts-end p code n end past =
    filter-true (ends_by p end) (starts p code n)
    (All-weaker (λ start. start + olat_of p.levels ≤ end) (λ start. ends_by p end start ≡ true)
    (λ start h. le-leb (start + olat_of p.levels) end h) (starts p code n) (starts-ended p code n end past))

-- between two slots all that started have ended
pub ended-between : (p : Public) (code n end : ℕ) → end_at p code n ≤ end → end ≤ start_at p code n
    → ended_by p code end ≡ n
unfolding ended_by
ended-between p code n end past next =
    ap (λ l. length (filter (ends_by p end) l)) (timetable-between p code n end past next)
    ∙ ap length (starts-end p code n end past)
    ∙ length-starts p code n

-- in a slot all but the one that started last
pub ended-inside : (p : Public) (code n end : ℕ) → start_at p code n < end → end < end_at p code (suc n)
    → ended_by p code end ≡ n
unfolding ended_by
ended-inside p code n end begun over =
    let past : end_at p code n ≤ end = omega (arith, end-before p code n) in
    let next : end ≤ start_at p code (suc n) = omega (arith, start-rises p code n) in
    ap (λ l. length (filter (ends_by p end) l)) (timetable-inside p code n end begun next ∙ starts-next p code n)
    ∙ ap length (filter-append (ends_by p end) (starts p code n) (start_at p code n ∷ []))
    ∙ ap (λ b. length (filter (ends_by p end) (starts p code n) ++ cond b (start_at p code n ∷ []) []))
    (lt-leb (start_at p code n + olat_of p.levels) end over)
    ∙ ap length (append-nil (filter (ends_by p end) (starts p code n)) ∙ starts-end p code n end past)
    ∙ length-starts p code n

-- so these choices fell
pub fallen-between : (p : Public) (code n end : ℕ) → end_at p code n ≤ end → end ≤ start_at p code n
    → fallen p code end ≡ (beat_at p code n).choices
fallen-between p code n end past next = ap (λ m. (beat_at p code m).choices) (ended-between p code n end past next)

pub fallen-inside : (p : Public) (code n end : ℕ) → start_at p code n < end → end < end_at p code (suc n)
    → fallen p code end ≡ (beat_at p code n).choices
fallen-inside p code n end begun over = ap (λ m. (beat_at p code m).choices) (ended-inside p code n end begun over)

-- the first start from a time on
pub first-from : (p : Public) (code time : ℕ) → time ≤ first_from p code time
first-from p code time = (timetable-before p code time).next

pub first-others : (p : Public) (code time k : ℕ) → start_at p code k < first_from p code time
    → start_at p code k < time
first-others p code time k before =
    let cut : StartsBefore p code time (length (timetable p code time)) = timetable-before p code time in
    elim (cases_lt k (length (timetable p code time))) [
      | inl early ↦ cut.before k early
      | inr late ↦ absurd (omega (arith, start-order p code (length (timetable p code time)) k late))
    ]

pub first-is : (p : Public) (code time n : ℕ) → time ≤ start_at p code n → ((k : ℕ) → k < n → start_at p code k < time)
    → first_from p code time ≡ start_at p code n
first-is p code time n next before =
    ap (start_at p code) (length-timetable-of p code time n (record { next = next; before = before }))

-- where the last slot before a start ended less than a slot's cycles after a time, no slot before it starts from then
-- on
pub before-start : (p : Public) (code time n : ℕ) → end_at p code n < time + olat_of p.levels
    → (k : ℕ) → k < n → start_at p code k < time
before-start p code time zero late k below = absurd (omega arith)
before-start p code time (suc n) late k below = omega (arith, start-order p code k n (omega arith))

pub first-after : (p : Public) (code time n : ℕ) → time ≤ start_at p code n
    → end_at p code n < time + olat_of p.levels → first_from p code time ≡ start_at p code n
first-after p code time n next late = first-is p code time n next (before-start p code time n late)
