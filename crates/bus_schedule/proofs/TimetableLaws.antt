-- The starts of slots, and which of them are below a time.
use Rattle.std.proofs.Common.{◌≡◌, ℕ, zero, suc, ◌+◌, ◌-◌, ◌*◌, ◌/◌, ◌<◌, ◌≤◌, Bool, true, false, cond, List, []}
use Rattle.std.proofs.Common.{◌∷◌, ◌++◌, length, refl, sym, ◌∙◌, ap, subst, inl, inr, arith, append-nil}
use Rattle.std.proofs.Common.{length-append}
use Rattle.std.specs.Prelude.{nat_lt, max}
use Rattle.std.specs.List.{filter, All}
use Rattle.std.proofs.Math.Nat.{lt-div-mul-add}
use Rattle.std.proofs.lemmas.Nat.{mul-le}
use Rattle.std.proofs.lemmas.Bool.{cases_lt}
use Rattle.std.proofs.lemmas.List.Elements.{All-nil, All-cons, All-push, All-weaker, filter-append}
use Rattle.asc_base.specs.TreeShape.{olat_of}
use Rattle.bus_schedule.specs.declared.beat.Beat.{Beat}
use Rattle.bus_schedule.specs.Timetable.{Public, AgreeTo, count_of, epoch_at, rate_at, digit_of, falls_next, beat_with}
use Rattle.bus_schedule.specs.Timetable.{beat_after, beat_at, start_at, end_at, starts_from, starts, slots_within}
use Rattle.bus_schedule.specs.Timetable.{timetable}
use Rattle.bus_schedule.specs.Schedule.{RiseBy, GoesOn}
use Rattle.bus_schedule.proofs.Rising.{pairs-append, pairs-left, filter-all, filter-none, cut-rising, cut-later}

-- after the slot that is next, where a choice with this index falls at its end, or none does
abbrev pub beat_if : Public → Beat → ℕ → Bool → Beat
beat_if p beat index fell =
    cond fell (beat_with p beat (rate_at p.rates index) (beat.choices + 1)) (beat_with p beat beat.rate beat.choices)

-- those before a time
abbrev starts_before : ℕ → List ℕ → List ℕ
starts_before end starts = filter (λ start. nat_lt start end) starts

-- the next slot starts at the end plus the rate in force
pub after-next : (p : Public) (beat : Beat) (index : ℕ)
    → (beat_after p beat index).next ≡ beat.next + olat_of p.levels + (beat_after p beat index).rate
after-next p beat index = go (falls_next p beat)
  where
    go : (fell : Bool) → (beat_if p beat index fell).next
        ≡ beat.next + olat_of p.levels + (beat_if p beat index fell).rate
    go true = refl
    go false = refl

-- one choice more where one falls, and the greatest epoch so far
pub after-is : (p : Public) (beat : Beat) (index : ℕ)
    → ((beat_after p beat index).choices ≡ cond (falls_next p beat) (beat.choices + 1) beat.choices)
    × ((beat_after p beat index).reached ≡ max beat.reached (epoch_at p.epoch (beat.next + olat_of p.levels)))
after-is p beat index = go (falls_next p beat)
  where
    go : (fell : Bool) → ((beat_if p beat index fell).choices ≡ cond fell (beat.choices + 1) beat.choices)
        × ((beat_if p beat index fell).reached ≡ max beat.reached (epoch_at p.epoch (beat.next + olat_of p.levels)))
    go true = (refl, refl)
    go false = (refl, refl)

-- at most one choice falls
pub after-choices : (p : Public) (beat : Beat) (index : ℕ) → beat.choices ≤ (beat_after p beat index).choices
after-choices p beat index = go (falls_next p beat)
  where
    go : (fell : Bool) → beat.choices ≤ (beat_if p beat index fell).choices
    go true = omega arith
    go false = omega arith

pub start-first : (p : Public) (code : ℕ) → start_at p code 0 ≡ rate_at p.rates p.first
unfolding beat_at
start-first p code = refl

pub start-next : (p : Public) (code n : ℕ)
    → start_at p code (suc n) ≡ end_at p code (suc n) + (beat_at p code (suc n)).rate
unfolding beat_at
start-next p code n = after-next p (beat_at p code n) (digit_of code (count_of p) (beat_at p code n).choices)

-- slots don't overlap
pub start-rises : (p : Public) (code n : ℕ) → start_at p code n + olat_of p.levels ≤ start_at p code (suc n)
start-rises p code n = omega (arith, start-next p code n)

-- each slot takes its cycles
pub start-far : (p : Public) (code n : ℕ) → n * olat_of p.levels ≤ start_at p code n
start-far p code zero = omega arith
start-far p code (suc n) = more (olat_of p.levels) (start-far p code n) (start-rises p code n)
  where
    more : (olat : ℕ) → n * olat ≤ start_at p code n → start_at p code n + olat ≤ start_at p code (suc n)
        → suc n * olat ≤ start_at p code (suc n)
    more olat far rises = omega arith

pub end-far : (p : Public) (code n : ℕ) → n * olat_of p.levels ≤ end_at p code n
end-far p code zero = omega arith
end-far p code (suc n) = more (olat_of p.levels) (start-far p code n)
  where
    more : (olat : ℕ) → n * olat ≤ start_at p code n → suc n * olat ≤ start_at p code n + olat
    more olat far = omega arith

pub start-above : (p : Public) (code n : ℕ) → n ≤ start_at p code n
start-above p code n =
    let one : n * 1 ≤ n * olat_of p.levels = mul-le n 1 n (olat_of p.levels) (omega arith) (omega arith) in
    omega (arith, start-far p code n)

-- no slot behind those that go into a time starts before it
pub within-far : (p : Public) (code end : ℕ) → end ≤ start_at p code (slots_within p end)
within-far p code end =
    more (olat_of p.levels) (lt-div-mul-add {a = end} {b = olat_of p.levels} (omega arith))
    (start-far p code (slots_within p end))
  where
    more : (olat : ℕ) → end < end / olat * olat + olat → (end / olat + 1) * olat ≤ start_at p code (end / olat + 1)
        → end ≤ start_at p code (end / olat + 1)
    more olat covered far = omega arith

-- later slots start later
pub start-up : (p : Public) (code n more : ℕ) → start_at p code n ≤ start_at p code (n + more)
start-up p code n zero = let same : n + 0 ≡ n = omega arith in rw same (omega arith)
start-up p code n (suc more) =
    let next : n + suc more ≡ suc (n + more) = omega arith in
    rw next (omega (arith, start-up p code n more, start-rises p code (n + more)))

pub end-before : (p : Public) (code n : ℕ) → end_at p code n ≤ start_at p code n
end-before p code zero = omega arith
end-before p code (suc n) = start-rises p code n

pub choices-rise : (p : Public) (code n : ℕ) → (beat_at p code n).choices ≤ (beat_at p code (suc n)).choices
unfolding beat_at
choices-rise p code n = after-choices p (beat_at p code n) (digit_of code (count_of p) (beat_at p code n).choices)

-- one slot more, from any slot on
starts_from-next : (p : Public) (code m n : ℕ)
    → starts_from p code (beat_at p code m) (suc n)
    ≡ starts_from p code (beat_at p code m) n ++ start_at p code (m + n) ∷ []
unfolding beat_at starts_from
starts_from-next p code m zero =
    let same : m ≡ m + 0 = omega arith in
    ap (λ k. start_at p code k ∷ []) same
starts_from-next p code m (suc n) =
    let same : suc m + n ≡ m + suc n = omega arith in
    ap (λ l. start_at p code m ∷ l) (starts_from-next p code (suc m) n)
    ∙ ap (λ k. starts_from p code (beat_at p code m) (suc n) ++ start_at p code k ∷ []) same

pub starts-none : (p : Public) (code : ℕ) → starts p code 0 ≡ []
unfolding starts starts_from
starts-none p code = refl

pub starts-next : (p : Public) (code n : ℕ) → starts p code (suc n) ≡ starts p code n ++ start_at p code n ∷ []
unfolding starts beat_at
starts-next p code n =
    let same : 0 + n ≡ n = omega arith in
    starts_from-next p code 0 n ∙ ap (λ k. starts p code n ++ start_at p code k ∷ []) same

pub length-starts : (p : Public) (code n : ℕ) → length (starts p code n) ≡ n
length-starts p code zero = ap length (starts-none p code)
length-starts p code (suc n) =
    ap length (starts-next p code n)
    ∙ length-append (starts p code n) (start_at p code n ∷ [])
    ∙ (let e : length (starts p code n) + 1 ≡ suc n = omega (arith, length-starts p code n) in e)

-- what holds of each start holds of one more
starts-push : (P : ℕ → Type 0) (p : Public) (code n : ℕ) → All P (starts p code n) → P (start_at p code n)
    → All P (starts p code (suc n))
starts-push P p code n h last =
    subst (All P) (sym (starts-next p code n)) (All-push P (starts p code n) (start_at p code n) h last)

pub starts-all : (P : ℕ → Type 0) (p : Public) (code n : ℕ) → ((k : ℕ) → k < n → P (start_at p code k))
    → All P (starts p code n)
starts-all P p code zero h = subst (All P) (sym (starts-none p code)) (All-nil P)
starts-all P p code (suc n) h =
    starts-push P p code n (starts-all P p code n (λ k below. h k (omega arith))) (h n (omega arith))

-- so many slots have ended by a time
pub starts-ended : (p : Public) (code n end : ℕ) → end_at p code n ≤ end
    → All (λ start. start + olat_of p.levels ≤ end) (starts p code n)
starts-ended p code zero end h =
    starts-all (λ start. start + olat_of p.levels ≤ end) p code 0 (λ k below. absurd (omega arith))
starts-ended p code (suc n) end h =
    starts-push (λ start. start + olat_of p.levels ≤ end) p code n
    (starts-ended p code n end (omega (arith, end-before p code n))) h

starts-early : (p : Public) (code n end : ℕ) → end_at p code n ≤ end → All (λ start. start < end) (starts p code n)
starts-early p code n end h =
    All-weaker (λ start. start + olat_of p.levels ≤ end) (λ start. start < end) (λ start l. omega arith)
    (starts p code n) (starts-ended p code n end h)

-- a slot was begun before a time, and all before it have ended
starts-begun : (p : Public) (code n end : ℕ) → start_at p code n < end
    → All (λ start. start < end) (starts p code (suc n))
starts-begun p code n end h =
    starts-push (λ start. start < end) p code n
    (starts-early p code n end (omega (arith, end-before p code n))) h

-- each slot starts no earlier than a slot's length after every one before it
pub starts-rise : (p : Public) (code n : ℕ) → RiseBy (olat_of p.levels) (starts p code n)
starts-rise p code zero = λ i j d before within. absurd (omega (arith, length-starts p code 0))
starts-rise p code (suc n) =
    subst (RiseBy (olat_of p.levels)) (sym (starts-next p code n))
    (pairs-append (λ earlier later. earlier + olat_of p.levels ≤ later) (starts p code n) (start_at p code n ∷ [])
    (starts-rise p code n)
    (λ i j d before within. absurd (omega arith))
    (All-weaker
    (λ start. start + olat_of p.levels ≤ start_at p code n)
    (λ start. All (λ later. start + olat_of p.levels ≤ later) (start_at p code n ∷ []))
    (λ start l.
    All-cons (λ later. start + olat_of p.levels ≤ later) (start_at p code n) [] l
    (All-nil (λ later. start + olat_of p.levels ≤ later)))
    (starts p code n)
    (starts-ended p code n (start_at p code n) (end-before p code n))))

-- no later slot starts before the time
starts-later : (p : Public) (code n more end : ℕ) → end ≤ start_at p code n
    → starts_before end (starts p code (n + more)) ≡ starts_before end (starts p code n)
starts-later p code n zero end h =
    let same : n + 0 ≡ n = omega arith in
    ap (λ k. starts_before end (starts p code k)) same
starts-later p code n (suc more) end h =
    let next : n + suc more ≡ suc (n + more) = omega arith in
    let far : end ≤ start_at p code (n + more) = omega (arith, start-up p code n more) in
    ap (λ k. starts_before end (starts p code k)) next
    ∙ ap (λ l. starts_before end l) (starts-next p code (n + more))
    ∙ filter-append (λ start. nat_lt start end) (starts p code (n + more)) (start_at p code (n + more) ∷ [])
    ∙ ap (λ l. starts_before end (starts p code (n + more)) ++ l)
    (filter-none (λ start. start) end (start_at p code (n + more) ∷ [])
    (All-cons (λ start. end ≤ start) (start_at p code (n + more)) [] far (All-nil (λ start. end ≤ start))))
    ∙ append-nil (starts_before end (starts p code (n + more)))
    ∙ starts-later p code n more end h

-- the starts below a time are among those of the slots before one that starts no earlier
pub timetable-upto : (p : Public) (code n end : ℕ) → end ≤ start_at p code n
    → timetable p code end ≡ starts_before end (starts p code n)
unfolding timetable
timetable-upto p code n end next =
    let few : ℕ = slots_within p end in
    elim (cases_lt n few) [
      | inl less ↦ (
          let all : few ≡ n + (few - n) = omega arith in
          ap (λ k. starts_before end (starts p code k)) all ∙ starts-later p code n (few - n) end next
          )
      | inr more ↦ (
          let all : n ≡ few + (n - few) = omega arith in
          sym (ap (λ k. starts_before end (starts p code k)) all
          ∙ starts-later p code few (n - few) end (within-far p code end))
          )
    ]

timetable-at : (p : Public) (code n end : ℕ) → All (λ start. start < end) (starts p code n)
    → end ≤ start_at p code n → timetable p code end ≡ starts p code n
timetable-at p code n end early next =
    timetable-upto p code n end next ∙ filter-all (λ start. start) end (starts p code n) early

-- between two slots
pub timetable-between : (p : Public) (code n end : ℕ) → end_at p code n ≤ end → end ≤ start_at p code n
    → timetable p code end ≡ starts p code n
timetable-between p code n end past next =
    timetable-at p code n end (starts-early p code n end past) next

-- in a slot, or after it and before the next
pub timetable-inside : (p : Public) (code n end : ℕ) → start_at p code n < end → end ≤ start_at p code (suc n)
    → timetable p code end ≡ starts p code (suc n)
timetable-inside p code n end begun next =
    timetable-at p code (suc n) end (starts-begun p code n end begun) next

-- a timetable for a later time goes on from the one for an earlier time
pub timetable-goes-on : (p : Public) (code end later : ℕ) → end ≤ later
    → GoesOn (λ start. start) end (timetable p code end) (timetable p code later)
timetable-goes-on p code end later h =
    let all : ℕ = slots_within p later in
    let far : later ≤ start_at p code (slots_within p later) = within-far p code later in
    let cut : GoesOn (λ start. start) end (starts_before end (starts p code all))
    (starts_before later (starts p code all)) =
    cut-later (λ start. start) (olat_of p.levels) end later (starts p code all) h (starts-rise p code all) in
    record {
      more = cut.more;
      parts = timetable-upto p code all later far ∙ cut.parts
          ∙ ap (λ l. l ++ cut.more) (sym (timetable-upto p code all end (omega (arith, far))));
      after = cut.after;
    }

-- its starts rise by a slot's length
pub timetable-rises : (p : Public) (code end : ℕ) → RiseBy (olat_of p.levels) (timetable p code end)
unfolding timetable
timetable-rises p code end =
    let all : ℕ = slots_within p end in
    let cut : GoesOn (λ start. start) end (timetable p code end) (starts p code all) =
    cut-rising (λ start. start) (olat_of p.levels) end (starts p code all) (starts-rise p code all) in
    pairs-left (λ earlier later. earlier + olat_of p.levels ≤ later) (timetable p code end) cut.more
    (subst (λ l. RiseBy (olat_of p.levels) l) cut.parts (starts-rise p code all))

-- what a choice takes is its digit
same-after : (p : Public) (beat : Beat) (one other places : ℕ) → (beat_after p beat one).choices ≤ places
    → (beat.choices < places → one ≡ other) → beat_after p beat one ≡ beat_after p beat other
same-after p beat one other places = go (falls_next p beat)
  where
    go : (fell : Bool) → (beat_if p beat one fell).choices ≤ places → (beat.choices < places → one ≡ other)
        → beat_if p beat one fell ≡ beat_if p beat other fell
    go true few same = ap (λ index. beat_with p beat (rate_at p.rates index) (beat.choices + 1)) (same (omega arith))
    go false few same = refl

-- a beat depends on the digits of the choices that fell alone
pub beat-agrees : (p : Public) (code other places n : ℕ) → AgreeTo p code other places
    → (beat_at p code n).choices ≤ places → beat_at p code n ≡ beat_at p other n
unfolding beat_at
beat-agrees p code other places zero agree fell = refl
beat-agrees p code other places (suc n) agree fell =
    let before : beat_at p code n ≡ beat_at p other n =
    beat-agrees p code other places n agree (omega (arith, choices-rise p code n)) in
    same-after p (beat_at p code n) (digit_of code (count_of p) (beat_at p code n).choices)
    (digit_of other (count_of p) (beat_at p code n).choices) places fell (agree (beat_at p code n).choices)
    ∙ ap (λ (beat : Beat). beat_after p beat (digit_of other (count_of p) beat.choices)) before

-- and so do the starts up to the next slot's
pub starts-agree : (p : Public) (code other places n : ℕ) → AgreeTo p code other places
    → (beat_at p code n).choices ≤ places → starts p code (suc n) ≡ starts p other (suc n)
starts-agree p code other places zero agree fell =
    starts-next p code 0
    ∙ ap (λ l. l ++ start_at p code 0 ∷ []) (starts-none p code ∙ sym (starts-none p other))
    ∙ ap (λ (beat : Beat). starts p other 0 ++ beat.next ∷ []) (beat-agrees p code other places zero agree fell)
    ∙ sym (starts-next p other 0)
starts-agree p code other places (suc n) agree fell =
    starts-next p code (suc n)
    ∙ ap (λ l. l ++ start_at p code (suc n) ∷ [])
    (starts-agree p code other places n agree (omega (arith, choices-rise p code n)))
    ∙ ap (λ (beat : Beat). starts p other (suc n) ++ beat.next ∷ [])
    (beat-agrees p code other places (suc n) agree fell)
    ∙ sym (starts-next p other (suc n))

-- and so does the timetable up to the end of the next slot
pub timetable-agrees : (p : Public) (code other places n end : ℕ) → AgreeTo p code other places
    → (beat_at p code n).choices ≤ places → end ≤ end_at p code (suc n) → timetable p code end ≡ timetable p other end
timetable-agrees p code other places n end agree fell h =
    let same : starts p code (suc n) ≡ starts p other (suc n) = starts-agree p code other places n agree fell in
    let beats : beat_at p code n ≡ beat_at p other n = beat-agrees p code other places n agree fell in
    let next : start_at p code n ≡ start_at p other n = ap (λ (beat : Beat). beat.next) beats in
    timetable-upto p code (suc n) end (omega (arith, start-rises p code n))
    ∙ ap (λ l. starts_before end l) same
    ∙ sym (timetable-upto p other (suc n) end (omega (arith, start-rises p other n)))
