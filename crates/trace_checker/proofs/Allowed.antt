-- What a code that allows lines has of them.
use Rattle.std.proofs.Common.{◌≡◌, ℕ, zero, suc, ◌+◌, ◌<◌, ◌≤◌, List, [], ◌∷◌, ◌++◌, length, map, take, get_or}
use Rattle.std.proofs.Common.{refl, sym, ◌∙◌, ap, subst, arith, Some, inl, inr}
use Rattle.std.specs.Prelude.{slice_get}
use Rattle.std.specs.List.{take-map}
use Rattle.std.proofs.lemmas.Bool.{cases_lt}
use Rattle.std.proofs.lemmas.List.{get_or-map, get_or-take, length-map, length-take, take-take, take_all, take_more}
use Rattle.std.proofs.lemmas.Option.{slice_get_within}
use Rattle.bus_schedule.specs.Timetable.{Public, start_at, starts, timetable}
use Rattle.bus_schedule.proofs.SlotMoves.{slot-begun}
use Rattle.bus_schedule.proofs.TimetableParts.{starts-at, timetable-at, timetable-first, timetable-has}
use Rattle.bus_trace.specs.Trace.{TraceLists}
use Rattle.bus_trace.specs.declared.trace.Seen.{Seen}
use Rattle.trace_checker.specs.Checker.{moves_by, slot_by, slots, shown, shown_slot, Allows, Fits}

-- a shown access, by its place
pub seen_at : (accesses : List Seen) (k : ℕ) (seen : Seen) → slice_get accesses k ≡ Some seen
    → get_or accesses k seen ≡ seen
seen_at [] k seen at = absurd (let no : ⊥ = cc in no)
seen_at (x ∷ xs) zero seen at = cc
seen_at (x ∷ xs) (suc k) seen at = seen_at xs k seen at

pub at_seen : (accesses : List Seen) (k : ℕ) (seen : Seen) → k < length accesses → get_or accesses k seen ≡ seen
    → slice_get accesses k ≡ Some seen
at_seen [] k seen small at = absurd (omega (arith, small))
at_seen (x ∷ xs) zero seen small at = ap Some at
at_seen (x ∷ xs) (suc k) seen small at = at_seen xs k seen (omega arith) at

nothing : ℕ × ℕ
nothing = (0, 0)

shown_more : (accesses : List Seen) (k : ℕ) (seen : Seen) → slice_get accesses k ≡ Some seen
    → take (k + 1) (shown accesses) ≡ take k (shown accesses) ++ shown_slot seen ∷ []
shown_more accesses k seen at =
    let small = slice_get_within accesses k seen at in
    take_more (shown accesses) k nothing (omega (arith, small, length-map accesses shown_slot))
    ∙ ap (λ x. take k (shown accesses) ++ x ∷ [])
    (get_or-map shown_slot accesses k seen nothing small ∙ ap shown_slot (seen_at accesses k seen at))

slots_more : (p : Public) (code end k : ℕ) → start_at p code k < end
    → take (k + 1) (slots p code end) ≡ take k (slots p code end) ++ slot_by p end (start_at p code k) ∷ []
slots_more p code end k early =
    let small : k < length (timetable p code end) = (timetable-has p code end k).1 early in
    take_more (slots p code end) k nothing (omega (arith, small, length-map (timetable p code end) (slot_by p end)))
    ∙ ap (λ x. take k (slots p code end) ++ x ∷ [])
    (get_or-map (slot_by p end) (timetable p code end) k 0 nothing small
    ∙ ap (slot_by p end) (timetable-at p code end k small))

-- some moves are made of a slot only if it starts early enough
pub some_moves : (p : Public) (end start : ℕ) → 0 < moves_by p end start → start < end
some_moves p end start some = (slot-begun p.levels start 0 end).0 some

-- one line more
pub allows_more : (t : TraceLists) (k code : ℕ) (seen : Seen) → Allows t k code → slice_get t.accesses k ≡ Some seen
    → start_at t.header code k ≡ seen.start → moves_by t.header t.end seen.start ≡ seen.moves → 1 ≤ seen.moves
    → Allows t (k + 1) code
allows_more t k code seen allows at starts moves some =
    let early : seen.start < t.end = some_moves t.header t.end seen.start (omega (arith, moves, some)) in
    record {
      first = slots_more t.header code t.end k (omega (arith, early, starts))
          ∙ ap (λ xs. xs ++ slot_by t.header t.end (start_at t.header code k) ∷ []) allows.first
          ∙ ap (λ x. take k (shown t.accesses) ++ x ∷ [])
          (ap (slot_by t.header t.end) starts ∙ ap (λ n. (seen.start, n)) moves)
          ∙ sym (shown_more t.accesses k seen at);
    }

-- what a code has that allows a line more
pub record AllowsLast (t : TraceLists) (k code : ℕ) (seen : Seen) : Type 0 where
  pub before : Allows t k code
  pub starts : start_at t.header code k ≡ seen.start
  pub early : start_at t.header code k < t.end
  pub moves : moves_by t.header t.end seen.start ≡ seen.moves

pub allows_fewer : (t : TraceLists) (j k code : ℕ) → j ≤ k → Allows t k code → Allows t j code
allows_fewer t j k code within allows = record {
  first = sym (take-take j k (slots t.header code t.end) within)
      ∙ ap (λ (xs : List (ℕ × ℕ)). take j xs) allows.first
      ∙ take-take j k (shown t.accesses) within;
}

-- so many of its slots there are
pub slots_counted : (t : TraceLists) (k code : ℕ) → Allows t k code → k ≤ length t.accesses
    → k ≤ length (timetable t.header code t.end)
slots_counted t k code allows within =
    omega (
      arith,
      ap length allows.first,
      length-take k (slots t.header code t.end),
      length-take k (shown t.accesses),
      length-map (timetable t.header code t.end) (slot_by t.header t.end),
      length-map t.accesses shown_slot,
    )

pub allows_last : (t : TraceLists) (k code : ℕ) (seen : Seen) → Allows t (k + 1) code
    → slice_get t.accesses k ≡ Some seen → AllowsLast t k code seen
allows_last t k code seen allows at =
    let within = slice_get_within t.accesses k seen at in
    let small : k < length (timetable t.header code t.end) =
    omega (arith, slots_counted t (k + 1) code allows (omega arith)) in
    let same : get_or (slots t.header code t.end) k nothing ≡ get_or (shown t.accesses) k nothing =
    sym (get_or-take (k + 1) (slots t.header code t.end) k nothing (omega arith))
    ∙ ap (λ xs. get_or xs k nothing) allows.first
    ∙ get_or-take (k + 1) (shown t.accesses) k nothing (omega arith) in
    let pair : slot_by t.header t.end (start_at t.header code k) ≡ shown_slot seen =
    sym (get_or-map (slot_by t.header t.end) (timetable t.header code t.end) k 0 nothing small
    ∙ ap (slot_by t.header t.end) (timetable-at t.header code t.end k small))
    ∙ same ∙ get_or-map shown_slot t.accesses k seen nothing within
    ∙ ap shown_slot (seen_at t.accesses k seen at) in
    let starts : start_at t.header code k ≡ seen.start = ap (λ (x : ℕ × ℕ). x.0) pair in
    record {
      before = allows_fewer t k (k + 1) code (omega arith) allows;
      starts = starts;
      early = (timetable-has t.header code t.end k).0 small;
      moves = ap (moves_by t.header t.end) (sym starts) ∙ ap (λ (x : ℕ × ℕ). x.1) pair;
    }

-- a code with the same starts allows the same lines
pub allows_same : (t : TraceLists) (k code other : ℕ) → k ≤ length t.accesses → Allows t k code
    → starts t.header code k ≡ starts t.header other k → Allows t k other
allows_same t k code other within allows same =
    let enough : k ≤ length (timetable t.header code t.end) = slots_counted t k code allows within in
    let also : k ≤ length (timetable t.header other t.end) = others k enough same in
    record {
      first = first other also ∙ ap (map (slot_by t.header t.end)) (sym same) ∙ sym (first code enough) ∙ allows.first;
    }
  where
    first : (c : ℕ) → k ≤ length (timetable t.header c t.end)
        → take k (slots t.header c t.end) ≡ map (slot_by t.header t.end) (starts t.header c k)
    first c enough = take-map (slot_by t.header t.end) k (timetable t.header c t.end)
        ∙ ap (map (slot_by t.header t.end)) (timetable-first t.header c t.end k enough)

    others : (k : ℕ) → k ≤ length (timetable t.header code t.end) → starts t.header code k ≡ starts t.header other k
        → k ≤ length (timetable t.header other t.end)
    others zero enough same = omega arith
    others (suc j) enough same =
        let early : start_at t.header code j < t.end = (timetable-has t.header code t.end j).0
        (omega (arith, enough)) in
        let one : start_at t.header code j ≡ start_at t.header other j =
        sym (starts-at t.header code (suc j) j (omega arith)) ∙ ap (λ xs. get_or xs j 0) same
        ∙ starts-at t.header other (suc j) j (omega arith) in
        let small = (timetable-has t.header other t.end j).1 (omega (arith, early, one)) in
        omega (arith, small)

-- ---- the whole trace

pub fits_of : (t : TraceLists) (code : ℕ) → Allows t (length t.accesses) code
    → t.end ≤ start_at t.header code (length t.accesses) → Fits t code
fits_of t code allows late =
    let n = length t.accesses in
    let few : length (timetable t.header code t.end) ≤ n =
    elim (cases_lt n (length (timetable t.header code t.end))) [
      | inl more ↦ absurd (omega (arith, (timetable-has t.header code t.end n).0 more, late))
      | inr few ↦ few
    ] in
    record {
      all = sym (take_all n (slots t.header code t.end)
          (omega (arith, few, length-map (timetable t.header code t.end) (slot_by t.header t.end))))
          ∙ allows.first
          ∙ take_all n (shown t.accesses) (omega (arith, length-map t.accesses shown_slot));
    }

pub of_fits : (t : TraceLists) (k code : ℕ) → Fits t code → Allows t k code
of_fits t k code fits = record { first = ap (λ (xs : List (ℕ × ℕ)). take k xs) fits.all }

pub fits_late : (t : TraceLists) (code : ℕ) → Fits t code → t.end ≤ start_at t.header code (length t.accesses)
fits_late t code fits =
    let n = length t.accesses in
    elim (cases_lt (start_at t.header code n) t.end) [
      | inl early ↦
          absurd (omega (
            arith,
            (timetable-has t.header code t.end n).1 early,
            ap length fits.all,
            length-map (timetable t.header code t.end) (slot_by t.header t.end),
            length-map t.accesses shown_slot,
          ))
      | inr late ↦ late
    ]

-- lists that begin alike up to a place behind the end of one are the same
take_beyond : (xs ys : List (ℕ × ℕ)) → take (suc (length ys)) xs ≡ take (suc (length ys)) ys → xs ≡ ys
take_beyond [] [] same = refl
take_beyond [] (y ∷ ys) same = absurd (let no : ⊥ = cc in no)
take_beyond (x ∷ xs) [] same = absurd (let no : ⊥ = cc in no)
take_beyond (x ∷ xs) (y ∷ ys) same =
    let heads : x ≡ y = cc in
    let tails : take (suc (length ys)) xs ≡ take (suc (length ys)) ys = cc in
    ap (λ h. h ∷ xs) heads ∙ ap (λ r. y ∷ r) (take_beyond xs ys tails)

pub all_allowed : (t : TraceLists) (code : ℕ) → Allows t (suc (length t.accesses)) code → Fits t code
all_allowed t code allows = record {
  all = take_beyond (slots t.header code t.end) (shown t.accesses)
      (subst (λ n. take (suc n) (slots t.header code t.end) ≡ take (suc n) (shown t.accesses))
      (sym (length-map t.accesses shown_slot)) allows.first);
}
