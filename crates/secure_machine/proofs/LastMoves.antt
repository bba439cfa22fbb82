-- A log that is scheduled up to some time is on time up to the cycle after its last move.
use Rattle.std.proofs.Common.{◌≡◌, ◌<◌, ◌≤◌, ◌+◌, ◌++◌, ◌∙◌, ℕ, List, [], ◌∷◌, length, refl, sym, ap, subst, inl, inr}
use Rattle.std.proofs.Common.{arith, append-nil, true}
use Rattle.std.specs.Prelude.{nat_lt}
use Rattle.std.specs.List.{All, filter}
use Rattle.std.proofs.lemmas.List.Elements.{All-nil, All-cons, All-head, All-tail, All-push, All-weaker, All-filter}
use Rattle.std.proofs.lemmas.Bool.{ltb-true}
use Rattle.std.proofs.lemmas.List.Elements.{filter-append, filter_passes}
use Rattle.asc_base.specs.TreeShape.{olat_of}
use Rattle.asc_base.specs.declared.settings.Config.{Config}
use Rattle.bus_watch.specs.Log.{LogLists}
use Rattle.bus_watch.specs.Path.{slot_moves}
use Rattle.bus_watch.specs.declared.log.Move.{Move}
use Rattle.bus_schedule.proofs.Rising.{pairs-last, pairs-left, cut-later, cut-rising}
use Rattle.bus_schedule.proofs.ScheduleLaws.{Within, slot-within, moves-rise}
use Rattle.bus_schedule.proofs.SlotMoves.{slot-begun}
use Rattle.bus_schedule.proofs.TimetableLaws.{timetable-goes-on, timetable-rises}
use Rattle.bus_schedule.specs.Schedule.{GoesOn, MovesRise, moves_of, moves_before_time, schedule}
use Rattle.bus_schedule.specs.Scheduled.{log_code, IsScheduled}
use Rattle.bus_schedule.specs.Shown.{leaves_of}
use Rattle.bus_schedule.specs.Timetable.{Public, public_of, timetable, starts, slots_within}
use Rattle.secure_machine.specs.LastMove.{IsAfter, EndsWithMove}

-- ---- parts of a list
all_left : {X : Type 0} (P : X → Type 0) (xs ys : List X) → All P (xs ++ ys) → All P xs
all_left P [] ys h = All-nil P
all_left P (x ∷ xs) ys h =
    All-cons P x xs (All-head P x (xs ++ ys) h) (all_left P xs ys (All-tail P x (xs ++ ys) h))

all_right : {X : Type 0} (P : X → Type 0) (xs ys : List X) → All P (xs ++ ys) → All P ys
all_right P [] ys h = h
all_right P (x ∷ xs) ys h = all_right P xs ys (All-tail P x (xs ++ ys) h)

-- nothing more comes where all comes before
no_more : {X : Type 0} (at : X → ℕ) (end : ℕ) (earlier later : List X) → GoesOn at end earlier later
    → All (λ x. at x < end) later → later ≡ earlier
no_more {X} at end earlier later g early = by g.more g.parts g.after
  where
    by : (more : List X) → later ≡ earlier ++ more → All (λ x. end ≤ at x) more → later ≡ earlier
    by [] parts after = parts ∙ append-nil earlier
    by (x ∷ rest) parts after =
        let late : end ≤ at x = All-head (λ y. end ≤ at y) x rest after in
        let before : at x < end = All-head (λ y. at y < end) x rest
        (all_right (λ y. at y < end) earlier (x ∷ rest) (subst (All (λ y. at y < end)) parts early)) in
        absurd (omega (arith, late, before))

-- ---- slots
-- the moves before a time
abbrev Early : ℕ → List Move → Type 0
Early end moves = All (λ (m : Move). m.time < end) moves

-- where the moves of a slot before a time come before another one, it starts before that one
slot_early : (levels end bound start leaf : ℕ) → start < end
    → Early bound (moves_before_time end (slot_moves levels start leaf)) → start < bound
slot_early levels end bound start leaf before early = by (moves_before_time end (slot_moves levels start leaf)) early
    (All-filter (λ (m : Move). nat_lt m.time end) (Within start (start + olat_of levels)) (slot_moves levels start leaf)
    (slot-within levels start leaf)) ((slot-begun levels start leaf end).1 before)
  where
    by : (moves : List Move) → Early bound moves → All (Within start (start + olat_of levels)) moves
        → 0 < length moves → start < bound
    by [] first within some = absurd (omega (arith, some))
    by (m ∷ ms) first within some =
        let one : m.time < bound = All-head (λ (x : Move). x.time < bound) m ms first in
        let two : start ≤ m.time = (All-head (Within start (start + olat_of levels)) m ms within).0 in
        omega (arith, one, two)

starts_early : (levels end bound : ℕ) (starts leaves : List ℕ) → length starts ≡ length leaves
    → All (λ start. start < end) starts → Early bound (moves_before_time end (moves_of levels starts leaves))
    → All (λ start. start < bound) starts
unfolding moves_of
starts_early levels end bound [] leaves same before early = All-nil (λ start. start < bound)
starts_early levels end bound (start ∷ starts) [] same before early = absurd (omega (arith, same))
starts_early levels end bound (start ∷ starts) (leaf ∷ leaves) same before early =
    let both = subst (Early bound) (filter-append (λ (m : Move). nat_lt m.time end) (slot_moves levels start leaf)
    (moves_of levels starts leaves)) early in
    let others : length starts ≡ length leaves = omega (arith, same) in
    All-cons (λ start. start < bound) start starts
    (slot_early levels end bound start leaf (All-head (λ start. start < end) start starts before)
    (all_left (λ (m : Move). m.time < bound) (moves_before_time end (slot_moves levels start leaf)) _ both))
    (starts_early levels end bound starts leaves others (All-tail (λ start. start < end) start starts before)
    (all_right (λ (m : Move). m.time < bound) (moves_before_time end (slot_moves levels start leaf)) _ both))

-- what a filter by a time keeps comes before it
kept_early : {X : Type 0} (at : X → ℕ) (end : ℕ) (xs : List X)
    → All (λ x. at x < end) (filter (λ x. nat_lt (at x) end) xs)
kept_early at end xs =
    All-weaker (λ x. nat_lt (at x) end ≡ true) (λ x. at x < end) (λ x h. ltb-true (at x) end h)
    (filter (λ x. nat_lt (at x) end) xs) (filter_passes (λ x. nat_lt (at x) end) xs)

timetable_early : (p : Public) (code end : ℕ) → All (λ start. start < end) (timetable p code end)
unfolding timetable
timetable_early p code end = kept_early (λ start. start) end (starts p code (slots_within p end))

schedule_early : (p : Public) (code end : ℕ) (leaves : List ℕ) → Early end (schedule p code leaves end)
unfolding schedule
schedule_early p code end leaves =
    kept_early (λ (m : Move). m.time) end (moves_of p.levels (timetable p code end) leaves)

schedule_rises : (p : Public) (code end : ℕ) (leaves : List ℕ)
    → MovesRise (moves_of p.levels (timetable p code end) leaves)
schedule_rises p code end leaves = moves-rise p.levels (timetable p code end) leaves (timetable-rises p code end)

schedule_in_order : (p : Public) (code end : ℕ) (leaves : List ℕ) → MovesRise (schedule p code leaves end)
unfolding schedule
schedule_in_order p code end leaves =
    let moves = moves_of p.levels (timetable p code end) leaves in
    let rise = schedule_rises p code end leaves in
    pairs-left (λ (m n : Move). m.time + 40 ≤ n.time) (moves_before_time end moves) _
    (subst MovesRise (cut-rising (λ (m : Move). m.time) 40 end moves rise).parts rise)

-- ---- an earlier time
module _ (p : Public) (code end earlier : ℕ) (leaves : List ℕ) (less : earlier ≤ end)
    (counted : length leaves ≡ length (timetable p code end)) (early : Early earlier (schedule p code leaves end)) where
  starts_until : timetable p code end ≡ timetable p code earlier
  unfolding schedule
  starts_until =
      no_more (λ start. start) earlier (timetable p code earlier) (timetable p code end)
      (timetable-goes-on p code earlier end less)
      (starts_early p.levels end earlier (timetable p code end) leaves (sym counted) (timetable_early p code end) early)

  moves_until : schedule p code leaves end ≡ schedule p code leaves earlier
  unfolding schedule
  moves_until =
      no_more (λ (m : Move). m.time) earlier
      (moves_before_time earlier (moves_of p.levels (timetable p code end) leaves))
      (moves_before_time end (moves_of p.levels (timetable p code end) leaves))
      (cut-later (λ (m : Move). m.time) 40 earlier end (moves_of p.levels (timetable p code end) leaves) less
      (schedule_rises p code end leaves)) early
      ∙ ap (λ l. moves_before_time earlier (moves_of p.levels l leaves)) starts_until

-- ---- the last move
after_bounds : (moves : List Move) (end : ℕ) → IsAfter moves end → MovesRise moves → Early end moves
after_bounds moves end (inl (none, is)) rise =
    subst (Early end) (sym none) (All-nil (λ (m : Move). m.time < end))
after_bounds moves end (inr (before, last, are, is)) rise =
    let earlier = pairs-last (λ (m n : Move). m.time + 40 ≤ n.time) before last (subst MovesRise are rise) in
    subst (Early end) (sym are) (All-push (λ (m : Move). m.time < end) before last
    (All-weaker (λ (m : Move). m.time + 40 ≤ last.time) (λ (m : Move). m.time < end) (λ m h. omega (arith, h, is))
    before earlier) (omega (arith, is)))

after_within : (moves : List Move) (end later : ℕ) → IsAfter moves end → Early later moves → end ≤ later
after_within moves end later (inl (none, is)) early = omega (arith, is)
after_within moves end later (inr (before, last, are, is)) early =
    let one : last.time < later = All-head (λ (m : Move). m.time < later) last []
    (all_right (λ (m : Move). m.time < later) before (last ∷ []) (subst (Early later) are early)) in
    omega (arith, one, is)

-- each list of moves has such a cycle
last_of : (moves : List Move) → (end : ℕ) × IsAfter moves end
last_of [] = (0, inl (refl, refl))
last_of (m ∷ ms) =
    let (end, after) = last_of ms in
    elim after [
      | inl (none, is) ↦ (m.time + 1, inr ([], m, ap (λ l. m ∷ l) none, refl))
      | inr (before, last, are, is) ↦ (end, inr (m ∷ before, last, ap (λ l. m ∷ l) are, is))
    ]

pub ends_with_move : (config : Config) (end : ℕ) (log : LogLists) → IsScheduled (public_of config) end log
    → EndsWithMove config log
ends_with_move config end log h =
    let p = public_of config in
    let code = log_code p log in
    let leaves = leaves_of log.events in
    let (last, after) = last_of log.moves in
    let kept : Early end log.moves = subst (Early end) (sym h.moves) (schedule_early p code end leaves) in
    let less = after_within log.moves last end after kept in
    let rise = subst MovesRise (sym h.moves) (schedule_in_order p code end leaves) in
    let early : Early last log.moves = after_bounds log.moves last after rise in
    let before = subst (Early last) h.moves early in
    record {
      end = last;
      after = after;
      on_time = record {
        starts = h.starts ∙ starts_until p code end last leaves less h.leaves before;
        leaves = h.leaves ∙ ap length (starts_until p code end last leaves less h.leaves before);
        moves = h.moves ∙ moves_until p code end last leaves less h.leaves before;
      };
    }
