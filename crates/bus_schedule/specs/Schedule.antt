-- The Schedule: the moves of slots that start at given times, each along the path of its leaf.
use Rattle.std.specs.Prelude.{◌≡◌, ◌≤◌, ℕ, ◌+◌, ◌-◌, ◌*◌, nat_lt, All, AllPairs, if◌then◌else◌, List, [], ◌∷◌, ◌++◌}
use Rattle.std.specs.List.{filter}
use Rattle.asc_base.specs.TreeShape.{move_cycles}
use Rattle.bus_watch.specs.declared.log.Move.{Move}
use Rattle.bus_watch.specs.Path.{writes_start, slot_moves}
use Rattle.bus_schedule.specs.Timetable.{Public, timetable}

-- the moves of slots with these starts and leaves
unfoldable pub moves_of : ℕ → List ℕ → List ℕ → List Move
moves_of levels [] leaves = []
moves_of levels (start ∷ starts) [] = []
moves_of levels (start ∷ starts) (leaf ∷ leaves) = slot_moves levels start leaf ++ moves_of levels starts leaves

-- those before a time
abbrev pub moves_before_time : ℕ → List Move → List Move
moves_before_time end moves = filter (λ (m : Move). nat_lt m.time end) moves

-- The schedule of a code and of the leaves of the slots of its timetable, up to a time.
unfoldable pub schedule : Public → ℕ → List ℕ → ℕ → List Move
schedule p code leaves end = moves_before_time end (moves_of p.levels (timetable p code end) leaves)

-- the time of a move of a slot, the first being 0
abbrev pub move_time_of : ℕ → ℕ → ℕ → ℕ
move_time_of start levels k =
    if nat_lt k (levels + 1) then start + move_cycles * k
    else writes_start levels start + move_cycles * (k - (levels + 1))

-- Each start is later than every one before it, by at least so many cycles. Slots whose starts rise by a slot's length
-- don't overlap.
abbrev pub RiseBy : ℕ → List ℕ → Type 0
RiseBy cycles starts = AllPairs (λ earlier later. earlier + cycles ≤ later) starts

-- each move is later than every one before it, by the cycles of a move at least
abbrev pub MovesRise : List Move → Type 0
MovesRise moves = AllPairs (λ (earlier later : Move). earlier.time + move_cycles ≤ later.time) moves

-- A list in order of time goes on from another one: what it has more comes at this time or after it.
pub record GoesOn {X : Type 0} (at : X → ℕ) (end : ℕ) (earlier later : List X) : Type 0 where
  pub more : List X
  pub parts : later ≡ earlier ++ more
  pub after : All (λ x. end ≤ at x) more
