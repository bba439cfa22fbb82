-- A fetch or a store that is stopped took slots access by access up to there, on its walk.
use Rattle.std.proofs.Common.{◌≡◌, ◌<◌, ℕ, false, List, [], ◌++◌, Option, Some, None, Err, refl, sym, ◌∙◌, subst}
use Rattle.std.proofs.Common.{inl, inr}
use Rattle.std.specs.List.{flat_map}
use Rattle.request_plan.specs.Plan.{Stops}
use Rattle.request_plan.specs.Play.{play, bare}
use Rattle.asc_base.specs.declared.block.Line.{Line}
use Rattle.asc_base.specs.declared.stop.Stop.{Stop}
use Rattle.oram_contents.specs.Entries.{Keys}
use Rattle.oram_frontend.specs.Access.{SlotStep}
use Rattle.oram_frontend.specs.Oram.{OramState, OramStep, Fetch, Store}
use Rattle.oram_frontend.specs.Slots.{FitKeys}
use Rattle.oram_lines.specs.Noted.{Answers, NotedState, StopsAt, lines_behind}
use Rattle.oram_walk.specs.Front.{FrontState, sizes_of}
use Rattle.oram_walk.specs.Memory.{Shown, memory}
use Rattle.oram_walk.specs.Plans.{FrontPlan, fetch_plan, store_plan}
use Rattle.oram_walk.specs.Request.{Request, Steps}
use Rattle.oram_walk.specs.Shows.{Shows, shown_by}
use Rattle.oram_walk.specs.declared.slots.Purpose.{Purpose}
use Rattle.oram_walk.specs.declared.slots.Purpose.TheVariants.{Keep, Replace}
use Rattle.oram_walk.proofs.Walked.{fetch_over, store_over}
use Rattle.posmap_lookaside.specs.Walk.{OnChip, WalkAccess, WalkSizes, walk}
use Rattle.rate_enforcer.specs.PortStep.{PortState, Resting}
use Rattle.run_play.specs.Slots.{Pace, Numbers, Slot}
use Rattle.oram_play.specs.InTurn.{AnsweredAccess}
use Rattle.oram_play.specs.Shown.{lines_appended, answered_shown, AreLinesIn, lines_in_turn}
use Rattle.oram_play.specs.StopsInTurn.{StopsNext, AtAccess, AtAppend, NoRoom, IsOnWalk, IsStopped}
use Rattle.oram_play.specs.Taken.{HasTaken}
use Rattle.oram_play.proofs.Alike.{AlikeInTime, AnyTwo, SameLine, fetch_alike, store_alike}
use Rattle.oram_play.proofs.Asks.{AtEnd, AtAnswer, fetch_asks, store_asks}
use Rattle.oram_play.proofs.PairsTo.{pairs_access, pairs_append}
use Rattle.oram_play.proofs.StopNotes.{answers_before, port_before, request_before, noted_before}
use Rattle.oram_play.proofs.StopTurns.{next_shown, Halts, first_shown, plan_stops}
use Rattle.oram_play.proofs.Turns.{ready_first}

-- where the records up to the stop are the first of a walk's, it was on the walk
on_walk : (sizes : WalkSizes) (lines : ℕ → Line) (put : Purpose) {keys : Keys} {levels : ℕ} {numbers : Numbers}
    {asked : ℕ} {slots : List Slot} {pace : Pace} {stop : Stop} {old new : PortState} (walked : List WalkAccess)
    (accesses : List AnsweredAccess) (next : StopsNext keys levels numbers asked slots pace stop old new)
    (rest : List Shown)
    → flat_map (shown_by sizes lines put) walked
    ≡ flat_map answered_shown accesses ++ (next_shown next (lines_in_turn lines accesses) ++ rest)
    → IsOnWalk sizes lines put walked accesses next
on_walk sizes lines put walked accesses (AtAccess x) rest e =
    pairs_access sizes lines put accesses walked x.access (lines_in_turn lines accesses x.access.address.0) rest e
on_walk sizes lines put walked accesses (AtAppend x) rest e =
    pairs_append sizes lines put accesses walked x.message rest e
on_walk sizes lines put walked accesses (NoRoom none) rest e = tt

-- a run stopped at the same request, from the same port
same_run : {A : Type 0} (keys : Keys) (levels : ℕ) (plan : FrontPlan A) (s t : NotedState) (stop : Stop)
    (left : FrontState) (one two : PortState) (first last : Request) → one ≡ two → first ≡ last
    → Stops (Steps (StopsAt keys levels one first)) plan s t stop left
    → Stops (Steps (StopsAt keys levels two last)) plan s t stop left
same_run keys levels plan s t stop left one two first last at is stops =
    subst (λ q. Stops (Steps (StopsAt keys levels two q)) plan s t stop left) is
    (subst (λ m. Stops (Steps (StopsAt keys levels m first)) plan s t stop left) at stops)

-- what a request for a line shows over a memory, if it isn't stopped: its walk
abbrev ShowsLine : {A : Type 0} → FrontState → ℕ → Purpose → FrontPlan A → Type 0
ShowsLine front line put plan = (lines : ℕ → Line) (chip : OnChip) → line < front.shape.lines → Shows front lines chip
    → bare (play (memory 0) plan lines).records
    ≡ flat_map (shown_by (sizes_of front) lines put) (walk (sizes_of front) chip line).accesses

-- So a request that is stopped along its plan was on it.
halts-stopped : {A : Type 0} (R : A → A → Type 0) (keys : Keys) (levels : ℕ) (numbers : Numbers) (asked line : ℕ)
    (put : Purpose) (plan : FrontPlan A) (slots : List Slot) (pace : Pace) (stop : Stop) (old new : OramState)
    → AlikeInTime R plan plan → ShowsLine old.front line put plan
    → (stops : Stops (Steps (SlotStep keys levels)) plan old.port new.port stop new.front)
    → Halts keys levels old.port.clock.config numbers R plan false asked
    (answers_before keys levels plan old.port new.port stop new.front stops)
    (port_before keys levels plan old.port new.port stop new.front stops)
    (request_before keys levels plan old.port new.port stop new.front stops) (λ _. slots) pace stop new.port
    → IsStopped keys levels numbers asked line put plan slots pace stop old new
halts-stopped R keys levels numbers asked line put plan slots pace stop old new alike over stops all =
    let answers : Answers = answers_before keys levels plan old.port new.port stop new.front stops in
    let accesses : List AnsweredAccess = all.stops.accesses in
    record {
      stops = all.stops;
      walks = λ lines chip below shown are.
          let shows = first_shown keys levels old.port.clock.config numbers
          (bare (play (memory 0) plan lines).records) all.message lines accesses (next_shown all.stops.next)
          (all.none refl) (all.shows 0 plan lines alike) are in
          on_walk (sizes_of old.front) lines put (walk (sizes_of old.front) chip line).accesses accesses
          all.stops.next shows.0 (sym (over lines chip below shown) ∙ shows.1);
      answers = answers;
      run = same_run keys levels plan (record { port = old.port; answers = [] })
          (record { port = new.port; answers = answers }) stop new.front _ _ _ _ all.port_is all.last_is
          (noted_before keys levels plan old.port new.port [] stop new.front stops);
      found = λ lines are.
          subst (λ m. AreLinesIn (lines_appended lines m) accesses) (all.none refl) (all.found lines are);
      leaves = λ lines.
          subst (λ m. lines_behind lines answers ≡ lines_in_turn (lines_appended lines m) accesses) (all.none refl)
          (all.leaves lines);
    }

-- ---- a fetch and a store
not_stopped : (old : OramState) (stop : Stop) → old.stop ≡ None → old.stop ≡ Some stop → ⊥
not_stopped old stop none some = let bad : ◌≡◌ {A = Option Stop} None (Some stop) = sym none ∙ some in cc

pub fetch-stops : (keys : Keys) (levels notes asked line : ℕ) (stop : Stop) (old new : OramState) (slots : List Slot)
    (pace : Pace) (numbers : Numbers) → FitKeys keys old.port → Resting notes levels old.port → old.stop ≡ None
    → HasTaken old.port slots pace → OramStep keys levels old (Fetch asked line) (Err stop) new
    → IsStopped keys levels numbers asked line Keep (fetch_plan old.front asked line) slots pace stop old new
fetch-stops keys levels notes asked line stop old new slots pace numbers fits rests serves had (inl before) =
    absurd (not_stopped old stop serves before.0)
fetch-stops keys levels notes asked line stop old new slots pace numbers fits rests serves had (inr (is, stops)) =
    halts-stopped SameLine keys levels numbers asked line Keep (fetch_plan old.front asked line) slots pace stop old new
    (fetch_alike old.front asked line)
    (λ lines chip below shown. (fetch_over 0 asked line old.front lines chip below shown).0) stops
    (plan_stops keys levels old.port.clock.config numbers SameLine AtAnswer (fetch_plan old.front asked line) false
    asked (fetch_asks old.front asked line) old.port new.port stop new.front (λ _. slots) pace
    (ready_first keys levels notes old.port slots pace numbers fits rests had) stops)

pub store-stops : (keys : Keys) (levels notes asked line : ℕ) (value : Line) (stop : Stop) (old new : OramState)
    (slots : List Slot) (pace : Pace) (numbers : Numbers) → FitKeys keys old.port → Resting notes levels old.port
    → old.stop ≡ None → HasTaken old.port slots pace → OramStep keys levels old (Store asked line value) (Err stop) new
    → IsStopped keys levels numbers asked line (Replace value) (store_plan old.front asked line value) slots pace stop
    old new
store-stops keys levels notes asked line value stop old new slots pace numbers fits rests serves had (inl before) =
    absurd (not_stopped old stop serves before.0)
store-stops keys levels notes asked line value stop old new slots pace numbers fits rests serves had
    (inr (is, stops)) =
    halts-stopped AnyTwo keys levels numbers asked line (Replace value) (store_plan old.front asked line value) slots
    pace stop old new (store_alike old.front asked line value)
    (λ lines chip below shown. (store_over 0 asked line value old.front lines chip below shown).0) stops
    (plan_stops keys levels old.port.clock.config numbers AnyTwo AtEnd (store_plan old.front asked line value) false
    asked (store_asks old.front asked line value) old.port new.port stop new.front (λ _. slots) pace
    (ready_first keys levels notes old.port slots pace numbers fits rests had) stops)
