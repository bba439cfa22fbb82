-- A log that is scheduled up to a time has a trace that its own code fits.
use Rattle.std.proofs.Common.{◌≡◌, ℕ, suc, ◌+◌, ◌<◌, ◌≤◌, Bool, true, false, cond, List, [], ◌∷◌, ◌++◌, length, map}
use Rattle.std.proofs.Common.{refl, sym, ◌∙◌, ap, subst, arith, append-nil, append_assoc, length-append}
use Rattle.std.specs.Prelude.{nat_le, nat_lt, ◌&&◌, zip}
use Rattle.std.specs.List.{filter, All}
use Rattle.std.proofs.lemmas.Bool.{lt-leb}
use Rattle.std.proofs.lemmas.List.Elements.{All-filter, filter-append}
use Rattle.asc_base.specs.TreeShape.{olat_of}
use Rattle.bus_watch.specs.declared.log.Move.{Move}
use Rattle.bus_watch.specs.Log.{LogLists}
use Rattle.bus_watch.specs.Path.{slot_moves}
use Rattle.bus_schedule.specs.Timetable.{Public, timetable}
use Rattle.bus_schedule.specs.Schedule.{moves_of, moves_before_time, schedule, RiseBy}
use Rattle.bus_schedule.specs.Scheduled.{IsScheduled, log_code}
use Rattle.bus_schedule.specs.Shown.{starts_of, leaves_of}
use Rattle.bus_schedule.proofs.Rising.{pairs-left, pairs-last, pairs-tail, pairs-head}
use Rattle.bus_schedule.proofs.TimetableLaws.{timetable-rises}
use Rattle.bus_schedule.proofs.ScheduleLaws.{slot-within, moves-before, moves-after, moves_of-append}
use Rattle.bus_schedule.proofs.SlotMoves.{slot-before}
use Rattle.bus_trace.specs.OfLog.{is_in_slot, moves_in, seen_of, trace_of}
use Rattle.trace_checker.specs.Checker.{moves_by, slot_by, shown, Fits}

filter-false : {X : Type 0} (test : X → Bool) (xs : List X) → All (λ x. test x ≡ false) xs → filter test xs ≡ []
filter-false test [] h = refl
filter-false test (x ∷ xs) h =
    ap (λ b. cond b (x ∷ filter test xs) (filter test xs)) (h 0 x (omega arith))
    ∙ filter-false test xs (λ k d below. h (suc k) d (omega arith))

filter-true : {X : Type 0} (test : X → Bool) (xs : List X) → All (λ x. test x ≡ true) xs → filter test xs ≡ xs
filter-true test [] h = refl
filter-true test (x ∷ xs) h =
    ap (λ b. cond b (x ∷ filter test xs) (filter test xs)) (h 0 x (omega arith))
    ∙ ap (λ l. x ∷ l) (filter-true test xs (λ k d below. h (suc k) d (omega arith)))

-- whether a time is in the cycles of a slot
abbrev in_cycles : ℕ → ℕ → ℕ → Bool
in_cycles levels start time = nat_le start time && nat_lt time (start + olat_of levels)

too-early : (levels start time : ℕ) → time < start → in_cycles levels start time ≡ false
too-early levels start time early = grind (arith, lt-leb start time, early)

too-late : (levels start time : ℕ) → start + olat_of levels ≤ time → in_cycles levels start time ≡ false
too-late levels start time late = grind (arith, late)

in-time : (levels start time : ℕ) → start ≤ time → time + 40 ≤ start + olat_of levels
    → in_cycles levels start time ≡ true
in-time levels start time from to = grind (arith, from, to)

-- the slots of a list are those that start before one, that one, and those that start after it
cycles-of-slot : (levels end start leaf : ℕ) (before after leaves more : List ℕ) → length before ≡ length leaves
    → All (λ earlier. earlier + olat_of levels ≤ start) before
    → All (λ later. start + olat_of levels ≤ later) after
    → filter (is_in_slot levels start)
    (moves_before_time end (moves_of levels (before ++ start ∷ after) (leaves ++ leaf ∷ more)))
    ≡ moves_before_time end (slot_moves levels start leaf)
unfolding moves_of
cycles-of-slot levels end start leaf before after leaves more counted early late =
    let here : Move → Bool = is_in_slot levels start in
    let old : List Move = moves_of levels before leaves in
    let own : List Move = slot_moves levels start leaf in
    let new : List Move = moves_of levels after more in
    ap (λ l. filter here (moves_before_time end l))
    (moves_of-append levels before leaves (start ∷ after) (leaf ∷ more) counted)
    ∙ ap (filter here) (filter-append (λ (m : Move). nat_lt m.time end) old (own ++ new)
    ∙ ap (λ l. moves_before_time end old ++ l) (filter-append (λ (m : Move). nat_lt m.time end) own new))
    ∙ filter-append here (moves_before_time end old) (moves_before_time end own ++ moves_before_time end new)
    ∙ ap (λ l. filter here (moves_before_time end old) ++ l)
    (filter-append here (moves_before_time end own) (moves_before_time end new))
    ∙ ap (λ l. l ++ (filter here (moves_before_time end own) ++ filter here (moves_before_time end new)))
    (filter-false here (moves_before_time end old)
    (All-filter (λ (m : Move). nat_lt m.time end) (λ m. here m ≡ false) old
    (λ k d within. too-early levels start _ (moves-before levels start before leaves early k d within))))
    ∙ ap (λ l. filter here (moves_before_time end own) ++ l)
    (filter-false here (moves_before_time end new)
    (All-filter (λ (m : Move). nat_lt m.time end) (λ m. here m ≡ false) new
    (λ k d within.
    too-late levels start _ (moves-after levels (start + olat_of levels) after more late k d within))))
    ∙ append-nil (filter here (moves_before_time end own))
    ∙ filter-true here (moves_before_time end own)
    (All-filter (λ (m : Move). nat_lt m.time end) (λ m. here m ≡ true) own
    (λ k d within.
    let at = slot-within levels start leaf k d within in in-time levels start _ at.0 at.1))

-- the number of moves of a slot is the same for each leaf
same-number : (p : Public) (end start leaf : ℕ)
    → length (moves_before_time end (slot_moves p.levels start leaf)) ≡ moves_by p end start
same-number p end start leaf = slot-before p.levels start leaf end ∙ sym (slot-before p.levels start 0 end)

-- slot by slot
shown-slots : (p : Public) (log : LogLists) (end : ℕ) (before starts passed leaves : List ℕ)
    → length before ≡ length passed → length starts ≡ length leaves
    → RiseBy (olat_of p.levels) (before ++ starts)
    → log.moves ≡ moves_before_time end (moves_of p.levels (before ++ starts) (passed ++ leaves))
    → shown (map (seen_of p.levels log.moves) (zip starts leaves)) ≡ map (slot_by p end) starts
shown-slots p log end before [] passed leaves old counted rise made = refl
shown-slots p log end before (start ∷ starts) passed [] old counted rise made = absurd (omega (arith, counted))
shown-slots p log end before (start ∷ starts) passed (leaf ∷ leaves) old counted rise made =
    let split : (before ++ start ∷ []) ++ starts ≡ before ++ start ∷ starts = append_assoc before (start ∷ []) starts in
    let parted : (passed ++ leaf ∷ []) ++ leaves ≡ passed ++ leaf ∷ leaves = append_assoc passed (leaf ∷ []) leaves in
    let turned : RiseBy (olat_of p.levels) ((before ++ start ∷ []) ++ starts) =
    subst (RiseBy (olat_of p.levels)) (sym split) rise in
    let early : All (λ earlier. earlier + olat_of p.levels ≤ start) before =
    pairs-last (λ earlier later. earlier + olat_of p.levels ≤ later) before start
    (pairs-left (λ earlier later. earlier + olat_of p.levels ≤ later) (before ++ start ∷ []) starts turned) in
    let late : All (λ later. start + olat_of p.levels ≤ later) starts =
    pairs-head (λ earlier later. earlier + olat_of p.levels ≤ later) start starts (later-part before rise) in
    let number : moves_in p.levels start log.moves ≡ moves_by p end start =
    ap (moves_in p.levels start) made
    ∙ ap length (cycles-of-slot p.levels end start leaf before starts passed leaves old early late)
    ∙ same-number p end start leaf in
    ap (λ n. (start, n) ∷ shown (map (seen_of p.levels log.moves) (zip starts leaves))) number
    ∙ ap (λ l. (start, moves_by p end start) ∷ l)
    (shown-slots p log end (before ++ start ∷ []) starts (passed ++ leaf ∷ []) leaves
    (omega (arith, length-append before (start ∷ []), length-append passed (leaf ∷ []), old))
    (omega (arith, counted))
    turned
    (made ∙ sym (ap (λ l. moves_before_time end (moves_of p.levels l (passed ++ leaf ∷ leaves))) split)
    ∙ sym (ap (λ l. moves_before_time end (moves_of p.levels ((before ++ start ∷ []) ++ starts) l)) parted)))
  where
    later-part : (xs : List ℕ) → RiseBy (olat_of p.levels) (xs ++ start ∷ starts)
        → RiseBy (olat_of p.levels) (start ∷ starts)
    later-part [] h = h
    later-part (x ∷ xs) h =
        later-part xs (pairs-tail (λ earlier later. earlier + olat_of p.levels ≤ later) x (xs ++ start ∷ starts) h)

-- the trace of a scheduled log is fitted by the log's code
pub scheduled_fits : (p : Public) (end : ℕ) (log : LogLists) → IsScheduled p end log
    → Fits (trace_of p log end) (log_code p log)
unfolding schedule
scheduled_fits p end log scheduled =
    let same : starts_of log.events ≡ timetable p (log_code p log) end = scheduled.starts in
    record {
      all = sym (
          shown-slots p log end [] (starts_of log.events) [] (leaves_of log.events) refl
          (ap length same ∙ sym scheduled.leaves)
          (subst (RiseBy (olat_of p.levels)) (sym same) (timetable-rises p (log_code p log) end))
          (scheduled.moves ∙ ap (λ l. moves_before_time end (moves_of p.levels l (leaves_of log.events))) (sym same))
          ∙ ap (map (slot_by p end)) same
          );
    }
