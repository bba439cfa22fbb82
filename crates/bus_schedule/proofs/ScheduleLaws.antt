-- The moves of slots, one after another, and what a time cuts off of them.
use Rattle.std.proofs.Common.{◌≡◌, ℕ, zero, suc, ◌+◌, ◌*◌, ◌<◌, ◌≤◌, Bool, true, false, List, [], ◌∷◌, ◌++◌, length}
use Rattle.std.proofs.Common.{refl, sym, ◌∙◌, ap, arith, subst, append-nil, append_assoc}
use Rattle.std.specs.Prelude.{nat_lt}
use Rattle.std.specs.List.{All}
use Rattle.std.proofs.lemmas.List.Quantifiers.{all_pairs_push}
use Rattle.std.proofs.lemmas.List.Elements.{All-head, All-tail, All-nil, All-push, All-append, All-weaker}
use Rattle.std.proofs.lemmas.List.Elements.{All-filter, filter-append}
use Rattle.asc_base.specs.TreeShape.{olat_of}
use Rattle.bus_watch.specs.declared.log.Move.{Move}
use Rattle.bus_watch.specs.Path.{move_along, along, reads, reads_end, writes_start, writes, slot_moves}
use Rattle.bus_schedule.specs.Schedule.{moves_of, moves_before_time, schedule, RiseBy, MovesRise, GoesOn}
use Rattle.bus_schedule.proofs.Rising.{pairs-tail, pairs-head, pairs-append, filter-all, cut-later}
use Rattle.bus_schedule.specs.Timetable.{Public, starts, timetable}
use Rattle.bus_schedule.proofs.TimetableLaws.{timetable-goes-on, timetable-rises}

-- from a time on, and over by another
abbrev pub Within : ℕ → ℕ → Move → Type 0
Within start end m = (start ≤ m.time) × (m.time + 40 ≤ end)

pub along-within : (levels : ℕ) (write : Bool) (first leaf n : ℕ)
    → All (Within first (first + 40 * n)) (along levels write first leaf n)
unfolding along
along-within levels write first leaf zero = All-nil (Within first (first + 40 * 0))
along-within levels write first leaf (suc n) =
    All-push (Within first (first + 40 * suc n)) (along levels write first leaf n)
    (move_along levels write first leaf n)
    (All-weaker (Within first (first + 40 * n)) (Within first (first + 40 * suc n)) (λ m h. (h.0, omega arith))
    (along levels write first leaf n) (along-within levels write first leaf n))
    (omega arith, omega arith)

pub along-rise : (levels : ℕ) (write : Bool) (first leaf n : ℕ) → MovesRise (along levels write first leaf n)
unfolding along
along-rise levels write first leaf zero = λ i j d before within. absurd (omega arith)
along-rise levels write first leaf (suc n) =
    all_pairs_push (λ (earlier later : Move). earlier.time + 40 ≤ later.time) (along levels write first leaf n)
    (move_along levels write first leaf n)
    (along-rise levels write first leaf n) (λ k d within. (along-within levels write first leaf n k d within).1)

-- the moves of a slot are in it
pub slot-within : (levels start leaf : ℕ)
    → All (Within start (start + olat_of levels)) (slot_moves levels start leaf)
slot-within levels start leaf =
    All-append (Within start (start + olat_of levels)) (reads levels start leaf) (writes levels start leaf)
    (All-weaker (Within start (start + 40 * (levels + 1))) (Within start (start + olat_of levels))
    (λ m h. (h.0, omega arith)) (reads levels start leaf) (along-within levels false start leaf (levels + 1)))
    (All-weaker (Within (writes_start levels start) (writes_start levels start + 40 * (levels + 1)))
    (Within start (start + olat_of levels)) (λ m h. (omega arith, omega arith)) (writes levels start leaf)
    (along-within levels true (writes_start levels start) leaf (levels + 1)))

pub reads-within : (levels start leaf : ℕ)
    → All (λ (m : Move). m.time + 40 ≤ reads_end levels start) (reads levels start leaf)
reads-within levels start leaf = λ k d within. (along-within levels false start leaf (levels + 1) k d within).1

pub writes-within : (levels start leaf : ℕ)
    → All (λ (m : Move). writes_start levels start ≤ m.time) (writes levels start leaf)
writes-within levels start leaf =
    λ k d within. (along-within levels true (writes_start levels start) leaf (levels + 1) k d within).0

pub slot-rise : (levels start leaf : ℕ) → MovesRise (slot_moves levels start leaf)
slot-rise levels start leaf =
    pairs-append (λ (earlier later : Move). earlier.time + 40 ≤ later.time) (reads levels start leaf)
    (writes levels start leaf)
    (along-rise levels false start leaf (levels + 1))
    (along-rise levels true (writes_start levels start) leaf (levels + 1))
    (All-weaker (Within start (start + 40 * (levels + 1)))
    (λ (m : Move). All (λ (later : Move). m.time + 40 ≤ later.time) (writes levels start leaf))
    (λ m h. All-weaker (Within (writes_start levels start) (writes_start levels start + 40 * (levels + 1)))
    (λ (later : Move). m.time + 40 ≤ later.time) (λ later g. omega arith) (writes levels start leaf)
    (along-within levels true (writes_start levels start) leaf (levels + 1)))
    (reads levels start leaf) (along-within levels false start leaf (levels + 1)))

-- the moves of slots that start at a time or later come then or later
pub moves-after : (levels time : ℕ) (starts leaves : List ℕ) → All (λ start. time ≤ start) starts
    → All (λ (m : Move). time ≤ m.time) (moves_of levels starts leaves)
unfolding moves_of
moves-after levels time [] leaves h = All-nil (λ (m : Move). time ≤ m.time)
moves-after levels time (start ∷ starts) [] h = All-nil (λ (m : Move). time ≤ m.time)
moves-after levels time (start ∷ starts) (leaf ∷ leaves) h =
    let first : time ≤ start = All-head (λ s. time ≤ s) start starts h in
    All-append (λ (m : Move). time ≤ m.time) (slot_moves levels start leaf) (moves_of levels starts leaves)
    (All-weaker (Within start (start + olat_of levels)) (λ (m : Move). time ≤ m.time) (λ m g. omega arith)
    (slot_moves levels start leaf) (slot-within levels start leaf))
    (moves-after levels time starts leaves (All-tail (λ s. time ≤ s) start starts h))

-- and those of slots that are over come before
pub moves-before : (levels time : ℕ) (starts leaves : List ℕ) → All (λ start. start + olat_of levels ≤ time) starts
    → All (λ (m : Move). m.time < time) (moves_of levels starts leaves)
unfolding moves_of
moves-before levels time [] leaves h = All-nil (λ (m : Move). m.time < time)
moves-before levels time (start ∷ starts) [] h = All-nil (λ (m : Move). m.time < time)
moves-before levels time (start ∷ starts) (leaf ∷ leaves) h =
    let first : start + olat_of levels ≤ time = All-head (λ s. s + olat_of levels ≤ time) start starts h in
    All-append (λ (m : Move). m.time < time) (slot_moves levels start leaf) (moves_of levels starts leaves)
    (All-weaker (Within start (start + olat_of levels)) (λ (m : Move). m.time < time) (λ m g. omega arith)
    (slot_moves levels start leaf) (slot-within levels start leaf))
    (moves-before levels time starts leaves (All-tail (λ s. s + olat_of levels ≤ time) start starts h))

pub moves-rise : (levels : ℕ) (starts leaves : List ℕ) → RiseBy (olat_of levels) starts
    → MovesRise (moves_of levels starts leaves)
unfolding moves_of
moves-rise levels [] leaves h = λ i j d before within. absurd (omega arith)
moves-rise levels (start ∷ starts) [] h = λ i j d before within. absurd (omega arith)
moves-rise levels (start ∷ starts) (leaf ∷ leaves) h =
    let later : All (λ (m : Move). start + olat_of levels ≤ m.time) (moves_of levels starts leaves) =
    moves-after levels (start + olat_of levels) starts leaves
    (pairs-head (λ s t. s + olat_of levels ≤ t) start starts h) in
    pairs-append (λ (earlier later : Move). earlier.time + 40 ≤ later.time) (slot_moves levels start leaf)
    (moves_of levels starts leaves)
    (slot-rise levels start leaf)
    (moves-rise levels starts leaves (pairs-tail (λ s t. s + olat_of levels ≤ t) start starts h))
    (All-weaker (Within start (start + olat_of levels))
    (λ (m : Move). All (λ (later : Move). m.time + 40 ≤ later.time) (moves_of levels starts leaves))
    (λ m g. All-weaker (λ (n : Move). start + olat_of levels ≤ n.time) (λ (n : Move). m.time + 40 ≤ n.time)
    (λ n f. omega arith) (moves_of levels starts leaves) later)
    (slot_moves levels start leaf) (slot-within levels start leaf))

-- the moves of some slots and of others after them
pub moves_of-append : (levels : ℕ) (starts leaves others more : List ℕ) → length starts ≡ length leaves
    → moves_of levels (starts ++ others) (leaves ++ more)
    ≡ moves_of levels starts leaves ++ moves_of levels others more
unfolding moves_of
moves_of-append levels [] [] others more h = refl
moves_of-append levels [] (leaf ∷ leaves) others more h = absurd (omega arith)
moves_of-append levels (start ∷ starts) [] others more h = absurd (omega arith)
moves_of-append levels (start ∷ starts) (leaf ∷ leaves) others more h =
    ap (λ l. slot_moves levels start leaf ++ l) (moves_of-append levels starts leaves others more (omega arith))
    ∙ sym
    (append_assoc (slot_moves levels start leaf) (moves_of levels starts leaves) (moves_of levels others more))

moves_of-one : (levels start leaf : ℕ) → moves_of levels (start ∷ []) (leaf ∷ []) ≡ slot_moves levels start leaf
unfolding moves_of
moves_of-one levels start leaf = append-nil (slot_moves levels start leaf)

pub moves_of-last : (levels start leaf : ℕ) (starts leaves : List ℕ) → length starts ≡ length leaves
    → moves_of levels (starts ++ start ∷ []) (leaves ++ leaf ∷ [])
    ≡ moves_of levels starts leaves ++ slot_moves levels start leaf
moves_of-last levels start leaf starts leaves h =
    moves_of-append levels starts leaves (start ∷ []) (leaf ∷ []) h
    ∙ ap (λ l. moves_of levels starts leaves ++ l) (moves_of-one levels start leaf)

-- once slots are over all their moves are made
pub cut-over : (levels end : ℕ) (starts leaves : List ℕ) → All (λ start. start + olat_of levels ≤ end) starts
    → moves_before_time end (moves_of levels starts leaves) ≡ moves_of levels starts leaves
cut-over levels end starts leaves h =
    filter-all (λ (m : Move). m.time) end (moves_of levels starts leaves) (moves-before levels end starts leaves h)

-- in a slot those before the time are made, and all of the slots before
pub cut-inside : (levels end start leaf : ℕ) (starts leaves : List ℕ) → length starts ≡ length leaves
    → All (λ earlier. earlier + olat_of levels ≤ end) starts
    → moves_before_time end (moves_of levels (starts ++ start ∷ []) (leaves ++ leaf ∷ []))
    ≡ moves_of levels starts leaves ++ moves_before_time end (slot_moves levels start leaf)
cut-inside levels end start leaf starts leaves h over =
    ap (moves_before_time end) (moves_of-last levels start leaf starts leaves h)
    ∙ filter-append (λ (m : Move). nat_lt m.time end) (moves_of levels starts leaves) (slot_moves levels start leaf)
    ∙ ap (λ l. l ++ moves_before_time end (slot_moves levels start leaf)) (cut-over levels end starts leaves over)

-- later slots add nothing before the time at which the first of them starts
pub moves-go-on : (levels end later : ℕ) (starts leaves others more : List ℕ) → end ≤ later
    → RiseBy (olat_of levels) starts → All (λ start. end ≤ start) others → length starts ≡ length leaves
    → GoesOn (λ (m : Move). m.time) end (moves_before_time end (moves_of levels starts leaves))
    (moves_before_time later (moves_of levels (starts ++ others) (leaves ++ more)))
moves-go-on levels end later starts leaves others more h rise late counted =
    let c : GoesOn (λ (m : Move). m.time) end (moves_before_time end (moves_of levels starts leaves))
    (moves_before_time later (moves_of levels starts leaves)) =
    cut-later (λ (m : Move). m.time) 40 end later (moves_of levels starts leaves) h
    (moves-rise levels starts leaves rise) in
    record {
      more = c.more ++ moves_before_time later (moves_of levels others more);
      parts = ap (moves_before_time later) (moves_of-append levels starts leaves others more counted)
          ∙ filter-append (λ (m : Move). nat_lt m.time later) (moves_of levels starts leaves)
          (moves_of levels others more)
          ∙ ap (λ l. l ++ moves_before_time later (moves_of levels others more)) c.parts
          ∙ append_assoc (moves_before_time end (moves_of levels starts leaves)) c.more
          (moves_before_time later (moves_of levels others more));
      after = All-append (λ (m : Move). end ≤ m.time) c.more
          (moves_before_time later (moves_of levels others more)) c.after
          (All-filter (λ (m : Move). nat_lt m.time later) (λ (m : Move). end ≤ m.time) (moves_of levels others more)
          (moves-after levels end others more late));
    }

-- And so does a schedule, where the leaves begin alike.
pub schedule-goes-on : (p : Public) (code end later : ℕ) (leaves more : List ℕ) → end ≤ later
    → length leaves ≡ length (timetable p code end)
    → GoesOn (λ (m : Move). m.time) end (schedule p code leaves end) (schedule p code (leaves ++ more) later)
unfolding schedule
schedule-goes-on p code end later leaves more h counted =
    let g : GoesOn (λ start. start) end (timetable p code end) (timetable p code later) =
    timetable-goes-on p code end later h in
    subst
    (λ l. GoesOn (λ (m : Move). m.time) end (moves_before_time end (moves_of p.levels (timetable p code end) leaves))
    (moves_before_time later (moves_of p.levels l (leaves ++ more))))
    (sym g.parts)
    (moves-go-on p.levels end later (timetable p code end) leaves g.more more h (timetable-rises p code end) g.after
    (sym counted))
