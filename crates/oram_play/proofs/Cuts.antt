-- A slot that stopped in a log that keeps the pace: when it starts, what the log says of it, and which moves it made.
use Rattle.std.proofs.Common.{◌≡◌, ◌<◌, ◌≤◌, ℕ, suc, ◌+◌, ◌-◌, ◌*◌, true, false, cond, List, [], ◌∷◌, ◌++◌}
use Rattle.std.proofs.Common.{length, get_or, Option, Some, None, refl, sym, ap, ◌∙◌, subst, arith, append-nil}
use Rattle.std.proofs.Common.{append_assoc, length-append}
use Rattle.std.specs.Prelude.{nat_lt}
use Rattle.std.specs.List.{All}
use Rattle.std.proofs.lemmas.Bool.{le-leb, lt-leb, lt-ltb, le-ltb, ltb-true}
use Rattle.std.proofs.lemmas.List.{append_cancel_left, get_or-append_right, get_or_push}
use Rattle.std.proofs.lemmas.List.Concat.{flat_map-append}
use Rattle.std.proofs.lemmas.List.Elements.{All-pop, All-weaker, All-filter, filter_passes, filter-append}
use Rattle.asc_base.specs.declared.block.Message.{Message}
use Rattle.asc_base.specs.declared.block.Point.{Point}
use Rattle.bus_schedule.specs.Schedule.{moves_of, moves_before_time, schedule}
use Rattle.bus_schedule.specs.Scheduled.{log_code, IsScheduled}
use Rattle.bus_schedule.specs.Shown.{starts_of, indices_of, leaf_of, leaves_of, code_of}
use Rattle.bus_schedule.specs.Timetable.{Public, count_of, start_at, end_at, starts, timetable}
use Rattle.bus_schedule.specs.declared.beat.Beat.{Beat}
use Rattle.bus_schedule.proofs.ScheduleLaws.{cut-inside, writes-within}
use Rattle.bus_schedule.proofs.SlotMoves.{along-suc, along-before, forties}
use Rattle.bus_schedule.proofs.TimetableLaws.{starts-next, length-starts, starts-ended, end-before}
use Rattle.bus_schedule.proofs.TimetableParts.{timetable-is}
use Rattle.bus_watch.specs.Log.{LogLists}
use Rattle.bus_watch.specs.Path.{move_along, along, reads, writes, writes_start}
use Rattle.bus_watch.specs.declared.log.Event.{Event}
use Rattle.bus_watch.specs.declared.log.Event.TheVariants.{Access, Drawn}
use Rattle.bus_watch.specs.declared.log.Move.{Move}
use Rattle.run_play.specs.Halt.{MoveFails, part_of, end_of, before_put, after_put}
use Rattle.run_play.specs.PlayEvents.{Starts, Draws, said_of_all, tags_of, chooses_of, slot_events, play_events}
use Rattle.run_play.specs.PlayEvents.{code_in}
use Rattle.run_play.specs.Slots.{Pace, Numbers, Slot}
use Rattle.run_play.proofs.Events.{log-shows}
use Rattle.oram_play.proofs.Due.{HasSlot, one-same, bare_slot, bare-events, slot-starts, slot-indices, slot-said}
use Rattle.oram_play.proofs.Passes.{Said}

-- ---- where a move fails
-- in the reads of a slot, before its block is put back
pub reads-move : (levels level start : ℕ) (slot : Slot) → level ≤ levels
    → (part_of levels (MoveFails level) slot ≡ before_put slot)
    × (end_of levels start (MoveFails level) ≡ start + 40 * level + 1)
reads-move levels level start slot small = (
  ap (λ b. cond {A = Slot} b (before_put slot) (after_put slot)) (le-leb level levels small),
  ap (λ b. cond {A = ℕ} b (start + 40 * level) (writes_start levels start + 40 * (level - (levels + 1))) + 1)
      (lt-ltb level (levels + 1) (omega arith)),
)

-- or in its writes, after it
pub writes-move : (levels level start : ℕ) (slot : Slot)
    → (part_of levels (MoveFails (levels + 1 + level)) slot ≡ after_put slot)
    × (end_of levels start (MoveFails (levels + 1 + level)) ≡ writes_start levels start + 40 * level + 1)
writes-move levels level start slot =
    let move : ℕ = levels + 1 + level in
    let same : move - (levels + 1) ≡ level = omega arith in (
      ap (λ b. cond {A = Slot} b (before_put slot) (after_put slot)) (lt-leb move levels (omega arith)),
      ap (λ b. cond {A = ℕ} b (start + 40 * move) (writes_start levels start + 40 * (move - (levels + 1))) + 1)
          (le-ltb move (levels + 1) (omega arith))
          ∙ ap (λ n. writes_start levels start + 40 * n + 1) same,
    )

-- ---- the last of a list
last-of : {X : Type 0} (P : X → Type 0) (xs ys zs : List X) (r : X) → xs ++ ys ≡ zs ++ r ∷ [] → All P ys
    → 0 < length ys → P r
last-of P xs ys zs r is all some =
    let n : ℕ = length ys - 1 in
    let counted : length xs + length ys ≡ length zs + 1 =
    sym (length-append xs ys) ∙ ap length is ∙ length-append zs (r ∷ []) in
    let at : length xs + n ≡ length zs = omega (arith, counted, some) in
    let here : length xs + n - length xs ≡ n = omega arith in
    let same : get_or ys n r ≡ r =
    ap (λ i. get_or ys i r) (sym here)
    ∙ sym (get_or-append_right xs ys (length xs) (length xs + n) r refl (omega arith))
    ∙ ap (λ l. get_or l (length xs + n) r) is ∙ ap (λ i. get_or (zs ++ r ∷ []) i r) at
    ∙ get_or_push zs r r (length zs) refl in
    subst P same (all n r (omega (arith, some)))

-- ---- a slot that stopped
module _ (p : Public) (old : List Event) (log : LogLists) (start : ℕ) (asked : Option ℕ) (point : Point)
    (put : Option Message) (slots : List Slot) (pace : Pace) (before : Said p old slots pace)
    (h : HasSlot old log.events start asked point put None) (end : ℕ) (scheduled : IsScheduled p end log) where
  abbrev code : ℕ
  code = code_in p slots

  abbrev n : ℕ
  n = length slots

  starts-are : starts_of log.events ≡ starts p code n ++ start ∷ []
  starts-are =
      slot-starts old log.events start asked point put None h
      ∙ ap (λ l. l ++ start ∷ []) ((log-shows old slots before.said).0 ∙ before.paced.starts)

  code-is : log_code p log ≡ code
  code-is =
      ap (code_of (count_of p))
      (slot-indices old log.events start asked point put None h ∙ append-nil (indices_of old)
      ∙ (log-shows old slots before.said).1)

  table : timetable p (log_code p log) end ≡ starts p code (suc n)
  table =
      let c : ℕ = log_code p log in
      let one : length (starts_of log.events) ≡ length (timetable p c end) = ap length scheduled.starts in
      let two : length (starts_of log.events) ≡ length (starts p code n ++ start ∷ []) = ap length starts-are in
      let three : length (starts p code n ++ start ∷ []) ≡ length (starts p code n) + 1 =
      length-append (starts p code n) (start ∷ []) in
      let counted : length (timetable p c end) ≡ suc n =
      omega (arith, one, two, three, length-starts p code n) in
      timetable-is p c end ∙ ap (starts p c) counted ∙ ap (λ d. starts p d (suc n)) code-is

  start-at : start ≡ start_at p code n
  start-at =
      one-same start (start_at p code n)
      (append_cancel_left (starts p code n) (start ∷ []) (start_at p code n ∷ [])
      (sym starts-are ∙ scheduled.starts ∙ table ∙ starts-next p code n))

  -- It starts when the next slot is due.
  pub cut-start : start ≡ pace.beat.next
  cut-start = start-at ∙ ap (λ (b : Beat). b.next) (sym before.paced.beat)

  -- The log says what was done of it.
  pub cut-said : (numbers : Numbers) (part : Slot) → part ≡ bare_slot pace.beat.next asked point put None numbers
      → said_of_all log.events ≡ play_events (slots ++ part ∷ [])
  cut-said numbers part is =
      let same : part ≡ bare_slot start asked point put None numbers =
      is ∙ ap (λ s. bare_slot s asked point put None numbers) (sym cut-start) in
      slot-said old log.events start asked point put None h
      ∙ ap (λ l. l ++ (Starts start asked ∷ Draws point ∷ (tags_of put ++ chooses_of None))) before.said
      ∙ ap (λ l. play_events slots ++ l) (sym (bare-events part start asked point put None numbers same))
      ∙ sym (flat_map-append slot_events slots (part ∷ []))

  -- ---- its moves
  -- they are those of the schedule
  moves-are : log.moves
      ≡ moves_before_time end (moves_of p.levels (timetable p (log_code p log) end) (leaves_of log.events))
  unfolding schedule
  moves-are = scheduled.moves

  leaves-are : leaves_of log.events ≡ leaves_of old ++ h.leaf.0 ∷ []
  leaves-are =
      ap leaves_of h.events
      ∙ flat_map-append leaf_of old (Access start asked ∷ Drawn point h.leaf ∷ (h.notes ++ []))
      ∙ ap (λ l. leaves_of old ++ h.leaf.0 ∷ l)
      (flat_map-append leaf_of h.notes [] ∙ append-nil (leaves_of h.notes) ∙ h.silent.leaves)

  -- in its reads it made no write
  pub none-written : (before : List Move) (level level' : ℕ) → level ≤ p.levels
      → end ≡ start + 40 * level + 1
      → log.moves ≡ before ++ along p.levels true (writes_start p.levels start) h.leaf.0 (level' + 1) → ⊥
  none-written before level level' small ends made =
      let first : ℕ = writes_start p.levels start in
      let last : Move = move_along p.levels true first h.leaf.0 level' in
      let early : All (λ (m : Move). m.time < end) log.moves =
      subst (All (λ (m : Move). m.time < end)) (sym moves-are)
      (All-weaker (λ (m : Move). nat_lt m.time end ≡ true) (λ (m : Move). m.time < end)
      (λ m e. ltb-true m.time end e)
      (moves_before_time end (moves_of p.levels (timetable p (log_code p log) end) (leaves_of log.events)))
      (filter_passes (λ (m : Move). nat_lt m.time end)
      (moves_of p.levels (timetable p (log_code p log) end) (leaves_of log.events)))) in
      let next : level' + 1 ≡ suc level' = omega arith in
      let parts : log.moves ≡ (before ++ along p.levels true first h.leaf.0 level') ++ last ∷ [] =
      made ∙ ap (λ k. before ++ along p.levels true first h.leaf.0 k) next
      ∙ ap (λ l. before ++ l) (along-suc p.levels true first h.leaf.0 level')
      ∙ sym (append_assoc before (along p.levels true first h.leaf.0 level') (last ∷ [])) in
      let less : last.time < end =
      (All-pop (λ (m : Move). m.time < end) log.moves (before ++ along p.levels true first h.leaf.0 level')
      (Some last) parts early).1 in
      absurd (omega (arith, less, ends, small))

  -- in its writes it made all reads
  pub all-read : (before : List Move) (level level' : ℕ) → level ≤ p.levels
      → end ≡ writes_start p.levels start + 40 * level' + 1
      → log.moves ≡ before ++ along p.levels false start h.leaf.0 (level + 1) → ⊥
  all-read before level level' small ends made =
      let first : ℕ = writes_start p.levels start in
      let last : Move = move_along p.levels false start h.leaf.0 level in
      let done : List Move = moves_of p.levels (starts p code n) (leaves_of old) in
      let written : List Move = moves_before_time end (writes p.levels start h.leaf.0) in
      let counted : length (starts p code n) ≡ length (leaves_of old) =
      (let one : length (leaves_of log.events) ≡ length (timetable p (log_code p log) end) = scheduled.leaves in
      let two : length (timetable p (log_code p log) end) ≡ suc n =
      ap length table ∙ length-starts p code (suc n) in
      let three : length (leaves_of log.events) ≡ length (leaves_of old) + 1 =
      ap length leaves-are ∙ length-append (leaves_of old) (h.leaf.0 ∷ []) in
      omega (arith, one, two, three, length-starts p code n)) in
      let past : end_at p code n ≤ end = omega (arith, end-before p code n, start-at, ends) in
      let whole : log.moves
      ≡ (done ++ moves_before_time end (reads p.levels start h.leaf.0)) ++ written =
      moves-are
      ∙ ap (λ l. moves_before_time end (moves_of p.levels l (leaves_of log.events))) (table ∙ starts-next p code n)
      ∙ ap (λ l. moves_before_time end (moves_of p.levels (starts p code n ++ start_at p code n ∷ []) l)) leaves-are
      ∙ ap (λ s. moves_before_time end (moves_of p.levels (starts p code n ++ s ∷ []) (leaves_of old ++ h.leaf.0 ∷ [])))
      (sym start-at)
      ∙ cut-inside p.levels end start h.leaf.0 (starts p code n) (leaves_of old) counted
      (starts-ended p code n end past)
      ∙ ap (λ l. done ++ l)
      (filter-append (λ (m : Move). nat_lt m.time end) (reads p.levels start h.leaf.0)
      (writes p.levels start h.leaf.0))
      ∙ sym (append_assoc done (moves_before_time end (reads p.levels start h.leaf.0)) written) in
      let next : level + 1 ≡ suc level = omega arith in
      let parts : log.moves ≡ (before ++ along p.levels false start h.leaf.0 level) ++ last ∷ [] =
      made ∙ ap (λ k. before ++ along p.levels false start h.leaf.0 k) next
      ∙ ap (λ l. before ++ l) (along-suc p.levels false start h.leaf.0 level)
      ∙ sym (append_assoc before (along p.levels false start h.leaf.0 level) (last ∷ [])) in
      let some : 0 < length written =
      (let number = along-before p.levels true first h.leaf.0 (p.levels + 1) end in
      let one : 1 ≤ forties (end - first) = omega (arith, ends) in
      omega (arith, number, one)) in
      let late : first ≤ last.time =
      last-of (λ (m : Move). first ≤ m.time) (done ++ moves_before_time end (reads p.levels start h.leaf.0)) written
      (before ++ along p.levels false start h.leaf.0 level) last (sym whole ∙ parts)
      (All-filter (λ (m : Move). nat_lt m.time end) (λ (m : Move). first ≤ m.time) (writes p.levels start h.leaf.0)
      (writes-within p.levels start h.leaf.0)) some in
      absurd (omega (arith, late, small))
