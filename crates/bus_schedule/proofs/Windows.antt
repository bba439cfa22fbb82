-- Up to which times a log is scheduled.
use Rattle.std.proofs.Common.{◌≡◌, ℕ, zero, suc, ◌+◌, ◌-◌, ◌*◌, ◌<◌, ◌≤◌, Bool, true, false, List, [], ◌∷◌, ◌++◌}
use Rattle.std.proofs.Common.{length, sym, ◌∙◌, ap, arith, append-nil, append_assoc, length-append}
use Rattle.std.specs.Prelude.{nat_lt}
use Rattle.std.specs.List.{All}
use Rattle.std.proofs.lemmas.List.Elements.{All-nil, All-push, All-append, All-weaker, filter-append}
use Rattle.asc_base.specs.TreeShape.{olat_of}
use Rattle.bus_watch.specs.declared.log.Move.{Move}
use Rattle.bus_watch.specs.Log.{LogLists}
use Rattle.bus_schedule.specs.Timetable.{Public, start_at, end_at, starts, timetable}
use Rattle.bus_watch.specs.Path.{move_along, along, reads, reads_end, writes_start, writes, slot_moves}
use Rattle.bus_schedule.specs.Schedule.{moves_of, moves_before_time, schedule}
use Rattle.bus_schedule.specs.Shown.{starts_of, leaves_of}
use Rattle.bus_schedule.specs.Scheduled.{log_code, IsScheduled, Between, Inside}
use Rattle.bus_schedule.proofs.TimetableLaws.{starts-ended, start-rises, end-before, length-starts, starts-next}
use Rattle.bus_schedule.proofs.TimetableLaws.{timetable-between, timetable-inside}
use Rattle.bus_schedule.proofs.TimetableParts.{fallen-between, fallen-inside}
use Rattle.bus_schedule.proofs.SlotMoves.{along-suc}
use Rattle.bus_schedule.proofs.Rising.{filter-all, filter-none}
use Rattle.bus_schedule.proofs.ScheduleLaws.{Within, along-within, reads-within, writes-within, cut-over, cut-inside}

-- Between two slots the log is scheduled up to each time from the last end to the next start.
pub scheduled-between : (p : Public) (n end : ℕ) (log : LogLists) → Between p n log
    → end_at p (log_code p log) n ≤ end → end ≤ start_at p (log_code p log) n → IsScheduled p end log
unfolding schedule
scheduled-between p n end log b past next =
    let code : ℕ = log_code p log in
    let leaves : List ℕ = leaves_of log.events in
    let table : timetable p code end ≡ starts p code n = timetable-between p code n end past next in
    record {
      starts = b.begun ∙ sym table;
      leaves = b.leaves ∙ sym (length-starts p code n) ∙ ap length (sym table);
      moves = b.moves
          ∙ sym (cut-over p.levels end (starts p code n) leaves (starts-ended p code n end past))
          ∙ ap (λ l. moves_before_time end (moves_of p.levels l leaves)) (sym table);
      indices = b.chosen.indices;
      fell = b.chosen.fell ∙ sym (fallen-between p code n end past next);
    }

-- In a slot it is, up to each time that parts the moves that were made from the others.
pub scheduled-inside : (p : Public) (n start leaf end : ℕ) (part rest : List Move) (log : LogLists)
    → Inside p n leaf part log → start ≡ start_at p (log_code p log) n → slot_moves p.levels start leaf ≡ part ++ rest
    → All (λ (m : Move). m.time < end) part → All (λ (m : Move). end ≤ m.time) rest
    → start < end → end < start + olat_of p.levels → IsScheduled p end log
unfolding schedule
scheduled-inside p n start leaf end part rest log i at whole made left begun over =
    let code : ℕ = log_code p log in
    let after : start_at p code n < end = omega arith in
    let short : end < end_at p code (suc n) = omega arith in
    let table : timetable p code end ≡ starts p code (suc n) =
    timetable-inside p code n end after (omega (arith, start-rises p (log_code p log) n)) in
    let past : end_at p code n ≤ end = omega (arith, end-before p (log_code p log) n) in
    let counted : length (starts p code n) ≡ length i.before = length-starts p code n ∙ sym i.counted in
    let cut : moves_before_time end (slot_moves p.levels start leaf) ≡ part =
    ap (moves_before_time end) whole ∙ filter-append (λ (m : Move). nat_lt m.time end) part rest
    ∙ ap (λ l. l ++ moves_before_time end rest) (filter-all (λ (m : Move). m.time) end part made)
    ∙ ap (λ l. part ++ l) (filter-none (λ (m : Move). m.time) end rest left)
    ∙ append-nil part in
    record {
      starts = i.begun ∙ sym table;
      leaves = ap length i.leaves
          ∙
          (let e : length (i.before ++ leaf ∷ []) ≡ suc n =
          omega (arith, length-append i.before (leaf ∷ []), i.counted) in e)
          ∙ sym (length-starts p code (suc n)) ∙ ap length (sym table);
      moves = i.moves
          ∙ ap (λ l. moves_of p.levels (starts p code n) i.before ++ l) (sym cut)
          ∙ sym
          (cut-inside p.levels end start leaf (starts p code n) i.before counted (starts-ended p code n end past))
          ∙ ap (λ s. moves_before_time end (moves_of p.levels (starts p code n ++ s ∷ []) (i.before ++ leaf ∷ []))) at
          ∙ ap (λ l. moves_before_time end (moves_of p.levels l (i.before ++ leaf ∷ [])))
          (sym (starts-next p code n))
          ∙ ap (λ l. moves_before_time end (moves_of p.levels (starts p code (suc n)) l)) (sym i.leaves)
          ∙ ap (λ l. moves_before_time end (moves_of p.levels l (leaves_of log.events))) (sym table);
      indices = i.chosen.indices;
      fell = i.chosen.fell ∙ sym (fallen-inside p code n end after short);
    }

-- the moves along a path after the first of them
record AlongParts (levels : ℕ) (write : Bool) (first leaf made more : ℕ) : Type 0 where
  rest : List Move
  parts : along levels write first leaf (made + more) ≡ along levels write first leaf made ++ rest
  after : All (λ (m : Move). first + 40 * made ≤ m.time) rest

along-parts : (levels : ℕ) (write : Bool) (first leaf made more : ℕ) → AlongParts levels write first leaf made more
along-parts levels write first leaf made zero =
    let same : made + 0 ≡ made = omega arith in
    record {
      rest = [];
      parts = ap (along levels write first leaf) same ∙ sym (append-nil (along levels write first leaf made));
      after = All-nil (λ (m : Move). first + 40 * made ≤ m.time);
    }
along-parts levels write first leaf made (suc more) =
    let before : AlongParts levels write first leaf made more = along-parts levels write first leaf made more in
    let next : made + suc more ≡ suc (made + more) = omega arith in
    let last : Move = move_along levels write first leaf (made + more) in
    record {
      rest = before.rest ++ last ∷ [];
      parts = ap (along levels write first leaf) next
          ∙ along-suc levels write first leaf (made + more)
          ∙ ap (λ l. l ++ last ∷ []) before.parts
          ∙ append_assoc (along levels write first leaf made) before.rest (last ∷ []);
      after = All-push (λ (m : Move). first + 40 * made ≤ m.time) before.rest last before.after (omega arith);
    }

along-all : (levels : ℕ) (write : Bool) (first leaf made : ℕ) → made ≤ levels + 1
    → AlongParts levels write first leaf made (levels + 1 - made)
    → (rest : List Move) × (along levels write first leaf (levels + 1) ≡ along levels write first leaf made ++ rest)
    × All (λ (m : Move). first + 40 * made ≤ m.time) rest
along-all levels write first leaf made few p =
    let all : levels + 1 ≡ made + (levels + 1 - made) = omega arith in
    (p.rest, ap (along levels write first leaf) all ∙ p.parts, p.after)

-- with some of its reads, up to each time after the last of them and not after the next
pub scheduled-reads : (p : Public) (n start leaf made end : ℕ) (log : LogLists)
    → Inside p n leaf (along p.levels false start leaf made) log → start ≡ start_at p (log_code p log) n
    → made ≤ p.levels + 1 → start < end → start + 40 * made < end + 40 → end ≤ start + 40 * made
    → IsScheduled p end log
scheduled-reads p n start leaf made end log i at few begun after until =
    let l : ℕ = p.levels in
    let r : (rest : List Move) × (along l false start leaf (l + 1) ≡ along l false start leaf made ++ rest)
    × All (λ (m : Move). start + 40 * made ≤ m.time) rest =
    along-all l false start leaf made few (along-parts l false start leaf made (l + 1 - made)) in
    scheduled-inside p n start leaf end (along l false start leaf made) (r.0 ++ writes l start leaf) log i at
    (ap (λ ms. ms ++ writes l start leaf) r.1 ∙ append_assoc (along l false start leaf made) r.0 (writes l start leaf))
    (All-weaker (Within start (start + 40 * made)) (λ (m : Move). m.time < end) (λ m h. omega arith)
    (along l false start leaf made) (along-within l false start leaf made))
    (All-append (λ (m : Move). end ≤ m.time) r.0 (writes l start leaf)
    (All-weaker (λ (m : Move). start + 40 * made ≤ m.time) (λ (m : Move). end ≤ m.time) (λ m h. omega arith) r.0 r.2)
    (All-weaker (λ (m : Move). writes_start l start ≤ m.time) (λ (m : Move). end ≤ m.time) (λ m h. omega arith)
    (writes l start leaf) (writes-within l start leaf)))
    begun (omega arith)

-- and with some of its writes
pub scheduled-writes : (p : Public) (n start leaf made end : ℕ) (log : LogLists)
    → Inside p n leaf (reads p.levels start leaf ++ along p.levels true (writes_start p.levels start) leaf made) log
    → start ≡ start_at p (log_code p log) n → made ≤ p.levels + 1
    → writes_start p.levels start + 40 * made < end + 40 → end ≤ writes_start p.levels start + 40 * made
    → end < start + olat_of p.levels → IsScheduled p end log
scheduled-writes p n start leaf made end log i at few after until over =
    let l : ℕ = p.levels in
    let first : ℕ = writes_start l start in
    let part : List Move = along l true first leaf made in
    let w : (rest : List Move) × (along l true first leaf (l + 1) ≡ along l true first leaf made ++ rest)
    × All (λ (m : Move). first + 40 * made ≤ m.time) rest =
    along-all l true first leaf made few (along-parts l true first leaf made (l + 1 - made)) in
    scheduled-inside p n start leaf end (reads l start leaf ++ part) w.0 log i at
    (ap (λ ms. reads l start leaf ++ ms) w.1 ∙ sym (append_assoc (reads l start leaf) part w.0))
    (All-append (λ (m : Move). m.time < end) (reads l start leaf) part
    (All-weaker (λ (m : Move). m.time + 40 ≤ reads_end l start) (λ (m : Move). m.time < end) (λ m h. omega arith)
    (reads l start leaf) (reads-within l start leaf))
    (All-weaker (Within first (first + 40 * made)) (λ (m : Move). m.time < end) (λ m h. omega arith)
    part (along-within l true first leaf made)))
    (All-weaker (λ (m : Move). first + 40 * made ≤ m.time) (λ (m : Move). end ≤ m.time) (λ m h. omega arith) w.0 w.2)
    (omega arith) over

-- what two logs that are scheduled up to the same time have in common
pub same-starts : (p : Public) (end : ℕ) (one other : LogLists) → IsScheduled p end one → IsScheduled p end other
    → log_code p one ≡ log_code p other → starts_of one.events ≡ starts_of other.events
same-starts p end one other a b code = a.starts ∙ ap (λ c. timetable p c end) code ∙ sym b.starts

pub same-moves : (p : Public) (end : ℕ) (one other : LogLists) → IsScheduled p end one → IsScheduled p end other
    → log_code p one ≡ log_code p other → leaves_of one.events ≡ leaves_of other.events → one.moves ≡ other.moves
same-moves p end one other a b code leaves =
    a.moves ∙ ap (λ c. schedule p c (leaves_of one.events) end) code
    ∙ ap (λ l. schedule p (log_code p other) l end) leaves ∙ sym b.moves
