-- A log of whole slots says the buckets; and such a log it is where all slots that started have ended. A log whose
-- moves broke off along a path ends in the last of them.
use Rattle.std.proofs.Common.{◌≡◌, ◌≤◌, ◌+◌, ℕ, suc, Bool, List, [], ◌∷◌, ◌++◌, length, refl, sym, ◌∙◌, ap, arith}
use Rattle.std.proofs.Common.{append_assoc}
use Rattle.bus_schedule.specs.Schedule.{moves_of, moves_before_time, schedule}
use Rattle.bus_schedule.specs.Scheduled.{log_code, IsScheduled}
use Rattle.bus_schedule.specs.Shown.{starts_of, leaves_of}
use Rattle.bus_schedule.specs.Timetable.{Public, end_at, starts, timetable}
use Rattle.bus_schedule.proofs.ScheduleLaws.{cut-over}
use Rattle.bus_schedule.proofs.TimetableLaws.{starts-ended}
use Rattle.bus_schedule.proofs.TimetableParts.{timetable-is}
use Rattle.bus_watch.specs.Log.{LogLists}
use Rattle.bus_watch.specs.Path.{along, move_along}
use Rattle.bus_watch.specs.declared.log.Move.{Move}
use Rattle.oram_contents.specs.Contents.{Contents}
use Rattle.oram_contents.specs.Entries.{Keys}
use Rattle.oram_contents.specs.Fold.{Whole}
use Rattle.rate_enforcer.specs.Breaks.{HasWholeSlots}
use Rattle.log_replay.specs.Judged.{SaysMirror}
use Rattle.log_replay.specs.LastSlot.{EndsInMove}
use Rattle.log_replay.proofs.ReplayedLogs.{IsReplayedLog}
use Rattle.log_replay.proofs.WholeSlots.{says_buckets}

-- a log of whole slots says the buckets
pub whole_says : (keys : Keys) (stash : ℕ) (log : LogLists) (now : Contents) (dummies : ℕ)
    → IsReplayedLog keys stash log now dummies → HasWholeSlots keys.shape.levels log
    → SaysMirror keys log Whole now.mirror
whole_says keys stash log now dummies x slots =
    says_buckets keys stash log now dummies x (starts_of log.events) slots.counted slots.moves

-- all slots of a log are whole, where those that started have ended by a time
pub ended_whole : (p : Public) (end : ℕ) (log : LogLists) → IsScheduled p end log
    → end_at p (log_code p log) (length (starts_of log.events)) ≤ end → HasWholeSlots p.levels log
unfolding schedule
ended_whole p end log s over =
    let table : List ℕ = timetable p (log_code p log) end in
    let number : length table ≡ length (starts_of log.events) = ap length (sym s.starts) in
    let first : table ≡ starts p (log_code p log) (length (starts_of log.events)) =
    timetable-is p (log_code p log) end ∙ ap (starts p (log_code p log)) number in
    record {
      counted = ap length s.starts ∙ sym s.leaves;
      moves = s.moves
          ∙ ap (λ l. moves_before_time end (moves_of p.levels l (leaves_of log.events))) first
          ∙ cut-over p.levels end (starts p (log_code p log) (length (starts_of log.events))) (leaves_of log.events)
          (starts-ended p (log_code p log) (length (starts_of log.events)) end over)
          ∙ ap (λ l. moves_of p.levels l (leaves_of log.events)) (sym (s.starts ∙ first));
    }

-- moves that broke off along a path end at a level
pub ends_in : (levels first leaf level : ℕ) (write : Bool) (before : List Move) (log : LogLists)
    → log.moves ≡ before ++ along levels write first leaf (level + 1) → EndsInMove write log
unfolding along
ends_in levels first leaf level write before log moves =
    let one : level + 1 ≡ suc level = omega arith in record {
      before = before ++ along levels write first leaf level;
      last = move_along levels write first leaf level;
      are = moves ∙ ap (λ n. before ++ along levels write first leaf n) one
          ∙ sym (append_assoc before (along levels write first leaf level)
          (move_along levels write first leaf level ∷ []));
      is = refl;
    }
