-- Between two slots the moves of a log are those of whole slots.
use Rattle.std.proofs.Common.{ℕ, length, sym, ap, ◌∙◌, subst}
use Rattle.asc_base.specs.declared.shape.Shape.{Shape}
use Rattle.asc_outside.specs.Memory.{MemoryState}
use Rattle.bus_schedule.specs.Schedule.{moves_of}
use Rattle.bus_schedule.specs.Scheduled.{log_code, Between}
use Rattle.bus_schedule.specs.Shown.{leaves_of}
use Rattle.bus_schedule.specs.Timetable.{Public, public_of}
use Rattle.bus_schedule.proofs.TimetableLaws.{length-starts}
use Rattle.bus_watch.specs.Log.{LogLists, TapState}
use Rattle.unified_tree.specs.Tree.{TreeState}
use Rattle.rate_enforcer.specs.Breaks.{HasWholeSlots}
use Rattle.rate_enforcer.specs.State.{Rests}
use Rattle.rate_enforcer.specs.declared.clock.Clock.{Clock}

-- where so many slots of a timetable were done
between_whole : (p : Public) (n : ℕ) (log : LogLists) → Between p n log → HasWholeSlots p.levels log
between_whole p n log b = record {
  counted = ap length b.begun ∙ length-starts p (log_code p log) n ∙ sym b.leaves;
  moves = b.moves ∙ ap (λ s. moves_of p.levels s (leaves_of log.events)) (sym b.begun);
}

-- where a port stood
pub rests_whole : {notes levels : ℕ} {clock : Clock} {tree : TreeState} {m : MemoryState} {t : TapState}
    → Rests notes clock tree levels m t → HasWholeSlots tree.shape.levels t.log
rests_whole {clock = clock} {t = t} r =
    subst (λ (s : Shape). HasWholeSlots s.levels t.log) (sym r.is_for.shape)
    (between_whole (public_of clock.config) r.done t.log r.stands.between)
