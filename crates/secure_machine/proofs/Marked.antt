-- Plans of requests for lines of which a stop says nothing.
use Rattle.std.proofs.Common.{◌≡◌, ℕ, List, Some, IsSome, is_some, Result, ap, subst, inl, inr}
use Rattle.request_plan.specs.Plan.{Plan, Done, Ask, Ends, Stops}
use Rattle.asc_base.specs.declared.block.Point.{Point}
use Rattle.asc_base.specs.declared.stop.Stop.{Stop}
use Rattle.asc_outside.specs.Memory.{MemoryState}
use Rattle.bus_watch.specs.Log.{TapState}
use Rattle.data_cache.specs.Lines.{LineRequest}
use Rattle.secure_machine.specs.Marked.{MarkedStep}
use Rattle.secure_machine.specs.Same.{IsSameLines, timed_of, keys_in}
use Rattle.secure_machine.specs.declared.lines.Stopped.{Stopped}
use Rattle.secure_machine.specs.declared.lines.TimedLines.{TimedLines}
use Rattle.secure_machine.proofs.LineChains.{LinesStep}

module _ {M W L : Type 0} (memory_of : M → MemoryState) (tap_of : W → TapState) (leaf_of : L → Point → ℕ)
    (levels_of : L → ℕ) where
  abbrev MarkedLines : TimedLines M W L → LineRequest → Result (List ℕ) Stopped → TimedLines M W L → Type 0
  MarkedLines s request answer t = IsSameLines s t
      × MarkedStep (keys_in leaf_of s) (levels_of s.oram.now.port.leaves) s.count (timed_of memory_of tap_of s) request
      answer (timed_of memory_of tap_of t)

  -- a plan that ends by such steps ends by those that tell why they are stopped
  pub unmarked : {B A : Type 0} (plan : Plan LineRequest (List ℕ) B A) (s t : TimedLines M W L) (outcome : A)
      → Ends MarkedLines plan s t outcome → Ends (LinesStep memory_of tap_of leaf_of levels_of) plan s t outcome
  unmarked (Done a) s t outcome ends = ends
  unmarked (Ask q b k) s t outcome ends =
      (ends.0, ends.1, ends.2, unmarked (k (ends.0)) (ends.1) t outcome (ends.3))

  -- where it is stopped, a stop is kept, and those tell it
  pub kept_stop : {B A : Type 0} (plan : Plan LineRequest (List ℕ) B A) (s t : TimedLines M W L) (mark : Stopped)
      (left : B) → Stops MarkedLines plan s t mark left
      → (stop : Stop) × (t.oram.now.stop ≡ Some stop)
      × Stops (LinesStep memory_of tap_of leaf_of levels_of) plan s t stop left
  kept_stop (Done a) s t mark left stops = absurd stops
  kept_stop (Ask q b k) s t mark left (inl stops) =
      let (same, (stop, is, one)) = stops.0 in (stop, is, inl ((same, one), stops.1))
  kept_stop (Ask q b k) s t mark left (inr stops) =
      let (stop, is, rest) = kept_stop (k (stops.0)) (stops.1) t mark left (stops.3) in
      (stop, is, inr (stops.0, stops.1, stops.2, rest))

  pub is_kept : {B A : Type 0} (plan : Plan LineRequest (List ℕ) B A) (s t : TimedLines M W L) (mark : Stopped)
      (left : B) → Stops MarkedLines plan s t mark left → IsSome t.oram.now.stop
  is_kept plan s t mark left stops = ap is_some (kept_stop plan s t mark left stops).1

  -- which is whichever is read there
  pub stopped_with : {B A : Type 0} (plan : Plan LineRequest (List ℕ) B A) (s t : TimedLines M W L) (mark : Stopped)
      (left : B) (stop : Stop) → t.oram.now.stop ≡ Some stop → Stops MarkedLines plan s t mark left
      → Stops (LinesStep memory_of tap_of leaf_of levels_of) plan s t stop left
  stopped_with plan s t mark left stop is stops =
      let (kept, was, by) = kept_stop plan s t mark left stops in
      let same : kept ≡ stop = cc in
      subst (λ one. Stops (LinesStep memory_of tap_of leaf_of levels_of) plan s t one left) same by
