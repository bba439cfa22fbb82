-- The seeds that a log's writes used up: those of each path that was drawn and closed, bucket by bucket.
use Rattle.std.proofs.Common.{◌≡◌, ◌<◌, ◌≤◌, ◌+◌, ◌*◌, ◌^◌, ℕ, Bool, true, false, if◌then◌else◌, List, [], ◌∷◌, length}
use Rattle.std.proofs.Common.{Option, None, Some, refl, sym, ◌∙◌, ap, arith, length-append}
use Rattle.std.proofs.lemmas.Nat.{mul-le}
use Rattle.asc_base.specs.TreeShape.{olat_of}
use Rattle.asc_base.specs.declared.block.Point.{Point}
use Rattle.bus_schedule.specs.Scheduled.{log_code, IsScheduled}
use Rattle.bus_schedule.specs.Shown.{leaf_of, leaves_of}
use Rattle.bus_schedule.specs.Timetable.{Public, timetable}
use Rattle.bus_schedule.proofs.TimetableParts.{timetable-few}
use Rattle.bus_watch.specs.Log.{LogLists}
use Rattle.bus_watch.specs.declared.log.Altered.{Altered}
use Rattle.bus_watch.specs.declared.log.Event.{Event}
use Rattle.bus_watch.specs.declared.log.Event.TheVariants.{Access, Drawn, Accepted, Tagged, Chosen, Answered}
use Rattle.oram_contents.specs.Contents.{Contents}
use Rattle.oram_contents.specs.Entries.{Keys}
use Rattle.oram_contents.specs.Fold.{Fold, settled, settle, is_open_for, after_event, fold_events, whole}
use Rattle.oram_contents.specs.Slots.{HasSeeds}
use Rattle.oram_contents.specs.Starts.{first_fold}

module _ (keys : Keys) where
  abbrev path_seeds : ℕ
  path_seeds = keys.shape.levels + 1

  -- the seeds that the write of an open path will use up
  abbrev open_seeds : Option (Point × ℕ) → ℕ
  open_seeds None = 0
  open_seeds (Some path) = path_seeds

  settled_seeds : (path : Option (Point × ℕ)) (now : Contents)
      → (settled keys path now).seed ≡ now.seed + open_seeds path
  settled_seeds None now = omega arith
  settled_seeds (Some (p, x)) now = refl

  kept_seeds : (b : Bool) (f : Fold)
      → (if b then f else settle keys f).now.seed + open_seeds (if b then f else settle keys f).path
      ≡ f.now.seed + open_seeds f.path
  kept_seeds true f = refl
  kept_seeds false f = omega (arith, settled_seeds f.path f.now)

  event_seeds : (altered : List Altered) (n : ℕ) (e : Event) (f : Fold)
      → (after_event keys altered n e f).now.seed + open_seeds (after_event keys altered n e f).path
      ≡ f.now.seed + open_seeds f.path + length (leaf_of e) * path_seeds
  event_seeds altered n (Access start asked) f = omega (arith, settled_seeds f.path f.now)
  event_seeds altered n (Drawn p x) f = omega (arith, settled_seeds f.path f.now)
  event_seeds altered n (Accepted m found) f = omega arith
  event_seeds altered n (Tagged m) f = omega (arith, kept_seeds (is_open_for m f.path) f)
  event_seeds altered n (Chosen index) f = omega (arith, settled_seeds f.path f.now)
  event_seeds altered n (Answered line value) f = omega (arith, settled_seeds f.path f.now)

  fold_seeds : (altered : List Altered) (n : ℕ) (events : List Event) (f : Fold)
      → (fold_events keys altered n events f).now.seed + open_seeds (fold_events keys altered n events f).path
      ≡ f.now.seed + open_seeds f.path + length (leaves_of events) * path_seeds
  fold_seeds altered n [] f = omega arith
  fold_seeds altered n (e ∷ events) f =
      both path_seeds (length (leaf_of e)) (length (leaves_of events)) _ _ _ (event_seeds altered n e f)
      (fold_seeds altered (n + 1) events (after_event keys altered n e f))
      ∙ ap (λ k. f.now.seed + open_seeds f.path + k * path_seeds)
      (sym (length-append (leaf_of e) (leaves_of events)))
    where
      both : (each one more old mid new : ℕ) → mid ≡ old + one * each → new ≡ mid + more * each
          → new ≡ old + (one + more) * each
      both each one more old mid new first then_is = omega (arith, first, then_is)

  -- A log of whole slots used up a seed for each bucket of each path.
  pub whole_seeds : (log : LogLists)
      → (whole keys (first_fold keys) log).seed ≡ 1 + length (leaves_of log.events) * path_seeds
  whole_seeds log =
      let f : Fold = fold_events keys log.altered 0 log.events (first_fold keys) in
      settled_seeds f.path f.now ∙ fold_seeds log.altered 0 log.events (first_fold keys) ∙ omega arith

-- Where a log is scheduled up to a time that isn't late, a log with no more slots leaves seeds for a path.
pub seeds_left : (keys : Keys) (p : Public) (end : ℕ) (old new : LogLists) → p.levels ≡ keys.shape.levels
    → end + olat_of p.levels < 2 ^ 62 → length (leaves_of old.events) ≤ length (leaves_of new.events)
    → IsScheduled p end new → HasSeeds (whole keys (first_fold keys) old)
seeds_left keys p end old new deep late fewer s =
    let used = whole_seeds keys old in
    let all = timetable-few p (log_code p new) end in
    let most = mul-le (length (leaves_of old.events)) (keys.shape.levels + 1)
    (length (timetable p (log_code p new) end)) (olat_of p.levels) (omega (arith, fewer, s.leaves))
    (omega (arith, deep)) in
    omega (arith, used, all, most, late)
