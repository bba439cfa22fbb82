-- A bus that was prepared.
use Rattle.std.proofs.Common.{◌≡◌, ◌+◌, ◌*◌, ◌^◌, ◌≤◌, ℕ, List, [], Option, None, Some, Result, Ok, sym, ◌∙◌, ap, arith}
use Rattle.std.proofs.Common.{option_map, length}
use Rattle.std.proofs.lemmas.List.{length-replicate}
use Rattle.asc_outside.specs.Memory.{MemoryState, zero_bucket, zero_buckets}
use Rattle.bus_watch.specs.declared.bus.BusStop.{BusStop}
use Rattle.bus_watch.specs.Honest.{TellsMirror}
use Rattle.bus_watch.specs.Log.{TapState}
use Rattle.bus_watch.specs.Prepared.{IsPrepared}
use Rattle.bus_watch.specs.Ready.{IsReady}
use Rattle.bus_watch.specs.Tied.{Tied}
use Rattle.bus_watch.proofs.TiedLaws.{tied_prepared}

module _ {m m' : MemoryState} {t t' : TapState} (buckets levels accesses : ℕ) where
  pub prepared_ready : IsPrepared (Ok tt) buckets levels accesses m m' t t'
      → m.moved + 2 * (levels + 1) * accesses ≤ 2 ^ 63
      → IsReady buckets (2 * (levels + 1) * accesses) (6 * accesses) m' t'
  prepared_ready prepared few = record {
    prepared = prepared.count;
    mirrored = ap length prepared.by_answer.mirror ∙ length-replicate buckets zero_bucket;
    asked = omega (arith, prepared.moved, few);
    room = prepared.by_answer.moves;
    event_room = prepared.by_answer.events;
  }

  pub prepared_tells : (all : List (List ℕ)) → IsPrepared (Ok tt) buckets levels accesses m m' t t'
      → m'.told ≡ Some all → TellsMirror m' t'
  prepared_tells all prepared tells = among m.told prepared.by_answer.told ∙ ap Some (sym prepared.by_answer.mirror)
    where
      among : (o : Option (List (List ℕ))) → m'.told ≡ option_map (λ _. zero_buckets buckets) o
          → m'.told ≡ Some (zero_buckets buckets)
      among None is = cc
      among (Some old) is = is

  pub prepared_ties : (result : Result (Unit {0}) BusStop) (start : MemoryState) (before : List (List ℕ))
      → t.log.moves ≡ [] → Tied start before m t → IsPrepared result buckets levels accesses m m' t t'
      → Tied start t'.mirror m' t'
  prepared_ties result start before none tied prepared =
      tied_prepared start m m' before t t' none tied prepared.seen prepared.said prepared.log
