-- An encrypted memory stays what its log says, request by request.
use Rattle.std.proofs.Common.{◌≡◌, ◌<◌, ℕ, length, None, Ok, Err, refl, sym, ap, subst, inl, inr}
use Rattle.std.proofs.Common.{◌≤◌, ◌∙◌, arith}
use Rattle.asc_base.specs.declared.shape.Shape.{Shape}
use Rattle.asc_base.specs.Settings.{IsConfig}
use Rattle.asc_base.specs.declared.block.Line.{Line}
use Rattle.asc_base.specs.declared.settings.Config.{Config}
use Rattle.asc_base.specs.declared.stop.Stop.{Stop}
use Rattle.asc_base.proofs.Lookups.{none_is_not}
use Rattle.oram_contents.specs.Entries.{Keys, AreKeys}
use Rattle.oram_contents.specs.Fold.{Whole}
use Rattle.oram_frontend.specs.Oram.{OramState, OramRequest, Fetch, Store, Wait, OramStep, Told}
use Rattle.oram_lines.specs.Lines.{IsNew, IsRequest}
use Rattle.oram_walk.specs.Front.{FrontState, IsFront}
use Rattle.oram_walk.specs.Plans.{fetch_plan, store_plan}
use Rattle.oram_walk.proofs.Fronts.{first_is}
use Rattle.rate_enforcer.specs.PortStep.{Resting}
use Rattle.log_replay.specs.Judged.{SaysMirror}
use Rattle.log_replay.specs.Replayed.{IsReplayed, StopsReplayed}
use Rattle.log_replay.proofs.Asks.{Last, AsksRightly}
use Rattle.log_replay.proofs.Along.{Stays, port_of, along_ends}
use Rattle.log_replay.proofs.AlongStops.{along_stops}
use Rattle.log_replay.proofs.FrontAsks.{AtAny, fetch_asks, store_asks}
use Rattle.log_replay.proofs.PortStarts.{start_replays}
use Rattle.log_replay.proofs.Ports.{wait_replays, between_replays}
use Rattle.log_replay.proofs.StopPorts.{wait_stops}

module _ (keys : Keys) (lawful : AreKeys keys) (levels : ℕ) where
  -- the plans of a front end of the keys' shape
  fetch_so : (old : OramState) (asked line : ℕ) → IsReplayed keys old → line < keys.shape.lines
      → AsksRightly keys.shape.total None (AtAny keys.shape) (fetch_plan old.front asked line)
  fetch_so old asked line h below =
      subst (λ (shape : Shape). AsksRightly shape.total None (AtAny shape) (fetch_plan old.front asked line)) h.shape
      (fetch_asks old.front asked line None h.front (omega (arith, ap (λ (s : Shape). s.lines) h.shape, below)))

  store_so : (old : OramState) (asked line : ℕ) (value : Line) → IsReplayed keys old → line < keys.shape.lines
      → length value.0 ≡ 64
      → AsksRightly keys.shape.total None (AtAny keys.shape) (store_plan old.front asked line value)
  store_so old asked line value h below long =
      subst (λ (shape : Shape). AsksRightly shape.total None (AtAny shape) (store_plan old.front asked line value))
      h.shape
      (store_asks old.front asked line value None h.front
      (omega (arith, ap (λ (s : Shape). s.lines) h.shape, below)) long)

  -- a port between two requests
  stays_first : (old : OramState) → IsReplayed keys old → Resting 0 levels old.port
      → Stays keys levels old.port.tree.stash None old.port
  stays_first old h rests =
      record { notes = 0; enough = omega arith; rests = rests; same = refl; stands = h.port }

  -- what a plan leaves that ends
  replayed : {A : Type 0} (new : OramState) (a : A) (last : Last) (stash : ℕ)
      → AtAny keys.shape last (new.front, a) → Stays keys levels stash last new.port
      → IsReplayed keys new
  replayed new a last stash of_shape stays = record {
    front = of_shape.front;
    shape = of_shape.same;
    room = of_shape.front.whole.some;
    port = port_of keys levels last new.port stays.stands;
  }

  -- between two requests the log says the buckets
  pub between_requests : (o : OramState) → IsReplayed keys o → Resting 0 levels o.port
      → SaysMirror keys o.port.tap.log Whole o.port.tap.mirror
  between_requests o h rests = between_replays keys lawful levels 0 o.port h.port rests

  -- an encrypted memory that was just made
  pub new_replayed : (config : Config) (o : OramState) → IsConfig config → IsNew keys config levels o
      → IsReplayed keys o
  new_replayed config o is_config is =
      let front : IsFront o.front = subst IsFront (sym is.front) (first_is config is_config) in
      record {
        front = front;
        shape = ap (λ (f : FrontState). f.shape) is.front ∙ is.shape;
        room = front.whole.some;
        port = start_replays keys config levels o is;
      }

  -- an answered request
  pub request_replayed : (old new : OramState) (request : OramRequest) (told : Told) → IsReplayed keys old
      → Resting 0 levels old.port → IsRequest keys.shape.lines request
      → OramStep keys levels old request (Ok told) new → IsReplayed keys new
  request_replayed old new (Fetch asked line) told h rests is step =
      let end = along_ends keys lawful levels old.port.tree.stash (AtAny keys.shape)
      (fetch_plan old.front asked line) None old.port new.port (new.front, step.1) (fetch_so old asked line h is)
      (stays_first old h rests) step.3 in
      replayed new step.1 end.0 old.port.tree.stash end.1 end.2
  request_replayed old new (Store asked line value) told h rests is step =
      let end = along_ends keys lawful levels old.port.tree.stash (AtAny keys.shape)
      (store_plan old.front asked line value) None old.port new.port (new.front, told.end)
      (store_so old asked line value h is.0 is.1) (stays_first old h rests) step.2 in
      replayed new told.end end.0 old.port.tree.stash end.1 end.2
  request_replayed old new (Wait time) told h rests is step = record {
    front = subst IsFront (sym step.2) h.front;
    shape = ap (λ (f : FrontState). f.shape) step.2 ∙ h.shape;
    room = subst (λ (f : FrontState). 1 ≤ f.plb) (sym step.2) h.room;
    port = wait_replays keys lawful levels 0 time _ old.port new.port h.port rests step.3;
  }

  -- a stopped one
  pub request_stops : (old new : OramState) (request : OramRequest) (stop : Stop) → IsReplayed keys old
      → Resting 0 levels old.port → old.stop ≡ None → IsRequest keys.shape.lines request
      → OramStep keys levels old request (Err stop) new → StopsReplayed keys old.port.tree.stash stop new.port
  request_stops old new (Fetch asked line) stop h rests going is (inl had) = absurd (none_is_not (sym going ∙ had.0))
  request_stops old new (Fetch asked line) stop h rests going is (inr step) =
      along_stops keys lawful levels old.port.tree.stash (AtAny keys.shape) (fetch_plan old.front asked line)
      None old.port new.port stop new.front (fetch_so old asked line h is) (stays_first old h rests) step.1
  request_stops old new (Store asked line value) stop h rests going is (inl had) =
      absurd (none_is_not (sym going ∙ had.0))
  request_stops old new (Store asked line value) stop h rests going is (inr step) =
      along_stops keys lawful levels old.port.tree.stash (AtAny keys.shape)
      (store_plan old.front asked line value) None old.port new.port stop new.front
      (store_so old asked line value h is.0 is.1) (stays_first old h rests) step.1
  request_stops old new (Wait time) stop h rests going is (inl had) = absurd (none_is_not (sym going ∙ had.0))
  request_stops old new (Wait time) stop h rests going is (inr step) =
      wait_stops keys lawful levels 0 old.port new.port h.port rests time stop step.2
