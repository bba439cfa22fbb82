-- A port along a plan that asks rightly, up to a request that is stopped.
use Rattle.std.proofs.Common.{◌≡◌, ℕ, None, Some, Err, refl, sym, subst, inl, inr}
use Rattle.request_plan.specs.Plan.{Plan, Done, Ask, Stops}
use Rattle.asc_base.specs.declared.block.Message.{Message}
use Rattle.asc_base.specs.declared.stop.Stop.{Stop}
use Rattle.asc_base.specs.declared.stop.Stop.TheVariants.{NoMemory}
use Rattle.oram_contents.specs.Entries.{Keys, AreKeys}
use Rattle.oram_contents.specs.Fold.{Whole}
use Rattle.oram_frontend.specs.Access.{SlotStep}
use Rattle.oram_walk.specs.Request.{Request, Slot, Append, Answer, Room, Steps}
use Rattle.oram_walk.specs.declared.slots.Seen.{Seen}
use Rattle.rate_enforcer.specs.PortStep.{PortState}
use Rattle.log_replay.specs.Judged.{verdict_on}
use Rattle.log_replay.specs.Replayed.{StopsReplayed}
use Rattle.log_replay.proofs.Along.{put_whole, behind_refill, Stays, port_of, one_more, slot_stays, append_stays}
use Rattle.log_replay.proofs.Along.{answer_stays}
use Rattle.log_replay.proofs.Asks.{Last, IsBeside, AsksRightly}
use Rattle.log_replay.proofs.Ports.{between_replays}
use Rattle.log_replay.proofs.StopBehind.{append_stops, answer_stops}
use Rattle.log_replay.proofs.StopSlots.{slot_stops}

module _ (keys : Keys) (lawful : AreKeys keys) (levels : ℕ) where
  -- without room the port stays
  room_stops : (stash : ℕ) (last : Last) (s : PortState) → Stays keys levels stash last s
      → StopsReplayed keys stash NoMemory s
  room_stops stash last s h =
      let port = port_of keys levels last s h.stands in
      record {
        slots = record { order = port.order; done = inl port.done };
        shows = inl (subst (λ n. verdict_on keys n s.tap.log ≡ None) h.same port.right);
        end = Whole;
        ends = inl refl;
        mirror = between_replays keys lawful levels h.notes s port h.rests;
        always = port.always;
      }

  last_stops : (stash : ℕ) (last : Last) (m : Message) (stop : Stop) (s t : PortState)
      → Stays keys levels stash last s → IsBeside keys.shape.total last m
      → SlotStep keys levels s (Append m) (Err stop) t → StopsReplayed keys stash stop t
  last_stops stash None m stop s t h beside step = absurd beside
  last_stops stash (Some (access, found)) m stop s t h beside step =
      let left = one_more keys levels stash (access, found) s h in
      subst (λ n. StopsReplayed keys n stop t) h.same
      (append_stops keys levels left.0 access.address.0 found.line.0 s t
      (behind_refill keys access found s beside.0 h.stands) left.1 m stop beside.1 step)

  -- a plan that is stopped
  pub along_stops : {B A : Type 0} (stash : ℕ) (P : Last → A → Type 0) (plan : Plan Request Seen B A) (last : Last)
      (s t : PortState) (stop : Stop) (left : B) → AsksRightly keys.shape.total last P plan
      → Stays keys levels stash last s
      → Stops (Steps (SlotStep keys levels)) plan s t stop left → StopsReplayed keys stash stop t
  along_stops stash P (Done d) last s t stop left asks h stops = absurd stops
  along_stops stash P (Ask (Slot access) b k) last s t stop left asks h (inl stops) =
      subst (λ n. StopsReplayed keys n stop t) h.same
      (slot_stops keys lawful levels h.notes s t (port_of keys levels last s h.stands) h.rests access asks.0
      (put_whole access.purpose asks.1) stop stops.0)
  along_stops stash P (Ask (Append m) b k) last s t stop left asks h (inl stops) =
      last_stops stash last m stop s t h asks.0 stops.0
  along_stops stash P (Ask (Answer number value) b k) last s t stop left asks h (inl stops) =
      absurd (answer_stops keys levels number value s t stop stops.0)
  along_stops stash P (Ask Room b k) last s t stop left asks h (inl stops) =
      subst (λ (e : Stop). StopsReplayed keys stash e t) (sym stops.0.0)
      (room_stops stash last t (subst (Stays keys levels stash last) (sym stops.0.1) h))
  along_stops stash P (Ask (Slot access) b k) last s t stop left asks h (inr stops) =
      along_stops stash P (k stops.0) (Some (access, stops.0)) stops.1 t stop left (asks.2 stops.0)
      (slot_stays keys lawful levels stash last access stops.0 s stops.1 h asks.0 asks.1 stops.2) stops.3
  along_stops stash P (Ask (Append m) b k) last s t stop left asks h (inr stops) =
      along_stops stash P (k stops.0) None stops.1 t stop left (asks.1 stops.0)
      (append_stays keys lawful levels stash last m stops.0 s stops.1 h asks.0 stops.2) stops.3
  along_stops stash P (Ask (Answer number value) b k) last s t stop left asks h (inr stops) =
      along_stops stash P (k stops.0) None stops.1 t stop left (asks.1 stops.0)
      (answer_stays keys lawful levels stash last number value stops.0 s stops.1 h asks.0 stops.2) stops.3
  along_stops stash P (Ask Room b k) last s t stop left asks h (inr stops) =
      along_stops stash P (k stops.0) last stops.1 t stop left (asks stops.0)
      (subst (Stays keys levels stash last) (sym stops.2.1) h) stops.3
