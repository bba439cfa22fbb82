-- A port stays what its log says along a plan that asks rightly, where each request is answered.
use Rattle.std.proofs.Common.{◌≡◌, ◌<◌, ◌≤◌, ◌+◌, ◌-◌, ℕ, length, None, Some, Ok, sym, ap, subst, ◌∙◌, arith}
use Rattle.request_plan.specs.Plan.{Plan, Done, Ask, Ends}
use Rattle.asc_base.specs.declared.block.Line.{Line}
use Rattle.asc_base.specs.declared.block.Message.{Message}
use Rattle.oram_contents.specs.Entries.{Keys, AreKeys}
use Rattle.oram_frontend.specs.Access.{SlotStep}
use Rattle.oram_frontend.specs.Slots.{Keeps}
use Rattle.oram_frontend.proofs.SlotLaws.{served_slot, served_append, served_answer}
use Rattle.oram_walk.specs.Request.{Request, Slot, Append, Answer, Room, Steps}
use Rattle.oram_walk.specs.declared.slots.Access.{Access}
use Rattle.oram_walk.specs.declared.slots.Purpose.{Purpose}
use Rattle.oram_walk.specs.declared.slots.Purpose.TheVariants.{Refill, Keep, Replace}
use Rattle.oram_walk.specs.declared.slots.Seen.{Seen}
use Rattle.rate_enforcer.specs.PortStep.{PortState, Resting}
use Rattle.log_replay.specs.Replayed.{IsReplayedPort, IsBehindSlot}
use Rattle.log_replay.specs.Order.{put_line}
use Rattle.log_replay.proofs.Asks.{put_by, put_back, IsWhole, Last, IsBeside, IsSeen, AsksRightly}
use Rattle.log_replay.proofs.Ports.{slot_replays, append_replays, answer_replays}

-- a line that is put in the place of another has 64 bytes
pub put_whole : (purpose : Purpose) → IsWhole purpose → (value : Line) → purpose ≡ Replace value → length value.0 ≡ 64
put_whole Refill whole value is = absurd (cc)
put_whole Keep whole value is = absurd (cc)
put_whole (Replace other) whole value is =
    let same : other ≡ value = cc in
    subst (λ (l : Line). length l.0 ≡ 64) same whole

-- where a line is kept it is the one that is put back
line_back : (access : Access) (found value : Line) → access.purpose ≡ Keep → value ≡ found
    → put_line (put_back access found) ≡ Some value
line_back access found value keep is =
    ap (λ (p : Purpose). put_line (put_by access.address access.next p found)) keep ∙ ap Some (sym is)

-- behind a refill nothing was put back
pub behind_refill : (keys : Keys) (access : Access) (seen : Seen) (s : PortState) → access.purpose ≡ Refill
    → IsBehindSlot keys access.address.0 seen.line.0 (put_back access seen.line) s
    → IsBehindSlot keys access.address.0 seen.line.0 None s
behind_refill keys access seen s refill =
    subst (λ (p : Purpose). IsBehindSlot keys access.address.0 seen.line.0
    (put_by access.address access.next p seen.line) s) refill

module _ (keys : Keys) (levels : ℕ) where
  -- what a port is behind its last request: behind a slot its line was found there, and put back as was asked for
  abbrev pub StandsBehind : Last → PortState → Type 0
  StandsBehind None s = IsReplayedPort keys s
  StandsBehind (Some (access, seen)) s =
      IsBehindSlot keys access.address.0 seen.line.0 (put_back access seen.line) s

  -- how many notes are left then, at least
  abbrev pub need : Last → ℕ
  need None = 0
  need (Some behind) = 1

  -- a port along a plan
  pub record Stays (stash : ℕ) (last : Last) (s : PortState) : Type 0 where
    pub notes : ℕ
    pub enough : need last ≤ notes
    pub rests : Resting notes levels s
    pub same : s.tree.stash ≡ stash
    pub stands : StandsBehind last s

  pub port_of : (last : Last) (s : PortState) → StandsBehind last s → IsReplayedPort keys s
  port_of None s stands = stands
  port_of (Some (access, seen)) s stands = stands.port

  -- behind a slot one note more is left
  pub one_more : (stash : ℕ) (behind : Access × Seen) (s : PortState) → Stays stash (Some behind) s
      → (notes : ℕ) × Resting (notes + 1) levels s
  one_more stash behind s h =
      let few : 1 ≤ h.notes = h.enough in
      let is : h.notes ≡ (h.notes - 1) + 1 = omega (arith, few) in
      (h.notes - 1, subst (λ n. Resting n levels s) is h.rests)

module _ (keys : Keys) (lawful : AreKeys keys) (levels : ℕ) where
  -- a slot, an append and an answer
  pub slot_stays : (stash : ℕ) (last : Last) (access : Access) (seen : Seen) (s t : PortState)
      → Stays keys levels stash last s → access.address.0 < keys.shape.total → IsWhole access.purpose
      → SlotStep keys levels s (Slot access) (Ok seen) t → Stays keys levels stash (Some (access, seen)) t
  slot_stays stash last access seen s t h inside whole step =
      let port = port_of keys levels last s h.stands in
      let kept : Keeps keys levels (h.notes + 1) s t =
      (served_slot keys levels h.notes access seen s t port.fits h.rests step).1 in
      record {
        notes = kept.rests.0;
        enough = let more = kept.rests.1 in omega (arith, more);
        rests = kept.rests.2;
        same = kept.stash ∙ h.same;
        stands = slot_replays keys lawful levels h.notes access seen s t port h.rests inside
            (put_whole access.purpose whole) step;
      }

  pub append_stays : (stash : ℕ) (last : Last) (m : Message) (seen : Seen) (s t : PortState)
      → Stays keys levels stash last s → IsBeside keys.shape.total last m
      → SlotStep keys levels s (Append m) (Ok seen) t → Stays keys levels stash None t
  append_stays stash None m seen s t h beside step = absurd beside
  append_stays stash (Some (access, found)) m seen s t h beside step =
      let port = port_of keys levels (Some (access, found)) s h.stands in
      let left = one_more keys levels stash (access, found) s h in
      let kept : Keeps keys levels left.0 s t =
      (served_append keys levels left.0 m seen s t port.fits left.1 step).1 in
      record {
        notes = kept.rests.0;
        enough = omega arith;
        rests = kept.rests.2;
        same = kept.stash ∙ h.same;
        stands = append_replays keys lawful levels left.0 access.address.0 found.line.0 m seen s t
            (behind_refill keys access found s beside.0 h.stands) left.1 beside.1 beside.2 beside.3 step;
      }

  pub answer_stays : (stash : ℕ) (last : Last) (number : ℕ) (value : Line) (seen : Seen) (s t : PortState)
      → Stays keys levels stash last s → IsSeen last number value
      → SlotStep keys levels s (Answer number value) (Ok seen) t → Stays keys levels stash None t
  answer_stays stash None number value seen s t h is step = absurd is
  answer_stays stash (Some (access, found)) number value seen s t h is step =
      let port = port_of keys levels (Some (access, found)) s h.stands in
      let left = one_more keys levels stash (access, found) s h in
      let kept : Keeps keys levels left.0 s t =
      (served_answer keys levels left.0 number value seen s t port.fits left.1 step).1 in
      record {
        notes = kept.rests.0;
        enough = omega arith;
        rests = kept.rests.2;
        same = kept.stash ∙ h.same;
        stands = answer_replays keys lawful levels left.0 access.address.0 number found.line.0
            (put_back access found.line) value seen s t h.stands left.1 is.1 (ap (λ (l : Line). l.0) is.2)
            (line_back access found.line value is.0 is.2) step;
      }

  -- a plan that ends
  pub along_ends : {B A : Type 0} (stash : ℕ) (P : Last → A → Type 0) (plan : Plan Request Seen B A) (last : Last)
      (s t : PortState) (a : A) → AsksRightly keys.shape.total last P plan → Stays keys levels stash last s
      → Ends (Steps (SlotStep keys levels)) plan s t a → (now : Last) × P now a × Stays keys levels stash now t
  along_ends stash P (Done d) last s t a asks h ends =
      (last, subst (P last) (sym ends.0) asks, subst (Stays keys levels stash last) (sym ends.1) h)
  along_ends stash P (Ask (Slot access) b k) last s t a asks h ends =
      along_ends stash P (k ends.0) (Some (access, ends.0)) ends.1 t a (asks.2 ends.0)
      (slot_stays stash last access ends.0 s ends.1 h asks.0 asks.1 ends.2) ends.3
  along_ends stash P (Ask (Append m) b k) last s t a asks h ends =
      along_ends stash P (k ends.0) None ends.1 t a (asks.1 ends.0)
      (append_stays stash last m ends.0 s ends.1 h asks.0 ends.2) ends.3
  along_ends stash P (Ask (Answer number value) b k) last s t a asks h ends =
      along_ends stash P (k ends.0) None ends.1 t a (asks.1 ends.0)
      (answer_stays stash last number value ends.0 s ends.1 h asks.0 ends.2) ends.3
  along_ends stash P (Ask Room b k) last s t a asks h ends =
      along_ends stash P (k ends.0) last ends.1 t a (asks ends.0)
      (subst (Stays keys levels stash last) (sym ends.2.1) h) ends.3
