-- A port's notes as steps, and the room for them.
use Rattle.std.proofs.Common.{◌≡◌, ◌<◌, ◌+◌, ℕ, [], ◌∷◌, Option, Some, Result, Ok, Err, MatchResult, refl, sym, subst}
use Rattle.std.proofs.Common.{inl, inr, arith}
use Rattle.asc_base.specs.declared.block.Point.{Point}
use Rattle.asc_base.specs.declared.block.Entry.{Entry}
use Rattle.asc_base.specs.declared.block.Line.{Line}
use Rattle.asc_base.specs.declared.block.Message.{Message}
use Rattle.asc_base.specs.declared.stop.Stop.{Stop}
use Rattle.request_plan.specs.Plan.{Ends}
use Rattle.asc_outside.specs.Memory.{MemoryState}
use Rattle.bus_watch.specs.Log.{TapState, with_event}
use Rattle.bus_watch.specs.Made.{Made}
use Rattle.bus_watch.specs.RunEnd.{Whole}
use Rattle.bus_watch.specs.declared.log.Event.{Event}
use Rattle.bus_watch.specs.declared.log.Event.TheVariants.{Accepted, Tagged, Answered}
use Rattle.oram_contents.specs.Entries.{Keys}
use Rattle.oram_contents.specs.Fold.{tagged_entry}
use Rattle.oram_walk.specs.Request.{Append, Answer, nothing}
use Rattle.oram_walk.specs.declared.slots.Access.{Access}
use Rattle.rate_enforcer.proofs.Counted.{counted_note}
use Rattle.rate_enforcer.proofs.StateLaws.{rests_less}
use Rattle.rate_enforcer.proofs.Steps.{opens_noted, rests_noted}
use Rattle.rate_enforcer.specs.PortStep.{PortState, PortStep, IsNote, Note, Put, Join, port_of, silent}
use Rattle.rate_enforcer.specs.State.{Rests, Opens}
use Rattle.rate_enforcer.specs.declared.clock.Clock.{Clock}
use Rattle.rate_enforcer.specs.declared.port.OpenSlot.{OpenSlot}
use Rattle.unified_tree.specs.Tree.{TreeState}
use Rattle.oram_frontend.specs.Access.{accept_plan, put_plan, found_message, SlotStep}

-- room for one note is room for none
pub rests_once : {levels : ℕ} {clock : Clock} {tree : TreeState} {m : MemoryState} {t : TapState}
    → Rests 1 clock tree levels m t → Rests 0 clock tree levels m t
rests_once r = rests_less 0 (omega arith) r

-- a note is a step of the port
pub note_step : (leaf_of : Point → ℕ) (levels : ℕ) (event : Event) (clock : Clock) (tree : TreeState)
    (m m2 : MemoryState) (t t2 : TapState) → IsNote event → Made Whole [] (event ∷ []) m m2 t t2 → m2 ≡ m
    → t2.log ≡ with_event t.log event → t2.mirror ≡ t.mirror
    → PortStep leaf_of levels (port_of clock tree m t) (Note event) (Ok silent) (port_of clock tree m2 t2)
note_step leaf_of levels event clock tree m m2 t t2 note made memory log mirror = (
  refl,
  record {
    clock = refl;
    tree = refl;
    memory = memory;
    made = made;
    log = log;
    mirror = mirror;
    counts = λ counted. counted_note clock t.log t2.log event note log counted;
    in_slot = λ notes leaf o. record {
      slot = o.slot;
      opens = opens_noted event note made o.opens;
      leaf_is = o.leaf_is;
    };
    rests = λ notes r. rests_noted event note made r;
  },
)

-- an open slot has room for its choice
pub open_room : {notes levels : ℕ} {clock : Clock} {slot : OpenSlot} {tree : TreeState} {m : MemoryState} {t : TapState}
    → Opens notes clock slot tree levels m t → 0 < t.spare_events
open_room o = omega (arith, o.room.event_room)

pub rest_room : (notes : ℕ) {levels : ℕ} {clock : Clock} {tree : TreeState} {m : MemoryState} {t : TapState}
    → Rests (notes + 1) clock tree levels m t → 0 < t.spare_events
rest_room notes r = omega (arith, r.room.event_room)

-- what was found is noted as accepted
pub accept_some : (leaf_of : Point → ℕ) (levels : ℕ) (clock : Clock) (tree : TreeState) (access : Access)
    (found : Option Entry) (entry : Entry) (message : Message) (m m2 : MemoryState) (t t2 : TapState)
    → found ≡ Some entry → message ≡ found_message access entry.line
    → Made Whole [] (Accepted message entry.tag ∷ []) m m2 t t2 → m2 ≡ m
    → t2.log ≡ with_event t.log (Accepted message entry.tag) → t2.mirror ≡ t.mirror
    → Ends (PortStep leaf_of levels) (accept_plan access found) (port_of clock tree m t) (port_of clock tree m2 t2) tt
accept_some leaf_of levels clock tree access found entry message m m2 t t2 is text made memory log mirror =
    subst (λ f. Ends (PortStep leaf_of levels) (accept_plan access f) (port_of clock tree m t)
    (port_of clock tree m2 t2) tt)
    (sym is) (
      silent,
      port_of clock tree m2 t2,
      subst (λ x. PortStep leaf_of levels (port_of clock tree m t) (Note (Accepted x entry.tag)) (Ok silent)
          (port_of clock tree m2 t2)) text
          (note_step leaf_of levels (Accepted message entry.tag) clock tree m m2 t t2 tt made memory log mirror),
      (refl, refl),
    )

-- a message is noted as tagged, and its entry put back
pub put_done : (keys : Keys) (levels : ℕ) (clock : Clock) (tree : TreeState) (message : Message) (entry : Entry)
    (s : PortState) (m m2 : MemoryState) (t t2 : TapState) → entry ≡ tagged_entry keys message
    → Made Whole [] (Tagged message ∷ []) m m2 t t2 → m2 ≡ m
    → t2.log ≡ with_event t.log (Tagged message) → t2.mirror ≡ t.mirror
    → PortStep keys.leaf_of levels (port_of clock tree m2 t2) (Put entry) (Ok silent) s
    → Ends (PortStep keys.leaf_of levels) (put_plan keys message) (port_of clock tree m t) s tt
put_done keys levels clock tree message entry s m m2 t t2 is made memory log mirror put = (
  silent,
  port_of clock tree m2 t2,
  note_step keys.leaf_of levels (Tagged message) clock tree m m2 t t2 tt made memory log mirror,
  (
    silent,
    s,
    subst (λ e. PortStep keys.leaf_of levels (port_of clock tree m2 t2) (Put e) (Ok silent) s) is put,
    (refl, refl),
  ),
)

-- a message is noted as tagged, and its entry joins between slots, or is refused
pub joined : (keys : Keys) (levels : ℕ) (clock : Clock) (tree : TreeState) (message : Message) (entry : Entry)
    (s : PortState) (m m2 : MemoryState) (t t2 : TapState) (result : Result (Unit {0}) Stop)
    → entry ≡ tagged_entry keys message
    → Made Whole [] (Tagged message ∷ []) m m2 t t2 → m2 ≡ m
    → t2.log ≡ with_event t.log (Tagged message) → t2.mirror ≡ t.mirror
    → MatchResult result
    (λ _. PortStep keys.leaf_of levels (port_of clock tree m2 t2) (Join entry) (Ok silent) s)
    (λ stop. PortStep keys.leaf_of levels (port_of clock tree m2 t2) (Join entry) (Err stop) s)
    → MatchResult result (λ _. SlotStep keys levels (port_of clock tree m t) (Append message) (Ok nothing) s)
    (λ stop. SlotStep keys levels (port_of clock tree m t) (Append message) (Err stop) s)
joined keys levels clock tree message entry s m m2 t t2 (Ok _) is made memory log mirror join = (
  silent,
  port_of clock tree m2 t2,
  note_step keys.leaf_of levels (Tagged message) clock tree m m2 t t2 tt made memory log mirror,
  (
    silent,
    s,
    subst (λ e. PortStep keys.leaf_of levels (port_of clock tree m2 t2) (Join e) (Ok silent) s) is join,
    (refl, refl),
  ),
)
joined keys levels clock tree message entry s m m2 t t2 (Err stop) is made memory log mirror join = inr (inr (
  silent,
  port_of clock tree m2 t2,
  note_step keys.leaf_of levels (Tagged message) clock tree m m2 t t2 tt made memory log mirror,
  inl (subst (λ e. PortStep keys.leaf_of levels (port_of clock tree m2 t2) (Join e) (Err stop) s) is join, refl),
))

-- a line is noted as answered
pub answered : (keys : Keys) (levels : ℕ) (clock : Clock) (tree : TreeState) (line : ℕ) (value : Line)
    (m m2 : MemoryState) (t t2 : TapState)
    → Made Whole [] (Answered line value ∷ []) m m2 t t2 → m2 ≡ m
    → t2.log ≡ with_event t.log (Answered line value) → t2.mirror ≡ t.mirror
    → SlotStep keys levels (port_of clock tree m t) (Answer line value) (Ok nothing) (port_of clock tree m2 t2)
answered keys levels clock tree line value m m2 t t2 made memory log mirror = (
  silent,
  port_of clock tree m2 t2,
  note_step keys.leaf_of levels (Answered line value) clock tree m m2 t t2 tt made memory log mirror,
  (refl, refl),
)
