-- What was waited for slots, by a log and by the slots whose events it says.
use Rattle.std.proofs.Common.{◌≡◌, ◌≤◌, ℕ, ◌+◌, ◌-◌, List, [], ◌∷◌, ◌++◌, Option, Some, None, refl, sym, ap, ◌∙◌, arith}
use Rattle.std.specs.List.{flat_map, sum_by}
use Rattle.std.proofs.lemmas.List.Sums.{sum_by-cons, sum_by-append}
use Rattle.asc_base.specs.TreeShape.{olat_of}
use Rattle.asc_base.specs.declared.block.Message.{Message}
use Rattle.bus_watch.specs.Log.{LogLists}
use Rattle.bus_watch.specs.declared.log.Event.{Event}
use Rattle.bus_watch.specs.declared.log.Event.TheVariants.{Access, Drawn, Tagged, Accepted, Chosen, Answered}
use Rattle.run_play.specs.PlayEvents.{PlayEvent, Starts, Draws, Tags, Chooses, said_of, said_of_all, tags_of}
use Rattle.run_play.specs.PlayEvents.{chooses_of, slot_events, play_events}
use Rattle.run_play.specs.Slots.{Slot}
use Rattle.play_run.specs.Spent.{wait_of, waits}

-- how long a slot is waited for, by what is said of its start, and by the slot itself
abbrev said_wait : ℕ → PlayEvent → ℕ
said_wait olat (Starts start None) = 0
said_wait olat (Starts start (Some asked)) = start + olat - asked
said_wait olat (Draws point) = 0
said_wait olat (Tags message) = 0
said_wait olat (Chooses index) = 0

abbrev pub slot_wait : ℕ → Slot → ℕ
slot_wait olat slot = said_wait olat (Starts slot.start slot.asked)

abbrev pub slots_wait : ℕ → List Slot → ℕ
slots_wait olat slots = sum_by (slot_wait olat) slots

-- ---- of one event and of one slot
event-wait : (olat : ℕ) (event : Event) → sum_by (said_wait olat) (said_of event) ≡ wait_of olat event
event-wait olat (Access start None) = refl
event-wait olat (Access start (Some asked)) = omega arith
event-wait olat (Drawn point leaf) = refl
event-wait olat (Tagged message) = refl
event-wait olat (Accepted message tag) = refl
event-wait olat (Chosen index) = refl
event-wait olat (Answered line value) = refl

no-wait : (olat : ℕ) (put : Option Message) (chosen : Option ℕ) (appended : Option Message)
    → sum_by (said_wait olat) (tags_of put ++ chooses_of chosen ++ tags_of appended) ≡ 0
no-wait olat None None None = refl
no-wait olat None None (Some appended) = refl
no-wait olat None (Some index) None = refl
no-wait olat None (Some index) (Some appended) = refl
no-wait olat (Some put) None None = refl
no-wait olat (Some put) None (Some appended) = refl
no-wait olat (Some put) (Some index) None = refl
no-wait olat (Some put) (Some index) (Some appended) = refl

slot-said : (olat : ℕ) (slot : Slot) → sum_by (said_wait olat) (slot_events slot) ≡ slot_wait olat slot
slot-said olat slot =
    let rest : List PlayEvent = tags_of slot.put ++ chooses_of slot.chosen ++ tags_of slot.appended in
    sum_by-cons (said_wait olat) (Starts slot.start slot.asked) (Draws slot.point ∷ rest)
    ∙ ap (λ n. slot_wait olat slot + n)
    (sum_by-cons (said_wait olat) (Draws slot.point) rest
    ∙ ap (λ n. said_wait olat (Draws slot.point) + n) (no-wait olat slot.put slot.chosen slot.appended))
    ∙ (let e : slot_wait olat slot + 0 ≡ slot_wait olat slot = omega arith in e)

-- ---- of many
flat-sum : {X Y : Type 0} (f : Y → ℕ) (g : X → List Y) (h : X → ℕ) → ((x : X) → sum_by f (g x) ≡ h x) → (xs : List X)
    → sum_by f (flat_map g xs) ≡ sum_by h xs
flat-sum f g h each [] = refl
flat-sum f g h each (x ∷ xs) =
    sum_by-append f (g x) (flat_map g xs)
    ∙ ap (λ n. n + sum_by f (flat_map g xs)) (each x)
    ∙ ap (λ n. h x + n) (flat-sum f g h each xs)
    ∙ sym (sum_by-cons h x xs)

-- A log that says the events of slots notes what is waited for them.
pub waits-said : (levels : ℕ) (log : LogLists) (slots : List Slot) → said_of_all log.events ≡ play_events slots
    → waits levels log ≡ slots_wait (olat_of levels) slots
waits-said levels log slots is =
    let olat : ℕ = olat_of levels in
    sym (flat-sum (said_wait olat) said_of (wait_of olat) (event-wait olat) log.events)
    ∙ ap (sum_by (said_wait olat)) is
    ∙ flat-sum (said_wait olat) slot_events (slot_wait olat) (slot-said olat) slots

-- With slots more it notes what is waited for these besides.
pub waits-more : (levels : ℕ) (old new : LogLists) (slots more : List Slot)
    → said_of_all old.events ≡ play_events slots → said_of_all new.events ≡ play_events (slots ++ more)
    → waits levels new ≡ waits levels old + slots_wait (olat_of levels) more
waits-more levels old new slots more before after =
    waits-said levels new (slots ++ more) after
    ∙ sum_by-append (slot_wait (olat_of levels)) slots more
    ∙ ap (λ n. n + slots_wait (olat_of levels) more) (sym (waits-said levels old slots before))

-- ---- events more
pub waits-events : (levels : ℕ) (old new : LogLists) (events : List Event) → new.events ≡ old.events ++ events
    → waits levels new ≡ waits levels old + sum_by (wait_of (olat_of levels)) events
waits-events levels old new events is =
    ap (sum_by (wait_of (olat_of levels))) is ∙ sum_by-append (wait_of (olat_of levels)) old.events events

pub waits-grow : (levels : ℕ) (old new : LogLists) (events : List Event) → new.events ≡ old.events ++ events
    → waits levels old ≤ waits levels new
waits-grow levels old new events is = let more = waits-events levels old new events is in omega (arith, more)
