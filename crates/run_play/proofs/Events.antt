-- What the events of a log say of the slots of a play.
use Rattle.std.proofs.Common.{◌≡◌, ℕ, ◌+◌, List, [], ◌∷◌, ◌++◌, Option, Some, None, refl, sym, ap, ◌∙◌}
use Rattle.std.specs.Prelude.{option_to_list}
use Rattle.std.specs.List.{flat_map}
use Rattle.std.proofs.lemmas.List.Concat.{flat_map-append}
use Rattle.asc_base.specs.declared.block.Message.{Message}
use Rattle.bus_schedule.specs.Shown.{start_of, index_of, starts_of, indices_of}
use Rattle.bus_watch.specs.declared.log.Event.{Event}
use Rattle.bus_watch.specs.declared.log.Event.TheVariants.{Access, Drawn, Tagged, Accepted, Chosen, Answered}
use Rattle.asc_base.specs.TreeShape.{olat_of}
use Rattle.bus_schedule.specs.Timetable.{Public}
use Rattle.epoch_learner.specs.Heard.{Heard, nothing_heard, with_access, with_choice, hears, heard_of, told_by}
use Rattle.run_play.specs.OnTime.{heard_slot, heard_slots, heard_in}
use Rattle.run_play.specs.Slots.{Slot, heard_then}
use Rattle.run_play.specs.PlayEvents.{PlayEvent, Starts, Draws, Tags, Chooses, said_of, said_of_all, tags_of}
use Rattle.run_play.specs.PlayEvents.{chooses_of, slot_events, play_events, starts_in, indices_in}

-- the start and the index that an event of a play says
abbrev start_said : PlayEvent → List ℕ
start_said (Starts start asked) = start ∷ []
start_said (Draws point) = []
start_said (Tags message) = []
start_said (Chooses index) = []

abbrev index_said : PlayEvent → List ℕ
index_said (Starts start asked) = []
index_said (Draws point) = []
index_said (Tags message) = []
index_said (Chooses index) = index ∷ []

start-said : (event : Event) → flat_map start_said (said_of event) ≡ start_of event
start-said (Access start asked) = refl
start-said (Drawn point leaf) = refl
start-said (Tagged message) = refl
start-said (Accepted message tag) = refl
start-said (Chosen index) = refl
start-said (Answered line value) = refl

index-said : (event : Event) → flat_map index_said (said_of event) ≡ index_of event
index-said (Access start asked) = refl
index-said (Drawn point leaf) = refl
index-said (Tagged message) = refl
index-said (Accepted message tag) = refl
index-said (Chosen index) = refl
index-said (Answered line value) = refl

-- what is said of all
all-said : {X Y : Type 0} (f : Y → List ℕ) (g : X → List Y) (h : X → List ℕ)
    → ((x : X) → flat_map f (g x) ≡ h x) → (xs : List X) → flat_map f (flat_map g xs) ≡ flat_map h xs
all-said f g h each [] = refl
all-said f g h each (x ∷ xs) =
    flat_map-append f (g x) (flat_map g xs)
    ∙ ap (λ l. l ++ flat_map f (flat_map g xs)) (each x)
    ∙ ap (λ l. h x ++ l) (all-said f g h each xs)

-- of a slot's messages and its choice
no-start : (put : Option Message) (chosen : Option ℕ) (appended : Option Message)
    → flat_map start_said (tags_of put ++ chooses_of chosen ++ tags_of appended) ≡ []
no-start None None None = refl
no-start None None (Some appended) = refl
no-start None (Some index) None = refl
no-start None (Some index) (Some appended) = refl
no-start (Some put) None None = refl
no-start (Some put) None (Some appended) = refl
no-start (Some put) (Some index) None = refl
no-start (Some put) (Some index) (Some appended) = refl

its-index : (put : Option Message) (chosen : Option ℕ) (appended : Option Message)
    → flat_map index_said (tags_of put ++ chooses_of chosen ++ tags_of appended) ≡ option_to_list chosen
its-index None None None = refl
its-index None None (Some appended) = refl
its-index None (Some index) None = refl
its-index None (Some index) (Some appended) = refl
its-index (Some put) None None = refl
its-index (Some put) None (Some appended) = refl
its-index (Some put) (Some index) None = refl
its-index (Some put) (Some index) (Some appended) = refl

-- of slots
said-starts : (slots : List Slot) → flat_map start_said (play_events slots) ≡ starts_in slots
said-starts [] = refl
said-starts (slot ∷ slots) =
    flat_map-append start_said (slot_events slot) (play_events slots)
    ∙ ap (λ l. slot.start ∷ (l ++ flat_map start_said (play_events slots)))
    (no-start slot.put slot.chosen slot.appended)
    ∙ ap (λ l. slot.start ∷ l) (said-starts slots)

said-indices : (slots : List Slot) → flat_map index_said (play_events slots) ≡ indices_in slots
said-indices [] = refl
said-indices (slot ∷ slots) =
    flat_map-append index_said (slot_events slot) (play_events slots)
    ∙ ap (λ l. l ++ flat_map index_said (play_events slots)) (its-index slot.put slot.chosen slot.appended)
    ∙ ap (λ l. option_to_list slot.chosen ++ l) (said-indices slots)

-- What a log says that says the events of slots.
pub log-shows : (events : List Event) (slots : List Slot) → said_of_all events ≡ play_events slots
    → (starts_of events ≡ starts_in slots) × (indices_of events ≡ indices_in slots)
log-shows events slots is = (
  sym (all-said start_said said_of start_of start-said events) ∙ ap (flat_map start_said) is ∙ said-starts slots,
  sym (all-said index_said said_of index_of index-said events) ∙ ap (flat_map index_said) is ∙ said-indices slots,
)

-- ---- what the learner hears of them
abbrev heard_said : ℕ → Heard → PlayEvent → Heard
heard_said olat heard (Starts start asked) = with_access heard (record { start = start; asked = asked }) (start + olat)
heard_said olat heard (Draws point) = heard
heard_said olat heard (Tags message) = heard
heard_said olat heard (Chooses index) = with_choice heard

abbrev heard_saids : ℕ → Heard → List PlayEvent → Heard
heard_saids olat heard [] = heard
heard_saids olat heard (said ∷ saids) = heard_saids olat (heard_said olat heard said) saids

saids-append : (olat : ℕ) (heard : Heard) (xs ys : List PlayEvent)
    → heard_saids olat heard (xs ++ ys) ≡ heard_saids olat (heard_saids olat heard xs) ys
saids-append olat heard [] ys = refl
saids-append olat heard (x ∷ xs) ys = saids-append olat (heard_said olat heard x) xs ys

hears-said : (olat : ℕ) (heard : Heard) (event : Event)
    → heard_saids olat heard (said_of event) ≡ hears olat heard event
hears-said olat heard (Access start asked) = refl
hears-said olat heard (Drawn point leaf) = refl
hears-said olat heard (Tagged message) = refl
hears-said olat heard (Accepted message tag) = refl
hears-said olat heard (Chosen index) = refl
hears-said olat heard (Answered line value) = refl

log-said : (olat : ℕ) (heard : Heard) (events : List Event)
    → heard_saids olat heard (said_of_all events) ≡ heard_of olat heard events
unfolding heard_of
log-said olat heard [] = refl
log-said olat heard (event ∷ events) =
    saids-append olat heard (said_of event) (said_of_all events)
    ∙ ap (λ h. heard_saids olat h (said_of_all events)) (hears-said olat heard event)
    ∙ log-said olat (hears olat heard event) events

its-choice : (olat : ℕ) (heard : Heard) (put : Option Message) (chosen : Option ℕ) (appended : Option Message)
    → heard_saids olat heard (tags_of put ++ chooses_of chosen ++ tags_of appended) ≡ heard_then heard chosen
its-choice olat heard None None None = refl
its-choice olat heard None None (Some appended) = refl
its-choice olat heard None (Some index) None = refl
its-choice olat heard None (Some index) (Some appended) = refl
its-choice olat heard (Some put) None None = refl
its-choice olat heard (Some put) None (Some appended) = refl
its-choice olat heard (Some put) (Some index) None = refl
its-choice olat heard (Some put) (Some index) (Some appended) = refl

slots-said : (olat : ℕ) (heard : Heard) (slots : List Slot)
    → heard_saids olat heard (play_events slots) ≡ heard_slots olat heard slots
unfolding heard_slots
slots-said olat heard [] = refl
slots-said olat heard (slot ∷ slots) =
    saids-append olat heard (slot_events slot) (play_events slots)
    ∙ ap (λ h. heard_saids olat h (play_events slots))
    (its-choice olat
    (with_access heard (record { start = slot.start; asked = slot.asked }) (slot.start + olat)) slot.put slot.chosen
    slot.appended)
    ∙ slots-said olat (heard_slot olat heard slot) slots

-- What a log's events tell is what is heard of the slots whose events it says.
pub log-tells : (p : Public) (events : List Event) (slots : List Slot) → said_of_all events ≡ play_events slots
    → told_by p events ≡ heard_in p slots
log-tells p events slots is =
    sym (log-said (olat_of p.levels) nothing_heard events)
    ∙ ap (heard_saids (olat_of p.levels) nothing_heard) is
    ∙ slots-said (olat_of p.levels) nothing_heard slots
