-- A plan that is stopped took slots access by access up to there.
use Rattle.std.proofs.Common.{◌≡◌, ℕ, ◌+◌, Bool, true, false, List, [], ◌∷◌, ◌++◌, Option, Some, None}
use Rattle.std.proofs.Common.{Err, refl, sym, ap, ◌∙◌, subst, append-nil, append_assoc, inl, inr}
use Rattle.std.specs.List.{flat_map}
use Rattle.request_plan.specs.Plan.{Done, Ask, Stops}
use Rattle.request_plan.specs.Play.{play, bare}
use Rattle.asc_base.specs.declared.block.Line.{Line}
use Rattle.asc_base.specs.declared.block.Message.{Message}
use Rattle.asc_base.specs.declared.settings.Config.{Config}
use Rattle.asc_base.specs.declared.stop.Stop.{Stop}
use Rattle.oram_contents.specs.Entries.{Keys}
use Rattle.oram_frontend.specs.Access.{SlotStep}
use Rattle.oram_frontend.proofs.SlotLaws.{served_append, served_answer}
use Rattle.oram_lines.specs.Noted.{Answers, AreAnswersIn, lines_behind}
use Rattle.oram_walk.specs.Front.{FrontState}
use Rattle.oram_walk.specs.Memory.{Shown, Accessed, Displaced, memory, put_line, put_back}
use Rattle.oram_walk.specs.Plans.{FrontPlan}
use Rattle.oram_walk.specs.Request.{Request, Slot as AccessSlot, Append, Answer, Room, Steps, nothing}
use Rattle.oram_walk.specs.declared.slots.Access.{Access}
use Rattle.oram_walk.specs.declared.slots.Seen.{Seen}
use Rattle.rate_enforcer.specs.PortStep.{PortState}
use Rattle.run_play.specs.Slots.{Pace, Numbers, Slot, Passed}
use Rattle.oram_play.specs.Taken.{HasTaken, asked_slots}
use Rattle.oram_play.specs.InTurn.{AnsweredAccess, answered_slots, slots_in_turn, AreInTurn}
use Rattle.oram_play.specs.Shown.{appended_shown, lines_appended, answered_shown, AreLinesIn, lines_in_turn}
use Rattle.oram_play.specs.Stopped.{AccessLeaves}
use Rattle.oram_play.specs.StopsInTurn.{StopsAccess, StopsAppend, StopsNext, AtAccess, AtAppend, NoRoom, StopsInTurn}
use Rattle.oram_play.specs.StopsInTurn.{asked_of}
use Rattle.oram_play.proofs.Alike.{AlikeInTime}
use Rattle.oram_play.proofs.Asks.{AsksInTurn}
use Rattle.oram_play.proofs.Between.{answer-taken}
use Rattle.oram_play.proofs.CutSteps.{slot-left, append-left}
use Rattle.oram_play.proofs.StopNotes.{answers_before, port_before, request_before}
use Rattle.oram_play.proofs.Turns.{with_behind, HasLast, Ready, IsTaken, slot_with, slot_taken, ready_slot}
use Rattle.oram_play.proofs.Turns.{behind_rests}
use Rattle.oram_play.proofs.Turns.{ready_noted, append_has}

-- what was asked for where it was stopped, as a memory with these lines is shown it
abbrev pub next_shown : {keys : Keys} {levels : ℕ} {numbers : Numbers} {asked : ℕ} {slots : List Slot} {pace : Pace}
    {stop : Stop} {old new : PortState} → StopsNext keys levels numbers asked slots pace stop old new → (ℕ → Line)
    → List Shown
next_shown (AtAccess x) =
    λ lines. Accessed x.access.address.0 x.access.counter x.access.next x.access.purpose (lines x.access.address.0) ∷ []
next_shown (AtAppend x) = λ lines. Displaced x.message.address.0 x.message.counter x.message.line ∷ []
next_shown (NoRoom none) = λ lines. []

module _ (keys : Keys) (levels : ℕ) (config : Config) (numbers : Numbers) where
  abbrev pub Ready_ : Bool → (Option Message → List Slot) → Pace → PortState → Type 0
  Ready_ = Ready keys levels config numbers

  -- what the records of a stopped plan are over a memory, from behind what is appended first
  abbrev pub ShowsTo : List Shown → Option Message → (ℕ → Line) → List AnsweredAccess → ((ℕ → Line) → List Shown)
      → Type 0
  ShowsTo records message lines accesses next =
      (rest : List Shown)
      × (records
      ≡ appended_shown message ++ (flat_map answered_shown accesses ++ (next (lines_in_turn lines accesses) ++ rest)))

  -- where nothing is appended first
  pub first_shown : (records : List Shown) (message : Option Message) (lines : ℕ → Line)
      (accesses : List AnsweredAccess) (next : (ℕ → Line) → List Shown) → message ≡ None
      → (AreLinesIn (lines_appended lines message) accesses
      → ShowsTo records message (lines_appended lines message) accesses next)
      → AreLinesIn lines accesses → ShowsTo records None lines accesses next
  first_shown records message lines accesses next none shows =
      subst (λ m. AreLinesIn (lines_appended lines m) accesses
      → ShowsTo records m (lines_appended lines m) accesses next) none shows

  -- The slots that a plan adds up to its stop, from a port at a request, behind what it appends first; and what it
  -- shows at other times, if the lines are those of a memory.
  pub record Halts {A : Type 0} (R : A → A → Type 0) (plan : FrontPlan A) (behind : Bool) (asked : ℕ)
      (answers : Answers) (port : PortState) (last : Request) (slots_with : Option Message → List Slot) (pace : Pace)
      (stop : Stop) (t : PortState) : Type 0 where
    pub message : Option Message
    pub none : behind ≡ false → message ≡ None
    pub stops : StopsInTurn keys levels config numbers asked (slots_with message) pace stop t
    pub port_is : port ≡ stops.mid
    pub last_is : last ≡ asked_of stops.next
    pub shows : (cycles : ℕ) (other : FrontPlan A) (lines : ℕ → Line) → AlikeInTime R plan other
        → AreLinesIn (lines_appended lines message) stops.accesses
        → ShowsTo (bare (play (memory cycles) other lines).records) message (lines_appended lines message)
        stops.accesses (next_shown stops.next)
    -- they are, where the answers are, and both leave the same lines
    pub found : (lines : ℕ → Line) → AreAnswersIn lines answers
        → AreLinesIn (lines_appended lines message) stops.accesses
    pub leaves : (lines : ℕ → Line)
        → lines_behind lines answers ≡ lines_in_turn (lines_appended lines message) stops.accesses

  -- ---- the request itself is stopped
  -- nothing was answered before
  abbrev first_stop : (asked : ℕ) (slots : List Slot) (pace : Pace) (stop : Stop) (s t : PortState)
      → s.clock.config ≡ config → HasTaken s slots pace
      → StopsNext keys levels numbers asked (slots ++ []) pace stop s t
      → StopsInTurn keys levels config numbers asked slots pace stop t
  first_stop asked slots pace stop s t same had next = record {
    accesses = [];
    end = asked;
    in_turn = refl;
    mid = s;
    config_is = same;
    taken = subst (λ l. HasTaken s l pace) (sym (append-nil slots)) had;
    next = next;
  }

  stops_slot : {A : Type 0} (R : A → A → Type 0) (behind : Bool) (asked : ℕ) (access : Access) (left : FrontState)
      (k : Seen → FrontPlan A) (slots_with : Option Message → List Slot) (pace : Pace) (stop : Stop)
      (s t : PortState) → access.asked ≡ asked → Ready_ behind slots_with pace s
      → SlotStep keys levels s (AccessSlot access) (Err stop) t
      → Halts R (Ask (AccessSlot access) left k) behind asked [] s (AccessSlot access) slots_with pace stop t
  stops_slot {A} R behind asked access left k slots_with pace stop s t is r step = record {
    message = None;
    none = λ same. refl;
    stops = first_stop asked (slots_with None) pace stop s t r.same r.had (AtAccess its);
    port_is = refl;
    last_is = refl;
    shows = shows;
    found = λ lines are. tt;
    leaves = λ lines. refl;
  }
    where
      its : StopsAccess keys levels numbers asked (slots_with None ++ []) pace stop s t
      its = record {
        access = access;
        asked_is = is;
        leaves = slot-left keys levels r.notes numbers s t (slots_with None ++ []) pace r.fits r.rests
            (subst (λ l. HasTaken s l pace) (sym (append-nil (slots_with None))) r.had) access stop step;
      }

      shows : (cycles : ℕ) (other : FrontPlan A) (lines : ℕ → Line)
          → AlikeInTime R (Ask (AccessSlot access) left k) other → AreLinesIn lines []
          → ShowsTo (bare (play (memory cycles) other lines).records) None lines []
          (λ now. Accessed access.address.0 access.counter access.next access.purpose (now access.address.0) ∷ [])
      shows cycles (Done d) lines h are = absurd h
      shows cycles (Ask q c l) lines h are = (
        bare (play (memory cycles) (l (record { line = lines access.address.0; end = h.0.0 + cycles }))
            (put_back lines access.address.0 access.purpose)).records,
        ap (λ q. bare (play (memory cycles) (Ask q c l) lines).records) h.0.1,
      )

  stops_append : {A : Type 0} (R : A → A → Type 0) (behind : Bool) (asked : ℕ) (message : Message)
      (left : FrontState) (k : Seen → FrontPlan A) (slots_with : Option Message → List Slot) (pace : Pace)
      (stop : Stop) (s t : PortState) → behind ≡ true → Ready_ behind slots_with pace s
      → SlotStep keys levels s (Append message) (Err stop) t
      → Halts R (Ask (Append message) left k) behind asked [] s (Append message) slots_with pace stop t
  stops_append {A} R behind asked message left k slots_with pace stop s t is r step = record {
    message = None;
    none = λ same. refl;
    stops = first_stop asked (slots_with None) pace stop s t r.same r.had (AtAppend its);
    port_is = refl;
    last_is = refl;
    shows = shows;
    found = λ lines are. tt;
    leaves = λ lines. refl;
  }
    where
      last : HasLast slots_with
      last = r.last is

      slot : Slot
      slot = with_behind last.slot None

      its : StopsAppend levels (slots_with None ++ []) stop t
      its = record {
        message = message;
        before = last.before;
        slot = slot;
        are = append-nil (slots_with None) ∙ last.is None;
        bare = refl;
        leaves = append-left keys levels 0 message stop s t last.before slot pace
            (behind_rests keys levels config numbers behind s slots_with pace is r)
            (subst (λ l. HasTaken s l pace) (last.is None) r.had) refl step;
      }

      shows : (cycles : ℕ) (other : FrontPlan A) (lines : ℕ → Line) → AlikeInTime R (Ask (Append message) left k) other
          → AreLinesIn lines []
          → ShowsTo (bare (play (memory cycles) other lines).records) None lines []
          (λ now. Displaced message.address.0 message.counter message.line ∷ [])
      shows cycles (Done d) lines h are = absurd h
      shows cycles (Ask q c l) lines h are = (
        bare (play (memory cycles) (l nothing) (put_line lines message.address.0 message.line)).records,
        ap (λ q. bare (play (memory cycles) (Ask q c l) lines).records) h.0.1,
      )

  stops_room : {A : Type 0} (R : A → A → Type 0) (behind : Bool) (asked : ℕ) (left : FrontState)
      (k : Seen → FrontPlan A) (slots_with : Option Message → List Slot) (pace : Pace) (stop : Stop)
      (s t : PortState) → Ready_ behind slots_with pace s → Steps (SlotStep keys levels) s Room (Err stop) t
      → Halts R (Ask Room left k) behind asked [] s Room slots_with pace stop t
  stops_room R behind asked left k slots_with pace stop s t r step = record {
    message = None;
    none = λ same. refl;
    stops = first_stop asked (slots_with None) pace stop s t r.same r.had (NoRoom step.0);
    port_is = refl;
    last_is = refl;
    shows = λ cycles other lines h are. (bare (play (memory cycles) other lines).records, refl);
    found = λ lines are. tt;
    leaves = λ lines. refl;
  }

  no_answer : (line : ℕ) (value : Line) (stop : Stop) (s t : PortState)
      → SlotStep keys levels s (Answer line value) (Err stop) t → ⊥
  no_answer line value stop s t (inl (x, one, note, (is, same))) = absurd (cc)
  no_answer line value stop s t (inr (inl one)) = one.0
  no_answer line value stop s t (inr (inr (x, one, note, none))) = none

  -- ---- a request was answered before the stop
  -- the same slots in other parts
  move_next : (asked : ℕ) (xs ys : List Slot) (pace : Pace) (stop : Stop) (s t : PortState) → xs ≡ ys
      → (next : StopsNext keys levels numbers asked xs pace stop s t)
      → (moved : StopsNext keys levels numbers asked ys pace stop s t) × (next_shown moved ≡ next_shown next)
      × (asked_of moved ≡ asked_of next)
  move_next asked xs ys pace stop s t same (AtAccess x) = (
    AtAccess (record {
      access = x.access;
      asked_is = x.asked_is;
      leaves = subst (λ l. AccessLeaves keys levels numbers l pace x.access s stop t) same x.leaves;
    }),
    refl,
    refl,
  )
  move_next asked xs ys pace stop s t same (AtAppend x) = (
    AtAppend (record {
      message = x.message;
      before = x.before;
      slot = x.slot;
      are = sym same ∙ x.are;
      bare = x.bare;
      leaves = x.leaves;
    }),
    refl,
    refl,
  )
  move_next asked xs ys pace stop s t same (NoRoom none) = (NoRoom none, refl, refl)

  halts_slot : {A : Type 0} (R : A → A → Type 0) (behind : Bool) (asked : ℕ) (access : Access) (left : FrontState)
      (k : Seen → FrontPlan A) (seen : Seen) (answers : Answers) (port : PortState) (last : Request)
      (slots_with : Option Message → List Slot) (pace : Pace) (stop : Stop) (mid t : PortState) → access.asked ≡ asked
      → IsTaken keys levels config numbers pace access seen (slots_with None) mid
      → Halts R (k seen) true seen.end answers port last
      (slot_with keys levels config numbers pace access seen.line (slots_with None))
      (asked_slots config numbers pace access seen.line None).pace stop t
      → Halts R (Ask (AccessSlot access) left k) behind asked ((AccessSlot access, seen) ∷ answers) port last slots_with
      pace stop t
  halts_slot {A} R behind asked access left k seen answers port last slots_with pace stop mid t is taken more = record {
    message = None;
    none = λ same. refl;
    stops = record {
      accesses = one ∷ more.stops.accesses;
      end = more.stops.end;
      in_turn = (
        is,
        taken.early,
        subst (λ e. AreInTurn config numbers e more.stops.accesses first.pace more.stops.end) taken.end
            more.stops.in_turn,
      );
      mid = more.stops.mid;
      config_is = more.stops.config_is;
      taken = subst (λ l. HasTaken more.stops.mid l rest.pace) parts more.stops.taken;
      next = moved.0;
    };
    port_is = more.port_is;
    last_is = more.last_is ∙ sym moved.2;
    shows = shows;
    found = λ lines are. (are.0, more.found (put_back lines access.address.0 access.purpose) are.1);
    leaves = λ lines. more.leaves (put_back lines access.address.0 access.purpose);
  }
    where
      one : AnsweredAccess
      one = record { access = access; line = seen.line; appended = more.message }

      first : Passed
      first = answered_slots config numbers pace one

      rest : Passed
      rest = slots_in_turn config numbers more.stops.accesses first.pace

      parts : (slots_with None ++ first.slots) ++ rest.slots ≡ slots_with None ++ (first.slots ++ rest.slots)
      parts = append_assoc (slots_with None) first.slots rest.slots

      moved : (moved : StopsNext keys levels numbers more.stops.end
          (slots_with None ++ (first.slots ++ rest.slots)) rest.pace stop more.stops.mid t)
          × (next_shown moved ≡ next_shown more.stops.next) × (asked_of moved ≡ asked_of more.stops.next)
      moved = move_next more.stops.end ((slots_with None ++ first.slots) ++ rest.slots)
          (slots_with None ++ (first.slots ++ rest.slots)) rest.pace stop more.stops.mid t parts more.stops.next

      shows : (cycles : ℕ) (other : FrontPlan A) (lines : ℕ → Line)
          → AlikeInTime R (Ask (AccessSlot access) left k) other
          → (seen.line ≡ lines access.address.0)
          × AreLinesIn (lines_appended (put_back lines access.address.0 access.purpose) more.message)
          more.stops.accesses
          → ShowsTo (bare (play (memory cycles) other lines).records) None lines (one ∷ more.stops.accesses)
          (next_shown moved.0)
      shows cycles (Done d) lines h are = absurd h
      shows cycles (Ask q c l) lines h are =
          let answer : Seen = record { line = lines access.address.0; end = h.0.0 + cycles } in
          let later = more.shows cycles (l answer) (put_back lines access.address.0 access.purpose)
          (h.1 seen answer (sym are.0)) are.1 in
          let its : Line → Shown =
          λ line. Accessed access.address.0 access.counter access.next access.purpose line in
          let after : ℕ → Line = lines_in_turn lines (one ∷ more.stops.accesses) in
          let all : List Shown = flat_map answered_shown more.stops.accesses in (
            later.0,
            ap (λ q. bare (play (memory cycles) (Ask q c l) lines).records) h.0.1
                ∙ ap (λ (xs : List Shown). its (lines access.address.0) ∷ xs)
                (later.1
                ∙ ap (λ (n : (ℕ → Line) → List Shown). appended_shown more.message ++ (all ++ (n after ++ later.0)))
                (sym moved.1)
                ∙ sym (append_assoc (appended_shown more.message) all (next_shown moved.0 after ++ later.0)))
                ∙ ap (λ line. its line
                ∷ ((appended_shown more.message ++ all) ++ (next_shown moved.0 after ++ later.0))) (sym are.0),
          )

  halts_append : {A : Type 0} (R : A → A → Type 0) (behind : Bool) (asked : ℕ) (message : Message)
      (left : FrontState) (k : Seen → FrontPlan A) (seen : Seen) (answers : Answers) (port : PortState) (last : Request)
      (slots_with : Option Message → List Slot) (pace : Pace) (stop : Stop) (t : PortState) → behind ≡ true
      → Halts R (k seen) false asked answers port last (λ _. slots_with (Some message)) pace stop t
      → Halts R (Ask (Append message) left k) behind asked ((Append message, seen) ∷ answers) port last slots_with pace
      stop t
  halts_append {A} R behind asked message left k seen answers port last slots_with pace stop t is more = record {
    message = Some message;
    none = λ same. absurd (not_both behind is same);
    stops = more.stops;
    port_is = more.port_is;
    last_is = more.last_is;
    shows = shows;
    found = λ lines are.
        let after : ℕ → Line = put_line lines message.address.0 message.line in
        subst (λ m. AreLinesIn (lines_appended after m) more.stops.accesses) (more.none refl) (more.found after are.1);
    leaves = λ lines.
        let after : ℕ → Line = put_line lines message.address.0 message.line in
        subst (λ m. lines_behind after answers ≡ lines_in_turn (lines_appended after m) more.stops.accesses)
        (more.none refl) (more.leaves after);
  }
    where
      not_both : (b : Bool) → b ≡ true → b ≡ false → ⊥
      not_both true one two = cc
      not_both false one two = cc

      shows : (cycles : ℕ) (other : FrontPlan A) (lines : ℕ → Line) → AlikeInTime R (Ask (Append message) left k) other
          → AreLinesIn (put_line lines message.address.0 message.line) more.stops.accesses
          → ShowsTo (bare (play (memory cycles) other lines).records) (Some message)
          (put_line lines message.address.0 message.line) more.stops.accesses (next_shown more.stops.next)
      shows cycles (Done d) lines h are = absurd h
      shows cycles (Ask q c l) lines h are =
          let after : ℕ → Line = put_line lines message.address.0 message.line in
          let later = first_shown (bare (play (memory cycles) (l nothing) after).records) more.message after
          more.stops.accesses (next_shown more.stops.next) (more.none refl)
          (more.shows cycles (l nothing) after (h.1 seen nothing tt)) are in (
            later.0,
            ap (λ q. bare (play (memory cycles) (Ask q c l) lines).records) h.0.1
                ∙ ap (λ (xs : List Shown). Displaced message.address.0 message.counter message.line ∷ xs) later.1,
          )

  halts_answer : {A : Type 0} (R : A → A → Type 0) (behind : Bool) (asked line : ℕ) (value : Line)
      (left : FrontState) (k : Seen → FrontPlan A) (seen : Seen) (answers : Answers) (port : PortState) (last : Request)
      (slots_with : Option Message → List Slot) (pace : Pace) (stop : Stop) (t : PortState)
      → Halts R (k seen) false asked answers port last (λ _. slots_with None) pace stop t
      → Halts R (Ask (Answer line value) left k) behind asked ((Answer line value, seen) ∷ answers) port last slots_with
      pace stop t
  halts_answer {A} R behind asked line value left k seen answers port last slots_with pace stop t more = record {
    message = None;
    none = λ same. refl;
    stops = more.stops;
    port_is = more.port_is;
    last_is = more.last_is;
    shows = shows;
    found = λ lines are.
        subst (λ m. AreLinesIn (lines_appended lines m) more.stops.accesses) (more.none refl) (more.found lines are.1);
    leaves = λ lines.
        subst (λ m. lines_behind lines answers ≡ lines_in_turn (lines_appended lines m) more.stops.accesses)
        (more.none refl) (more.leaves lines);
  }
    where
      shows : (cycles : ℕ) (other : FrontPlan A) (lines : ℕ → Line)
          → AlikeInTime R (Ask (Answer line value) left k) other → AreLinesIn lines more.stops.accesses
          → ShowsTo (bare (play (memory cycles) other lines).records) None lines more.stops.accesses
          (next_shown more.stops.next)
      shows cycles (Done d) lines h are = absurd h
      shows cycles (Ask q c l) lines h are =
          let later = first_shown (bare (play (memory cycles) (l nothing) lines).records) more.message lines
          more.stops.accesses (next_shown more.stops.next) (more.none refl)
          (more.shows cycles (l nothing) lines (h.1 seen nothing tt)) are in
          (later.0, ap (λ q. bare (play (memory cycles) (Ask q c l) lines).records) h.0.1 ∙ later.1)

  halts_room : {A : Type 0} (R : A → A → Type 0) (behind : Bool) (asked : ℕ) (left : FrontState)
      (k : Seen → FrontPlan A) (seen : Seen) (answers : Answers) (port : PortState) (last : Request)
      (slots_with : Option Message → List Slot) (pace : Pace) (stop : Stop) (t : PortState)
      → Halts R (k seen) behind asked answers port last slots_with pace stop t
      → Halts R (Ask Room left k) behind asked answers port last slots_with pace stop t
  halts_room {A} R behind asked left k seen answers port last slots_with pace stop t more = record {
    message = more.message;
    none = more.none;
    stops = more.stops;
    port_is = more.port_is;
    last_is = more.last_is;
    shows = shows;
    found = more.found;
    leaves = more.leaves;
  }
    where
      shows : (cycles : ℕ) (other : FrontPlan A) (lines : ℕ → Line) → AlikeInTime R (Ask Room left k) other
          → AreLinesIn (lines_appended lines more.message) more.stops.accesses
          → ShowsTo (bare (play (memory cycles) other lines).records) more.message (lines_appended lines more.message)
          more.stops.accesses (next_shown more.stops.next)
      shows cycles (Done d) lines h are = absurd h
      shows cycles (Ask q c l) lines h are =
          let later = more.shows cycles (l nothing) lines (h.1 seen nothing tt) are in
          (later.0, ap (λ q. bare (play (memory cycles) (Ask q c l) lines).records) h.0.1 ∙ later.1)

  pub plan_stops : {A : Type 0} (R : A → A → Type 0) (P : Bool → ℕ → FrontState × A → Type 0) (plan : FrontPlan A)
      (behind : Bool) (asked : ℕ) → AsksInTurn behind asked P plan → (s t : PortState) (stop : Stop)
      (left : FrontState) (slots_with : Option Message → List Slot) (pace : Pace) → Ready_ behind slots_with pace s
      → (stops : Stops (Steps (SlotStep keys levels)) plan s t stop left)
      → Halts R plan behind asked (answers_before keys levels plan s t stop left stops)
      (port_before keys levels plan s t stop left stops) (request_before keys levels plan s t stop left stops)
      slots_with pace stop t
  plan_stops R P (Done a) behind asked h s t stop left slots_with pace r stops = absurd stops
  plan_stops R P (Ask (AccessSlot access) b k) behind asked h s t stop left slots_with pace r (inl one) =
      stops_slot R behind asked access b k slots_with pace stop s t h.0 r one.0
  plan_stops R P (Ask (AccessSlot access) b k) behind asked h s t stop left slots_with pace r
      (inr (x, mid, one, rest)) =
      let next = ready_slot keys levels config numbers behind access x s mid slots_with pace r one in
      halts_slot R behind asked access b k x (answers_before keys levels (k x) mid t stop left rest) _ _ slots_with pace
      stop mid t h.0
      (slot_taken keys levels config numbers access x s mid (slots_with None) pace r.notes r.fits r.rests r.same r.had
      one)
      (plan_stops R P (k x) true x.end (h.1 x) mid t stop left _ _ next rest)
  plan_stops R P (Ask (Append message) b k) behind asked h s t stop left slots_with pace r (inl one) =
      stops_append R behind asked message b k slots_with pace stop s t h.0 r one.0
  plan_stops R P (Ask (Append message) b k) behind asked h s t stop left slots_with pace r
      (inr (x, mid, one, rest)) =
      let room = behind_rests keys levels config numbers behind s slots_with pace h.0 r in
      let keeps = (served_append keys levels 0 message x s mid r.fits room one).1 in
      let next = ready_noted keys levels config numbers slots_with (slots_with (Some message)) pace s mid r.same keeps
      (append_has keys levels config numbers message x s mid slots_with pace r.fits room r.had (r.last h.0) one) in
      halts_append R behind asked message b k x (answers_before keys levels (k x) mid t stop left rest) _ _ slots_with
      pace stop t h.0
      (plan_stops R P (k x) false asked (h.1 x) mid t stop left (λ _. slots_with (Some message)) pace next rest)
  plan_stops R P (Ask (Answer line value) b k) behind asked h s t stop left slots_with pace r (inl one) =
      absurd (no_answer line value stop s t one.0)
  plan_stops R P (Ask (Answer line value) b k) behind asked h s t stop left slots_with pace r
      (inr (x, mid, one, rest)) =
      let room = behind_rests keys levels config numbers behind s slots_with pace h.0 r in
      let served = served_answer keys levels 0 line value x s mid r.fits room one in
      let next = ready_noted keys levels config numbers slots_with (slots_with None) pace s mid r.same served.1
      (answer-taken line value s mid (slots_with None) pace served.0 r.had) in
      halts_answer R behind asked line value b k x (answers_before keys levels (k x) mid t stop left rest) _ _
      slots_with pace stop t
      (plan_stops R P (k x) false asked (h.1 x) mid t stop left (λ _. slots_with None) pace next rest)
  plan_stops R P (Ask Room b k) behind asked h s t stop left slots_with pace r (inl one) =
      stops_room R behind asked b k slots_with pace stop s t r one.0
  plan_stops R P (Ask Room b k) behind asked h s t stop left slots_with pace r (inr (x, mid, one, rest)) =
      halts_room R behind asked b k x (answers_before keys levels (k x) mid t stop left rest) _ _ slots_with pace stop t
      (plan_stops R P (k x) behind asked (h x) mid t stop left slots_with pace
      (subst (Ready_ behind slots_with pace) (sym one.1) r) rest)
