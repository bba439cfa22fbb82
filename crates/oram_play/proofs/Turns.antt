-- A plan that asks access by access takes slots access by access.
use Rattle.std.proofs.Common.{◌≡◌, ◌<◌, ◌≤◌, ℕ, ◌+◌, Bool, true, false, List, [], ◌∷◌, ◌++◌, Option, Some, None, Ok}
use Rattle.std.proofs.Common.{refl, sym, ap, ◌∙◌, subst, arith, append-nil, append_assoc}
use Rattle.std.specs.List.{flat_map}
use Rattle.request_plan.specs.Plan.{Done, Ask, Ends}
use Rattle.request_plan.specs.Play.{play, bare}
use Rattle.asc_base.specs.TreeShape.{olat_of}
use Rattle.asc_base.specs.declared.block.Line.{Line}
use Rattle.asc_base.specs.declared.block.Message.{Message}
use Rattle.asc_base.specs.declared.block.Point.TheVariants.{Real}
use Rattle.asc_base.specs.declared.settings.Config.{Config}
use Rattle.bus_schedule.specs.Timetable.{public_of}
use Rattle.oram_contents.specs.Entries.{Keys}
use Rattle.oram_frontend.specs.Access.{SlotStep}
use Rattle.oram_frontend.specs.Oram.{OramState, OramStep, Told, Fetch, Store}
use Rattle.oram_frontend.specs.Slots.{FitKeys, Keeps}
use Rattle.oram_frontend.proofs.SlotLaws.{served_slot, served_append, served_answer}
use Rattle.oram_lines.specs.Noted.{Answers, AreAnswersIn, lines_behind}
use Rattle.oram_walk.specs.Front.{FrontState, sizes_of}
use Rattle.oram_walk.specs.Memory.{Shown, Accessed, Displaced, memory, put_line, put_back}
use Rattle.oram_walk.specs.Plans.{FrontPlan, fetch_plan, store_plan}
use Rattle.oram_walk.proofs.Walked.{fetch_over, store_over}
use Rattle.oram_walk.specs.Shows.{Shows, shown_by}
use Rattle.oram_walk.specs.declared.slots.Purpose.{Purpose}
use Rattle.oram_walk.specs.declared.slots.Purpose.TheVariants.{Keep, Replace}
use Rattle.posmap_lookaside.specs.Walk.{OnChip, walk}
use Rattle.oram_walk.specs.Request.{Slot as AccessSlot, Append, Answer, Room, Steps, nothing}
use Rattle.oram_walk.specs.declared.slots.Access.{Access}
use Rattle.oram_walk.specs.declared.slots.Seen.{Seen}
use Rattle.rate_enforcer.proofs.StateLaws.{rests_less}
use Rattle.rate_enforcer.specs.PortStep.{PortState, Resting}
use Rattle.run_play.specs.Slots.{Pace, Numbers, Slot, slot_next}
use Rattle.oram_play.specs.Taken.{HasTaken, put_in, before_asked, asked_start, asked_slots}
use Rattle.oram_play.specs.InTurn.{AnsweredAccess, answered_slots, slots_in_turn, AreInTurn, TakesInTurn}
use Rattle.oram_play.specs.Shown.{appended_shown, lines_appended, answered_shown, AreLinesIn}
use Rattle.oram_play.specs.Answered.{IsAnswered}
use Rattle.oram_play.proofs.Accesses.{access-taken}
use Rattle.oram_play.proofs.Alike.{AlikeInTime, AnyTwo, SameLine, fetch_alike, store_alike}
use Rattle.oram_play.proofs.Notes.{answers_of, noted, played}
use Rattle.oram_play.proofs.Pairs.{pairs}
use Rattle.oram_play.proofs.Between.{append-taken, answer-taken}
use Rattle.oram_play.proofs.Asks.{AsksInTurn, AtEnd, AtAnswer, fetch_asks, store_asks}

-- how many notes are left behind a slot, at least
abbrev pub need : Bool → ℕ
need true = 1
need false = 0

-- the last of some slots, with what is appended behind it
abbrev pub with_behind : Slot → Option Message → Slot
with_behind slot message = record slot { appended = message }

pub record HasLast (slots_with : Option Message → List Slot) : Type 0 where
  pub before : List Slot
  pub slot : Slot
  pub is : (message : Option Message) → slots_with message ≡ before ++ with_behind slot message ∷ []

module _ (keys : Keys) (levels : ℕ) (config : Config) (numbers : Numbers) where
  -- what is known of a port along a plan, whose slots are these if this is appended behind the last
  pub record Ready (behind : Bool) (slots_with : Option Message → List Slot) (pace : Pace)
      (s : PortState) : Type 0 where
    pub fits : FitKeys keys s
    pub notes : ℕ
    pub enough : need behind ≤ notes
    pub rests : Resting notes levels s
    pub same : s.clock.config ≡ config
    pub had : HasTaken s (slots_with None) pace
    pub last : behind ≡ true → HasLast slots_with

  -- The slots that a plan adds, behind what it appends first; and what the plan shows at other times, if the lines are
  -- those of a memory.
  pub record Adds {A : Type 0} (R : A → A → Type 0) (plan : FrontPlan A) (behind : Bool) (asked end : ℕ)
      (answers : Answers) (slots_with : Option Message → List Slot) (pace : Pace) (t : PortState) : Type 0 where
    pub message : Option Message
    pub none : behind ≡ false → message ≡ None
    pub takes : TakesInTurn config numbers asked end (slots_with message) pace t
    pub shows : (cycles : ℕ) (other : FrontPlan A) (lines : ℕ → Line) → AlikeInTime R plan other
        → AreLinesIn (lines_appended lines message) takes.accesses
        → bare (play (memory cycles) other lines).records
        ≡ appended_shown message ++ flat_map answered_shown takes.accesses
    pub same : t.clock.config ≡ config
    -- they are, where the answers are
    pub found : (lines : ℕ → Line) → AreAnswersIn lines answers
        → AreLinesIn (lines_appended lines message) takes.accesses

  -- a port that has just taken an access's slot
  abbrev pub slot_with : Pace → Access → Line → List Slot → Option Message → List Slot
  slot_with pace access line slots message = slots ++ (asked_slots config numbers pace access line message).slots

  slot_last : (pace : Pace) (access : Access) (line : Line) (slots : List Slot)
      → HasLast (slot_with pace access line slots)
  slot_last pace access line slots =
      let before = before_asked config numbers pace access in
      let its : Option Message → Slot =
      slot_next (public_of config) before.pace numbers (Some access.asked) (Real access.address access.counter)
      (put_in access line access.purpose) in
      record {
        before = slots ++ before.slots;
        slot = its None;
        is = λ message. sym (append_assoc slots before.slots (its message ∷ []));
      }

  -- what an access takes, in these settings
  pub record IsTaken (pace : Pace) (access : Access) (seen : Seen) (slots : List Slot) (t : PortState) : Type 0 where
    pub has : HasTaken t (slot_with pace access seen.line slots None)
        (asked_slots config numbers pace access seen.line None).pace
    pub early : asked_start config numbers pace access < config.time
    pub end : seen.end ≡ asked_start config numbers pace access + olat_of config.shape.levels

  pub slot_taken : (access : Access) (seen : Seen) (s t : PortState) (slots : List Slot) (pace : Pace) (notes : ℕ)
      → FitKeys keys s → Resting notes levels s → s.clock.config ≡ config → HasTaken s slots pace
      → SlotStep keys levels s (AccessSlot access) (Ok seen) t → IsTaken pace access seen slots t
  slot_taken access seen s t slots pace notes fits rests same had step =
      let served = served_slot keys levels notes access seen s t fits rests step in
      let taken = access-taken keys levels (notes + 1) access seen s t served.0 served.1 slots pace numbers had in
      let all = subst (λ (c : Config). HasTaken t (slots ++ (asked_slots c numbers pace access seen.line None).slots)
      (asked_slots c numbers pace access seen.line None).pace
      × (asked_start c numbers pace access < c.time)
      × (seen.end ≡ asked_start c numbers pace access + olat_of c.shape.levels)) same taken in
      record { has = all.0; early = all.1; end = all.2 }

  pub ready_slot : (behind : Bool) (access : Access) (seen : Seen) (s t : PortState)
      (slots_with : Option Message → List Slot) (pace : Pace) → Ready behind slots_with pace s
      → SlotStep keys levels s (AccessSlot access) (Ok seen) t
      → Ready true (slot_with pace access seen.line (slots_with None))
      (asked_slots config numbers pace access seen.line None).pace t
  ready_slot behind access seen s t slots_with pace r step =
      let keeps = (served_slot keys levels r.notes access seen s t r.fits r.rests step).1 in
      record {
        fits = keeps.fits;
        notes = keeps.rests.0;
        enough = let more = keeps.rests.1 in omega (arith, more);
        rests = keeps.rests.2;
        same = keeps.config ∙ r.same;
        had = (slot_taken access seen s t (slots_with None) pace r.notes r.fits r.rests r.same r.had step).has;
        last = λ is. slot_last pace access seen.line (slots_with None);
      }

  -- the accesses behind an access
  adds_slot : {A : Type 0} (R : A → A → Type 0) (behind : Bool) (asked end : ℕ) (access : Access) (left : FrontState)
      (k : Seen → FrontPlan A) (seen : Seen) (answers : Answers) (slots_with : Option Message → List Slot) (pace : Pace)
      (mid t : PortState) → access.asked ≡ asked → IsTaken pace access seen (slots_with None) mid
      → Adds R (k seen) true seen.end end answers (slot_with pace access seen.line (slots_with None))
      (asked_slots config numbers pace access seen.line None).pace t
      → Adds R (Ask (AccessSlot access) left k) behind asked end ((AccessSlot access, seen) ∷ answers) slots_with pace t
  adds_slot {A} R behind asked end access left k seen answers slots_with pace mid t is taken more =
      let one : AnsweredAccess = record { access = access; line = seen.line; appended = more.message } in
      let first = answered_slots config numbers pace one in
      let rest = slots_in_turn config numbers more.takes.accesses first.pace in
      record {
        message = None;
        none = λ same. refl;
        takes = record {
          accesses = one ∷ more.takes.accesses;
          in_turn = (
            is,
            taken.early,
            subst (λ e. AreInTurn config numbers e more.takes.accesses first.pace end) taken.end more.takes.in_turn,
          );
          taken = subst (λ l. HasTaken t l rest.pace) (append_assoc (slots_with None) first.slots rest.slots)
              more.takes.taken;
        };
        shows = shows;
        same = more.same;
        found = λ lines are.
            (are.0, more.found (put_back lines access.address.0 access.purpose) are.1);
      }
    where
      shows : (cycles : ℕ) (other : FrontPlan A) (lines : ℕ → Line)
          → AlikeInTime R (Ask (AccessSlot access) left k) other
          → (seen.line ≡ lines access.address.0)
          × AreLinesIn (lines_appended (put_back lines access.address.0 access.purpose) more.message)
          more.takes.accesses
          → bare (play (memory cycles) other lines).records
          ≡ (Accessed access.address.0 access.counter access.next access.purpose seen.line
          ∷ appended_shown more.message)
          ++ flat_map answered_shown more.takes.accesses
      shows cycles (Done d) lines h are = absurd h
      shows cycles (Ask r c l) lines h are =
          let answer : Seen = record { line = lines access.address.0; end = h.0.0 + cycles } in
          ap (λ q. bare (play (memory cycles) (Ask q c l) lines).records) h.0.1
          ∙ ap (λ (xs : List Shown). Accessed access.address.0 access.counter access.next access.purpose
          (lines access.address.0) ∷ xs) (more.shows cycles (l answer)
          (put_back lines access.address.0 access.purpose) (h.1 seen answer (sym are.0)) are.1)
          ∙ ap (λ line. (Accessed access.address.0 access.counter access.next access.purpose line
          ∷ appended_shown more.message) ++ flat_map answered_shown more.takes.accesses) (sym are.0)

  -- those behind an append, an answer and room
  adds_append : {A : Type 0} (R : A → A → Type 0) (behind : Bool) (asked end : ℕ) (message : Message)
      (left : FrontState) (k : Seen → FrontPlan A) (seen : Seen) (answers : Answers)
      (slots_with : Option Message → List Slot) (pace : Pace) (t : PortState) → behind ≡ true
      → Adds R (k seen) false asked end answers (λ _. slots_with (Some message)) pace t
      → Adds R (Ask (Append message) left k) behind asked end ((Append message, seen) ∷ answers) slots_with pace t
  adds_append {A} R behind asked end message left k seen answers slots_with pace t is more = record {
    message = Some message;
    none = λ same. absurd (not_both behind is same);
    takes = more.takes;
    shows = shows;
    same = more.same;
    found = λ lines are.
        let after : ℕ → Line = put_line lines message.address.0 message.line in
        subst (λ m. AreLinesIn (lines_appended after m) more.takes.accesses) (more.none refl) (more.found after are.1);
  }
    where
      not_both : (b : Bool) → b ≡ true → b ≡ false → ⊥
      not_both true one two = cc
      not_both false one two = cc

      shows : (cycles : ℕ) (other : FrontPlan A) (lines : ℕ → Line) → AlikeInTime R (Ask (Append message) left k) other
          → AreLinesIn (put_line lines message.address.0 message.line) more.takes.accesses
          → bare (play (memory cycles) other lines).records
          ≡ Displaced message.address.0 message.counter message.line ∷ flat_map answered_shown more.takes.accesses
      shows cycles (Done d) lines h are = absurd h
      shows cycles (Ask r c l) lines h are =
          let after : ℕ → Line = put_line lines message.address.0 message.line in
          ap (λ q. bare (play (memory cycles) (Ask q c l) lines).records) h.0.1
          ∙ ap (λ (xs : List Shown). Displaced message.address.0 message.counter message.line ∷ xs)
          (more.shows cycles (l nothing) after (h.1 seen nothing tt)
          (subst (λ m. AreLinesIn (lines_appended after m) more.takes.accesses) (sym (more.none refl)) are)
          ∙ ap (λ m. appended_shown m ++ flat_map answered_shown more.takes.accesses) (more.none refl))

  adds_answer : {A : Type 0} (R : A → A → Type 0) (behind : Bool) (asked end line : ℕ) (value : Line)
      (left : FrontState) (k : Seen → FrontPlan A) (seen : Seen) (answers : Answers)
      (slots_with : Option Message → List Slot) (pace : Pace) (t : PortState)
      → Adds R (k seen) false asked end answers (λ _. slots_with None) pace t
      → Adds R (Ask (Answer line value) left k) behind asked end ((Answer line value, seen) ∷ answers) slots_with pace t
  adds_answer {A} R behind asked end line value left k seen answers slots_with pace t more = record {
    message = None;
    same = more.same;
    found = λ lines are.
        subst (λ m. AreLinesIn (lines_appended lines m) more.takes.accesses) (more.none refl) (more.found lines are.1);
    none = λ same. refl;
    takes = more.takes;
    shows = shows;
  }
    where
      shows : (cycles : ℕ) (other : FrontPlan A) (lines : ℕ → Line)
          → AlikeInTime R (Ask (Answer line value) left k) other → AreLinesIn lines more.takes.accesses
          → bare (play (memory cycles) other lines).records ≡ flat_map answered_shown more.takes.accesses
      shows cycles (Done d) lines h are = absurd h
      shows cycles (Ask r c l) lines h are =
          ap (λ q. bare (play (memory cycles) (Ask q c l) lines).records) h.0.1
          ∙ more.shows cycles (l nothing) lines (h.1 seen nothing tt)
          (subst (λ m. AreLinesIn (lines_appended lines m) more.takes.accesses) (sym (more.none refl)) are)
          ∙ ap (λ m. appended_shown m ++ flat_map answered_shown more.takes.accesses) (more.none refl)

  adds_room : {A : Type 0} (R : A → A → Type 0) (behind : Bool) (asked end : ℕ) (left : FrontState)
      (k : Seen → FrontPlan A) (seen : Seen) (answers : Answers) (slots_with : Option Message → List Slot)
      (pace : Pace) (t : PortState) → Adds R (k seen) behind asked end answers slots_with pace t
      → Adds R (Ask Room left k) behind asked end answers slots_with pace t
  adds_room {A} R behind asked end left k seen answers slots_with pace t more = record {
    same = more.same;
    found = more.found;
    message = more.message;
    none = more.none;
    takes = more.takes;
    shows = shows;
  }
    where
      shows : (cycles : ℕ) (other : FrontPlan A) (lines : ℕ → Line) → AlikeInTime R (Ask Room left k) other
          → AreLinesIn (lines_appended lines more.message) more.takes.accesses
          → bare (play (memory cycles) other lines).records
          ≡ appended_shown more.message ++ flat_map answered_shown more.takes.accesses
      shows cycles (Done d) lines h are = absurd h
      shows cycles (Ask r c l) lines h are =
          ap (λ q. bare (play (memory cycles) (Ask q c l) lines).records) h.0.1
          ∙ more.shows cycles (l nothing) lines (h.1 seen nothing tt) are

  done_shows : {A : Type 0} (R : A → A → Type 0) (a : FrontState × A) (cycles : ℕ) (other : FrontPlan A)
      (lines : ℕ → Line) → AlikeInTime R (Done a) other → bare (play (memory cycles) other lines).records ≡ []
  done_shows R a cycles (Done d) lines h = refl
  done_shows R a cycles (Ask r c l) lines h = absurd h

  -- room for a note
  pub behind_rests : (behind : Bool) (s : PortState) (slots_with : Option Message → List Slot) (pace : Pace)
      → behind ≡ true → Ready behind slots_with pace s → Resting 1 levels s
  behind_rests true s slots_with pace is r = rests_less 1 r.enough r.rests
  behind_rests false s slots_with pace is r = absurd cc

  -- behind a note nothing is appended
  pub ready_noted : (slots_with : Option Message → List Slot) (slots : List Slot) (pace : Pace) (s t : PortState)
      → s.clock.config ≡ config → Keeps keys levels 0 s t → HasTaken t slots pace → Ready false (λ _. slots) pace t
  ready_noted slots_with slots pace s t same keeps has = record {
    fits = keeps.fits;
    notes = keeps.rests.0;
    enough = omega arith;
    rests = keeps.rests.2;
    same = keeps.config ∙ same;
    had = has;
    last = λ is. absurd cc;
  }

  pub append_has : (message : Message) (seen : Seen) (s t : PortState) (slots_with : Option Message → List Slot)
      (pace : Pace) → FitKeys keys s → Resting 1 levels s → HasTaken s (slots_with None) pace → HasLast slots_with
      → SlotStep keys levels s (Append message) (Ok seen) t → HasTaken t (slots_with (Some message)) pace
  append_has message seen s t slots_with pace fits rests had last step =
      let bare : HasTaken s (last.before ++ with_behind last.slot None ∷ []) pace =
      subst (λ l. HasTaken s l pace) (last.is None) had in
      let has : HasTaken t (last.before ++ with_behind last.slot (Some message) ∷ []) pace =
      append-taken keys message s t last.before (with_behind last.slot None) pace
      (served_append keys levels 0 message seen s t fits rests step).0 bare refl in
      subst (λ l. HasTaken t l pace) (sym (last.is (Some message))) has

  pub plan_takes : {A : Type 0} (R : A → A → Type 0) (P : Bool → ℕ → FrontState × A → Type 0) (plan : FrontPlan A)
      (behind : Bool) (asked : ℕ) → AsksInTurn behind asked P plan → (s t : PortState) (outcome : FrontState × A)
      (slots_with : Option Message → List Slot) (pace : Pace) → Ready behind slots_with pace s
      → (ends : Ends (Steps (SlotStep keys levels)) plan s t outcome)
      → (b : Bool) × (end : ℕ) × P b end outcome
      × Adds R plan behind asked end (answers_of keys levels plan s t outcome ends) slots_with pace t
  plan_takes R P (Done a) behind asked h s t outcome slots_with pace r ends = (
    behind,
    asked,
    subst (P behind asked) (sym ends.0) h,
    record {
      message = None;
      none = λ same. refl;
      shows = λ cycles other lines h are. done_shows R a cycles other lines h;
      same = ap (λ (u : PortState). u.clock.config) ends.1 ∙ r.same;
      found = λ lines are. tt;
      takes = record {
        accesses = [];
        in_turn = refl;
        taken = subst (λ l. HasTaken t l pace) (sym (append-nil (slots_with None)))
            (subst (λ (u : PortState). HasTaken u (slots_with None) pace) (sym ends.1) r.had);
      };
    },
  )
  plan_takes R P (Ask (AccessSlot access) b k) behind asked h s t outcome slots_with pace r (x, mid, one, rest) =
      let next = ready_slot behind access x s mid slots_with pace r one in
      let more = plan_takes R P (k x) true x.end (h.1 x) mid t outcome _ _ next rest in (
        more.0,
        more.1,
        more.2,
        adds_slot R behind asked more.1 access b k x (answers_of keys levels (k x) mid t outcome rest) slots_with pace
            mid t h.0
            (slot_taken access x s mid (slots_with None) pace r.notes r.fits r.rests r.same r.had one) more.3,
      )
  plan_takes R P (Ask (Append message) b k) behind asked h s t outcome slots_with pace r (x, mid, one, rest) =
      let room = behind_rests behind s slots_with pace h.0 r in
      let keeps = (served_append keys levels 0 message x s mid r.fits room one).1 in
      let next = ready_noted slots_with (slots_with (Some message)) pace s mid r.same keeps
      (append_has message x s mid slots_with pace r.fits room r.had (r.last h.0) one) in
      let more = plan_takes R P (k x) false asked (h.1 x) mid t outcome (λ _. slots_with (Some message)) pace next
      rest in (
        more.0,
        more.1,
        more.2,
        adds_append R behind asked more.1 message b k x
            (answers_of keys levels (k x) mid t outcome rest) slots_with pace t h.0 more.3,
      )
  plan_takes R P (Ask (Answer line value) b k) behind asked h s t outcome slots_with pace r (x, mid, one, rest) =
      let room = behind_rests behind s slots_with pace h.0 r in
      let served = served_answer keys levels 0 line value x s mid r.fits room one in
      let next = ready_noted slots_with (slots_with None) pace s mid r.same served.1
      (answer-taken line value s mid (slots_with None) pace served.0 r.had) in
      let more = plan_takes R P (k x) false asked (h.1 x) mid t outcome (λ _. slots_with None) pace next rest in (
        more.0,
        more.1,
        more.2,
        adds_answer R behind asked more.1 line value b k x
            (answers_of keys levels (k x) mid t outcome rest) slots_with pace t more.3,
      )
  plan_takes R P (Ask Room b k) behind asked h s t outcome slots_with pace r (x, mid, one, rest) =
      let more = plan_takes R P (k x) behind asked (h x) mid t outcome slots_with pace
      (subst (Ready behind slots_with pace) (sym one.1) r) rest in (
        more.0,
        more.1,
        more.2,
        adds_room R behind asked more.1 b k x
            (answers_of keys levels (k x) mid t outcome rest) slots_with pace t more.3,
      )

-- ---- a fetch and a store
pub ready_first : (keys : Keys) (levels notes : ℕ) (s : PortState) (slots : List Slot) (pace : Pace) (numbers : Numbers)
    → FitKeys keys s → Resting notes levels s → HasTaken s slots pace
    → Ready keys levels s.clock.config numbers false (λ _. slots) pace s
ready_first keys levels notes s slots pace numbers fits rests had = record {
  fits = fits;
  notes = notes;
  enough = omega arith;
  rests = rests;
  same = refl;
  had = had;
  last = λ is. absurd cc;
}

-- a request that is answered along its plan
answered : {A : Type 0} (keys : Keys) (levels notes : ℕ) (numbers : Numbers) (asked end line : ℕ) (put : Purpose)
    (R : A → A → Type 0) (P : Bool → ℕ → FrontState × A → Type 0) (plan : FrontPlan A) (outcome : A)
    (slots : List Slot) (pace : Pace) (old new : OramState) → FitKeys keys old.port → Resting notes levels old.port
    → HasTaken old.port slots pace → AsksInTurn false asked P plan
    → ((b : Bool) (last : ℕ) → P b last (new.front, outcome) → last ≡ end) → AlikeInTime R plan plan
    → ((lines : ℕ → Line) (chip : OnChip) → line < old.front.shape.lines → Shows old.front lines chip
    → (let walked = walk (sizes_of old.front) chip line in
    (bare (play (memory 0) plan lines).records ≡ flat_map (shown_by (sizes_of old.front) lines put) walked.accesses)
    × Shows ((play (memory 0) plan lines).outcome).0 (play (memory 0) plan lines).held walked.chip))
    → (ends : Ends (Steps (SlotStep keys levels)) plan old.port new.port (new.front, outcome))
    → (done : IsAnswered keys levels numbers asked end line put plan outcome slots pace old new)
    × (done.answers ≡ answers_of keys levels plan old.port new.port (new.front, outcome) ends)
answered keys levels notes numbers asked end line put R P plan outcome slots pace old new fits rests had asks last
    alike over ends =
    let config = old.port.clock.config in
    let answers = answers_of keys levels plan old.port new.port (new.front, outcome) ends in
    let all = plan_takes keys levels config numbers R P plan false asked asks old.port new.port (new.front, outcome)
    (λ _. slots) pace (ready_first keys levels notes old.port slots pace numbers fits rests had) ends in
    let adds : Adds keys levels config numbers R plan false asked all.1 answers (λ _. slots) pace new.port = all.3 in (
      record {
        takes = record {
          accesses = adds.takes.accesses;
          in_turn = subst (AreInTurn config numbers asked adds.takes.accesses pace) (last all.0 all.1 all.2)
              adds.takes.in_turn;
          taken = adds.takes.taken;
        };
        walks = λ lines chip below shown are.
            pairs (sizes_of old.front) lines put _ _
            (sym (adds.shows 0 plan lines alike
            (subst (λ m. AreLinesIn (lines_appended lines m) adds.takes.accesses) (sym (adds.none refl)) are)
            ∙ ap (λ m. appended_shown m ++ flat_map answered_shown adds.takes.accesses) (adds.none refl))
            ∙ (over lines chip below shown).0);
        config = adds.same;
        answers = answers;
        run = noted keys levels plan old.port new.port [] (new.front, outcome) ends;
        found = λ lines are.
            subst (λ m. AreLinesIn (lines_appended lines m) adds.takes.accesses) (adds.none refl)
            (adds.found lines are);
        shows = λ lines chip below shown are.
            let p = played keys levels R plan plan old.port new.port (new.front, outcome) ends lines alike are in
            subst (λ (f : FrontState). Shows f (lines_behind lines answers) (walk (sizes_of old.front) chip line).chip)
            p.1 (subst (λ (l : ℕ → Line). Shows ((play (memory 0) plan lines).outcome).0 l
            (walk (sizes_of old.front) chip line).chip) p.0 (over lines chip below shown).1);
      },
      refl,
    )

pub fetch-takes : (keys : Keys) (levels notes asked line : ℕ) (told : Told) (old new : OramState) (slots : List Slot)
    (pace : Pace) (numbers : Numbers) → FitKeys keys old.port → Resting notes levels old.port
    → HasTaken old.port slots pace → OramStep keys levels old (Fetch asked line) (Ok told) new
    → (seen : Seen) × (told.line ≡ Some seen.line)
    × (done : IsAnswered keys levels numbers asked told.end line Keep (fetch_plan old.front asked line) seen slots pace
    old new)
    × ((lines : ℕ → Line) (chip : OnChip) → line < old.front.shape.lines → Shows old.front lines chip
    → AreAnswersIn lines done.answers → seen.line ≡ lines line)
fetch-takes keys levels notes asked line told old new slots pace numbers fits rests had (serves, seen, is, ends) =
    let plan = fetch_plan old.front asked line in
    let alike = fetch_alike old.front asked line in
    let all = answered keys levels notes numbers asked told.end line Keep SameLine AtAnswer plan seen slots pace old new
    fits rests had (fetch_asks old.front asked line) (λ b last at. sym (ap (λ (t : Told). t.end) is ∙ at)) alike
    (λ lines chip below shown.
    let over = fetch_over 0 asked line old.front lines chip below shown in (over.0, over.1)) ends in (
      seen,
      ap (λ (t : Told). t.line) is,
      all.0,
      λ lines chip below shown are.
          sym ((played keys levels SameLine plan plan old.port new.port (new.front, seen) ends lines alike
          (subst (AreAnswersIn lines) all.1 are)).2)
          ∙ (fetch_over 0 asked line old.front lines chip below shown).2,
    )

pub store-takes : (keys : Keys) (levels notes asked line : ℕ) (value : Line) (told : Told) (old new : OramState)
    (slots : List Slot) (pace : Pace) (numbers : Numbers) → FitKeys keys old.port → Resting notes levels old.port
    → HasTaken old.port slots pace → OramStep keys levels old (Store asked line value) (Ok told) new
    → (told.line ≡ None)
    × IsAnswered keys levels numbers asked told.end line (Replace value) (store_plan old.front asked line value)
    told.end slots pace old new
store-takes keys levels notes asked line value told old new slots pace numbers fits rests had (serves, is, ends) = (
  ap (λ (t : Told). t.line) is,
  (answered keys levels notes numbers asked told.end line (Replace value) AnyTwo AtEnd
      (store_plan old.front asked line value) told.end slots pace old new fits rests had
      (store_asks old.front asked line value) (λ b last at. sym at) (store_alike old.front asked line value)
      (λ lines chip below shown. store_over 0 asked line value old.front lines chip below shown) ends).0,
)
