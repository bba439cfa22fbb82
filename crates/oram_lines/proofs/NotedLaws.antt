-- What is noted of a port's answers over each step of a front end's plans: they are those of a memory's lines.
use Rattle.std.proofs.Common.{◌≡◌, ◌<◌, ◌≤◌, ◌+◌, ◌++◌, ◌⊎◌, inl, inr, ℕ, zero, suc, Bool, List, [], ◌∷◌, Ok, Err}
use Rattle.std.proofs.Common.{Option, None, Some, length, take, slice_get, nat_eq, refl, sym, ap, ◌∙◌, subst, arith}
use Rattle.std.specs.List.{find}
use Rattle.std.proofs.lemmas.Bool.{cases_Bool, cases_eq}
use Rattle.request_plan.specs.Plan.{Plan, Done, Ask, Ends, Stops}
use Rattle.asc_base.proofs.Lookups.{find-yes, find-no, without_first-yes, without_first-no, some_is, none_is_not}
use Rattle.asc_base.proofs.Lookups.{promoted_first-some, promoted_first-none}
use Rattle.asc_base.specs.Has.{Has}
use Rattle.asc_base.specs.Lookup.{promoted_first, without_first}
use Rattle.asc_base.specs.TreeShape.{parent_of, children_of}
use Rattle.asc_base.specs.declared.block.Counter.{Counter}
use Rattle.asc_base.specs.declared.block.Line.{Line}
use Rattle.asc_base.specs.declared.block.Message.{Message}
use Rattle.asc_base.specs.declared.stop.Stop.{Stop}
use Rattle.oram_contents.specs.Counts.{Ghost, line_at, line_by, put_at, zero_line}
use Rattle.oram_contents.specs.Entries.{Keys, AreKeys}
use Rattle.oram_contents.specs.Slots.{done, refilled}
use Rattle.oram_contents.specs.Starts.{first_ghost}
use Rattle.oram_contents.specs.Steps.{landed, inserted}
use Rattle.oram_contents.proofs.Lines.{put_same, put_other, line_same}
use Rattle.oram_contents.proofs.StartLaws.{start_sound}
use Rattle.oram_frontend.specs.Access.{SlotStep}
use Rattle.oram_walk.specs.Front.{FrontState}
use Rattle.oram_walk.specs.Memory.{put_line, put_back}
use Rattle.oram_walk.specs.Plans.{FrontPlan}
use Rattle.oram_walk.specs.Rows.{zeros}
use Rattle.oram_walk.specs.Request.{Request, Slot, Append, Answer, Room, Steps}
use Rattle.oram_walk.specs.declared.slots.Access.{Access}
use Rattle.oram_walk.specs.declared.slots.Purpose.{Purpose}
use Rattle.oram_walk.specs.declared.slots.Purpose.TheVariants.{Refill, Keep, Replace}
use Rattle.oram_walk.specs.declared.slots.Seen.{Seen}
use Rattle.posmap_lookaside.specs.Addresses.{used}
use Rattle.rate_enforcer.specs.PortStep.{PortState}
use Rattle.oram_lines.specs.Noted.{Answers, NotedState, NotedStep, StopsAt, IsAnswerIn, lines_then, AreAnswersIn}
use Rattle.oram_lines.specs.Noted.{lines_behind, IsMemoryOf, AreRunsNoted}
use Rattle.oram_lines.specs.Standing.{StandsFor, FitsPurpose, after_access, later}
use Rattle.oram_lines.proofs.KnownLaws.{kept_line, stored_line}

same_line : (x y : Line) → x.0 ≡ y.0 → x ≡ y
same_line x y same = ap {B = Line} (λ (bytes : List ℕ). record { 0 = bytes }) same

-- one answer more
answers_on : (lines : ℕ → Line) (answers : Answers) (request : Request) (seen : Seen) → AreAnswersIn lines answers
    → IsAnswerIn (lines_behind lines answers) request seen → AreAnswersIn lines (answers ++ (request, seen) ∷ [])
answers_on lines [] request seen all one = (one, tt)
answers_on lines ((first, answer) ∷ more) request seen (is, rest) one =
    (is, answers_on (lines_then lines first) more request seen rest one)

lines_on : (lines : ℕ → Line) (answers : Answers) (request : Request) (seen : Seen)
    → lines_behind lines (answers ++ (request, seen) ∷ []) ≡ lines_then (lines_behind lines answers) request
lines_on lines [] request seen = refl
lines_on lines ((first, answer) ∷ more) request seen = lines_on (lines_then lines first) more request seen

-- Where a request began with the lines of a memory, the answers since then are right, and it is the memory still.
pub record IsNoted (keys : Keys) (began : ℕ → Line) (g : Ghost) (s : NotedState) : Type 0 where
  pub right : AreAnswersIn began s.answers
  pub outside : IsMemoryOf keys g (lines_behind began s.answers)

-- a port stands for counters and lines, and so does what is noted of it
pub record StandsNoted (keys : Keys) (levels : ℕ) (began : ℕ → Line) (least : ℕ) (front : FrontState) (g : Ghost)
    (s : NotedState) : Type 0 where
  pub port : StandsFor keys levels least front g s.port
  pub noted : IsNoted keys began g s

-- one step more
pub noted_on : (keys : Keys) (began : ℕ → Line) (g h : Ghost) (s t : NotedState) (request : Request) (seen : Seen)
    → IsNoted keys began g s → t.answers ≡ s.answers ++ (request, seen) ∷ []
    → IsAnswerIn (lines_behind began s.answers) request seen
    → IsMemoryOf keys h (lines_then (lines_behind began s.answers) request) → IsNoted keys began h t
noted_on keys began g h s t request seen x more right outside = record {
  right = subst (AreAnswersIn began) (sym more) (answers_on began s.answers request seen x.right right);
  outside = subst (λ (answers : Answers). IsMemoryOf keys h (lines_behind began answers)) (sym more)
      (subst (IsMemoryOf keys h) (sym (lines_on began s.answers request seen)) outside);
}

-- at the start of a request nothing was answered
pub stands_first : (keys : Keys) (levels : ℕ) (began : ℕ → Line) (front : FrontState) (g : Ghost) (s : PortState)
    → StandsFor keys levels 0 front g s → IsMemoryOf keys g began
    → StandsNoted keys levels began 0 front g (record { port = s; answers = [] })
stands_first keys levels began front g s st outside =
    record { port = st; noted = record { right = tt; outside = outside } }

-- the lines of all blocks
abbrev pub all_lines : Keys → Ghost → ℕ → Line
all_lines keys g a = record { 0 = line_at keys.shape g a }

pub all_outside : (keys : Keys) (g : Ghost) → IsMemoryOf keys g (all_lines keys g)
all_outside keys g = record { each = λ a inside unheld apart. refl }

-- at the start they are zeros
pub zeros_outside : (keys : Keys) → AreKeys keys → IsMemoryOf keys first_ghost zeros
unfolding zero_line
zeros_outside keys lawful = record { each = λ a inside unheld apart. sym ((start_sound keys).blank a inside refl) }

-- A run of a plan is one in which its answers are noted.
module _ (keys : Keys) (levels : ℕ) where
  abbrev pub at : PortState → Answers → NotedState
  at s answers = record { port = s; answers = answers }

  pub step_noted : (s t : PortState) (before : Answers) (request : Request) (seen : Seen)
      → Steps (SlotStep keys levels) s request (Ok seen) t
      → (answers : Answers) × Steps (NotedStep keys levels) (at s before) request (Ok seen) (at t answers)
  step_noted s t before (Slot access) seen one = (before ++ (Slot access, seen) ∷ [], (one, refl))
  step_noted s t before (Append message) seen one = (before ++ (Append message, seen) ∷ [], (one, refl))
  step_noted s t before (Answer line value) seen one = (before ++ (Answer line value, seen) ∷ [], (one, refl))
  step_noted s t before Room seen one = (before, (one.0, ap (λ (y : PortState). at y before) one.1))

  pub ends_noted : {B A : Type 0} (plan : Plan Request Seen B A) (s t : PortState) (before : Answers) (x : A)
      → Ends (Steps (SlotStep keys levels)) plan s t x
      → (answers : Answers) × Ends (Steps (NotedStep keys levels)) plan (at s before) (at t answers) x
  ends_noted (Done a) s t before x ends = (before, (ends.0, ap (λ (y : PortState). at y before) ends.1))
  ends_noted (Ask q b k) s t before x (seen, m, one, rest) =
      let (middle, first) = step_noted s m before q seen one in
      let (answers, later) = ends_noted (k seen) m t middle x rest in
      (answers, (seen, at m middle, first, later))

  halt_noted : (s t : PortState) (before : Answers) (request : Request) (stop : Stop)
      → Steps (SlotStep keys levels) s request (Err stop) t
      → Steps (StopsAt keys levels s request) (at s before) request (Err stop) (at t before)
  halt_noted s t before (Slot access) stop one = ((one, refl), refl, refl)
  halt_noted s t before (Append message) stop one = ((one, refl), refl, refl)
  halt_noted s t before (Answer line value) stop one = ((one, refl), refl, refl)
  halt_noted s t before Room stop one = (one.0, ap (λ (y : PortState). at y before) one.1)

  -- an answered step is one wherever the run stops
  step_at : (mid : PortState) (last : Request) (s t : NotedState) (request : Request) (seen : Seen)
      → Steps (NotedStep keys levels) s request (Ok seen) t → Steps (StopsAt keys levels mid last) s request (Ok seen) t
  step_at mid last s t (Slot access) seen one = one
  step_at mid last s t (Append message) seen one = one
  step_at mid last s t (Answer line value) seen one = one
  step_at mid last s t Room seen one = one

  pub step_from : (mid : PortState) (last : Request) (s t : NotedState) (request : Request) (seen : Seen)
      → Steps (StopsAt keys levels mid last) s request (Ok seen) t → Steps (NotedStep keys levels) s request (Ok seen) t
  step_from mid last s t (Slot access) seen one = one
  step_from mid last s t (Append message) seen one = one
  step_from mid last s t (Answer line value) seen one = one
  step_from mid last s t Room seen one = one

  pub stops_noted : {B A : Type 0} (plan : Plan Request Seen B A) (s t : PortState) (before : Answers) (stop : Stop)
      (left : B) → Stops (Steps (SlotStep keys levels)) plan s t stop left
      → (answers : Answers) × (mid : PortState) × (last : Request)
      × Stops (Steps (StopsAt keys levels mid last)) plan (at s before) (at t answers) stop left
  stops_noted (Done a) s t before stop left stops = absurd stops
  stops_noted (Ask q b k) s t before stop left (inl (one, is)) =
      (before, s, q, inl (halt_noted s t before q stop one, is))
  stops_noted (Ask q b k) s t before stop left (inr (seen, m, one, rest)) =
      let (middle, first) = step_noted s m before q seen one in
      let (answers, mid, last, later) = stops_noted (k seen) m t middle stop left rest in
      (answers, mid, last, inr (seen, at m middle, step_at mid last (at s before) (at m middle) q seen first, later))

  -- and it is one where they aren't
  pub step_bare : (s t : NotedState) (request : Request) (seen : Seen)
      → Steps (NotedStep keys levels) s request (Ok seen) t
      → Steps (SlotStep keys levels) s.port request (Ok seen) t.port
  step_bare s t (Slot access) seen one = one.0
  step_bare s t (Append message) seen one = one.0
  step_bare s t (Answer line value) seen one = one.0
  step_bare s t Room seen one = (one.0, ap (λ (y : NotedState). y.port) one.1)

  pub ends_bare : {B A : Type 0} (plan : Plan Request Seen B A) (s t : NotedState) (x : A)
      → Ends (Steps (NotedStep keys levels)) plan s t x → Ends (Steps (SlotStep keys levels)) plan s.port t.port x
  ends_bare (Done a) s t x ends = (ends.0, ap (λ (y : NotedState). y.port) ends.1)
  ends_bare (Ask q b k) s t x (seen, m, one, rest) =
      (seen, m.port, step_bare s m q seen one, ends_bare (k seen) m t x rest)

  halt_bare : (mid : PortState) (last : Request) (s t : NotedState) (request : Request) (stop : Stop)
      → Steps (StopsAt keys levels mid last) s request (Err stop) t
      → Steps (SlotStep keys levels) s.port request (Err stop) t.port
  halt_bare mid last s t (Slot access) stop one = one.0.0
  halt_bare mid last s t (Append message) stop one = one.0.0
  halt_bare mid last s t (Answer line value) stop one = one.0.0
  halt_bare mid last s t Room stop one = (one.0, ap (λ (y : NotedState). y.port) one.1)

  pub stops_bare : (mid : PortState) (last : Request) {B A : Type 0} (plan : Plan Request Seen B A) (s t : NotedState)
      (stop : Stop) (left : B) → Stops (Steps (StopsAt keys levels mid last)) plan s t stop left
      → Stops (Steps (SlotStep keys levels)) plan s.port t.port stop left
  stops_bare mid last (Done a) s t stop left stops = absurd stops
  stops_bare mid last (Ask q b k) s t stop left (inl (one, is)) = inl (halt_bare mid last s t q stop one, is)
  stops_bare mid last (Ask q b k) s t stop left (inr (seen, m, one, rest)) =
      inr (
        seen,
        m.port,
        step_bare s m q seen (step_from mid last s m q seen one),
        stops_bare mid last (k seen) m t stop left rest,
      )

  pub runs_noted : {A : Type 0} (plan : FrontPlan A) → AreRunsNoted keys levels plan
  runs_noted plan = record {
    ends = ends_noted plan;
    stops = stops_noted plan;
    ends_back = ends_bare plan;
    stops_back = λ mid last s t. stops_bare mid last plan s t;
  }

-- what stands in a list stands in it where the first that meets a test goes first
has_without : {A : Type 0} (test : A → Bool) (xs : List A) (y x : A) → find test xs ≡ Some y → Has x xs
    → Has x (y ∷ without_first test xs)
has_without test [] y x found has = absurd has
has_without test (z ∷ xs) y x found has = elim (cases_Bool (test z)) [
  | inl here ↦
      (let same : z ≡ y = some_is (sym (find-yes test z xs here) ∙ found) in
      subst (λ l. Has x (y ∷ l)) (sym (without_first-yes test z xs here)) (subst (λ w. Has x (w ∷ xs)) same has))
  | inr other ↦ subst (λ l. Has x (y ∷ l)) (sym (without_first-no test z xs other)) (elim has [
    | inl is ↦ inr (inl is)
    | inr later ↦ elim (has_without test xs y x (sym (find-no test z xs other) ∙ found) later) [
      | inl first ↦ inl first
      | inr rest ↦ inr (inr rest)
    ]
  ])
]

has_promoted : {A : Type 0} (test : A → Bool) (xs : List A) (x : A) → Has x xs → Has x (promoted_first test xs)
has_promoted test xs x has = by (find test xs) refl
  where
    by : (found : Option _) → find test xs ≡ found → Has x (promoted_first test xs)
    by None none = subst (Has x) (sym (promoted_first-none test xs none)) has
    by (Some y) found =
        subst (Has x) (sym (promoted_first-some test xs y found)) (has_without test xs y x found has)

-- what isn't among the first ones of a list with one more stands last
first_or_last : (n : ℕ) (xs : List ℕ) (b : ℕ) → length xs ≤ n + 1 → Has b xs
    → Has b (take n xs) ⊎ (slice_get xs n ≡ Some b)
first_or_last n [] b few has = absurd has
first_or_last zero (x ∷ xs) b few (inl is) = inr (ap (λ y. Some y) (sym is))
first_or_last zero (x ∷ []) b few (inr later) = absurd later
first_or_last zero (x ∷ (y ∷ xs)) b few (inr later) = absurd (omega arith)
first_or_last (suc n) (x ∷ xs) b few (inl is) = inl (inl is)
first_or_last (suc n) (x ∷ xs) b few (inr later) = elim (first_or_last n xs b (omega arith) later) [
  | inl among ↦ inl (inr among)
  | inr last ↦ inr last
]

module _ (keys : Keys) (lawful : AreKeys keys) where
  -- the parent of a block is on chip
  abbrev pub ParentHeld : Ghost → ℕ → Type 0
  ParentHeld g a = (p : ℕ) → parent_of keys.shape.lines keys.shape.layers a ≡ Some p → Has p g.held

  -- the counter of such a block stands in no line outside
  others_same : (g : Ghost) (a b : ℕ) (c : Counter) → ParentHeld g a → b < keys.shape.total → (Has b g.held → ⊥)
      → line_at keys.shape (record g { count = put_at g.count a c }) b ≡ line_at keys.shape g b
  others_same g a b c parent inside unheld =
      line_same keys.shape g.count a c (g.data_lines b) b lawful.shape inside (λ up. unheld (parent b up))

  -- so it may change
  pub counter_outside : (g : Ghost) (lines : ℕ → Line) (a : ℕ) (c : Counter) → ParentHeld g a
      → IsMemoryOf keys g lines → IsMemoryOf keys (record g { count = put_at g.count a c }) lines
  counter_outside g lines a c parent x = record {
    each = λ b inside unheld apart. x.each b inside unheld apart ∙ sym (others_same g a b c parent inside unheld);
  }

  -- a block is taken, to be held
  taken_outside : (g : Ghost) (lines : ℕ → Line) (a : ℕ) (c : Counter) → g.flight ≡ None → ParentHeld g a
      → IsMemoryOf keys g lines → IsMemoryOf keys (refilled g a c) lines
  taken_outside g lines a c calm parent x = record {
    each = λ b inside unheld apart. x.each b inside unheld (λ flying. none_is_not (sym calm ∙ flying))
        ∙ sym (others_same g a b c parent inside unheld);
  }

  -- a line of a block is put back
  put_outside : (g : Ghost) (lines after : ℕ → Line) (a : ℕ) (c : Counter) (l : List ℕ) → g.flight ≡ None
      → ParentHeld g a → IsMemoryOf keys g lines → (after a).0 ≡ line_at keys.shape (done g a c l) a
      → ((b : ℕ) → (b ≡ a → ⊥) → after b ≡ lines b) → IsMemoryOf keys (done g a c l) after
  put_outside g lines after a c l calm parent x here others = record {
    each = λ b inside unheld apart. elim (cases_eq b a) [
      | inl is ↦ subst (λ (n : ℕ). (after n).0 ≡ line_at keys.shape (done g a c l) n) (sym is) here
      | inr other ↦ ap (λ (y : Line). y.0) (others b other)
          ∙ (x.each b inside unheld (λ flying. none_is_not (sym calm ∙ flying))
          ∙ (sym (others_same g a b c parent inside unheld)
          ∙ ap (λ bytes. line_by (put_at g.count a c) bytes (children_of keys.shape.lines keys.shape.layers b))
          (sym (put_other g.data_lines a l b other))))
    ];
  }

  -- an access
  pub access_outside : (g : Ghost) (lines : ℕ → Line) (access : Access) (purpose : Purpose) → g.flight ≡ None
      → ParentHeld g access.address.0 → access.address.0 < keys.shape.total
      → FitsPurpose keys.shape access.address.0 purpose
      → (lines access.address.0).0 ≡ line_at keys.shape g access.address.0 → IsMemoryOf keys g lines
      → IsMemoryOf keys (after_access keys.shape g access purpose) (put_back lines access.address.0 purpose)
  access_outside g lines access Refill calm parent inside fits is x =
      taken_outside g lines access.address.0 access.next calm parent x
  access_outside g lines access Keep calm parent inside fits is x =
      let a = access.address.0 in
      put_outside g lines lines a access.next (line_at keys.shape g a) calm parent x
      (is ∙ kept_line keys lawful g a access.next (line_at keys.shape g a) inside refl) (λ b other. refl)
  access_outside g lines access (Replace value) calm parent inside fits is x =
      let a = access.address.0 in
      put_outside g lines (put_line lines a value) a access.next value.0 calm parent x
      (ap (λ (y : Line). y.0) (put_same lines a value) ∙ stored_line keys lawful g a access.next value.0 fits.0)
      (λ b other. put_other lines a value b other)

  -- the block in flight is appended
  pub landed_outside : (g : Ghost) (lines : ℕ → Line) (m : Message) → g.flight ≡ Some m.address.0
      → m.line.0 ≡ line_at keys.shape g m.address.0 → IsMemoryOf keys g lines
      → IsMemoryOf keys (landed g) (put_line lines m.address.0 m.line)
  landed_outside g lines m flies line x = record {
    each = λ b inside unheld apart. elim (cases_eq b m.address.0) [
      | inl is ↦ subst (λ (n : ℕ). (put_line lines m.address.0 m.line n).0 ≡ line_at keys.shape g n) (sym is)
          (ap (λ (y : Line). y.0) (put_same lines m.address.0 m.line) ∙ line)
      | inr other ↦ ap (λ (y : Line). y.0) (put_other lines m.address.0 m.line b other)
          ∙ x.each b inside unheld (λ flying. other (some_is (sym flying ∙ flies)))
    ];
  }

  -- the block in flight comes to be held
  pub insert_outside : (g : Ghost) (lines : ℕ → Line) (plb a : ℕ) → g.flight ≡ Some a → length g.held ≤ plb
      → IsMemoryOf keys g lines → IsMemoryOf keys (inserted g plb a) lines
  insert_outside g lines plb a flies few x = record {
    each = λ b inside unheld apart.
        let gone : Has b (a ∷ g.held) → ⊥ = λ has.
        elim (first_or_last plb (a ∷ g.held) b (omega arith) has) [
          | inl among ↦ unheld among
          | inr last ↦ apart last
        ] in
        x.each b inside (λ has. gone (inr has)) (λ flying. gone (inl (some_is (sym flying ∙ flies))));
  }

  -- a held block is used
  pub used_outside : (g : Ghost) (lines : ℕ → Line) (p : ℕ) → IsMemoryOf keys g lines
      → IsMemoryOf keys (record g { held = used g.held p }) lines
  used_outside g lines p x = record {
    each = λ b inside unheld apart.
        x.each b inside (λ has. unheld (has_promoted (λ a. nat_eq a p) g.held b has)) apart;
  }

  -- An access that is answered with its block's line is answered right.
  pub slot_noted : (began : ℕ → Line) (g : Ghost) (s t : NotedState) (access : Access) (seen : Seen) (k : ℕ)
      → IsNoted keys began g s → t.answers ≡ s.answers ++ (Slot access, seen) ∷ [] → g.flight ≡ None
      → ParentHeld g access.address.0 → access.address.0 < keys.shape.total → (Has access.address.0 g.held → ⊥)
      → FitsPurpose keys.shape access.address.0 access.purpose
      → seen.line.0 ≡ line_at keys.shape g access.address.0
      → IsNoted keys began (after_access keys.shape (later g k) access access.purpose) t
  slot_noted began g s t access seen k x more calm parent inside unheld fits line =
      let a = access.address.0 in
      let here : (lines_behind began s.answers a).0 ≡ line_at keys.shape g a =
      x.outside.each a inside unheld (λ flying. none_is_not (sym calm ∙ flying)) in
      noted_on keys began g (after_access keys.shape (later g k) access access.purpose) s t (Slot access) seen x more
      (same_line seen.line (lines_behind began s.answers a) (line ∙ sym here))
      (access_outside (later g k) (lines_behind began s.answers) access access.purpose calm parent inside fits here
      (record { each = x.outside.each }))
