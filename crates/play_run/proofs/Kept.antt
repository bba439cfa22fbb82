-- What the slots of requests leave: the numbers, the clock, and where a slot came too late its start.
use Rattle.std.proofs.Common.{◌≡◌, ◌<◌, ◌≤◌, ℕ, zero, suc, ◌+◌, Bool, true, false, List, [], ◌∷◌, ◌++◌, Option, Some}
use Rattle.std.proofs.Common.{None}
use Rattle.std.proofs.Common.{refl, sym, ap, ◌∙◌, subst, arith}
use Rattle.std.specs.Prelude.{min, nat_lt}
use Rattle.std.proofs.lemmas.Bool.{ltb-true, ltb-false}
use Rattle.asc_base.specs.TreeShape.{olat_of}
use Rattle.asc_base.specs.declared.settings.Config.{Config}
use Rattle.bus_schedule.specs.Timetable.{public_of}
use Rattle.data_cache.specs.Lines.{LineRequest, Fetch, Store}
use Rattle.posmap_lookaside.specs.Walk.{WalkAccess, walk}
use Rattle.run_play.specs.Requests.{Standing, Taken, none_taken, followed, one_by_one, request_done, requested}
use Rattle.run_play.specs.Requests.{value_of, take_slot, access_slot, walk_sizes, request_slots}
use Rattle.run_play.specs.Slots.{Pace, Numbers, Slot, Passed, pass_one, pass_up_to, passed, pace_after}
use Rattle.run_play.proofs.Finished.{all-same, followed-same}
use Rattle.play_run.specs.Follows.{with_fetches}

-- ---- slots that leave these numbers
abbrev pub AreLeft : Numbers → List Slot → Type 0
AreLeft numbers [] = Unit {0}
AreLeft numbers (slot ∷ slots) = (slot.left ≡ numbers) × AreLeft numbers slots

pub left-append : (numbers : Numbers) (xs ys : List Slot) → AreLeft numbers xs → AreLeft numbers ys
    → AreLeft numbers (xs ++ ys)
left-append numbers [] ys hx hy = hy
left-append numbers (x ∷ xs) ys hx hy = (hx.0, left-append numbers xs ys hx.1 hy)

pub left-at : (numbers : Numbers) (before later : List Slot) (slot : Slot) → AreLeft numbers (before ++ slot ∷ later)
    → slot.left ≡ numbers
left-at numbers [] later slot h = h.0
left-at numbers (b ∷ before) later slot h = left-at numbers before later slot h.1

-- ---- what each keeps
followed-keep : (P : Standing → Type 0) (first : Taken) (rest : Standing → Taken) (late : Option ℕ)
    → first.standing.late ≡ late → P first.standing
    → (first.standing.late ≡ None → P (rest first.standing).standing) → P (followed first rest late).standing
followed-keep P first rest None is h more = more is
followed-keep P first rest (Some l) is h more = h

module _ {Q : Type 0} (take_one : Standing → Q → Taken) where
  pub all-keep : (P : Standing → Type 0)
      → ((now : Standing) (q : Q) → now.late ≡ None → P now → P (take_one now q).standing) → (qs : List Q)
      (now : Standing) → now.late ≡ None → P now → P (one_by_one take_one qs now).standing
  unfolding one_by_one
  all-keep P each [] now fresh h = h
  all-keep P each (q ∷ qs) now fresh h =
      let first : Taken = take_one now q in
      let one : P first.standing = each now q fresh h in
      followed-keep P first (one_by_one take_one qs) first.standing.late refl one
      (λ is. all-keep P each qs first.standing is one)

  followed-left : (numbers : Numbers) (first : Taken) (rest : Standing → Taken) (late : Option ℕ)
      → AreLeft numbers first.slots → AreLeft numbers (rest first.standing).slots
      → AreLeft numbers (followed first rest late).slots
  followed-left numbers first rest None one more = left-append numbers first.slots (rest first.standing).slots one more
  followed-left numbers first rest (Some late) one more = one

  pub all-left : ((now : Standing) (q : Q) → AreLeft now.numbers (take_one now q).slots)
      → ((now : Standing) (q : Q) → (take_one now q).standing.numbers ≡ now.numbers) → (qs : List Q) (now : Standing)
      → AreLeft now.numbers (one_by_one take_one qs now).slots
  unfolding one_by_one
  all-left each same [] now = tt
  all-left each same (q ∷ qs) now =
      let first : Taken = take_one now q in
      followed-left now.numbers first (one_by_one take_one qs) first.standing.late (each now q)
      (subst (λ (n : Numbers). AreLeft n (one_by_one take_one qs first.standing).slots) (same now q)
      (all-left each same qs first.standing))

-- where a slot came too late, it is the next one, and no time is left for it
abbrev pub IsLate : ℕ → Standing → Type 0
IsLate time now = (at : ℕ) → now.late ≡ Some at → (now.pace.beat.next ≡ at) × (time ≤ at)

pub not-late : (time : ℕ) (now : Standing) → now.late ≡ None → IsLate time now
not-late time now fresh at is = let no : None ≡ Some at = sym fresh ∙ is in absurd cc

-- the numbers after a request
abbrev pub counted : LineRequest → Numbers → Numbers
counted (Fetch line) numbers = record numbers { fetches = numbers.fetches + 1 }
counted (Store line value) numbers = numbers

pub counted-fetches : (request : LineRequest) (numbers : Numbers) (count : ℕ)
    → with_fetches (counted request numbers) count ≡ with_fetches numbers count
counted-fetches (Fetch line) numbers count = refl
counted-fetches (Store line value) numbers count = refl

module _ (config : Config) where
  -- ---- dummies
  one-left : (numbers : Numbers) (rest : Pace → Passed) (pace : Pace) (early : Bool)
      → ((next : Pace) → AreLeft numbers (rest next).slots)
      → AreLeft numbers (pass_one (public_of config) numbers rest pace early).slots
  one-left numbers rest pace false more = tt
  one-left numbers rest pace true more = (refl, more (pace_after (public_of config) pace None))

  up-left : (numbers : Numbers) (most time : ℕ) (pace : Pace)
      → AreLeft numbers (pass_up_to (public_of config) numbers most time pace).slots
  unfolding pass_up_to
  up-left numbers zero time pace = tt
  up-left numbers (suc most) time pace =
      one-left numbers (pass_up_to (public_of config) numbers most time) pace (nat_lt pace.beat.next time)
      (up-left numbers most time)

  pub passed-left : (numbers : Numbers) (time : ℕ) (pace : Pace)
      → AreLeft numbers (passed (public_of config) numbers time pace).slots
  passed-left numbers time pace = up-left numbers time time pace

  -- ---- an access
  abbrev before : Standing → Passed
  before now = passed (public_of config) now.numbers (min now.clock config.time) now.pace

  slot-left : (value : Option (List ℕ)) (now : Standing) (access : WalkAccess) (passing : Passed) (early : Bool)
      → AreLeft now.numbers passing.slots
      → AreLeft now.numbers (take_slot config value now access passing early).slots
  slot-left value now access passing true h = left-append now.numbers passing.slots _ h (refl, tt)
  slot-left value now access passing false h = h

  slot-numbers : (value : Option (List ℕ)) (now : Standing) (access : WalkAccess) (passing : Passed) (early : Bool)
      → (take_slot config value now access passing early).standing.numbers ≡ now.numbers
  slot-numbers value now access passing true = refl
  slot-numbers value now access passing false = refl

  slot-late : (value : Option (List ℕ)) (now : Standing) (access : WalkAccess) (passing : Passed) (early : Bool)
      → nat_lt passing.pace.beat.next config.time ≡ early → now.late ≡ None
      → IsLate config.time (take_slot config value now access passing early).standing
  slot-late value now access passing true is fresh at e =
      not-late config.time (take_slot config value now access passing true).standing fresh at e
  slot-late value now access passing false is fresh at e =
      let same : passing.pace.beat.next ≡ at = cc in
      (same, omega (arith, ltb-false passing.pace.beat.next config.time is, same))

  slot-clock : (value : Option (List ℕ)) (now : Standing) (access : WalkAccess) (passing : Passed) (early : Bool)
      (bound : ℕ) → nat_lt passing.pace.beat.next config.time ≡ early → now.clock ≤ bound
      → config.time + olat_of config.shape.levels ≤ bound
      → (take_slot config value now access passing early).standing.clock ≤ bound
  slot-clock value now access passing true bound is low far =
      let less : passing.pace.beat.next < config.time = ltb-true passing.pace.beat.next config.time is in omega arith
  slot-clock value now access passing false bound is low far = low

  access-left : (value : Option (List ℕ)) (now : Standing) (access : WalkAccess)
      → AreLeft now.numbers (access_slot config value now access).slots
  access-left value now access = slot-left value now access (before now)
      (nat_lt (before now).pace.beat.next config.time)
      (passed-left now.numbers (min now.clock config.time) now.pace)

  access-numbers : (value : Option (List ℕ)) (now : Standing) (access : WalkAccess)
      → (access_slot config value now access).standing.numbers ≡ now.numbers
  access-numbers value now access = slot-numbers value now access (before now)
      (nat_lt (before now).pace.beat.next config.time)

  -- ---- a request
  abbrev accesses_of : Standing → LineRequest → Taken
  accesses_of now request =
      one_by_one (access_slot config (value_of request)) (walk (walk_sizes config) now.chip (requested
      request)).accesses
      now

  abbrev done_after : Standing → LineRequest → Standing → Taken
  done_after now request after =
      none_taken (request_done request
      (record after { chip = (walk (walk_sizes config) now.chip (requested request)).chip }))

  accesses-numbers : (now : Standing) (request : LineRequest)
      → (accesses_of now request).standing.numbers ≡ now.numbers
  accesses-numbers now request =
      all-same (λ (s : Standing). s.numbers) (access_slot config (value_of request))
      (access-numbers (value_of request)) (walk (walk_sizes config) now.chip (requested request)).accesses now

  -- its slots
  pub request-left : (now : Standing) (request : LineRequest)
      → AreLeft now.numbers (request_slots config now request).slots
  request-left now request =
      let done : Taken = accesses_of now request in
      followed-left (access_slot config (value_of request)) now.numbers done (done_after now request)
      done.standing.late
      (all-left (access_slot config (value_of request)) (access-left (value_of request))
      (access-numbers (value_of request)) (walk (walk_sizes config) now.chip (requested request)).accesses now) tt

  done-clock : (request : LineRequest) (now : Standing) → (request_done request now).clock ≡ now.clock
  done-clock (Fetch line) now = refl
  done-clock (Store line value) now = refl

  done-late : (request : LineRequest) (now : Standing) → (request_done request now).late ≡ now.late
  done-late (Fetch line) now = refl
  done-late (Store line value) now = refl

  done-numbers : (request : LineRequest) (now : Standing)
      → (request_done request now).numbers ≡ counted request now.numbers
  done-numbers (Fetch line) now = refl
  done-numbers (Store line value) now = refl

  -- where one of its slots came too late
  pub request-late : (now : Standing) (request : LineRequest) → now.late ≡ None
      → IsLate config.time (request_slots config now request).standing
  request-late now request fresh =
      let done : Taken = accesses_of now request in
      followed-keep (IsLate config.time) done (done_after now request) done.standing.late refl
      (all-keep (access_slot config (value_of request)) (IsLate config.time)
      (λ s access none h. slot-late (value_of request) s access (before s)
      (nat_lt (before s).pace.beat.next config.time) refl none)
      (walk (walk_sizes config) now.chip (requested request)).accesses now fresh (not-late config.time now fresh))
      (λ none. not-late config.time (done_after now request done.standing).standing
      (done-late request
      (record done.standing { chip = (walk (walk_sizes config) now.chip (requested request)).chip }) ∙ none))

  -- its clock
  pub request-clock : (bound : ℕ) → config.time + olat_of config.shape.levels ≤ bound → (now : Standing)
      (request : LineRequest) → now.late ≡ None → now.clock ≤ bound
      → (request_slots config now request).standing.clock ≤ bound
  request-clock bound far now request fresh low =
      let done : Taken = accesses_of now request in
      let all : done.standing.clock ≤ bound =
      all-keep (access_slot config (value_of request)) (λ s. s.clock ≤ bound)
      (λ s access none h. slot-clock (value_of request) s access (before s)
      (nat_lt (before s).pace.beat.next config.time) bound refl h far)
      (walk (walk_sizes config) now.chip (requested request)).accesses now fresh low in
      followed-keep (λ s. s.clock ≤ bound) done (done_after now request) done.standing.late refl all
      (λ none. subst (λ n. n ≤ bound) (sym (done-clock request
      (record done.standing { chip = (walk (walk_sizes config) now.chip (requested request)).chip }))) all)

  -- its numbers: where a slot came too late they stay, and else a fetch counts
  late-numbers : (numbers : Numbers) (first : Taken) (rest : Standing → Taken) (late : Option ℕ) (at : ℕ)
      → first.standing.numbers ≡ numbers → ((next : Standing) → (rest next).standing.late ≡ next.late)
      → first.standing.late ≡ late → (followed first rest late).standing.late ≡ Some at
      → (followed first rest late).standing.numbers ≡ numbers
  late-numbers numbers first rest None at same keeps is e =
      let no : None ≡ Some at = sym is ∙ (sym (keeps first.standing) ∙ e) in absurd cc
  late-numbers numbers first rest (Some l) at same keeps is e = same

  in-time-numbers : (numbers : Numbers) (request : LineRequest) (first : Taken) (rest : Standing → Taken)
      (late : Option ℕ)
      → first.standing.numbers ≡ numbers
      → ((next : Standing) → (rest next).standing.numbers ≡ counted request next.numbers)
      → first.standing.late ≡ late → (followed first rest late).standing.late ≡ None
      → (followed first rest late).standing.numbers ≡ counted request numbers
  in-time-numbers numbers request first rest None same keeps is e =
      keeps first.standing ∙ ap (counted request) same
  in-time-numbers numbers request first rest (Some l) same keeps is e =
      let no : Some l ≡ None = sym is ∙ e in absurd cc

  pub request-late-numbers : (now : Standing) (request : LineRequest) (at : ℕ)
      → (request_slots config now request).standing.late ≡ Some at
      → (request_slots config now request).standing.numbers ≡ now.numbers
  request-late-numbers now request at e =
      let done : Taken = accesses_of now request in
      late-numbers now.numbers done (done_after now request) done.standing.late at (accesses-numbers now request)
      (λ next. done-late request
      (record next { chip = (walk (walk_sizes config) now.chip (requested request)).chip })) refl e

  pub request-numbers : (now : Standing) (request : LineRequest)
      → (request_slots config now request).standing.late ≡ None
      → (request_slots config now request).standing.numbers ≡ counted request now.numbers
  request-numbers now request e =
      let done : Taken = accesses_of now request in
      in-time-numbers now.numbers request done (done_after now request) done.standing.late
      (accesses-numbers now request)
      (λ next. done-numbers request
      (record next { chip = (walk (walk_sizes config) now.chip (requested request)).chip })) refl e

  -- the cycles stay
  cycles-done : (request : LineRequest) (now : Standing)
      → (request_done request now).numbers.cycles ≡ now.numbers.cycles
  cycles-done (Fetch line) now = refl
  cycles-done (Store line value) now = refl

  request-cycles : (now : Standing) (request : LineRequest)
      → (request_slots config now request).standing.numbers.cycles ≡ now.numbers.cycles
  request-cycles now request =
      let done : Taken = accesses_of now request in
      followed-same (λ (s : Standing). s.numbers.cycles) done (done_after now request) done.standing.late
      (λ next. cycles-done request
      (record next { chip = (walk (walk_sizes config) now.chip (requested request)).chip }))
      ∙ ap (λ (n : Numbers). n.cycles) (accesses-numbers now request)

  -- ---- requests one after another
  pub requests-cycles : (requests : List LineRequest) (now : Standing)
      → (one_by_one (request_slots config) requests now).standing.numbers.cycles ≡ now.numbers.cycles
  requests-cycles requests now =
      all-same (λ (s : Standing). s.numbers.cycles) (request_slots config) request-cycles requests now

  pub requests-late : (requests : List LineRequest) (now : Standing) → now.late ≡ None
      → IsLate config.time (one_by_one (request_slots config) requests now).standing
  requests-late requests now fresh =
      all-keep (request_slots config) (IsLate config.time) (λ s q none h. request-late s q none) requests now fresh
      (not-late config.time now fresh)

  pub requests-clock : (bound : ℕ) → config.time + olat_of config.shape.levels ≤ bound → (requests : List LineRequest)
      (now : Standing) → now.late ≡ None → now.clock ≤ bound
      → (one_by_one (request_slots config) requests now).standing.clock ≤ bound
  requests-clock bound far requests now fresh low =
      all-keep (request_slots config) (λ s. s.clock ≤ bound) (λ s q none h. request-clock bound far s q none h) requests
      now fresh low
