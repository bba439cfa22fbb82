-- What is taken keeps the timetable: a slot, slots that pass, accesses, requests.
use Rattle.std.proofs.Common.{◌≡◌, ◌<◌, ◌≤◌, ℕ, zero, suc, ◌+◌, ◌-◌, Bool, true, false, cond, List, [], ◌∷◌, ◌++◌}
use Rattle.std.proofs.Common.{length, Option, Some, None, refl, sym, ap, ◌∙◌, subst, arith, append-nil, append_assoc}
use Rattle.std.proofs.Common.{inl, inr}
use Rattle.std.specs.Prelude.{min, unwrap_or, nat_lt, ◌==◌, ◌⊎◌}
use Rattle.std.proofs.lemmas.Bool.{cases_Bool, ltb-false, le-ltb, lt-ltb}
use Rattle.asc_base.specs.TreeShape.{olat_of}
use Rattle.asc_base.specs.declared.block.Message.{Message}
use Rattle.asc_base.specs.declared.block.Point.{Point}
use Rattle.asc_base.specs.declared.block.Point.TheVariants.{Dummy}
use Rattle.asc_base.specs.declared.settings.Config.{Config}
use Rattle.bus_schedule.specs.declared.beat.Beat.{Beat}
use Rattle.bus_schedule.specs.Timetable.{Public, public_of, count_of, rate_at, falls_next, beat_with}
use Rattle.data_cache.specs.Lines.{LineRequest, Fetch, Store}
use Rattle.epoch_learner.specs.Heard.{Heard}
use Rattle.epoch_learner.specs.LearnerRule.{nearest, index_by_sums, idle_per_access, learner_rule}
use Rattle.epoch_learner.proofs.Nearest.{nearest_first}
use Rattle.posmap_lookaside.specs.Walk.{WalkAccess, walk}
use Rattle.run_play.specs.Slots.{Pace, Numbers, Slot, heard_next, choice_next, pace_after, slot_next, dummy_next}
use Rattle.run_play.specs.Slots.{Passed, pass_one, pass_up_to, passed}
use Rattle.run_play.specs.Requests.{Standing, Taken, none_taken, followed, one_by_one, request_done, requested}
use Rattle.run_play.specs.Requests.{value_of, take_slot, access_slot, walk_sizes, request_slots}
use Rattle.run_play.proofs.Paces.{Paced, IsNext, paced-without, paced-chosen}

-- the learner's index is that of a rate
index-by : (rates : List ℕ) (olat cycles real waste : ℕ) → 0 < length rates → (none : Bool)
    → cond none (length rates - 1) (nearest rates (idle_per_access olat cycles real waste)) < length rates
index-by rates olat cycles real waste some true = omega arith
index-by rates olat cycles real waste some false =
    (nearest_first rates (idle_per_access olat cycles real waste) some).0

index-within : (rates : List ℕ) (olat cycles real waste : ℕ) → 0 < length rates
    → index_by_sums rates olat cycles real waste < length rates
unfolding index_by_sums
index-within rates olat cycles real waste some = index-by rates olat cycles real waste some (real == 0)

module _ (p : Public) (some : 0 < count_of p) where
  -- a slot
  paced-by : (slots : List Slot) (pace : Pace) (slot : Slot) (asked : Option ℕ) → Paced p slots pace
      → IsNext p pace (pace_after p pace asked) slot → slot.chosen ≡ choice_next p pace asked
      → (falls_next p pace.beat ≡ true) ⊎ (falls_next p pace.beat ≡ false)
      → Paced p (slots ++ slot ∷ []) (pace_after p pace asked)
  paced-by slots pace slot asked h next chosen (inl falls) =
      let heard : Heard = heard_next p pace asked in
      let index : ℕ = learner_rule p.rates (olat_of p.levels) heard.accesses (heard.ended - heard.since) in
      let is : choice_next p pace asked ≡ Some index = ap (λ b. cond {A = Option ℕ} b (Some index) None) falls in
      paced-chosen p slots pace (pace_after p pace asked) slot index h falls
      (index-within p.rates (olat_of p.levels) _ _ _ some) next (chosen ∙ is)
      (ap
      (λ b. cond {A = Beat} b
      (beat_with p pace.beat (rate_at p.rates (unwrap_or (choice_next p pace asked) 0)) (pace.beat.choices + 1))
      (beat_with p pace.beat pace.beat.rate pace.beat.choices)) falls
      ∙ ap (λ o. beat_with p pace.beat (rate_at p.rates (unwrap_or o 0)) (pace.beat.choices + 1)) is)
  paced-by slots pace slot asked h next chosen (inr falls) =
      let heard : Heard = heard_next p pace asked in
      let index : ℕ = learner_rule p.rates (olat_of p.levels) heard.accesses (heard.ended - heard.since) in
      let is : choice_next p pace asked ≡ None = ap (λ b. cond {A = Option ℕ} b (Some index) None) falls in
      paced-without p slots pace (pace_after p pace asked) slot h falls next (chosen ∙ is)
      (ap
      (λ b. cond {A = Beat} b
      (beat_with p pace.beat (rate_at p.rates (unwrap_or (choice_next p pace asked) 0)) (pace.beat.choices + 1))
      (beat_with p pace.beat pace.beat.rate pace.beat.choices)) falls)

  pub paced-next : (slots : List Slot) (pace : Pace) (numbers : Numbers) (asked : Option ℕ) (point : Point)
      (put appended : Option Message) → Paced p slots pace
      → Paced p (slots ++ slot_next p pace numbers asked point put appended ∷ []) (pace_after p pace asked)
  paced-next slots pace numbers asked point put appended h =
      paced-by slots pace (slot_next p pace numbers asked point put appended) asked h
      (record { start = refl; heard = refl; dummies = refl }) refl (cases_Bool (falls_next p pace.beat))

  -- slots that pass
  abbrev Goes : Passed → Pace → Type 0
  Goes all pace = (slots : List Slot) → Paced p slots pace → Paced p (slots ++ all.slots) all.pace

  goes-one : (numbers : Numbers) (rest : Pace → Passed) (pace : Pace) (early : Bool)
      → ((next : Pace) → Goes (rest next) next) → Goes (pass_one p numbers rest pace early) pace
  goes-one numbers rest pace false more slots h = subst (λ l. Paced p l pace) (sym (append-nil slots)) h
  goes-one numbers rest pace true more slots h =
      let next : Pace = pace_after p pace None in
      let dummy : Slot = dummy_next p pace numbers in
      subst (λ l. Paced p l (rest next).pace) (append_assoc slots (dummy ∷ []) (rest next).slots)
      (more next (slots ++ dummy ∷ []) (paced-next slots pace numbers None (Dummy pace.dummies) None None h))

  goes-up : (numbers : Numbers) (most time : ℕ) (pace : Pace) → Goes (pass_up_to p numbers most time pace) pace
  unfolding pass_up_to
  goes-up numbers zero time pace slots h = subst (λ l. Paced p l pace) (sym (append-nil slots)) h
  goes-up numbers (suc most) time pace slots h =
      goes-one numbers (pass_up_to p numbers most time) pace (nat_lt pace.beat.next time)
      (goes-up numbers most time) slots h

  pub paced-passed : (numbers : Numbers) (time : ℕ) (pace : Pace) → Goes (passed p numbers time pace) pace
  paced-passed numbers time pace = goes-up numbers time time pace

-- the next start is later
next-by : (p : Public) (beat : Beat) (index : ℕ) (falls : Bool)
    → beat.next < (cond {A = Beat} falls (beat_with p beat (rate_at p.rates index) (beat.choices + 1))
    (beat_with p beat beat.rate beat.choices)).next
next-by p beat index true = omega arith
next-by p beat index false = omega arith

pub next-later : (p : Public) (pace : Pace) (asked : Option ℕ) → pace.beat.next < (pace_after p pace asked).beat.next
next-later p pace asked =
    next-by p pace.beat (unwrap_or (choice_next p pace asked) 0) (falls_next p pace.beat)

-- the slot that is next after those that pass isn't before the time
far-one : (p : Public) (numbers : Numbers) (rest : Pace → Passed) (most time : ℕ) (pace : Pace) (early : Bool)
    → nat_lt pace.beat.next time ≡ early → time ≤ pace.beat.next + suc most
    → ((next : Pace) → time ≤ next.beat.next + most → time ≤ (rest next).pace.beat.next)
    → time ≤ (pass_one p numbers rest pace early).pace.beat.next
far-one p numbers rest most time pace false is near more = ltb-false pace.beat.next time is
far-one p numbers rest most time pace true is near more =
    more (pace_after p pace None) (omega (arith, next-later p pace None))

far-up : (p : Public) (numbers : Numbers) (most time : ℕ) (pace : Pace) → time ≤ pace.beat.next + most
    → time ≤ (pass_up_to p numbers most time pace).pace.beat.next
unfolding pass_up_to
far-up p numbers zero time pace near = omega arith
far-up p numbers (suc most) time pace near =
    far-one p numbers (pass_up_to p numbers most time) most time pace (nat_lt pace.beat.next time) refl near
    (far-up p numbers most time)

pub passed-far : (p : Public) (numbers : Numbers) (time : ℕ) (pace : Pace)
    → time ≤ (passed p numbers time pace).pace.beat.next
passed-far p numbers time pace = far-up p numbers time time pace (omega arith)

-- enough dummies are as good as more
enough-one : (p : Public) (numbers : Numbers) (one two : Pace → Passed) (pace : Pace) (early : Bool)
    → (early ≡ true → one (pace_after p pace None) ≡ two (pace_after p pace None))
    → pass_one p numbers one pace early ≡ pass_one p numbers two pace early
enough-one p numbers one two pace false same = refl
enough-one p numbers one two pace true same =
    ap
    (λ (more : Passed).
    let all : Passed = record { slots = dummy_next p pace numbers ∷ more.slots; pace = more.pace } in all) (same refl)

none-passes : (p : Public) (numbers : Numbers) (rest : Pace → Passed) (time : ℕ) (pace : Pace) → time ≤ pace.beat.next
    → pass_one p numbers rest pace (nat_lt pace.beat.next time) ≡ record { slots = []; pace = pace }
none-passes p numbers rest time pace far = ap (pass_one p numbers rest pace) (le-ltb pace.beat.next time far)

enough : (p : Public) (numbers : Numbers) (m k time : ℕ) (pace : Pace) → time ≤ pace.beat.next + m
    → time ≤ pace.beat.next + k → pass_up_to p numbers m time pace ≡ pass_up_to p numbers k time pace
unfolding pass_up_to
enough p numbers zero zero time pace near far = refl
enough p numbers zero (suc k) time pace near far =
    sym (none-passes p numbers (pass_up_to p numbers k time) time pace (omega arith))
enough p numbers (suc m) zero time pace near far =
    none-passes p numbers (pass_up_to p numbers m time) time pace (omega arith)
enough p numbers (suc m) (suc k) time pace near far =
    enough-one p numbers (pass_up_to p numbers m time) (pass_up_to p numbers k time) pace (nat_lt pace.beat.next time)
    (λ early. enough p numbers m k time (pace_after p pace None) (omega (arith, next-later p pace None))
    (omega (arith, next-later p pace None)))

-- no slot starts before the time, or one does and then come the others
pub passed-none : (p : Public) (numbers : Numbers) (time : ℕ) (pace : Pace) → time ≤ pace.beat.next
    → passed p numbers time pace ≡ record { slots = []; pace = pace }
unfolding pass_up_to
passed-none p numbers time pace far =
    enough p numbers time 0 time pace (omega arith) (omega arith)

pub passed-one : (p : Public) (numbers : Numbers) (time : ℕ) (pace : Pace) → pace.beat.next < time
    → let more = passed p numbers time (pace_after p pace None) in
    passed p numbers time pace ≡ record { slots = dummy_next p pace numbers ∷ more.slots; pace = more.pace }
unfolding pass_up_to
passed-one p numbers time pace early =
    enough p numbers time (suc time) time pace (omega arith) (omega arith)
    ∙ ap (pass_one p numbers (pass_up_to p numbers time time) pace) (lt-ltb pace.beat.next time early)

module _ (config : Config) (some : 0 < count_of (public_of config)) where
  -- what is taken from what stands
  abbrev pub Keeps : Taken → Standing → Type 0
  Keeps taken now =
      (slots : List Slot) → Paced (public_of config) slots now.pace
      → Paced (public_of config) (slots ++ taken.slots) taken.standing.pace

  pub keeps-none : (now after : Standing) → after.pace ≡ now.pace → Keeps (none_taken after) now
  keeps-none now after same slots h =
      subst (λ l. Paced (public_of config) l after.pace) (sym (append-nil slots))
      (subst (Paced (public_of config) slots) (sym same) h)

  pub keeps-followed : (first : Taken) (rest : Standing → Taken) (late : Option ℕ) (now : Standing) → Keeps first now
      → ((next : Standing) → Keeps (rest next) next) → Keeps (followed first rest late) now
  keeps-followed first rest (Some late) now one more slots h = one slots h
  keeps-followed first rest None now one more slots h =
      subst (λ l. Paced (public_of config) l (rest first.standing).standing.pace)
      (append_assoc slots first.slots (rest first.standing).slots)
      (more first.standing (slots ++ first.slots) (one slots h))

  pub keeps-all : {Q : Type 0} (take_one : Standing → Q → Taken)
      → ((now : Standing) (q : Q) → Keeps (take_one now q) now) → (qs : List Q) (now : Standing)
      → Keeps (one_by_one take_one qs now) now
  unfolding one_by_one
  keeps-all take_one each [] now slots h = keeps-none now now refl slots h
  keeps-all take_one each (q ∷ qs) now slots h =
      keeps-followed (take_one now q) (one_by_one take_one qs) (take_one now q).standing.late now (each now q)
      (keeps-all take_one each qs) slots h

  -- an access
  keeps-slot : (value : Option (List ℕ)) (now : Standing) (access : WalkAccess) (before : Passed) (early : Bool)
      (slots : List Slot) → Paced (public_of config) (slots ++ before.slots) before.pace
      → Paced (public_of config) (slots ++ (take_slot config value now access before early).slots)
      (take_slot config value now access before early).standing.pace
  keeps-slot value now access before false slots h = h
  keeps-slot value now access before true slots h =
      subst (λ l. Paced (public_of config) l (pace_after (public_of config) before.pace (Some now.clock)))
      (append_assoc slots before.slots _)
      (paced-next (public_of config) some (slots ++ before.slots) before.pace now.numbers (Some now.clock) _ _ _ h)

  pub keeps-access : (value : Option (List ℕ)) (now : Standing) (access : WalkAccess)
      → Keeps (access_slot config value now access) now
  keeps-access value now access slots h =
      let before : Passed = passed (public_of config) now.numbers (min now.clock config.time) now.pace in
      keeps-slot value now access before (nat_lt before.pace.beat.next config.time) slots
      (paced-passed (public_of config) some now.numbers (min now.clock config.time) now.pace slots h)

  -- a request
  done-pace : (request : LineRequest) (now : Standing) → (request_done request now).pace ≡ now.pace
  done-pace (Fetch line) now = refl
  done-pace (Store line value) now = refl

  pub keeps-request : (now : Standing) (request : LineRequest) → Keeps (request_slots config now request) now
  keeps-request now request =
      let walked = walk (walk_sizes config) now.chip (requested request) in
      let done : Taken = one_by_one (access_slot config (value_of request)) walked.accesses now in
      keeps-followed done (λ after. none_taken (request_done request (record after { chip = walked.chip })))
      done.standing.late now (keeps-all (access_slot config (value_of request)) (keeps-access (value_of request))
      walked.accesses now)
      (λ after. keeps-none after (request_done request (record after { chip = walked.chip }))
      (done-pace request (record after { chip = walked.chip })))

  pub keeps-requests : (requests : List LineRequest) (now : Standing)
      → Keeps (one_by_one (request_slots config) requests now) now
  keeps-requests requests now = keeps-all (request_slots config) keeps-request requests now
