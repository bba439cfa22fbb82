-- Plays without slots: where the slot that is next starts at or after the time of the settings, nothing is taken.
use Rattle.std.proofs.Common.{◌≡◌, ◌≤◌, ℕ, zero, suc, Bool, true, false, List, [], ◌∷◌, ◌++◌, Option, Some, None, refl}
use Rattle.std.proofs.Common.{sym, ap, ◌∙◌, subst, arith}
use Rattle.std.specs.Prelude.{min, nat_lt}
use Rattle.std.proofs.lemmas.Bool.{le-ltb}
use Rattle.asc_base.specs.declared.settings.Config.{Config}
use Rattle.bus_schedule.specs.Timetable.{public_of}
use Rattle.data_cache.specs.CacheLists.{Lines, Sets, no_lines, requests_of, sets_after}
use Rattle.data_cache.specs.Lines.{LineRequest, Fetch, Store}
use Rattle.posmap_lookaside.specs.Walk.{WalkAccess, walk}
use Rattle.request_plan.specs.Play.{bare}
use Rattle.rv32_core.specs.Machine.{Machine}
use Rattle.rv32_core.specs.declared.outcome.Ended.{Ended}
use Rattle.rv32_core.specs.declared.outcome.Ended.TheVariants.{No, Exit, Trap}
use Rattle.run_play.specs.Slots.{Pace, first_pace, Passed, passed}
use Rattle.run_play.specs.Requests.{Standing, standing_at_start, Taken, none_taken, followed, one_by_one, request_done}
use Rattle.run_play.specs.Requests.{requested, value_of, take_slot, access_slot, walk_sizes, request_slots}
use Rattle.run_play.specs.Play.{PlayEnding, Exited, Trapped, Budget, TimeUp, Play, after_slots, instruction}
use Rattle.run_play.specs.Play.{image_use, line_loaded, finished, image_slots, image_sets, ends, after_requests}
use Rattle.run_play.specs.Play.{begins, play_from, after_image, play_of}
use Rattle.run_play.proofs.Keeping.{passed-none}

module _ (config : Config) where
  -- the slot that is next is too late
  abbrev IsLate : Pace → Type 0
  IsLate pace = config.time ≤ pace.beat.next

  -- nothing is taken, and the next slot stays too late
  record Idles (taken : Taken) : Type 0 where
    none : taken.slots ≡ []
    late : IsLate taken.standing.pace

  idles-none : (now : Standing) → IsLate now.pace → Idles (none_taken now)
  idles-none now late = record { none = refl; late = late }

  idles-followed : (first : Taken) (rest : Standing → Taken) (late : Option ℕ) → Idles first
      → ((next : Standing) → IsLate next.pace → Idles (rest next)) → Idles (followed first rest late)
  idles-followed first rest (Some late) one more = one
  idles-followed first rest None one more =
      let after : Idles (rest first.standing) = more first.standing one.late in
      record {
        none = ap (λ l. l ++ (rest first.standing).slots) one.none ∙ after.none;
        late = after.late;
      }

  idles-all : {Q : Type 0} (take_one : Standing → Q → Taken)
      → ((now : Standing) (q : Q) → IsLate now.pace → Idles (take_one now q)) → (qs : List Q) (now : Standing)
      → IsLate now.pace → Idles (one_by_one take_one qs now)
  unfolding one_by_one
  idles-all take_one each [] now late = idles-none now late
  idles-all take_one each (q ∷ qs) now late =
      idles-followed (take_one now q) (one_by_one take_one qs) (take_one now q).standing.late (each now q late)
      (idles-all take_one each qs)

  -- an access finds its slot too late
  idles-access : (value : Option (List ℕ)) (now : Standing) (access : WalkAccess) → IsLate now.pace
      → Idles (access_slot config value now access)
  idles-access value now access late =
      let before : Passed = passed (public_of config) now.numbers (min now.clock config.time) now.pace in
      let none : before ≡ record { slots = []; pace = now.pace } =
      passed-none (public_of config) now.numbers (min now.clock config.time) now.pace (omega arith) in
      let is : access_slot config value now access
      ≡ record { slots = []; standing = record now { late = Some now.pace.beat.next } } =
      ap (λ b. take_slot config value now access b (nat_lt b.pace.beat.next config.time)) none
      ∙ ap (take_slot config value now access (record { slots = []; pace = now.pace }))
      (le-ltb now.pace.beat.next config.time late) in
      subst Idles (sym is) (record { none = refl; late = late })

  -- a request's accesses do
  done-late : (request : LineRequest) (now : Standing) → IsLate now.pace → IsLate (request_done request now).pace
  done-late (Fetch line) now late = late
  done-late (Store line value) now late = late

  idles-request : (now : Standing) (request : LineRequest) → IsLate now.pace → Idles (request_slots config now request)
  idles-request now request late =
      let walked = walk (walk_sizes config) now.chip (requested request) in
      let done : Taken = one_by_one (access_slot config (value_of request)) walked.accesses now in
      idles-followed done (λ after. none_taken (request_done request (record after { chip = walked.chip })))
      done.standing.late
      (idles-all (access_slot config (value_of request)) (idles-access (value_of request)) walked.accesses now late)
      (λ after still. idles-none (request_done request (record after { chip = walked.chip }))
      (done-late request (record after { chip = walked.chip }) still))

  idles-requests : (requests : List LineRequest) (now : Standing) → IsLate now.pace
      → Idles (one_by_one (request_slots config) requests now)
  idles-requests requests now late = idles-all (request_slots config) idles-request requests now late

  -- the image's lines
  idles-image : (memory marked : List ℕ) (sets : Sets) (now : Standing) → IsLate now.pace
      → Idles (image_slots config memory marked sets now)
  unfolding image_slots
  idles-image memory [] sets now late = idles-none now late
  idles-image memory (line ∷ marked) sets now late =
      let requests : List LineRequest = requests_of config.ways memory sets (image_use line) in
      let stored : Taken = one_by_one (request_slots config) requests now in
      let done : Taken = followed stored (λ after. none_taken (line_loaded after)) stored.standing.late in
      idles-followed done (image_slots config memory marked (sets_after config.ways sets (image_use line)))
      done.standing.late
      (idles-followed stored (λ after. none_taken (line_loaded after)) stored.standing.late
      (idles-requests requests now late) (λ after still. idles-none (line_loaded after) still))
      (idles-image memory marked (sets_after config.ways sets (image_use line)))

  -- no dummy passes at a play's end
  none-end : (ending : PlayEnding) (until : ℕ) (now : Standing) → until ≤ config.time → IsLate now.pace
      → (ends config ending until now).slots ≡ []
  none-end ending until now within late =
      ap (λ (idle : Passed). idle.slots) (passed-none (public_of config) now.numbers until now.pace (omega arith))

  -- nor are there slots after an instruction
  none-after : (taken : Taken) (rest : Play) → Idles taken → rest.slots ≡ [] → (after_slots taken.slots rest).slots ≡ []
  none-after taken rest idles none = ap (λ l. l ++ rest.slots) idles.none ∙ none

  none-requests : (rest : Standing → Play) (now : Standing) (cost : ℕ) (late : Option ℕ) (ended : Ended)
      → ((next : Standing) → IsLate next.pace → (rest next).slots ≡ []) → IsLate now.pace
      → (after_requests config rest now cost late ended).slots ≡ []
  none-requests rest now cost (Some late) ended more still = none-end (TimeUp late) config.time now (omega arith) still
  none-requests rest now cost None No more still = more (finished cost now) still
  none-requests rest now cost None (Exit status) more still =
      none-end (Exited status) (min (finished cost now).numbers.cycles config.time) (finished cost now) (omega arith)
      still
  none-requests rest now cost None (Trap kind pc) more still =
      none-end (Trapped kind pc) (min now.numbers.cycles config.time) now (omega arith) still

  none-begins : (rest : Machine → Lines → Standing → Play) (machine : Machine) (lines : Lines) (now : Standing)
      (early : Bool) → ((m : Machine) (l : Lines) (next : Standing) → IsLate next.pace → (rest m l next).slots ≡ [])
      → IsLate now.pace → (begins config rest machine lines now early).slots ≡ []
  none-begins rest machine lines now false more late = none-end (TimeUp now.clock) config.time now (omega arith) late
  none-begins rest machine lines now true more late =
      let step = instruction config.ways machine lines in
      let taken : Taken = one_by_one (request_slots config) (bare step.records) now in
      let next : Play = after_requests config (rest ((step.outcome).0) step.held) taken.standing
      ((step.outcome).1).cost taken.standing.late ((step.outcome).1).ended in
      let idles : Idles taken = idles-requests (bare step.records) now late in
      none-after taken next idles
      (none-requests (rest ((step.outcome).0) step.held) taken.standing ((step.outcome).1).cost
      taken.standing.late ((step.outcome).1).ended (more ((step.outcome).0) step.held) idles.late)

  none-from : (n : ℕ) (machine : Machine) (lines : Lines) (now : Standing) → IsLate now.pace
      → (play_from config n machine lines now).slots ≡ []
  unfolding play_from
  none-from zero machine lines now late =
      none-end Budget (min now.numbers.cycles config.time) now (omega arith) late
  none-from (suc n) machine lines now late =
      none-begins (play_from config n) machine lines now (nat_lt now.clock config.time) (none-from n) late

  none-image : (rest : Standing → Play) (now : Standing) (late : Option ℕ)
      → ((next : Standing) → IsLate next.pace → (rest next).slots ≡ []) → IsLate now.pace
      → (after_image config rest now late).slots ≡ []
  none-image rest now (Some late) more still = none-end (TimeUp late) config.time now (omega arith) still
  none-image rest now None more still = more now still

-- A play whose first slot is too late has no slot.
pub no-slots : (config : Config) (memory marked : List ℕ) (machine : Machine)
    → config.time ≤ (first_pace (public_of config)).beat.next → (play_of config memory marked machine).slots ≡ []
no-slots config memory marked machine late =
    let sets : Sets = no_lines config.sets in
    let first : Standing = standing_at_start config in
    let loaded : Taken = image_slots config memory marked sets first in
    let lines : Lines = record { memory = memory; sets = image_sets config marked sets } in
    let idles : Idles config loaded = idles-image config memory marked sets first late in
    none-after config loaded
    (after_image config (play_from config config.budget machine lines) loaded.standing loaded.standing.late) idles
    (none-image config (play_from config config.budget machine lines) loaded.standing loaded.standing.late
    (none-from config config.budget machine lines) idles.late)
