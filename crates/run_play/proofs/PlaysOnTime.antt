-- Plays keep the timetable up to their end times.
use Rattle.std.proofs.Common.{◌≡◌, ◌<◌, ◌≤◌, ℕ, zero, suc, ◌^◌, Bool, true, false, List, [], ◌∷◌, ◌++◌, Option, Some}
use Rattle.std.proofs.Common.{None, refl, sym, ap, ◌∙◌, subst, arith, append_assoc}
use Rattle.std.specs.Prelude.{min, max, nat_lt}
use Rattle.asc_base.specs.Settings.{IsPowerTo, IsConfig}
use Rattle.asc_base.specs.declared.settings.Config.{Config}
use Rattle.bus_schedule.specs.declared.beat.Beat.{Beat}
use Rattle.bus_schedule.specs.Timetable.{Public, public_of, count_of, choices_of, beat_at, start_at, end_at}
use Rattle.bus_schedule.specs.Timetable.{timetable, ended_by, fallen}
use Rattle.bus_schedule.proofs.ChoiceLaws.{choices-few, codes-few}
use Rattle.bus_schedule.proofs.CodeLaws.{code-below}
use Rattle.bus_schedule.proofs.PublicParts.{count-power, first-among}
use Rattle.bus_schedule.proofs.TimetableLaws.{end-before, timetable-between}
use Rattle.bus_schedule.proofs.TimetableParts.{ended-between}
use Rattle.data_cache.specs.CacheLists.{Lines, Sets, no_lines, requests_of, sets_after}
use Rattle.data_cache.specs.Lines.{LineRequest}
use Rattle.request_plan.specs.Play.{bare}
use Rattle.rv32_core.specs.Machine.{Machine}
use Rattle.rv32_core.specs.declared.outcome.Ended.{Ended}
use Rattle.rv32_core.specs.declared.outcome.Ended.TheVariants.{No, Exit, Trap}
use Rattle.run_play.specs.Slots.{Pace, Slot, Passed, passed}
use Rattle.run_play.specs.Requests.{Standing, standing_at_start, Taken, none_taken, followed, one_by_one}
use Rattle.run_play.specs.Requests.{request_slots}
use Rattle.run_play.specs.Play.{PlayEnding, Exited, Trapped, Budget, TimeUp, Play, after_slots, instruction}
use Rattle.run_play.specs.Play.{image_use, line_loaded, finished, image_slots, image_sets, ends, after_requests}
use Rattle.run_play.specs.Play.{begins, play_from, after_image, play_of}
use Rattle.run_play.specs.PlayEvents.{indices_in, choices_in, code_in}
use Rattle.run_play.specs.OnTime.{AreOnTime}
use Rattle.run_play.proofs.Paces.{Paced, paced-none}
use Rattle.run_play.proofs.Keeping.{paced-passed, passed-far, Keeps, keeps-none, keeps-followed, keeps-requests}

-- up to a time between the last end and the next start
pub on-time : (p : Public) (slots : List Slot) (pace : Pace) (end : ℕ) → Paced p slots pace
    → pace.heard.ended ≤ end → end ≤ pace.beat.next → AreOnTime p end slots
on-time p slots pace end h past next =
    let past_it : end_at p h.code h.count ≤ end = omega (arith, h.ended) in
    let next_of : pace.beat.next ≡ start_at p h.code h.count = ap (λ (b : Beat). b.next) h.beat in
    let before : end ≤ start_at p h.code h.count = omega (arith, next_of) in
    record {
      starts = h.begun ∙ sym (timetable-between p h.code h.count end past_it before)
          ∙ ap (λ code. timetable p code end) h.code_is;
      indices = h.within;
      fell = h.fell
          ∙ ap (λ n. (beat_at p h.code n).choices) (sym (ended-between p h.code h.count end past_it before))
          ∙ ap (λ code. fallen p code end) h.code_is;
    }

-- the last end isn't behind the next start
pub ended-before : (p : Public) (slots : List Slot) (pace : Pace) → Paced p slots pace
    → pace.heard.ended ≤ pace.beat.next
ended-before p slots pace h =
    omega (arith, h.ended, ap (λ (b : Beat). b.next) h.beat, end-before p h.code h.count)

module _ (config : Config) (some : 0 < count_of (public_of config)) where
  -- the rest of a play is on time after what was taken up to a pace
  abbrev Lasts : Play → Standing → Type 0
  Lasts rest now =
      (slots : List Slot) → Paced (public_of config) slots now.pace
      → AreOnTime (public_of config) rest.last (slots ++ rest.slots)

  pub lasts-ends : (ending : PlayEnding) (until : ℕ) (now : Standing) → Lasts (ends config ending until now) now
  lasts-ends ending until now slots h =
      let idle : Passed = passed (public_of config) now.numbers until now.pace in
      let all : Paced (public_of config) (slots ++ idle.slots) idle.pace =
      paced-passed (public_of config) some now.numbers until now.pace slots h in
      on-time (public_of config) (slots ++ idle.slots) idle.pace (max until idle.pace.heard.ended) all (omega arith)
      (omega (
        arith,
        passed-far (public_of config) now.numbers until now.pace,
        ended-before (public_of config) (slots ++ idle.slots) idle.pace all,
      ))

  -- after some slots
  lasts-after : (taken : Taken) (rest : Play) (now : Standing) → Keeps config some taken now → Lasts rest taken.standing
      → Lasts (after_slots taken.slots rest) now
  lasts-after taken rest now keeps more slots h =
      subst (AreOnTime (public_of config) rest.last) (append_assoc slots taken.slots rest.slots)
      (more (slots ++ taken.slots) (keeps slots h))

  -- after an instruction
  lasts-requests : (rest : Standing → Play) (now : Standing) (cost : ℕ) (late : Option ℕ) (ended : Ended)
      → ((next : Standing) → Lasts (rest next) next) → Lasts (after_requests config rest now cost late ended) now
  lasts-requests rest now cost (Some late) ended more slots h = lasts-ends (TimeUp late) config.time now slots h
  lasts-requests rest now cost None No more slots h = more (finished cost now) slots h
  lasts-requests rest now cost None (Exit status) more slots h =
      lasts-ends (Exited status) (min (finished cost now).numbers.cycles config.time) (finished cost now) slots h
  lasts-requests rest now cost None (Trap kind pc) more slots h =
      lasts-ends (Trapped kind pc) (min now.numbers.cycles config.time) now slots h

  lasts-begins : (rest : Machine → Lines → Standing → Play) (machine : Machine) (lines : Lines) (now : Standing)
      (early : Bool) → ((m : Machine) (l : Lines) (next : Standing) → Lasts (rest m l next) next)
      → Lasts (begins config rest machine lines now early) now
  lasts-begins rest machine lines now false more slots h = lasts-ends (TimeUp now.clock) config.time now slots h
  lasts-begins rest machine lines now true more slots h =
      let step = instruction config.ways machine lines in
      let taken : Taken = one_by_one (request_slots config) (bare step.records) now in
      let next : Play = after_requests config (rest ((step.outcome).0) step.held) taken.standing
      ((step.outcome).1).cost taken.standing.late ((step.outcome).1).ended in
      lasts-after taken next now (keeps-requests config some (bare step.records) now)
      (lasts-requests (rest ((step.outcome).0) step.held) taken.standing ((step.outcome).1).cost
      taken.standing.late ((step.outcome).1).ended (more ((step.outcome).0) step.held)) slots h

  pub lasts-from : (n : ℕ) (machine : Machine) (lines : Lines) (now : Standing)
      → Lasts (play_from config n machine lines now) now
  unfolding play_from
  lasts-from zero machine lines now slots h =
      lasts-ends Budget (min now.numbers.cycles config.time) now slots h
  lasts-from (suc n) machine lines now slots h =
      lasts-begins (play_from config n) machine lines now (nat_lt now.clock config.time) (lasts-from n) slots h

  -- the image's lines
  pub keeps-image : (memory marked : List ℕ) (sets : Sets) (now : Standing)
      → Keeps config some (image_slots config memory marked sets now) now
  unfolding image_slots
  keeps-image memory [] sets now slots h = keeps-none config some now now refl slots h
  keeps-image memory (line ∷ marked) sets now slots h =
      let requests : List LineRequest = requests_of config.ways memory sets (image_use line) in
      let stored : Taken = one_by_one (request_slots config) requests now in
      let done : Taken = followed stored (λ after. none_taken (line_loaded after)) stored.standing.late in
      keeps-followed config some done (image_slots config memory marked (sets_after config.ways sets (image_use line)))
      done.standing.late now
      (keeps-followed config some stored (λ after. none_taken (line_loaded after)) stored.standing.late now
      (keeps-requests config some requests now)
      (λ after. keeps-none config some after (line_loaded after) refl))
      (keeps-image memory marked (sets_after config.ways sets (image_use line))) slots h

  lasts-image : (rest : Standing → Play) (now : Standing) (late : Option ℕ)
      → ((next : Standing) → Lasts (rest next) next) → Lasts (after_image config rest now late) now
  lasts-image rest now (Some late) more slots h = lasts-ends (TimeUp late) config.time now slots h
  lasts-image rest now None more slots h = more now slots h

  pub lasts-play : (memory marked : List ℕ) (machine : Machine)
      → let whole : Play = play_of config memory marked machine in
      AreOnTime (public_of config) whole.last whole.slots
  lasts-play memory marked machine =
      let sets : Sets = no_lines config.sets in
      let first : Standing = standing_at_start config in
      let loaded : Taken = image_slots config memory marked sets first in
      let lines : Lines = record { memory = memory; sets = image_sets config marked sets } in
      let next : Play = after_image config (play_from config config.budget machine lines) loaded.standing
      loaded.standing.late in
      lasts-after loaded next first (keeps-image memory marked sets first)
      (lasts-image (play_from config config.budget machine lines) loaded.standing loaded.standing.late
      (lasts-from config.budget machine lines)) [] (paced-none (public_of config))

-- a configuration has a rate
pub some-rate : (config : Config) → IsConfig config → 0 < count_of (public_of config)
some-rate config is = omega (arith, first-among config is)

-- The slots of a play.
pub play-on-time : (config : Config) → IsConfig config → (memory marked : List ℕ) (machine : Machine)
    → let whole : Play = play_of config memory marked machine in
    AreOnTime (public_of config) whole.last whole.slots
play-on-time config is memory marked machine = lasts-play config (some-rate config is) memory marked machine

-- the code of slots that are on time
pub code-in-budget : (config : Config) (end : ℕ) (slots : List Slot) → IsConfig config
    → AreOnTime (public_of config) end slots
    → (code_in (public_of config) slots < count_of (public_of config) ^ choices_in slots)
    × (code_in (public_of config) slots < 2 ^ config.leak)
code-in-budget config end slots is h =
    let p : Public = public_of config in
    let power : IsPowerTo 4 (count_of p) = count-power config is in
    let below : code_in p slots < count_of p ^ choices_in slots =
    code-below (count_of p) (indices_in slots) h.indices in
    let few : choices_in slots ≤ choices_of p =
    omega (arith, choices-few p (code_in p slots) (ended_by p (code_in p slots) end), h.fell) in
    (below, omega (arith, below, codes-few p power.0 (choices_in slots) power.2 few))
