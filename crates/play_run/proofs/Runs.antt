-- A run over a cache and an encrypted memory stands in a whole play from image line to image line and from instruction
-- to instruction.
use Rattle.std.proofs.Common.{◌≡◌, ◌<◌, ◌≤◌, ◌*◌, ◌⊎◌, inl, inr, ℕ, suc, ◌+◌, min, List, [], ◌∷◌, ◌++◌, Option, Some}
use Rattle.std.proofs.Common.{None, length}
use Rattle.std.proofs.Common.{replicate, refl, sym, ap, ◌∙◌, subst, append_assoc, append-nil}
use Rattle.asc_base.specs.Has.{Has}
use Rattle.asc_base.specs.TreeShape.{olat_of}
use Rattle.asc_base.specs.declared.block.Line.{Line}
use Rattle.asc_base.specs.declared.settings.Config.{Config}
use Rattle.asc_base.specs.declared.stop.Stop.{Stop}
use Rattle.data_cache.specs.Cached.{cache_access}
use Rattle.data_cache.specs.CacheLists.{Lines, Sets, no_lines, line_in, requests_of, sets_after}
use Rattle.data_cache.specs.Contents.{Contents, write_line_plan}
use Rattle.data_cache.specs.Lines.{LineRequest}
use Rattle.data_cache.proofs.UseLaws.{empty-mirrors}
use Rattle.encrypted_run.specs.Refined.{empty_cache}
use Rattle.oram_contents.specs.Entries.{Keys, AreKeys}
use Rattle.oram_contents.specs.Forgery.{Forgery}
use Rattle.oram_frontend.specs.Oram.{OramState}
use Rattle.oram_play.specs.Playing.{PlaysAs}
use Rattle.request_plan.specs.Plan.{Ends, Stops, through}
use Rattle.request_plan.specs.Play.{bare}
use Rattle.rv32_core.specs.Machine.{Machine, IsCore}
use Rattle.rv32_core.specs.StepPlan.{step_plan}
use Rattle.rv32_core.specs.declared.outcome.Done.{Done}
use Rattle.rv32_core.specs.declared.outcome.Ended.{Ended}
use Rattle.rv32_core.specs.declared.outcome.Ended.TheVariants.{No, Exit, Trap}
use Rattle.run_play.specs.Play.{Play, Budget, TimeUp, Exited, Trapped, after_slots, after_image, after_requests}
use Rattle.run_play.specs.Play.{ends, times_out, finished, image_slots, image_sets, image_use, instruction}
use Rattle.run_play.specs.Play.{line_loaded, play_from, play_of}
use Rattle.run_play.specs.Requests.{Standing, Taken, none_taken, followed, standing_at_start}
use Rattle.run_play.specs.Slots.{Slot, Numbers}
use Rattle.run_play.proofs.Finished.{requests-done}
use Rattle.run_play.proofs.Honest.{start-honest}
use Rattle.run_play.proofs.Steps.{after_slots-twice, play-none, play-late, play-next}
use Rattle.play_run.specs.Follows.{with_fetches, StopLeaves}
use Rattle.play_run.specs.Given.{RequestPlays, RequestStops}
use Rattle.play_run.specs.Shows.{StopShows}
use Rattle.play_run.specs.Stands.{image_from, spent, numbers_of, StandsAt, StandsInImage, StandsInRun, EndsIn}
use Rattle.play_run.specs.Stands.{InstructionLeaves}
use Rattle.play_run.specs.Timed.{TimedState, TimedStep, CanAsk}
use Rattle.play_run.proofs.Cached as cached
use Rattle.play_run.proofs.Cached.{line_taken, instruction_taken}
use Rattle.play_run.proofs.Costs.{instruction-low}
use Rattle.play_run.proofs.Ends.{stop-shows}
use Rattle.play_run.proofs.Kept.{requests-cycles, requests-late, requests-clock}

-- what comes behind slots
followed-more : (first : Taken) (rest : Standing → Taken) (late : Option ℕ)
    → (more : List Slot) × ((followed first rest late).slots ≡ first.slots ++ more)
followed-more first rest None = ((rest first.standing).slots, refl)
followed-more first rest (Some late) = ([], sym (append-nil first.slots))

-- numbers that are the same in all
same-numbers : (numbers : Numbers) (instructions cycles fetches : ℕ) → numbers.instructions ≡ instructions
    → numbers.cycles ≡ cycles → numbers.fetches ≡ fetches → numbers ≡ numbers_of instructions cycles fetches
same-numbers numbers instructions cycles fetches a b c =
    ap (λ n. numbers_of n numbers.cycles numbers.fetches) a
    ∙ (ap (λ n. numbers_of instructions n numbers.fetches) b ∙ ap (numbers_of instructions cycles) c)

module _ (config : Config) where
  -- ---- an image line of a whole play
  module _ (memory : List ℕ) (machine : Machine) (line : ℕ) (marked : List ℕ) (sets : Sets) (now : Standing) where
    abbrev stored : Taken
    stored = line_taken config line (record { memory = memory; sets = sets }) now

    abbrev later_sets : Sets
    later_sets = sets_after config.ways sets (image_use line)

    abbrev rest_slots : Standing → Taken
    rest_slots = image_slots config memory marked later_sets

    abbrev behind : Taken → Option ℕ → Play
    behind loaded late =
        after_slots loaded.slots
        (after_image config (play_from config config.budget machine
        (record { memory = memory; sets = image_sets config marked later_sets })) loaded.standing late)

    abbrev one_loaded : Option ℕ → Taken
    one_loaded late = followed stored (λ after. none_taken (line_loaded after)) late

    abbrev with_done : Taken → Option ℕ → Play
    with_done done late = let loaded = followed done rest_slots late in behind loaded loaded.standing.late

    image-unfolds : image_from config memory machine (line ∷ marked) sets now
        ≡ with_done (one_loaded stored.standing.late) (one_loaded stored.standing.late).standing.late
    unfolding image_slots
    image-unfolds = refl

    -- where none came too late
    image-next : stored.standing.late ≡ None
        → image_from config memory machine (line ∷ marked) sets now
        ≡ after_slots stored.slots (image_from config memory machine marked later_sets (line_loaded stored.standing))
    image-next fresh =
        let rest : Taken = rest_slots (line_loaded stored.standing) in
        let next : Play = after_image config (play_from config config.budget machine
        (record { memory = memory; sets = image_sets config marked later_sets })) rest.standing rest.standing.late in
        image-unfolds
        ∙ (ap (λ k. with_done (one_loaded k) (one_loaded k).standing.late) fresh
        ∙ (ap (λ k. with_done (one_loaded None) k) fresh
        ∙ (ap (λ l. after_slots (l ++ rest.slots) next) (append-nil stored.slots)
        ∙ sym (after_slots-twice stored.slots rest.slots next))))

    -- where one did
    image-late : (at : ℕ) → stored.standing.late ≡ Some at
        → image_from config memory machine (line ∷ marked) sets now
        ≡ after_slots stored.slots (times_out config at stored.standing)
    image-late at is =
        image-unfolds
        ∙ (ap (λ k. with_done (one_loaded k) (one_loaded k).standing.late) is
        ∙ (ap (λ k. with_done stored k) is ∙ ap (λ k. behind stored k) is))

    -- its slots are the first
    image-more : (more : List Slot) × ((image_from config memory machine (line ∷ marked) sets now).slots
        ≡ stored.slots ++ more)
    image-more =
        let done : Taken = one_loaded stored.standing.late in
        let loaded : Taken = followed done rest_slots done.standing.late in
        let next : Play = after_image config (play_from config config.budget machine
        (record { memory = memory; sets = image_sets config marked later_sets })) loaded.standing
        loaded.standing.late in
        let (one, first) = followed-more stored (λ after. none_taken (line_loaded after)) stored.standing.late in
        let (two, second) = followed-more done rest_slots done.standing.late in (
          one ++ (two ++ next.slots),
          ap (λ (r : Play). r.slots) image-unfolds
              ∙ (ap (λ l. l ++ next.slots) (second ∙ ap (λ l. l ++ two) first)
              ∙ (append_assoc (stored.slots ++ one) two next.slots
              ∙ append_assoc stored.slots one (two ++ next.slots))),
        )

  -- behind the last of them
  image-none : (memory : List ℕ) (machine : Machine) (sets : Sets) (now : Standing) → now.late ≡ None
      → image_from config memory machine [] sets now
      ≡ play_from config config.budget machine (record { memory = memory; sets = sets }) now
  unfolding image_slots
  image-none memory machine sets now fresh =
      ap (after_image config (play_from config config.budget machine (record { memory = memory; sets = sets })) now)
      fresh

module _ (keys : Keys) (levels : ℕ) (config : Config) where
  -- clock and numbers say nothing of an encrypted memory
  plays-then : (slots : List Slot) (now : Standing) (o : OramState) (clock : ℕ) (numbers : Numbers)
      → PlaysAs keys levels config slots now o
      → PlaysAs keys levels config slots (record now { clock = clock; numbers = numbers }) o
  plays-then slots now o clock numbers x = record {
    config_is = x.config_is;
    sizes = x.sizes;
    ghost = x.ghost;
    stands = x.stands;
    calm = x.calm;
    counted = x.counted;
    stored = x.stored;
    lines = x.lines;
    outside = x.outside;
    shows = x.shows;
    taken = x.taken;
    in_time = x.in_time;
  }

  -- ---- the start
  pub start-stands : (memory marked : List ℕ) (machine : Machine) (o : OramState) → 0 < config.sets → 0 < config.ways
      → length memory ≡ 64 * keys.shape.lines
      → ((line : ℕ) → line < keys.shape.lines → Has line marked ⊎ (line_in memory line ≡ replicate 64 0))
      → PlaysAs keys levels config [] (standing_at_start config) o
      → StandsInImage keys levels config (play_of config memory marked machine) memory machine marked
      (empty_cache config.sets config.ways) (record { oram = o; clock = 0; fetches = 0 })
  start-stands memory marked machine o some room long zeros plays = record {
    slots = [];
    sets = no_lines config.sets;
    now = standing_at_start config;
    whole_is = refl;
    at = record {
      follows = record { plays = plays; clock = refl; fetches = refl };
      cycles = refl;
      instructions = refl;
      cached = (empty-mirrors keys.shape.lines config.sets config.ways memory some room long, refl);
      honest = start-honest config.ways config.sets keys.shape.lines memory marked some zeros;
    };
  }

  -- behind the image
  pub image-done : (whole : Play) (memory : List ℕ) (machine : Machine) (cache : Contents) (s : TimedState)
      → StandsInImage keys levels config whole memory machine [] cache s
      → StandsInRun keys levels config whole 0 config.budget machine cache s
  image-done whole memory machine cache s x = record {
    slots = x.slots;
    lines = record { memory = memory; sets = x.sets };
    now = x.now;
    whole_is = x.whole_is
        ∙ ap (after_slots x.slots)
        (image-none config memory machine x.sets x.now x.at.follows.plays.in_time);
    at = x.at;
  }

  -- ---- ends that come by themselves
  numbers-here : (before : ℕ) (pending : List ℕ) (slots : List Slot) (lines : Lines) (now : Standing)
      (cache : Contents) (s : TimedState) → StandsAt keys levels config before pending slots lines now cache s
      → now.numbers ≡ numbers_of before s.clock s.fetches
  numbers-here before pending slots lines now cache s x =
      same-numbers now.numbers before s.clock s.fetches x.instructions (x.cycles ∙ sym x.follows.clock)
      (sym x.follows.fetches)

  -- no time is left
  pub time-ends : (whole : Play) (before left : ℕ) (machine : Machine) (cache : Contents) (s : TimedState)
      → config.time ≤ s.clock → StandsInRun keys levels config whole before (suc left) machine cache s
      → EndsIn keys levels config whole (TimeUp s.clock) (numbers_of before s.clock s.fetches) config.time s.oram
  time-ends whole before left machine cache s late x = record {
    slots = x.slots;
    now = x.now;
    whole_is = x.whole_is
        ∙ (ap (after_slots x.slots)
        (play-late config left machine x.lines x.now (subst (λ n. config.time ≤ n) x.at.follows.clock late))
        ∙ ap (λ c. after_slots x.slots (ends config (TimeUp c) config.time x.now)) (sym x.at.follows.clock));
    plays = x.at.follows.plays;
    numbers_are = numbers-here before [] x.slots x.lines x.now cache s x.at;
  }

  -- no instruction is left
  pub budget-ends : (whole : Play) (before : ℕ) (machine : Machine) (cache : Contents) (s : TimedState)
      → StandsInRun keys levels config whole before 0 machine cache s
      → EndsIn keys levels config whole Budget (numbers_of before s.clock s.fetches) (min s.clock config.time) s.oram
  budget-ends whole before machine cache s x = record {
    slots = x.slots;
    now = x.now;
    whole_is = x.whole_is
        ∙ (ap (after_slots x.slots) (play-none config machine x.lines x.now)
        ∙ ap (λ c. after_slots x.slots (ends config Budget (min c config.time) x.now))
        (x.at.cycles ∙ sym x.at.follows.clock));
    plays = x.at.follows.plays;
    numbers_are = numbers-here before [] x.slots x.lines x.now cache s x.at;
  }

module _ (keys : Keys) (lawful : AreKeys keys) (levels : ℕ) (config : Config)
    (request_plays : RequestPlays keys levels config) where
  -- ---- an image line
  pub line-stands : (whole : Play) (memory : List ℕ) (machine : Machine) (line : ℕ) (marked : List ℕ) (value : Line)
      (cache after : Contents) (s t : TimedState) → line < keys.shape.lines → length (value.0) ≡ 64
      → value.0 ≡ line_in memory line
      → StandsInImage keys levels config whole memory machine (line ∷ marked) cache s
      → Ends (TimedStep keys levels keys.shape.lines) (write_line_plan cache line value) s t after
      → Forgery keys t.oram.port.tap.log
      ⊎ (StandsInImage keys levels config whole memory machine marked after (spent 1 t)
      × ((bound : ℕ) → config.time + olat_of config.shape.levels ≤ bound → s.clock ≤ bound → t.clock ≤ bound))
  line-stands whole memory machine line marked value cache after s t below long is x step =
      let lines : Lines = record { memory = memory; sets = x.sets } in
      let taken : Taken = line_taken config line lines x.now in
      let requests : List LineRequest = requests_of config.ways memory x.sets (image_use line) in
      elim (cached.line-plays keys lawful levels config request_plays marked line value lines x.slots x.now cache after
      s t
      below long is x.at.follows x.at.cached x.at.honest step) [
        | inl forged ↦ inl forged
        | inr y ↦ inr (
          record {
            slots = x.slots ++ taken.slots;
            sets = sets_after config.ways x.sets (image_use line);
            now = line_loaded taken.standing;
            whole_is = x.whole_is
                ∙ (ap (after_slots x.slots)
                (image-next config memory machine line marked x.sets x.now y.follows.plays.in_time)
                ∙ after_slots-twice x.slots taken.slots
                (image_from config memory machine marked (sets_after config.ways x.sets (image_use line))
                (line_loaded taken.standing)));
            at = record {
              follows = record {
                plays = plays-then keys levels config (x.slots ++ taken.slots) taken.standing t.oram
                    (taken.standing.clock + 1)
                    (record taken.standing.numbers { cycles = taken.standing.clock + 1 }) y.follows.plays;
                clock = ap (λ n. n + 1) y.follows.clock;
                fetches = y.follows.fetches;
              };
              cycles = refl;
              instructions = requests-done config requests x.now ∙ x.at.instructions;
              cached = y.stands;
              honest = y.honest;
            };
          },
          λ bound far low. subst (λ n. n ≤ bound) (sym y.follows.clock)
              (requests-clock config bound far requests x.now x.at.follows.plays.in_time
              (subst (λ n. n ≤ bound) x.at.follows.clock low)),
        )
      ]

  -- ---- an instruction
  module _ (machine : Machine) (is : IsCore machine.core) (size : machine.core.size ≡ 64 * keys.shape.lines) where
    -- the play from an instruction on
    abbrev on : ℕ → Lines → Standing → Option ℕ → Ended → Play
    on left lines now late ended =
        let step = instruction config.ways machine lines in
        let taken : Taken = instruction_taken config machine lines now in
        after_requests config (play_from config left ((step.outcome).0) step.held) taken.standing
        ((step.outcome).1).cost late ended

    -- what an instruction leaves, by how it ended
    leaves-so : (whole : Play) (before left : ℕ) (cache after : Contents) (s t : TimedState) (end : Machine × Done)
        (x : StandsInRun keys levels config whole before (suc left) machine cache s)
        → cached.InstructionPlays keys lawful levels config request_plays machine x.lines x.slots x.now after end t
        → (ended : Ended)
        → whole ≡ after_slots (x.slots ++ (instruction_taken config machine x.lines x.now).slots)
        (on left x.lines x.now None ended)
        → let step = instruction config.ways machine x.lines in
        InstructionLeaves keys levels config whole before left s.clock ((step.outcome).0) after
        (spent ((step.outcome).1).cost t) ended
    leaves-so whole before left cache after s t end x y No run =
        let step = instruction config.ways machine x.lines in
        let cost : ℕ = ((step.outcome).1).cost in
        let taken : Taken = instruction_taken config machine x.lines x.now in
        record {
          slots = x.slots ++ taken.slots;
          lines = step.held;
          now = finished cost taken.standing;
          whole_is = run;
          at = record {
            follows = record {
              plays = plays-then keys levels config (x.slots ++ taken.slots) taken.standing t.oram
                  (taken.standing.clock + cost) (finished cost taken.standing).numbers y.follows.plays;
              clock = ap (λ n. n + cost) y.follows.clock;
              fetches = y.follows.fetches;
            };
            cycles = refl;
            instructions = ap (λ n. n + 1) (requests-done config (bare step.records) x.now ∙ x.at.instructions);
            cached = y.stands;
            honest = y.honest;
          };
        }
    leaves-so whole before left cache after s t end x y (Exit status) run =
        let step = instruction config.ways machine x.lines in
        let cost : ℕ = ((step.outcome).1).cost in
        let taken : Taken = instruction_taken config machine x.lines x.now in
        record {
          slots = x.slots ++ taken.slots;
          now = finished cost taken.standing;
          whole_is = run
              ∙ ap (λ c. after_slots (x.slots ++ taken.slots)
              (ends config (Exited status) (min (c + cost) config.time) (finished cost taken.standing)))
              (sym y.follows.clock);
          plays = plays-then keys levels config (x.slots ++ taken.slots) taken.standing t.oram
              (taken.standing.clock + cost) (finished cost taken.standing).numbers y.follows.plays;
          numbers_are = same-numbers (finished cost taken.standing).numbers (before + 1) (t.clock + cost) t.fetches
              (ap (λ n. n + 1) (requests-done config (bare step.records) x.now ∙ x.at.instructions))
              (ap (λ n. n + cost) (sym y.follows.clock)) (sym y.follows.fetches);
        }
    leaves-so whole before left cache after s t end x y (Trap kind pc) run =
        let step = instruction config.ways machine x.lines in
        let taken : Taken = instruction_taken config machine x.lines x.now in
        let same : taken.standing.numbers.cycles ≡ s.clock =
        requests-cycles config (bare step.records) x.now ∙ (x.at.cycles ∙ sym x.at.follows.clock) in
        record {
          slots = x.slots ++ taken.slots;
          now = taken.standing;
          whole_is = run
              ∙ ap (λ c. after_slots (x.slots ++ taken.slots)
              (ends config (Trapped kind pc) (min c config.time) taken.standing)) same;
          plays = y.follows.plays;
          numbers_are = same-numbers taken.standing.numbers before s.clock t.fetches
              (requests-done config (bare step.records) x.now ∙ x.at.instructions) same (sym y.follows.fetches);
        }

    pub instruction-stands : (whole : Play) (before left : ℕ) (cache after : Contents) (s t : TimedState)
        (end : Machine × Done) → s.clock < config.time
        → StandsInRun keys levels config whole before (suc left) machine cache s
        → Ends (TimedStep keys levels keys.shape.lines)
        (through (cache_access machine.core.base) (step_plan machine) cache) s t (after, end)
        → Forgery keys t.oram.port.tap.log
        ⊎ (InstructionLeaves keys levels config whole before left s.clock (end.0) after (spent (end.1).cost t)
        (end.1).ended
        × ((bound : ℕ) → config.time + olat_of config.shape.levels ≤ bound → s.clock ≤ bound → t.clock ≤ bound)
        × ((end.1).cost ≤ 34 + machine.core.size))
    instruction-stands whole before left cache after s t end early x ran =
        let step = instruction config.ways machine x.lines in
        let requests : List LineRequest = bare step.records in
        let taken : Taken = instruction_taken config machine x.lines x.now in
        let cost : ℕ = ((step.outcome).1).cost in
        elim (cached.instruction-plays keys lawful levels config request_plays machine is size x.lines x.slots x.now
        cache
        after s t end x.at.follows x.at.cached x.at.honest ran) [
          | inl forged ↦ inl forged
          | inr y ↦ inr (
            subst
                (λ (e : Machine × Done). InstructionLeaves keys levels config whole before left s.clock (e.0) after
                (spent (e.1).cost t) (e.1).ended) (sym y.outcome)
                (leaves-so whole before left cache after s t end x y ((step.outcome).1).ended
                (x.whole_is
                ∙ (ap (after_slots x.slots)
                (play-next config left machine x.lines x.now (subst (λ n. n < config.time) x.at.follows.clock early)
                ∙ ap (λ k. after_slots taken.slots (on left x.lines x.now k ((step.outcome).1).ended))
                y.follows.plays.in_time)
                ∙ after_slots-twice x.slots taken.slots (on left x.lines x.now None ((step.outcome).1).ended)))),
            λ bound far low. subst (λ n. n ≤ bound) (sym y.follows.clock)
                (requests-clock config bound far requests x.now x.at.follows.plays.in_time
                (subst (λ n. n ≤ bound) x.at.follows.clock low)),
            subst (λ (e : Machine × Done). (e.1).cost ≤ 34 + machine.core.size) (sym y.outcome)
                (instruction-low config.ways machine x.lines),
          )
        ]

    -- where one of its requests is stopped
    pub instruction-stop-shows : RequestStops keys levels config → (whole : Play) (before more : ℕ) (cache : Contents)
        (s t : TimedState) (stop : Stop) (left : Contents × Machine) → s.clock < config.time
        → CanAsk levels keys.shape.lines s → StandsInRun keys levels config whole before (suc more) machine cache s
        → Stops (TimedStep keys levels keys.shape.lines)
        (through (cache_access machine.core.base) (step_plan machine) cache) s t stop left
        → Forgery keys t.oram.port.tap.log
        ⊎ StopShows levels config whole (numbers_of before s.clock t.fetches) stop t.oram.port
    instruction-stop-shows request_stops whole before more cache s t stop left early ask x stops =
        let step = instruction config.ways machine x.lines in
        let requests : List LineRequest = bare step.records in
        let taken : Taken = instruction_taken config machine x.lines x.now in
        let ended : Ended = ((step.outcome).1).ended in
        let next : Play = on more x.lines x.now taken.standing.late ended in
        let run : whole ≡ after_slots (x.slots ++ taken.slots) next =
        x.whole_is
        ∙ (ap (after_slots x.slots)
        (play-next config more machine x.lines x.now (subst (λ n. n < config.time) x.at.follows.clock early))
        ∙ after_slots-twice x.slots taken.slots next) in
        let numbers : with_fetches x.now.numbers t.fetches ≡ numbers_of before s.clock t.fetches =
        same-numbers (with_fetches x.now.numbers t.fetches) before s.clock t.fetches x.at.instructions
        (x.at.cycles ∙ sym x.at.follows.clock) refl in
        elim (cached.instruction-stops keys lawful levels config request_plays request_stops machine is size x.lines
        x.slots
        x.now cache s t stop left x.at.follows ask x.at.cached x.at.honest stops) [
          | inl forged ↦ inl forged
          | inr leaves ↦ inr (stop-shows levels config whole (x.slots ++ taken.slots) next.slots taken.standing
              (numbers_of before s.clock t.fetches) stop t.oram.port (ap (λ (r : Play). r.slots) run)
              (λ at late. run
              ∙ ap (λ k. after_slots (x.slots ++ taken.slots) (on more x.lines x.now k ended)) late)
              (requests-late config requests x.now x.at.follows.plays.in_time)
              (subst (λ (n : Numbers). StopLeaves levels (x.slots ++ taken.slots) taken.standing n stop t.oram.port)
              numbers leaves))
        ]

  -- ---- where an image line's request is stopped
  pub line-stop-shows : RequestStops keys levels config → (whole : Play) (memory : List ℕ) (machine : Machine) (line :
      ℕ)
      (marked : List ℕ) (value : Line) (cache left : Contents) (s t : TimedState) (stop : Stop)
      → line < keys.shape.lines → length (value.0) ≡ 64 → CanAsk levels keys.shape.lines s
      → StandsInImage keys levels config whole memory machine (line ∷ marked) cache s
      → Stops (TimedStep keys levels keys.shape.lines) (write_line_plan cache line value) s t stop left
      → Forgery keys t.oram.port.tap.log
      ⊎ StopShows levels config whole (numbers_of 0 s.clock t.fetches) stop t.oram.port
  line-stop-shows request_stops whole memory machine line marked value cache left s t stop below long ask x stops =
      let lines : Lines = record { memory = memory; sets = x.sets } in
      let taken : Taken = line_taken config line lines x.now in
      let requests : List LineRequest = requests_of config.ways memory x.sets (image_use line) in
      let (more, first) = image-more config memory machine line marked x.sets x.now in
      let numbers : with_fetches x.now.numbers t.fetches ≡ numbers_of 0 s.clock t.fetches =
      same-numbers (with_fetches x.now.numbers t.fetches) 0 s.clock t.fetches x.at.instructions
      (x.at.cycles ∙ sym x.at.follows.clock) refl in
      elim (cached.line-stops keys lawful levels config request_plays request_stops line value lines x.slots x.now cache
      left s t stop below long x.at.follows ask x.at.cached stops) [
        | inl forged ↦ inl forged
        | inr leaves ↦ inr (stop-shows levels config whole (x.slots ++ taken.slots) more taken.standing
            (numbers_of 0 s.clock t.fetches) stop t.oram.port
            (ap (λ (r : Play). r.slots) x.whole_is
            ∙ (ap (λ l. x.slots ++ l) first ∙ sym (append_assoc x.slots taken.slots more)))
            (λ at late. x.whole_is
            ∙ (ap (after_slots x.slots) (image-late config memory machine line marked x.sets x.now at late)
            ∙ after_slots-twice x.slots taken.slots (times_out config at taken.standing)))
            (requests-late config requests x.now x.at.follows.plays.in_time)
            (subst (λ (n : Numbers). StopLeaves levels (x.slots ++ taken.slots) taken.standing n stop t.oram.port)
            numbers leaves))
      ]
