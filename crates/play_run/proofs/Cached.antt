-- Through a real cache an image line and an instruction take the slots of the play's.
use Rattle.std.proofs.Common.{◌≡◌, ◌<◌, ◌≤◌, ◌*◌, ◌⊎◌, inl, inr, ℕ, ◌+◌, List, [], ◌∷◌, ◌++◌, length}
use Rattle.std.proofs.Common.{refl, sym, ap, ◌∙◌, subst, arith}
use Rattle.asc_base.specs.declared.block.Line.{Line}
use Rattle.asc_base.specs.declared.settings.Config.{Config}
use Rattle.asc_base.specs.declared.stop.Stop.{Stop}
use Rattle.data_cache.specs.Cached.{cache_access, lists_access, StandsAs, StandsLeft}
use Rattle.data_cache.specs.CacheLists.{Lines, Sets, line_in, requests_of, sets_after, write_whole_line}
use Rattle.data_cache.specs.Contents.{Contents, write_line_plan}
use Rattle.data_cache.specs.Lines.{LineRequest, IsLineAnswer}
use Rattle.data_cache.proofs.AccessAlike.{whole-stands-as}
use Rattle.fed_run.proofs.InstructionChains.{instruction-alike}
use Rattle.oram_contents.specs.Entries.{Keys, AreKeys}
use Rattle.oram_contents.specs.Forgery.{Forgery}
use Rattle.request_plan.specs.Plan.{Plan, Ends, Stops, through}
use Rattle.request_plan.specs.Play.{play, bare}
use Rattle.request_plan.proofs.Alike.{SameBeside, Alike-ends, Alike-stops}
use Rattle.rv32_core.specs.Machine.{Machine, IsCore}
use Rattle.rv32_core.specs.StepPlan.{step_plan}
use Rattle.rv32_core.specs.declared.outcome.Done.{Done}
use Rattle.run_play.specs.Honest.{IsHonest}
use Rattle.run_play.specs.Play.{image_use, instruction}
use Rattle.run_play.specs.Requests.{Standing, Taken, one_by_one, request_slots}
use Rattle.run_play.specs.Slots.{Slot}
use Rattle.run_play.specs.Turns.{line_slots, Takes, Comes}
use Rattle.run_play.proofs.Answered.{whole-plays}
use Rattle.run_play.proofs.Honest.{load-honest}
use Rattle.run_play.proofs.HonestPlays.{instruction-honest}
use Rattle.run_play.proofs.Stored.{requests-data}
use Rattle.run_play.proofs.Through.{image-takes, instruction-comes}
use Rattle.play_run.specs.Follows.{Follows, with_fetches, StopLeaves}
use Rattle.play_run.specs.Given.{RequestPlays, RequestStops}
use Rattle.play_run.specs.Timed.{TimedState, TimedStep, CanAsk, answers_lines}
use Rattle.play_run.proofs.Plans.{plan-plays, plan-stops}

-- the slots of the requests of an image line, and of an instruction
abbrev pub line_taken : Config → ℕ → Lines → Standing → Taken
line_taken config line lines now =
    one_by_one (request_slots config) (requests_of config.ways lines.memory lines.sets (image_use line)) now

abbrev pub instruction_taken : Config → Machine → Lines → Standing → Taken
instruction_taken config machine lines now =
    one_by_one (request_slots config) (bare (instruction config.ways machine lines).records) now

-- the lists after an image line
abbrev pub line_lists : Config → ℕ → Lines → Lines
line_lists config line lines = record lines { sets = sets_after config.ways lines.sets (image_use line) }

module _ (keys : Keys) (lawful : AreKeys keys) (levels : ℕ) (config : Config)
    (request_plays : RequestPlays keys levels config) where
  abbrev count : ℕ
  count = keys.shape.lines

  some-ways : (cache : Contents) (lines : Lines) → StandsAs keys.shape.lines config.ways cache lines → 0 < config.ways
  some-ways cache lines stands = subst (λ n. 0 < n) stands.1 (stands.0).ways

  -- ---- an image line
  -- it took the slots of its requests; cache and lists stand for the same bytes as before
  pub record LinePlays (pending : List ℕ) (line : ℕ) (lines : Lines) (slots : List Slot) (now : Standing)
      (after : Contents) (t : TimedState) : Type 0 where
    pub follows : Follows keys levels config (slots ++ (line_taken config line lines now).slots)
        (line_taken config line lines now).standing t
    pub stands : StandsAs keys.shape.lines config.ways after (line_lists config line lines)
    pub honest : IsHonest config.ways keys.shape.lines pending (line_lists config line lines)
        (line_taken config line lines now).standing.data_lines

  pub line-plays : (pending : List ℕ) (line : ℕ) (value : Line) (lines : Lines) (slots : List Slot) (now : Standing)
      (cache after : Contents) (s t : TimedState) → line < keys.shape.lines → length (value.0) ≡ 64
      → value.0 ≡ line_in lines.memory line → Follows keys levels config slots now s
      → StandsAs keys.shape.lines config.ways cache lines
      → IsHonest config.ways keys.shape.lines (line ∷ pending) lines now.data_lines
      → Ends (TimedStep keys levels keys.shape.lines) (write_line_plan cache line value) s t after
      → Forgery keys t.oram.port.tap.log ⊎ LinePlays pending line lines slots now after t
  line-plays pending line value lines slots now cache after s t below whole is x stands honest ends =
      let plan : Plan LineRequest (List ℕ) Sets Lines = write_whole_line config.ways lines line (value.0) in
      let taken : Taken = line_taken config line lines now in
      let other = Alike-ends (TimedStep keys levels keys.shape.lines) IsLineAnswer
      (answers_lines keys levels keys.shape.lines) (StandsLeft keys.shape.lines)
      (StandsAs keys.shape.lines config.ways) (write_line_plan cache line value) plan s t after
      (whole-stands-as keys.shape.lines 0 config.ways refl cache lines line value stands below whole) ends in
      let takes : Takes (play (line_slots config) plan now) taken =
      image-takes config config.ways line (value.0) lines now x.plays.in_time in
      let room : 64 * line + 64 ≤ length lines.memory = omega (arith, below, (stands.0).size) in
      elim (plan-plays keys lawful levels config request_plays plan slots now s t other.0 x other.1) [
        | inl forged ↦ inl forged
        | inr (y, same) ↦
            (let lists : other.0 ≡ line_lists config line lines =
            same ∙ whole-plays config config.ways line (value.0) lines now room is in
            let follows : Follows keys levels config (slots ++ taken.slots) taken.standing t =
            subst (λ l. Follows keys levels config (slots ++ l) taken.standing t) takes.slots
            (subst (λ (n : Standing). Follows keys levels config (slots ++ bare (play (line_slots config) plan
            now).records)
            n t) takes.held y) in
            inr (record {
              follows = follows;
              stands = subst (λ (l : Lines). StandsAs keys.shape.lines config.ways after l) lists other.2;
              honest = subst (IsHonest config.ways keys.shape.lines pending (line_lists config line lines))
                  (sym (requests-data config (requests_of config.ways lines.memory lines.sets (image_use line)) now
                  follows.plays.in_time))
                  (load-honest config.ways keys.shape.lines line pending lines now.data_lines
                  (some-ways cache lines stands) honest);
            }))
      ]

  -- ---- an instruction
  -- it took the slots of the play's instruction, and came to its machine and ending; cache and lists stand for its
  -- bytes
  pub record InstructionPlays (machine : Machine) (lines : Lines) (slots : List Slot) (now : Standing)
      (after : Contents) (end : Machine × Done) (t : TimedState) : Type 0 where
    pub follows : Follows keys levels config (slots ++ (instruction_taken config machine lines now).slots)
        (instruction_taken config machine lines now).standing t
    pub stands : StandsAs keys.shape.lines config.ways after (instruction config.ways machine lines).held
    pub honest : IsHonest config.ways keys.shape.lines [] (instruction config.ways machine lines).held
        (instruction_taken config machine lines now).standing.data_lines
    pub outcome : end ≡ (instruction config.ways machine lines).outcome

  module _ (machine : Machine) (is : IsCore machine.core) (size : machine.core.size ≡ 64 * keys.shape.lines) where
    pub instruction-plays : (lines : Lines) (slots : List Slot) (now : Standing) (cache after : Contents)
        (s t : TimedState) (end : Machine × Done) → Follows keys levels config slots now s
        → StandsAs keys.shape.lines config.ways cache lines
        → IsHonest config.ways keys.shape.lines [] lines now.data_lines
        → Ends (TimedStep keys levels keys.shape.lines)
        (through (cache_access machine.core.base) (step_plan machine) cache) s t (after, end)
        → Forgery keys t.oram.port.tap.log ⊎ InstructionPlays machine lines slots now after end t
    instruction-plays lines slots now cache after s t end x stands honest ends =
        let plan : Plan LineRequest (List ℕ) (Sets × Machine) (Lines × (Machine × Done)) =
        through (lists_access machine.core.base config.ways) (step_plan machine) lines in
        let step = instruction config.ways machine lines in
        let taken : Taken = instruction_taken config machine lines now in
        let other = Alike-ends (TimedStep keys levels keys.shape.lines) IsLineAnswer
        (answers_lines keys levels keys.shape.lines) (SameBeside {A = Machine} (StandsLeft keys.shape.lines))
        (SameBeside {A = Machine × Done} (StandsAs keys.shape.lines config.ways))
        (through (cache_access machine.core.base) (step_plan machine) cache) plan s t (after, end)
        (instruction-alike keys.shape.lines config.ways machine is size cache lines stands) ends in
        let out : Lines × (Machine × Done) = other.0 in
        let comes : Comes (play (line_slots config) plan now) step taken =
        instruction-comes config config.ways keys.shape.lines machine lines now (some-ways cache lines stands) is size
        (stands.0).size honest x.plays.in_time in
        elim (plan-plays keys lawful levels config request_plays plan slots now s t out x other.1) [
          | inl forged ↦ inl forged
          | inr (y, same) ↦
              (let follows : Follows keys levels config (slots ++ taken.slots) taken.standing t =
              subst (λ l. Follows keys levels config (slots ++ l) taken.standing t) comes.slots
              (subst (λ (n : Standing). Follows keys levels config
              (slots ++ bare (play (line_slots config) plan now).records) n t) comes.held y) in
              let lists : out ≡ (step.held, step.outcome) = same ∙ comes.outcome follows.plays.in_time in
              inr (record {
                follows = follows;
                stands = subst (λ (l : Lines). StandsAs keys.shape.lines config.ways after l)
                    (ap (λ (o : Lines × (Machine × Done)). o.0) lists) (other.2).0;
                honest = subst (IsHonest config.ways keys.shape.lines [] step.held)
                    (sym (requests-data config (bare step.records) now follows.plays.in_time))
                    (instruction-honest config.ways keys.shape.lines [] machine lines now.data_lines
                    (some-ways cache lines stands) is size (stands.0).size honest);
                outcome = (other.2).1 ∙ ap (λ (o : Lines × (Machine × Done)). o.1) lists;
              }))
        ]

  module _ (request_stops : RequestStops keys levels config) where
    -- ---- where one of the requests is stopped
    pub line-stops : (line : ℕ) (value : Line) (lines : Lines) (slots : List Slot) (now : Standing)
        (cache left : Contents) (s t : TimedState) (stop : Stop) → line < keys.shape.lines → length (value.0) ≡ 64
        → Follows keys levels config slots now s → CanAsk levels keys.shape.lines s
        → StandsAs keys.shape.lines config.ways cache lines
        → Stops (TimedStep keys levels keys.shape.lines) (write_line_plan cache line value) s t stop left
        → Forgery keys t.oram.port.tap.log
        ⊎ (let taken = line_taken config line lines now in
        StopLeaves levels (slots ++ taken.slots) taken.standing (with_fetches now.numbers t.fetches) stop
        t.oram.port)
    line-stops line value lines slots now cache left s t stop below whole x ask stands stops =
        let plan : Plan LineRequest (List ℕ) Sets Lines = write_whole_line config.ways lines line (value.0) in
        let taken : Taken = line_taken config line lines now in
        let other = Alike-stops (TimedStep keys levels keys.shape.lines) IsLineAnswer
        (answers_lines keys levels keys.shape.lines) (StandsLeft keys.shape.lines)
        (StandsAs keys.shape.lines config.ways) (write_line_plan cache line value) plan s t stop left
        (whole-stands-as keys.shape.lines 0 config.ways refl cache lines line value stands below whole) stops in
        let takes : Takes (play (line_slots config) plan now) taken =
        image-takes config config.ways line (value.0) lines now x.plays.in_time in
        elim (plan-stops keys lawful levels config request_plays request_stops plan slots now s t stop other.0 x ask
        other.1) [
          | inl forged ↦ inl forged
          | inr leaves ↦ inr (subst
              (λ l. StopLeaves levels (slots ++ l) taken.standing (with_fetches now.numbers t.fetches) stop t.oram.port)
              takes.slots
              (subst (λ (n : Standing). StopLeaves levels (slots ++ bare (play (line_slots config) plan now).records) n
              (with_fetches now.numbers t.fetches) stop t.oram.port) takes.held leaves))
        ]

    pub instruction-stops : (machine : Machine) → IsCore machine.core → machine.core.size ≡ 64 * keys.shape.lines
        → (lines : Lines) (slots : List Slot) (now : Standing) (cache : Contents) (s t : TimedState) (stop : Stop)
        (left : Contents × Machine) → Follows keys levels config slots now s → CanAsk levels keys.shape.lines s
        → StandsAs keys.shape.lines config.ways cache lines
        → IsHonest config.ways keys.shape.lines [] lines now.data_lines
        → Stops (TimedStep keys levels keys.shape.lines)
        (through (cache_access machine.core.base) (step_plan machine) cache) s t stop left
        → Forgery keys t.oram.port.tap.log
        ⊎ (let taken = instruction_taken config machine lines now in
        StopLeaves levels (slots ++ taken.slots) taken.standing (with_fetches now.numbers t.fetches) stop
        t.oram.port)
    instruction-stops machine is size lines slots now cache s t stop left x ask stands honest stops =
        let plan : Plan LineRequest (List ℕ) (Sets × Machine) (Lines × (Machine × Done)) =
        through (lists_access machine.core.base config.ways) (step_plan machine) lines in
        let step = instruction config.ways machine lines in
        let taken : Taken = instruction_taken config machine lines now in
        let other = Alike-stops (TimedStep keys levels keys.shape.lines) IsLineAnswer
        (answers_lines keys levels keys.shape.lines) (SameBeside {A = Machine} (StandsLeft keys.shape.lines))
        (SameBeside {A = Machine × Done} (StandsAs keys.shape.lines config.ways))
        (through (cache_access machine.core.base) (step_plan machine) cache) plan s t stop left
        (instruction-alike keys.shape.lines config.ways machine is size cache lines stands) stops in
        let comes : Comes (play (line_slots config) plan now) step taken =
        instruction-comes config config.ways keys.shape.lines machine lines now (some-ways cache lines stands) is size
        (stands.0).size honest x.plays.in_time in
        elim (plan-stops keys lawful levels config request_plays request_stops plan slots now s t stop other.0 x ask
        other.1) [
          | inl forged ↦ inl forged
          | inr leaves ↦ inr (subst
              (λ l. StopLeaves levels (slots ++ l) taken.standing (with_fetches now.numbers t.fetches) stop t.oram.port)
              comes.slots
              (subst (λ (n : Standing). StopLeaves levels (slots ++ bare (play (line_slots config) plan now).records) n
              (with_fetches now.numbers t.fetches) stop t.oram.port) comes.held leaves))
        ]
