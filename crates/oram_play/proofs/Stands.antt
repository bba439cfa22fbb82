-- An encrypted memory that stands where a play stands, stands there after each request, or its log shows a forgery.
use Rattle.std.proofs.Common.{◌≡◌, ◌<◌, ◌≤◌, ◌⊎◌, inl, inr, ℕ, List, [], ◌++◌, None, Some, Ok, max}
use Rattle.std.proofs.Common.{refl, sym, ap, ◌∙◌, subst, arith}
use Rattle.request_plan.proofs.Keeps.{Ends-has}
use Rattle.asc_base.specs.Settings.{IsConfig}
use Rattle.asc_base.specs.declared.block.Line.{Line}
use Rattle.asc_base.specs.declared.settings.Config.{Config}
use Rattle.asc_base.specs.declared.shape.Shape.{Shape}
use Rattle.asc_base.proofs.Lookups.{none_is_not}
use Rattle.asc_base.proofs.ShapeFacts.{IsLayered, shape_layered}
use Rattle.bus_schedule.specs.Timetable.{public_of}
use Rattle.data_cache.specs.Lines.{LineRequest, Fetch, Store}
use Rattle.oram_contents.specs.Counts.{line_by, put_at, zero_line}
use Rattle.oram_contents.specs.Entries.{Keys, AreKeys}
use Rattle.oram_contents.specs.Forgery.{Forgery}
use Rattle.oram_contents.specs.Starts.{first_ghost}
use Rattle.oram_contents.proofs.Lines.{put_same, put_other}
use Rattle.oram_frontend.specs.Access.{SlotStep}
use Rattle.oram_frontend.specs.Oram.{OramState, OramStep, Told, Wait}
use Rattle.oram_lines.specs.Lines.{IsNew, IsRequest}
use Rattle.oram_lines.specs.Noted.{AreAnswersIn, lines_behind}
use Rattle.oram_lines.specs.Standing.{StandsFor}
use Rattle.oram_lines.proofs.FetchLaws.{data_leaf, data_inside, fetch_answers, store_answers}
use Rattle.oram_lines.proofs.GrowLaws.{counted_walk}
use Rattle.oram_lines.proofs.LineLaws.{new_stands, new_holds, wait_answers}
use Rattle.oram_lines.proofs.NotedLaws.{zeros_outside}
use Rattle.oram_walk.specs.Front.{FrontState, IsAfter, sizes_of}
use Rattle.oram_walk.specs.Plans.{FrontPlan, fetch_plan, store_plan}
use Rattle.oram_walk.specs.Request.{Steps}
use Rattle.oram_walk.specs.Rows.{zeros}
use Rattle.oram_walk.specs.Shows.{Shows}
use Rattle.oram_walk.specs.declared.slots.Seen.{Seen}
use Rattle.oram_walk.proofs.HeldAfter.{fetch_after, store_after}
use Rattle.oram_walk.proofs.Walked.{start_shown}
use Rattle.posmap_lookaside.specs.Walk.{WalkSizes, OnChip, Walked, IsHeldList, chip_at_start, walk}
use Rattle.run_play.specs.Requests.{Standing, Taken, standing_at_start, data_line, walk_sizes, requested}
use Rattle.run_play.specs.Requests.{value_of, request_done, request_slots}
use Rattle.run_play.specs.Slots.{Pace, Slot, first_pace, passed}
use Rattle.run_play.proofs.Honest.{line-front}
use Rattle.oram_play.specs.Answered.{IsAnswered}
use Rattle.oram_play.specs.InTurn.{AnsweredAccess, AreInTurn, slots_in_turn}
use Rattle.oram_play.specs.Playing.{PlaysAs, called, IsTold}
use Rattle.oram_play.specs.Shown.{AreShownAs}
use Rattle.oram_play.specs.Taken.{HasTaken}
use Rattle.oram_play.specs.Walked.{AreWalked, put_for}
use Rattle.oram_play.proofs.Between.{start-taken}
use Rattle.oram_play.proofs.Found.{shown-walked}
use Rattle.oram_play.proofs.PlayTurns.{request-played}
use Rattle.oram_play.proofs.Turns.{fetch-takes, store-takes}
use Rattle.oram_play.proofs.Waits.{wait-taken}

-- What a request comes to in a play, and what the memory took and shows of it.
record IsTurn (request : LineRequest) (now : Standing) (end : ℕ) (slots : List Slot) (lines : ℕ → Line)
    (new : OramState) (turn : Taken) : Type 0 where
  pub taken : HasTaken new.port (slots ++ turn.slots) turn.standing.pace
  pub shows : Shows new.front lines turn.standing.chip
  pub clock : end ≡ turn.standing.clock
  pub late : turn.standing.late ≡ None
  pub stored : turn.standing.data_lines ≡ (request_done request now).data_lines

turn_done : (request : LineRequest) (now : Standing) (end : ℕ) (slots more : List Slot) (pace : Pace) (chip : OnChip)
    (lines : ℕ → Line) (new : OramState) → HasTaken new.port (slots ++ more) pace → Shows new.front lines chip
    → now.late ≡ None
    → IsTurn request now end slots lines new (record {
      slots = more;
      standing = request_done request (record now { pace = pace; clock = end; chip = chip });
    })
turn_done (Fetch line) now end slots more pace chip lines new has shows late =
    record { taken = has; shows = shows; clock = refl; late = late; stored = refl }
turn_done (Store line value) now end slots more pace chip lines new has shows late =
    record { taken = has; shows = shows; clock = refl; late = late; stored = refl }

-- a front end keeps its sizes
same_sizes : (old now : FrontState) (line : ℕ) → IsAfter old line now → sizes_of now ≡ sizes_of old
same_sizes old now line after =
    λ i. record {
      lines = (after.shape i).lines;
      layers = (after.shape i).layers;
      plb = after.plb i;
      ic = after.ic i;
    }

module _ (keys : Keys) (lawful : AreKeys keys) (levels : ℕ) where
  module _ (config : Config) (slots : List Slot) (now : Standing) (old : OramState)
      (x : PlaysAs keys levels config slots now old) where
    pub lines_are : old.front.shape.lines ≡ config.shape.lines
    lines_are = ap (λ (s : WalkSizes). s.lines) x.sizes

    layers_are : old.front.shape.layers ≡ config.shape.layers
    layers_are = ap (λ (s : WalkSizes). s.layers) x.sizes

    pub keys_lines : config.shape.lines ≡ keys.shape.lines
    keys_lines = sym lines_are ∙ ap (λ (s : Shape). s.lines) x.stands.shown.shape

    pub layered : 1 ≤ config.shape.layers
    layered =
        let facts : IsLayered old.front.shape = shape_layered old.front.shape x.shows.front.shape in
        omega (arith, facts.layers_from, layers_are)

    -- the data lines of the memory are those that were stored
    pub data_lines : (a : ℕ) → a < config.shape.lines → (x.lines a).0 ≡ data_line now.data_lines a
    data_lines a below =
        let inside : a < keys.shape.lines = omega (arith, keys_lines) in
        let leaf = data_leaf keys lawful levels a inside in
        x.outside.each a (data_inside keys lawful levels a inside)
        (λ has. none_is_not (sym leaf ∙ (x.stands.shown.groups.families a has).1))
        (λ flying. none_is_not (sym x.calm.flight ∙ flying))
        ∙ ap (line_by x.ghost.count (x.ghost.data_lines a)) leaf ∙ x.stored a inside

    -- the slots of an answered request are the play's
    request_turn : {A : Type 0} (request : LineRequest) (end : ℕ) (plan : FrontPlan A) (outcome : A) (new : OramState)
        → requested request < config.shape.lines
        → (done : IsAnswered keys levels now.numbers now.clock end (requested request) (put_for request) plan outcome
        slots now.pace old new)
        → AreAnswersIn x.lines done.answers
        → IsTurn request now end slots (lines_behind x.lines done.answers) new (request_slots config now request)
    request_turn request end plan outcome new below done are =
        let line : ℕ = requested request in
        let accesses : List AnsweredAccess = done.takes.accesses in
        let sizes : WalkSizes = walk_sizes config in
        let walked : Walked = walk sizes now.chip line in
        let inside : line < old.front.shape.lines = omega (arith, lines_are, below) in
        let shown : AreShownAs sizes x.lines (put_for request) walked.accesses accesses =
        subst (λ (s : WalkSizes). AreShownAs s x.lines (put_for request) (walk s now.chip line).accesses accesses)
        x.sizes (done.walks x.lines now.chip inside x.shows (done.found x.lines are)) in
        let held : IsHeldList sizes now.chip.held =
        subst (λ (s : WalkSizes). IsHeldList s now.chip.held) x.sizes
        (subst (IsHeldList (sizes_of old.front)) refl x.shows.list) in
        let walks : AreWalked config now.data_lines (value_of request) walked.accesses accesses =
        shown-walked config now.data_lines x.lines now.chip request accesses layered held below data_lines shown in
        let in_turn : AreInTurn config now.numbers now.clock accesses now.pace end =
        subst (λ (c : Config). AreInTurn c now.numbers now.clock accesses now.pace end) x.config_is
        done.takes.in_turn in
        let has = subst (λ (c : Config). HasTaken new.port
        (slots ++ (slots_in_turn c now.numbers accesses now.pace).slots)
        (slots_in_turn c now.numbers accesses now.pace).pace) x.config_is done.takes.taken in
        let shows : Shows new.front (lines_behind x.lines done.answers) walked.chip =
        subst (λ (s : WalkSizes). Shows new.front (lines_behind x.lines done.answers) (walk s now.chip line).chip)
        x.sizes (done.shows x.lines now.chip inside x.shows are) in
        let all = slots_in_turn config now.numbers accesses now.pace in
        subst (IsTurn request now end slots (lines_behind x.lines done.answers) new)
        (sym (request-played config now request accesses end x.in_time in_turn walks))
        (turn_done request now end slots all.slots all.pace walked.chip (lines_behind x.lines done.answers) new has
        shows x.in_time)

  -- A request that is answered.
  pub request_stands : (config : Config) (slots : List Slot) (now : Standing) (request : LineRequest) (told : Told)
      (old new : OramState) → PlaysAs keys levels config slots now old
      → IsRequest config.shape.lines (called now.clock request)
      → OramStep keys levels old (called now.clock request) (Ok told) new
      → Forgery keys new.port.tap.log
      ⊎ (let taken = request_slots config now request in
      PlaysAs keys levels config (slots ++ taken.slots) taken.standing new × (told.end ≡ taken.standing.clock)
      × IsTold now request told.line)
  request_stands config slots now (Fetch line) told old new x below step =
      let inside : line < keys.shape.lines = omega (arith, keys_lines config slots now old x) in
      let rests = x.stands.rests in
      let all = fetch-takes keys levels rests.0 now.clock line told old new slots now.pace now.numbers
      x.stands.known.fits rests.2 x.taken step in
      let done = all.2 in
      elim (fetch_answers keys lawful levels old.front x.ghost old.port now.clock line x.stands x.calm inside x.lines
      x.outside (record { port = new.port; answers = done.answers }) new.front all.0 done.run) [
        | inl forged ↦ inl forged
        | inr (h, stands, calm, same, bytes, are, outside) ↦ inr (
            let turn = request_turn config slots now old x (Fetch line) told.end (fetch_plan old.front now.clock line)
            all.0 new below done are in (
              record {
                config_is = done.config ∙ x.config_is;
                sizes = same_sizes old.front new.front line
                    (Ends-has (Steps (SlotStep keys levels)) (λ (r : FrontState × Seen). IsAfter old.front line (r.0))
                    (fetch_plan old.front now.clock line) (fetch_after old.front now.clock line) old.port new.port
                    (new.front, step.1) step.3) ∙ x.sizes;
                ghost = h;
                stands = stands;
                calm = calm;
                counted = counted_walk keys levels (fetch_plan old.front now.clock line) old.port new.port _ step.3
                    x.counted;
                stored = λ b within. same b (data_leaf keys lawful levels b within) ∙ x.stored b within
                    ∙ ap (λ l. data_line l b) (sym turn.stored);
                lines = lines_behind x.lines done.answers;
                outside = outside;
                shows = turn.shows;
                taken = turn.taken;
                in_time = turn.late;
              },
              turn.clock,
              all.1 ∙ ap (λ (b : List ℕ). Some (let l : Line = record { 0 = b } in l)) (bytes ∙ x.stored line inside),
            )
            )
      ]
  request_stands config slots now (Store line value) told old new x below step =
      let inside : line < keys.shape.lines = omega (arith, keys_lines config slots now old x, below.0) in
      let put : Line = record { 0 = value } in
      let rests = x.stands.rests in
      let all = store-takes keys levels rests.0 now.clock line put told old new slots now.pace now.numbers
      x.stands.known.fits rests.2 x.taken step in
      let done = all.1 in
      elim (store_answers keys lawful levels old.front x.ghost old.port now.clock line put x.stands x.calm inside
      below.1 x.lines x.outside (record { port = new.port; answers = done.answers }) new.front told.end done.run) [
        | inl forged ↦ inl forged
        | inr (h, stands, calm, puts, are, outside) ↦ inr (
            let turn = request_turn config slots now old x (Store line value) told.end
            (store_plan old.front now.clock line put) told.end new below.0 done are in (
              record {
                config_is = done.config ∙ x.config_is;
                sizes = same_sizes old.front new.front line
                    (Ends-has (Steps (SlotStep keys levels)) (λ (r : FrontState × ℕ). IsAfter old.front line (r.0))
                    (store_plan old.front now.clock line put) (store_after old.front now.clock line put) old.port
                    new.port (new.front, told.end) step.2) ∙ x.sizes;
                ghost = h;
                stands = stands;
                calm = calm;
                counted = counted_walk keys levels (store_plan old.front now.clock line put) old.port new.port _ step.2
                    x.counted;
                stored = λ b within. puts b (data_leaf keys lawful levels b within)
                    ∙ sym (line-front line value now.data_lines b (put_at x.ghost.data_lines line value b)
                    (λ e. sym (put_same x.ghost.data_lines line value)
                    ∙ ap (put_at x.ghost.data_lines line value) (sym e))
                    (λ other. sym (put_other x.ghost.data_lines line value b other ∙ x.stored b within)))
                    ∙ ap (λ l. data_line l b) (sym turn.stored);
                lines = lines_behind x.lines done.answers;
                outside = outside;
                shows = turn.shows;
                taken = turn.taken;
                in_time = turn.late;
              },
              turn.clock,
              all.0,
            )
            )
      ]

  -- Waiting passes dummies.
  pub wait_stands : (config : Config) (slots : List Slot) (now : Standing) (time : ℕ) (told : Told)
      (old new : OramState) → PlaysAs keys levels config slots now old
      → OramStep keys levels old (Wait time) (Ok told) new
      → (let more = passed (public_of config) now.numbers time now.pace in
      PlaysAs keys levels config (slots ++ more.slots) (record now { pace = more.pace }) new
      × (told.end ≡ max time more.pace.heard.ended))
  wait_stands config slots now time told old new x (serves, is, same, one) =
      let rests = x.stands.rests in
      let waited = wait-taken keys levels rests.0 time told.end old.port new.port slots now.pace now.numbers
      x.stands.known.fits rests.2 x.taken one.1 in
      let took = subst (λ (c : Config). (let more = passed (public_of c) now.numbers time now.pace in
      HasTaken new.port (slots ++ more.slots) more.pace × (told.end ≡ max time more.pace.heard.ended))) x.config_is
      waited in
      let (h, stands, calm, data_same, outside) = wait_answers keys lawful levels old.front x.ghost old.port new.port
      time told.end x.stands x.calm x.counted x.lines x.outside one in (
        record {
          config_is = one.1.same.config ∙ x.config_is;
          sizes = ap sizes_of same ∙ x.sizes;
          ghost = h;
          stands = subst (λ (f : FrontState). StandsFor keys levels 0 f h new.port) (sym same) stands;
          calm = calm;
          counted = one.1.counts x.counted;
          stored = λ b within. data_same b (data_leaf keys lawful levels b within) ∙ x.stored b within;
          lines = x.lines;
          outside = outside;
          shows = subst (λ (f : FrontState). Shows f x.lines now.chip) (sym same) x.shows;
          taken = took.0;
          in_time = x.in_time;
        },
        took.1,
      )

  -- A new encrypted memory stands at the start.
  pub new_plays : (config : Config) (o : OramState) → IsConfig config → IsNew keys config levels o
      → o.port.clock.config ≡ config → PlaysAs keys levels config [] (standing_at_start config) o
  unfolding zero_line
  new_plays config o is new config_is = record {
    config_is = config_is;
    sizes = ap sizes_of new.front;
    ghost = first_ghost;
    stands = new_stands keys lawful levels config o is new;
    calm = record { flight = refl; pend = refl; stepped = refl; move = refl };
    counted = (new_holds keys lawful levels config o is new).counted;
    stored = λ line below. refl;
    lines = zeros;
    outside = zeros_outside keys lawful;
    shows = subst (λ (f : FrontState). Shows f zeros chip_at_start) (sym new.front) (start_shown config is);
    taken = subst (λ (c : Config). HasTaken o.port [] (first_pace (public_of c))) config_is
        (start-taken o.port new.log new.dummies);
    in_time = refl;
  }
