-- Where an encrypted memory stands where a play stands, a stopped request cuts the play.
use Rattle.std.proofs.Common.{◌≡◌, ◌<◌, ◌⊎◌, ℕ, List, None, Err, sym, subst, arith, inl, inr}
use Rattle.asc_base.specs.declared.block.Line.{Line}
use Rattle.asc_base.specs.declared.settings.Config.{Config}
use Rattle.asc_base.specs.declared.stop.Stop.{Stop}
use Rattle.asc_base.specs.declared.stop.Stop.TheVariants.{NoMemory}
use Rattle.data_cache.specs.Lines.{LineRequest, Fetch, Store}
use Rattle.oram_contents.specs.Entries.{Keys, AreKeys}
use Rattle.oram_contents.specs.Forgery.{Forgery}
use Rattle.oram_frontend.specs.Oram.{OramState, OramStep}
use Rattle.oram_lines.specs.Lines.{IsRequest}
use Rattle.oram_lines.specs.Noted.{AreAnswersIn, lines_behind, IsDueRequest}
use Rattle.oram_lines.proofs.HonestStops.{fetch_stopped, store_stopped}
use Rattle.oram_walk.specs.Front.{sizes_of}
use Rattle.oram_walk.specs.Plans.{FrontPlan, fetch_plan, store_plan}
use Rattle.posmap_lookaside.specs.Walk.{WalkSizes, IsHeldList, walk}
use Rattle.run_play.specs.Requests.{Standing, requested, request_slots, walk_sizes}
use Rattle.run_play.specs.Slots.{Slot}
use Rattle.oram_play.specs.OnPlay.{FindsLines}
use Rattle.oram_play.specs.Playing.{PlaysAs, LeavesOf, called}
use Rattle.oram_play.specs.Shown.{lines_in_turn}
use Rattle.oram_play.specs.StopsInTurn.{StopsInTurn, IsOnWalk, IsStopped, asked_of}
use Rattle.oram_play.specs.Walked.{put_for}
use Rattle.oram_play.proofs.CutRequests.{request-left}
use Rattle.oram_play.proofs.FoundInStops.{finds-lines}
use Rattle.oram_play.proofs.OnPlays.{on-play}
use Rattle.oram_play.proofs.Stands.{lines_are, keys_lines, layered, data_lines}
use Rattle.oram_play.proofs.StopWalks.{fetch-stops, store-stops}

module _ (keys : Keys) (lawful : AreKeys keys) (levels : ℕ) (config : Config) (slots : List Slot) (now : Standing)
    (old : OramState) (x : PlaysAs keys levels config slots now old) (stop : Stop) (new : OramState) where
  -- the stop on a walk, in a configuration and with some sizes, and what was found there
  record IsCutOn (request : LineRequest) (c : Config) (sizes : WalkSizes) : Type 0 where
    pub stops : StopsInTurn keys levels c now.numbers now.clock slots now.pace stop new.port
    pub on : IsOnWalk sizes x.lines (put_for request) (walk sizes now.chip (requested request)).accesses stops.accesses
        stops.next
    pub right : FindsLines (lines_in_turn x.lines stops.accesses) stops.next

  cut_on : {A : Type 0} (request : LineRequest) (plan : FrontPlan A) → requested request < config.shape.lines
      → (st : IsStopped keys levels now.numbers now.clock (requested request) (put_for request) plan slots now.pace
      stop old new) → AreAnswersIn x.lines st.answers
      → IsDueRequest keys (lines_behind x.lines st.answers) (asked_of st.stops.next) st.stops.mid
      → IsCutOn request config (walk_sizes config)
  cut_on request plan below st are due =
      let same = lines_are keys lawful levels config slots now old x in
      let first : IsCutOn request old.port.clock.config (sizes_of old.front) = record {
        stops = st.stops;
        on = st.walks x.lines now.chip (omega (arith, same, below)) x.shows (st.found x.lines are);
        right = finds-lines lawful (lines_in_turn x.lines st.stops.accesses) st.stops.next
            (subst (λ lines. IsDueRequest keys lines (asked_of st.stops.next) st.stops.mid) (st.leaves x.lines) due);
      } in
      subst (IsCutOn request config) x.sizes
      (subst (λ (c : Config). IsCutOn request c (sizes_of old.front)) x.config_is first)

  cuts : (request : LineRequest) → requested request < config.shape.lines
      → IsCutOn request config (walk_sizes config)
      → Forgery keys new.port.tap.log ⊎ LeavesOf levels slots (request_slots config now request) stop new.port
  cuts request below c =
      let held : IsHeldList (walk_sizes config) now.chip.held =
      subst (λ (s : WalkSizes). IsHeldList s now.chip.held) x.sizes x.shows.list in
      request-left keys levels config now request slots stop new.port x.in_time c.stops
      (lines_in_turn x.lines c.stops.accesses)
      (on-play config now request x.lines (layered keys lawful levels config slots now old x) held below
      (data_lines keys lawful levels config slots now old x) c.stops.accesses c.stops.next c.on) c.right

  -- for want of memory nothing is said
  nothing-said : (request : LineRequest) → stop ≡ NoMemory
      → LeavesOf levels slots (request_slots config now request) stop new.port
  nothing-said request none =
      subst (λ s. LeavesOf levels slots (request_slots config now request) s new.port) (sym none) tt

  pub request-cuts : (request : LineRequest) → IsRequest config.shape.lines (called now.clock request)
      → old.stop ≡ None → OramStep keys levels old (called now.clock request) (Err stop) new
      → Forgery keys new.port.tap.log ⊎ LeavesOf levels slots (request_slots config now request) stop new.port
  request-cuts (Fetch line) below serves step =
      let inside : line < keys.shape.lines =
      (let same = keys_lines keys lawful levels config slots now old x in omega (arith, same, below)) in
      let rests = x.stands.rests in
      let st = fetch-stops keys levels rests.0 now.clock line stop old new slots now.pace now.numbers
      x.stands.known.fits rests.2 serves x.taken step in
      elim (fetch_stopped keys lawful levels old.front x.ghost old.port now.clock line x.stands x.calm inside x.lines
      x.outside st.stops.mid (asked_of st.stops.next) (record { port = new.port; answers = st.answers }) stop new.front
      st.run) [
        | inl forged ↦ inl forged
        | inr (are, inl none) ↦ inr (nothing-said (Fetch line) none)
        | inr (are, inr due) ↦ cuts (Fetch line) below
            (cut_on (Fetch line) (fetch_plan old.front now.clock line) below st are due)
      ]
  request-cuts (Store line value) below serves step =
      let inside : line < keys.shape.lines =
      (let same = keys_lines keys lawful levels config slots now old x in omega (arith, same, below.0)) in
      let put : Line = record { 0 = value } in
      let rests = x.stands.rests in
      let st = store-stops keys levels rests.0 now.clock line put stop old new slots now.pace now.numbers
      x.stands.known.fits rests.2 serves x.taken step in
      elim (store_stopped keys lawful levels old.front x.ghost old.port now.clock line put x.stands x.calm inside
      below.1 x.lines x.outside st.stops.mid (asked_of st.stops.next)
      (record { port = new.port; answers = st.answers }) stop new.front st.run) [
        | inl forged ↦ inl forged
        | inr (are, inl none) ↦ inr (nothing-said (Store line value) none)
        | inr (are, inr due) ↦ cuts (Store line value) below.0
            (cut_on (Store line value) (store_plan old.front now.clock line put) below.0 st are due)
      ]
