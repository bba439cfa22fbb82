-- What requests of an encrypted memory leave.
use Rattle.std.proofs.Common.{◌<◌, ◌+◌, ℕ, [], None, Ok, Err, sym, subst, inl, inr, arith, false, ◌≤◌}
use Rattle.request_plan.proofs.Chains.{Ends-unbind}
use Rattle.asc_base.specs.TreeShape.{olat_of}
use Rattle.asc_base.specs.declared.block.Line.{Line}
use Rattle.asc_base.specs.declared.settings.Config.{Config}
use Rattle.asc_base.specs.declared.stop.Stop.{Stop}
use Rattle.asc_base.specs.declared.stop.Stop.TheVariants.{TimeUp}
use Rattle.epoch_learner.specs.Stands.{KeepsPace}
use Rattle.oram_contents.specs.Entries.{Keys}
use Rattle.oram_frontend.specs.Access.{SlotStep, serve_plan}
use Rattle.oram_frontend.specs.Oram.{OramState, OramRequest, OramStep, Told, Fetch, Store, Wait}
use Rattle.oram_frontend.specs.Slots.{FitKeys}
use Rattle.oram_walk.specs.Front.{FrontState}
use Rattle.oram_walk.specs.Plans.{request_plan, fetch_plan, store_plan}
use Rattle.oram_walk.specs.Request.{Steps, Answer}
use Rattle.oram_walk.specs.declared.slots.Purpose.TheVariants.{Keep, Replace}
use Rattle.rate_enforcer.specs.PortStep.{PortState, Idle}
use Rattle.secure_machine.specs.Goes.{Goes, Breaks}
use Rattle.play_run.specs.Timed.{Serving}
use Rattle.secure_machine.proofs.PortGoes.{step_goes, plan_goes, idle_breaks}
use Rattle.secure_machine.proofs.WalkGoes.{Any, Behind, Fits, fits_bind, request_fits, Walked, walked_none, walk_ends}
use Rattle.secure_machine.proofs.WalkGoes.{walk_stops, behind_took}

fetch_fits : (state : FrontState) (asked line : ℕ) → Fits false Any (fetch_plan state asked line)
fetch_fits state asked line =
    fits_bind Behind Any _ (request_plan state asked (record { 0 = line }) Keep) _ false
    (request_fits state asked (record { 0 = line }) Keep false) (λ a b h. (h, λ x. tt))

store_fits : (state : FrontState) (asked line : ℕ) (value : Line) → Fits false Any (store_plan state asked line value)
store_fits state asked line value =
    fits_bind Behind Any _ (request_plan state asked (record { 0 = line }) (Replace value)) _ false
    (request_fits state asked (record { 0 = line }) (Replace value) false) (λ a b h. tt)

module _ (keys : Keys) (levels : ℕ) (old new : OramState) (fits : FitKeys keys old.port) (serving : Serving levels old)
  where
    started : Walked keys levels old.port false old.port
    started = walked_none keys levels old.port fits serving.serves.rests

    pub oram_goes : (request : OramRequest) (told : Told) → OramStep keys levels old request (Ok told) new
        → Goes old.port new.port
    oram_goes (Fetch asked line) told (serves, seen, is, ends) =
        (walk_ends keys levels old.port Any (fetch_plan old.front asked line) false (fetch_fits old.front asked line)
        old.port new.port _ started ends).2.goes
    oram_goes (Store asked line value) told (serves, is, ends) =
        (walk_ends keys levels old.port Any (store_plan old.front asked line value) false
        (store_fits old.front asked line value) old.port new.port _ started ends).2.goes
    oram_goes (Wait time) told (serves, is, front, one) = step_goes keys.leaf_of levels old.port (Idle time)
        (record { found = None; end = told.end }) new.port one

    pub oram_breaks : (request : OramRequest) (stop : Stop) → OramStep keys levels old request (Err stop) new
        → Breaks stop old.port new.port
    oram_breaks (Fetch asked line) stop (inl had) = let going = serving.going in absurd cc
    oram_breaks (Fetch asked line) stop (inr (stopped, stops)) =
        walk_stops keys levels old.port Any (fetch_plan old.front asked line) false (fetch_fits old.front asked line)
        old.port new.port stop _ started stops
    oram_breaks (Store asked line value) stop (inl had) = let going = serving.going in absurd cc
    oram_breaks (Store asked line value) stop (inr (stopped, stops)) =
        walk_stops keys levels old.port Any (store_plan old.front asked line value) false
        (store_fits old.front asked line value) old.port new.port stop _ started stops
    oram_breaks (Wait time) stop (inl had) = let going = serving.going in absurd cc
    oram_breaks (Wait time) stop (inr (stopped, front, inl had)) =
        let going = serving.serves.rests.going in absurd cc
    oram_breaks (Wait time) stop (inr (stopped, front, inr idle)) =
        idle_breaks keys.leaf_of levels time stop old.port new.port idle

    -- a wait doesn't want time
    pub wait_in_time : (time at : ℕ) → OramStep keys levels old (Wait time) (Err (TimeUp at)) new → ⊥
    wait_in_time time at (inl had) = let going = serving.going in absurd cc
    wait_in_time time at (inr (stopped, front, inl had)) = let going = serving.serves.rests.going in absurd cc
    wait_in_time time at (inr (stopped, front, inr idle)) = elim (idle.breaks []).stops [
      | inl reads ↦ absurd reads
      | inr writes ↦ absurd writes.writes
    ]

    -- a fetch takes a slot at least
    pub fetch_takes : (asked line : ℕ) (told : Told) → OramStep keys levels old (Fetch asked line) (Ok told) new
        → old.port.clock.real < new.port.clock.real
    fetch_takes asked line told (serves, seen, is, ends) =
        let (a, mid, first, later) = Ends-unbind (Steps (SlotStep keys levels)) (λ state. state)
        (request_plan old.front asked (record { 0 = line }) Keep) _ old.port new.port _ ends in
        let (b, behind, walked) = walk_ends keys levels old.port Behind
        (request_plan old.front asked (record { 0 = line }) Keep) false
        (request_fits old.front asked (record { 0 = line }) Keep false) old.port mid a started first in
        let (x, last, note, done) = later in
        let still = plan_goes keys.leaf_of levels (serve_plan keys (Answer line (a.1).line)) mid last _ note in
        subst (λ (t : PortState). old.port.clock.real < t.clock.real) (sym done.1)
        (omega (arith, behind_took keys levels old.port b behind mid walked, still.real))

    -- a wait ends no earlier than was asked
    pub wait_after : (time : ℕ) (told : Told) → OramStep keys levels old (Wait time) (Ok told) new → time ≤ told.end
    wait_after time told (serves, is, front, one) = omega (arith, one.1.end_is)

    -- a wait that isn't asked for beyond the time of the settings ends less than a slot's cycles after it
    pub wait_soon : (time : ℕ) (told : Told) → OramStep keys levels old (Wait time) (Ok told) new
        → time ≤ old.port.clock.config.time
        → told.end < old.port.clock.config.time + olat_of old.port.clock.config.shape.levels
    wait_soon time told (serves, is, front, one) early =
        let last = subst (λ (config : Config). new.port.clock.last < config.time + olat_of config.shape.levels)
        one.1.same.config (one.1.rests 0 serving.serves.rests).in_time in
        omega (arith, one.1.end_is, last, early)

    -- the log keeps the pace up to the end of a wait
    pub wait_pace : (time : ℕ) (told : Told) → OramStep keys levels old (Wait time) (Ok told) new
        → KeepsPace old.port.clock.config told.end new.port.tap.log
    wait_pace time told (serves, is, front, one) = one.1.pace
