-- Calls that an encrypted memory answers one after another, and where a play stands behind them.
use Rattle.std.specs.Prelude.{◌≡◌, ◌++◌, ℕ, List, [], ◌∷◌, Ok, max}
use Rattle.asc_base.specs.declared.settings.Config.{Config}
use Rattle.bus_schedule.specs.Timetable.{public_of}
use Rattle.data_cache.specs.Lines.{LineRequest}
use Rattle.oram_contents.specs.Entries.{Keys}
use Rattle.oram_frontend.specs.Oram.{OramState, OramStep, Told, Wait}
use Rattle.oram_lines.specs.Lines.{IsRequest}
use Rattle.oram_play.specs.Playing.{called, IsTold}
use Rattle.run_play.specs.Requests.{Standing, request_slots}
use Rattle.run_play.specs.Slots.{Slot, Numbers, passed}

-- a request for a line at a clock, or a wait up to a time, each where the run has these numbers
pub data PlayCall : Type 0 where
  Requests : ℕ → Numbers → LineRequest → PlayCall
  Waits : ℕ → Numbers → PlayCall

-- the play at a clock, with these numbers
abbrev pub at_clock : ℕ → Numbers → Standing → Standing
at_clock clock numbers now = record now { clock = clock; numbers = numbers }

-- behind the dummies that start before a time
abbrev pub after_wait : Config → ℕ → Numbers → Standing → Standing
after_wait config time numbers now =
    let more = passed (public_of config) numbers time now.pace in
    record now { pace = more.pace; numbers = numbers }

-- Each call was answered, and the play stands at its end; each request is for a line that there is.
abbrev pub AnsweredInPlay : Keys → ℕ → Config → Standing → OramState → List PlayCall → Standing → OramState → Type 0
AnsweredInPlay keys levels config now old [] end new = (end ≡ now) × (new ≡ old)
AnsweredInPlay keys levels config now old (Requests clock numbers request ∷ calls) end new =
    IsRequest config.shape.lines (called clock request) × (told : Told) × (mid : OramState)
    × OramStep keys levels old (called clock request) (Ok told) mid
    × AnsweredInPlay keys levels config (request_slots config (at_clock clock numbers now) request).standing mid calls
    end new
AnsweredInPlay keys levels config now old (Waits time numbers ∷ calls) end new =
    (told : Told) × (mid : OramState) × OramStep keys levels old (Wait time) (Ok told) mid
    × AnsweredInPlay keys levels config (after_wait config time numbers now) mid calls end new

-- the slots of the play that calls take, one after another
abbrev pub calls_slots : Config → Standing → List PlayCall → List Slot
calls_slots config now [] = []
calls_slots config now (Requests clock numbers request ∷ calls) =
    let taken = request_slots config (at_clock clock numbers now) request in
    taken.slots ++ calls_slots config (taken.standing) calls
calls_slots config now (Waits time numbers ∷ calls) =
    let more = passed (public_of config) numbers time now.pace in
    more.slots ++ calls_slots config (after_wait config time numbers now) calls

-- Each answer is the play's: the time that it then stands at, and of a fetch its line as last stored.
abbrev pub AreTold : (keys : Keys) (levels : ℕ) (config : Config) (now : Standing) (old : OramState)
    (calls : List PlayCall) (end : Standing) (new : OramState) → AnsweredInPlay keys levels config now old calls end new
    → Type 0
AreTold keys levels config now old [] end new answered = Unit {0}
AreTold keys levels config now old (Requests clock numbers request ∷ calls) end new (below, told, mid, step, rest) =
    let began = at_clock clock numbers now in
    let behind = (request_slots config began request).standing in
    (told.end ≡ behind.clock) × IsTold began request told.line
    × AreTold keys levels config behind mid calls end new rest
AreTold keys levels config now old (Waits time numbers ∷ calls) end new (told, mid, step, rest) =
    (told.end ≡ max time (passed (public_of config) numbers time now.pace).pace.heard.ended)
    × AreTold keys levels config (after_wait config time numbers now) mid calls end new rest
