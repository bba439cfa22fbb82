-- Servers that make slots: of a core's accesses, and of requests for lines.
use Rattle.std.specs.Prelude.{◌≡◌, ℕ, List, [], Option, Some, None}
use Rattle.asc_base.specs.declared.settings.Config.{Config}
use Rattle.data_cache.specs.CacheLists.{Lines}
use Rattle.data_cache.specs.Lines.{LineRequest, Fetch, Store}
use Rattle.request_plan.specs.Play.{Turn, Played, bare}
use Rattle.rv32_core.specs.Access.{Access}
use Rattle.rv32_core.specs.Machine.{CoreState}
use Rattle.run_play.specs.Slots.{Slot}
use Rattle.run_play.specs.Requests.{StoredLines, data_line, Standing, Taken, none_taken, one_by_one, request_slots}
use Rattle.run_play.specs.Play.{access_turn}

-- nothing more is taken once a slot came too late
abbrev pub unless_late : Option ℕ → Taken → Standing → Taken
unless_late None taken now = taken
unless_late (Some late) taken now = none_taken now

-- The turn of an access: the slots of its line's requests.
abbrev pub access_slots : Config → CoreState → Lines × Standing → Access → Turn Slot (Lines × Standing) (List ℕ)
access_slots config core (lines, now) access =
    let turn = access_turn config.ways core lines access in
    let taken = unless_late now.late (one_by_one (request_slots config) turn.records now) now in
    record { records = taken.slots; held = (turn.held, taken.standing); answer = turn.answer }

-- A play by this server takes these slots and leaves what stands after them; the lines and the outcome are those of the
-- play without slots.
pub record Matches {B A : Type 0} (both : Played Slot (Lines × Standing) B A) (whole : Played LineRequest Lines B A)
    (taken : Taken) : Type 0 where
  pub slots : bare both.records ≡ taken.slots
  pub held : both.held ≡ (whole.held, taken.standing)
  pub outcome : both.outcome ≡ whole.outcome

-- the line that is answered to a fetch
abbrev pub answered : StoredLines → LineRequest → List ℕ
answered lines (Fetch line) = data_line lines line
answered lines (Store line value) = []

-- The turn of a request for a line: its slots.
abbrev pub line_slots : Config → Standing → LineRequest → Turn Slot Standing (List ℕ)
line_slots config now request =
    let taken = unless_late now.late (request_slots config now request) now in
    record { records = taken.slots; held = taken.standing; answer = answered now.data_lines request }

-- A play by that server takes these slots, and leaves what stands after them.
pub record Takes {B A : Type 0} (played : Played Slot Standing B A) (taken : Taken) : Type 0 where
  pub slots : bare played.records ≡ taken.slots
  pub held : played.held ≡ taken.standing

-- A play by that server through the cache's lists takes these slots and leaves what stands after them, and where none
-- came too late it comes to the lines and the outcome of the play over the bytes.
pub record Comes {B C A : Type 0} (played : Played Slot Standing B (Lines × A)) (whole : Played LineRequest Lines C A)
    (taken : Taken) : Type 0 where
  pub slots : bare played.records ≡ taken.slots
  pub held : played.held ≡ taken.standing
  pub outcome : taken.standing.late ≡ None → played.outcome ≡ (whole.held, whole.outcome)
