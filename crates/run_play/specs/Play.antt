-- The Play: what a program does and when, over a memory outside that is honest. It knows no leaf, stash, bucket or key.
use Rattle.std.specs.Prelude.{ℕ, zero, suc, ◌+◌, nat_lt, min, max, Bool, true, false, List, [], ◌∷◌, ◌++◌, Option}
use Rattle.std.specs.Prelude.{Some, None}
use Rattle.asc_base.specs.declared.settings.Config.{Config}
use Rattle.asc_base.specs.declared.stop.Evidence.{Evidence}
use Rattle.bus_schedule.specs.Timetable.{public_of}
use Rattle.data_cache.specs.CacheLists.{Lines, Sets, no_lines, requests_of, sets_after}
use Rattle.data_cache.specs.Lines.{LineRequest}
use Rattle.request_plan.specs.Play.{Turn, Played, play, bare}
use Rattle.rv32_core.specs.Access.{Access, access_bytes}
use Rattle.rv32_core.specs.LineList.{LineUse, WholeWrite, line_used}
use Rattle.rv32_core.specs.Machine.{CoreState, Machine}
use Rattle.rv32_core.specs.StepPlan.{step_plan}
use Rattle.rv32_core.specs.declared.outcome.Done.{Done}
use Rattle.rv32_core.specs.declared.outcome.Ended.{Ended}
use Rattle.rv32_core.specs.declared.outcome.Ended.TheVariants.{No, Exit, Trap}
use Rattle.rv32_core.specs.declared.outcome.TrapKind.{TrapKind}
use Rattle.run_play.specs.Slots.{Slot, Numbers, passed}
use Rattle.run_play.specs.Requests.{Standing, standing_at_start, Taken, none_taken, followed, one_by_one}
use Rattle.run_play.specs.Requests.{request_slots}

-- How a run ends: by itself, at the settings' budget or time, or by a stop of its memory.
pub data PlayEnding : Type 0 where
  Exited : ℕ → PlayEnding
  Trapped : TrapKind → ℕ → PlayEnding
  Budget : PlayEnding
  TimeUp : ℕ → PlayEnding
  StashFull : ℕ → PlayEnding
  Integrity : Evidence → PlayEnding
  Device : PlayEnding

-- The slots of a run, how it ended, how far it came, and its end time; and, where no stop cut it, what stands behind
-- its last request, before the slots up to its end pass.
pub record Play : Type 0 where
  pub slots : List Slot
  pub ending : PlayEnding
  pub numbers : Numbers
  pub last : ℕ
  pub behind : Option Standing

-- slots before a play
abbrev pub after_slots : List Slot → Play → Play
after_slots slots rest = record rest { slots = slots ++ rest.slots }

-- an access to a list of bytes of which some lines are kept, as a turn: the requests of its line, and what is answered
abbrev pub access_turn : ℕ → CoreState → Lines → Access → Turn LineRequest Lines (List ℕ)
access_turn ways core lines access =
    let answer = access_bytes core.base lines.memory access in
    record {
      records = requests_of ways lines.memory lines.sets (line_used core access);
      held = record { memory = answer.1; sets = sets_after ways lines.sets (line_used core access) };
      answer = answer.0;
    }

-- The requests of an instruction, the lines behind the machine after it, and the machine and how it ended.
abbrev pub instruction : ℕ → Machine → Lines → Played LineRequest Lines Machine (Machine × Done)
instruction ways machine lines = play (access_turn ways machine.core) (step_plan machine) lines

-- an image line is written whole
abbrev pub image_use : ℕ → LineUse
image_use line = record { line = line; kind = WholeWrite }

-- an image line that is loaded, at the cost of a cycle
abbrev pub line_loaded : Standing → Standing
line_loaded now =
    record now { clock = now.clock + 1; numbers = record now.numbers { cycles = now.clock + 1 } }

-- an instruction that is finished, at its cost
abbrev pub finished : ℕ → Standing → Standing
finished cost now = record now {
  clock = now.clock + cost;
  numbers = record now.numbers {
    instructions = now.numbers.instructions + 1;
    cycles = now.clock + cost;
  };
}

module _ (config : Config) where
  -- the image's lines, one after another, and the lists of the cache after them
  unfoldable pub image_slots : List ℕ → List ℕ → Sets → Standing → Taken
  image_slots memory [] sets now = none_taken now
  image_slots memory (line ∷ marked) sets now =
      let requests = requests_of config.ways memory sets (image_use line) in
      let stored = one_by_one (request_slots config) requests now in
      let done = followed stored (λ after. none_taken (line_loaded after)) stored.standing.late in
      followed done (image_slots memory marked (sets_after config.ways sets (image_use line))) done.standing.late

  abbrev pub image_sets : List ℕ → Sets → Sets
  image_sets [] sets = sets
  image_sets (line ∷ marked) sets = image_sets marked (sets_after config.ways sets (image_use line))

  -- A run ends so: the slots that start before a time pass, and the last of them may end later.
  abbrev pub ends : PlayEnding → ℕ → Standing → Play
  ends ending until now =
      let idle = passed (public_of config) now.numbers until now.pace in
      record {
        slots = idle.slots;
        ending = ending;
        numbers = now.numbers;
        last = max until idle.pace.heard.ended;
        behind = Some now;
      }

  -- the program ends it, or the budget does: slots go on up to its cycles; the time does: they go on up to the time
  abbrev pub comes_to : PlayEnding → Standing → Play
  comes_to ending now = ends ending (min now.numbers.cycles config.time) now

  abbrev pub times_out : ℕ → Standing → Play
  times_out at now = ends (TimeUp at) config.time now

  -- after an instruction's requests: by whether a slot came too late, and by how the instruction ended
  abbrev pub after_requests : (Standing → Play) → Standing → ℕ → Option ℕ → Ended → Play
  after_requests rest now cost (Some late) ended = times_out late now
  after_requests rest now cost None No = rest (finished cost now)
  after_requests rest now cost None (Exit status) = comes_to (Exited status) (finished cost now)
  after_requests rest now cost None (Trap kind pc) = comes_to (Trapped kind pc) now

  -- an instruction, where there is time for it
  abbrev pub begins : (Machine → Lines → Standing → Play) → Machine → Lines → Standing → Bool → Play
  begins rest machine lines now false = times_out now.clock now
  begins rest machine lines now true =
      let step = instruction config.ways machine lines in
      let done = (step.outcome).1 in
      let taken = one_by_one (request_slots config) (bare step.records) now in
      after_slots taken.slots
      (after_requests (rest ((step.outcome).0) step.held) taken.standing done.cost taken.standing.late done.ended)

  -- The play of at most so many instructions more.
  unfoldable pub play_from : ℕ → Machine → Lines → Standing → Play
  play_from zero machine lines now = comes_to Budget now
  play_from (suc n) machine lines now = begins (play_from n) machine lines now (nat_lt now.clock config.time)

  -- after the image's lines
  abbrev pub after_image : (Standing → Play) → Standing → Option ℕ → Play
  after_image rest now (Some late) = times_out late now
  after_image rest now None = rest now

  -- The Play of a machine at its start, where the memory has these bytes and these lines of it are the image's.
  abbrev pub play_of : List ℕ → List ℕ → Machine → Play
  play_of memory marked machine =
      let sets = no_lines config.sets in
      let loaded = image_slots memory marked sets (standing_at_start config) in
      let lines : Lines = record { memory = memory; sets = image_sets marked sets } in
      after_slots loaded.slots
      (after_image (play_from config.budget machine lines) loaded.standing loaded.standing.late)
