-- The LineList: which lines of 64 bytes a flat run uses, in which order, and how many cycles lie between them.
use Rattle.std.specs.Prelude.{◌≡◌, ℕ, zero, suc, ◌+◌, ◌-◌, ◌/◌, ◌==◌, if◌then◌else◌, List, [], ◌∷◌, ◌++◌, map}
use Rattle.std.specs.Int.{from_le_bytes, w32}
use Rattle.request_plan.specs.Plan.{Plan, Done as Outcome, Ask}
use Rattle.request_plan.specs.Play.{Turn, bare, play}
use Rattle.rv32_table.specs.Meaning.{load_width, store_width}
use Rattle.rv32_core.specs.Access.{Access, Load, Store}
use Rattle.rv32_core.specs.Machine.{CoreState, Machine, is_inside, effect_of_word}
use Rattle.rv32_core.specs.FlatMachine.{FlatStep, bytes_at, flat_step}
use Rattle.rv32_core.specs.declared.effect.Effect.{Effect}
use Rattle.rv32_core.specs.declared.effect.Effect.TheVariants.{Passes, Sets, Jumps, Loads, Stores, Answers, Breaks}
use Rattle.rv32_core.specs.declared.effect.Effect.TheVariants.{Reads, Writes, Exits, Traps}
use Rattle.rv32_core.specs.declared.outcome.Ended.{Ended}
use Rattle.rv32_core.specs.declared.outcome.Ended.TheVariants.{No, Exit, Trap}

-- How a line is used: read, written in part, or written whole.
pub data LineKind : Type 0 where
  Read : LineKind
  Write : LineKind
  WholeWrite : LineKind

-- A line of the memory, the first being 0, and how it is used.
pub record LineUse : Type 0 where
  pub line : ℕ
  pub kind : LineKind

-- One item: the cycles of instructions and image lines since the item before it, and the line.
pub record LineItem : Type 0 where
  pub cost : ℕ
  pub use_of : LineUse

-- the line of an address
abbrev pub line_of : CoreState → ℕ → ℕ
line_of core address = (address - core.base) / 64

-- so many lines from one on
unfoldable pub lines_from : ℕ → ℕ → List ℕ
lines_from line zero = []
lines_from line (suc more) = line ∷ lines_from (line + 1) more

-- the lines of so many bytes from an address on, rising, each once
abbrev pub lines_of : CoreState → ℕ → ℕ → List ℕ
lines_of core address count =
    if count == 0 then []
    else lines_from (line_of core address) (line_of core (address + count - 1) + 1 - line_of core address)

-- these lines, used in this way
abbrev pub used : LineKind → List ℕ → List LineUse
used kind lines = map (λ line. let use_of : LineUse = record { line = line; kind = kind } in use_of) lines

-- The data lines of an effect. A host read stores its bytes, and a host write loads them.
abbrev pub data_lines : CoreState → Effect → List LineUse
data_lines core Passes = []
data_lines core (Sets index value) = []
data_lines core (Jumps index target) = []
data_lines core (Loads op index address) = used Read (lines_of core address (load_width op))
data_lines core (Stores op address value) = used Write (lines_of core address (store_width op))
data_lines core (Answers value) = []
data_lines core (Breaks value) = []
data_lines core (Reads address count) = used Write (lines_of core address count)
data_lines core (Writes address count) = used Read (lines_of core address count)
data_lines core (Exits status) = []
data_lines core (Traps kind) = []

-- The lines of a word's instruction after its fetch: those of its data, none where it traps.
abbrev pub word_lines : Machine → ℕ → List LineUse
word_lines machine word = data_lines machine.core (effect_of_word machine word)

-- the line of a fetch
abbrev pub fetch_line : CoreState → LineUse
fetch_line core = record { line = line_of core core.pc; kind = Read }

-- The lines of an instruction: its fetch and its data; none where the fetch faults.
abbrev pub step_lines : Machine → List ℕ → List LineUse
step_lines machine memory =
    let core = machine.core in
    if is_inside core core.pc 4
    then fetch_line core ∷ word_lines machine (from_le_bytes w32 (bytes_at machine memory core.pc 4))
    else []

-- items with this cost before the first, and none between them
abbrev pub items_after : ℕ → List LineUse → List LineItem
items_after cost [] = []
items_after cost (first ∷ others) = record { cost = cost; use_of = first } ∷ items_after 0 others

-- the items from a step on, where rest is those from a machine and its bytes on, after so many cycles
abbrev pub items_from : (ℕ → Machine → List ℕ → List LineItem) → FlatStep → Ended → List LineItem
items_from rest step No = rest step.done.cost step.machine step.memory
items_from rest step (Exit status) = []
items_from rest step (Trap kind pc) = []

-- The items of the run of at most so many instructions, where the first comes after so many cycles.
unfoldable pub run_items : ℕ → ℕ → Machine → List ℕ → List LineItem
run_items zero cost machine memory = []
run_items (suc n) cost machine memory =
    let step = flat_step machine memory in
    items_after cost (step_lines machine memory) ++ items_from (run_items n) step step.done.ended

-- The items of the image lines, each a whole write of one cycle, where the first comes after so many cycles.
unfoldable pub image_items : ℕ → List ℕ → List LineItem
image_items cost [] = []
image_items cost (line ∷ lines) =
    record { cost = cost; use_of = record { line = line; kind = WholeWrite } } ∷ image_items 1 lines

-- the cycles of the last image line, 0 where there is none
abbrev pub image_cost : List ℕ → ℕ
image_cost [] = 0
image_cost (line ∷ lines) = 1

-- The line list of a run of at most so many instructions from a machine at its start, with these image lines.
abbrev pub line_list : List ℕ → ℕ → Machine → List ℕ → List LineItem
line_list marked n machine memory = image_items 0 marked ++ run_items n (image_cost marked) machine memory

-- the line of an access, and how it uses it
abbrev pub line_used : CoreState → Access → LineUse
line_used core (Load address count) = record { line = line_of core address; kind = Read }
line_used core (Store address bytes) = record { line = line_of core address; kind = Write }

-- Whatever is answered, a plan asks for these lines, in order, each once.
abbrev pub AsksLines : {B A : Type 0} → CoreState → Plan Access (List ℕ) B A → List LineUse → Type 0
AsksLines core (Outcome a) lines = lines ≡ []
AsksLines core (Ask access left next) [] = ⊥
AsksLines core (Ask access left next) (first ∷ others) =
    (line_used core access ≡ first) × ((bytes : List ℕ) → AsksLines core (next bytes) others)

-- A server of accesses that notes their lines.
abbrev pub noting : {H : Type 0} → CoreState → (H → Access → List ℕ × H) → H → Access → Turn LineUse H (List ℕ)
noting core serve held access = record {
  records = line_used core access ∷ [];
  held = (serve held access).1;
  answer = (serve held access).0;
}

-- the lines for which a plan asks a server, in order
abbrev pub asked_lines : {H B A : Type 0}
    → CoreState → (H → Access → List ℕ × H) → Plan Access (List ℕ) B A → H → List LineUse
asked_lines core serve plan held = bare ((play (noting core serve) plan held).records)

-- The cycles since the last item after so many instructions that finish, where there were so many before the first.
unfoldable pub cost_after : ℕ → ℕ → Machine → List ℕ → ℕ
cost_after zero cost machine memory = cost
cost_after (suc n) cost machine memory =
    let step = flat_step machine memory in cost_after n step.done.cost step.machine step.memory
