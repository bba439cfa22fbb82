-- Fed: the flat run taken use by use of its lines, where each line for which the cache's lists ask a fetch first takes
-- its bytes from the next of a list of lines, which has to be that line.
use Rattle.std.specs.Prelude.{ℕ, zero, suc, ◌+◌, ◌*◌, Bool, true, false, ◌&&◌, not, if◌then◌else◌, List, [], ◌∷◌, ◌++◌}
use Rattle.std.specs.Prelude.{◌==◌, take, replicate, Result, Ok, Err}
use Rattle.std.specs.List.{flat_map}
use Rattle.std.specs.Int.{from_le_bytes, to_le_bytes, w32}
use Rattle.rv32_core.specs.Access.{spliced}
use Rattle.rv32_core.specs.Machine.{Machine, is_inside, effect_of_word, cost_of_word}
use Rattle.rv32_core.specs.FlatMachine.{FlatStep, bytes_at, effected, trap_at, flat_step}
use Rattle.rv32_core.specs.FlatRun.{FlatEnding, Exited, Trapped, Budget}
use Rattle.rv32_core.specs.LineList.{LineUse, fetch_line, word_lines, step_lines}
use Rattle.rv32_core.specs.declared.outcome.Done.{Done}
use Rattle.rv32_core.specs.declared.outcome.Ended.{Ended}
use Rattle.rv32_core.specs.declared.outcome.Ended.TheVariants.{No, Exit, Trap}
use Rattle.rv32_core.specs.declared.outcome.TrapKind.TheVariants.{FetchFault}
use Rattle.data_cache.specs.CacheLists.{Sets, needs, keeps, set_of, sets_after, line_in}

-- A line with its number, as a store answers it.
pub record NotedLine : Type 0 where
  pub line : ℕ
  pub bytes : List ℕ

abbrev pub numbered : ℕ → List ℕ → NotedLine
numbered line bytes = record { line = line; bytes = bytes }

-- What stands behind a machine that is fed: its list of bytes, which of its lines are kept, and the lines that are
-- left.
pub record Feed : Type 0 where
  pub memory : List ℕ
  pub sets : Sets
  pub left : List NotedLine

-- whether the lists ask a fetch for a use: its line's bytes are needed, and aren't kept
abbrev pub asks : Sets → LineUse → Bool
asks sets use_of = needs use_of.kind && not (keeps (set_of sets use_of.line) use_of.line)

-- Why a line isn't fed: none is left; or the next of those that are left is another line.
pub data Unfed : Type 0 where
  NoneLeft : Unfed
  AnotherLine : Unfed

-- what is made of what was fed
abbrev pub fed_map : {A B : Type 0} → (A → B) → Result A Unfed → Result B Unfed
fed_map make (Ok fed) = Ok (make fed)
fed_map make (Err why) = Err why

-- and what is fed next
abbrev pub fed_then : {A B : Type 0} → (A → Result B Unfed) → Result A Unfed → Result B Unfed
fed_then next (Ok fed) = next fed
fed_then next (Err why) = Err why

-- A line for which a fetch is asked takes the next of the lines that are left, where that is this line.
abbrev pub fed_line : List ℕ → ℕ → List NotedLine → Bool → Result (List ℕ × List NotedLine) Unfed
fed_line memory line left false = Ok (memory, left)
fed_line memory line [] true = Err NoneLeft
fed_line memory line (noted ∷ rest) true =
    if noted.line == line then Ok (spliced memory (64 * line) noted.bytes, rest) else Err AnotherLine

abbrev pub fed_use : ℕ → Feed → LineUse → Result Feed Unfed
fed_use ways feed use_of = fed_map
    (λ (r : List ℕ × List NotedLine). let after : Feed =
    record { memory = r.0; sets = sets_after ways feed.sets use_of; left = r.1 } in after)
    (fed_line feed.memory use_of.line feed.left (asks feed.sets use_of))

-- the uses one after another
abbrev pub fed_uses : ℕ → Feed → List LineUse → Result Feed Unfed
fed_uses ways feed [] = Ok feed
fed_uses ways feed (first ∷ others) = fed_then (λ now. fed_uses ways now others) (fed_use ways feed first)

-- What an instruction leaves: the machine, what stands behind it, and how it ended.
pub record FedStep : Type 0 where
  pub machine : Machine
  pub feed : Feed
  pub done : Done

-- a flat step's end, with these sets and these lines left
abbrev pub fed_after : FlatStep → Sets → List NotedLine → FedStep
fed_after step sets left = record {
  machine = step.machine;
  feed = record { memory = step.memory; sets = sets; left = left };
  done = step.done;
}

-- A word that was fetched: the lines of its data are used, each once, and then it has its effect on the bytes.
abbrev pub fed_word : ℕ → Machine → ℕ → Feed → Result FedStep Unfed
fed_word ways machine word feed = fed_map
    (λ (now : Feed). fed_after (effected machine now.memory (cost_of_word machine word) (effect_of_word machine word))
    now.sets now.left)
    (fed_uses ways feed (word_lines machine word))

-- An instruction: the line of its fetch is used, and then the word there. A fetch that isn't wholly inside the memory
-- is a trap, and uses none.
abbrev pub fed_step : ℕ → Machine → Feed → Result FedStep Unfed
fed_step ways machine feed =
    let core = machine.core in
    if is_inside core core.pc 4
    then fed_then
    (λ (now : Feed). fed_word ways machine (from_le_bytes w32 (bytes_at machine now.memory core.pc 4)) now)
    (fed_use ways feed (fetch_line core))
    else Ok (record { machine = machine; feed = feed; done = trap_at core FetchFault })

-- How it ends: as a flat run; at a fetch for which no line is left; or at one for which another line is the next.
pub data FedEnding : Type 0 where
  Ends : FlatEnding → FedEnding
  Starves : FedEnding
  Refuses : FedEnding

-- How many instructions finished, the machine after them, what stands behind it, and the ending.
pub record FedRun : Type 0 where
  pub instructions : ℕ
  pub machine : Machine
  pub feed : Feed
  pub ending : FedEnding

-- a run before which an instruction more finished
abbrev pub one_before : FedRun → FedRun
one_before run = record run { instructions = 1 + run.instructions }

-- a run from an instruction on, where rest is the run from what it leaves
abbrev pub fed_on : (Machine → Feed → FedRun) → FedStep → Ended → FedRun
fed_on rest step No = one_before (rest step.machine step.feed)
fed_on rest step (Exit status) =
    record { instructions = 1; machine = step.machine; feed = step.feed; ending = Ends (Exited status) }
fed_on rest step (Trap kind pc) =
    record { instructions = 0; machine = step.machine; feed = step.feed; ending = Ends (Trapped kind pc) }

-- Where an instruction isn't fed, the instructions before it are finished. Where it starves, all lines were used; and
-- where the next is another line, those are left that were left before the instruction.
abbrev pub fed_from : (Machine → Feed → FedRun) → Machine → Feed → Result FedStep Unfed → FedRun
fed_from rest machine feed (Err NoneLeft) =
    record { instructions = 0; machine = machine; feed = record feed { left = [] }; ending = Starves }
fed_from rest machine feed (Err AnotherLine) =
    record { instructions = 0; machine = machine; feed = feed; ending = Refuses }
fed_from rest machine feed (Ok step) = fed_on rest step step.done.ended

-- The run of at most so many instructions.
unfoldable pub fed_run : ℕ → ℕ → Machine → Feed → FedRun
fed_run ways zero machine feed =
    record { instructions = 0; machine = machine; feed = feed; ending = Ends Budget }
fed_run ways (suc n) machine feed = fed_from (fed_run ways n) machine feed (fed_step ways machine feed)

-- ---- runs that go on
-- a run before which so many more instructions finished
abbrev pub fed_before : ℕ → FedRun → FedRun
fed_before count run = record run { instructions = count + run.instructions }

-- A run that may go on: where its instructions finished with Budget, so many more from there; one that ended stays as
-- it is.
abbrev pub fed_on_from : ℕ → ℕ → FedRun → FedEnding → FedRun
fed_on_from ways more run (Ends Budget) = fed_before run.instructions (fed_run ways more run.machine run.feed)
fed_on_from ways more run (Ends (Exited status)) = run
fed_on_from ways more run (Ends (Trapped kind pc)) = run
fed_on_from ways more run Starves = run
fed_on_from ways more run Refuses = run

abbrev pub fed_gone_on : ℕ → ℕ → FedRun → FedRun
fed_gone_on ways more run = fed_on_from ways more run run.ending

-- All instructions that were to finish did, or there was an exit.
abbrev pub IsDone : FedEnding → Type 0
IsDone (Ends Budget) = Unit {0}
IsDone (Ends (Exited status)) = Unit {0}
IsDone (Ends (Trapped kind pc)) = ⊥
IsDone Starves = ⊥
IsDone Refuses = ⊥

-- a feed with more lines behind those that are left, and what a run leaves with them
abbrev pub with_more : List NotedLine → Feed → Feed
with_more more feed = record feed { left = feed.left ++ more }

abbrev pub run_with_more : List NotedLine → FedRun → FedRun
run_with_more more run = record run { feed = with_more more run.feed }

-- ---- what an honest store answers
-- the lines for which uses ask, as a list of bytes has them, and the lists after these uses
abbrev pub answers_of : ℕ → List ℕ → Sets → List LineUse → List NotedLine
answers_of ways memory sets [] = []
answers_of ways memory sets (first ∷ others) =
    (if asks sets first then numbered first.line (line_in memory first.line) ∷ [] else [])
    ++ answers_of ways memory (sets_after ways sets first) others

abbrev pub sets_along : ℕ → Sets → List LineUse → Sets
sets_along ways sets [] = sets
sets_along ways sets (first ∷ others) = sets_along ways (sets_after ways sets first) others

-- from a step on, where rest is what is answered from there
abbrev pub answers_on : (Machine → List ℕ → List NotedLine) → FlatStep → Ended → List NotedLine
answers_on rest step No = rest step.machine step.memory
answers_on rest step (Exit status) = []
answers_on rest step (Trap kind pc) = []

-- The lines that a flat run's uses ask for, each as the flat list has it at that time.
unfoldable pub flat_answers : ℕ → ℕ → Sets → Machine → List ℕ → List NotedLine
flat_answers ways zero sets machine memory = []
flat_answers ways (suc n) sets machine memory =
    let uses = step_lines machine memory in
    let step = flat_step machine memory in
    answers_of ways memory sets uses
    ++ answers_on (flat_answers ways n (sets_along ways sets uses)) step step.done.ended

-- ---- what the rows are computed on
-- the line of `lw x5, 64(x0); addi x17, x0, 93; ecall`
abbrev pub program_line : List ℕ
program_line = 0x83 ∷ 0x22 ∷ 0 ∷ 4 ∷ 0x93 ∷ 0x08 ∷ 0xd0 ∷ 0x05 ∷ 0x73 ∷ 0 ∷ 0 ∷ 0 ∷ replicate 52 0

-- two lines, the first of which is this, and is kept as an image line; and these lines to be fed with
abbrev pub over_line : List ℕ → List NotedLine → Feed
over_line line left = record {
  memory = line ++ replicate 64 0;
  sets = (record { line = 0; dirty = true } ∷ []) ∷ [];
  left = left;
}

abbrev pub over_image_line : List NotedLine → Feed
over_image_line left = over_line program_line left

-- the line of a program in words, least byte first, with zeros behind it
abbrev pub line_of_words : List ℕ → List ℕ
line_of_words words = take 64 (flat_map (to_le_bytes w32) words ++ replicate 64 0)

-- an input
abbrev pub eight_bytes : List ℕ
eight_bytes = 1 ∷ 2 ∷ 3 ∷ 4 ∷ 5 ∷ 6 ∷ 7 ∷ 8 ∷ []

-- `addi x11, x0, 60; addi x12, x0, 8; addi x17, x0, 63; ecall; addi x17, x0, 93; ecall`: it reads eight bytes of its
-- input to address 60
abbrev pub reading_line : List ℕ
reading_line = line_of_words
    (0x03c00593 ∷ 0x00800613 ∷ 0x03f00893 ∷ 0x00000073 ∷ 0x05d00893 ∷ 0x00000073 ∷ [])

-- `addi x10, x0, 1; addi x11, x0, 60; addi x12, x0, 8; addi x17, x0, 64; ecall; addi x17, x0, 93; ecall`: it writes the
-- eight bytes from address 60 on
abbrev pub writing_line : List ℕ
writing_line = line_of_words
    (0x00100513 ∷ 0x03c00593 ∷ 0x00800613 ∷ 0x04000893 ∷ 0x00000073 ∷ 0x05d00893 ∷ 0x00000073 ∷ [])
