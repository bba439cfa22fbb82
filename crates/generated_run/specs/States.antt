-- The states that a generated program goes through.
use Rattle.std.specs.Prelude.{◌≡◌, ℕ, ◌+◌, ◌-◌, ◌*◌, ◌^◌, ◌<◌, ◌≤◌, List, [], ◌∷◌, ◌++◌, length, map}
use Rattle.std.specs.List.{fold}
use Rattle.rv32_table.specs.Encoded.{encoded}
use Rattle.rv32_core.specs.Machine.{Machine}
use Rattle.rv32_core.specs.FlatRun.{output_limit}
use Rattle.rv32_asm.specs.File.{words}
use Rattle.rv32_asm.specs.Generator.{start, program}
use Rattle.generated_run.specs.Hash.{hash_after}

-- the words of the instructions
abbrev pub code : List ℕ
code = map encoded program

-- The bytes of a memory in which words stand, what is in front of them and what is behind.
abbrev pub laid : List ℕ → List ℕ → List ℕ → List ℕ
laid front cells back = front ++ (words cells ++ back)

-- Where a program runs: the memory, the first break, the input, which it doesn't read, and what stands in the memory
-- in front of the program and behind its data.
pub record Surroundings : Type 0 where
  pub base : ℕ
  pub size : ℕ
  pub heap : ℕ
  pub input : List ℕ
  pub front : List ℕ
  pub back : List ℕ

-- So many words from the program's start on lie in the memory, and so much is in front of them.
pub record HasRoom (around : Surroundings) (count : ℕ) : Type 0 where
  pub low : around.base ≤ start
  pub front : length around.front ≡ start - around.base
  pub high : start + 4 * count ≤ around.base + around.size
  pub below : around.base + around.size < 2 ^ 32

-- The registers that the program uses.
pub record Registers : Type 0 where
  pub t0 : ℕ
  pub t1 : ℕ
  pub s0 : ℕ
  pub s1 : ℕ
  pub a0 : ℕ
  pub a1 : ℕ
  pub a2 : ℕ
  pub a7 : ℕ

abbrev pub regs : (t0 t1 s0 s1 a0 a1 a2 a7 : ℕ) → Registers
regs t0 t1 s0 s1 a0 a1 a2 a7 =
    record { t0 = t0; t1 = t1; s0 = s0; s1 = s1; a0 = a0; a1 = a1; a2 = a2; a7 = a7 }

-- All 32: x2 points to the stack, and those that the program doesn't use are 0.
abbrev pub all_registers : ℕ → Registers → List ℕ
all_registers stack r =
    0 ∷ 0 ∷ stack ∷ 0 ∷ 0 ∷ r.t0 ∷ r.t1 ∷ 0 ∷ r.s0 ∷ r.s1 ∷ r.a0 ∷ r.a1 ∷ r.a2 ∷ 0 ∷ 0 ∷ 0 ∷ 0 ∷ r.a7 ∷ 0 ∷ 0 ∷ 0 ∷ 0
    ∷ 0 ∷ 0 ∷ 0 ∷ 0 ∷ 0 ∷ 0 ∷ 0 ∷ 0 ∷ 0 ∷ 0 ∷ []

-- The machine before the instruction of this index, counted from 0, with these registers and this output.
abbrev pub machine_before : Surroundings → ℕ → Registers → List ℕ → Machine
machine_before around index r output = record {
  core = record {
    pc = start + 4 * index;
    registers = all_registers (around.base + around.size - 16) r;
    base = around.base;
    size = around.size;
    first_break = around.heap;
    break_now = around.heap;
  };
  files = record { input = around.input; position = 0; output = output; limit = output_limit };
}

-- where the data words stand, by their index
abbrev pub address_of_word : ℕ → ℕ
address_of_word index = start + 4 * (30 + index)

-- where the loop goes on: at its first instruction where words are left, and else behind its last
abbrev pub turn_at : List ℕ → ℕ
turn_at [] = 14
turn_at (word ∷ left) = 6

-- The loop's invariant, before each turn and behind the last. Some of the words are taken, and the others are left.
-- In the memory stand the instructions, the count, a number in the place of each word that is taken, and the words that
-- are left. s0 is the address behind the words that are taken, s1 is the number of those that are left, and a0 is the
-- hash of those that are taken; t0 and t1 are what the last turn left. Nothing is written yet.
pub record IsTurning (around : Surroundings) (all taken left : List ℕ) (machine : Machine) (memory : List ℕ)
    : Type 0 where
  pub t0 : ℕ
  pub t1 : ℕ
  pub places : List ℕ
  pub split : all ≡ taken ++ left
  pub replaced : length places ≡ length taken
  pub registers : machine
      ≡ machine_before around (turn_at left)
      (regs t0 t1 (address_of_word (length taken)) (length left) (fold hash_after 0 taken) 0 0 0) []
  pub bytes : memory ≡ laid around.front (code ++ (length all ∷ (places ++ left))) around.back
