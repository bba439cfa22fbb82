-- What a run of a generated program comes to.
use Rattle.std.specs.Prelude.{◌≡◌, ℕ, List}
use Rattle.std.specs.Int.{to_le_bytes, w32}
use Rattle.rv32_core.specs.FlatRun.{FlatRun, Exited, flat_run, machine_at_start, output_limit}
use Rattle.elf_loader.specs.Elf.{entry_of}
use Rattle.elf_loader.specs.Layout.{first_break, image_bytes}

-- The flat run of at most so many instructions of the program of a file, as the loader lays it out in a memory of
-- `size` bytes from `base` on, with this input.
abbrev pub run_of_file : ℕ → ℕ → List ℕ → List ℕ → ℕ → FlatRun
run_of_file base size file input count =
    flat_run count (machine_at_start (entry_of file) base size (first_break base size file) input output_limit)
    (image_bytes base size file)

-- The program exited with 0 after exactly so many instructions, and its output is the four bytes of a number, the least
-- first.
pub record IsWritten (count number : ℕ) (run : FlatRun) : Type 0 where
  pub ending : run.ending ≡ Exited 0
  pub instructions : run.instructions ≡ count
  pub output : run.machine.files.output ≡ to_le_bytes w32 number
