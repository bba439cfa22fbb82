-- Worked programs.
use Rattle.std.proofs.Common.{◌≡◌, refl, lit≤}
use Rattle.std.specs.Prelude.{[], ◌∷◌}
use Rattle.asc_base.specs.Memory.{IsMemory}
use Rattle.rv32_table.specs.Encoded.{word_of}
use Rattle.rv32_table.specs.Table.{decoded, table}
use Rattle.rv32_table.specs.Meaning.{register_meaning, load_meaning, branch_meaning}
use Rattle.rv32_core.specs.FlatRun.{Exited, flat_run, machine_at_start, output_limit}
use Rattle.rv32_asm.specs.File.{words}
use Rattle.rv32_asm.specs.Generator.{start, program, generated_words, generated_file}
use Rattle.generated_run.specs.Hash.{hash_of}
use Rattle.generated_run.specs.Written.{run_of_file, IsWritten}
use Rattle.generated_run.proofs.Programs.{program_accepted, program_writes}

pub one_word : let run = flat_run 40 (machine_at_start start start 4096 start [] output_limit)
    (words (generated_words 0 1)) in (run.ending ≡ Exited 0) × (run.instructions ≡ 29)
    × (run.machine.files.output ≡ 0x7e ∷ 0x7b ∷ 0x05 ∷ 0x14 ∷ [])
unfolding program word_of flat_run decoded table register_meaning load_meaning branch_meaning
one_word = (refl, refl, refl)

pub three_words : let run = flat_run 45 (machine_at_start start start 4096 start [] output_limit)
    (words (generated_words 7 3)) in (run.ending ≡ Exited 0) × (run.instructions ≡ 45)
    × (run.machine.files.output ≡ 0x7d ∷ 0x0c ∷ 0x2f ∷ 0x8d ∷ [])
unfolding program word_of flat_run decoded table register_meaning load_meaning branch_meaning
three_words = (refl, refl, refl)

default_memory : IsMemory 0 1_048_576
default_memory = record {
  size_from = lit≤ tt;
  size_to = lit≤ tt;
  size_pages = refl;
  base_pages = refl;
  below_top = lit≤ tt;
}

pub by_law : IsWritten 29 (hash_of 0 1) (run_of_file 0 1_048_576 (generated_file 0 1) [] 29)
by_law =
    program_writes 0 1 (lit≤ tt) 0 1_048_576 (program_accepted 0 1 (lit≤ tt) 0 1_048_576 (lit≤ tt) (lit≤ tt))
    default_memory [] (lit≤ tt) 29 (lit≤ tt)
