-- Generated programs in the memory that the loader gives them.
use Rattle.std.proofs.Common.{◌≡◌, ◌∙◌, ℕ, zero, suc, ◌+◌, ◌-◌, ◌*◌, ◌^◌, ◌<◌, ◌≤◌, List, [], ◌∷◌, ◌++◌, length}
use Rattle.std.proofs.Common.{replicate, ap, sym, refl, subst, arith, length-append}
use Rattle.std.specs.List.{fold}
use Rattle.std.proofs.lemmas.List.{length-replicate}
use Rattle.std.proofs.lemmas.List.Sums.{fold-append}
use Rattle.asc_base.specs.Memory.{IsMemory}
use Rattle.elf_loader.specs.Faults.{IsFaultless}
use Rattle.elf_loader.specs.Layout.{first_break, image_bytes}
use Rattle.rv32_core.specs.Machine.{Machine}
use Rattle.rv32_core.specs.FlatRun.{FlatRun, flat_run, machine_at_start, output_limit}
use Rattle.std.specs.Prelude.{Result, Ok, Err}
use Rattle.rv32_asm.specs.declared.fault.AsmFault.{AsmFault}
use Rattle.rv32_asm.specs.File.{words, assembled}
use Rattle.rv32_asm.specs.Generator.{data_word, data_words, start, generated_text, generated_words, generated_file}
use Rattle.rv32_asm.proofs.GeneratorLaws.{words_data, length_data}
use Rattle.generated_run.specs.Hash.{hash_after, hash_of}
use Rattle.generated_run.specs.States.{code, laid, Surroundings, HasRoom}
use Rattle.generated_run.specs.Written.{run_of_file, IsWritten}
use Rattle.generated_run.proofs.Coded.{length_code}
use Rattle.generated_run.proofs.Image.{length_words, entry_is, image_is}
use Rattle.generated_run.proofs.Accepted.{low_of, high_of, faultless}
use Rattle.generated_run.proofs.Whole.{run_is_done}

-- the hash of the data words, one after another
hash_is : (seed count : ℕ) → fold hash_after 0 (data_words seed count) ≡ hash_of seed count
hash_is seed zero = refl
hash_is seed (suc count) =
    fold-append hash_after 0 (data_words seed count) (data_word seed count ∷ [])
    ∙ ap (λ h. hash_after h (data_word seed count)) (hash_is seed count)

abbrev file_or_none : Result (List ℕ) AsmFault → List ℕ
file_or_none (Ok file) = file
file_or_none (Err fault) = []

-- what a text assembles to is one file
pub same_file : (seed count : ℕ) (file : List ℕ)
    → assembled start (generated_text seed count) ≡ Ok (generated_file seed count)
    → assembled start (generated_text seed count) ≡ Ok file → generated_file seed count ≡ file
same_file seed count file one other = ap file_or_none (sym one ∙ other)

module _ (seed count : ℕ) (most : count ≤ 65_536) where
  pub program_length : length (words (generated_words seed count)) ≡ 4 * (30 + count)
  program_length =
      length_words (generated_words seed count)
      ∙ ap (λ n. 4 * n) (length-append code (count ∷ data_words seed count))
      ∙ omega (arith, length_code, length_data seed count)

  small : length (words (generated_words seed count)) < 2 ^ 32
  small = omega (arith, program_length)

  some_bytes : 0 < length (words (generated_words seed count))
  some_bytes = omega (arith, program_length)

  pub program_accepted : (base size : ℕ) → base ≤ start → start + 4 * (30 + count) ≤ base + size
      → IsFaultless base size (generated_file seed count)
  program_accepted base size low high =
      faultless base size (words (generated_words seed count)) small some_bytes low
      (omega (arith, program_length, high))

  module _ (base size : ℕ) (accepted : IsFaultless base size (generated_file seed count)) where
    pub program_low : base ≤ start
    program_low = low_of base size (words (generated_words seed count)) small some_bytes accepted

    pub program_high : start + 4 * (30 + count) ≤ base + size
    program_high =
        omega (arith, program_length, high_of base size (words (generated_words seed count)) small some_bytes accepted)

    module _ (memory : IsMemory base size) (input : List ℕ) (some : 1 ≤ count) (n : ℕ)
        (enough : 8 * count + 21 ≤ n) where
      around : Surroundings
      around = record {
        base = base;
        size = size;
        heap = first_break base size (generated_file seed count);
        input = input;
        front = replicate (start - base) 0;
        back = replicate ((base + size) - (start + length (words (generated_words seed count)))) 0;
      }

      room : HasRoom around (30 + length (data_words seed count))
      unfolding around
      room = record {
        low = program_low;
        front = length-replicate (start - base) 0;
        high = omega (arith, length_data seed count, program_high);
        below = omega (arith, memory.below_top);
      }

      pub program_writes : IsWritten (8 * count + 21) (hash_of seed count)
          (run_of_file base size (generated_file seed count) input n)
      unfolding around
      program_writes =
          let all : List ℕ = data_words seed count in
          let file : List ℕ = generated_file seed count in
          let number : length all ≡ count = length_data seed count in
          let start_from : ℕ → Machine = λ pc. machine_at_start pc base size around.heap input output_limit in
          let bytes : ℕ → List ℕ = λ c. laid around.front (code ++ (c ∷ all)) around.back in
          let ran : IsWritten (8 * length all + 21) (fold hash_after 0 all)
          (flat_run n (start_from start) (bytes (length all))) =
          run_is_done around all room (words_data seed count) (omega (arith, number, some)) n
          (omega (arith, number, enough)) in
          let image : image_bytes base size file ≡ bytes count =
          image_is (words (generated_words seed count)) small base size program_low
          (omega (arith, program_length, program_high)) in
          let same : flat_run n (start_from start) (bytes (length all)) ≡ run_of_file base size file input n =
          ap (λ c. flat_run n (start_from start) (bytes c)) number
          ∙ ap (flat_run n (start_from start)) (sym image)
          ∙ ap (λ pc. flat_run n (start_from pc) (image_bytes base size file))
          (sym (entry_is (words (generated_words seed count)) small)) in
          let P : ℕ → Type 0 = λ c.
          IsWritten (8 * c + 21) (fold hash_after 0 all) (run_of_file base size file input n) in
          let Q : ℕ → Type 0 = λ h. IsWritten (8 * count + 21) h (run_of_file base size file input n) in
          let R : FlatRun → Type 0 = IsWritten (8 * length all + 21) (fold hash_after 0 all) in
          subst Q (hash_is seed count) (subst P number (subst R same ran))
