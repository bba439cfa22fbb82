use Rattle.std.proofs.Common.{◌≡◌, ◌+◌, ◌*◌, ℕ, List, sym, subst}
use Rattle.elf_loader.specs.Faults.{IsFaultless}
use Rattle.rv32_asm.specs.Generator.{generated_file}
use Rattle.generated_run.specs.Hash.{hash_of}
use Rattle.generated_run.specs.Written.{run_of_file, IsWritten}
use Rattle.generated_run.proofs.Programs.{same_file, program_writes}
use Rattle.generated_run.proofs.laws.generated_programs_hash.Goals as goal

pub returns : goal.returns
returns c = λ seed words base size n file input memory some most is accepted enough.
    let same : generated_file seed words ≡ file =
    same_file seed words file (c.generated_texts_assemble.ensures.file seed words most) is in
    let P : List ℕ → Type 0 = IsFaultless base size in
    let Q : List ℕ → Type 0 = λ f. IsWritten (8 * words + 21) (hash_of seed words) (run_of_file base size f input n) in
    subst Q same
    (program_writes seed words most base size (subst P (sym same) accepted) memory input some n enough)
