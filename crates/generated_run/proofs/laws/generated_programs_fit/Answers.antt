use Rattle.std.proofs.Common.{ℕ, List, sym, subst}
use Rattle.elf_loader.specs.Faults.{IsFaultless}
use Rattle.generated_run.proofs.Programs.{same_file, program_accepted, program_low, program_high}
use Rattle.generated_run.proofs.laws.generated_programs_fit.Goals as goal

pub returns-clause-accepted : goal.returns-clause-accepted
returns-clause-accepted c = λ seed words base size file most is low high.
    let P : List ℕ → Type 0 = IsFaultless base size in
    subst P (same_file seed words file (c.generated_texts_assemble.ensures.file seed words most) is)
    (program_accepted seed words most base size low high)

pub returns-clause-low : goal.returns-clause-low
returns-clause-low c = λ seed words base size file most is accepted.
    let P : List ℕ → Type 0 = IsFaultless base size in
    program_low seed words most base size
    (subst P (sym (same_file seed words file (c.generated_texts_assemble.ensures.file seed words most) is)) accepted)

pub returns-clause-high : goal.returns-clause-high
returns-clause-high c = λ seed words base size file most is accepted.
    let P : List ℕ → Type 0 = IsFaultless base size in
    program_high seed words most base size
    (subst P (sym (same_file seed words file (c.generated_texts_assemble.ensures.file seed words most) is)) accepted)
