use Rattle.std.proofs.Common.{◌≤◌, ◌+◌, ◌*◌, ◌∙◌, ℕ, subst, arith}
use Rattle.generated_run.specs.Hash.{hash_of}
use Rattle.generated_run.specs.Written.{IsWritten}
use Rattle.rv32_core.specs.FlatRun.{flat_run}
use Rattle.secure_machine.specs.FlatEnds.{FlatEnds}
use Rattle.secure_machine.specs.Run.{start_of}
use Rattle.generated_report.proofs.Reports.{few_finish, exit_finishes, exit_is_0, none_traps, same_run}
use Rattle.generated_report.proofs.laws.generated_reports_have_the_hash.Goals as goal

pub returns-clause-few : goal.returns-clause-few
returns-clause-few c config image input report seed words is flat =
    let start = start_of config image input in
    let written : (n : ℕ) → 8 * words + 21 ≤ n → IsWritten (8 * words + 21) (hash_of seed words)
    (flat_run n start image.bytes.items) = λ n enough.
    subst (IsWritten (8 * words + 21) (hash_of seed words)) (same_run config image input seed words is n)
    (c.generated_programs_hash.ensures seed words config.base config.size n is.file input is.memory is.some is.most
    is.is is.accepted enough) in
    few_finish start image.bytes.items (8 * words + 21) (hash_of seed words) written report.instructions flat.finished

pub returns-clause-exit : goal.returns-clause-exit
returns-clause-exit c config image input report seed words status is flat ending =
    let start = start_of config image input in
    let bytes = image.bytes.items in
    let last = 8 * words + 21 in
    let hash = hash_of seed words in
    let written : (n : ℕ) → last ≤ n → IsWritten last hash (flat_run n start bytes) = λ n enough.
    subst (IsWritten last hash) (same_run config image input seed words is n)
    (c.generated_programs_hash.ensures seed words config.base config.size n is.file input is.memory is.some is.most
    is.is is.accepted enough) in
    let ends = subst (FlatEnds report.instructions start bytes) ending flat.ends in
    let count = exit_finishes start bytes last hash written report.instructions status flat.finished ends in (
      exit_is_0 start bytes last hash written report.instructions status count ends,
      count,
      flat.output ∙ (written report.instructions (subst (λ n. n ≤ report.instructions) count
          (omega arith))).output,
    )

pub returns-clause-trap : goal.returns-clause-trap
returns-clause-trap c config image input report seed words pc kind is flat ending =
    let start = start_of config image input in
    let bytes = image.bytes.items in
    let last = 8 * words + 21 in
    let hash = hash_of seed words in
    let written : (n : ℕ) → last ≤ n → IsWritten last hash (flat_run n start bytes) = λ n enough.
    subst (IsWritten last hash) (same_run config image input seed words is n)
    (c.generated_programs_hash.ensures seed words config.base config.size n is.file input is.memory is.some is.most
    is.is is.accepted enough) in
    none_traps start bytes last hash written (report.instructions + 1) pc kind
    (subst (FlatEnds report.instructions start bytes) ending flat.ends)
