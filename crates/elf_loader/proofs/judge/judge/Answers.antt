-- The first fault is the one that a part of the judgement answers.
use Rattle.std.proofs.lemmas.Result.{err_from_is_err_and}
use Rattle.elf_loader.proofs.judge.judge.Goals as goal

pub returns-in_err-judge_identity-clause-first : goal.returns-in_err-judge_identity-clause-first
returns-in_err-judge_identity-clause-first c =
    let p = err_from_is_err_and c.from_residual.result c.from_residual.ensures.1 in
    rw (p.1, p.2) (c.in_err-judge_identity.ensures.first c.args.base c.args.size)

pub returns-in_err-judge_machine-clause-first : goal.returns-in_err-judge_machine-clause-first
returns-in_err-judge_machine-clause-first c =
    let p = err_from_is_err_and c.from_residual-in_err-judge_machine.result
    c.from_residual-in_err-judge_machine.ensures.1 in
    rw (p.1, p.2) (c.in_err-judge_machine.ensures.first c.args.base c.args.size)

pub returns-in_err-judge_table-clause-first : goal.returns-in_err-judge_table-clause-first
returns-in_err-judge_table-clause-first c =
    let p = err_from_is_err_and c.from_residual-in_err-judge_table.result
    c.from_residual-in_err-judge_table.ensures.1 in
    rw (p.1, p.2) (c.in_err-judge_table.ensures.first c.args.base c.args.size)
