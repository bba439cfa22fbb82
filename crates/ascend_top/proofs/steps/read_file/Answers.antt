use Rattle.ascend_top.proofs.StepLaws.{read_refused}
use Rattle.ascend_top.specs.Steps.{Reads, Refuses}
use Rattle.asc_outside.specs.Host.{IsLonger}
use Rattle.std.proofs.Common.{ℕ, Vec, Global, Err, IfSome, ap, sym, subst}
use Rattle.ascend_top.proofs.steps.read_file.Goals as goal

pub returns-in-Err-clause-refused : goal.returns-in-Err-clause-refused
returns-in-Err-clause-refused g c = λ rule.
    let old = g.H.Host.state c.args.host.now in
    let new = g.H.Host.state c.read_file.new.self in
    subst (λ refusal. Refuses (Reads c.args.source c.args.name.now rule) refusal old new) (sym c.unread.ensures)
    (read_refused (Vec ℕ Global) c.args.source c.args.name.now rule c.in-Err.fault old new
    (λ e. subst (λ limit. IfSome old.files (λ files. IsLonger files c.args.name.now limit)) c.limit.ensures
    (c.in-Err.ensures.too_long (ap Err e)))
    (λ e. c.in-Err.ensures.cause (ap Err e)) c.in-Err.ensures.later c.in-Err.ensures.files c.in-Err.ensures.printed
    c.in-Err.ensures.asked)
