use Rattle.std.proofs.lemmas.Result.{IfOk-weaker}
use Rattle.rv32_core.specs.StepPlan.{machine_of}
use Rattle.rv32_core.proofs.Served.{told_step}
use Rattle.rv32_core.proofs.hart.Core.step.Goals as goal

pub returns-clause-told : goal.returns-clause-told
returns-clause-told g c =
    IfOk-weaker _ _ _ (λ done ends. told_step g.B.Bytes.step g.B.Bytes.base g.B.Bytes.told g.met.B.Bytes.keeps_base
    g.met.B.Bytes.answers g.met.B.Bytes.tells_load g.met.B.Bytes.tells_store
    (machine_of c.args.self.now c.args.files.now) (machine_of c.follow.new.self c.follow.new.files) c.args.bytes.now
    c.follow.new.bytes done c.requires.base ends) c.follow.ensures.ok
