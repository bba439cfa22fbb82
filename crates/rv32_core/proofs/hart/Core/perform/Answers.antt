use Rattle.std.proofs.Common.{refl}
use Rattle.std.proofs.lemmas.Result.{err_from_is_err_and}
use Rattle.rv32_core.specs.StepPlan.{machine_of}
use Rattle.rv32_core.proofs.EffectPlans.{machine_of-same, read-ends, read-stops, write-ends, write-stops}
use Rattle.rv32_core.proofs.hart.Core.perform.Goals as goal

pub returns-in_err-read-in-Reads-clause-err : goal.returns-in_err-read-in-Reads-clause-err
returns-in_err-read-in-Reads-clause-err g c =
    let p = err_from_is_err_and c.from_residual-in_err-read-in-Reads.result
    c.from_residual-in_err-read-in-Reads.ensures.1 in
    rw (p.1, p.2) (read-stops g.B.Bytes.step (machine_of c.args.self.now c.args.files.now) _ c.args.cost c.args.effect
    c.in-Reads.address c.in-Reads.count
    c.args.bytes.now _ _ c.in-Reads.is (machine_of-same _ _ _ _ refl c.in_err-read-in-Reads.ensures.unchanged)
    c.in_err-read-in-Reads.ensures.err)

pub returns-in_err-write-in-Writes-clause-err : goal.returns-in_err-write-in-Writes-clause-err
returns-in_err-write-in-Writes-clause-err g c =
    let p = err_from_is_err_and c.from_residual-in_err-write-in-Writes.result
    c.from_residual-in_err-write-in-Writes.ensures.1 in
    rw (p.1, p.2) (write-stops g.B.Bytes.step (machine_of c.args.self.now c.args.files.now) _ c.args.cost c.args.effect
    c.in-Writes.address c.in-Writes.count
    c.args.bytes.now _ _ c.in-Writes.is (machine_of-same _ _ _ _ refl c.in_err-write-in-Writes.ensures.unchanged)
    c.in_err-write-in-Writes.ensures.err)

pub returns-in_ok-read-in-Reads-clause-ok : goal.returns-in_ok-read-in-Reads-clause-ok
returns-in_ok-read-in-Reads-clause-ok g c =
    read-ends g.B.Bytes.step (machine_of c.args.self.now c.args.files.now)
    (machine_of c.set_to-in-Reads.new.self c.read.new.self) c.args.cost c.args.effect c.in-Reads.address
    c.in-Reads.count
    c.set_to-in-Reads.result c.args.bytes.now c.read.new.memory c.in-Reads.is
    (machine_of-same _ _ _ _ c.set_to-in-Reads.ensures.core c.in_ok-read-in-Reads.ensures.after)
    c.set_to-in-Reads.ensures.done c.in_ok-read-in-Reads.ensures.ok

pub returns-in_ok-write-in-Writes-clause-ok : goal.returns-in_ok-write-in-Writes-clause-ok
returns-in_ok-write-in-Writes-clause-ok g c =
    write-ends g.B.Bytes.step (machine_of c.args.self.now c.args.files.now)
    (machine_of c.set_to-in-Writes.new.self c.write.new.self) c.args.cost c.args.effect c.in-Writes.address
    c.in-Writes.count
    c.write.new.self.output c.set_to-in-Writes.result c.args.bytes.now c.write.new.memory c.in-Writes.is
    (machine_of-same _ _ _ _ c.set_to-in-Writes.ensures.core c.in_ok-write-in-Writes.ensures.after)
    c.set_to-in-Writes.ensures.done c.in_ok-write-in-Writes.ensures.ok
