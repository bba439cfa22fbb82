use Rattle.std.proofs.Common.{◌≡◌, true, sym, ap}
use Rattle.std.proofs.lemmas.Result.{IfOk-weaker, IfErr-weaker}
use Rattle.rv32_core.specs.Machine.{CoreState, is_inside}
use Rattle.rv32_core.specs.StepPlan.{machine_of}
use Rattle.rv32_core.proofs.EffectPlans.{fetch-ends, fetch-stops}
use Rattle.rv32_core.proofs.hart.Core.follow.Goals as goal

pub returns-clause-ok : goal.returns-clause-ok
returns-clause-ok g c =
    let machine = machine_of c.args.self.now c.args.files.now in
    let at : c.self.inside.pc ≡ machine.core.pc = ap (λ (core : CoreState). core.pc) c.self.view_is in
    let inside : is_inside machine.core c.self.inside.pc 4 ≡ true = sym c.if-not-is_inside.ensures in
    IfOk-weaker _ _ _
    (λ done ends. fetch-ends g.B.Bytes.step machine c.load.new.into c.self.inside.pc c.from_le_bytes.result
    c.cost_of.result
    c.decode-instr.result c.execute-effect.result c.args.bytes.now c.load.new.self c.perform.new.bytes
    (machine_of c.perform.new.self c.perform.new.files, done)
    at inside c.in_ok-load.ensures c.from_le_bytes.ensures c.decode-instr.ensures.row c.execute-effect.ensures.is
    c.cost_of.ensures ends) c.perform.ensures.ok

pub returns-clause-err : goal.returns-clause-err
returns-clause-err g c =
    let machine = machine_of c.args.self.now c.args.files.now in
    let at : c.self.inside.pc ≡ machine.core.pc = ap (λ (core : CoreState). core.pc) c.self.view_is in
    let inside : is_inside machine.core c.self.inside.pc 4 ≡ true = sym c.if-not-is_inside.ensures in
    IfErr-weaker _ _ _ (λ stop stops. fetch-stops g.B.Bytes.step machine
    (machine_of c.perform.new.self c.perform.new.files) c.load.new.into c.self.inside.pc c.from_le_bytes.result
    c.cost_of.result
    c.decode-instr.result c.execute-effect.result c.args.bytes.now c.load.new.self c.perform.new.bytes stop
    at inside c.in_ok-load.ensures c.from_le_bytes.ensures c.decode-instr.ensures.row c.execute-effect.ensures.is
    c.cost_of.ensures stops) c.perform.ensures.err
