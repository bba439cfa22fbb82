use Rattle.std.proofs.Common.{sym, subst, IfSome, Option}
use Rattle.rv32_table.specs.Fits.{Fits}
use Rattle.rv32_table.specs.declared.instruction.Instr.{Instr}
use Rattle.rv32_core.specs.Machine.{IsEffect}
use Rattle.rv32_core.specs.StepPlan.{machine_of}
use Rattle.rv32_core.specs.declared.effect.Effect.{Effect}
use Rattle.rv32_core.proofs.EffectLaws.{effect_of-fine}
use Rattle.rv32_core.proofs.hart.Core.execute.Goals as goal

pub returns-in-Some-clause-fine : goal.returns-in-Some-clause-fine
returns-in-Some-clause-fine c =
    let machine = machine_of c.args.self.now c.args.files.now in
    subst (λ (e : Effect). IsEffect machine e) (sym c.effect.ensures)
    (effect_of-fine machine _ (subst (λ (i : Option Instr). IfSome i Fits) c.in-Some.is c.requires))
