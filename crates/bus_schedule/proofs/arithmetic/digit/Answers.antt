use Rattle.std.proofs.Common.{ap, ◌∙◌, ◌/◌, ◌^◌, sym, add-one}
use Rattle.std.proofs.Math.Nat.{pow-suc, div-div-eq-div-mul}
use Rattle.bus_schedule.proofs.arithmetic.digit.Goals as goal

pub loop-preserved : goal.loop-preserved
loop-preserved c =
    ap (λ n. n / c.from-base.result) c.loop.invariant
    ∙ div-div-eq-div-mul c.args.code (c.from-base.result ^ c.loop.counter) c.from-base.result
    ∙ ap (λ n. c.args.code / n) (sym (rw add-one (pow-suc c.from-base.result c.loop.counter)))
