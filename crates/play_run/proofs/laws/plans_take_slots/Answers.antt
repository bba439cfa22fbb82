use Rattle.play_run.proofs.Plans.{plan-plays, plan-stops}
use Rattle.play_run.proofs.laws.plans_take_slots.Goals as goal

pub returns : goal.returns
returns g c = record {
  ends = λ keys levels config lawful plays plan. plan-plays keys lawful levels config plays plan;
  stops = λ keys levels config lawful plays stops plan. plan-stops keys lawful levels config plays stops plan;
}
