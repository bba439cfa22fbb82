use Rattle.request_plan.proofs.DeskLaws.{desk-keeps, desk-gives, desk-refuses, desk-carries, desk-stops}
use Rattle.request_plan.proofs.DeskLaws.{two_handed, two_handed_below, third_refused, third_refused_below}
use Rattle.request_plan.proofs.DeskLaws.{third_jams, third_jams_below, rest_at_end, rest_at_stop}
use Rattle.request_plan.proofs.DeskLaws.{by_plans, by_plans_below, refused_by_plans, refused_by_plans_below}
use Rattle.request_plan.proofs.DeskLaws.{jams_by_plans, jams_by_plans_below}
use Rattle.request_plan.proofs.laws.desk_meets_the_laws.Goals as goal

pub returns-clause-keeps : goal.returns-clause-keeps
returns-clause-keeps c = desk-keeps

pub returns-clause-gives : goal.returns-clause-gives
returns-clause-gives c = desk-gives

pub returns-clause-refuses : goal.returns-clause-refuses
returns-clause-refuses c = desk-refuses

pub returns-clause-carries : goal.returns-clause-carries
returns-clause-carries c = desk-carries

pub returns-clause-stops_carry : goal.returns-clause-stops_carry
returns-clause-stops_carry c = desk-stops

pub returns-clause-two_handed : goal.returns-clause-two_handed
returns-clause-two_handed c = two_handed

pub returns-clause-two_handed_below : goal.returns-clause-two_handed_below
returns-clause-two_handed_below c = two_handed_below

pub returns-clause-third_refused : goal.returns-clause-third_refused
returns-clause-third_refused c = third_refused

pub returns-clause-third_refused_below : goal.returns-clause-third_refused_below
returns-clause-third_refused_below c = third_refused_below

pub returns-clause-third_jams : goal.returns-clause-third_jams
returns-clause-third_jams c = third_jams

pub returns-clause-third_jams_below : goal.returns-clause-third_jams_below
returns-clause-third_jams_below c = third_jams_below

pub returns-clause-rest_at_end : goal.returns-clause-rest_at_end
returns-clause-rest_at_end c = rest_at_end

pub returns-clause-rest_at_stop : goal.returns-clause-rest_at_stop
returns-clause-rest_at_stop c = rest_at_stop

pub returns-clause-by_plans : goal.returns-clause-by_plans
returns-clause-by_plans c = by_plans

pub returns-clause-by_plans_below : goal.returns-clause-by_plans_below
returns-clause-by_plans_below c = by_plans_below

pub returns-clause-refused_by_plans : goal.returns-clause-refused_by_plans
returns-clause-refused_by_plans c = refused_by_plans

pub returns-clause-refused_by_plans_below : goal.returns-clause-refused_by_plans_below
returns-clause-refused_by_plans_below c = refused_by_plans_below

pub returns-clause-jams_by_plans : goal.returns-clause-jams_by_plans
returns-clause-jams_by_plans c = jams_by_plans

pub returns-clause-jams_by_plans_below : goal.returns-clause-jams_by_plans_below
returns-clause-jams_by_plans_below c = jams_by_plans_below
