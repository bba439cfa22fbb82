use Rattle.request_plan.proofs.Courses.{course-bind, course-nil}
use Rattle.request_plan.proofs.laws.one_run_after_another.Goals as goal

pub returns-clause-joins : goal.returns-clause-joins
returns-clause-joins g c source put first next items = course-bind source put first next items

pub returns-clause-none : goal.returns-clause-none
returns-clause-none g c source plan = course-nil source plan
