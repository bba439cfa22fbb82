use Rattle.std.proofs.Common.{refl}
use Rattle.rv32_core.proofs.StepLines.{step_plan-inside, step_plan-outside, word_plan-lines, step_plan-asked}
use Rattle.rv32_core.proofs.laws.step_asks_its_lines.Goals as goal

pub returns-clause-fetch : goal.returns-clause-fetch
returns-clause-fetch c = step_plan-inside

pub returns-clause-fetch_line : goal.returns-clause-fetch_line
returns-clause-fetch_line c = λ machine. refl

pub returns-clause-data : goal.returns-clause-data
returns-clause-data c = word_plan-lines

pub returns-clause-outside : goal.returns-clause-outside
returns-clause-outside c = step_plan-outside

pub returns-clause-flat : goal.returns-clause-flat
returns-clause-flat c = step_plan-asked
