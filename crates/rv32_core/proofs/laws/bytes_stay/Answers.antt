use Rattle.rv32_core.proofs.ItemLaws.{flat_step-base, flat_step-size}
use Rattle.rv32_core.proofs.OutputLaws.{step-length, run-length}
use Rattle.rv32_core.proofs.laws.bytes_stay.Goals as goal

pub returns-clause-base : goal.returns-clause-base
returns-clause-base c = flat_step-base

pub returns-clause-size : goal.returns-clause-size
returns-clause-size c = flat_step-size

pub returns-clause-step : goal.returns-clause-step
returns-clause-step c = step-length

pub returns-clause-run : goal.returns-clause-run
returns-clause-run c = run-length
