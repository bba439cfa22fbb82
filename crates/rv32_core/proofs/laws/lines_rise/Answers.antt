use Rattle.std.proofs.Common.{refl}
use Rattle.rv32_core.proofs.ItemLaws.{word_lines-rising, step_lines-inside, run_items-inside}
use Rattle.rv32_core.proofs.laws.lines_rise.Goals as goal

pub returns-clause-rising : goal.returns-clause-rising
returns-clause-rising c = word_lines-rising

pub returns-clause-step : goal.returns-clause-step
returns-clause-step c = step_lines-inside

pub returns-clause-run : goal.returns-clause-run
returns-clause-run c = λ n cost machine memory fits. run_items-inside n cost machine.core.base machine.core.size machine
    memory refl refl fits
