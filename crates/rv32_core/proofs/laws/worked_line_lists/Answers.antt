use Rattle.rv32_core.proofs.LineRows.{exits, traps, exits-run}
use Rattle.rv32_core.proofs.laws.worked_line_lists.Goals as goal

pub returns-clause-exits : goal.returns-clause-exits
returns-clause-exits c = exits

pub returns-clause-traps : goal.returns-clause-traps
returns-clause-traps c = traps

pub returns-clause-run : goal.returns-clause-run
returns-clause-run c = exits-run
