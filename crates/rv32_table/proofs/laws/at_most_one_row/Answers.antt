use Rattle.rv32_table.proofs.Apart.{table-apart}
use Rattle.rv32_table.proofs.laws.at_most_one_row.Goals as goal

pub returns : goal.returns
returns c = table-apart
