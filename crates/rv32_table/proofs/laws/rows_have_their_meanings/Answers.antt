use Rattle.rv32_table.proofs.TableLaws.{table-meanings}
use Rattle.rv32_table.proofs.laws.rows_have_their_meanings.Goals as goal

pub returns : goal.returns
returns c = table-meanings
