use Rattle.rv32_table.proofs.TableLaws.{decoded-outside, outside-decoded}
use Rattle.rv32_table.proofs.laws.outside_is_illegal.Goals as goal

pub returns : goal.returns
returns c = λ word. (decoded-outside word, outside-decoded word)
