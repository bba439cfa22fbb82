use Rattle.oram_lines.proofs.BetweenLaws.{append_known, answer_known, insert_known}
use Rattle.oram_lines.proofs.laws.known_between.Goals as goal

pub returns : goal.returns
returns c = record { append = append_known; answer = answer_known; insert = insert_known }
