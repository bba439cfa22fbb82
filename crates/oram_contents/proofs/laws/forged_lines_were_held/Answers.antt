use Rattle.oram_contents.proofs.ForgedLines.{forged_held}
use Rattle.oram_contents.proofs.laws.forged_lines_were_held.Goals as goal

pub returns : goal.returns
returns c = forged_held
