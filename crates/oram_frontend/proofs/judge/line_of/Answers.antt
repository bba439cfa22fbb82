use Rattle.std.proofs.Common.{sym, ap}
use Rattle.oram_contents.specs.Counts.{zero_line}
use Rattle.oram_frontend.specs.Access.{found_line}
use Rattle.oram_frontend.proofs.judge.line_of.Goals as goal

pub returns-in-None : goal.returns-in-None
unfolding zero_line
returns-in-None c = sym (ap found_line c.in-None.is)
