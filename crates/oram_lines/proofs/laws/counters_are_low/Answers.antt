use Rattle.oram_lines.proofs.LowCounts.{counts_low}
use Rattle.oram_lines.proofs.laws.counters_are_low.Goals as goal

pub returns : goal.returns
returns c = record { each = counts_low }
