use Rattle.oram_lines.proofs.HonestLaws.{call_blameless, calls_blameless}
use Rattle.oram_lines.proofs.lines.honest_memories_are_not_blamed.Goals as goal

pub returns : goal.returns
returns c = record { call = call_blameless; calls = calls_blameless }
