use Rattle.oram_lines.proofs.KnownLaws.{served_right}
use Rattle.oram_lines.proofs.laws.known_requests.Goals as goal

pub returns : goal.returns
returns c = record { slot = served_right }
