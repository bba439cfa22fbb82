use Rattle.oram_lines.proofs.MayStop.{fetch_wants, wait_wants}
use Rattle.oram_lines.proofs.lines.calls_may_stop.Goals as goal

pub returns : goal.returns
returns c = record { fetch = fetch_wants; wait = wait_wants }
