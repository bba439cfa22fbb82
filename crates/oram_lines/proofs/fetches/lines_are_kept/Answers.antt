use Rattle.oram_lines.proofs.FetchLaws.{fetch_keeps, store_keeps}
use Rattle.oram_lines.proofs.fetches.lines_are_kept.Goals as goal

pub returns : goal.returns
returns c = record { fetch = fetch_keeps; store = store_keeps }
