use Rattle.std.proofs.lemmas.Result.{MatchResult-weaker}
use Rattle.bus_trace.proofs.reader.read_all.Goals as goal

pub returns-clause-trace : goal.returns-clause-trace
returns-clause-trace c =
    MatchResult-weaker c.read_items.result c.read_items.ensures.text
    (λ trace reads. reads c.args.text.now c.in_ok-header.ensures.header.0)
    (λ fault faults. faults c.args.text.now c.in_ok-header.ensures.header.0)
