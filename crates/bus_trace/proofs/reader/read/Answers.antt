use Rattle.bus_trace.proofs.ReadLaws.{found_trace, found_fault}
use Rattle.bus_trace.proofs.reader.read.Goals as goal

pub returns-clause-is_read : goal.returns-clause-is_read
returns-clause-is_read c = λ t is. found_trace c.args.text.now t c.read_all.result is c.read_all.ensures.trace

pub returns-clause-is_refused : goal.returns-clause-is_refused
returns-clause-is_refused c = λ line kind is.
    found_fault c.args.text.now line kind c.read_all.result is c.read_all.ensures.trace
