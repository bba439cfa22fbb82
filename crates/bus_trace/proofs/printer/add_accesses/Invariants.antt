use Rattle.std.proofs.Common.{◌≡◌, ◌++◌, take, map}
use Rattle.std.specs.Prelude.{string_bytes}
use Rattle.bus_trace.specs.Trace.{access_line, text_of}
use Rattle.bus_trace.proofs.printer.add_accesses.Given as goal

abbrev pub invariant-loop-seen : goal.invariant-loop-seen
invariant-loop-seen l =
    string_bytes l.text ≡ string_bytes l.initial.text ++ text_of (map access_line (take l.seen-index l.accesses))
