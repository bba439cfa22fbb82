use Rattle.std.proofs.Common.{◌≡◌, ◌++◌, ◌+◌, ◌≤◌, length}
use Rattle.ascend_top.specs.Disasm.{lines_of}
use Rattle.ascend_top.proofs.listing.push_lines.Given as goal

-- what is appended, and the lines of the rest, are all lines
abbrev pub invariant-loop-rest : goal.invariant-loop-rest
invariant-loop-rest l = record {
  all : l.into.items ++ lines_of l.address l.rest ≡ l.fn.into.items ++ lines_of l.fn.address l.bytes;
  within : l.address + length l.rest ≤ l.fn.address + length l.bytes;
}

abbrev pub decreases-loop-rest : goal.decreases-loop-rest
decreases-loop-rest l = length l.rest
