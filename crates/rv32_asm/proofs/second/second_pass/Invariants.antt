use Rattle.std.proofs.Common.{◌≡◌, ◌+◌, ◌≤◌, length, []}
use Rattle.rv32_asm.specs.Lines.{lines_of}
use Rattle.rv32_asm.specs.LineViews.{lines_from}
use Rattle.rv32_asm.specs.Passes.{second_pass}
use Rattle.rv32_asm.specs.PassViews.{labels_of, left_of}
use Rattle.rv32_asm.proofs.SizeLaws.{IsOnTrack}
use Rattle.rv32_asm.proofs.second.second_pass.Given as goal

abbrev pub invariant-loop-rest : goal.invariant-loop-rest
invariant-loop-rest l = record {
  passes : second_pass l.at l.line (lines_from l.rest) (labels_of l.labels) l.into.items
      ≡ second_pass l.at 1 (lines_of l.fn.text) (labels_of l.labels) [];
  track : IsOnTrack l.at l.line (lines_from l.rest) (length l.into.items) l.fn.count;
  within : l.at + length l.into.items ≤ 4_294_901_760;
  lines : l.line + left_of l.rest ≤ length l.fn.text + 2;
}

abbrev pub decreases-loop-rest : goal.decreases-loop-rest
decreases-loop-rest l = left_of l.rest
