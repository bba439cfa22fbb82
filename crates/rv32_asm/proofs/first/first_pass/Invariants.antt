use Rattle.std.proofs.Common.{◌≡◌, ◌+◌, ◌≤◌, length, []}
use Rattle.rv32_asm.specs.Lines.{lines_of}
use Rattle.rv32_asm.specs.LineViews.{lines_from}
use Rattle.rv32_asm.specs.Passes.{first_pass}
use Rattle.rv32_asm.specs.PassViews.{labels_of, measure_of, left_of}
use Rattle.rv32_asm.proofs.first.first_pass.Given as goal

abbrev pub invariant-loop-rest : goal.invariant-loop-rest
invariant-loop-rest l = record {
  passes : first_pass l.at l.line (lines_from l.rest) (measure_of (labels_of l.labels) l.count)
      ≡ first_pass l.at 1 (lines_of l.fn.text) (measure_of [] 0);
  within : l.at + l.count ≤ 4_294_901_760;
  lines : l.line + left_of l.rest ≤ length l.fn.text + 2;
}

abbrev pub decreases-loop-rest : goal.decreases-loop-rest
decreases-loop-rest l = left_of l.rest
