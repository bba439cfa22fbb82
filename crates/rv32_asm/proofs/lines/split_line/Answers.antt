use Rattle.std.proofs.Common.{arith, ◌<◌, length}
use Rattle.rv32_asm.specs.LineViews.{line_end}
use Rattle.rv32_asm.proofs.LineLaws.{first_of_lines, rest_from}
use Rattle.rv32_asm.proofs.lines.split_line.Goals as goal

pub returns-clause-lines : goal.returns-clause-lines
returns-clause-lines c =
    let text = c.args.text.now in
    let count = c.line_end-end.result in
    let inside : line_end text < length text = omega arith in
    cc (first_of_lines text inside, rest_from text count)
