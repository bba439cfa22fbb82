use Rattle.rv32_core.proofs.LineLaws.{AsksLines-bind, AsksLines-asked}
use Rattle.rv32_core.proofs.laws.lines_in_order.Goals as goal

pub returns-clause-asked : goal.returns-clause-asked
returns-clause-asked c = λ start core serve plan held lines h. AsksLines-asked core serve plan held lines h

pub returns-clause-one_after_another : goal.returns-clause-one_after_another
returns-clause-one_after_another c = λ start core put first next lines more h g. AsksLines-bind core put first
    next lines more h g
