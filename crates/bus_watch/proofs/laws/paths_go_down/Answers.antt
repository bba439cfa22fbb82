use Rattle.std.proofs.Common.{refl, arith}
use Rattle.bus_watch.proofs.PathLaws.{along-none, along-next, length-along, made_next, ready_along}
use Rattle.bus_watch.proofs.laws.paths_go_down.Goals as goal

pub returns-clause-none : goal.returns-clause-none
returns-clause-none c = along-none

pub returns-clause-next : goal.returns-clause-next
returns-clause-next c = along-next

pub returns-clause-counted : goal.returns-clause-counted
returns-clause-counted c = length-along

pub returns-clause-made : goal.returns-clause-made
returns-clause-made c = λ end levels write first leaf level m m2 m3 t t2 t3 before last.
    made_next levels write first leaf level _ _ refl refl before last

pub returns-clause-ready : goal.returns-clause-ready
returns-clause-ready c = λ end levels write first leaf number buckets left events m m2 t t2 ready made.
    ready_along levels write first leaf number buckets _ left events ready made (omega arith)
