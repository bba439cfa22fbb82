use Rattle.bus_watch.proofs.PreparedLaws.{prepared_ready, prepared_tells, prepared_ties}
use Rattle.bus_watch.proofs.laws.prepared_buses_are_ready.Goals as goal

pub returns-clause-ready : goal.returns-clause-ready
returns-clause-ready c = λ buckets levels accesses m m2 t t2 prepared few.
    prepared_ready buckets levels accesses prepared few

pub returns-clause-told : goal.returns-clause-told
returns-clause-told c = λ buckets levels accesses m m2 t t2 all prepared tells.
    prepared_tells buckets levels accesses all prepared tells

pub returns-clause-tied : goal.returns-clause-tied
returns-clause-tied c = λ result buckets levels accesses start m m2 t t2 before none tied prepared.
    prepared_ties buckets levels accesses result start before none tied prepared
