use Rattle.path_evict.proofs.Highest.{Searched}
use Rattle.path_evict.proofs.remainder.Given as goal

abbrev pub invariant-loop-k : goal.invariant-loop-k
invariant-loop-k l = Searched l.depths l.k l.most l.witness
