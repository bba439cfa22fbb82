use Rattle.std.specs.Prelude.{nat_eq}
use Rattle.asc_base.proofs.Lookups.{count_by-promoted}
use Rattle.posmap_lookaside.proofs.AddressLaws.{distinct_apart, used_distinct, put_distinct, put_counts}
use Rattle.posmap_lookaside.proofs.Wholes.{length-used}
use Rattle.posmap_lookaside.proofs.laws.addresses_stay_distinct.Goals as goal

pub returns-clause-apart : goal.returns-clause-apart
returns-clause-apart c = distinct_apart

pub returns-clause-used : goal.returns-clause-used
returns-clause-used c = used_distinct

pub returns-clause-used_length : goal.returns-clause-used_length
returns-clause-used_length c = length-used

pub returns-clause-used_counts : goal.returns-clause-used_counts
returns-clause-used_counts c p list address = count_by-promoted p (λ held. nat_eq held address) list

pub returns-clause-put : goal.returns-clause-put
returns-clause-put c = put_distinct

pub returns-clause-put_counts : goal.returns-clause-put_counts
returns-clause-put_counts c = put_counts
