use Rattle.asc_base.proofs.Lookups.{find-place, without_first-place, without_first-none, count_by-without_first}
use Rattle.asc_base.proofs.Lookups.{find-taken, find-without_other, find-holds, find-has, find-none_has}
use Rattle.asc_base.proofs.Lookups.{without_first-has, length-without_first}
use Rattle.asc_base.proofs.lookup_laws.first_is_taken_out.Goals as goal

pub returns-clause-place : goal.returns-clause-place
returns-clause-place g c test list i other at =
    (find-place test list i other at, without_first-place test list i other at)

pub returns-clause-none : goal.returns-clause-none
returns-clause-none g c = without_first-none

pub returns-clause-counts : goal.returns-clause-counts
returns-clause-counts g c = count_by-without_first

pub returns-clause-taken : goal.returns-clause-taken
returns-clause-taken g c = find-taken

pub returns-clause-others : goal.returns-clause-others
returns-clause-others g c = find-without_other

pub returns-clause-found : goal.returns-clause-found
returns-clause-found g c test list found is = (find-holds test list found is, find-has test list found is)

pub returns-clause-absent : goal.returns-clause-absent
returns-clause-absent g c = find-none_has

pub returns-clause-left : goal.returns-clause-left
returns-clause-left g c = without_first-has

pub returns-clause-length : goal.returns-clause-length
returns-clause-length g c = length-without_first
