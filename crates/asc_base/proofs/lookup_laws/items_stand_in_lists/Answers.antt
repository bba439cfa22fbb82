use Rattle.std.proofs.Common.{◌≡◌, true}
use Rattle.asc_base.proofs.Members.{has_at, all_has, has_all, has_split, has_left, has_right}
use Rattle.asc_base.proofs.lookup_laws.items_stand_in_lists.Goals as goal

pub returns-clause-place : goal.returns-clause-place
returns-clause-place g c = has_at

pub returns-clause-each : goal.returns-clause-each
returns-clause-each g c test list item = all_has (λ x. test x ≡ true) item list

pub returns-clause-all : goal.returns-clause-all
returns-clause-all g c test = has_all (λ x. test x ≡ true)

pub returns-clause-parts : goal.returns-clause-parts
returns-clause-parts g c first second item = has_split item first second

pub returns-clause-first : goal.returns-clause-first
returns-clause-first g c first second item = has_left item first second

pub returns-clause-second : goal.returns-clause-second
returns-clause-second g c first second item = has_right item first second
