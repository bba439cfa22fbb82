use Rattle.std.proofs.Common.{◌≡◌, true, is_none}
use Rattle.path_evict.proofs.Placed.{copies_add_up, length-where_all, length-taken_at, depth-taken_at}
use Rattle.path_evict.proofs.Placed.{where_placed-has, AllPairs-where_placed, map-where_placed}
use Rattle.path_evict.proofs.laws.items_are_placed.Goals as goal

pub returns-clause-copies : goal.returns-clause-copies
returns-clause-copies g c = copies_add_up

pub returns-clause-stay : goal.returns-clause-stay
returns-clause-stay g c = length-where_all is_none

pub returns-clause-room : goal.returns-clause-room
returns-clause-room g c = length-taken_at

pub returns-clause-deep : goal.returns-clause-deep
returns-clause-deep g c = depth-taken_at

pub returns-clause-among : goal.returns-clause-among
returns-clause-among g c = where_placed-has

pub returns-clause-order : goal.returns-clause-order
returns-clause-order g c before = AllPairs-where_placed (λ x y. before x y ≡ true)

pub returns-clause-parts : goal.returns-clause-parts
returns-clause-parts g c = map-where_placed
