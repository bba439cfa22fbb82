use Rattle.std.proofs.Common.{◌≡◌, ◌++◌, take, drop}
use Rattle.path_evict.specs.Placement.{slots}
use Rattle.path_evict.specs.Eviction.{fill}
use Rattle.path_evict.proofs.fill_level.Given as goal

abbrev pub invariant-loop-i : goal.invariant-loop-i
invariant-loop-i l = take l.i l.places ++ fill l.level l.room (drop l.i l.depths) (drop l.i l.places) ≡ fill l.level
    slots l.depths l.initial.places
