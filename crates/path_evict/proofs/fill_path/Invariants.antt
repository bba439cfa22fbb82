use Rattle.std.proofs.Common.{◌≡◌}
use Rattle.path_evict.specs.Eviction.{fill_up}
use Rattle.path_evict.proofs.fill_path.Given as goal

abbrev pub invariant-loop-level : goal.invariant-loop-level
invariant-loop-level l = fill_up l.level l.depths l.places ≡ fill_up l.levels l.depths l.initial.places
