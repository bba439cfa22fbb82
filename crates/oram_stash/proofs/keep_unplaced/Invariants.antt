use Rattle.std.proofs.Common.{◌≡◌, ◌≤◌, ◌++◌, length, take, drop, vec_capacity}
use Rattle.path_evict.specs.Placed.{kept}
use Rattle.oram_stash.proofs.keep_unplaced.Given as goal

abbrev pub invariant-loop-at : goal.invariant-loop-at
invariant-loop-at l = record {
  within : l.kept ≤ l.at;
  counted : length l.entries.items ≡ length l.places;
  rest : take l.kept l.entries.items ++ kept (drop l.at l.places) (drop l.at l.entries.items)
      ≡ kept l.places l.fn.entries.items;
  capacity : vec_capacity l.entries ≡ vec_capacity l.fn.entries;
}
