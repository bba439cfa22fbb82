use Rattle.std.proofs.Common.{◌≡◌, ◌≤◌, ◌++◌, length, map, vec_capacity}
use Rattle.asc_base.specs.declared.block.Entry.{Entry}
use Rattle.oram_stash.proofs.tests.list_addresses.Given as goal

abbrev pub invariant-loop-entry : goal.invariant-loop-entry
invariant-loop-entry l = record {
  listed : l.into.items ++ map (λ (entry : Entry). entry.address.0) l.entry-iterator
      ≡ map (λ (entry : Entry). entry.address.0) l.stash.entries;
  room : length l.stash.entries ≤ vec_capacity l.into;
}
