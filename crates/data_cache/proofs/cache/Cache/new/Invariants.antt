use Rattle.std.proofs.Common.{◌≡◌, ◌≤◌, [], map, replicate, vec_len, vec_capacity}
use Rattle.std.specs.Prelude.{All}
use Rattle.data_cache.proofs.cache.Cache.new.Given as goal

abbrev pub invariant-loop-i : goal.invariant-loop-i
invariant-loop-i l = record {
  room : All (λ v. (vec_len v ≤ l.ways) × (l.ways ≤ vec_capacity v)) l.all.items;
  sets : map (λ v. v.items) l.all.items ≡ replicate l._i [];
}
