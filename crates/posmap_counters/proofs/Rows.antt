-- Rows of the definitions that take more than computing.
use Rattle.std.proofs.Common.{◌≡◌, ℕ, zero, suc, ◌+◌, ◌<◌, ◌≤◌, refl, arith, [], ◌∷◌, replicate, get_or}
use Rattle.asc_base.specs.Greatest.{greatest}
use Rattle.asc_base.specs.TreeShape.{layer_count, layer_first, layer_of, index_of, parent_of}
use Rattle.posmap_counters.specs.Group.{child_counter}
use Rattle.posmap_counters.specs.Counters.{counter_at, MoveChild, Access, after}
use Rattle.posmap_counters.specs.Families.{HasCounters, IsMoving, HasRoots}
use Rattle.posmap_counters.specs.Rows.{two_siblings, their_group}
use Rattle.posmap_counters.proofs.FamilyLaws.{zeros_at}
use Rattle.posmap_counters.proofs.MoveLaws.{move_begins, child_moves}
use Rattle.posmap_counters.proofs.RootLaws.{start_roots, step_roots}

pub they_have : HasCounters (counter_at two_siblings) 64 2 their_group
unfolding counter_at
they_have = record { children = children; others = others }
  where
    children : (child : ℕ) → child < 2 → counter_at two_siblings (64 + child) ≡ child_counter their_group child
    children zero h = refl
    children (suc zero) h = refl
    children (suc (suc child)) h = absurd (omega arith)

    others : (child : ℕ) → 2 ≤ child → get_or their_group.own child 0 ≡ 0
    others zero h = absurd (omega arith)
    others (suc zero) h = absurd (omega arith)
    others (suc (suc child)) h = zeros_at 30 child

pub one_moves : IsMoving (counter_at (after 64 3 two_siblings (MoveChild 64))) 64 2 1 their_group
one_moves =
    child_moves 64 3 two_siblings 64 2 0 their_group [] (omega arith)
    (move_begins (counter_at two_siblings) 64 2 their_group they_have)

pub one_root : HasRoots 64 3 (counter_at (after 64 3 [] (Access 66))) (1 ∷ [])
unfolding parent_of layer_of index_of greatest layer_first layer_count
one_root = step_roots 64 3 [] 66 (replicate 1 0) refl (omega arith) refl (start_roots 64 3 1)
