use Rattle.std.proofs.Common.{◌<◌, All, refl, arith, lit<}
use Rattle.std.proofs.lemmas.List.Elements.{All-from_recursion}
use Rattle.asc_base.specs.Greatest.{greatest}
use Rattle.asc_base.specs.Lookup.{without_first, promoted_first}
use Rattle.asc_base.specs.TreeShape.{layer_count, layer_first, layer_of, index_of, parent_of, children_of}
use Rattle.posmap_counters.specs.Counters.{counter_at, addresses_from, siblings, after, after_all, group_move}
use Rattle.posmap_counters.specs.Counters.{asked_changes}
use Rattle.posmap_lookaside.specs.Walk.{ancestors, accesses_of_all, walk_down, walks}
use Rattle.posmap_lookaside.specs.Rows.{small_sizes, in_turn}
use Rattle.posmap_lookaside.proofs.WalkLaws.{starts_apart}
use Rattle.posmap_lookaside.proofs.walk_laws.walks_have_rows.Goals as goal

pub returns-clause-nine : goal.returns-clause-nine
unfolding ancestors accesses_of_all walk_down walks asked_changes group_move siblings addresses_from counter_at after
    after_all
    parent_of children_of layer_of index_of greatest layer_first layer_count promoted_first without_first
returns-clause-nine c = refl

pub returns-clause-six : goal.returns-clause-six
unfolding ancestors accesses_of_all walk_down walks asked_changes group_move siblings addresses_from counter_at after
    after_all
    parent_of children_of layer_of index_of greatest layer_first layer_count promoted_first without_first
returns-clause-six c = refl

pub returns-clause-one_move : goal.returns-clause-one_move
unfolding ancestors accesses_of_all walk_down walks asked_changes group_move siblings addresses_from counter_at after
    after_all
    parent_of children_of layer_of index_of greatest layer_first layer_count promoted_first without_first
returns-clause-one_move c = refl

pub returns-clause-two_moves : goal.returns-clause-two_moves
unfolding ancestors accesses_of_all walk_down walks asked_changes group_move siblings addresses_from counter_at after
    after_all
    parent_of children_of layer_of index_of greatest layer_first layer_count promoted_first without_first
returns-clause-two_moves c = refl

pub returns-clause-counts : goal.returns-clause-counts
unfolding ancestors accesses_of_all walk_down walks asked_changes group_move siblings addresses_from counter_at after
    after_all
    parent_of children_of layer_of index_of greatest layer_first layer_count promoted_first without_first
returns-clause-counts c = (refl, refl, refl, refl)

pub returns-clause-apart : goal.returns-clause-apart
unfolding ancestors accesses_of_all walk_down walks asked_changes group_move siblings addresses_from counter_at after
    after_all parent_of children_of layer_of index_of greatest layer_first layer_count promoted_first without_first
returns-clause-apart c = starts_apart (small_sizes 3 2) in_turn (omega arith) inside (omega arith)
  where
    inside : All (λ line. line < layer_first 64 3) in_turn
    inside = All-from_recursion (λ line. line < layer_first 64 3) in_turn
        (lit< tt, (lit< tt, (lit< tt, (lit< tt, (lit< tt, (lit< tt, (lit< tt, tt)))))))

pub returns-clause-held : goal.returns-clause-held
unfolding ancestors accesses_of_all walk_down walks asked_changes group_move siblings addresses_from counter_at after
    after_all parent_of children_of layer_of index_of greatest layer_first layer_count promoted_first without_first
returns-clause-held c = (refl, refl)
