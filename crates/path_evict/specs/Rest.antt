-- How many entries must stay, by counting alone: those with a depth of at most k stand at the levels from 0 to k, which
-- have 4 * (k + 1) slots.
use Rattle.std.specs.Prelude.{◌≡◌, ℕ, zero, suc, ◌+◌, ◌-◌, ◌*◌, ◌≤◌, ◌<◌, List, nat_le, count_by, max}
use Rattle.path_evict.specs.Placement.{slots}

-- how many entries have a depth of at most k
abbrev pub count_within : List ℕ → ℕ → ℕ
count_within depths k = count_by (λ depth. nat_le depth k) depths

-- how many of these have no slot at the levels from 0 to k; 0 where all have one
abbrev pub excess : List ℕ → ℕ → ℕ
excess depths k = count_within depths k - slots * (k + 1)

-- the greatest excess over k from 0 to `levels`
unfoldable pub rest : List ℕ → ℕ → ℕ
rest depths zero = excess depths zero
rest depths (suc level) = max (rest depths level) (excess depths (suc level))

-- k is the least depth whose excess is the rest, which isn't 0: it shows that no placement leaves fewer
pub record IsLeastWitness (depths : List ℕ) (levels k : ℕ) : Type 0 where
  pub within : k ≤ levels
  pub some : 0 < rest depths levels
  pub reached : excess depths k ≡ rest depths levels
  pub least : (j : ℕ) → j < k → excess depths j < rest depths levels
