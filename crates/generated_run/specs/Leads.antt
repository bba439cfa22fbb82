-- How to reason about a program on the flat machine: so many instructions lead from a machine and its bytes to others,
-- and one such piece is put behind another.
use Rattle.std.specs.Prelude.{◌≡◌, ℕ, ◌+◌, List}
use Rattle.rv32_core.specs.Machine.{Machine}
use Rattle.rv32_core.specs.FlatRun.{finished_before, flat_run}

-- So many instructions finish, and leave this machine and these bytes: however many more there are, the run goes on
-- from there.
pub record Leads (count : ℕ) (machine : Machine) (memory : List ℕ) (next : Machine) (after : List ℕ) : Type 0 where
  pub goes_on : (more : ℕ) → flat_run (count + more) machine memory ≡ finished_before count (flat_run more next after)
