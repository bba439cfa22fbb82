-- The memories that a machine may have.
use Rattle.std.specs.Prelude.{◌≡◌, ℕ, ◌+◌, ◌%◌, ◌≤◌}

-- a memory of `size` bytes from `base` on, which leaves the highest 65,536 addresses out
pub record IsMemory (base size : ℕ) : Type 0 where
  pub size_from : 4096 ≤ size
  pub size_to : size ≤ 16777216
  pub size_pages : size % 4096 ≡ 0
  pub base_pages : base % 4096 ≡ 0
  pub below_top : base + size ≤ 4294901760
