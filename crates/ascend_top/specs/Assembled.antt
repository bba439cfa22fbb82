-- A program that was assembled, in a memory.
use Rattle.std.specs.Prelude.{◌≡◌, ℕ, ◌+◌, ◌-◌, ◌%◌, ◌<◌, ◌≤◌, List, ◌++◌, length, replicate}
use Rattle.asc_base.specs.Memory.{IsMemory}

-- a program of these bytes whose first has the place `at` is inside the memory of `size` bytes from `base` on
pub record IsInside (base size at : ℕ) (bytes : List ℕ) : Type 0 where
  pub memory : IsMemory base size
  pub aligned : at % 4 ≡ 0
  pub from : base ≤ at
  pub entry : at < base + size
  pub to : at + length bytes ≤ base + size

-- that memory: the program's bytes at their place among zeros
abbrev pub memory_of : ℕ → ℕ → ℕ → List ℕ → List ℕ
memory_of base size at bytes =
    replicate (at - base) 0 ++ (bytes ++ replicate (base + size - (at + length bytes)) 0)
