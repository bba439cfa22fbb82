-- Counts that rise, step by step.
use Rattle.std.proofs.Common.{◌<◌, ◌≤◌, ◌-◌, ◌^◌, ℕ, arith}
use Rattle.asc_outside.specs.Rose.{Rose}

pub rose_grown : (before now : ℕ) → before < now → Rose before now
rose_grown before now grown = omega arith

pub rose_full : (before now : ℕ) → 2 ^ 64 - 1 ≤ now → Rose before now
rose_full before now full = omega arith

-- it rose since an earlier count, and rose up to a later one
pub rose_since : (before mid now : ℕ) → before ≤ mid → Rose mid now → Rose before now
rose_since before mid now earlier rose = omega arith

pub rose_until : (before mid now : ℕ) → Rose before mid → mid ≤ now → Rose before now
rose_until before mid now rose later = omega arith

-- nothing else is said of it
pub rose_only : (before now : ℕ) → Rose before now → now < 2 ^ 64 - 1 → before < now
rose_only before now rose below = omega arith
