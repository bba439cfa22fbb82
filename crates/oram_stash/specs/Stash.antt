-- What contracts see of a stash.
use Rattle.std.specs.Prelude.{ℕ, List}
use Rattle.asc_base.specs.declared.block.Entry.{Entry}

pub record StashState : Type 0 where
  -- in order of arrival
  pub entries : List Entry
  -- how many more are sure to find room
  pub spare : ℕ
