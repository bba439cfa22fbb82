-- How many entries of a kind a path's buckets take.
use Rattle.std.specs.Prelude.{ℕ, zero, suc, ◌+◌, Bool, List, flat_map, count_by}
use Rattle.std.specs.Option.{option_to_list}
use Rattle.asc_base.specs.declared.block.Entry.{Entry}
use Rattle.oram_contents.specs.PathWritten.{slots_at}

-- those in the buckets of the levels below a number
abbrev pub copies_to : (Entry → Bool) → ℕ → ℕ → List Entry → ℕ → ℕ
copies_to test levels leaf hand zero = 0
copies_to test levels leaf hand (suc level) =
    copies_to test levels leaf hand level + count_by test (flat_map option_to_list (slots_at levels leaf hand level))
