-- The table's rows are apart.
use Rattle.std.proofs.Common.{◌≡◌, ℕ, refl, true}
use Rattle.std.specs.Prelude.{AllPairs}
use Rattle.rv32_table.specs.Table.{table}
use Rattle.rv32_table.proofs.ListLaws.{are_apart, are_apart-sound, NotBoth}

tests : are_apart table ≡ true
unfolding table
tests = refl

pub table-apart : (word : ℕ) → AllPairs (NotBoth word) table
table-apart word = are_apart-sound word table tests
