-- The line lists of worked programs.
use Rattle.std.proofs.Common.{refl}
use Rattle.std.specs.Prelude.{◌≡◌, ℕ, [], ◌∷◌}
use Rattle.rv32_core.specs.FlatRun.{Exited, flat_run, machine_at_start, output_limit}
use Rattle.rv32_core.specs.LineList.{LineKind, Read, WholeWrite, LineItem, line_list, run_items, image_items}
use Rattle.rv32_core.specs.LineList.{lines_from}
use Rattle.rv32_table.specs.Table.{decoded, table}
use Rattle.rv32_table.specs.Meaning.{register_meaning, load_meaning}

-- an item
abbrev item : ℕ → ℕ → LineKind → LineItem
item cost line kind = record { cost = cost; use_of = record { line = line; kind = kind } }

-- Two image lines, then `addi x17, x0, 93; ecall`.
pub exits : line_list (0 ∷ 3 ∷ []) 5 (machine_at_start 0 0 4096 0 [] output_limit)
    (0x93 ∷ 0x08 ∷ 0xd0 ∷ 0x05 ∷ 0x73 ∷ 0 ∷ 0 ∷ 0 ∷ [])
    ≡ item 0 0 WholeWrite ∷ item 1 3 WholeWrite ∷ item 1 0 Read ∷ item 1 0 Read ∷ []
unfolding run_items image_items lines_from decoded table register_meaning
exits = refl

-- From 4 on `lw x5, 64(x0)`, and then a word that is none.
pub traps : line_list [] 5 (machine_at_start 4 0 4096 0 [] output_limit)
    (0x23 ∷ 0x20 ∷ 0x20 ∷ 0 ∷ 0x83 ∷ 0x22 ∷ 0 ∷ 4 ∷ 0 ∷ 0 ∷ 0 ∷ 0 ∷ [])
    ≡ item 0 0 Read ∷ item 0 1 Read ∷ item 2 0 Read ∷ []
unfolding run_items image_items lines_from decoded table register_meaning load_meaning
traps = refl

-- and how the first one ends
pub exits-run : (flat_run 5 (machine_at_start 0 0 4096 0 [] output_limit)
    (0x93 ∷ 0x08 ∷ 0xd0 ∷ 0x05 ∷ 0x73 ∷ 0 ∷ 0 ∷ 0 ∷ [])).ending ≡ Exited 0
unfolding flat_run decoded table register_meaning
exits-run = refl
