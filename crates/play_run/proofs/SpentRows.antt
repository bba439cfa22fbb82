-- Worked rows of the costs of a machine that is fed.
use Rattle.std.proofs.Common.{refl}
use Rattle.std.specs.Prelude.{◌≡◌, [], ◌∷◌, replicate}
use Rattle.rv32_core.specs.FlatRun.{machine_at_start, output_limit}
use Rattle.rv32_core.specs.LineList.{lines_from}
use Rattle.rv32_table.specs.Table.{decoded, table}
use Rattle.rv32_table.specs.Meaning.{register_meaning, load_meaning}
use Rattle.fed_run.specs.Fed.{program_line, over_image_line, numbered}
use Rattle.play_run.specs.Spent.{fed_cost}

-- It is fed with line 1 and then with line 0: a load, an addition and an exit.
pub costs-exits : fed_cost 1 9 (machine_at_start 0 0 128 0 [] output_limit)
    (over_image_line (numbered 1 (replicate 64 7) ∷ numbered 0 program_line ∷ [])) ≡ 13
unfolding fed_cost lines_from decoded table register_meaning load_meaning
costs-exits = refl

-- With line 1 alone it starves after the load.
pub costs-starves : fed_cost 1 9 (machine_at_start 0 0 128 0 [] output_limit)
    (over_image_line (numbered 1 (replicate 64 7) ∷ [])) ≡ 2
unfolding fed_cost lines_from decoded table register_meaning load_meaning
costs-starves = refl
