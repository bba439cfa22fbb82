-- Worked rows of a machine that is fed.
use Rattle.std.proofs.Common.{refl}
use Rattle.std.specs.Prelude.{◌≡◌, [], ◌∷◌, Err, replicate}
use Rattle.rv32_core.specs.FlatRun.{Exited, machine_at_start, output_limit}
use Rattle.rv32_core.specs.LineList.{lines_from}
use Rattle.rv32_table.specs.Table.{decoded, table}
use Rattle.rv32_table.specs.Meaning.{register_meaning, load_meaning}
use Rattle.rv32_core.specs.Access.{slice_of}
use Rattle.fed_run.specs.Fed.{Ends, Starves, fed_run, program_line, over_line, over_image_line, reading_line}
use Rattle.fed_run.specs.Fed.{writing_line, eight_bytes, numbered, fed_step, AnotherLine, Refuses}

-- It is fed with line 1 and then with line 0, and exits.
pub fed-exits : let run = fed_run 1 9 (machine_at_start 0 0 128 0 [] output_limit)
    (over_image_line (numbered 1 (replicate 64 7) ∷ numbered 0 program_line ∷ [])) in
    (run.ending ≡ Ends (Exited 0)) × (run.instructions ≡ 3) × (run.feed.left ≡ [])
unfolding fed_run lines_from decoded table register_meaning load_meaning
fed-exits = (refl, refl, refl)

-- With line 1 alone it starves after one instruction.
pub fed-starves : let run = fed_run 1 9 (machine_at_start 0 0 128 0 [] output_limit)
    (over_image_line (numbered 1 (replicate 64 7) ∷ [])) in (run.ending ≡ Starves) × (run.instructions ≡ 1)
unfolding fed_run lines_from decoded table register_meaning load_meaning
fed-starves = (refl, refl)

-- In line 1's place another line is refused, and left.
pub fed-refuses : let left = numbered 3 (replicate 64 7) ∷ numbered 0 program_line ∷ [] in
    let machine = machine_at_start 0 0 128 0 [] output_limit in
    let run = fed_run 1 9 machine (over_image_line left) in
    (fed_step 1 machine (over_image_line left) ≡ Err AnotherLine)
    × (run.ending ≡ Refuses) × (run.instructions ≡ 0) × (run.feed.left ≡ left)
unfolding fed_run lines_from decoded table register_meaning load_meaning
fed-refuses = (refl, refl, refl, refl)

-- So it is in the place of line 0 after it.
pub fed-refuses-second : let left = numbered 1 (replicate 64 7) ∷ numbered 1 program_line ∷ [] in
    let run = fed_run 1 9 (machine_at_start 0 0 128 0 [] output_limit) (over_image_line left) in
    (run.ending ≡ Refuses) × (run.instructions ≡ 1) × (run.feed.left ≡ numbered 1 program_line ∷ [])
unfolding fed_run lines_from decoded table register_meaning load_meaning
fed-refuses-second = (refl, refl, refl)

-- A read into lines 0 and 1, over two ways.
pub read-crosses : let run = fed_run 2 9 (machine_at_start 0 0 128 0 eight_bytes output_limit)
    (over_line reading_line (numbered 1 (replicate 64 9) ∷ [])) in
    (run.ending ≡ Ends (Exited 8)) × (run.instructions ≡ 6) × (run.feed.left ≡ [])
    × (slice_of run.feed.memory 60 10 ≡ 1 ∷ 2 ∷ 3 ∷ 4 ∷ 5 ∷ 6 ∷ 7 ∷ 8 ∷ 9 ∷ 9 ∷ [])
unfolding fed_run lines_from decoded table register_meaning load_meaning
read-crosses = (refl, refl, refl, refl)

-- A write of bytes of lines 0 and 1, over one way.
pub write-crosses : let run = fed_run 1 9 (machine_at_start 0 0 128 0 [] output_limit)
    (over_line writing_line (numbered 1 (replicate 64 9) ∷ numbered 0 writing_line ∷ [])) in
    (run.ending ≡ Ends (Exited 8)) × (run.instructions ≡ 7) × (run.feed.left ≡ [])
    × (run.machine.files.output ≡ 0 ∷ 0 ∷ 0 ∷ 0 ∷ 9 ∷ 9 ∷ 9 ∷ 9 ∷ [])
unfolding fed_run lines_from decoded table register_meaning load_meaning
write-crosses = (refl, refl, refl, refl)

-- With no line they starve, and nothing of the call is done.
pub read-starves : let run = fed_run 2 9 (machine_at_start 0 0 128 0 eight_bytes output_limit)
    (over_line reading_line []) in
    (run.ending ≡ Starves) × (run.instructions ≡ 3) × (run.machine.files.position ≡ 0)
unfolding fed_run lines_from decoded table register_meaning load_meaning
read-starves = (refl, refl, refl)

pub write-starves : let run = fed_run 1 9 (machine_at_start 0 0 128 0 [] output_limit) (over_line writing_line []) in
    (run.ending ≡ Starves) × (run.instructions ≡ 4) × (run.machine.files.output ≡ [])
unfolding fed_run lines_from decoded table register_meaning load_meaning
write-starves = (refl, refl, refl)
