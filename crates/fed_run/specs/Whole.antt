-- A whole run below a core: the image lines are written whole into an empty cache, and then the instructions follow.
use Rattle.std.specs.Prelude.{ℕ, List, [], ◌∷◌}
use Rattle.request_plan.specs.Plan.{Plan, Done, bind, through}
use Rattle.rv32_core.specs.LineList.{WholeWrite, used}
use Rattle.rv32_core.specs.Machine.{Machine}
use Rattle.rv32_core.specs.RunPlan.{RunEnd, run_plan}
use Rattle.data_cache.specs.Lines.{LineRequest}
use Rattle.data_cache.specs.CacheLists.{Sets, Lines, no_lines, line_in, write_whole_line}
use Rattle.data_cache.specs.Contents.{Contents, write_line_plan}
use Rattle.data_cache.specs.Cached.{cache_access, lists_access}
use Rattle.fed_run.specs.Fed.{Feed, NotedLine, FedRun, fed_run, sets_along}

-- What a cache asks of its store for the image lines, each of which is written whole, with its bytes of the image.
abbrev pub cache_image : List ℕ → List ℕ → Contents → Plan LineRequest (List ℕ) Contents Contents
cache_image image [] cache = Done cache
cache_image image (line ∷ marked) cache =
    bind (λ left. left) (write_line_plan cache line (record { 0 = line_in image line })) (cache_image image marked)

-- And what it asks for the whole run of at most n instructions. Where it is stopped, it leaves how many instructions
-- are finished, and the machine after them.
abbrev pub cache_run : List ℕ → List ℕ → ℕ → Machine → Contents
    → Plan LineRequest (List ℕ) (Contents × (ℕ × Machine)) (Contents × RunEnd)
cache_run image marked n machine cache =
    bind (λ left. (left, (0, machine))) (cache_image image marked cache)
    (through (cache_access machine.core.base) (run_plan n 0 machine))

-- The same of the cache's lists over a list of bytes.
abbrev pub lists_image : ℕ → List ℕ → Lines → Plan LineRequest (List ℕ) Sets Lines
lists_image ways [] lists = Done lists
lists_image ways (line ∷ marked) lists =
    bind (λ left. left) (write_whole_line ways lists line (line_in lists.memory line)) (lists_image ways marked)

abbrev pub lists_run : ℕ → List ℕ → ℕ → Machine → Lines
    → Plan LineRequest (List ℕ) (Sets × (ℕ × Machine)) (Lines × RunEnd)
lists_run ways marked n machine lists =
    bind (λ left. (left, (0, machine))) (lists_image ways marked lists)
    (through (lists_access machine.core.base ways) (run_plan n 0 machine))

-- What stands behind a machine at its start: its image, the sets after its image lines, and the lines to be fed.
abbrev pub feed_at_start : ℕ → ℕ → List ℕ → List ℕ → List NotedLine → Feed
feed_at_start ways sets image marked left = record {
  memory = image;
  sets = sets_along ways (no_lines sets) (used WholeWrite marked);
  left = left;
}

-- Fed: the run of at most n instructions from a machine at its start with this image, fed with these lines.
abbrev pub fed : ℕ → ℕ → List ℕ → List ℕ → ℕ → Machine → List NotedLine → FedRun
fed ways sets image marked n machine lines = fed_run ways n machine (feed_at_start ways sets image marked lines)
