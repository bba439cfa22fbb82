-- What a cache over an encrypted memory stands for: a list of bytes.
use Rattle.std.specs.Prelude.{◌≡◌, ◌<◌, ◌*◌, ℕ, List, [], ◌∷◌, Result, Ok, Err, None, Some, length, slice_index_or}
use Rattle.std.specs.Prelude.{replicate}
use Rattle.asc_base.specs.declared.stop.Stop.{Stop}
use Rattle.data_cache.specs.CacheLists.{line_in}
use Rattle.data_cache.specs.Contents.{Contents}
use Rattle.data_cache.specs.Lines.{LineRequest, Fetch, Store, IsLine}
use Rattle.data_cache.specs.Standing.{StandFor}
use Rattle.oram_contents.specs.Entries.{Keys}
use Rattle.oram_frontend.specs.Oram.{OramState, OramStep, Fetch as OramFetch, Store as OramStore}
use Rattle.oram_lines.specs.Lines.{HoldsLines}
use Rattle.rv32_core.specs.Access.{spliced}
use Rattle.rv32_core.specs.FlatRun.{Budget, flat_run}
use Rattle.rv32_core.specs.Machine.{Machine}

module _ (keys : Keys) (levels : ℕ) where
  -- What a cache asks of its store, as a call of an encrypted memory at some time: it is for a line that there is, and
  -- lines have 64 bytes.
  abbrev pub OramLine : OramState → LineRequest → Result (List ℕ) Stop → OramState → Type 0
  OramLine old (Fetch line) (Ok bytes) new = (line < keys.shape.lines) × IsLine bytes × (asked : ℕ) × (end : ℕ)
      × OramStep keys levels old (OramFetch asked line)
      (Ok (record { line = Some (record { 0 = bytes }); end = end })) new
  OramLine old (Store line value) (Ok bytes) new = (line < keys.shape.lines) × (length value ≡ 64) × (bytes ≡ [])
      × (asked : ℕ) × (end : ℕ)
      × OramStep keys levels old (OramStore asked line (record { 0 = value }))
      (Ok (record { line = None; end = end })) new
  OramLine old (Fetch line) (Err stop) new = (line < keys.shape.lines) × (asked : ℕ)
      × OramStep keys levels old (OramFetch asked line) (Err stop) new
  OramLine old (Store line value) (Err stop) new = (line < keys.shape.lines) × (length value ≡ 64) × (asked : ℕ)
      × OramStep keys levels old (OramStore asked line (record { 0 = value })) (Err stop) new

  -- It holds the lines of this list.
  pub record HoldsList (list : List (List ℕ)) (o : OramState) : Type 0 where
    pub number : length list ≡ keys.shape.lines
    pub holds : HoldsLines keys levels (λ n. slice_index_or list n []) o

  -- A cache over it stands for this list of bytes: a line that the cache holds has its bytes there, and every other
  -- has the bytes that the encrypted memory holds.
  pub record Computes (cache : Contents) (memory : List ℕ) (o : OramState) : Type 0 where
    pub list : List (List ℕ)
    pub held : HoldsList list o
    pub stands : StandFor cache list memory

-- a cache in which nothing is held
abbrev pub empty_cache : ℕ → ℕ → Contents
empty_cache sets ways = record { ways = ways; sets = replicate sets [] }

-- bytes into which these lines of an image were written whole
abbrev pub loaded : List ℕ → List ℕ → List ℕ → List ℕ
loaded image [] memory = memory
loaded image (line ∷ marked) memory = loaded image marked (spliced memory (64 * line) (line_in image line))

-- So many instructions finish in the flat run from a machine and its bytes, none of which ends it, and leave this
-- machine.
pub record IsPrefix (count : ℕ) (machine : Machine) (memory : List ℕ) (last : Machine) : Type 0 where
  pub instructions : (flat_run count machine memory).instructions ≡ count
  pub leaves : (flat_run count machine memory).machine ≡ last
  pub ending : (flat_run count machine memory).ending ≡ Budget
