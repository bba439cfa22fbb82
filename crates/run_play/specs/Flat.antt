-- What a play has in common with the flat run: the lines that it uses, and how it ends.
use Rattle.std.specs.Prelude.{◌≡◌, ℕ, ◌+◌, List, []}
use Rattle.data_cache.specs.Lines.{LineRequest, Fetch, Store}
use Rattle.rv32_core.specs.FlatRun as flat
use Rattle.rv32_core.specs.FlatRun.{flat_run}
use Rattle.rv32_core.specs.Machine.{Machine}
use Rattle.run_play.specs.Play.{PlayEnding, Exited, Trapped, Budget, TimeUp, StashFull, Integrity, Device}

-- a request without the bytes that it stores
abbrev pub without_bytes : LineRequest → LineRequest
without_bytes (Fetch line) = Fetch line
without_bytes (Store line value) = Store line []

module _ (machine : Machine) (memory : List ℕ) where
  -- the flat run of so many instructions ends so
  abbrev pub FlatEnds : ℕ → flat.FlatEnding → Type 0
  FlatEnds count ending = (flat_run count machine memory).ending ≡ ending

  -- After so many instructions, all of which finish in the flat run: it exits with the last of them, or traps in the
  -- next one; at the budget they are as many as were to finish; and when time is up they haven't ended it. No play ends
  -- by a stop of its memory.
  abbrev pub EndsAs : (budget count : ℕ) → PlayEnding → Type 0
  EndsAs budget count (Exited status) = FlatEnds count (flat.Exited status)
  EndsAs budget count (Trapped kind pc) = FlatEnds count flat.Budget × FlatEnds (count + 1) (flat.Trapped kind pc)
  EndsAs budget count Budget = (count ≡ budget) × FlatEnds count flat.Budget
  EndsAs budget count (TimeUp at) = FlatEnds count flat.Budget
  EndsAs budget count (StashFull held) = ⊥
  EndsAs budget count (Integrity evidence) = ⊥
  EndsAs budget count Device = ⊥

  -- A play of at most so many instructions, of which so many finished, ends so as the flat run does.
  pub record IsFlat (budget finished : ℕ) (how : PlayEnding) : Type 0 where
    pub instructions : (flat_run finished machine memory).instructions ≡ finished
    pub ending : EndsAs budget finished how
