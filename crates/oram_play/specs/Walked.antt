-- Accesses that were answered beside those of a walk; and what they leave in a play.
use Rattle.std.specs.Prelude.{◌≡◌, ℕ, List, [], ◌∷◌, Option}
use Rattle.std.specs.Option.{option_map}
use Rattle.asc_base.specs.declared.settings.Config.{Config}
use Rattle.data_cache.specs.Lines.{LineRequest, Fetch, Store}
use Rattle.oram_walk.specs.declared.slots.Purpose.{Purpose}
use Rattle.oram_walk.specs.declared.slots.Purpose.TheVariants.{Keep, Replace}
use Rattle.posmap_lookaside.specs.Walk.{WalkAccess}
use Rattle.run_play.specs.Requests.{StoredLines, Standing, Taken, put_back, message_of}
use Rattle.oram_play.specs.Taken.{put_in}
use Rattle.oram_play.specs.InTurn.{AnsweredAccess, slots_in_turn}

-- how the line of a request is put back
abbrev pub put_for : LineRequest → Purpose
put_for (Fetch line) = Keep
put_for (Store line value) = Replace (record { 0 = value })

-- An answered access is one of a walk: to the same block under the same counter, it puts the same message back, and the
-- same block is displaced behind it.
pub record IsWalked (config : Config) (lines : StoredLines) (value : Option (List ℕ)) (walked : WalkAccess)
    (one : AnsweredAccess) : Type 0 where
  pub address : walked.address ≡ one.access.address.0
  pub counter : walked.counter ≡ one.access.counter
  pub put : put_back config lines value walked walked.purpose ≡ put_in one.access one.line one.access.purpose
  pub appended : option_map (message_of config walked.counters lines) walked.displaced ≡ one.appended

-- each is one of a walk, in order, and the walk has no others
abbrev pub AreWalked : Config → StoredLines → Option (List ℕ) → List WalkAccess → List AnsweredAccess → Type 0
AreWalked config lines value [] [] = Unit {0}
AreWalked config lines value (walked ∷ rest) (one ∷ more) =
    IsWalked config lines value walked one × AreWalked config lines value rest more
AreWalked config lines value [] (one ∷ more) = ⊥
AreWalked config lines value (walked ∷ rest) [] = ⊥

-- The slots of accesses one after another, and what stands after them in a play, where the last one ends at a time.
abbrev pub taken_in_turn : Config → Standing → List AnsweredAccess → ℕ → Taken
taken_in_turn config now accesses end =
    let all = slots_in_turn config now.numbers accesses now.pace in
    record { slots = all.slots; standing = record now { pace = all.pace; clock = end } }
