-- What a memory outside the chip was asked and tells, and how its lists grow.
use Rattle.std.specs.Prelude.{◌≡◌, ℕ, Bool, true, false, List, [], ◌∷◌, ◌++◌, Option, None, Some, replicate}

-- a move that was asked: its time, whether it is a write, its bucket, and the bytes of a write that was answered Ok
pub record Ask : Type 0 where
  pub time : ℕ
  pub write : Bool
  pub bucket : ℕ
  pub bytes : Option (List ℕ)

-- What a memory means. What it doesn't tell is None.
pub record MemoryState : Type 0 where
  -- how often a call failed
  pub faults : ℕ
  -- how many reads and writes it was asked
  pub moved : ℕ
  -- how many buckets are prepared
  pub count : ℕ
  -- the bytes of each bucket
  pub told : Option (List (List ℕ))
  -- the moves so far, in order
  pub seen : Option (List Ask)
  -- what the reads were answered, in order: the bytes of an Ok, or none
  pub said : Option (List (Option (List ℕ)))
  -- the memory that it stands on, which no call changes; any number where there is none
  pub link : ℕ

-- a list that is told gets one item more, or is no longer told; one that isn't told stays so
abbrev pub Adds : {A : Type 0} → Option (List A) → A → Option (List A) → Type 0
Adds {A} old item new = (all : List A) → new ≡ Some all
    → (before : List A) × (old ≡ Some before) × (all ≡ before ++ item ∷ [])

-- what is told is as it was, or is no longer told; what isn't told stays so
abbrev pub Keeps : {A : Type 0} → Option A → Option A → Type 0
Keeps {A} old new = (all : A) → new ≡ Some all → old ≡ Some all

-- a bucket of zero bytes
unfoldable pub zero_bucket : List ℕ
zero_bucket = replicate 376 0

-- so many buckets of zero bytes
abbrev pub zero_buckets : ℕ → List (List ℕ)
zero_buckets n = replicate n zero_bucket

-- the move that a read asks
abbrev pub read_ask : ℕ → ℕ → Ask
read_ask at number = record { time = at; write = false; bucket = number; bytes = None }

-- the move that a write asks, and its bytes if it was answered Ok
abbrev pub write_ask : ℕ → ℕ → Option (List ℕ) → Ask
write_ask at number text = record { time = at; write = true; bucket = number; bytes = text }
