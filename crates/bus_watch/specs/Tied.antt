-- How what a tap has is tied to what the memory was asked.
use Rattle.std.specs.Prelude.{◌≡◌, ◌≢◌, ◌⊎◌, ℕ, Bool, All, if◌then◌else◌, Option, None, Some}
use Rattle.std.specs.Prelude.{List, [], ◌∷◌, ◌++◌, map, slice_set}
use Rattle.std.specs.List.{flat_map}
use Rattle.asc_outside.specs.Memory.{MemoryState, Ask}
use Rattle.bus_watch.specs.declared.log.Move.{Move}
use Rattle.bus_watch.specs.declared.log.Altered.{Altered}
use Rattle.bus_watch.specs.Log.{TapState, is_bucket}
use Rattle.bus_watch.specs.RunEnd.{RunEnd, Whole, MoveFailed, RanOut}

-- a move with its answer: of a write the bytes that an Ok wrote, of a read the bytes that an Ok gave
pub record Exchange : Type 0 where
  pub time : ℕ
  pub write : Bool
  pub bucket : ℕ
  pub bytes : Option (List ℕ)

-- the move by itself
abbrev pub move_of : Exchange → Move
move_of x = record { time = x.time; write = x.write; bucket = x.bucket }

-- what the memory was asked
abbrev pub ask_of : Exchange → Ask
ask_of x = record { time = x.time; write = x.write; bucket = x.bucket; bytes = if x.write then x.bytes else None }

-- what it answered to a read
abbrev pub said_of : Exchange → List (Option (List ℕ))
said_of x = if x.write then [] else x.bytes ∷ []

-- the buckets after a write with these bytes
abbrev pub after : List (List ℕ) → ℕ → Option (List ℕ) → List (List ℕ)
after buckets number None = buckets
after buckets number (Some text) = slice_set buckets number text

-- the buckets after an exchange
abbrev pub written_by : List (List ℕ) → Exchange → List (List ℕ)
written_by buckets x = if x.write then after buckets x.bucket x.bytes else buckets

-- the buckets after the Ok writes among these
abbrev pub written : List (List ℕ) → List Exchange → List (List ℕ)
written buckets [] = buckets
written buckets (x ∷ xs) = written (written_by buckets x) xs

-- a reply, by its time, its bucket and its bytes
abbrev pub Reply : Type 0
Reply = ℕ × (ℕ × List ℕ)

-- the reply that is noted as altered
abbrev pub reply_of : Altered → Reply
reply_of a = (a.time, (a.bucket, a.bytes))

-- the reply that differs from these buckets, if there is one
abbrev pub unlike : List (List ℕ) → ℕ → ℕ → Option (List ℕ) → List Reply
unlike buckets at number None = []
unlike buckets at number (Some text) = if is_bucket buckets number text then [] else (at, (number, text)) ∷ []

-- the reply of an exchange, where it differs from these buckets
abbrev pub unlike_of : List (List ℕ) → Exchange → List Reply
unlike_of buckets x = if x.write then [] else unlike buckets x.time x.bucket x.bytes

-- the Ok replies that differ from the last Ok write of their bucket before them, or from these buckets
abbrev pub differing : List (List ℕ) → List Exchange → List Reply
differing buckets [] = []
differing buckets (x ∷ xs) = unlike_of buckets x ++ differing (written_by buckets x) xs

-- These exchanges are what the memory tells of its moves and answers since the start.
pub record Tells (start memory : MemoryState) (xs : List Exchange) : Type 0 where
  pub seen : (all : List Ask) → memory.seen ≡ Some all
      → (before : List Ask) × (start.seen ≡ Some before) × (all ≡ before ++ map ask_of xs)
  pub said : (all : List (Option (List ℕ))) → memory.said ≡ Some all
      → (before : List (Option (List ℕ))) × (start.said ≡ Some before) × (all ≡ before ++ flat_map said_of xs)

-- it was answered Ok
abbrev pub IsAnswered : Exchange → Type 0
IsAnswered x = x.bytes ≢ None

-- Some exchanges, each answered Ok, are what the memory tells since the start; the log has their moves in order, the
-- mirror each bucket's last write by them, or else what these buckets had, and the altered replies are those that
-- differ from it.
pub record Tied (start : MemoryState) (buckets : List (List ℕ)) (memory : MemoryState) (tap : TapState) : Type 0 where
  pub exchanges : List Exchange
  pub answered : All IsAnswered exchanges
  pub told : Tells start memory exchanges
  pub moves : tap.log.moves ≡ map move_of exchanges
  pub mirror : tap.mirror ≡ written buckets exchanges
  pub altered : map reply_of tap.log.altered ≡ differing buckets exchanges

-- the same but for the last move: mirror and altered replies are left as they were before it
pub record TiedButLast (start : MemoryState) (buckets : List (List ℕ))
    (memory : MemoryState) (tap : TapState) : Type 0 where
  pub exchanges : List Exchange
  pub answered : All IsAnswered exchanges
  pub last : Exchange
  pub told : Tells start memory (exchanges ++ last ∷ [])
  pub moves : tap.log.moves ≡ map move_of (exchanges ++ last ∷ [])
  pub mirror : tap.mirror ≡ written buckets exchanges
  pub altered : map reply_of tap.log.altered ≡ differing buckets exchanges

-- How memory and tap are tied at this end. The last move is the only one that failed, or that found no memory.
abbrev pub TiedAt : RunEnd → MemoryState → List (List ℕ) → MemoryState → TapState → Type 0
TiedAt Whole start buckets memory tap = Tied start buckets memory tap
TiedAt MoveFailed start buckets memory tap =
    (tied : TiedButLast start buckets memory tap) × (tied.last.bytes ≡ None)
TiedAt RanOut start buckets memory tap = Tied start buckets memory tap ⊎ TiedButLast start buckets memory tap
