-- What a host means: its count of faults and, where they are told, its files, what it printed and what it was asked.
use Rattle.std.specs.Prelude.{◌≡◌, ◌≢◌, ℕ, ◌<◌, length, List, [], ◌∷◌, ◌++◌}
use Rattle.std.specs.Prelude.{Option, Some, is_some, option_map, Result, Ok, Err}
use Rattle.asc_outside.specs.declared.host.HostFault.{HostFault}
use Rattle.asc_outside.specs.declared.host.HostFault.TheVariants.{Failed, TooLong, NoMemory}

-- a call that a host was asked, with the name of its file
pub data HostCall : Type 0 where
  Reads : List ℕ → HostCall
  Writes : List ℕ → HostCall
  Prints : HostCall

-- the bytes of the file of each name that there is
abbrev pub Files : Type 0
Files = List ℕ → Option (List ℕ)

-- What a host means. What it doesn't tell is None.
pub record HostState : Type 0 where
  -- how often a call failed
  pub faults : ℕ
  pub files : Option Files
  pub printed : Option (List ℕ)
  -- the calls so far, in order
  pub asked : Option (List HostCall)

-- every answer but want of memory adds the call to a list that is told
abbrev pub asked_after : {T : Type 0} → Option (List HostCall) → HostCall → Result T HostFault → Option (List HostCall)
asked_after before call (Ok x) = option_map (λ calls. calls ++ call ∷ []) before
asked_after before call (Err Failed) = option_map (λ calls. calls ++ call ∷ []) before
asked_after before call (Err TooLong) = option_map (λ calls. calls ++ call ∷ []) before
asked_after before call (Err NoMemory) = before

-- the file of this name has more bytes than the limit
abbrev pub IsLonger : Files → List ℕ → ℕ → Type 0
IsLonger files name limit = (bytes : List ℕ) × (files name ≡ Some bytes) × (limit < length bytes)

-- Files are told where they were told before, and every file but the one of this name is as it was.
pub record OthersStay (name : List ℕ) (old new : Option Files) : Type 0 where
  pub told : is_some new ≡ is_some old
  pub others : (before after : Files) → old ≡ Some before → new ≡ Some after
      → (other : List ℕ) → other ≢ name → after other ≡ before other
