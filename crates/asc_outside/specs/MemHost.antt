-- What a host in memory keeps, what it means as a host, and what its calls answer and leave.
use Rattle.std.specs.Prelude.{ℕ, ◌+◌, ◌==◌, nat_lt, Bool, if◌then◌else◌, List, [], ◌∷◌, ◌++◌, length}
use Rattle.std.specs.Prelude.{Option, Some, None, Result, Ok, Err}
use Rattle.std.specs.Map.{lookup}
use Rattle.std.specs.List.{list_any}
use Rattle.std.specs.Str.{bytes_eq}
use Rattle.asc_outside.specs.Host.{HostCall, HostState}
use Rattle.asc_outside.specs.declared.host.HostFault.{HostFault}
use Rattle.asc_outside.specs.declared.host.HostFault.TheVariants.{Failed, TooLong, NoMemory}

-- The files, each beside its name; what was printed; the calls so far; the numbers of those that fail, from 1; and how
-- often one failed.
pub record MemHostState : Type 0 where
  pub files : List (List ℕ × List ℕ)
  pub printed : List ℕ
  pub asked : List HostCall
  pub failing : List ℕ
  pub faults : ℕ

-- the file of a name
abbrev pub file_of : List (List ℕ × List ℕ) → List ℕ → Option (List ℕ)
file_of files name = lookup (λ other. bytes_eq name other) files

-- it tells all
abbrev pub told_by : MemHostState → HostState
told_by host = record {
  faults = host.faults;
  files = Some (file_of host.files);
  printed = Some host.printed;
  asked = Some host.asked;
}

-- the number of the next call is listed
abbrev pub next_fails : MemHostState → Bool
next_fails host = list_any (λ number. number == length host.asked + 1) host.failing

-- what a read finds, if its number isn't listed
abbrev pub found : Option (List ℕ) → ℕ → Result (List ℕ) HostFault
found None limit = Err Failed
found (Some bytes) limit = if nat_lt limit (length bytes) then Err TooLong else Ok bytes

-- what a read answers with ample memory
abbrev pub read_answer : MemHostState → List ℕ → ℕ → Result (List ℕ) HostFault
read_answer host name limit = if next_fails host then Err Failed else found (file_of host.files name) limit

-- the call is noted
abbrev pub noted : MemHostState → HostCall → MemHostState
noted host call = record host { asked = host.asked ++ call ∷ [] }

-- A refused call is noted, but where there was no memory, and a failure is counted.
abbrev pub after_refusal : MemHostState → HostCall → HostFault → MemHostState
after_refusal host call TooLong = noted host call
after_refusal host call Failed = record (noted host call) { faults = host.faults + 1 }
after_refusal host call NoMemory = host

-- what a call leaves, but for what a write or a print that isn't refused changes besides
abbrev pub after_call : {T : Type 0} → MemHostState → HostCall → Result T HostFault → MemHostState
after_call host call (Ok x) = noted host call
after_call host call (Err fault) = after_refusal host call fault
