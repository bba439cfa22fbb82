-- Entries in order of arrival, looked up by address.
use Rattle.std.specs.Prelude.{◌≡◌, ◌≢◌, ℕ, Bool, true, ◌==◌, List, Option, Some, AllPairs, slice_get}
use Rattle.std.specs.List.{find}
use Rattle.asc_base.specs.Lookup.{without_first}
use Rattle.asc_base.specs.declared.block.Address.{Address}
use Rattle.asc_base.specs.declared.block.Entry.{Entry}

-- whether an entry is that of this address
abbrev pub is_of : Address → Entry → Bool
is_of address entry = entry.address.0 == address.0

-- the first entry of this address
unfoldable pub held : List Entry → Address → Option Entry
held entries address = find (is_of address) entries

-- the entries without the first of this address; those after it move up
unfoldable pub without : List Entry → Address → List Entry
without entries address = without_first (is_of address) entries

-- no two entries have one address
abbrev pub AreApart : List Entry → Type 0
AreApart entries = AllPairs (λ (earlier later : Entry). earlier.address.0 ≢ later.address.0) entries

-- an entry stands among others beside a place that meets a test
pub record IsPlacedAmong (test : Option ℕ → Bool) (places : List (Option ℕ)) (entries : List Entry) (entry : Entry)
    : Type 0 where
  pub at : ℕ
  pub place : Option ℕ
  pub stands : slice_get entries at ≡ Some entry
  pub beside : slice_get places at ≡ Some place
  pub meets : test place ≡ true
