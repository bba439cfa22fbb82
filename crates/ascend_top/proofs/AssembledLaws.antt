-- The fields of an assembled file, what faults it doesn't have, and its memory.
use Rattle.std.proofs.Common.{◌≡◌, ◌∙◌, ℕ, ◌+◌, ◌-◌, ◌%◌, ◌^◌, ◌<◌, ◌≤◌, List, [], ◌∷◌, ◌++◌, length, lit≤, ap, sym}
use Rattle.std.proofs.Common.{subst, refl, arith, inl, inr, true, false, length-append}
use Rattle.std.specs.Prelude.{nat_lt, ◌&&◌, cond, map, replicate, slice_index, Some, None}
use Rattle.std.specs.List.{find, range_with_len}
use Rattle.std.proofs.lemmas.Nat.{from_le_bytes-to_le_bytes_4}
use Rattle.std.proofs.lemmas.List.{ext_get_or, get_or_append_left, get_or-append_right, get_or-append-add}
use Rattle.std.proofs.lemmas.List.{get_or-replicate, length-replicate}
use Rattle.std.proofs.lemmas.List.FromFn.{length-map-range_with_len, get_or-map-range_with_len}
use Rattle.std.proofs.lemmas.Bool.{cases_lt, lt-ltb, le-ltb, le-leb, lt-leb}
use Rattle.elf_loader.specs.declared.header.ProgramHeader.{ProgramHeader}
use Rattle.elf_loader.specs.declared.fault.ElfFault.{ElfFault}
use Rattle.elf_loader.specs.declared.fault.ElfFault.TheVariants.{Short, Magic, Class, Order, Version, FileType, Machine}
use Rattle.elf_loader.specs.declared.fault.ElfFault.TheVariants.{Compressed, HeaderSize, Table, Interp, Segment}
use Rattle.elf_loader.specs.declared.fault.ElfFault.TheVariants.{Outside, Overlap, Entry, NoMemory}
use Rattle.elf_loader.specs.Elf.{half, word, entry_of, header_from, header_at}
use Rattle.elf_loader.specs.Faults.{IsFault, IsBadSegment, IsOutside}
use Rattle.elf_loader.specs.Layout.{covers, byte_of, image_byte, image_bytes}
use Rattle.rv32_asm.specs.File.{elf_header, program_header, file_of}
use Rattle.ascend_top.specs.Assembled.{IsInside, memory_of}

-- the program header of so many bytes from a place on
abbrev header_of : ℕ → ℕ → ProgramHeader
header_of at count = record {
  kind = 1;
  offset = 84;
  address = at;
  file_size = count;
  memory_size = count;
  flags = 7;
}

abbrev zeros : ℕ → List ℕ
zeros count = replicate count 0

long_zeros : (count : ℕ) → length (zeros count) ≡ count
long_zeros count = length-replicate count 0

module _ (base size at : ℕ) (bytes : List ℕ) (inside : IsInside base size at bytes) where
  abbrev file : List ℕ
  file = file_of at bytes

  place_small : at < 2 ^ 32
  place_small = omega (arith, inside.entry, inside.memory.below_top)

  count_small : length bytes < 2 ^ 32
  count_small = omega (arith, inside.to, inside.memory.below_top)

  long : length file ≡ 84 + length bytes
  long = omega arith

  pub entry_is : entry_of file ≡ at
  unfolding word
  entry_is = from_le_bytes-to_le_bytes_4 at place_small

  header_is : header_from file 52 ≡ header_of at (length bytes)
  unfolding word header_from
  header_is =
      let make : ℕ → ℕ → ℕ → ProgramHeader = λ place some more. record {
        kind = 1;
        offset = 84;
        address = place;
        file_size = some;
        memory_size = more;
        flags = 7;
      } in
      let count : word file 68 ≡ length bytes = from_le_bytes-to_le_bytes_4 (length bytes) count_small in
      let more : word file 72 ≡ length bytes = from_le_bytes-to_le_bytes_4 (length bytes) count_small in
      let place : word file 60 ≡ at = from_le_bytes-to_le_bytes_4 at place_small in
      ap (λ p. make p (word file 68) (word file 72)) place
      ∙ ap (λ n. make at n (word file 72)) count
      ∙ ap (make at (length bytes)) more

  one_header : (index : ℕ) → index < 1 → header_at file index ≡ header_of at (length bytes)
  unfolding word
  one_header index few =
      let first : index ≡ 0 = omega arith in
      ap (header_at file) first ∙ header_is

  bad_segment : ¬ IsBadSegment file (header_of at (length bytes))
  bad_segment (load, inl more) = omega arith
  bad_segment (load, inr beyond) = omega (arith, long)

  outside : ¬ IsOutside base size (header_of at (length bytes))
  outside (load, some, inl below) = omega (arith, inside.from)
  outside (load, some, inr beyond) = omega (arith, inside.to)

  pub no_fault : (fault : ElfFault) → ¬ IsFault base size file fault
  unfolding half word
  no_fault Short is = omega (arith, long)
  no_fault Magic is = let no : ⊥ = cc in no
  no_fault Class is = is refl
  no_fault Order is = is refl
  no_fault Version is = is refl
  no_fault FileType is = is refl
  no_fault Machine is = is refl
  no_fault Compressed is = is refl
  no_fault HeaderSize is = is.1 refl
  no_fault Table (inl many) = omega arith
  no_fault Table (inr short) = omega (arith, long)
  no_fault Interp (index, few, is) =
      let same : ◌≡◌ {A = ℕ} 1 3 = ap (λ (h : ProgramHeader). h.kind) (sym (one_header index few)) ∙ is in omega arith
  no_fault (Segment index) (few, is) = bad_segment (subst (IsBadSegment file) (one_header index few) is)
  no_fault (Outside index) (few, is) = outside (subst (IsOutside base size) (one_header index few) is)
  no_fault (Overlap index) (few, (lower, less, share)) = omega arith
  no_fault Entry (inl odd) = odd (ap (λ e. e % 4) entry_is ∙ inside.aligned)
  no_fault Entry (inr (inl below)) = omega (arith, entry_is, inside.from)
  no_fault Entry (inr (inr beyond)) = omega (arith, entry_is, inside.entry)
  no_fault NoMemory is = is

  -- the byte of the memory at an address
  abbrev chosen : ProgramHeader → ℕ → ℕ
  chosen header address = byte_of file address (find (λ h. covers h address) (header ∷ []))

  by_header : (address : ℕ) → image_byte file address ≡ chosen (header_of at (length bytes)) address
  unfolding half word image_byte
  by_header address = ap (λ h. chosen h address) header_is

  covered_byte : (address : ℕ) → covers (header_of at (length bytes)) address ≡ true
      → image_byte file address ≡ slice_index file (84 + (address - at))
  unfolding byte_of
  covered_byte address covered =
      by_header address ∙ ap (λ t. byte_of file address (cond t (Some (header_of at (length bytes))) None)) covered

  other_byte : (address : ℕ) → covers (header_of at (length bytes)) address ≡ false → image_byte file address ≡ 0
  unfolding byte_of
  other_byte address not_covered =
      by_header address ∙ ap (λ t. byte_of file address (cond t (Some (header_of at (length bytes))) None)) not_covered

  behind_headers : (place : ℕ) → slice_index file (84 + place) ≡ slice_index bytes place
  behind_headers place =
      let same : 84 + place ≡ 52 + (32 + place) = omega arith in
      ap (slice_index file) same
      ∙ get_or-append-add (elf_header at) (program_header at (length bytes) ++ bytes) (32 + place) 0
      ∙ get_or-append-add (program_header at (length bytes)) bytes place 0

  below_program : (address : ℕ) → address < at → image_byte file address ≡ 0
  below_program address less =
      other_byte address (ap (λ t. t && nat_lt address (at + length bytes)) (lt-leb at address less))

  in_program : (address : ℕ) → at ≤ address → address < at + length bytes
      → image_byte file address ≡ slice_index bytes (address - at)
  in_program address from less =
      covered_byte address (ap (λ t. t && nat_lt address (at + length bytes)) (le-leb at address from)
      ∙ lt-ltb address (at + length bytes) less)
      ∙ behind_headers (address - at)

  above_program : (address : ℕ) → at + length bytes ≤ address → image_byte file address ≡ 0
  above_program address from =
      other_byte address (ap (λ t. t && nat_lt address (at + length bytes)) (le-leb at address (omega arith))
      ∙ le-ltb address (at + length bytes) from)

  -- the same of the memory as it is said
  abbrev before : ℕ
  before = at - base

  abbrev behind : ℕ
  behind = base + size - (at + length bytes)

  said_below : (i : ℕ) → i < before → slice_index (memory_of base size at bytes) i ≡ 0
  said_below i less =
      let some : length (zeros before) ≡ before = long_zeros before in
      get_or_append_left (zeros before) (bytes ++ zeros behind) 0 i (omega arith)
      ∙ get_or-replicate before i 0 0 less

  said_from : (i : ℕ) → before ≤ i
      → slice_index (memory_of base size at bytes) i ≡ slice_index (bytes ++ zeros behind) (i - before)
  said_from i from =
      get_or-append_right (zeros before) (bytes ++ zeros behind) before i 0 (long_zeros before) from

  same_place : (i : ℕ) → before ≤ i → base + i - at ≡ i - before
  same_place i from = omega (arith, inside.from)

  at_index : (i : ℕ) → i < size → image_byte file (base + i) ≡ slice_index (memory_of base size at bytes) i
  at_index i less = elim (cases_lt i before) [
    | inl below ↦ below_program (base + i) (omega arith) ∙ sym (said_below i below)
    | inr from ↦ elim (cases_lt (i - before) (length bytes)) [
      | inl within ↦ in_program (base + i) (omega (arith, inside.from)) (omega (arith, inside.from))
          ∙ ap (slice_index bytes) (same_place i from)
          ∙ sym (said_from i from ∙ get_or_append_left bytes (zeros behind) 0 (i - before) within)
      | inr above ↦ above_program (base + i) (omega (arith, inside.from))
          ∙ sym (said_from i from
          ∙ get_or-append_right bytes (zeros behind) (length bytes) (i - before) 0 refl above
          ∙ get_or-replicate behind (i - before - length bytes) 0 0 (omega (arith, inside.from, inside.to)))
    ]
  ]

  same_length : size ≡ length (memory_of base size at bytes)
  same_length =
      let first : length (memory_of base size at bytes) ≡ length (zeros before) + length (bytes ++ zeros behind) =
      length-append (zeros before) (bytes ++ zeros behind) in
      let second : length (bytes ++ zeros behind) ≡ length bytes + length (zeros behind) =
      length-append bytes (zeros behind) in
      let some : length (zeros before) ≡ before = long_zeros before in
      let more : length (zeros behind) ≡ behind = long_zeros behind in
      omega (arith, inside.from, inside.to)

  pub memory_is : image_bytes base size file ≡ memory_of base size at bytes
  unfolding image_bytes
  memory_is =
      let long : length (map (image_byte file) (range_with_len base size)) ≡ size =
      length-map-range_with_len (image_byte file) base size in
      ext_get_or 0 (map (image_byte file) (range_with_len base size)) (memory_of base size at bytes)
      (long ∙ same_length)
      (λ i less. get_or-map-range_with_len (image_byte file) base size i (base + i) 0 (omega arith) refl
      ∙ at_index i (omega arith))

-- a program of one word in the default memory
pub one_word : IsInside 0 1_048_576 4_096 (115 ∷ 0 ∷ 0 ∷ 0 ∷ [])
one_word = record {
  memory = record {
    size_from = lit≤ tt;
    size_to = lit≤ tt;
    size_pages = refl;
    base_pages = refl;
    below_top = lit≤ tt;
  };
  aligned = refl;
  from = lit≤ tt;
  entry = lit≤ tt;
  to = lit≤ tt;
}
