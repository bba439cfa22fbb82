-- Where the program headers stand in a file without faults.
use Rattle.std.proofs.Common.{◌≡◌, ℕ, ◌+◌, ◌*◌, ◌≤◌, ◌<◌, ◌%◌, inl, inr, List, length, arith, [], ◌∷◌, get_or, ap}
use Rattle.std.proofs.Common.{subst, refl, sym, ◌∙◌}
use Rattle.std.proofs.lemmas.Bool.{cases_lt, cases_eq}
use Rattle.elf_loader.specs.Elf.{entry_of, header_at, header_count, header_offset}
use Rattle.elf_loader.specs.Faults.{HasNoTable, HasOtherEntry, HasTable, IsBadSegment, IsClearBefore, IsFault}
use Rattle.elf_loader.specs.Faults.{IsFaultless, IsFirstFault, IsInterpreter, IsLoad, IsOutside, IsReadable, IsShort}
use Rattle.elf_loader.specs.Faults.{OverlapsLower, index_of, place_of}
use Rattle.elf_loader.specs.declared.fault.ElfFault.{ElfFault}
use Rattle.elf_loader.specs.declared.fault.ElfFault.TheVariants.{Short, Magic, Class, Order, Version, FileType, Machine}
use Rattle.elf_loader.specs.declared.fault.ElfFault.TheVariants.{Compressed, HeaderSize, Table, Interp, Segment}
use Rattle.elf_loader.specs.declared.fault.ElfFault.TheVariants.{Outside, Overlap, Entry, NoMemory}

table : (file : List ℕ) → ¬ IsShort file → ¬ HasNoTable file → HasTable file
table file long tabled = record {
  long = elim (cases_lt (length file) 52) [ inl short ↦ absurd (long short) | inr fits ↦ fits ];
  few = elim (cases_lt 256 (header_count file)) [ inl many ↦ absurd (tabled (inl many)) | inr few ↦ few ];
  within = elim (cases_lt (length file) (header_offset file + 32 * header_count file)) [
    | inl late ↦ absurd (tabled (inr late))
    | inr to ↦ to
  ];
}

pub readable_table : (file : List ℕ) → IsReadable file → HasTable file
readable_table file readable =
    table file (readable 0 0 Short (omega arith)) (readable 0 0 Table (omega arith))

-- in a readable file each segment's part is whole
pub readable_sound : (file : List ℕ) (index : ℕ) → IsReadable file → index < header_count file
    → ¬ IsBadSegment file (header_at file index)
readable_sound file index readable below bad = readable 0 0 (Segment index) (omega arith) (below, bad)

pub readable_within : (file : List ℕ) (index : ℕ) → IsReadable file → index < header_count file
    → IsLoad (header_at file index) →
    (header_at file index).offset + (header_at file index).file_size ≤ length file
readable_within file index readable below load =
    elim (cases_lt (length file) ((header_at file index).offset + (header_at file index).file_size)) [
      | inl late ↦ absurd (readable_sound file index readable below (load, inr late))
      | inr to ↦ to
    ]

-- a file without faults is readable, since no fault up to Segment depends on the memory
pub faultless_readable : (base size : ℕ) (file : List ℕ) → IsFaultless base size file → IsReadable file
faultless_readable base size file faultless other more Short before fault = faultless Short fault
faultless_readable base size file faultless other more Magic before fault = faultless Magic fault
faultless_readable base size file faultless other more Class before fault = faultless Class fault
faultless_readable base size file faultless other more Order before fault = faultless Order fault
faultless_readable base size file faultless other more Version before fault = faultless Version fault
faultless_readable base size file faultless other more FileType before fault = faultless FileType fault
faultless_readable base size file faultless other more Machine before fault = faultless Machine fault
faultless_readable base size file faultless other more Compressed before fault = faultless Compressed fault
faultless_readable base size file faultless other more HeaderSize before fault = faultless HeaderSize fault
faultless_readable base size file faultless other more Table before fault = faultless Table fault
faultless_readable base size file faultless other more Interp before fault = faultless Interp fault
faultless_readable base size file faultless other more (Segment index) before fault = faultless (Segment index) fault
faultless_readable base size file faultless other more (Outside index) before fault = omega (arith, before)
faultless_readable base size file faultless other more (Overlap index) before fault = omega (arith, before)
faultless_readable base size file faultless other more Entry before fault = omega (arith, before)
faultless_readable base size file faultless other more NoMemory before fault = fault

pub faultless_table : (base size : ℕ) (file : List ℕ) → IsFaultless base size file → HasTable file
faultless_table base size file faultless = readable_table file (faultless_readable base size file faultless)

-- the fault of a kind's place with an index
abbrev at_place : ℕ → ℕ → ElfFault
at_place place index =
    get_or
    (Short ∷ Magic ∷ Class ∷ Order ∷ Version ∷ FileType ∷ Machine ∷ Compressed ∷ HeaderSize ∷ Table ∷ Interp
    ∷ Segment index ∷ Outside index ∷ Overlap index ∷ Entry ∷ [])
    place NoMemory

at_own_place : (fault : ElfFault) → at_place (place_of fault) (index_of fault) ≡ fault
at_own_place Short = refl
at_own_place Magic = refl
at_own_place Class = refl
at_own_place Order = refl
at_own_place Version = refl
at_own_place FileType = refl
at_own_place Machine = refl
at_own_place Compressed = refl
at_own_place HeaderSize = refl
at_own_place Table = refl
at_own_place Interp = refl
at_own_place (Segment index) = refl
at_own_place (Outside index) = refl
at_own_place (Overlap index) = refl
at_own_place Entry = refl
at_own_place NoMemory = refl

same_kind : (one other : ElfFault) → place_of one ≡ place_of other → at_place (place_of other) (index_of one) ≡ one
same_kind one other same = ap (λ place. at_place place (index_of one)) (sym same) ∙ at_own_place one

-- one kind more has no fault
clear_next : (base size : ℕ) (file : List ℕ) (kind next : ElfFault) → place_of next ≡ place_of kind + 1 →
    IsClearBefore base size file kind → ((index : ℕ) → ¬ IsFault base size file (at_place (place_of kind) index)) →
    IsClearBefore base size file next
clear_next base size file kind next follows clear none fault before = elim (cases_lt (place_of fault) (place_of kind)) [
  | inl earlier ↦ clear fault earlier
  | inr not ↦
      let same : place_of fault ≡ place_of kind = omega arith in
      subst (λ f. ¬ IsFault base size file f) (same_kind fault kind same) (none (index_of fault))
]

-- a fault of the first kind that has one, and of the least index
first_of : (base size : ℕ) (file : List ℕ) (fault : ElfFault) → IsClearBefore base size file fault →
    ((index : ℕ) → index < index_of fault → ¬ IsFault base size file (at_place (place_of fault) index)) →
    IsFault base size file fault → IsFirstFault base size file fault
first_of base size file fault clear lower present = record {
  present = present;
  first = λ other precedes. elim precedes [
    | inl earlier ↦ clear other earlier
    | inr same ↦ subst (λ f. ¬ IsFault base size file f) (same_kind other fault same.0) (lower (index_of other) same.1)
  ];
}

-- two faults that are named first are the same
pub one_first : (base size : ℕ) (file : List ℕ) (one other : ElfFault) → IsFirstFault base size file one →
    IsFirstFault base size file other → one ≡ other
one_first base size file one other first second = elim (cases_lt (place_of one) (place_of other)) [
  | inl earlier ↦ absurd (second.first one (inl earlier) first.present)
  | inr from ↦ elim (cases_lt (place_of other) (place_of one)) [
    | inl later ↦ absurd (first.first other (inl later) second.present)
    | inr to ↦
        let same : place_of one ≡ place_of other = omega arith in
        elim (cases_lt (index_of one) (index_of other)) [
          | inl lower ↦ absurd (second.first one (inr (same, lower)) first.present)
          | inr not_lower ↦ elim (cases_lt (index_of other) (index_of one)) [
            | inl higher ↦ absurd (first.first other (inr (sym same, higher)) second.present)
            | inr not_higher ↦
                let index : index_of one ≡ index_of other = omega arith in
                sym (same_kind one other same) ∙ ap (at_place (place_of other)) index ∙ at_own_place other
          ]
        ]
  ]
]

-- none of the program headers has one of these faults
pub record NoneSoFar (base size : ℕ) (file : List ℕ) : Type 0 where
  pub clear : IsClearBefore base size file Interp
  pub static : (index : ℕ) → index < header_count file → ¬ IsInterpreter (header_at file index)
  pub sound : (k : ℕ) → k < header_count file → ¬ IsBadSegment file (header_at file k)
  pub inside : (k : ℕ) → k < header_count file → ¬ IsOutside base size (header_at file k)

clear_overlap : (base size : ℕ) (file : List ℕ) → NoneSoFar base size file → IsClearBefore base size file (Overlap 0)
clear_overlap base size file none =
    let segment : IsClearBefore base size file (Segment 0) =
    clear_next base size file Interp (Segment 0) refl none.clear (λ index found. none.static found.0 found.1 found.2) in
    let outside : IsClearBefore base size file (Outside 0) =
    clear_next base size file (Segment 0) (Outside 0) refl segment (λ index found. none.sound index found.0 found.1) in
    clear_next base size file (Outside 0) (Overlap 0) refl outside (λ index found. none.inside index found.0 found.1)

pub first_overlap : (base size : ℕ) (file : List ℕ) (index : ℕ) → NoneSoFar base size file → index < header_count file →
    OverlapsLower file index → ((k : ℕ) → k < index → ¬ OverlapsLower file k)
    → IsFirstFault base size file (Overlap index)
first_overlap base size file index none below found least =
    first_of base size file (Overlap index) (clear_overlap base size file none)
    (λ k lower other. least k lower other.1) (below, found)

clear_entry : (base size : ℕ) (file : List ℕ) → NoneSoFar base size file →
    ((k : ℕ) → k < header_count file → ¬ OverlapsLower file k) → IsClearBefore base size file Entry
clear_entry base size file none apart =
    clear_next base size file (Overlap 0) Entry refl (clear_overlap base size file none)
    (λ index found. apart index found.0 found.1)

pub first_entry : (base size : ℕ) (file : List ℕ) → NoneSoFar base size file →
    ((k : ℕ) → k < header_count file → ¬ OverlapsLower file k) → HasOtherEntry base size file
    → IsFirstFault base size file Entry
first_entry base size file none apart found =
    first_of base size file Entry (clear_entry base size file none apart)
    (λ k lower. absurd (omega (arith, lower))) found

pub judged : (base size : ℕ) (file : List ℕ) → NoneSoFar base size file →
    ((k : ℕ) → k < header_count file → ¬ OverlapsLower file k) → ¬ HasOtherEntry base size file
    → IsFaultless base size file
judged base size file none apart right fault = by_fault fault
  where
    clear : IsClearBefore base size file NoMemory
    clear = clear_next base size file Entry NoMemory refl (clear_entry base size file none apart) (λ index. right)

    by_fault : (fault : ElfFault) → ¬ IsFault base size file fault
    by_fault Short = clear Short (omega arith)
    by_fault Magic = clear Magic (omega arith)
    by_fault Class = clear Class (omega arith)
    by_fault Order = clear Order (omega arith)
    by_fault Version = clear Version (omega arith)
    by_fault FileType = clear FileType (omega arith)
    by_fault Machine = clear Machine (omega arith)
    by_fault Compressed = clear Compressed (omega arith)
    by_fault HeaderSize = clear HeaderSize (omega arith)
    by_fault Table = clear Table (omega arith)
    by_fault Interp = clear Interp (omega arith)
    by_fault (Segment index) = clear (Segment index) (omega arith)
    by_fault (Outside index) = clear (Outside index) (omega arith)
    by_fault (Overlap index) = clear (Overlap index) (omega arith)
    by_fault Entry = clear Entry (omega arith)
    by_fault NoMemory = λ never. never

-- an address is an entry, or it isn't a multiple of four in the memory
pub other_entry : (base size : ℕ) (file : List ℕ) →
    ¬ ((entry_of file % 4 ≡ 0) × (base ≤ entry_of file) × (entry_of file < base + size)) → HasOtherEntry base size file
other_entry base size file wrong = elim (cases_eq (entry_of file % 4) 0) [
  | inl aligned ↦ elim (cases_lt (entry_of file) base) [
    | inl early ↦ inr (inl early)
    | inr from ↦ elim (cases_lt (entry_of file) (base + size)) [
      | inl below ↦ absurd (wrong (aligned, from, below))
      | inr late ↦ inr (inr late)
    ]
  ]
  | inr odd ↦ inl odd
]

pub right_entry : (base size : ℕ) (file : List ℕ) →
    (entry_of file % 4 ≡ 0) × (base ≤ entry_of file) × (entry_of file < base + size) → ¬ HasOtherEntry base size file
right_entry base size file right (inl odd) = odd right.0
right_entry base size file right (inr (inl early)) = let no : ⊥ = omega (arith, early, right.1) in no
right_entry base size file right (inr (inr late)) = let no : ⊥ = omega (arith, late, right.2) in no
