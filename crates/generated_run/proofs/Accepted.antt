-- The loader accepts a file of words exactly in a memory that they fit in.
use Rattle.std.proofs.Common.{◌≡◌, ◌∙◌, ℕ, zero, suc, ◌+◌, ◌^◌, ◌<◌, ◌≤◌, inl, inr, List, length, ap, sym, refl, subst}
use Rattle.std.proofs.Common.{arith}
use Rattle.std.proofs.lemmas.Bool.{cases_lt}
use Rattle.elf_loader.specs.declared.fault.ElfFault.{ElfFault}
use Rattle.elf_loader.specs.declared.fault.ElfFault.TheVariants.{Short, Magic, Class, Order, Version, FileType, Machine}
use Rattle.elf_loader.specs.declared.fault.ElfFault.TheVariants.{Compressed, HeaderSize, Table, Interp, Segment}
use Rattle.elf_loader.specs.declared.fault.ElfFault.TheVariants.{Outside, Overlap, Entry, NoMemory}
use Rattle.elf_loader.specs.declared.header.ProgramHeader.{ProgramHeader}
use Rattle.elf_loader.specs.Elf.{half, word, header_at, header_count}
use Rattle.elf_loader.specs.Faults.{IsFaultless, IsFault, IsOutside, IsBadSegment}
use Rattle.rv32_asm.specs.File.{file_of}
use Rattle.rv32_asm.specs.Generator.{start}
use Rattle.generated_run.proofs.Image.{header, header_is}

module _ (base size : ℕ) (bytes : List ℕ) (small : length bytes < 2 ^ 32) (some : 0 < length bytes) where
  abbrev file : List ℕ
  file = file_of start bytes

  long : length file ≡ 84 + length bytes
  long = omega arith

  -- there is one program header
  at_header : (index : ℕ) → index < header_count file → header_at file index ≡ header bytes small
  unfolding half
  at_header zero less = header_is bytes small
  at_header (suc index) less = let none : suc index < 1 = less in absurd (omega (arith, none))

  outside : IsFaultless base size (file_of start bytes) → ¬ IsOutside base size (header bytes small)
  unfolding half
  outside faultless is =
      let P : ProgramHeader → Type 0 = λ h. IsOutside base size h in
      faultless (Outside 0) (omega arith, subst P (sym (header_is bytes small)) is)

  pub low_of : IsFaultless base size (file_of start bytes) → base ≤ start
  low_of faultless =
      elim (cases_lt start base) [
        | inl below ↦ absurd (outside faultless (refl, some, inl below))
        | inr fits ↦ fits
      ]

  pub high_of : IsFaultless base size (file_of start bytes) → start + length bytes ≤ base + size
  high_of faultless =
      elim (cases_lt (base + size) (start + length bytes)) [
        | inl above ↦ absurd (outside faultless (refl, some, inr above))
        | inr fits ↦ fits
      ]

  module _ (low : base ≤ start) (high : start + length bytes ≤ base + size) where
    accepted : (fault : ElfFault) → ¬ IsFault base size file fault
    unfolding half word
    accepted Short short = absurd (omega (arith, long, short))
    accepted Magic other = absurd (cc)
    accepted Class other = other refl
    accepted Order other = other refl
    accepted Version other = other refl
    accepted FileType other = other refl
    accepted Machine other = other refl
    accepted Compressed flag = flag refl
    accepted HeaderSize other = other.1 refl
    accepted Table none = elim none [
      | inl many ↦ let above : 256 < 1 = many in absurd (omega (arith, above))
      | inr cut ↦ let above : length file < 84 = cut in absurd (omega (arith, long, above))
    ]
    accepted Interp (index, less, kind) =
        let other : 1 ≡ 3 = sym (ap (λ (h : ProgramHeader). h.kind) (at_header index less)) ∙ kind in
        absurd (omega (arith, other))
    accepted (Segment index) (less, bad) =
        let P : ProgramHeader → Type 0 = λ h. IsBadSegment file h in
        elim ((subst P (at_header index less) bad).1) [
          | inl more ↦ absurd (omega (arith, more))
          | inr cut ↦ absurd (omega (arith, long, cut))
        ]
    accepted (Outside index) (less, is) =
        let P : ProgramHeader → Type 0 = λ h. IsOutside base size h in
        elim ((subst P (at_header index less) is).2) [
          | inl below ↦ absurd (omega (arith, low, below))
          | inr above ↦ absurd (omega (arith, high, above))
        ]
    accepted (Overlap index) (less, shared) =
        let one : index < 1 = less in absurd (omega (arith, one, shared.1))
    accepted Entry other = elim other [
      | inl misaligned ↦ absurd (misaligned refl)
      | inr (inl below) ↦ absurd (omega (arith, low, below))
      | inr (inr above) ↦ absurd (omega (arith, high, some, above))
    ]
    accepted NoMemory none = none

    pub faultless : IsFaultless base size (file_of start bytes)
    faultless = accepted
