-- File parts in their places among zeros are the memory that a file describes.
use Rattle.std.proofs.Common.{◌≡◌, ℕ, ◌+◌, ◌≤◌, ◌<◌, inl, inr, List, [], ◌∷◌, ◌++◌, length, get_or, map, replicate}
use Rattle.std.proofs.Common.{refl, ap, ◌∙◌, sym, subst, arith, Bool, true, false, cond, Some, None, Option, zero, suc}
use Rattle.std.proofs.Common.{add-one, zero-add, append-nil, ◌&&◌, ◌==◌, nat_le, nat_lt, max}
use Rattle.std.specs.List.{filter, find, fold, list_any, range_with_len}
use Rattle.std.specs.Option.{option_or}
use Rattle.std.proofs.lemmas.Bool.{cases_lt}
use Rattle.std.proofs.lemmas.Bool.Decides.{nat_tests}
use Rattle.std.proofs.lemmas.Grind.{same_number_lists}
use Rattle.std.proofs.lemmas.List.{get_or-replicate, length-replicate, map-append}
use Rattle.std.proofs.lemmas.List.Folds.{find-append, list_any_at, list_any_none}
use Rattle.std.proofs.lemmas.List.Elements.{All-from_get_or}
use Rattle.std.proofs.lemmas.List.Sums.{fold-append}
use Rattle.std.proofs.lemmas.List.FromFn.{length-map-range_with_len, get_or-map-range_with_len, map-range_with_len_more}
use Rattle.std.proofs.lemmas.List.FromFn.{filter_of_map_range_with_len_more}
use Rattle.elf_loader.specs.declared.header.ProgramHeader.{ProgramHeader}
use Rattle.elf_loader.specs.Elf.{header_at, header_count, first_headers, headers}
use Rattle.elf_loader.specs.Faults.{IsBadSegment, IsFaultless, IsOutside, ShareMemory}
use Rattle.elf_loader.specs.declared.fault.ElfFault.TheVariants.{Segment, Outside, Overlap}
use Rattle.elf_loader.specs.Layout.{byte_at, byte_of, covers, end_of, greatest_end, image_byte, image_bytes}
use Rattle.elf_loader.specs.Layout.{takes_memory, IsPlaced}
use Rattle.elf_loader.proofs.Covered.{common_meets}

-- the bytes of a memory of `size` bytes from `base` on once the parts of the first `count` headers are in their places
pub record IsLaidOutTo (base size : ℕ) (file : List ℕ) (count : ℕ) (bytes : List ℕ) : Type 0 where
  pub len : length bytes ≡ size
  pub part : (k place : ℕ) → k < count → place < size → covers (header_at file k) (base + place) ≡ true →
      get_or bytes place 0 ≡ byte_at file (header_at file k) (base + place)
  pub blank : (place : ℕ) → place < size → ((k : ℕ) → k < count → covers (header_at file k) (base + place) ≡ false) →
      get_or bytes place 0 ≡ 0

pub laid_none : (base size : ℕ) (file bytes : List ℕ) → bytes ≡ replicate size 0 → IsLaidOutTo base size file 0 bytes
laid_none base size file bytes zeros = record {
  len = ap length zeros ∙ length-replicate size 0;
  part = λ k place below. absurd (omega (arith, below));
  blank = λ place below free. ap (λ xs. get_or xs place 0) zeros ∙ get_or-replicate size place 0 0 below;
}

-- an address that two segments cover is one of memory that both take
shared : (k v n m l w o p x : ℕ) → n ≤ m → o ≤ p → (k == 1 && nat_le v x && nat_lt x (v + n)) ≡ true →
    (l == 1 && nat_le w x && nat_lt x (w + o)) ≡ true →
    (k ≡ 1) × (l ≡ 1) × (v ≤ x) × (x < v + m) × (w ≤ x) × (x < w + p)
shared k v n m l w o p x fits more one other = (
  grind (arith, nat_tests),
  grind (arith, nat_tests),
  grind (arith, nat_tests),
  grind (arith, nat_tests),
  grind (arith, nat_tests),
  grind (arith, nat_tests),
)

load_of : (k v n x : ℕ) → (k == 1 && nat_le v x && nat_lt x (v + n)) ≡ true → k ≡ 1
load_of k v n x covered = grind (arith, nat_tests)

pub part_fits : (file : List ℕ) (header : ProgramHeader) → header.kind ≡ 1 → ¬ IsBadSegment file header →
    header.file_size ≤ header.memory_size
part_fits file header load sound =
    elim (cases_lt header.memory_size header.file_size) [
      | inl more ↦ absurd (sound (load, inl more))
      | inr fits ↦ fits
    ]

-- what a file without faults has of each header
pub sound_at : (base size : ℕ) (file : List ℕ) (index : ℕ) (header : ProgramHeader) → IsFaultless base size file →
    index < header_count file → header ≡ header_at file index → ¬ IsBadSegment file header
sound_at base size file index header faultless below same bad =
    faultless (Segment index) (below, subst (λ h. IsBadSegment file h) same bad)

pub inside_at : (base size n : ℕ) (file : List ℕ) (index : ℕ) (header : ProgramHeader) → IsFaultless base size file →
    index < header_count file → header ≡ header_at file index → n ≡ size → ¬ IsOutside base n header
inside_at base size n file index header faultless below same long out =
    faultless (Outside index) (
      below,
      subst (λ h. IsOutside base size h) same
          (subst (λ m. IsOutside base m header) long out),
    )

taking : (k m : ℕ) → (k == 1 && nat_lt 0 m) ≡ true → (k ≡ 1) × (0 < m)
taking k m takes = (grind (arith, nat_tests), grind (arith, nat_tests))

pub ends_inside : (base size : ℕ) (file : List ℕ) (index : ℕ) (header : ProgramHeader) → IsFaultless base size file →
    index < header_count file → header ≡ header_at file index → takes_memory header ≡ true → end_of header ≤ base + size
ends_inside base size file index header faultless below same takes =
    let t = taking header.kind header.memory_size takes in
    elim (cases_lt (base + size) (end_of header)) [
      | inl late ↦ absurd (inside_at base size size file index header faultless below same refl (t.0, t.1, inr late))
      | inr to ↦ to
    ]

both_cover : (file : List ℕ) (one other : ProgramHeader) (x : ℕ) → ¬ IsBadSegment file one → ¬ IsBadSegment file other →
    covers one x ≡ true → covers other x ≡ true → ShareMemory one other
both_cover file one other x sound whole first second =
    let a : one.kind ≡ 1 = load_of one.kind one.address one.file_size x first in
    let b : other.kind ≡ 1 = load_of other.kind other.address other.file_size x second in
    let s = shared one.kind one.address one.file_size one.memory_size other.kind other.address other.file_size
    other.memory_size x
    (part_fits file one a sound) (part_fits file other b whole) first second in (
      a,
      b,
      common_meets one.address one.memory_size other.address other.memory_size x
          s.2 s.3 s.4 s.5,
    )

-- at most one segment covers an address
apart : (base size : ℕ) (file : List ℕ) (k index x : ℕ) → IsFaultless base size file → k < index
    → index < header_count file →
    covers (header_at file k) x ≡ true → covers (header_at file index) x ≡ false
apart base size file k index x faultless lower below first = by_test (covers (header_at file index) x) refl
  where
    by_test : (b : Bool) → covers (header_at file index) x ≡ b → b ≡ false
    by_test true second = absurd (faultless (Overlap index) (
      below,
      (
        k,
        lower,
        both_cover file (header_at file index) (header_at file k) x
            (λ bad. faultless (Segment index) (below, bad))
            (λ bad. faultless (Segment k) (omega arith, bad)) second first,
      ),
    ))
    by_test false second = refl

pub laid_more : (base size : ℕ) (file : List ℕ) (index : ℕ) (old new : List ℕ) → IsFaultless base size file →
    index < header_count file → IsLaidOutTo base size file index old
    → IsPlaced base file (header_at file index) old new →
    IsLaidOutTo base size file (index + 1) new
laid_more base size file index old new faultless below laid placed = record {
  len = placed.len ∙ laid.len;
  part = λ k place before within covered. elim (cases_lt k index) [
    | inl lower ↦
        placed.rest place (omega (arith, laid.len))
        (apart base size file k index (base + place) faultless lower below covered)
        ∙ laid.part k place lower within covered
    | inr not ↦
        let same : k ≡ index = omega arith in
        subst (λ j. covers (header_at file j) (base + place) ≡ true
        → get_or new place 0 ≡ byte_at file (header_at file j) (base + place))
        (sym same) (placed.part place (omega (arith, laid.len))) covered
  ];
  blank = λ place within free.
      placed.rest place (omega (arith, laid.len)) (free index (omega arith))
      ∙ laid.blank place within (λ k lower. free k (omega arith));
}

pub fold_above : (base : ℕ) (ends : List ℕ) → base ≤ fold max base ends
fold_above base [] = omega arith
fold_above base (x ∷ xs) = let more : max base x ≤ fold max (max base x) xs = fold_above (max base x) xs in omega arith

-- the first header that passes a test, if one does
pub data FoundIn (p : ProgramHeader → Bool) (file : List ℕ) (count : ℕ) (found : Option ProgramHeader) : Type 0 where
  At : (k : ℕ) → k < count → p (header_at file k) ≡ true → found ≡ Some (header_at file k) → FoundIn p file count found
  Nowhere : ((k : ℕ) → k < count → p (header_at file k) ≡ false) → found ≡ None → FoundIn p file count found

find_last : (p : ProgramHeader → Bool) (file : List ℕ) (n : ℕ) →
    find p (first_headers file (n + 1)) ≡ option_or (find p (first_headers file n))
    (cond (p (header_at file n)) (Some (header_at file n)) None)
find_last p file n =
    ap (find p) (map-range_with_len_more (header_at file) 0 n n (zero-add n))
    ∙ find-append p (first_headers file n) (header_at file n ∷ [])

pub find_headers : (p : ProgramHeader → Bool) (file : List ℕ) (n : ℕ) → FoundIn p file n (find p (first_headers file n))
find_headers p file zero = Nowhere (λ k below. absurd (omega (arith, below))) refl
find_headers p file (suc n) = more (find_headers p file n) (p (header_at file n)) refl
  where
    last : find p (first_headers file (suc n)) ≡ option_or (find p (first_headers file n))
        (cond (p (header_at file n)) (Some (header_at file n)) None)
    last = rw add-one at (find_last p file n)

    more : FoundIn p file n (find p (first_headers file n)) → (b : Bool) → p (header_at file n) ≡ b
        → FoundIn p file (suc n) (find p (first_headers file (suc n)))
    more (At k below pass found) b is = At k (omega arith) pass (rw (last, found) refl)
    more (Nowhere none found) true is = At n (omega arith) is (rw (last, found, is) refl)
    more (Nowhere none found) false is =
        Nowhere (λ k below. elim (cases_lt k n) [
          | inl lower ↦ none k lower
          | inr not ↦ let same : k ≡ n = omega arith in subst (λ j. p (header_at file j) ≡ false) (sym same) is
        ]) (rw (last, found, is) refl)

-- the byte of an address, once all parts are in their places
laid_byte : (base size : ℕ) (file bytes : List ℕ) (place : ℕ) → IsLaidOutTo base size file (header_count file) bytes
    → place < size →
    get_or bytes place 0 ≡ image_byte file (base + place)
unfolding image_byte byte_of
laid_byte base size file bytes place laid below =
    by_found (find_headers (λ h. covers h (base + place)) file (header_count file))
  where
    by_found : FoundIn (λ h. covers h (base + place)) file (header_count file)
        (find (λ h. covers h (base + place)) (headers file)) →
        get_or bytes place 0 ≡ byte_of file (base + place) (find (λ h. covers h (base + place)) (headers file))
    by_found (At k within pass found) = laid.part k place within below pass
        ∙ sym (ap (byte_of file (base + place)) found)
    by_found (Nowhere none found) = laid.blank place below none ∙ sym (ap (byte_of file (base + place)) found)

pub laid_bytes : (base size : ℕ) (file bytes : List ℕ) → IsLaidOutTo base size file (header_count file) bytes →
    bytes ≡ image_bytes base size file
unfolding image_bytes
laid_bytes base size file bytes laid =
    same_number_lists bytes (map (image_byte file) (range_with_len base size))
    (laid.len ∙ sym (length-map-range_with_len (image_byte file) base size))
    (λ k below.
    let within : k < size = omega (arith, laid.len) in
    laid_byte base size file bytes k laid within
    ∙ sym (get_or-map-range_with_len (image_byte file) base size k (base + k) 0 within refl))

-- whether a header passes a test
pub any_header : (p : ProgramHeader → Bool) (file : List ℕ) (count k : ℕ) → k < count → p (header_at file k) ≡ true →
    list_any p (first_headers file count) ≡ true
any_header p file count k below pass =
    let long : k < length (first_headers file count) = omega
    (arith, length-map-range_with_len (header_at file) 0 count) in
    let here : get_or (first_headers file count) k (header_at file k) ≡ header_at file k =
    get_or-map-range_with_len (header_at file) 0 count k k (header_at file k) below (zero-add k) in
    list_any_at p (first_headers file count) k (header_at file k) long (ap p here ∙ pass)

pub no_header : (p : ProgramHeader → Bool) (file : List ℕ) (count : ℕ)
    → ((k : ℕ) → k < count → p (header_at file k) ≡ false) →
    list_any p (first_headers file count) ≡ false
no_header p file count none =
    list_any_none p (first_headers file count)
    (All-from_get_or (λ h. p h ≡ false) (first_headers file count) (header_at file 0)
    (λ k long.
    let below : k < count = omega (arith, length-map-range_with_len (header_at file) 0 count) in
    ap p (get_or-map-range_with_len (header_at file) 0 count k k (header_at file 0) below (zero-add k)) ∙ none k below))

-- the greatest end with one header more
end_if : (base : ℕ) (some : List ProgramHeader) (header : ProgramHeader) (b : Bool) →
    fold max base (map end_of (some ++ cond b (header ∷ []) []))
    ≡ max (fold max base (map end_of some)) (cond b (end_of header) base)
end_if base some header true =
    ap (fold max base) (map-append end_of some (header ∷ []))
    ∙ fold-append max base (map end_of some) (end_of header ∷ [])
end_if base some header false =
    let from : base ≤ fold max base (map end_of some) = fold_above base (map end_of some) in
    ap (λ hs. fold max base (map end_of hs)) (append-nil some) ∙ omega arith

pub end_more : (base : ℕ) (file : List ℕ) (index : ℕ) →
    greatest_end base (first_headers file (index + 1))
    ≡ max (greatest_end base (first_headers file index))
    (cond (takes_memory (header_at file index)) (end_of (header_at file index)) base)
end_more base file index =
    ap (λ hs. fold max base (map end_of hs)) (filter_of_map_range_with_len_more takes_memory
    (header_at file) 0 index index (zero-add index))
    ∙ end_if base (filter takes_memory (first_headers file index)) (header_at file index)
    (takes_memory (header_at file index))

cond_to : (base size end : ℕ) (b : Bool) → (b ≡ true → end ≤ base + size) → cond b end base ≤ base + size
cond_to base size end true inside = inside refl
cond_to base size end false inside = omega arith

-- the greatest end after one header more
pub end_step : (base size : ℕ) (file : List ℕ) (index end next : ℕ) (header : ProgramHeader)
    → IsFaultless base size file →
    index < header_count file → header ≡ header_at file index → next ≡ cond (takes_memory header) (end_of header) base →
    end ≡ greatest_end base (first_headers file index) → end ≤ base + size →
    (max end next ≡ greatest_end base (first_headers file (index + 1))) × (max end next ≤ base + size)
end_step base size file index end next header faultless below same is greatest to =
    let own : next ≡ cond (takes_memory (header_at file index)) (end_of (header_at file index)) base =
    is ∙ ap (λ h. cond (takes_memory h) (end_of h) base) same in
    let inside : next ≤ base + size =
    subst (λ n. n ≤ base + size) (sym is)
    (cond_to base size (end_of header) (takes_memory header)
    (ends_inside base size file index header faultless below same)) in (
      ap (λ e. max e next) greatest ∙ ap (max (greatest_end base (first_headers file index))) own
          ∙ sym (end_more base file index),
      omega arith,
    )
