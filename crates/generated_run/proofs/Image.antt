-- The memory that the loader gives a file of words: zeros, the words from the program's start on, and zeros.
use Rattle.std.proofs.Common.{◌≡◌, ◌∙◌, ℕ, zero, suc, ◌+◌, ◌-◌, ◌*◌, ◌^◌, ◌<◌, ◌≤◌, List, [], ◌∷◌, ◌++◌, length, map}
use Rattle.std.proofs.Common.{replicate, ap, refl, arith, length-append, Bool, true, false}
use Rattle.std.specs.Prelude.{nat_le, nat_lt, ◌&&◌, cond, Some, None, slice_index}
use Rattle.std.specs.List.{find, range_with_len}
use Rattle.std.specs.Int.{to_le_bytes, w32}
use Rattle.std.proofs.lemmas.Bool.{le-leb, lt-ltb, lt-leb, le-ltb}
use Rattle.std.proofs.lemmas.List.{get_or-append-add}
use Rattle.std.proofs.lemmas.Nat.{from_le_bytes-to_le_bytes_4}
use Rattle.elf_loader.specs.declared.header.ProgramHeader.{ProgramHeader}
use Rattle.elf_loader.specs.Elf.{half, word, header_from, header_at, header_count, entry_of, headers}
use Rattle.elf_loader.specs.Layout.{covers, byte_of, image_byte, image_bytes}
use Rattle.rv32_asm.specs.File.{words, elf_header, program_header, file_of}
use Rattle.rv32_asm.specs.Generator.{start}

-- what a function of addresses gives over a range
module _ (f : ℕ → ℕ) where
  range-append : (a m n : ℕ)
      → map f (range_with_len a (m + n)) ≡ map f (range_with_len a m) ++ map f (range_with_len (a + m) n)
  range-append a zero n =
      let none : 0 + n ≡ n = omega arith in
      let same : a ≡ a + 0 = omega arith in
      ap (λ m. map f (range_with_len a m)) none ∙ ap (λ b. map f (range_with_len b n)) same
  range-append a (suc m) n =
      let more : suc m + n ≡ suc (m + n) = omega arith in
      let same : (a + 1) + m ≡ a + suc m = omega arith in
      ap (λ k. map f (range_with_len a k)) more
      ∙ ap (λ rest. f a ∷ rest) (range-append (a + 1) m n)
      ∙ ap (λ b. f a ∷ (map f (range_with_len (a + 1) m) ++ map f (range_with_len b n))) same

  range_zeros : (a n : ℕ) → ((i : ℕ) → i < n → f (a + i) ≡ 0) → map f (range_with_len a n) ≡ replicate n 0
  range_zeros a zero each = refl
  range_zeros a (suc n) each =
      let same : a ≡ a + 0 = omega arith in
      let next : (i : ℕ) → (a + 1) + i ≡ a + suc i = λ i. omega arith in
      ap (λ first. first ∷ map f (range_with_len (a + 1) n)) (ap f same ∙ each 0 (omega arith))
      ∙ ap (λ rest. 0 ∷ rest) (range_zeros (a + 1) n (λ i less. ap f (next i) ∙ each (suc i) (omega arith)))

  range_list : (a : ℕ) (xs : List ℕ) → ((i : ℕ) → i < length xs → f (a + i) ≡ slice_index xs i)
      → map f (range_with_len a (length xs)) ≡ xs
  range_list a [] each = refl
  range_list a (x ∷ xs) each =
      let same : a ≡ a + 0 = omega arith in
      let next : (i : ℕ) → (a + 1) + i ≡ a + suc i = λ i. omega arith in
      ap (λ first. first ∷ map f (range_with_len (a + 1) (length xs))) (ap f same ∙ each 0 (omega arith))
      ∙ ap (λ rest. x ∷ rest) (range_list (a + 1) xs (λ i less. ap f (next i) ∙ each (suc i) (omega arith)))

pub length_words : (cells : List ℕ) → length (words cells) ≡ 4 * length cells
length_words [] = refl
length_words (cell ∷ cells) = omega (arith, length-append (to_le_bytes w32 cell) (words cells), length_words cells)

module _ (bytes : List ℕ) (small : length bytes < 2 ^ 32) where
  abbrev pub file : List ℕ
  file = file_of start bytes

  abbrev pub header : ProgramHeader
  header = record {
    kind = 1;
    offset = 84;
    address = start;
    file_size = length bytes;
    memory_size = length bytes;
    flags = 7;
  }

  pub count_is : header_count (file_of start bytes) ≡ 1
  unfolding half
  count_is = refl

  pub entry_is : entry_of (file_of start bytes) ≡ start
  unfolding word
  entry_is = refl

  pub header_is : header_at file 0 ≡ header
  unfolding half word header_from
  header_is =
      ap (λ n. let h : ProgramHeader = record {
        kind = 1;
        offset = 84;
        address = start;
        file_size = n;
        memory_size = n;
        flags = 7;
      } in h) (from_le_bytes-to_le_bytes_4 (length bytes) small)

  headers_are : headers file ≡ header ∷ []
  unfolding half
  headers_are = ap (λ h. h ∷ []) header_is

  -- the byte of an address, by whether the segment covers it
  by_test : ℕ → Bool → ℕ
  by_test address test = byte_of file address (cond test (Some header) None)

  byte_is : (address : ℕ) → image_byte file address ≡ by_test address (covers header address)
  unfolding image_byte by_test
  byte_is address = ap (λ hs. byte_of file address (find (λ h. covers h address) hs)) headers_are

  front_bytes : List ℕ
  front_bytes = elf_header start ++ program_header start (length bytes)

  not_below : (address : ℕ) → address < start → covers header address ≡ false
  not_below address less =
      ap (λ test. test && nat_lt address (start + length bytes)) (lt-leb start address less)

  not_above : (address : ℕ) → start + length bytes ≤ address → covers header address ≡ false
  not_above address more =
      ap (λ test. nat_le start address && test) (le-ltb address (start + length bytes) more)
      ∙ never (nat_le start address)
    where
      never : (test : Bool) → (test && false) ≡ false
      never true = refl
      never false = refl

  in_segment : (i : ℕ) → i < length bytes → covers header (start + i) ≡ true
  in_segment i less =
      ap (λ test. test && nat_lt (start + i) (start + length bytes)) (le-leb start (start + i) (omega arith))
      ∙ lt-ltb (start + i) (start + length bytes) (omega arith)

  zero_of : (address : ℕ) → covers header address ≡ false → image_byte file address ≡ 0
  unfolding by_test byte_of
  zero_of address none = byte_is address ∙ ap (by_test address) none

  byte_in : (i : ℕ) → i < length bytes → image_byte file (start + i) ≡ slice_index bytes i
  unfolding by_test byte_of
  byte_in i less =
      let same : (start + i) - start ≡ i = omega arith in
      byte_is (start + i) ∙ ap (by_test (start + i)) (in_segment i less)
      ∙ ap (λ n. slice_index file (84 + n)) same
      ∙ get_or-append-add (elf_header start ++ program_header start (length bytes)) bytes i 0

  pub image_is : (base size : ℕ) → base ≤ start → start + length bytes ≤ base + size
      → image_bytes base size (file_of start bytes)
      ≡ replicate (start - base) 0 ++ (bytes ++ replicate ((base + size) - (start + length bytes)) 0)
  unfolding image_bytes
  image_is base size low high =
      let f : ℕ → ℕ = image_byte file in
      let front : ℕ = start - base in
      let back : ℕ = (base + size) - (start + length bytes) in
      let parts : size ≡ front + (length bytes + back) = omega arith in
      let at : base + front ≡ start = omega arith in
      ap (λ n. map f (range_with_len base n)) parts
      ∙ range-append f base front (length bytes + back)
      ∙ ap (λ a. map f (range_with_len base front) ++ map f (range_with_len a (length bytes + back))) at
      ∙ ap (λ rest. map f (range_with_len base front) ++ rest) (range-append f start (length bytes) back)
      ∙ ap (λ zeros. zeros ++ (map f (range_with_len start (length bytes))
      ++ map f (range_with_len (start + length bytes) back)))
      (range_zeros f base front (λ i less. zero_of (base + i) (not_below (base + i) (omega arith))))
      ∙ ap (λ some. replicate front 0 ++ (some ++ map f (range_with_len (start + length bytes) back)))
      (range_list f start bytes byte_in)
      ∙ ap (λ zeros. replicate front 0 ++ (bytes ++ zeros))
      (range_zeros f (start + length bytes) back
      (λ i less. zero_of (start + length bytes + i) (not_above (start + length bytes + i) (omega arith))))
