-- The lines of a file's segments, one after another.
use Rattle.std.proofs.Common.{◌≡◌, ◌∙◌, ℕ, ◌+◌, ◌<◌, ◌≤◌, List, [], ◌∷◌, ◌++◌, length, drop, append_assoc, ap, sym}
use Rattle.std.proofs.Common.{refl, arith, append-nil, min, Bool, true, false}
use Rattle.std.specs.Int.{from_le_bytes, w32}
use Rattle.std.specs.Prelude.{slice_index, nat_lt, if◌then◌else◌}
use Rattle.std.specs.List.{flat_map}
use Rattle.std.proofs.lemmas.Grind.{flat_map-append}
use Rattle.std.proofs.lemmas.Bool.{ltb-true, ltb-false}
use Rattle.std.proofs.lemmas.List.FromFn.{map-range_with_len_more}
use Rattle.elf_loader.specs.Elf.{first_headers, header_at, header_count}
use Rattle.ascend_top.specs.Disasm.{lines_of, listing_of, segment_lines, word_line}

-- the lines of the segments of the indices below a number
abbrev pub listed : List ℕ → ℕ → List ℕ
listed file index = flat_map (segment_lines file) (first_headers file (min index (header_count file)))

-- the lines of the segment of an index, if it is one
abbrev pub lines_at : List ℕ → ℕ → List ℕ
lines_at file index = if nat_lt index (header_count file) then segment_lines file (header_at file index) else []

module _ (file : List ℕ) (index : ℕ) where
  more : (less : Bool) → nat_lt index (header_count file) ≡ less
      → listed file (index + 1) ≡ listed file index ++ (if less then segment_lines file (header_at file index) else [])
  more true is =
      let below : index < header_count file = ltb-true index (header_count file) is in
      let now : min index (header_count file) ≡ index = omega arith in
      let next : min (index + 1) (header_count file) ≡ index + 1 = omega arith in
      ap (λ n. flat_map (segment_lines file) (first_headers file n)) next
      ∙ ap (flat_map (segment_lines file)) (map-range_with_len_more (header_at file) 0 index index (omega arith))
      ∙ flat_map-append (segment_lines file) (first_headers file index) (header_at file index ∷ [])
      ∙ ap (λ lines. flat_map (segment_lines file) (first_headers file index) ++ lines)
      (append-nil (segment_lines file (header_at file index)))
      ∙ ap (λ n. flat_map (segment_lines file) (first_headers file n)
      ++ segment_lines file (header_at file index)) (sym now)
  more false is =
      let beyond : header_count file ≤ index = ltb-false index (header_count file) is in
      let same : min (index + 1) (header_count file) ≡ min index (header_count file) = omega arith in
      ap (λ n. flat_map (segment_lines file) (first_headers file n)) same ∙ sym (append-nil (listed file index))

  -- the lines of one segment more
  pub listed_more : listed file (index + 1) ≡ listed file index ++ lines_at file index
  listed_more = more (nat_lt index (header_count file)) refl

-- all of them
pub listed_all : (file : List ℕ) → header_count file ≤ 256 → listed file 256 ≡ listing_of file
unfolding listing_of
listed_all file few =
    let all : min 256 (header_count file) ≡ header_count file = omega arith in
    ap (λ n. flat_map (segment_lines file) (first_headers file n)) all

-- a line more, and the lines of what follows its four bytes
pub lines_step : (address number : ℕ) (rest before now all : List ℕ) → 4 ≤ length rest
    → number ≡ from_le_bytes w32 (slice_index rest 0 ∷ slice_index rest 1 ∷ slice_index rest 2 ∷
    slice_index rest 3 ∷ [])
    → now ≡ before ++ word_line address number → before ++ lines_of address rest ≡ all
    → now ++ lines_of (address + 4) (drop 4 rest) ≡ all
lines_step address number [] before now all long is line whole = absurd (omega arith)
lines_step address number (one ∷ []) before now all long is line whole = absurd (omega arith)
lines_step address number (one ∷ two ∷ []) before now all long is line whole = absurd (omega arith)
lines_step address number (one ∷ two ∷ three ∷ []) before now all long is line whole = absurd (omega arith)
lines_step address number (one ∷ two ∷ three ∷ four ∷ rest) before now all long is line whole =
    ap (λ n. n ++ lines_of (address + 4) rest) (line ∙ ap (λ n. before ++ word_line address n) is)
    ∙ append_assoc before (word_line address (from_le_bytes w32 (one ∷ two ∷ three ∷ four ∷ [])))
    (lines_of (address + 4) rest)
    ∙ whole

-- four parts appended in turn
pub appended : (old a b c d one two three new : List ℕ) → one ≡ old ++ a → two ≡ one ++ b → three ≡ two ++ c
    → new ≡ three ++ d → new ≡ old ++ (a ++ (b ++ (c ++ d)))
appended old a b c d one two three new first second third fourth =
    fourth ∙ ap (λ n. n ++ d) (third ∙ ap (λ n. n ++ c) (second ∙ ap (λ n. n ++ b) first)) ∙ simp append_assoc
