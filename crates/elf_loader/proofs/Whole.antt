-- The image of a file without faults is one of the memory that it was asked for.
use Rattle.std.proofs.Common.{◌≡◌, ℕ, ◌+◌, ◌*◌, ◌/◌, ◌%◌, ◌≤◌, ◌<◌, inl, inr, List, ◌∷◌, ◌++◌, length, get_or, suc}
use Rattle.std.proofs.Common.{take, drop, refl, ap, ◌∙◌, subst, sym, arith, Bool, true, add-one, drop-cons, zero-add}
use Rattle.std.proofs.Common.{map}
use Rattle.std.specs.List.{filter, find, list_any, range_with_len, Contains, All}
use Rattle.std.specs.List.Sorted.{IsStrictlyIncreasing}
use Rattle.std.proofs.lemmas.Bool.{cases_lt, cases_eq}
use Rattle.std.proofs.lemmas.List.{take-append-drop}
use Rattle.std.proofs.lemmas.List.Elements.{All-filter, All-from_get_or, Contains-append_right, filter-append}
use Rattle.std.proofs.lemmas.List.FromFn.{length-range_with_len, get_or-range_with_len, length-map-range_with_len}
use Rattle.std.proofs.lemmas.List.FromFn.{get_or-map-range_with_len}
use Rattle.std.proofs.lemmas.List.Kept.{IsStrictlyIncreasing-filter}
use Rattle.elf_loader.specs.declared.fault.ElfFault.TheVariants.{Entry}
use Rattle.elf_loader.specs.declared.image.Image.{Image}
use Rattle.elf_loader.specs.Elf.{header_at, header_count, headers, entry_of}
use Rattle.elf_loader.specs.Faults.{IsFaultless}
use Rattle.elf_loader.specs.Layout.{byte_of, covers, end_of, first_break, greatest_end, image_byte, image_bytes}
use Rattle.elf_loader.specs.Layout.{marked_lines, takes_memory, touches}
use Rattle.asc_base.specs.Memory.{IsMemory}
use Rattle.elf_loader.specs.Memory.{IsImage}
use Rattle.elf_loader.proofs.Covered.{covers-touches}
use Rattle.elf_loader.proofs.Laid.{any_header, find_headers, fold_above, FoundIn, At, Nowhere}

rises : (a n : ℕ) → IsStrictlyIncreasing (range_with_len a n)
rises a n k below =
    let long : k + 1 < n = omega (arith, length-range_with_len a n) in
    let here : get_or (range_with_len a n) k 0 ≡ a + k = get_or-range_with_len a n k 0 (omega arith) in
    let next : get_or (range_with_len a n) (k + 1) 0 ≡ a + (k + 1) = get_or-range_with_len a n (k + 1) 0 long in
    omega arith

-- a number of the range that passes a test is among those that do
kept : (p : ℕ → Bool) (before after : List ℕ) (x : ℕ) → p x ≡ true → Contains (filter p (before ++ x ∷ after)) x
kept p before after x pass =
    rw (filter-append p before (x ∷ after), pass)
    (Contains-append_right (filter p before) (x ∷ filter p after) x (0, omega arith, refl))

range_kept : (p : ℕ → Bool) (n k : ℕ) → k < n → p k ≡ true → Contains (filter p (range_with_len 0 n)) k
range_kept p n k below pass =
    let xs : List ℕ = range_with_len 0 n in
    let long : k < length xs = omega (arith, length-range_with_len 0 n) in
    let here : get_or xs k 0 ≡ k = get_or-range_with_len 0 n k 0 below ∙ zero-add k in
    let rest : drop k xs ≡ k ∷ drop (k + 1) xs = rw add-one (drop-cons xs k 0 long
    ∙ ap (λ x. x ∷ drop (suc k) xs) here) in
    let split : xs ≡ take k xs ++ k ∷ drop (k + 1) xs =
    sym (take-append-drop k xs) ∙ ap (λ ys. take k xs ++ ys) rest in
    subst (λ ys. Contains (filter p ys) k) (sym split) (kept p (take k xs) (drop (k + 1) xs) k pass)

-- the bytes of the memory outside the marked lines are zeros
blank_outside : (base size : ℕ) (file : List ℕ) → IsMemory base size →
    (place : ℕ) → place < size → ¬ Contains (marked_lines base size file) (place / 64) →
    get_or (image_bytes base size file) place 0 ≡ 0
unfolding image_bytes image_byte marked_lines byte_of
blank_outside base size file memory place below unmarked =
    get_or-map-range_with_len (image_byte file) base size place (base + place) 0 below refl
    ∙ by_found (find_headers (λ h. covers h (base + place)) file (header_count file))
  where
    by_found : FoundIn (λ h. covers h (base + place)) file (header_count file)
        (find (λ h. covers h (base + place)) (headers file)) →
        byte_of file (base + place) (find (λ h. covers h (base + place)) (headers file)) ≡ 0
    by_found (At k within covered found) =
        let pages : size % 4096 ≡ 0 = memory.size_pages in
        let line : place / 64 < size / 64 = omega arith in
        let touched : touches (header_at file k) (base + 64 * (place / 64)) ≡ true =
        covers-touches (header_at file k) (base + 64 * (place / 64)) (base + place) (omega arith)
        (omega arith) covered in
        absurd (unmarked
        (range_kept (λ n. list_any (λ h. touches h (base + 64 * n)) (headers file)) (size / 64) (place / 64) line
        (any_header (λ h. touches h (base + 64 * (place / 64))) file (header_count file) k within touched)))
    by_found (Nowhere none found) = ap (byte_of file (base + place)) found

bytes_len : (base size : ℕ) (file : List ℕ) → length (image_bytes base size file) ≡ size
unfolding image_bytes
bytes_len base size file = length-map-range_with_len (image_byte file) base size

lines_rise : (base size : ℕ) (file : List ℕ) → IsStrictlyIncreasing (marked_lines base size file)
unfolding marked_lines
lines_rise base size file =
    IsStrictlyIncreasing-filter (λ line. list_any (λ h. touches h (base + 64 * line)) (headers file))
    (range_with_len 0 (size / 64)) (rises 0 (size / 64))

lines_below : (base size : ℕ) (file : List ℕ) → All (λ line. line < size / 64) (marked_lines base size file)
unfolding marked_lines
lines_below base size file =
    All-filter (λ line. list_any (λ h. touches h (base + 64 * line)) (headers file)) (λ line. line < size / 64)
    (range_with_len 0 (size / 64))
    (All-from_get_or (λ line. line < size / 64) (range_with_len 0 (size / 64)) 0
    (λ k below.
    let long : k < size / 64 = omega (arith, length-range_with_len 0 (size / 64)) in
    let here : get_or (range_with_len 0 (size / 64)) k 0
    ≡ k = get_or-range_with_len 0 (size / 64) k 0 long ∙ zero-add k in
    omega arith))

-- the first break is in the memory or at its end
break_from : (base size : ℕ) (file : List ℕ) → base ≤ greatest_end base (headers file)
    → base ≤ first_break base size file
unfolding first_break
break_from base size file from = omega arith

break_to : (base size : ℕ) (file : List ℕ) → first_break base size file ≤ base + size
unfolding first_break
break_to base size file = omega arith

end_above : (base : ℕ) (file : List ℕ) → base ≤ greatest_end base (headers file)
end_above base file = fold_above base (map end_of (filter takes_memory (headers file)))

pub faultless_image : (base size : ℕ) (file : List ℕ) (image : Image) → IsMemory base size
    → IsFaultless base size file →
    image.bytes.items ≡ image_bytes base size file → image.marked.items ≡ marked_lines base size file →
    image.entry ≡ entry_of file → image.heap ≡ first_break base size file → IsImage base size image
faultless_image base size file image memory faultless bytes marked entry heap = record {
  bytes = image.bytes.ok.0 ∙ ap length bytes ∙ bytes_len base size file;
  marked_rise = subst IsStrictlyIncreasing (sym marked) (lines_rise base size file);
  marked_below = subst (All (λ line. line < size / 64)) (sym marked) (lines_below base size file);
  blank = λ place below unmarked.
      ap (λ xs. get_or xs place 0) bytes
      ∙ blank_outside base size file memory place below
      (λ among. unmarked (subst (λ xs. Contains xs (place / 64)) (sym marked) among));
  entry_aligned = elim (cases_eq (entry_of file % 4) 0) [
    | inl aligned ↦ ap (λ n. n % 4) entry ∙ aligned
    | inr not ↦ absurd (faultless Entry (inl not))
  ];
  entry_from = elim (cases_lt (entry_of file) base) [
    | inl early ↦ absurd (faultless Entry (inr (inl early)))
    | inr from ↦ omega arith
  ];
  entry_below = elim (cases_lt (entry_of file) (base + size)) [
    | inl below ↦ omega arith
    | inr late ↦ absurd (faultless Entry (inr (inr late)))
  ];
  heap_from = let from : base ≤ first_break base size file = break_from base size file
      (end_above base file) in omega arith;
  heap_to = let to : first_break base size file ≤ base + size = break_to base size file in omega arith;
}
