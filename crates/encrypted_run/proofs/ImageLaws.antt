-- Lines of an image that are written whole into zeros make the image.
use Rattle.std.proofs.Common.{◌≡◌, ◌<◌, ◌+◌, ◌-◌, ◌*◌, ◌⊎◌, inl, inr, ℕ, zero, suc, List, [], ◌∷◌, ◌++◌, length}
use Rattle.std.proofs.Common.{All, take, drop, replicate, sym, ap, ◌∙◌, arith}
use Rattle.std.proofs.lemmas.Bool.{cases_eq}
use Rattle.std.proofs.lemmas.List.{length-take-le, length-drop, length-replicate, take-append-drop, drop-replicate}
use Rattle.std.proofs.lemmas.List.{take-replicate}
use Rattle.std.proofs.lemmas.List.{nil_from_length, drop-drop}
use Rattle.asc_base.specs.Has.{Has}
use Rattle.oram_contents.specs.Counts.{zero_line}
use Rattle.rv32_core.specs.Access.{spliced, length-spliced}
use Rattle.data_cache.specs.CacheLists.{line_in}
use Rattle.data_cache.proofs.Parts.{line-patched, other-patched}
use Rattle.encrypted_run.specs.Refined.{loaded}

-- each line of zeros is zeros
pub zeros_in : (count n : ℕ) → n < count → line_in (replicate (64 * count) 0) n ≡ zero_line
unfolding zero_line
zeros_in count n below =
    ap (take 64) (drop-replicate (64 * n) (64 * count) 0) ∙ take-replicate 64 (64 * count - 64 * n) 0 (omega arith)

-- bytes whose lines are the same are the same
pub by_lines : (count : ℕ) (xs ys : List ℕ) → length xs ≡ 64 * count → length ys ≡ 64 * count
    → ((n : ℕ) → n < count → line_in xs n ≡ line_in ys n) → xs ≡ ys
by_lines zero xs ys a b same = nil_from_length xs (omega arith) ∙ sym (nil_from_length ys (omega arith))
by_lines (suc count) xs ys a b same =
    let rest : drop 64 xs ≡ drop 64 ys = by_lines count (drop 64 xs) (drop 64 ys)
    (length-drop 64 xs ∙ omega arith) (length-drop 64 ys ∙ omega arith)
    (λ n below. later xs n ∙ (same (n + 1) (omega arith) ∙ sym (later ys n))) in
    sym (take-append-drop 64 xs) ∙ (ap (λ front. front ++ drop 64 xs) (same 0 (omega arith))
    ∙ (ap (λ back. take 64 ys ++ back) rest ∙ take-append-drop 64 ys))
  where
    later : (list : List ℕ) (n : ℕ) → line_in (drop 64 list) n ≡ line_in list (n + 1)
    later list n =
        let sum : 64 + 64 * n ≡ 64 * (n + 1) = omega arith in
        ap (take 64) (drop-drop (64 * n) 64 list ∙ ap (λ k. drop k list) sum)

-- the first of a list, and all behind it
pub all_first : (P : ℕ → Type 0) (x : ℕ) (xs : List ℕ) → All P (x ∷ xs) → P x
all_first P x xs all = all 0 x (omega arith)

pub all_rest : (P : ℕ → Type 0) (x : ℕ) (xs : List ℕ) → All P (x ∷ xs) → All P xs
all_rest P x xs all = λ k d below. all (suc k) d (omega arith)

module _ (image : List ℕ) (count : ℕ) (long : length image ≡ 64 * count) where
  -- a line of the image has 64 bytes
  pub line_whole : (line : ℕ) → line < count → length (line_in image line) ≡ 64
  line_whole line below = length-take-le 64 (drop (64 * line) image) (omega (arith, length-drop (64 * line) image))

  length-loaded : (marked : List ℕ) (memory : List ℕ) → All (λ line. line < count) marked
      → length memory ≡ 64 * count → length (loaded image marked memory) ≡ 64 * count
  length-loaded [] memory inside whole = whole
  length-loaded (line ∷ marked) memory inside whole =
      let first = all_first (λ n. n < count) line marked inside in
      let others = all_rest (λ n. n < count) line marked inside in
      length-loaded marked (spliced memory (64 * line) (line_in image line)) others
      (length-spliced memory (64 * line) (line_in image line) (omega (arith, line_whole line first, first)) ∙ whole)

  -- a line that is as in the image stays so, and one that is written becomes so
  loaded_line : (marked : List ℕ) (memory : List ℕ) → All (λ line. line < count) marked → length memory ≡ 64 * count
      → (n : ℕ) → n < count → Has n marked ⊎ (line_in memory n ≡ line_in image n)
      → line_in (loaded image marked memory) n ≡ line_in image n
  loaded_line [] memory inside whole n below (inl has) = absurd has
  loaded_line [] memory inside whole n below (inr same) = same
  loaded_line (line ∷ marked) memory inside whole n below written =
      loaded_line marked after others
      (length-spliced memory (64 * line) (line_in image line) (omega (arith, line_whole line first, first))
      ∙ whole) n below
      (by_case (cases_eq n line) written)
    where
      first : line < count
      first = all_first (λ k. k < count) line marked inside

      others : All (λ k. k < count) marked
      others = all_rest (λ k. k < count) line marked inside

      after : List ℕ
      after = spliced memory (64 * line) (line_in image line)

      here : line_in after line ≡ line_in image line
      here = line-patched memory line (line_in image line) (line_whole line first) (omega (arith, whole, first))

      by_case : (n ≡ line) ⊎ (n ≡ line → ⊥) → Has n (line ∷ marked) ⊎ (line_in memory n ≡ line_in image n)
          → Has n marked ⊎ (line_in after n ≡ line_in image n)
      by_case (inl is) w = inr (ap (line_in after) is ∙ (here ∙ ap (line_in image) (sym is)))
      by_case (inr other) (inl (inl is)) = absurd (other is)
      by_case (inr other) (inl (inr later)) = inl later
      by_case (inr other) (inr same) = inr (other-patched memory line n (line_in image line) (line_whole line first)
          (omega (arith, whole, first)) other ∙ same)

  -- the whole image, where what isn't written is zeros
  pub loaded_is : (marked : List ℕ) → All (λ line. line < count) marked
      → ((n : ℕ) → n < count → Has n marked ⊎ (line_in image n ≡ zero_line))
      → loaded image marked (replicate (64 * count) 0) ≡ image
  loaded_is marked inside zeros =
      by_lines count (loaded image marked (replicate (64 * count) 0)) image
      (length-loaded marked (replicate (64 * count) 0) inside (length-replicate (64 * count) 0)) long
      (λ n below. loaded_line marked (replicate (64 * count) 0) inside (length-replicate (64 * count) 0) n below
      (elim (zeros n below) [
        | inl has ↦ inl has
        | inr is ↦ inr (zeros_in count n below ∙ sym is)
      ]))
