-- Words in a memory: the bytes of one, and the memory with another in its place.
use Rattle.std.proofs.Common.{◌≡◌, ◌∙◌, ℕ, zero, suc, ◌+◌, ◌*◌, ◌<◌, List, [], ◌∷◌, ◌++◌, length, take, drop, ap, refl}
use Rattle.std.proofs.Common.{arith, append_assoc}
use Rattle.std.specs.Prelude.{slice_index, slice_set}
use Rattle.std.specs.Int.{to_le_bytes, w32}
use Rattle.std.proofs.Math.Seq.{drop-append-add, take-append-add}
use Rattle.rv32_core.specs.Access.{slice_of, spliced}
use Rattle.rv32_asm.specs.File.{words}
use Rattle.generated_run.specs.States.{laid}

four_more : (k : ℕ) → 4 * suc k ≡ suc (suc (suc (suc (4 * k))))
four_more k = omega arith

module _ (back : List ℕ) where
  cell : (cells : List ℕ) (k : ℕ) → k < length cells
      → take 4 (drop (4 * k) (words cells ++ back)) ≡ to_le_bytes w32 (slice_index cells k)
  cell [] k inside = absurd (omega arith)
  cell (one ∷ cells) zero inside = refl
  cell (one ∷ cells) (suc k) inside =
      ap (λ n. take 4 (drop n (words (one ∷ cells) ++ back))) (four_more k) ∙ cell cells k (omega arith)

  replaced : (cells : List ℕ) (k value : ℕ) → k < length cells
      → spliced (words cells ++ back) (4 * k) (to_le_bytes w32 value) ≡ words (slice_set cells k value) ++ back
  replaced [] k value inside = absurd (omega arith)
  replaced (one ∷ cells) zero value inside = refl
  replaced (one ∷ cells) (suc k) value inside =
      let n : ℕ = 4 * k in
      let whole : List ℕ = words (one ∷ cells) ++ back in
      let more : suc (suc (suc (suc n))) + 4 ≡ suc (suc (suc (suc (n + 4)))) = omega arith in
      ap (λ m. spliced whole m (to_le_bytes w32 value)) (four_more k)
      ∙ ap (λ m. take (suc (suc (suc (suc n)))) whole ++ to_le_bytes w32 value ++ drop m whole) more
      ∙ ap (λ rest. to_le_bytes w32 one ++ rest) (replaced cells k value (omega arith))

pub cell_bytes : (front cells back : List ℕ) (k : ℕ) → k < length cells
    → slice_of (laid front cells back) (length front + 4 * k) 4 ≡ to_le_bytes w32 (slice_index cells k)
cell_bytes front cells back k inside =
    ap (take 4) (drop-append-add front (words cells ++ back) (4 * k)) ∙ cell back cells k inside

pub cell_replaced : (front cells back : List ℕ) (k value : ℕ) → k < length cells
    → spliced (laid front cells back) (length front + 4 * k) (to_le_bytes w32 value)
    ≡ laid front (slice_set cells k value) back
cell_replaced front cells back k value inside =
    let n : ℕ = 4 * k in
    let bytes : List ℕ = to_le_bytes w32 value in
    let rest : List ℕ = words cells ++ back in
    let further : (length front + n) + 4 ≡ length front + (n + 4) = omega arith in
    ap (λ taken. taken ++ bytes ++ drop ((length front + n) + 4) (front ++ rest)) (take-append-add front rest n)
    ∙ ap (λ m. (front ++ take n rest) ++ bytes ++ drop m (front ++ rest)) further
    ∙ ap (λ behind. (front ++ take n rest) ++ bytes ++ behind) (drop-append-add front rest (n + 4))
    ∙ ap (λ some. some ++ drop (n + 4) rest) (append_assoc front (take n rest) bytes)
    ∙ append_assoc front (take n rest ++ bytes) (drop (n + 4) rest)
    ∙ ap (λ some. front ++ some) (replaced back cells k value inside)
