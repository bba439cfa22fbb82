-- The lines of an image that aren't marked are zeros, so the lines that are loaded make the image.
use Rattle.std.proofs.Common.{◌≡◌, ◌<◌, ◌+◌, ◌*◌, ◌/◌, ◌⊎◌, inl, inr, ℕ, zero, suc, List, [], ◌∷◌, length}
use Rattle.std.proofs.Common.{All, get_or, drop, replicate, refl, sym, ap, ◌∙◌, subst, arith}
use Rattle.std.specs.List.{Contains}
use Rattle.std.proofs.lemmas.Bool.{cases_eq}
use Rattle.std.proofs.lemmas.List.{get_or-take, get_or-drop}
use Rattle.asc_base.specs.Has.{Has}
use Rattle.data_cache.specs.CacheLists.{line_in}
use Rattle.elf_loader.specs.Memory.{IsImage}
use Rattle.elf_loader.specs.declared.image.Image.{Image}
use Rattle.encrypted_run.specs.Refined.{loaded}
use Rattle.encrypted_run.proofs.ImageLaws.{line_whole, loaded_is}
use Rattle.oram_contents.specs.Counts.{zero_line}

-- a number stands in a list, or is no item of it
has_or_not : (n : ℕ) (xs : List ℕ) → Has n xs ⊎ (¬ Contains xs n)
has_or_not n [] = inr (λ (k, below, is). absurd (omega (arith, below)))
has_or_not n (x ∷ xs) = elim (cases_eq n x) [
  | inl is ↦ inl (inl is)
  | inr other ↦ elim (has_or_not n xs) [
    | inl has ↦ inl (inr has)
    | inr none ↦ inr (λ (k, below, is). later k below is other none)
  ]
]
  where
    later : (k : ℕ) → k < length (x ∷ xs) → get_or (x ∷ xs) k n ≡ n → (n ≡ x → ⊥) → (¬ Contains xs n) → ⊥
    later zero below is other none = other (sym is)
    later (suc k) below is other none = none (k, omega (arith, below), is)

-- a list of zeros
all_zeros : (count : ℕ) (xs : List ℕ) → length xs ≡ count → ((k : ℕ) → k < count → get_or xs k 0 ≡ 0)
    → xs ≡ replicate count 0
all_zeros zero [] long zeros = refl
all_zeros zero (x ∷ xs) long zeros = absurd (omega (arith, long))
all_zeros (suc count) [] long zeros = absurd (omega (arith, long))
all_zeros (suc count) (x ∷ xs) long zeros =
    ap (λ y. y ∷ xs) (zeros 0 (omega arith))
    ∙ ap (λ ys. 0 ∷ ys) (all_zeros count xs (omega (arith, long)) (λ k below. zeros (suc k) (omega (arith, below))))

module _ (base count : ℕ) (image : Image) (is : IsImage base (64 * count) image)
    (long : length image.bytes.items ≡ 64 * count) where
  inside : All (λ line. line < count) image.marked.items
  inside = λ k d below. (let b = is.marked_below k d below in omega (arith, b))

  -- a line that isn't marked is zeros
  marked_or_zeros : (n : ℕ) → n < count → Has n image.marked.items ⊎ (line_in image.bytes.items n ≡ zero_line)
  unfolding zero_line
  marked_or_zeros n below = elim (has_or_not n image.marked.items) [
    | inl has ↦ inl has
    | inr none ↦ inr (all_zeros 64 (line_in image.bytes.items n)
        (line_whole image.bytes.items count long n below)
        (λ k within. get_or-take 64 (drop (64 * n) image.bytes.items) k 0 within
        ∙ (get_or-drop (64 * n) image.bytes.items k 0
        ∙ is.blank (64 * n + k) (omega (arith, below, within))
        (λ contains. none (subst (Contains image.marked.items)
        (let e : (64 * n + k) / 64 ≡ n = omega (arith, within) in e) contains)))))
  ]

  pub image_zeros : (n : ℕ) → n < count → Has n image.marked.items ⊎ (line_in image.bytes.items n ≡ replicate 64 0)
  unfolding zero_line
  image_zeros n below = marked_or_zeros n below

  -- the marked lines, written whole into zeros, make the image
  pub loaded_image : loaded image.bytes.items image.marked.items (replicate (64 * count) 0) ≡ image.bytes.items
  loaded_image = loaded_is image.bytes.items count long image.marked.items inside marked_or_zeros
