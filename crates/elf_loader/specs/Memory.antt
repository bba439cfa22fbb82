-- What an image of a memory is.
use Rattle.std.specs.Prelude.{◌≡◌, ℕ, ◌+◌, ◌/◌, ◌%◌, ◌<◌, ◌≤◌, slice_index, vec_len, All, Contains}
use Rattle.std.specs.List.Sorted.{IsStrictlyIncreasing}
use Rattle.elf_loader.specs.declared.image.Image.{Image}

-- the image is one of the memory of `size` bytes from `base` on
pub record IsImage (base size : ℕ) (image : Image) : Type 0 where
  pub bytes : vec_len image.bytes ≡ size
  pub marked_rise : IsStrictlyIncreasing image.marked.items
  pub marked_below : All (λ line. line < size / 64) image.marked.items
  pub blank : (place : ℕ) → place < size → ¬ Contains image.marked.items (place / 64)
      → slice_index image.bytes.items place ≡ 0
  pub entry_aligned : image.entry % 4 ≡ 0
  pub entry_from : base ≤ image.entry
  pub entry_below : image.entry < base + size
  pub heap_from : base ≤ image.heap
  pub heap_to : image.heap ≤ base + size
