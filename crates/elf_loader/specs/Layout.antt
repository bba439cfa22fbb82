-- The memory that a file describes (System V gABI, "Program Loading").
use Rattle.std.specs.Prelude.{ℕ, ◌+◌, ◌-◌, ◌*◌, ◌/◌, min, max, Bool, true, false, ◌&&◌, ◌==◌, nat_lt, nat_le, ◌≡◌, ◌<◌}
use Rattle.std.specs.Prelude.{length, Option, None, Some, List, map, filter, slice_index}
use Rattle.std.specs.List.{find, fold, list_any, range_with_len}
use Rattle.std.specs.Int.{next_multiple_of}
use Rattle.elf_loader.specs.declared.header.ProgramHeader.{ProgramHeader}
use Rattle.elf_loader.specs.Elf.{headers}

-- whether the `m` bytes from `a` on and the `n` bytes from `b` on have a byte in common
abbrev pub meets : ℕ → ℕ → ℕ → ℕ → Bool
meets a m b n = nat_lt (max a b) (min (a + m) (b + n))

-- whether the header is a PT_LOAD
abbrev pub is_load : ProgramHeader → Bool
is_load header = header.kind == 1

-- whether the address has a byte of the file part of this segment
abbrev pub covers : ProgramHeader → ℕ → Bool
covers header address =
    is_load header && nat_le header.address address && nat_lt address (header.address + header.file_size)

-- the byte of the segment that has the address
abbrev pub byte_at : List ℕ → ProgramHeader → ℕ → ℕ
byte_at file header address = slice_index file (header.offset + (address - header.address))

-- the byte of the file part that has the address; a byte that no file part has is 0
unfoldable pub byte_of : List ℕ → ℕ → Option ProgramHeader → ℕ
byte_of file address None = 0
byte_of file address (Some header) = byte_at file header address

unfoldable pub image_byte : List ℕ → ℕ → ℕ
image_byte file address = byte_of file address (find (λ header. covers header address) (headers file))

-- the memory of `size` bytes from `base` on: zeros, with each file part in its place
unfoldable pub image_bytes : ℕ → ℕ → List ℕ → List ℕ
image_bytes base size file = map (image_byte file) (range_with_len base size)

-- whether the line of 64 bytes from an address on has a byte of the file part of this segment
abbrev pub touches : ProgramHeader → ℕ → Bool
touches header address = is_load header && meets header.address header.file_size address 64

-- the numbers of the lines of 64 bytes, counted from `base`, that have a byte of a file part
unfoldable pub marked_lines : ℕ → ℕ → List ℕ → List ℕ
marked_lines base size file =
    filter (λ line. list_any (λ header. touches header (base + 64 * line)) (headers file))
    (range_with_len 0 (size / 64))

-- whether a segment is a PT_LOAD that takes memory
abbrev pub takes_memory : ProgramHeader → Bool
takes_memory header = is_load header && nat_lt 0 header.memory_size

-- the end of a segment in the memory
abbrev pub end_of : ProgramHeader → ℕ
end_of header = header.address + header.memory_size

-- the greatest end of these that are PT_LOADs and take memory, and `base` where there is none
abbrev pub greatest_end : ℕ → List ProgramHeader → ℕ
greatest_end base some = fold max base (map end_of (filter takes_memory some))

-- where the heap begins: the least multiple of 16 not below any end of a segment that takes memory, but at most the
-- memory's end
unfoldable pub first_break : ℕ → ℕ → List ℕ → ℕ
first_break base size file = min (next_multiple_of (greatest_end base (headers file)) 16) (base + size)

-- the bytes from `base` on have the segment's file part in its place, and are the old ones elsewhere
pub record IsPlaced (base : ℕ) (file : List ℕ) (header : ProgramHeader) (old new : List ℕ) : Type 0 where
  pub len : length new ≡ length old
  pub part : (place : ℕ) → place < length old → covers header (base + place) ≡ true →
      slice_index new place ≡ byte_at file header (base + place)
  pub rest : (place : ℕ) → place < length old → covers header (base + place) ≡ false →
      slice_index new place ≡ slice_index old place
