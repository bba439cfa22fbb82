-- What the code's parts of a line are.
use Rattle.std.specs.Prelude.{ℕ, ◌-◌, ◌==◌, not, if◌then◌else◌, List, [], length, take, slice_index, Option, Some, None}
use Rattle.std.specs.Prelude.{option_map}
use Rattle.std.specs.Borrow.{Bor}
use Rattle.std.specs.List.{prefix_len}
use Rattle.rv32_asm.specs.Lines.{lines_of, Parts}

-- the lines that follow
abbrev pub lines_from : Option (Bor (List ℕ)) → List (List ℕ)
lines_from (Some text) = lines_of text.now
lines_from None = []

abbrev pub parts_view : Option (Bor (List ℕ)) × Bor (List ℕ) → Parts
parts_view found = record { label = option_map (λ label. label.now) found.0; rest = found.1.now }

-- how many bytes stand before the first line feed, or all
abbrev pub line_end : List ℕ → ℕ
line_end text = prefix_len (λ byte. not (byte == 10)) text

-- a line without the carriage return at its end
abbrev pub without_return : List ℕ → List ℕ
without_return line =
    if slice_index line (length line - 1) == 13 then take (length line - 1) line else line
