-- The lines of a text, and what a line is made of: a comment behind it, a label in front, a statement.
use Rattle.std.specs.Prelude.{ℕ, suc, ◌+◌, ◌==◌, nat_lt, Bool, ◌&&◌, ◌||◌, not, if◌then◌else◌, List, [], ◌∷◌, length}
use Rattle.std.specs.Prelude.{take, drop, slice_index, Option, Some, None}
use Rattle.std.specs.List.{prefix_len}
use Rattle.rv32_asm.specs.Scanning.{is_blank, is_between, after_blanks}
use Rattle.rv32_asm.specs.declared.lines.Quote.{Quote}
use Rattle.rv32_asm.specs.declared.lines.Quote.TheVariants.{Outside, Inside, Escaped}

-- a byte in front of the first line of all
abbrev pub with_first : ℕ → List (List ℕ) → List (List ℕ)
with_first byte [] = (byte ∷ []) ∷ []
with_first byte (line ∷ lines) = (byte ∷ line) ∷ lines

-- The lines of a text, which line feeds end. A carriage return directly before a line feed is dropped.
abbrev pub lines_of : List ℕ → List (List ℕ)
lines_of [] = [] ∷ []
lines_of (byte ∷ bytes) =
    if byte == 10 then [] ∷ lines_of bytes
    else (if (byte == 13) && (slice_index bytes 0 == 10) then lines_of bytes else with_first byte (lines_of bytes))

-- a byte that a line may have
abbrev pub is_text_byte : ℕ → Bool
is_text_byte byte = is_between 32 126 byte || (byte == 9)

-- A double quote begins a quoted text and ends it; in it, a backslash takes the next byte with it.
abbrev pub quote_after : Quote → ℕ → Quote
quote_after Outside byte = if byte == 34 then Inside else Outside
quote_after Inside byte = if byte == 34 then Outside else (if byte == 92 then Escaped else Inside)
quote_after Escaped byte = Inside

-- where the first such byte outside of quoted text stands, or else the length
abbrev pub place_outside : ℕ → Quote → List ℕ → ℕ
place_outside stop quote [] = 0
place_outside stop Outside (byte ∷ bytes) =
    if byte == stop then 0 else suc (place_outside stop (quote_after Outside byte) bytes)
place_outside stop Inside (byte ∷ bytes) = suc (place_outside stop (quote_after Inside byte) bytes)
place_outside stop Escaped (byte ∷ bytes) = suc (place_outside stop (quote_after Escaped byte) bytes)

-- a line without its comment, which `#` begins
abbrev pub without_comment : List ℕ → List ℕ
without_comment line = take (place_outside 35 Outside line) line

-- A line without its comment: the label, which is what stands before the first colon, and the rest. Blanks in front of
-- both
-- are dropped.
pub record Parts : Type 0 where
  pub label : Option (List ℕ)
  pub rest : List ℕ

abbrev pub parts_at : List ℕ → ℕ → Parts
parts_at code colon =
    if nat_lt colon (length code)
    then record { label = Some (after_blanks (take colon code)); rest = after_blanks (drop (colon + 1) code) }
    else record { label = None; rest = after_blanks code }

abbrev pub parts_of : List ℕ → Parts
parts_of code = parts_at code (place_outside 58 Outside code)

-- how many bytes the word in front has: up to a blank
abbrev pub word_length : List ℕ → ℕ
word_length text = prefix_len (λ byte. not (is_blank byte)) text
