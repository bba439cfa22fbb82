-- The smallest parts of a line: blanks, names, registers and numbers. A part is read from the front of a text, and what
-- follows it is left.
use Rattle.std.specs.Prelude.{ℕ, ◌+◌, ◌*◌, ◌==◌, nat_lt, nat_le, ℤ, pos, neg_ℤ, Bool, ◌&&◌, ◌||◌, if◌then◌else◌, List}
use Rattle.std.specs.Prelude.{[], ◌∷◌, length, take, drop, slice_index, Option, Some, None, option_map, codes, position}
use Rattle.std.specs.Prelude.{bytes_eq}
use Rattle.std.specs.List.{list_all, prefix_len}
use Rattle.std.specs.Char.{digit_value}

-- a space or a tab
abbrev pub is_blank : ℕ → Bool
is_blank byte = (byte == 32) || (byte == 9)

abbrev pub is_between : ℕ → ℕ → ℕ → Bool
is_between low high byte = nat_le low byte && nat_le byte high

-- a letter or `_`
abbrev pub begins_name : ℕ → Bool
begins_name byte = is_between 97 122 byte || is_between 65 90 byte || (byte == 95)

-- a letter, a digit or `_`
abbrev pub goes_on_name : ℕ → Bool
goes_on_name byte = begins_name byte || is_between 48 57 byte

-- A name begins with a letter or `_` and goes on with letters, digits and `_`, at most 64.
abbrev pub is_name : List ℕ → Bool
is_name text = begins_name (slice_index text 0) && (nat_le (length text) 64 && list_all goes_on_name text)

-- a byte of a register, a number or a label
abbrev pub is_part : ℕ → Bool
is_part byte = goes_on_name byte || (byte == 45)

-- how many blanks stand in front
abbrev pub blank_length : List ℕ → ℕ
blank_length text = prefix_len is_blank text

-- the text behind its blanks
abbrev pub after_blanks : List ℕ → List ℕ
after_blanks text = drop (blank_length text) text

-- how many bytes of a register, a number or a label stand in front
abbrev pub part_length : List ℕ → ℕ
part_length text = prefix_len is_part text

-- the registers, in the order of their numbers
unfoldable pub numbered : List (List ℕ)
numbered =
    codes "x0" ∷ codes "x1" ∷ codes "x2" ∷ codes "x3" ∷ codes "x4" ∷ codes "x5" ∷ codes "x6" ∷ codes "x7"
    ∷ codes "x8" ∷ codes "x9" ∷ codes "x10" ∷ codes "x11" ∷ codes "x12" ∷ codes "x13" ∷ codes "x14" ∷ codes "x15"
    ∷ codes "x16" ∷ codes "x17" ∷ codes "x18" ∷ codes "x19" ∷ codes "x20" ∷ codes "x21" ∷ codes "x22" ∷ codes "x23"
    ∷ codes "x24" ∷ codes "x25" ∷ codes "x26" ∷ codes "x27" ∷ codes "x28" ∷ codes "x29" ∷ codes "x30" ∷ codes "x31"
    ∷ []

-- the same by their use (RISC-V psABI, Register Convention)
unfoldable pub named : List (List ℕ)
named =
    codes "zero" ∷ codes "ra" ∷ codes "sp" ∷ codes "gp" ∷ codes "tp" ∷ codes "t0" ∷ codes "t1" ∷ codes "t2"
    ∷ codes "s0" ∷ codes "s1" ∷ codes "a0" ∷ codes "a1" ∷ codes "a2" ∷ codes "a3" ∷ codes "a4" ∷ codes "a5"
    ∷ codes "a6" ∷ codes "a7" ∷ codes "s2" ∷ codes "s3" ∷ codes "s4" ∷ codes "s5" ∷ codes "s6" ∷ codes "s7"
    ∷ codes "s8" ∷ codes "s9" ∷ codes "s10" ∷ codes "s11" ∷ codes "t3" ∷ codes "t4" ∷ codes "t5" ∷ codes "t6"
    ∷ []

abbrev pub either : {A : Type 0} → Option A → Option A → Option A
either (Some x) other = Some x
either None other = other

-- A register, by its number, by its use, or `fp` for s0.
abbrev pub register_of : List ℕ → Option ℕ
register_of text =
    if bytes_eq text (codes "fp") then Some 8
    else either (position (λ name. bytes_eq name text) numbered) (position (λ name. bytes_eq name text) named)

-- the number that digits are, after a number so far
abbrev pub digits_after : ℕ → ℕ → List ℕ → Option ℕ
digits_after radix number [] = Some number
digits_after radix number (byte ∷ bytes) =
    if nat_lt (digit_value byte) radix then digits_after radix (number * radix + digit_value byte) bytes else None

-- the number that one digit or more are, at most so many
abbrev pub digits_of : ℕ → ℕ → List ℕ → Option ℕ
digits_of radix most text =
    if nat_le 1 (length text) && nat_le (length text) most then digits_after radix 0 text else None

-- the same as a whole number
abbrev pub natural : ℕ → ℕ → List ℕ → Option ℤ
natural radix most text = option_map pos (digits_of radix most text)

-- A number is decimal with an optional `-`, at most ten digits, or `0x` and one to eight hexadecimal digits.
abbrev pub number_of : List ℕ → Option ℤ
number_of text =
    if slice_index text 0 == 45 then option_map neg_ℤ (natural 10 10 (drop 1 text))
    else (if bytes_eq (take 2 text) (codes "0x") then natural 16 8 (drop 2 text) else natural 10 10 text)
