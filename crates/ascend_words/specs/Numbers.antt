-- The numbers of the command line: `0`, or a digit from 1 to 9 and at most nine more digits. Rates are one to sixteen
-- numbers with a comma between each two.
use Rattle.std.specs.Prelude.{ℕ, ◌-◌, List, [], ◌∷◌, ◌++◌, length, Bool, false, cond, not, ◌&&◌, ◌||◌, ◌==◌, nat_le}
use Rattle.std.specs.Prelude.{Option, Some, None, option_map, option_and_then, replicate}
use Rattle.std.specs.Char.{is_ascii_digit}
use Rattle.std.specs.List.{list_all}
use Rattle.std.specs.Str.Parse.{digits_value}
use Rattle.asc_base.specs.declared.settings.WideRates.{WideRates}

-- at most ten decimal digits, of which the first is `0` only where it stands alone
abbrev pub is_number : List ℕ → Bool
is_number [] = false
is_number (first ∷ more) =
    list_all is_ascii_digit (first ∷ more) && nat_le (length more) 9 && (not (first == 48) || length more == 0)

-- the number that is written so, where one is
unfoldable pub number_of : List ℕ → Option ℕ
number_of text = cond (is_number text) (Some (digits_value 10 text)) None

-- the same parts, where the first begins with one byte more
abbrev pub with_byte : ℕ → List (List ℕ) → List (List ℕ)
with_byte byte [] = (byte ∷ []) ∷ []
with_byte byte (part ∷ parts) = (byte ∷ part) ∷ parts

-- the parts of a text before, between and behind its commas
abbrev pub parts_of : List ℕ → List (List ℕ)
parts_of [] = [] ∷ []
parts_of (byte ∷ bytes) = cond (byte == 44) ([] ∷ parts_of bytes) (with_byte byte (parts_of bytes))

-- the numbers that are written so, where each part is one
abbrev pub numbers_of : List (List ℕ) → Option (List ℕ)
numbers_of [] = Some []
numbers_of (part ∷ parts) =
    option_and_then (λ number. option_map (λ more. number ∷ more) (numbers_of parts)) (number_of part)

-- the rates that are written so, where they are: at most sixteen numbers
unfoldable pub rates_of : List ℕ → Option (List ℕ)
rates_of text = cond (nat_le (length (parts_of text)) 16) (numbers_of (parts_of text)) None

-- at most sixteen rates, with zeros in the places that are left
abbrev pub wide_rates : List ℕ → WideRates
wide_rates rates = record { list = rates ++ replicate (16 - length rates) 0; count = length rates }
