-- The first line of a text, and the lines behind it.
use Rattle.std.proofs.Common.{◌≡◌, ℕ, suc, ◌+◌, ◌-◌, ◌<◌, List, [], ◌∷◌, ◌∙◌, ap, sym, refl, take, drop, length, arith}
use Rattle.std.proofs.Common.{Bool, true, false}
use Rattle.std.specs.Prelude.{◌==◌, ◌&&◌, not, cond, if◌then◌else◌, slice_index}
use Rattle.std.proofs.lemmas.Grind.{common_steps}
use Rattle.rv32_asm.specs.Lines.{lines_of, with_first}
use Rattle.rv32_asm.specs.LineViews.{line_end, without_return}

-- a byte in front of a line that has bytes
without_return-cons : (byte next : ℕ) (bytes : List ℕ)
    → without_return (byte ∷ next ∷ bytes) ≡ byte ∷ without_return (next ∷ bytes)
without_return-cons byte next bytes =
    rw (outer, inner) (chosen (slice_index (next ∷ bytes) (length bytes) == 13))
  where
    outer : length (byte ∷ next ∷ bytes) - 1 ≡ suc (length bytes)
    outer = omega arith

    inner : length (next ∷ bytes) - 1 ≡ length bytes
    inner = omega arith

    chosen : (last : Bool) → (if last then byte ∷ take (length bytes) (next ∷ bytes) else byte ∷ next ∷ bytes)
        ≡ byte ∷ (if last then take (length bytes) (next ∷ bytes) else next ∷ bytes)
    chosen true = refl
    chosen false = refl

-- a byte that is no carriage return, alone
without_return-one : (byte : ℕ) (test : Bool) → (test && true) ≡ false → (if test then [] else byte ∷ []) ≡ byte ∷ []
without_return-one byte true differ = absurd (cc)
without_return-one byte false differ = refl

more : (n : ℕ) → 1 + n ≡ suc n
more n = omega arith

-- a byte that is no line feed, and no carriage return before one
kept : (byte : ℕ) (bytes : List ℕ) → line_end bytes < length bytes
    → ((byte == 13) && (slice_index bytes 0 == 10)) ≡ false
    → without_return (byte ∷ take (line_end bytes) bytes) ≡ byte ∷ without_return (take (line_end bytes) bytes)
kept byte [] inside differ = absurd (omega arith)
kept byte (next ∷ bytes) inside differ = chosen (next == 10) differ
  where
    chosen : (feed : Bool) → ((byte == 13) && feed) ≡ false
        → without_return (byte ∷ take (cond (not feed) (1 + line_end bytes) 0) (next ∷ bytes))
        ≡ byte ∷ without_return (take (cond (not feed) (1 + line_end bytes) 0) (next ∷ bytes))
    chosen true e = without_return-one byte (byte == 13) e
    chosen false e = rw (more (line_end bytes)) (without_return-cons byte next (take (line_end bytes) bytes))

and_false : (b : Bool) → (b && false) ≡ true → ⊥
and_false true e = absurd (cc)
and_false false e = absurd (cc)

never : (b : Bool) → (b && false) ≡ false
never true = refl
never false = refl

-- a carriage return, alone
without_return-return : (byte : ℕ) (test : Bool) → (test && true) ≡ true → (if test then [] else byte ∷ []) ≡ []
without_return-return byte true e = refl
without_return-return byte false e = absurd (cc)

-- what stands behind a carriage return before a line feed
returned : (byte : ℕ) (bytes : List ℕ) → line_end bytes < length bytes
    → ((byte == 13) && (slice_index bytes 0 == 10)) ≡ true
    → without_return (byte ∷ take (line_end bytes) bytes) ≡ without_return (take (line_end bytes) bytes)
returned byte [] inside same = absurd (omega arith)
returned byte (next ∷ bytes) inside same = chosen (next == 10) same
  where
    chosen : (feed : Bool) → ((byte == 13) && feed) ≡ true
        → without_return (byte ∷ take (cond (not feed) (1 + line_end bytes) 0) (next ∷ bytes))
        ≡ without_return (take (cond (not feed) (1 + line_end bytes) 0) (next ∷ bytes))
    chosen true e = without_return-return byte (byte == 13) e
    chosen false e = absurd (and_false (byte == 13) e)

-- the lines of a text that a byte is put in front of
abbrev Split : List ℕ → Type 0
Split text =
    line_end text < length text
    → lines_of text ≡ without_return (take (line_end text) text) ∷ lines_of (drop (suc (line_end text)) text)

one_more : (byte : ℕ) (bytes : List ℕ) → Split bytes → (feed : Bool)
    → cond (not feed) (1 + line_end bytes) 0 < length (byte ∷ bytes)
    → (if feed then [] ∷ lines_of bytes
    else (if (byte == 13) && (slice_index bytes 0 == 10) then lines_of bytes else with_first byte (lines_of bytes)))
    ≡ without_return (take (cond (not feed) (1 + line_end bytes) 0) (byte ∷ bytes))
    ∷ lines_of (drop (cond (not feed) (1 + line_end bytes) 0) bytes)
one_more byte bytes split true inside = refl
one_more byte bytes split false inside =
    rw (more (line_end bytes)) (behind ((byte == 13) && (slice_index bytes 0 == 10)) refl)
  where
    below : line_end bytes < length bytes
    below = omega arith

    behind : (test : Bool) → ((byte == 13) && (slice_index bytes 0 == 10)) ≡ test
        → (if test then lines_of bytes else with_first byte (lines_of bytes))
        ≡ without_return (byte ∷ take (line_end bytes) bytes) ∷ lines_of (drop (suc (line_end bytes)) bytes)
    behind true e =
        split below
        ∙ ap (λ line. line ∷ lines_of (drop (suc (line_end bytes)) bytes)) (sym (returned byte bytes below e))
    behind false e =
        ap (with_first byte) (split below)
        ∙ ap (λ line. line ∷ lines_of (drop (suc (line_end bytes)) bytes)) (sym (kept byte bytes below e))

pub first_of_lines : (text : List ℕ) → line_end text < length text
    → lines_of text ≡ without_return (take (line_end text) text) ∷ lines_of (drop (suc (line_end text)) text)
first_of_lines [] inside = absurd (omega arith)
first_of_lines (byte ∷ bytes) inside = one_more byte bytes (first_of_lines bytes) (byte == 10) inside

-- no line feed stands in front where there is none
no_feed : (bytes : List ℕ) → line_end bytes ≡ length bytes → (slice_index bytes 0 == 10) ≡ false
no_feed [] e = refl
no_feed (next ∷ bytes) e = chosen (next == 10) e
  where
    chosen : (feed : Bool) → cond (not feed) (1 + line_end bytes) 0 ≡ suc (length bytes) → feed ≡ false
    chosen true e = absurd (omega arith)
    chosen false e = refl

other : {A : Type 0} (test : Bool) (x y : A) → test ≡ false → (if test then x else y) ≡ y
other test x y e = rw e refl

last_more : (byte : ℕ) (bytes : List ℕ) → (line_end bytes ≡ length bytes → lines_of bytes ≡ bytes ∷ [])
    → (feed : Bool) → cond (not feed) (1 + line_end bytes) 0 ≡ suc (length bytes)
    → (if feed then [] ∷ lines_of bytes
    else (if (byte == 13) && (slice_index bytes 0 == 10) then lines_of bytes else with_first byte (lines_of bytes)))
    ≡ (byte ∷ bytes) ∷ []
last_more byte bytes last true e = absurd (omega arith)
last_more byte bytes last false e =
    let all : line_end bytes ≡ length bytes = omega arith in
    let test : ((byte == 13) && (slice_index bytes 0 == 10)) ≡ false =
    ap (λ feed. (byte == 13) && feed) (no_feed bytes all) ∙ never (byte == 13) in
    other ((byte == 13) && (slice_index bytes 0 == 10)) (lines_of bytes) (with_first byte (lines_of bytes)) test
    ∙ ap (with_first byte) (last all)

pub last_of_lines : (text : List ℕ) → line_end text ≡ length text → lines_of text ≡ text ∷ []
last_of_lines [] e = refl
last_of_lines (byte ∷ bytes) e = last_more byte bytes (last_of_lines bytes) (byte == 10) e

-- a slice's rest
pub rest_from : (text : List ℕ) (count : ℕ) → take (length text - (count + 1)) (drop (count + 1) text)
    ≡ drop (suc count) text
rest_from text count = grind (arith, common_steps)
