-- The generator's text assembles: its lines, the passes over the program's lines, which are computed, and those over
-- the lines of numbers, by induction.
use Rattle.std.proofs.Common.{◌≡◌, ◌∙◌, ℕ, zero, suc, ◌+◌, ◌*◌, ◌%◌, ◌^◌, ◌<◌, ◌≤◌, List, [], ◌∷◌, ◌++◌, length, map}
use Rattle.std.proofs.Common.{ap, sym, refl, arith, append_assoc, length-append, Bool, true, false}
use Rattle.std.specs.Prelude.{◌==◌, nat_lt, nat_le, ◌&&◌, pos, Some, None, Ok, slice_index, codes}
use Rattle.std.specs.List.{list_all}
use Rattle.std.specs.Int.{to_le_bytes, w32}
use Rattle.std.specs.Fmt.{decimal}
use Rattle.std.proofs.lemmas.Bool.{lt-ltb, ltb-true, le-leb, eqb-true}
use Rattle.std.proofs.lemmas.Fmt.{length-decimal-le}
use Rattle.std.proofs.lemmas.Grind.{flat_map-append}
use Rattle.std.proofs.lemmas.List.{append-nil, map-append}
use Rattle.rv32_table.specs.Encoded.{encoded, word_of}
use Rattle.rv32_asm.specs.Forms.{forms}
use Rattle.rv32_asm.specs.Scanning.{numbered, named}
use Rattle.rv32_asm.specs.Lines.{Parts, lines_of, with_first, is_text_byte, parts_of, without_comment}
use Rattle.rv32_asm.specs.Values.{multiples}
use Rattle.rv32_asm.specs.Operands.{Number, Bytes4}
use Rattle.rv32_asm.specs.Passes.{◌>>>◌, in_line, Labels, statement_of, grown, measured, first_pass, bytes_of_found}
use Rattle.rv32_asm.specs.Passes.{valued, second_pass, program_of}
use Rattle.rv32_asm.specs.PassViews.{measure_of}
use Rattle.rv32_asm.specs.Disassembly.{number_text}
use Rattle.rv32_asm.specs.File.{words, file_of, assembled}
use Rattle.rv32_asm.specs.Generator.{data_word, data_words, program_lines, number_line, ended, text_of_lines}
use Rattle.rv32_asm.specs.Generator.{program_data, generated_text, start, program, generated_words, generated_file}
use Rattle.rv32_asm.proofs.TestLaws.{and_first, and_second, and_both, all_both, if_true, if_false}
use Rattle.rv32_asm.proofs.QuietLaws.{is_quiet, of_text, parts_behind}
use Rattle.rv32_asm.proofs.PassLaws.{measured_size}
use Rattle.rv32_asm.proofs.SaidLaws.{digits_quiet, number_statement, number_bytes}

-- a word of 32 bits
abbrev is_word : ℕ → Bool
is_word number = nat_lt number (2 ^ 32)

is_word_data : (seed index : ℕ) → is_word (data_word seed index) ≡ true
is_word_data seed index = lt-ltb (data_word seed index) (2 ^ 32) (omega arith)

pub words_data : (seed count : ℕ) → list_all is_word (data_words seed count) ≡ true
words_data seed zero = refl
words_data seed (suc count) =
    all_both is_word (data_words seed count) (data_word seed count ∷ []) (words_data seed count)
    (and_both (is_word (data_word seed count)) true (is_word_data seed count) refl)

pub length_data : (seed count : ℕ) → length (data_words seed count) ≡ count
length_data seed zero = refl
length_data seed (suc count) =
    length-append (data_words seed count) (data_word seed count ∷ [])
    ∙ ap (λ n. n + 1) (length_data seed count) ∙ more count
  where
    more : (n : ℕ) → n + 1 ≡ suc n
    more n = omega arith

-- a line, and what follows its line feed
not_text : (stop byte : ℕ) → is_text_byte stop ≡ false → is_text_byte byte ≡ true → (same : Bool)
    → (byte == stop) ≡ same → same ≡ false
not_text stop byte none is true equal =
    let same : byte ≡ stop = eqb-true byte stop equal in
    let impossible : false ≡ true = sym none ∙ ap is_text_byte (sym same) ∙ is in absurd (cc)
not_text stop byte none is false equal = refl

text_byte_no_feed : (byte : ℕ) → is_text_byte byte ≡ true → (byte == 10) ≡ false
text_byte_no_feed byte is = not_text 10 byte refl is (byte == 10) refl

text_byte_no_return : (byte : ℕ) → is_text_byte byte ≡ true → (byte == 13) ≡ false
text_byte_no_return byte is = not_text 13 byte refl is (byte == 13) refl

first_line : (line rest : List ℕ) → list_all is_text_byte line ≡ true
    → lines_of (line ++ (10 ∷ rest)) ≡ line ∷ lines_of rest
first_line [] rest all = refl
first_line (byte ∷ bytes) rest all =
    let is : is_text_byte byte ≡ true = and_first (is_text_byte byte) (list_all is_text_byte bytes) all in
    let more : list_all is_text_byte bytes ≡ true = and_second (is_text_byte byte) (list_all is_text_byte bytes) all in
    if_false (byte == 10) (text_byte_no_feed byte is) _ _
    ∙ if_false ((byte == 13) && (slice_index (bytes ++ (10 ∷ rest)) 0 == 10))
    (ap (λ b. b && (slice_index (bytes ++ (10 ∷ rest)) 0 == 10)) (text_byte_no_return byte is)) _ _
    ∙ ap (with_first byte) (first_line bytes rest more)

-- the lines of a text of lines: the last line feed is followed by an empty line
abbrev are_lines : List (List ℕ) → Bool
are_lines lines = list_all (λ line. list_all is_text_byte line) lines

lines_back : (lines : List (List ℕ)) → are_lines lines ≡ true → lines_of (text_of_lines lines) ≡ lines ++ ([] ∷ [])
lines_back [] all = refl
lines_back (line ∷ lines) all =
    ap lines_of (append_assoc line (10 ∷ []) (text_of_lines lines))
    ∙ first_line line (text_of_lines lines)
    (and_first (list_all is_text_byte line) (are_lines lines) all)
    ∙ ap (λ ls. line ∷ ls) (lines_back lines (and_second (list_all is_text_byte line) (are_lines lines) all))

-- the line of a number
line_quiet : (number : ℕ) → number < 2 ^ 32 → list_all is_quiet (number_line number) ≡ true
line_quiet number small = digits_quiet number (omega arith)

line_parts : (number : ℕ) → number < 2 ^ 32
    → parts_of (without_comment (number_line number)) ≡ record { label = None; rest = number_text number }
line_parts number small = parts_behind (number_line number) (line_quiet number small) (number_text number) refl

number_lines : (numbers : List ℕ) → list_all is_word numbers ≡ true → are_lines (map number_line numbers) ≡ true
number_lines [] all = refl
number_lines (number ∷ numbers) all =
    and_both (list_all is_text_byte (number_line number)) (are_lines (map number_line numbers))
    (of_text (number_line number)
    (line_quiet number (ltb-true number (2 ^ 32) (and_first (is_word number) (list_all is_word numbers) all))))
    (number_lines numbers (and_second (is_word number) (list_all is_word numbers) all))

-- both passes over the lines of numbers and the empty line behind them
module _ (at : ℕ) (labels : Labels) where
  number_measured : (number count : ℕ) → number < 2 ^ 32 → count + 4 ≤ 16_000_000 → at + (count + 4) ≤ 4_294_901_760
      → measured at (number_line number) (measure_of labels count) ≡ Ok (measure_of labels (count + 4))
  number_measured number count small few within =
      measured_size at (number_line number) labels count (record { label = None; rest = number_text number }) labels
      (Some (Bytes4 (Number (pos number)))) (of_text (number_line number) (line_quiet number small))
      (line_parts number small) refl (number_statement number small)
      ∙ if_true (nat_le (count + 4) 16_000_000 && nat_le (at + (count + 4)) 4_294_901_760)
      (and_both (nat_le (count + 4) 16_000_000) _ (le-leb (count + 4) 16_000_000 few)
      (le-leb (at + (count + 4)) 4_294_901_760 within)) _ _

  empty_measured : (count : ℕ) → count ≤ 16_000_000 → at + count ≤ 4_294_901_760
      → measured at [] (measure_of labels count) ≡ Ok (measure_of labels count)
  empty_measured count few within =
      ap (λ n. grown at n labels) none
      ∙ if_true (nat_le count 16_000_000 && nat_le (at + count) 4_294_901_760)
      (and_both (nat_le count 16_000_000) _ (le-leb count 16_000_000 few) (le-leb (at + count) 4_294_901_760 within))
      _ _
    where
      none : count + 0 ≡ count
      none = omega arith

  numbers_first : (numbers : List ℕ) (number count : ℕ) → list_all is_word numbers ≡ true
      → count + 4 * length numbers ≤ 16_000_000 → at + (count + 4 * length numbers) ≤ 4_294_901_760
      → first_pass at number (map number_line numbers ++ ([] ∷ [])) (measure_of labels count)
      ≡ Ok (measure_of labels (count + 4 * length numbers))
  numbers_first [] number count all few within =
      ap (λ m. in_line number m >>> first_pass at (number + 1) []) (empty_measured count (omega arith) (omega arith))
      ∙ ap (λ n. Ok (measure_of labels n)) (omega arith)
  numbers_first (one ∷ numbers) number count all few within =
      let small : one < 2 ^ 32 = ltb-true one (2 ^ 32) (and_first (is_word one) (list_all is_word numbers) all) in
      ap (λ m. in_line number m >>> first_pass at (number + 1) (map number_line numbers ++ ([] ∷ [])))
      (number_measured one count small (omega arith) (omega arith))
      ∙ numbers_first numbers (number + 1) (count + 4) (and_second (is_word one) (list_all is_word numbers) all)
      (omega arith) (omega arith)
      ∙ ap (λ n. Ok (measure_of labels n)) (omega arith)

  number_valued : (number place : ℕ) → number < 2 ^ 32 → place % 4 ≡ 0
      → valued place (number_line number) labels ≡ Ok (to_le_bytes w32 number)
  number_valued number place small aligned =
      ap (λ (p : Parts). statement_of p.rest >>> λ found. bytes_of_found found place labels) (line_parts number small)
      ∙ ap (λ s. s >>> λ found. bytes_of_found found place labels) (number_statement number small)
      ∙ number_bytes number place labels small aligned

  numbers_second : (numbers : List ℕ) (number : ℕ) (bytes : List ℕ) → list_all is_word numbers ≡ true
      → (at + length bytes) % 4 ≡ 0
      → second_pass at number (map number_line numbers ++ ([] ∷ [])) labels bytes ≡ Ok (bytes ++ words numbers)
  numbers_second [] number bytes all aligned = refl
  numbers_second (one ∷ numbers) number bytes all aligned =
      let small : one < 2 ^ 32 = ltb-true one (2 ^ 32) (and_first (is_word one) (list_all is_word numbers) all) in
      let long : length (bytes ++ to_le_bytes w32 one) ≡ length bytes + 4 = length-append bytes (to_le_bytes w32 one) in
      ap (λ v. in_line number v >>> λ more.
      second_pass at (number + 1) (map number_line numbers ++ ([] ∷ [])) labels (bytes ++ more))
      (number_valued one (at + length bytes) small aligned)
      ∙ numbers_second numbers (number + 1) (bytes ++ to_le_bytes w32 one)
      (and_second (is_word one) (list_all is_word numbers) all) (omega (arith, long))
      ∙ ap Ok (append_assoc bytes (to_le_bytes w32 one) (words numbers))

-- the labels of the program
abbrev labels : Labels
labels = (codes "next", 65_560) ∷ (codes "count", 65_652) ∷ []

program_first : (rest : List (List ℕ))
    → first_pass start 1 (program_lines ++ rest) (measure_of [] 0) ≡ first_pass start 24 rest (measure_of labels 116)
unfolding program_lines forms numbered named multiples word_of
program_first rest = refl

program_second : (rest : List (List ℕ))
    → second_pass start 1 (program_lines ++ rest) labels []
    ≡ second_pass start 24 rest labels (words (map encoded program))
unfolding program_lines program forms numbered named multiples word_of
program_second rest = refl

program_are_lines : are_lines program_lines ≡ true
unfolding program_lines
program_are_lines = refl

program_length : length (text_of_lines program_lines) ≡ 290
unfolding program_lines
program_length = refl

program_bytes : length (words (map encoded program)) ≡ 116
unfolding program
program_bytes = refl

-- how long the lines of numbers are
numbers_short : (numbers : List ℕ) → list_all is_word numbers ≡ true
    → length (text_of_lines (map number_line numbers)) ≤ 18 * length numbers
numbers_short [] all = omega arith
numbers_short (one ∷ numbers) all =
    let small : one < 2 ^ 32 = ltb-true one (2 ^ 32) (and_first (is_word one) (list_all is_word numbers) all) in
    let few : length (decimal one) ≤ 10 = length-decimal-le 10 one (omega arith) (omega arith) (omega arith) in
    let line : length (number_line one) ≡ 7 + length (decimal one) = length-append (codes " .word ") (decimal one) in
    let ends : length (ended (number_line one)) ≡ length (number_line one) + 1 =
    length-append (number_line one) (10 ∷ []) in
    let all_of : length (text_of_lines (map number_line (one ∷ numbers)))
    ≡ length (ended (number_line one)) + length (text_of_lines (map number_line numbers)) =
    length-append (ended (number_line one)) (text_of_lines (map number_line numbers)) in
    let more : length (text_of_lines (map number_line numbers)) ≤ 18 * length numbers =
    numbers_short numbers (and_second (is_word one) (list_all is_word numbers) all) in
    omega (arith, line, ends, all_of, more, few)

module _ (seed count : ℕ) (most : count ≤ 65_536) where
  data_are_words : list_all is_word (program_data seed count) ≡ true
  data_are_words =
      and_both (is_word count) (list_all is_word (data_words seed count)) (lt-ltb count (2 ^ 32) (omega arith))
      (words_data seed count)

  data_length : length (program_data seed count) ≡ count + 1
  data_length = omega (arith, length_data seed count)

  pub text_short : length (generated_text seed count) ≤ 4_194_304
  text_short =
      let both : length (generated_text seed count)
      ≡ length (text_of_lines program_lines) + length (text_of_lines (map number_line (program_data seed count))) =
      ap length (flat_map-append ended program_lines (map number_line (program_data seed count)))
      ∙ length-append (text_of_lines program_lines) (text_of_lines (map number_line (program_data seed count))) in
      omega (arith, both, program_length, data_length, numbers_short (program_data seed count) data_are_words)

  text_lines : lines_of (generated_text seed count)
      ≡ program_lines ++ (map number_line (program_data seed count) ++ ([] ∷ []))
  text_lines =
      lines_back (program_lines ++ map number_line (program_data seed count))
      (all_both (λ line. list_all is_text_byte line) program_lines (map number_line (program_data seed count))
      program_are_lines (number_lines (program_data seed count) data_are_words))
      ∙ append_assoc program_lines (map number_line (program_data seed count)) ([] ∷ [])

  rest : List (List ℕ)
  rest = map number_line (program_data seed count) ++ ([] ∷ [])

  text_program : program_of start (generated_text seed count) ≡ Ok (words (generated_words seed count))
  unfolding rest
  text_program =
      ap (λ ls. first_pass start 1 ls (measure_of [] 0) >>> λ measure. second_pass start 1 ls measure.labels [])
      text_lines
      ∙ ap (λ m. m >>> λ measure. second_pass start 1 (program_lines ++ rest) measure.labels [])
      (program_first rest
      ∙ numbers_first start labels (program_data seed count) 24 116 data_are_words (omega (arith, data_length))
      (omega (arith, data_length)))
      ∙ program_second rest
      ∙ numbers_second start labels (program_data seed count) 24 (words (map encoded program)) data_are_words
      (ap (λ n. (start + n) % 4) program_bytes)
      ∙ ap Ok (sym (flat_map-append (to_le_bytes w32) (map encoded program) (program_data seed count)))

  pub text_assembles : assembled start (generated_text seed count) ≡ Ok (generated_file seed count)
  text_assembles = ap (λ p. p >>> λ bytes. Ok (file_of start bytes)) text_program

-- the text, a number more
pub text_start : (count : ℕ)
    → text_of_lines program_lines ++ ended (number_line count)
    ≡ text_of_lines (program_lines ++ map number_line (count ∷ []))
text_start count =
    ap (λ more. text_of_lines program_lines ++ more) (sym (append-nil (ended (number_line count))))
    ∙ sym (flat_map-append ended program_lines (number_line count ∷ []))

pub text_more : (lines : List (List ℕ)) (numbers : List ℕ) (number : ℕ)
    → text_of_lines (lines ++ map number_line numbers) ++ ended (number_line number)
    ≡ text_of_lines (lines ++ map number_line (numbers ++ number ∷ []))
text_more lines numbers number =
    ap (λ more. text_of_lines (lines ++ map number_line numbers) ++ more)
    (sym (append-nil (ended (number_line number))))
    ∙ sym (flat_map-append ended (lines ++ map number_line numbers) (number_line number ∷ []))
    ∙ ap text_of_lines (append_assoc lines (map number_line numbers) (number_line number ∷ []))
    ∙ ap (λ ls. text_of_lines (lines ++ ls)) (sym (map-append number_line numbers (number ∷ [])))
