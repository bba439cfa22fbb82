-- The relation from a text to a file's program bytes or its first fault: a first pass for places, labels and sizes, and
-- a
-- second one for values.
use Rattle.std.specs.Prelude.{ℕ, ◌+◌, ◌-◌, ◌%◌, ◌==◌, nat_le, ℤ, pos, neg_ℤ, ◌-ℤ◌, unsigned_abs, Bool, ◌&&◌, not}
use Rattle.std.specs.Prelude.{if◌then◌else◌, List, [], ◌∷◌, ◌++◌, length, take, drop, replicate, Option, Some, None}
use Rattle.std.specs.Prelude.{option_map, ok_or, Result, Ok, Err, bytes_eq, false}
use Rattle.std.specs.Option.{is_some}
use Rattle.std.specs.List.{list_all}
use Rattle.std.specs.Int.{to_le_bytes, w32}
use Rattle.rv32_table.specs.Meaning.{low_word}
use Rattle.rv32_table.specs.Encoded.{encoded}
use Rattle.rv32_table.specs.declared.instruction.Instr.{Instr}
use Rattle.rv32_asm.specs.Scanning.{is_name}
use Rattle.rv32_asm.specs.Lines.{lines_of, is_text_byte, without_comment, parts_of, word_length}
use Rattle.rv32_asm.specs.Forms.{form_of}
use Rattle.rv32_asm.specs.Operands.{Target, Number, Label, Statement, Plain, Numbered, Relative, Puts, Bytes4, Bytes1}
use Rattle.rv32_asm.specs.Operands.{Text, Zeros, Multiple, unescaped, statement_with}
use Rattle.rv32_asm.specs.Values.{is_from_to, is_multiple, numbered, upper_of, lower_of}
use Rattle.rv32_asm.specs.declared.form.Form.{Form}
use Rattle.rv32_asm.specs.declared.fault.AsmKind.{AsmKind}
use Rattle.rv32_asm.specs.declared.fault.AsmKind.TheVariants as kind
use Rattle.rv32_asm.specs.declared.fault.AsmFault.{AsmFault}
use Rattle.rv32_asm.specs.declared.fault.AsmFault.TheVariants.{Bad}

infixl 10 ◌>>>◌
abbrev pub ◌>>>◌ : {A B E : Type 0} → Result A E → (A → Result B E) → Result B E
(Ok value) >>> f = f value
(Err fault) >>> f = Err fault

-- a fault in the line of this number
abbrev pub in_line : {A : Type 0} → ℕ → Result A AsmKind → Result A AsmFault
in_line number (Ok value) = Ok value
in_line number (Err kind) = Err (Bad number kind)

-- the statement of a form with operands
abbrev pub form_with : Option Form → List ℕ → Result (Option Statement) AsmKind
form_with (Some form) operands = ok_or (option_map (λ s. Some s) (statement_with form operands)) kind.Operands
form_with None operands = Err kind.Word

-- The statement of a line, if it has one, from where its word begins.
abbrev pub statement_of : List ℕ → Result (Option Statement) AsmKind
statement_of text =
    if length text == 0 then Ok None
    else form_with (form_of (take (word_length text) text)) (drop (word_length text) text)

-- how many zero bytes stand before the next multiple
abbrev pub padding : ℕ → ℕ → ℕ
padding place multiple = (multiple - place % multiple) % multiple

abbrev pub is_zero_count : ℤ → Bool
is_zero_count count = is_from_to (pos 0) (pos 1_048_576) count

-- How many bytes a statement stands for at a place. One whose number is out of its range has none yet.
abbrev pub size : Statement → ℕ → ℕ
size (Plain instr) place = 4
size (Numbered instr number) place = 4
size (Relative instr target) place = 4
size (Puts rd target) place = 8
size (Bytes4 target) place = 4
size (Bytes1 number) place = 1
size (Text text) place = length (unescaped false text)
size (Zeros count) place = if is_zero_count count then unsigned_abs count else 0
size (Multiple multiple) place = if is_multiple multiple then padding place (unsigned_abs multiple) else 0

abbrev pub size_of : Option Statement → ℕ → ℕ
size_of (Some statement) place = size statement place
size_of None place = 0

-- the labels and their places, in the order of their definitions
abbrev pub Labels : Type 0
Labels = List (List ℕ × ℕ)

abbrev pub place_of : List ℕ → Labels → Option ℕ
place_of name [] = None
place_of name (entry ∷ entries) = if bytes_eq name entry.0 then Some entry.1 else place_of name entries

-- The labels so far, and how many bytes.
pub record Measure : Type 0 where
  pub labels : Labels
  pub count : ℕ

-- A label is a name that wasn't defined before.
abbrev pub labelled : Option (List ℕ) → ℕ → Labels → Result Labels AsmKind
labelled None place labels = Ok labels
labelled (Some name) place labels =
    if is_name name && not (is_some (place_of name labels)) then Ok (labels ++ (name, place) ∷ []) else Err kind.Label

-- At most 16,000,000 bytes, and no place past 4,294,901,760.
abbrev pub grown : ℕ → ℕ → Labels → Result Measure AsmKind
grown at count labels =
    if nat_le count 16_000_000 && nat_le (at + count) 4_294_901_760
    then Ok (record { labels = labels; count = count }) else Err kind.TooLong

-- the first pass over a line
abbrev pub measured : ℕ → List ℕ → Measure → Result Measure AsmKind
measured at line before =
    let parts = parts_of (without_comment line) in
    let place = at + before.count in
    if list_all is_text_byte line
    then (labelled parts.label place before.labels >>> λ labels. statement_of parts.rest >>> λ statement.
    grown at (before.count + size_of statement place) labels)
    else Err kind.Byte

-- The first pass over lines, of which the first has this number.
abbrev pub first_pass : ℕ → ℕ → List (List ℕ) → Measure → Result Measure AsmFault
first_pass at number [] before = Ok before
first_pass at number (line ∷ lines) before =
    in_line number (measured at line before) >>> first_pass at (number + 1) lines

-- the number that a target is: a number itself, or the place of a label
abbrev pub value_of : Target → Labels → Result ℤ AsmKind
value_of (Number number) labels = Ok number
value_of (Label name) labels = ok_or (option_map pos (place_of name labels)) kind.Unknown

-- the offset that leads to a target: a number itself, or how far the label's place lies ahead
abbrev pub offset_to : Target → ℕ → Labels → Result ℤ AsmKind
offset_to (Number number) place labels = Ok number
offset_to (Label name) place labels = ok_or (option_map (λ to. pos to -ℤ pos place) (place_of name labels)) kind.Unknown

-- the bytes of an instruction, least first, at a place that is a multiple of four
abbrev pub instruction_bytes : ℕ → Option Instr → Result (List ℕ) AsmKind
instruction_bytes place (Some instr) =
    if place % 4 == 0 then Ok (to_le_bytes w32 (encoded instr)) else Err kind.Range
instruction_bytes place None = Err kind.Range

-- a word in either reading, at a place that is a multiple of four
abbrev pub word_of : ℕ → ℤ → Result ℕ AsmKind
word_of place value =
    if (place % 4 == 0) && is_from_to (neg_ℤ (pos 2_147_483_648)) (pos 4_294_967_295) value
    then Ok (low_word value) else Err kind.Range

-- What a statement stands for at a place.
abbrev pub bytes_of : Statement → ℕ → Labels → Result (List ℕ) AsmKind
bytes_of (Plain instr) place labels = instruction_bytes place (Some instr)
bytes_of (Numbered instr number) place labels = instruction_bytes place (numbered instr number)
bytes_of (Relative instr target) place labels =
    offset_to target place labels >>> λ offset. instruction_bytes place (numbered instr offset)
bytes_of (Puts rd target) place labels =
    value_of target labels >>> λ value. word_of place value >>> λ word.
    Ok (to_le_bytes w32 (encoded (upper_of rd word)) ++ to_le_bytes w32 (encoded (lower_of rd word)))
bytes_of (Bytes4 target) place labels =
    value_of target labels >>> λ value. word_of place value >>> λ word. Ok (to_le_bytes w32 word)
bytes_of (Bytes1 number) place labels =
    if is_from_to (neg_ℤ (pos 128)) (pos 255) number then Ok (low_word number % 256 ∷ []) else Err kind.Range
bytes_of (Text text) place labels = Ok (unescaped false text)
bytes_of (Zeros count) place labels =
    if is_zero_count count then Ok (replicate (unsigned_abs count) 0) else Err kind.Range
bytes_of (Multiple multiple) place labels =
    if is_multiple multiple then Ok (replicate (padding place (unsigned_abs multiple)) 0) else Err kind.Range

abbrev pub bytes_of_found : Option Statement → ℕ → Labels → Result (List ℕ) AsmKind
bytes_of_found (Some statement) place labels = bytes_of statement place labels
bytes_of_found None place labels = Ok []

-- the second pass over a line at a place
abbrev pub valued : ℕ → List ℕ → Labels → Result (List ℕ) AsmKind
valued place line labels =
    statement_of (parts_of (without_comment line)).rest >>> λ found. bytes_of_found found place labels

-- The second pass over lines, of which the first has this number and stands behind these bytes.
abbrev pub second_pass : ℕ → ℕ → List (List ℕ) → Labels → List ℕ → Result (List ℕ) AsmFault
second_pass at number [] labels bytes = Ok bytes
second_pass at number (line ∷ lines) labels bytes =
    in_line number (valued (at + length bytes) line labels) >>> λ more.
    second_pass at (number + 1) lines labels (bytes ++ more)

-- The bytes of the program that a text is at a place, or the text's first fault.
abbrev pub program_of : ℕ → List ℕ → Result (List ℕ) AsmFault
program_of at text =
    first_pass at 1 (lines_of text) (record { labels = []; count = 0 }) >>> λ measure.
    second_pass at 1 (lines_of text) measure.labels []
