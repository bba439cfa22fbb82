-- A line has as many bytes in the second pass as the first one counted.
use Rattle.std.proofs.Common.{◌≡◌, ◌∙◌, ℕ, ◌+◌, ◌≤◌, List, [], ◌∷◌, ◌++◌, ap, sym, refl, subst, length, Bool, true}
use Rattle.std.proofs.Common.{false, arith}
use Rattle.std.specs.Borrow.{Bor}
use Rattle.std.specs.Prelude.{◌<◌, IfSome, if◌then◌else◌, Option, Some, None, Result, Ok, Err, ℤ}
use Rattle.std.specs.List.{list_all}
use Rattle.std.specs.Int.{to_le_bytes, w32}
use Rattle.std.proofs.lemmas.List.{length-replicate, length-append}
use Rattle.std.proofs.lemmas.Grind.{common_steps}
use Rattle.rv32_table.specs.Encoded.{encoded}
use Rattle.rv32_table.specs.declared.instruction.Instr.{Instr}
use Rattle.rv32_asm.specs.Lines.{parts_of, without_comment, is_text_byte}
use Rattle.rv32_asm.specs.Operands.{Statement, Plain, Numbered, Relative, Puts, Bytes4, Bytes1, Text, Zeros, Multiple}
use Rattle.rv32_asm.specs.Values.{numbered, is_multiple, upper_of, lower_of}
use Rattle.rv32_asm.specs.Passes.{◌>>>◌, in_line, Labels, Measure, statement_of, size, size_of, is_zero_count, labelled}
use Rattle.rv32_asm.specs.Passes.{grown, measured, first_pass, offset_to, value_of, word_of, instruction_bytes}
use Rattle.rv32_asm.specs.Passes.{bytes_of, bytes_of_found, valued, second_pass}
use Rattle.rv32_asm.specs.PassViews.{measure_of, behind_bytes, left_of, fault_in, Gives, GivesProgram}
use Rattle.rv32_asm.specs.declared.problem.Problem.{Problem}
use Rattle.rv32_asm.specs.declared.problem.Problem.TheVariants as problem
use Rattle.rv32_asm.specs.declared.fault.AsmKind.{AsmKind}
use Rattle.rv32_asm.specs.declared.fault.AsmKind.TheVariants as kind
use Rattle.rv32_asm.specs.declared.fault.AsmFault.{AsmFault}
use Rattle.rv32_asm.specs.declared.fault.AsmFault.TheVariants.{Bad}

abbrev bytes_or_none : Result (List ℕ) AsmKind → List ℕ
bytes_or_none (Ok bytes) = bytes
bytes_or_none (Err wrong) = []

abbrev right : List ℕ → Result (List ℕ) AsmKind
right bytes = Ok bytes

ok_of : (bytes more : List ℕ) → right bytes ≡ Ok more → bytes ≡ more
ok_of bytes more is = ap bytes_or_none is

word_length : (word : ℕ) → length (to_le_bytes w32 word) ≡ 4
word_length word = refl

-- what a test chooses has so many bytes
chosen_length : (test : Bool) (bytes more : List ℕ) (count : ℕ) → length bytes ≡ count
    → (if test then Ok bytes else Err kind.Range) ≡ Ok more → length more ≡ (if test then count else 0)
chosen_length true bytes more count sized is = ap length (sym (ok_of bytes more is)) ∙ sized
chosen_length false bytes more count sized is = absurd (cc)

chosen_four : (test : Bool) (bytes more : List ℕ) (count : ℕ) → length bytes ≡ count
    → (if test then Ok bytes else Err kind.Range) ≡ Ok more → length more ≡ count
chosen_four true bytes more count sized is = ap length (sym (ok_of bytes more is)) ∙ sized
chosen_four false bytes more count sized is = absurd (cc)

instruction_length : (place : ℕ) (instr : Option Instr) (more : List ℕ) → instruction_bytes place instr ≡ Ok more
    → length more ≡ 4
instruction_length place (Some instr) more is =
    chosen_four _ (to_le_bytes w32 (encoded instr)) more 4 (word_length (encoded instr)) is
instruction_length place None more is = absurd (cc)

relative_length : (place : ℕ) (instr : Instr) (offset : Result ℤ AsmKind) (more : List ℕ)
    → (offset >>> λ by. instruction_bytes place (numbered instr by)) ≡ Ok more → length more ≡ 4
relative_length place instr (Ok by) more is = instruction_length place (numbered instr by) more is
relative_length place instr (Err wrong) more is = absurd (cc)

two_words : (one two : ℕ) → length (to_le_bytes w32 one ++ to_le_bytes w32 two) ≡ 8
two_words one two = refl

puts_length : (rd : ℕ) (word : Result ℕ AsmKind) (more : List ℕ)
    → (word >>> λ w. Ok (to_le_bytes w32 (encoded (upper_of rd w)) ++ to_le_bytes w32 (encoded (lower_of rd w))))
    ≡ Ok more
    → length more ≡ 8
puts_length rd (Ok w) more is =
    ap length (sym (ok_of _ more is)) ∙ two_words (encoded (upper_of rd w)) (encoded (lower_of rd w))
puts_length rd (Err wrong) more is = absurd (cc)

put_length : (rd place : ℕ) (value : Result ℤ AsmKind) (more : List ℕ)
    → (value >>> λ v. word_of place v >>> λ w.
    Ok (to_le_bytes w32 (encoded (upper_of rd w)) ++ to_le_bytes w32 (encoded (lower_of rd w)))) ≡ Ok more
    → length more ≡ 8
put_length rd place (Ok v) more is = puts_length rd (word_of place v) more is
put_length rd place (Err wrong) more is = absurd (cc)

words_length : (word : Result ℕ AsmKind) (more : List ℕ) → (word >>> λ w. Ok (to_le_bytes w32 w)) ≡ Ok more
    → length more ≡ 4
words_length (Ok w) more is = ap length (sym (ok_of _ more is)) ∙ word_length w
words_length (Err wrong) more is = absurd (cc)

four_length : (place : ℕ) (value : Result ℤ AsmKind) (more : List ℕ)
    → (value >>> λ v. word_of place v >>> λ w. Ok (to_le_bytes w32 w)) ≡ Ok more → length more ≡ 4
four_length place (Ok v) more is = words_length (word_of place v) more is
four_length place (Err wrong) more is = absurd (cc)

-- a statement has its size
sized : (statement : Statement) (place : ℕ) (labels : Labels) (more : List ℕ)
    → bytes_of statement place labels ≡ Ok more
    → length more ≡ size statement place
sized (Plain instr) place labels more is = instruction_length place (Some instr) more is
sized (Numbered instr number) place labels more is = instruction_length place (numbered instr number) more is
sized (Relative instr target) place labels more is = relative_length place instr (offset_to target place labels) more is
sized (Puts rd target) place labels more is = put_length rd place (value_of target labels) more is
sized (Bytes4 target) place labels more is = four_length place (value_of target labels) more is
sized (Bytes1 number) place labels more is = chosen_four _ (_ ∷ []) more 1 refl is
sized (Text text) place labels more is = ap length (sym (ok_of _ more is))
sized (Zeros count) place labels more is = chosen_length (is_zero_count count) _ more _ (length-replicate _ 0) is
sized (Multiple multiple) place labels more is = chosen_length (is_multiple multiple) _ more _ (length-replicate _ 0) is

found_sized : (found : Option Statement) (place : ℕ) (labels : Labels) (more : List ℕ)
    → bytes_of_found found place labels ≡ Ok more → length more ≡ size_of found place
found_sized (Some statement) place labels more is = sized statement place labels more is
found_sized None place labels more is = ap length (sym (ok_of [] more is))

-- what the first pass counts, within the greatest place
pub record IsCounted (at before : ℕ) (after : Measure) (more : List ℕ) : Type 0 where
  pub count : after.count ≡ before + length more
  pub within : at + after.count ≤ 4_294_901_760

grown_counts : (at count : ℕ) (labels : Labels) (after : Measure) → grown at count labels ≡ Ok after
    → after.count ≡ count
grown_counts at count labels after is = grind (arith, common_steps)

grown_within : (at count : ℕ) (labels : Labels) (after : Measure) → grown at count labels ≡ Ok after
    → at + count ≤ 4_294_901_760
grown_within at count labels after is = grind (arith, common_steps)

counted : (at before : ℕ) (labels after_labels : Labels) (found : Option Statement) (after : Measure) (more : List ℕ)
    → grown at (before + size_of found (at + before)) after_labels ≡ Ok after
    → bytes_of_found found (at + before) labels ≡ Ok more → IsCounted at before after more
counted at before labels after_labels found after more measures values =
    let same : length more ≡ size_of found (at + before) = found_sized found (at + before) labels more values in
    let counts : after.count ≡ before + size_of found (at + before) = grown_counts at _ after_labels after measures in
    let within : at + (before + size_of found (at + before))
    ≤ 4_294_901_760 = grown_within at _ after_labels after measures in
    record { count = counts ∙ ap (λ n. before + n) (sym same); within = omega (arith, counts, within) }

line_steps : (at before : ℕ) (labels : Labels) (text : Bool) (named : Result Labels AsmKind)
    (found : Result (Option Statement) AsmKind) (after : Measure) (more : List ℕ)
    → (if text then (named >>> λ ls. found >>> λ s. grown at (before + size_of s (at + before)) ls) else Err kind.Byte)
    ≡ Ok after
    → (found >>> λ s. bytes_of_found s (at + before) labels) ≡ Ok more → IsCounted at before after more
line_steps at before labels true (Ok ls) (Ok s) after more measures values =
    counted at before labels ls s after more measures values
line_steps at before labels true (Ok ls) (Err wrong) after more measures values = absurd (cc)
line_steps at before labels true (Err wrong) found after more measures values = absurd (cc)
line_steps at before labels false named found after more measures values = absurd (cc)

line_sized : (at before : ℕ) (defined labels : Labels) (line : List ℕ) (after : Measure) (more : List ℕ)
    → measured at line (measure_of defined before) ≡ Ok after → valued (at + before) line labels ≡ Ok more
    → IsCounted at before after more
line_sized at before defined labels line after more measures values =
    line_steps at before labels (list_all is_text_byte line)
    (labelled (parts_of (without_comment line)).label (at + before) defined)
    (statement_of (parts_of (without_comment line)).rest) after more measures values

-- With so many bytes before these lines the first pass comes to so many in all.
pub record IsOnTrack (at number : ℕ) (lines : List (List ℕ)) (before count : ℕ) : Type 0 where
  pub defined : Labels
  pub ends : Labels
  pub passes : first_pass at number lines (measure_of defined before) ≡ Ok (measure_of ends count)

-- after a line
pub record IsStepped (at number : ℕ) (rest : List (List ℕ)) (new : List ℕ) (count : ℕ) : Type 0 where
  pub track : IsOnTrack at (number + 1) rest (length new) count
  pub within : at + length new ≤ 4_294_901_760

module _ (at number : ℕ) (line : List ℕ) (rest : List (List ℕ)) (labels : Labels) (bytes : List ℕ) where
  track_step : (defined ends : Labels) (count : ℕ) (m : Result Measure AsmKind)
      (v : Result (List ℕ) AsmKind) (new : List ℕ)
      → ((after : Measure) (more : List ℕ) → m ≡ Ok after → v ≡ Ok more → IsCounted at (length bytes) after more)
      → (in_line number m >>> first_pass at (number + 1) rest) ≡ Ok (measure_of ends count)
      → behind_bytes bytes v ≡ Ok new → IsStepped at number rest new count
  track_step defined ends count (Ok after) (Ok more) new sizes passes values =
      let counted : IsCounted at (length bytes) after more = sizes after more refl refl in
      let same : bytes ++ more ≡ new = ok_of (bytes ++ more) new values in
      let long : after.count ≡ length new = counted.count ∙ sym (length-append bytes more) ∙ ap length same in
      let P : ℕ → Type 0 = λ n. first_pass at (number + 1) rest (measure_of after.labels n)
      ≡ Ok (measure_of ends count) in
      let Q : ℕ → Type 0 = λ n. at + n ≤ 4_294_901_760 in
      record {
        track = record { defined = after.labels; ends = ends; passes = subst P long passes };
        within = subst Q long counted.within;
      }
  track_step defined ends count (Ok after) (Err wrong) new sizes passes values = absurd (cc)
  track_step defined ends count (Err wrong) v new sizes passes values = absurd (cc)

  pub track_more : (lines : List (List ℕ)) (count : ℕ) (new : List ℕ) → IsOnTrack at number lines (length bytes) count
      → lines ≡ line ∷ rest → behind_bytes bytes (valued (at + length bytes) line labels) ≡ Ok new
      → IsStepped at number rest new count
  track_more lines count new track split values =
      let P : List (List ℕ) → Type 0 =
      λ ls. first_pass at number ls (measure_of track.defined (length bytes)) ≡ Ok (measure_of track.ends count) in
      track_step track.defined track.ends count (measured at line (measure_of track.defined (length bytes)))
      (valued (at + length bytes) line labels) new
      (λ after more measures values. line_sized at (length bytes) track.defined labels line after more measures values)
      (subst P split track.passes) values

  stepped : (v : Result (List ℕ) AsmKind) (new : List ℕ) → behind_bytes bytes v ≡ Ok new
      → (in_line number v >>> λ more. second_pass at (number + 1) rest labels (bytes ++ more))
      ≡ second_pass at (number + 1) rest labels new
  stepped (Ok more) new is = ap (second_pass at (number + 1) rest labels) (ok_of (bytes ++ more) new is)
  stepped (Err wrong) new is = absurd (cc)

  -- a line more
  pub second_more : (lines : List (List ℕ)) (new : List ℕ) → lines ≡ line ∷ rest
      → behind_bytes bytes (valued (at + length bytes) line labels) ≡ Ok new
      → second_pass at number lines labels bytes ≡ second_pass at (number + 1) rest labels new
  second_more lines new split is =
      ap (λ ls. second_pass at number ls labels bytes) split ∙ stepped (valued (at + length bytes) line labels) new is

  stopped : (v : Result (List ℕ) AsmKind) (wrong : AsmKind) → behind_bytes bytes v ≡ Err wrong
      → (in_line number v >>> λ more. second_pass at (number + 1) rest labels (bytes ++ more)) ≡ Err (Bad number wrong)
  stopped (Ok more) wrong is = absurd (cc)
  stopped (Err other) wrong is =
      let same : behind_bytes [] (Err other) ≡ Err wrong = is in
      ap (λ r. in_line number r >>> λ more. second_pass at (number + 1) rest labels (bytes ++ more)) same

  -- a line in which the pass stops
  pub second_stop : (lines : List (List ℕ)) (wrong : AsmKind) → lines ≡ line ∷ rest
      → behind_bytes bytes (valued (at + length bytes) line labels) ≡ Err wrong
      → second_pass at number lines labels bytes ≡ Err (Bad number wrong)
  second_stop lines wrong split is =
      ap (λ ls. second_pass at number ls labels bytes) split ∙ stopped (valued (at + length bytes) line labels) wrong is

abbrev count_or : Result Measure AsmFault → ℕ
count_or (Ok measure) = measure.count
count_or (Err fault) = 0

-- what stops the second pass in a line
pub gives_stop : (what : Problem) (number : ℕ) (meant : Result (List ℕ) AsmKind) (whole : Result (List ℕ) AsmFault)
    (fault : AsmFault) → fault ≡ fault_in number what → Gives {X = List ℕ} (λ x. x) (Err what) meant
    → ((wrong : AsmKind) → meant ≡ Err wrong → whole ≡ Err (Bad number wrong))
    → GivesProgram {X = List ℕ} (λ x. x) (Err fault) whole
gives_stop (problem.Kind wrong) number meant whole fault is gives stops =
    let P : AsmFault → Type 0 = λ f. GivesProgram {X = List ℕ} (λ x. x) (Err f) whole
    in subst P (sym is) (stops wrong gives)
gives_stop problem.NoMemory number meant whole fault is gives stops =
    let P : AsmFault → Type 0 = λ f. GivesProgram {X = List ℕ} (λ x. x) (Err f) whole in subst P (sym is) tt

-- what is left behind a line
pub left_less : (rest : Option (Bor (List ℕ))) (count : ℕ) → IfSome rest (λ r. length r.now < count)
    → left_of rest ≤ count
left_less (Some text) count shorter = omega (arith, shorter)
left_less None count shorter = omega arith

-- behind the last line
pub track_end : (at number before count : ℕ) → IsOnTrack at number [] before count → before ≡ count
track_end at number before count track = ap count_or track.passes
