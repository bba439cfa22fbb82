-- A text without line ends, comments, quoted texts and labels is one line that is its own statement.
use Rattle.std.proofs.Common.{◌≡◌, ◌∙◌, ℕ, suc, ◌+◌, ◌≤◌, List, [], ◌∷◌, ◌++◌, length, take, ap, sym, refl, arith, Bool}
use Rattle.std.proofs.Common.{true, false}
use Rattle.std.specs.Prelude.{◌==◌, nat_lt, nat_le, ◌&&◌, not, Some, None, Ok}
use Rattle.std.specs.List.{list_all}
use Rattle.std.proofs.Math.Seq.{take-length}
use Rattle.std.proofs.lemmas.List.{append-nil}
use Rattle.std.proofs.lemmas.Bool.{le-leb, le-ltb, eqb-true}
use Rattle.rv32_asm.specs.Scanning.{after_blanks}
use Rattle.rv32_asm.specs.Lines.{Parts, lines_of, is_text_byte, quote_after, place_outside, without_comment, parts_at}
use Rattle.rv32_asm.specs.Lines.{parts_of}
use Rattle.rv32_asm.specs.LineViews.{line_end}
use Rattle.rv32_asm.specs.declared.lines.Quote.TheVariants.{Outside}
use Rattle.rv32_asm.specs.Operands.{Statement}
use Rattle.rv32_asm.specs.Passes.{◌>>>◌, in_line, statement_of, size, bytes_of, bytes_of_found, grown, first_pass}
use Rattle.rv32_asm.specs.Passes.{valued, second_pass, program_of}
use Rattle.rv32_asm.specs.PassViews.{measure_of}
use Rattle.rv32_asm.proofs.LineLaws.{last_of_lines}
use Rattle.rv32_asm.proofs.PassLaws.{measured_size, first_more}
use Rattle.rv32_asm.proofs.TestLaws.{and_first, and_second, all_weaker, prefix_all, if_true, if_false}

-- a byte of a statement that ends, begins and names nothing by itself
abbrev pub is_quiet : ℕ → Bool
is_quiet byte = is_text_byte byte && (not (byte == 34) && (not (byte == 35) && not (byte == 58)))

not_true : (test : Bool) → not test ≡ true → test ≡ false
not_true true e = absurd (cc)
not_true false e = refl

true_not : (test : Bool) → test ≡ false → not test ≡ true
true_not true e = absurd (cc)
true_not false e = refl

-- what a quiet byte is not
module _ (byte : ℕ) (quiet : is_quiet byte ≡ true) where
  quiet_text : is_text_byte byte ≡ true
  quiet_text = and_first (is_text_byte byte) (not (byte == 34) && (not (byte == 35) && not (byte == 58))) quiet

  others : (not (byte == 34) && (not (byte == 35) && not (byte == 58))) ≡ true
  others = and_second (is_text_byte byte) (not (byte == 34) && (not (byte == 35) && not (byte == 58))) quiet

  no_quote : (byte == 34) ≡ false
  no_quote = not_true (byte == 34) (and_first (not (byte == 34)) (not (byte == 35) && not (byte == 58)) others)

  rest : (not (byte == 35) && not (byte == 58)) ≡ true
  rest = and_second (not (byte == 34)) (not (byte == 35) && not (byte == 58)) others

  no_comment : (byte == 35) ≡ false
  no_comment = not_true (byte == 35) (and_first (not (byte == 35)) (not (byte == 58)) rest)

  no_colon : (byte == 58) ≡ false
  no_colon = not_true (byte == 58) (and_second (not (byte == 35)) (not (byte == 58)) rest)

  chosen : (feed : Bool) → (byte == 10) ≡ feed → not feed ≡ true
  chosen true is =
      let same : byte ≡ 10 = eqb-true byte 10 is in
      let impossible : false ≡ true = ap is_text_byte (sym same) ∙ quiet_text in absurd (cc)
  chosen false is = refl

  no_feed : not (byte == 10) ≡ true
  no_feed = chosen (byte == 10) refl

-- no such byte stands outside of quoted text, where none stands at all
outside : (stop : ℕ) → ((byte : ℕ) → is_quiet byte ≡ true → (byte == stop) ≡ false) → (text : List ℕ)
    → list_all is_quiet text ≡ true → place_outside stop Outside text ≡ length text
outside stop never [] all = refl
outside stop never (byte ∷ bytes) all =
    let first : is_quiet byte ≡ true = and_first (is_quiet byte) (list_all is_quiet bytes) all in
    if_false (byte == stop) (never byte first) 0 (suc (place_outside stop (quote_after Outside byte) bytes))
    ∙ ap (λ quote. suc (place_outside stop quote bytes)) (if_false (byte == 34) (no_quote byte first) _ _)
    ∙ ap suc (outside stop never bytes (and_second (is_quiet byte) (list_all is_quiet bytes) all))

module _ (text : List ℕ) (all : list_all is_quiet text ≡ true) where
  one_line : lines_of text ≡ text ∷ []
  one_line =
      last_of_lines text
      (ap line_end (sym (append-nil text))
      ∙ prefix_all (λ byte. not (byte == 10)) text [] (all_weaker is_quiet
      (λ byte. not (byte == 10)) no_feed text all) refl)

  pub of_text : list_all is_text_byte text ≡ true
  of_text = all_weaker is_quiet is_text_byte quiet_text text all

  no_comments : without_comment text ≡ text
  no_comments = ap (λ n. take n text) (outside 35 no_comment text all) ∙ take-length text

  no_label : parts_of text ≡ record { label = None; rest = after_blanks text }
  no_label =
      ap (parts_at text) (outside 58 no_colon text all)
      ∙ if_false (nat_lt (length text) (length text)) (le-ltb (length text) (length text) (omega arith)) _ _

  pub parts_behind : (behind : List ℕ) → after_blanks text ≡ behind
      → parts_of (without_comment text) ≡ record { label = None; rest = behind }
  parts_behind behind front =
      ap parts_of no_comments ∙ no_label
      ∙ ap (λ t. let parts : Parts = record { label = None; rest = t } in parts) front

  pub parts_are : after_blanks text ≡ text → parts_of (without_comment text) ≡ record { label = None; rest = text }
  parts_are front = parts_behind text front

  -- the whole program
  pub program_alone : (at : ℕ) (statement : Statement) (bytes : List ℕ) → after_blanks text ≡ text
      → statement_of text ≡ Ok (Some statement) → ((place : ℕ) → size statement place ≡ 4)
      → bytes_of statement at [] ≡ Ok bytes → at + 4 ≤ 4_294_901_760 → program_of at text ≡ Ok bytes
  program_alone at statement bytes front said four value within =
      ap (λ ls. first_pass at 1 ls (measure_of [] 0) >>> λ measure. second_pass at 1 ls measure.labels []) one_line
      ∙ ap (λ m. m >>> λ measure. second_pass at 1 (text ∷ []) measure.labels []) first
      ∙ second
    where
      parts : Parts
      parts = record { label = None; rest = text }

      counted : grown at (0 + size statement (at + 0)) [] ≡ Ok (measure_of [] 4)
      counted =
          ap (λ n. grown at (0 + n) []) (four (at + 0))
          ∙ if_true (nat_le 4 16_000_000 && nat_le (at + 4) 4_294_901_760)
          (le-leb (at + 4) 4_294_901_760 within) _ _

      first : first_pass at 1 (text ∷ []) (measure_of [] 0) ≡ Ok (measure_of [] 4)
      first =
          first_more at 1 (text ∷ []) text [] (measure_of [] 0) (measure_of [] 4) refl
          (measured_size at text [] 0 parts [] (Some statement) of_text (parts_are front) refl said ∙ counted)

      placed : at + length {A = ℕ} [] ≡ at
      placed = omega arith

      valued_is : valued (at + length {A = ℕ} []) text [] ≡ Ok bytes
      valued_is =
          ap (λ place. valued place text []) placed
          ∙ ap (λ (p : Parts). statement_of p.rest >>> λ found. bytes_of_found found at []) (parts_are front)
          ∙ ap (λ s. s >>> λ found. bytes_of_found found at []) said
          ∙ value

      second : second_pass at 1 (text ∷ []) [] [] ≡ Ok bytes
      second = ap (λ v. in_line 1 v >>> λ more. second_pass at 2 [] [] ([] ++ more)) valued_is
