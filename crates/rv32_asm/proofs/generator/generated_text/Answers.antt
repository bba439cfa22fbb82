use Rattle.std.proofs.Common.{◌≡◌, ◌∙◌, ◌/◌, ◌^◌, ◌++◌, ◌∷◌, List, ℕ, ◌+◌, suc, ap, map, string_bytes, arith, rules}
use Rattle.rv32_asm.specs.Generator.{number_after, number_at, data_word, data_words, program_lines, number_line, ended}
use Rattle.rv32_asm.specs.Generator.{text_of_lines}
use Rattle.rv32_asm.proofs.GeneratorLaws.{text_start, text_more}
use Rattle.rv32_asm.proofs.generator.generated_text.Goals as goal

pub loop-init : goal.loop-init
unfolding program_lines
loop-init c = record {
  number = search rules;
  text = c.in_ok-push_number.ensures {u = tt}
      ∙ ap (λ front. front ++ ended (number_line c.args.words)) (c.in_ok-text.ensures.ok)
      ∙ text_start c.args.words;
}

more : (seed words counter number : ℕ) (old new : List ℕ) → number ≡ number_at seed (suc counter)
    → old ≡ text_of_lines (program_lines ++ map number_line (words ∷ data_words seed counter))
    → new ≡ old ++ ended (number_line (number / 2 ^ 32))
    → new ≡ text_of_lines (program_lines ++ map number_line (words ∷ data_words seed (suc counter)))
more seed words counter number old new is before appended =
    appended
    ∙ ap (λ front. front ++ ended (number_line (number / 2 ^ 32))) before
    ∙ ap (λ n. text_of_lines (program_lines ++ map number_line (words ∷ data_words seed counter))
    ++ ended (number_line (n / 2 ^ 32))) is
    ∙ text_more program_lines (words ∷ data_words seed counter) (data_word seed counter)

pub loop-preserved : goal.loop-preserved
loop-preserved c =
    let next : suc c.loop.counter ≡ c.loop.counter + 1 = omega arith in
    let number : c.number_after-number.result ≡ number_at c.args.seed (suc c.loop.counter) =
    c.number_after-number.ensures ∙ ap number_after c.loop.invariant.number in
    record {
      number = number ∙ ap (number_at c.args.seed) next;
      text = more c.args.seed c.args.words c.loop.counter c.number_after-number.result (string_bytes c.loop.text)
          (string_bytes c.push_number-in-loop.new.text) number c.loop.invariant.text
          (c.in_ok-push_number-2.ensures {u = tt})
          ∙ ap (λ n. text_of_lines (program_lines ++ map number_line (c.args.words ∷ data_words c.args.seed n))) next;
    }
