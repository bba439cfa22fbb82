use Rattle.std.proofs.Common.{◌≡◌, ◌++◌, ◌∷◌, map, string_bytes}
use Rattle.rv32_asm.specs.Generator.{number_at, data_words, program_lines, number_line, text_of_lines}
use Rattle.rv32_asm.proofs.generator.generated_text.Given as goal

abbrev pub invariant-loop : goal.invariant-loop
invariant-loop l = record {
  number : l.number ≡ number_at l.seed l.counter;
  text : string_bytes l.text
      ≡ text_of_lines (program_lines ++ map number_line (l.words ∷ data_words l.seed l.counter));
}
