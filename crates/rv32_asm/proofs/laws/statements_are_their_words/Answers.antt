use Rattle.std.proofs.Common.{◌≡◌, ℕ, ◌^◌, ◌<◌, ap, refl}
use Rattle.std.specs.Prelude.{Option, Some, None, Ok}
use Rattle.rv32_table.specs.Table.{decoded}
use Rattle.rv32_table.specs.declared.instruction.Instr.{Instr}
use Rattle.rv32_table.specs.Fits.{Fits}
use Rattle.rv32_table.specs.Encoded.{encoded}
use Rattle.rv32_asm.specs.Passes.{◌>>>◌}
use Rattle.rv32_asm.specs.Disassembly.{text_of_decoded, text_of}
use Rattle.rv32_asm.specs.File.{file_of}
use Rattle.rv32_asm.proofs.SaidLaws.{IsSaid, said_assembles, instruction_said, number_said}
use Rattle.rv32_asm.proofs.laws.statements_are_their_words.Goals as goal

-- what a word is fits, and its word is this one
module _ (word : ℕ) (small : word < 2 ^ 32) (fits : (i : Instr) → decoded word ≡ Some i → Fits i)
    (back : (i : Instr) → decoded word ≡ Some i → encoded i ≡ word) where
  said_of : (found : Option Instr) → decoded word ≡ found → IsSaid word (text_of_decoded word found)
  said_of (Some i) is = instruction_said i word (fits i is) (back i is) small
  said_of None is = number_said word small

pub returns : goal.returns
returns c = λ at word aligned within small.
    let said : IsSaid word (text_of word) =
    said_of word small (λ i. c.decoded_is_encoded.ensures.fits word i small)
    (λ i. c.decoded_is_encoded.ensures.back word i small) (decoded word) refl in
    ap (λ p. p >>> λ bytes. Ok (file_of at bytes)) (said_assembles at word (text_of word) said aligned within)
