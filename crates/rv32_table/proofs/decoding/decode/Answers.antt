use Rattle.std.proofs.Common.{◌≡◌, ℕ, ◌<◌, ◌^◌, sym, ◌∙◌, arith}
use Rattle.std.specs.Prelude.{Option, Some, None, IfSome}
use Rattle.rv32_table.specs.Fits.{Fits}
use Rattle.rv32_table.specs.Table.{decoded}
use Rattle.rv32_table.specs.Encoded.{encoded}
use Rattle.rv32_table.specs.declared.instruction.Instr.{Instr}
use Rattle.rv32_table.proofs.TableLaws.{decoded-by_opcode, decoded-returns, Returns, outside-decoded, decoded-outside}
use Rattle.rv32_table.proofs.decoding.decode.Goals as goal

-- what is decoded fits, and its word is this one
fits_of : (word : ℕ) → word < 2 ^ 32 → (found : Option Instr) → found ≡ decoded word → IfSome found Fits
fits_of word below None e = tt
fits_of word below (Some i) e = let h : Returns word i = decoded-returns word i below (sym e) in h.fits

back_of : (word : ℕ) → word < 2 ^ 32 → (found : Option Instr) → found ≡ decoded word
    → IfSome found (λ instr. encoded instr ≡ word)
back_of word below None e = tt
back_of word below (Some i) e = let h : Returns word i = decoded-returns word i below (sym e) in h.word_is

pub returns-clause-row : goal.returns-clause-row
returns-clause-row c = c.decode_fields.ensures ∙ sym (decoded-by_opcode c.args.word (omega arith))

pub returns-clause-illegal : goal.returns-clause-illegal
returns-clause-illegal c =
    let row : c.decode_fields.result ≡ decoded c.args.word = returns-clause-row c in
    (λ none. decoded-outside c.args.word (sym row ∙ none), λ outside. row ∙ outside-decoded c.args.word outside)

pub returns-clause-fits : goal.returns-clause-fits
returns-clause-fits c = fits_of c.args.word (omega arith) c.decode_fields.result (returns-clause-row c)

pub returns-clause-back : goal.returns-clause-back
returns-clause-back c = back_of c.args.word (omega arith) c.decode_fields.result (returns-clause-row c)
