use Rattle.rv32_table.proofs.TableLaws.{Returns, decoded-returns}
use Rattle.rv32_table.proofs.laws.decoded_is_encoded.Goals as goal

pub returns-clause-fits : goal.returns-clause-fits
returns-clause-fits c = λ word instr below e. let h : Returns word instr = decoded-returns word instr below e in h.fits

pub returns-clause-back : goal.returns-clause-back
returns-clause-back c = λ word instr below e. let h : Returns word instr = decoded-returns word instr
    below e in h.word_is
