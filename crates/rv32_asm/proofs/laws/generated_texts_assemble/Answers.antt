use Rattle.rv32_asm.proofs.GeneratorLaws.{text_short, text_assembles}
use Rattle.rv32_asm.proofs.laws.generated_texts_assemble.Goals as goal

pub returns-clause-short : goal.returns-clause-short
returns-clause-short c = text_short

pub returns-clause-file : goal.returns-clause-file
returns-clause-file c = text_assembles
