use Rattle.rv32_table.proofs.EncodedLaws.{encoded-below, decoded-encoded}
use Rattle.rv32_table.proofs.laws.encoded_is_decoded.Goals as goal

pub returns-clause-word : goal.returns-clause-word
returns-clause-word c = encoded-below

pub returns-clause-back : goal.returns-clause-back
returns-clause-back c = decoded-encoded
