use Rattle.std.proofs.Common.{◌∙◌, ap}
use Rattle.rv32_table.specs.Table.{decoded}
use Rattle.rv32_table.proofs.EncodedLaws.{decoded-encoded}
use Rattle.rv32_table.proofs.encoding.encode.Goals as goal

pub returns-clause-back : goal.returns-clause-back
returns-clause-back c = ap decoded c.encode_form.ensures ∙ decoded-encoded c.args.instr.now c.requires
