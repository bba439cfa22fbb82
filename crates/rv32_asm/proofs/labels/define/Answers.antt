use Rattle.std.proofs.Common.{arith}
use Rattle.std.proofs.lemmas.Grind.{common_steps}
use Rattle.rv32_asm.proofs.Listing.{defined}
use Rattle.rv32_asm.proofs.labels.define.Goals as goal

pub returns-in-Ok : goal.returns-in-Ok
returns-in-Ok c =
    defined c.args.labels.now c.insert.new.self c.args.label c.in-Some.name c.args.place c.in-Some.is
    (grind (arith, common_steps)) (grind (arith, common_steps)) c.in-Ok.ensures.entries
