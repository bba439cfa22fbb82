use Rattle.std.proofs.Common.{◌∙◌}
use Rattle.rv32_asm.proofs.Listing.{looked_up}
use Rattle.rv32_asm.proofs.labels.place_of.Goals as goal

pub returns : goal.returns
returns c =
    c.copied.ensures ∙ c.get.ensures.value ∙ looked_up c.args.labels.now c.args.name.now c.args.labels.now.entries
