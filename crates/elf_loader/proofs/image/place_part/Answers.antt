-- The file part stands in its place.
use Rattle.std.proofs.Common.{rules, ◌-◌}
use Rattle.elf_loader.proofs.Placed.{placed_part}
use Rattle.elf_loader.proofs.image.place_part.Goals as goal

pub returns : goal.returns
returns c =
    placed_part c.args.base c.args.file.now c.args.header.now (c.args.header.now.address - c.args.base)
    c.part.result.now c.args.bytes.now c.place.new.bytes
    (search rules) c.part.ensures.value c.part.ensures.len (search rules) (search rules) (search rules)
