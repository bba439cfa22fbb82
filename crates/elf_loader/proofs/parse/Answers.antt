-- The image is one of the memory that it was asked for.
use Rattle.std.proofs.Common.{Err, ap}
use Rattle.elf_loader.proofs.Clear.{faultless_readable, one_first}
use Rattle.elf_loader.proofs.Whole.{faultless_image}
use Rattle.elf_loader.proofs.parse.Goals as goal

pub returns-clause-readable : goal.returns-clause-readable
returns-clause-readable c = faultless_readable c.args.base c.args.size c.args.file.now c.in_default.ensures.faultless

pub returns-clause-image : goal.returns-clause-image
returns-clause-image c =
    faultless_image c.args.base c.args.size c.args.file.now _ c.requires c.in_default.ensures.faultless c.in-Ok.ensures
    c.in-Ok-mark_lines.ensures
    c.entry.ensures c.first_break.ensures

pub returns-in-Err-clause-exact : goal.returns-in-Err-clause-exact
returns-in-Err-clause-exact c = λ fault first.
    ap Err (one_first c.args.base c.args.size c.args.file.now c.in-Err.fault fault c.in-Err.ensures.first first)
