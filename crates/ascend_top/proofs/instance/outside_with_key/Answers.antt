use Rattle.std.proofs.Common.{refl}
use Rattle.asc_outside.specs.MemHost.{file_of}
use Rattle.ascend_top.proofs.instance.outside_with_key.Goals as goal

pub returns-clause-files : goal.returns-clause-files
returns-clause-files c =
    (file_of c.add.new.self.files, refl, (c.args.key.now, c.in_ok-add.ensures.set, c.requires.key))
