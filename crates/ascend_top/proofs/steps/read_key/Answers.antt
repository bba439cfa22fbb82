use Rattle.ascend_top.proofs.StepLaws.{read_done}
use Rattle.ascend_top.specs.declared.refusal.Source.TheVariants.{Key as KeyFile}
use Rattle.std.proofs.Common.{arith}
use Rattle.ascend_top.specs.Steps.{AKey}
use Rattle.ascend_top.proofs.steps.read_key.Goals as goal

pub returns-in-Err-clause-refused : goal.returns-in-Err-clause-refused
returns-in-Err-clause-refused g c = c.in-Err.ensures.refused AKey

pub returns-clause-read : goal.returns-clause-read
returns-clause-read g c =
    read_done KeyFile c.args.name.now c.in-Ok.file.items AKey (g.H.Host.state c.args.host.now)
    (g.H.Host.state c.read_file.new.host) c.in-Ok.ensures.read
    (omega (arith, c.if-len-lt-KEY_LENGTH.false, c.len.ensures, c.in-Ok.ensures.read.within))
