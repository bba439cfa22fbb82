use Rattle.std.proofs.Common.{◌∙◌, sym}
use Rattle.oram_frontend.proofs.oram.Oram.idle_until.Goals as goal

pub returns-in-Ok-clause-serves : goal.returns-in-Ok-clause-serves
returns-in-Ok-clause-serves g c =
    let serves = c.requires.serves c.in_default.is in
    record {
      rests = c.in-Ok.ensures.rests 0 serves.rests;
      shape = serves.shape ∙ sym c.in-Ok.ensures.kept.shape;
    }
