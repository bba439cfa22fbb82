use Rattle.bucket_codec.proofs.Opened.{range_if_ok}
use Rattle.bucket_codec.proofs.codec.Codec.open.Goals as goal

pub returns-clause-range : goal.returns-clause-range
returns-clause-range c =
    range_if_ok c.args.shape.now c.opened_body-body.result c.slots_in.result c.slots_in.ensures
