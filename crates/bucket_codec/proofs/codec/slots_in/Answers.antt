use Rattle.std.proofs.Common.{sym}
use Rattle.bucket_codec.proofs.Buckets.{slots_in-four}
use Rattle.bucket_codec.proofs.codec.slots_in.Goals as goal

pub returns : goal.returns
returns c =
    sym (slots_in-four c.args.shape.now c.args.body.now c.in_ok-first.first c.in_ok-second.second c.in_ok-third.third
    c.in_ok-last.last c.in_ok-first.ensures.ok c.in_ok-second.ensures.ok c.in_ok-third.ensures.ok
    c.in_ok-last.ensures.ok)
