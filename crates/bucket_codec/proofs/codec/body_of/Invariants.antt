use Rattle.std.proofs.Common.{◌≡◌, ◌++◌, ◌*◌, take, drop, All}
use Rattle.bucket_codec.specs.Bucket.{body_text}
use Rattle.bucket_codec.specs.Slot.{IsSlot}
use Rattle.bucket_codec.proofs.codec.body_of.Given as goal

abbrev pub invariant-loop-place : goal.invariant-loop-place
invariant-loop-place l = record {
  text : l.body ≡ body_text (take l.place l.slots) ++ drop (92 * l.place) l.initial.body;
  slots : All IsSlot (take l.place l.slots);
}
