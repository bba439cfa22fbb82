use Rattle.std.proofs.Common.{◌≡◌, ◌++◌, take, drop}
use Rattle.bucket_codec.specs.Pad.{masked}
use Rattle.bucket_codec.proofs.pad.mask.Given as goal

abbrev pub invariant-loop-place : goal.invariant-loop-place
invariant-loop-place l =
    l.bytes ≡ masked (take l.place l.pad) (take l.place l.initial.bytes) ++ drop l.place l.initial.bytes
