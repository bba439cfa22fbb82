use Rattle.std.proofs.Common.{replicate}
use Rattle.bucket_codec.proofs.Opened.{unwritten, zeros_seed, never_sealed}
use Rattle.bucket_codec.proofs.laws.unwritten_buckets_are_empty.Goals as goal

pub returns-clause-zeros : goal.returns-clause-zeros
returns-clause-zeros c key shape = unwritten key shape (replicate 376 0x00) zeros_seed

pub returns-clause-unsealed : goal.returns-clause-unsealed
returns-clause-unsealed c = never_sealed

pub returns-clause-seed : goal.returns-clause-seed
returns-clause-seed c = unwritten
