use Rattle.std.proofs.Common.{◌≡◌, ◌≤◌, length, arith, lit<}
use Rattle.std.proofs.lemmas.List.{take_all}
use Rattle.rand_core.specs.Steps.{steps_u32}
use Rattle.rand_core.proofs.StepsLemmas.{fill_bytes-value}
use Rattle.rand_chacha.specs.ChaCha.{next_word}
use Rattle.bucket_codec.specs.Pad.{stream_bytes, pad_of}
use Rattle.bucket_codec.proofs.Pads.{generator_at, word_bytes-start, length-stream_bytes}
use Rattle.bucket_codec.proofs.pad.fill.Goals as goal

pub returns : goal.returns
unfolding pad_of
returns c =
    let key = c.args.key.now in
    let seed = c.args.seed in
    let start : c.set_stream.new.self ≡ generator_at key seed 0 =
    rw c.from_seed-generator.ensures at c.set_stream.ensures in
    let value =
    fill_bytes-value (steps_u32 (next_word 10)) (length c.args.into.now) c.set_stream.new.self c.fill_bytes.new.dst _
    c.fill_bytes.ensures in
    let long : length (stream_bytes key seed 92) ≤ 368 = omega (arith, length-stream_bytes key seed 92) in
    rw (
      start,
      c.told-into,
      word_bytes-start key seed 92 (lit< tt),
      take_all 368 (stream_bytes key seed 92) long,
    ) at value
