-- A vector of the standard, so that a wrong constant or order in the definition of the key stream does not check.
use Rattle.std.proofs.Common.{◌≡◌, [], ◌∷◌, replicate, refl}
use Rattle.rand_core.specs.Steps.{u32_at}
use Rattle.rand_chacha.specs.Block.{quarter_round, column_round, diagonal_round, double_rounds, block_word}
use Rattle.bucket_codec.specs.Pad.{stream_bytes}

-- RFC 8439, A.1, test vector 1: the first bytes of the key stream of the zero key
pub zero_key : stream_bytes (replicate 32 0) 0 3 ≡
    0x76 ∷ 0xb8 ∷ 0xe0 ∷ 0xad ∷ 0xa0 ∷ 0xf1 ∷ 0x3d ∷ 0x90 ∷ 0x40 ∷ 0x5d ∷ 0x6a ∷ 0xe5 ∷ []
unfolding stream_bytes u32_at quarter_round column_round diagonal_round double_rounds block_word
zero_key = refl
