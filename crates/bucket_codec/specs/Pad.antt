-- The pad of a bucket: the key stream of ChaCha20 (RFC 8439, section 2.3, with a stream's number of 64 bits as the
-- nonce and a block's count of 64 bits) as bytes.
use Rattle.std.specs.Prelude.{ℕ, zero, suc, List, [], ◌++◌, map, codes}
use Rattle.std.specs.Int.{w32, to_le_bytes}
use Rattle.std.specs.Int.RustNames.{bit_xor}
use Rattle.std.specs.List.{zip}
use Rattle.rand_chacha.specs.ChaCha.{word_at, key_of}
use Rattle.hmac_sha.specs.Hmac.{derive}

-- the key of pads that a master key gives
unfoldable pub pad_key : List ℕ → List ℕ
pad_key master = derive master (codes "ascend pad")

-- the bytes of the first n words of a stream under a key of 32 bytes, each word low byte first
unfoldable pub stream_bytes : List ℕ → ℕ → ℕ → List ℕ
stream_bytes key stream zero = []
stream_bytes key stream (suc n) = stream_bytes key stream n ++ to_le_bytes w32 (word_at 10 (key_of key) stream n)

-- the pad of a seed: the first 92 words of the stream that has its number
unfoldable pub pad_of : List ℕ → ℕ → List ℕ
pad_of key seed = stream_bytes key seed 92

-- each byte xor the pad's byte of the same place
unfoldable pub masked : List ℕ → List ℕ → List ℕ
masked pad bytes = map (λ pair. bit_xor pair.0 pair.1) (zip pad bytes)
