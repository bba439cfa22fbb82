-- Pads, and bytes under them.
use Rattle.std.proofs.Common.{◌≡◌, ℕ, zero, suc, ◌+◌, ◌*◌, ◌%◌, ◌^◌, ◌<◌, List, [], ◌∷◌, ◌++◌, length, take, drop}
use Rattle.std.proofs.Common.{get_or, set, bit_xor, refl, ap, sym, ◌∙◌, arith}
use Rattle.std.specs.Int.{w32, to_le_bytes, byte_at}
use Rattle.std.specs.Int.Bits.{xor_assoc, xor_self, xor_zero_l}
use Rattle.std.proofs.lemmas.List.Elements.{All-nil, All-cons, All-head, All-tail, All-append}
use Rattle.std.proofs.lemmas.Nat.{xor_comm, xor_of_8}
use Rattle.std.proofs.lemmas.Grind.{common_steps}
use Rattle.asc_base.proofs.Bytes.{byte_at-below}
use Rattle.asc_base.specs.Bytes.{AreBytes}
use Rattle.rand_core.specs.Steps.{word_bytes}
use Rattle.rand_chacha.specs.ChaCha.{ChaCha, next_word, key_of}
use Rattle.bucket_codec.specs.Pad.{stream_bytes, pad_of, masked}

-- the generator of a key and a stream at a place
abbrev pub generator_at : List ℕ → ℕ → ℕ → ChaCha
generator_at key stream place = record { key = key_of key; stream = stream; word_pos = place }

-- the words that a generator gives from the start of a stream
pub word_bytes-start : (key : List ℕ) (stream n : ℕ) → n < 2 ^ 68
    → word_bytes (to_le_bytes w32) (next_word 10) n (generator_at key stream 0)
    ≡ (stream_bytes key stream n, generator_at key stream n)
unfolding word_bytes stream_bytes
word_bytes-start key stream zero h = refl
word_bytes-start key stream (suc n) h =
    let below : n < 2 ^ 68 = omega arith in
    let place : (n + 1) % 2 ^ 68 ≡ suc n = omega arith in
    rw (word_bytes-start key stream n below, place) refl

pub length-stream_bytes : (key : List ℕ) (stream n : ℕ) → length (stream_bytes key stream n) ≡ 4 * n
unfolding stream_bytes
length-stream_bytes key stream zero = refl
length-stream_bytes key stream (suc n) = grind (arith, common_steps, length-stream_bytes key stream n)

-- a pad has 368 bytes
pub length-pad_of : (key : List ℕ) (seed : ℕ) → length (pad_of key seed) ≡ 368
unfolding pad_of
length-pad_of key seed = length-stream_bytes key seed 92

pub masked-none : (pad bytes : List ℕ) → bytes ≡ masked (take 0 pad) (take 0 bytes) ++ drop 0 bytes
unfolding masked
masked-none pad bytes = refl

-- one byte more under the pad
pub masked-more : (pad bytes : List ℕ) (i : ℕ) → i < length pad → i < length bytes
    → set (masked (take i pad) (take i bytes) ++ drop i bytes) i
    (bit_xor (get_or (masked (take i pad) (take i bytes) ++ drop i bytes) i 0) (get_or pad i 0))
    ≡ masked (take (suc i) pad) (take (suc i) bytes) ++ drop (suc i) bytes
unfolding masked
masked-more [] bytes i h k = absurd (omega arith)
masked-more (p ∷ pad) [] i h k = absurd (omega arith)
masked-more (p ∷ pad) (b ∷ bytes) zero h k = ap (λ x. x ∷ bytes) (xor_comm b p)
masked-more (p ∷ pad) (b ∷ bytes) (suc i) h k =
    ap (λ xs. bit_xor p b ∷ xs) (masked-more pad bytes i (omega arith) (omega arith))

pub length-masked : (pad bytes : List ℕ) → length pad ≡ length bytes → length (masked pad bytes) ≡ length bytes
unfolding masked
length-masked [] [] e = refl
length-masked [] (b ∷ bytes) e = absurd (omega arith)
length-masked (p ∷ pad) [] e = absurd (omega arith)
length-masked (p ∷ pad) (b ∷ bytes) e = ap suc (length-masked pad bytes (omega arith))

-- a pad twice is none
xor_twice : (p b : ℕ) → bit_xor p (bit_xor p b) ≡ b
xor_twice p b = sym (xor_assoc p p b) ∙ ap (λ x. bit_xor x b) (xor_self p) ∙ xor_zero_l b

pub masked-twice : (pad bytes : List ℕ) → length pad ≡ length bytes → masked pad (masked pad bytes) ≡ bytes
unfolding masked
masked-twice [] [] e = refl
masked-twice [] (b ∷ bytes) e = absurd (omega arith)
masked-twice (p ∷ pad) [] e = absurd (omega arith)
masked-twice (p ∷ pad) (b ∷ bytes) e =
    ap (λ x. x ∷ masked pad (masked pad bytes)) (xor_twice p b)
    ∙ ap (λ xs. b ∷ xs) (masked-twice pad bytes (omega arith))

-- a pad is made of bytes, and so are bytes under it
bytes_word : (n : ℕ) → AreBytes (to_le_bytes w32 n)
bytes_word n =
    let P = λ (b : ℕ). b < 256 in
    All-cons P (byte_at 0 n) (byte_at 1 n ∷ byte_at 2 n ∷ byte_at 3 n ∷ []) (byte_at-below 0 n)
    (All-cons P (byte_at 1 n) (byte_at 2 n ∷ byte_at 3 n ∷ []) (byte_at-below 1 n)
    (All-cons P (byte_at 2 n) (byte_at 3 n ∷ []) (byte_at-below 2 n)
    (All-cons P (byte_at 3 n) [] (byte_at-below 3 n) (All-nil P))))

bytes_stream : (key : List ℕ) (stream n : ℕ) → AreBytes (stream_bytes key stream n)
unfolding stream_bytes
bytes_stream key stream zero = All-nil (λ b. b < 256)
bytes_stream key stream (suc n) =
    All-append (λ b. b < 256) (stream_bytes key stream n) _ (bytes_stream key stream n) (bytes_word _)

pub bytes_pad : (key : List ℕ) (seed : ℕ) → AreBytes (pad_of key seed)
unfolding pad_of
bytes_pad key seed = bytes_stream key seed 92

pub bytes_masked : (pad bytes : List ℕ) → AreBytes pad → AreBytes bytes → AreBytes (masked pad bytes)
unfolding masked
bytes_masked [] bytes h k = All-nil (λ b. b < 256)
bytes_masked (p ∷ pad) [] h k = All-nil (λ b. b < 256)
bytes_masked (p ∷ pad) (b ∷ bytes) h k =
    let P = λ (x : ℕ). x < 256 in
    All-cons P (bit_xor p b) (masked pad bytes) (xor_of_8 p b (All-head P p pad h) (All-head P b bytes k))
    (bytes_masked pad bytes (All-tail P p pad h) (All-tail P b bytes k))
