-- What every code has.
use Rattle.std.proofs.Common.{◌≡◌, ℕ, zero, suc, ◌<◌, List, length}
use Rattle.std.specs.Int.{w32, to_be_bytes}
use Rattle.std.specs.List.{slice_index}
use Rattle.std.proofs.lemmas.List.Elements.{All-nil, All-append}
use Rattle.asc_base.proofs.Bytes.{bytes-number}
use Rattle.asc_base.specs.Bytes.{AreBytes}
use Rattle.sha2.proofs.Facts256.{length-sha256}
use Rattle.sha2.specs.Sha256.{digest_bytes, sha256}
use Rattle.hmac_sha.specs.Hmac.{hmac, derive}

-- a digest is made of bytes
bytes-digest : (h : List ℕ) (n : ℕ) → AreBytes (digest_bytes h n)
unfolding digest_bytes
bytes-digest h zero = All-nil (λ b. b < 256)
bytes-digest h (suc n) =
    All-append (λ b. b < 256) (digest_bytes h n) (to_be_bytes w32 (slice_index h n)) (bytes-digest h n)
    (bytes-number 4 (slice_index h n))

bytes-sha256 : (text : List ℕ) → AreBytes (sha256 text)
unfolding sha256
bytes-sha256 text = bytes-digest _ 8

-- a code has 32 bytes
pub length-hmac : (key text : List ℕ) → length (hmac key text) ≡ 32
unfolding hmac
length-hmac key text = length-sha256 _

-- each below 256
pub bytes-hmac : (key text : List ℕ) → AreBytes (hmac key text)
unfolding hmac
bytes-hmac key text = bytes-sha256 _

-- a derived key has 32 bytes
pub length-derive : (master label : List ℕ) → length (derive master label) ≡ 32
unfolding derive
length-derive master label = length-hmac master label

-- each below 256
pub bytes-derive : (master label : List ℕ) → AreBytes (derive master label)
unfolding derive
bytes-derive master label = bytes-hmac master label
