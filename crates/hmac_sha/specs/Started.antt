-- Hashers that have taken in a key.
use Rattle.std.specs.Prelude.{ℕ, List}
use Rattle.sha2.specs.Hashers.{Holds256}
use Rattle.sha2.specs.declared.Sha256.{Sha256}
use Rattle.hmac_sha.specs.Hmac.{key_pad, inner_pad, outer_pad}

-- they hold the key's blocks under the two pads, and nothing more (RFC 2104, section 4)
pub record AreStarted (key : List ℕ) (inner outer : Sha256) : Type 0 where
  pub inner_pad : Holds256 inner (key_pad inner_pad key)
  pub outer_pad : Holds256 outer (key_pad outer_pad key)
