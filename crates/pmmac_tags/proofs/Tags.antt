-- What every tag has.
use Rattle.std.proofs.Common.{◌≡◌, ℕ, ◌≤◌, ◌<◌, List, length, arith}
use Rattle.std.proofs.lemmas.List.{length-take-le}
use Rattle.std.proofs.lemmas.List.Elements.{All-take}
use Rattle.asc_base.specs.Bytes.{AreBytes}
use Rattle.asc_base.specs.declared.block.Message.{Message}
use Rattle.hmac_sha.specs.Hmac.{hmac}
use Rattle.hmac_sha.proofs.Codes.{length-hmac, bytes-hmac}
use Rattle.pmmac_tags.specs.Tag.{tag, message_text}

-- a tag has 16 bytes
pub length-tag : (key : List ℕ) (message : Message) → length (tag key message) ≡ 16
unfolding tag
length-tag key message =
    let code = hmac key (message_text message) in
    let enough : 16 ≤ length code = omega (arith, length-hmac key (message_text message)) in
    length-take-le 16 code enough

-- each below 256
pub bytes-tag : (key : List ℕ) (message : Message) → AreBytes (tag key message)
unfolding tag
bytes-tag key message =
    All-take (λ b. b < 256) 16 (hmac key (message_text message)) (bytes-hmac key (message_text message))
