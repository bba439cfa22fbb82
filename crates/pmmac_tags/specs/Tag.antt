-- Which tag a key gives a message. All numbers are written high byte first.
use Rattle.std.specs.Prelude.{ℕ, ◌^◌, ◌<◌, List, ◌++◌, take, codes}
use Rattle.std.specs.Int.{w16, w32, w64, to_be_bytes}
use Rattle.asc_base.specs.declared.block.Message.{Message}
use Rattle.hmac_sha.specs.Hmac.{hmac, derive}

-- the text of a message: its address (4 bytes), its group's count (8), its own count (2) and its line
unfoldable pub message_text : Message → List ℕ
message_text message =
    to_be_bytes w32 message.address.0 ++ (to_be_bytes w64 message.counter.group
    ++ (to_be_bytes w16 message.counter.own ++ message.line.0))

-- the numbers of a message are in the ranges of their types
pub record IsMessage (message : Message) : Type 0 where
  pub address : message.address.0 < 2 ^ 32
  pub group : message.counter.group < 2 ^ 64
  pub own : message.counter.own < 2 ^ 16

-- the key of tags that a master key gives
unfoldable pub tag_key : List ℕ → List ℕ
tag_key master = derive master (codes "ascend tag")

-- the first 16 bytes of the code of the message's text
unfoldable pub tag : List ℕ → Message → List ℕ
tag key message = take 16 (hmac key (message_text message))
