-- Messages and their texts.
use Rattle.std.proofs.Common.{◌≡◌, ℕ, List, take, drop, ap, ◌∙◌}
use Rattle.asc_base.proofs.Bytes.{number_of_2, number_of_4, number_of_8}
use Rattle.asc_base.specs.declared.block.Message.{Message}
use Rattle.pmmac_tags.specs.Tag.{message_text, IsMessage}

-- a message of its numbers and its bytes
abbrev message_of : ℕ → ℕ → ℕ → List ℕ → Message
message_of address group own bytes = record {
  address = record { 0 = address };
  counter = record { group = group; own = own };
  line = record { 0 = bytes };
}

same_message : (x y : Message) → x.address.0 ≡ y.address.0 → x.counter.group ≡ y.counter.group
    → x.counter.own ≡ y.counter.own → x.line.0 ≡ y.line.0 → x ≡ y
same_message x y p q r s =
    ap (λ n. message_of n x.counter.group x.counter.own x.line.0) p
    ∙ ap (λ n. message_of y.address.0 n x.counter.own x.line.0) q
    ∙ ap (λ n. message_of y.address.0 y.counter.group n x.line.0) r
    ∙ ap (message_of y.address.0 y.counter.group y.counter.own) s

-- a text is that of one message
pub message_of_text : (x y : Message) → IsMessage x → IsMessage y → message_text x ≡ message_text y → x ≡ y
unfolding message_text
message_of_text x y h k e =
    same_message x y (number_of_4 x.address.0 y.address.0 h.address k.address (ap (take 4) e))
    (number_of_8 x.counter.group y.counter.group h.group k.group (ap (λ t. take 8 (drop 4 t)) e))
    (number_of_2 x.counter.own y.counter.own h.own k.own (ap (λ t. take 2 (drop 12 t)) e))
    (ap (drop 14) e)
