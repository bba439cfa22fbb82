-- What stands behind each request of a plan, whatever was answered before it.
use Rattle.std.proofs.Common.{◌≡◌, ◌<◌, ℕ, length, Option, None, Some, Result, refl}
use Rattle.request_plan.specs.Plan.{Plan, Done, Ask, Ends, bind}
use Rattle.asc_base.specs.declared.block.Address.{Address}
use Rattle.asc_base.specs.declared.block.Counter.{Counter}
use Rattle.asc_base.specs.declared.block.Line.{Line}
use Rattle.asc_base.specs.declared.block.Message.{Message}
use Rattle.asc_base.specs.declared.stop.Stop.{Stop}
use Rattle.oram_walk.specs.Request.{Request, Slot, Append, Answer, Room}
use Rattle.oram_walk.specs.declared.slots.Access.{Access}
use Rattle.oram_walk.specs.declared.slots.Purpose.{Purpose}
use Rattle.oram_walk.specs.declared.slots.Purpose.TheVariants.{Refill, Keep, Replace}
use Rattle.oram_walk.specs.declared.slots.Seen.{Seen}

-- a line that is put in the place of the one that was found has 64 bytes
abbrev pub IsWhole : Purpose → Type 0
IsWhole Refill = Unit {0}
IsWhole Keep = Unit {0}
IsWhole (Replace value) = length value.0 ≡ 64

-- what a request stands behind, as far as it is known: the slot of an access, with what it answered
abbrev pub Last : Type 0
Last = Option (Access × Seen)

-- what is put back in the slot of an access in which this line was found
abbrev pub put_by : Address → Counter → Purpose → Line → Option Message
put_by address next Refill line = None
put_by address next Keep line = Some (record { address = address; counter = next; line = line })
put_by address next (Replace value) line = Some (record { address = address; counter = next; line = value })

abbrev pub put_back : Access → Line → Option Message
put_back access line = put_by access.address access.next access.purpose line

-- behind a refill, another block's message of 64 bytes, of one of so many blocks
abbrev pub IsBeside : ℕ → Last → Message → Type 0
IsBeside total None m = ⊥
IsBeside total (Some (access, seen)) m = (access.purpose ≡ Refill) × (m.address.0 ≡ access.address.0 → ⊥)
    × (m.address.0 < total) × (length m.line.0 ≡ 64)

-- the line that was seen of this block, and kept
abbrev pub IsSeen : Last → ℕ → Line → Type 0
IsSeen None number value = ⊥
IsSeen (Some (access, seen)) number value =
    (access.purpose ≡ Keep) × (number ≡ access.address.0) × (value ≡ seen.line)

-- The plan accesses only blocks of so many. Right behind a refill it may append another block's message, and right
-- behind the slot of a block whose line is kept, answer the line that was seen; it does so at most once. It is told
-- what it begins behind, and what is known of its end: what it ends behind, and the outcome.
abbrev pub AsksRightly : {B A : Type 0} → ℕ → Last → (Last → A → Type 0) → Plan Request Seen B A → Type 0
AsksRightly total last P (Done a) = P last a
AsksRightly total last P (Ask (Slot access) b k) =
    (access.address.0 < total) × IsWhole access.purpose
    × ((x : Seen) → AsksRightly total (Some (access, x)) P (k x))
AsksRightly total last P (Ask (Append message) b k) =
    IsBeside total last message × ((x : Seen) → AsksRightly total None P (k x))
AsksRightly total last P (Ask (Answer line value) b k) =
    IsSeen last line value × ((x : Seen) → AsksRightly total None P (k x))
AsksRightly total last P (Ask Room b k) = (x : Seen) → AsksRightly total last P (k x)

-- steps that may answer anything
abbrev pub any : Unit {0} → Request → Result Seen Stop → Unit {0} → Type 0
any old request answer new = Unit {0}

-- One plan after another. The second may rest on how the first came to its outcome.
pub asks_bind : {B C A D : Type 0} (total : ℕ) (P : Last → A → Type 0) (Q : Last → D → Type 0) (put : B → C)
    (p : Plan Request Seen B A) (next : A → Plan Request Seen C D) (last : Last) → AsksRightly total last P p
    → ((a : A) (now : Last) → Ends any p tt tt a → P now a → AsksRightly total now Q (next a))
    → AsksRightly total last Q (bind put p next)
asks_bind total P Q put (Done a) next last h each = each a last (refl, refl) h
asks_bind total P Q put (Ask (Slot access) b k) next last h each = (
  h.0,
  h.1,
  λ x. asks_bind total P Q put (k x) next (Some (access, x)) (h.2 x)
      (λ a now ends. each a now (x, tt, tt, ends)),
)
asks_bind total P Q put (Ask (Append message) b k) next last h each =
    (h.0, λ x. asks_bind total P Q put (k x) next None (h.1 x) (λ a now ends. each a now (x, tt, tt, ends)))
asks_bind total P Q put (Ask (Answer line value) b k) next last h each =
    (h.0, λ x. asks_bind total P Q put (k x) next None (h.1 x) (λ a now ends. each a now (x, tt, tt, ends)))
asks_bind total P Q put (Ask Room b k) next last h each =
    λ x. asks_bind total P Q put (k x) next last (h x) (λ a now ends. each a now (x, tt, tt, ends))
