-- Slots and their bytes.
use Rattle.std.proofs.Common.{◌≡◌, ◌≢◌, ℕ, ◌+◌, ◌^◌, ◌<◌, Bool, true, false, ◌&&◌, not, List, ◌++◌, length, take, drop}
use Rattle.std.proofs.Common.{get_or, length-append, Option, Some, None, refl, sym, ap, ◌∙◌, arith}
use Rattle.std.specs.Bool.{Decides}
use Rattle.std.specs.Int.{w32, to_be_bytes}
use Rattle.std.specs.Str.{bytes_eq}
use Rattle.std.proofs.lemmas.Bool.{lt-ltb}
use Rattle.std.proofs.lemmas.Bool.Decides.{Decides-ltb}
use Rattle.std.proofs.lemmas.List.{take_all}
use Rattle.std.proofs.lemmas.Nat.{from_be_bytes-to_be_bytes_4}
use Rattle.std.proofs.lemmas.Slice.Eq.{bytes_eq-Decides}
use Rattle.asc_base.specs.declared.block.Entry.{Entry}
use Rattle.asc_base.specs.declared.shape.Shape.{Shape}
use Rattle.bucket_codec.proofs.Lists.{taken, dropped}
use Rattle.bucket_codec.specs.Slot.{flag, entry_text, empty_text, slot_text, entry_in, is_placed, slot_in, IsEntry}
use Rattle.bucket_codec.specs.Slot.{IsSlot, IsInRange}

-- a test of what doesn't hold
pub is_false : (b : Bool) (P : Type 0) → Decides b P → (P → ⊥) → b ≡ false
is_false true P d never = absurd (never (d.0 refl))
is_false false P d never = refl

and_false : (b : Bool) → (b && false) ≡ false
and_false true = refl
and_false false = refl

-- what a test's negation says of it
pub not_true : (b : Bool) → true ≡ not b → b ≡ false
not_true true e = absurd (cc)
not_true false e = refl

pub not_false : (b : Bool) → false ≡ not b → b ≡ true
not_false true e = refl
not_false false e = absurd (cc)

pub is_placed-true : (shape : Shape) (entry : Entry) → entry.address.0 < shape.total → entry.leaf.0 < 2 ^ shape.levels
    → is_placed shape entry ≡ true
is_placed-true shape entry h k =
    rw (lt-ltb entry.address.0 shape.total h, lt-ltb entry.leaf.0 (2 ^ shape.levels) k) refl

pub is_placed-far : (shape : Shape) (entry : Entry) → (entry.address.0 < shape.total → ⊥)
    → is_placed shape entry ≡ false
is_placed-far shape entry never =
    rw (is_false _ (entry.address.0 < shape.total) (Decides-ltb entry.address.0 shape.total) never) refl

pub is_placed-high : (shape : Shape) (entry : Entry) → (entry.leaf.0 < 2 ^ shape.levels → ⊥)
    → is_placed shape entry ≡ false
is_placed-high shape entry never =
    rw (is_false _ (entry.leaf.0 < 2 ^ shape.levels) (Decides-ltb entry.leaf.0 (2 ^ shape.levels)) never) (and_false _)

-- the four cases of a slot's bytes
pub slot_in-empty : (shape : Shape) (text : List ℕ) → bytes_eq text empty_text ≡ true → slot_in shape text ≡ Some None
unfolding slot_in
slot_in-empty shape text e = rw e refl

pub slot_in-no_flag : (shape : Shape) (text : List ℕ) → bytes_eq text empty_text ≡ false
    → bytes_eq (take 4 text) flag ≡ false
    → slot_in shape text ≡ None
unfolding slot_in
slot_in-no_flag shape text n m = rw (n, m) refl

pub slot_in-outside : (shape : Shape) (text : List ℕ) → bytes_eq text empty_text ≡ false
    → bytes_eq (take 4 text) flag ≡ true
    → is_placed shape (entry_in text) ≡ false → slot_in shape text ≡ None
unfolding slot_in
slot_in-outside shape text n f out = rw (n, f, out) refl

pub slot_in-entry : (shape : Shape) (text : List ℕ) → bytes_eq text empty_text ≡ false
    → bytes_eq (take 4 text) flag ≡ true
    → is_placed shape (entry_in text) ≡ true → slot_in shape text ≡ Some (Some (entry_in text))
unfolding slot_in
slot_in-entry shape text n f inside = rw (n, f, inside) refl

-- an entry by its parts
entry_of : ℕ → ℕ → List ℕ → List ℕ → Entry
entry_of address leaf bytes tag =
    record { address = record { 0 = address }; leaf = record { 0 = leaf }; line = record { 0 = bytes }; tag = tag }

pub same_entry : (x y : Entry) → x.address.0 ≡ y.address.0 → x.leaf.0 ≡ y.leaf.0 → x.line.0 ≡ y.line.0
    → x.tag ≡ y.tag → x ≡ y
unfolding entry_of
same_entry x y p q r s =
    ap (λ n. entry_of n x.leaf.0 x.line.0 x.tag) p ∙ ap (λ n. entry_of y.address.0 n x.line.0 x.tag) q
    ∙ ap (λ bytes. entry_of y.address.0 y.leaf.0 bytes x.tag) r ∙ ap (entry_of y.address.0 y.leaf.0 y.line.0) s

-- an entry's bytes give it back
pub entry_in-text : (entry : Entry) → IsEntry entry → entry_in (entry_text entry) ≡ entry
unfolding entry_in entry_text
entry_in-text entry is =
    let tag : take 16 (drop 64 (entry.line.0 ++ entry.tag)) ≡ entry.tag =
    ap (take 16) (dropped entry.line.0 entry.tag 64 is.line) ∙ take_all 16 entry.tag (omega (arith, is.tag)) in
    same_entry (entry_in (entry_text entry)) entry (from_be_bytes-to_be_bytes_4 entry.address.0 is.address)
    (from_be_bytes-to_be_bytes_4 entry.leaf.0 is.leaf) (taken entry.line.0 entry.tag 64 is.line) tag

-- an entry's bytes aren't those of an empty slot
pub entry_text-not_empty : (entry : Entry) → entry_text entry ≢ empty_text
unfolding entry_text empty_text
entry_text-not_empty entry same = let first : 1 ≡ 0 = ap (λ t. get_or t 0 0) same in absurd (omega (arith, first))

entry_text-flag : (entry : Entry) → take 4 (entry_text entry) ≡ flag
unfolding entry_text
entry_text-flag entry = refl

-- a slot's bytes give it back
pub slot_in-text : (shape : Shape) (slot : Option Entry) → IsSlot slot → IsInRange shape slot
    → slot_in shape (slot_text slot) ≡ Some slot
slot_in-text shape None is range = slot_in-empty shape empty_text ((bytes_eq-Decides empty_text empty_text).1 refl)
slot_in-text shape (Some entry) is range =
    let same : entry_in (entry_text entry) ≡ entry = entry_in-text entry is in
    let inside : is_placed shape (entry_in (entry_text entry)) ≡ true =
    rw same (is_placed-true shape entry range.0 range.1) in
    let other = is_false _ _ (bytes_eq-Decides (entry_text entry) empty_text) (entry_text-not_empty entry) in
    let flagged = (bytes_eq-Decides (take 4 (entry_text entry)) flag).1 (entry_text-flag entry) in
    slot_in-entry shape (entry_text entry) other flagged inside
    ∙ ap (λ x. Some (Some x)) same

-- different slots have different bytes
pub slot_of_text : (x y : Option Entry) → IsSlot x → IsSlot y → slot_text x ≡ slot_text y → x ≡ y
slot_of_text None None h k e = refl
slot_of_text None (Some y) h k e = absurd (entry_text-not_empty y (sym e))
slot_of_text (Some x) None h k e = absurd (entry_text-not_empty x e)
slot_of_text (Some x) (Some y) h k e = ap Some (sym (entry_in-text x h) ∙ ap entry_in e ∙ entry_in-text y k)

-- a slot has 92 bytes
pub length-slot_text : (slot : Option Entry) → IsSlot slot → length (slot_text slot) ≡ 92
unfolding entry_text empty_text
length-slot_text None is = refl
length-slot_text (Some entry) is =
    let front = flag ++ (to_be_bytes w32 entry.address.0 ++ to_be_bytes w32 entry.leaf.0) in
    let whole : length (entry_text entry) ≡ 12 + length (entry.line.0 ++ entry.tag) =
    length-append front (entry.line.0 ++ entry.tag) in
    let long : length (entry.line.0 ++ entry.tag) ≡ 80 =
    omega (arith, length-append entry.line.0 entry.tag, is.line, is.tag) in
    whole ∙ ap (λ n. 12 + n) long
