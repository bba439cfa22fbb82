use Rattle.std.proofs.Common.{◌≡◌, ◌<◌, ◌^◌, true, false, take, sym, refl, arith}
use Rattle.std.specs.Str.{bytes_eq}
use Rattle.bucket_codec.proofs.Slots.{not_true, not_false, slot_in-empty, slot_in-no_flag, slot_in-outside}
use Rattle.bucket_codec.proofs.Slots.{slot_in-entry, is_placed-true, is_placed-far, is_placed-high}
use Rattle.bucket_codec.specs.Slot.{empty_text, flag}
use Rattle.bucket_codec.proofs.slot.slot_in.Goals as goal

pub returns-then-eq : goal.returns-then-eq
returns-then-eq c =
    let test : bytes_eq c.args.text.now empty_text ≡ true =
    sym (rw (c.as_slice.ensures, c.as_slice-2.ensures, c.empty_text.ensures) at c.if-eq.ensures) in
    sym (slot_in-empty c.args.shape.now c.args.text.now test)

pub returns-then-ne : goal.returns-then-ne
returns-then-ne c =
    let test : bytes_eq c.args.text.now empty_text ≡ false =
    sym (rw (c.as_slice.ensures, c.as_slice-2.ensures, c.empty_text.ensures) at c.if-eq.ensures) in
    let flagged : bytes_eq (take 4 c.args.text.now) flag ≡ false =
    not_true (bytes_eq (take 4 c.args.text.now) flag) (rw c.as_slice-3.ensures at c.if-ne.ensures) in
    sym (slot_in-no_flag c.args.shape.now c.args.text.now test flagged)

pub returns-then-entry-shape : goal.returns-then-entry-shape
returns-then-entry-shape c =
    let test : bytes_eq c.args.text.now empty_text ≡ false =
    sym (rw (c.as_slice.ensures, c.as_slice-2.ensures, c.empty_text.ensures) at c.if-eq.ensures) in
    let flagged : bytes_eq (take 4 c.args.text.now) flag ≡ true =
    not_false (bytes_eq (take 4 c.args.text.now) flag) (rw c.as_slice-3.ensures at c.if-ne.ensures) in
    let far =
    is_placed-far c.args.shape.now c.entry_in-entry.result
    (λ (h : c.entry_in-entry.result.address.0 < c.args.shape.now.total). absurd (omega arith)) in
    sym (slot_in-outside c.args.shape.now c.args.text.now test flagged (rw c.entry_in-entry.ensures at far))

pub returns-then-not-is_leaf : goal.returns-then-not-is_leaf
returns-then-not-is_leaf c =
    let test : bytes_eq c.args.text.now empty_text ≡ false =
    sym (rw (c.as_slice.ensures, c.as_slice-2.ensures, c.empty_text.ensures) at c.if-eq.ensures) in
    let flagged : bytes_eq (take 4 c.args.text.now) flag ≡ true =
    not_false (bytes_eq (take 4 c.args.text.now) flag) (rw c.as_slice-3.ensures at c.if-ne.ensures) in
    let high =
    is_placed-high c.args.shape.now c.entry_in-entry.result
    (λ (h : c.entry_in-entry.result.leaf.0 < 2 ^ c.args.shape.now.levels).
    let refused : false ≡ true = c.if-not-is_leaf.ensures.1 h in absurd (cc)) in
    sym (slot_in-outside c.args.shape.now c.args.text.now test flagged (rw c.entry_in-entry.ensures at high))

pub returns : goal.returns
returns c =
    let test : bytes_eq c.args.text.now empty_text ≡ false =
    sym (rw (c.as_slice.ensures, c.as_slice-2.ensures, c.empty_text.ensures) at c.if-eq.ensures) in
    let flagged : bytes_eq (take 4 c.args.text.now) flag ≡ true =
    not_false (bytes_eq (take 4 c.args.text.now) flag) (rw c.as_slice-3.ensures at c.if-ne.ensures) in
    let inside =
    is_placed-true c.args.shape.now c.entry_in-entry.result c.if-entry-shape.false (c.if-not-is_leaf.ensures.0 refl) in
    rw c.entry_in-entry.ensures
    (sym (slot_in-entry c.args.shape.now c.args.text.now test flagged (rw c.entry_in-entry.ensures at inside)))
