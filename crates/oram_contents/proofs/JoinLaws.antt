-- What a path read joins, where there is no evidence.
use Rattle.std.proofs.Common.{◌≡◌, ◌+◌, ℕ, Bool, true, false, if◌then◌else◌, List, [], ◌∷◌, ◌++◌, flat_map, Option}
use Rattle.std.proofs.Common.{None, Some, Result, Ok, Err, is_some, refl, sym, ◌∙◌, ap, append_assoc, append-nil, ◌==◌}
use Rattle.std.specs.Option.{option_to_list}
use Rattle.asc_base.specs.TreeShape.{bucket_of}
use Rattle.asc_base.specs.declared.block.Entry.{Entry}
use Rattle.asc_base.specs.declared.stop.Evidence.{Evidence}
use Rattle.asc_base.specs.declared.stop.Evidence.TheVariants.{OffPath, Doubled}
use Rattle.bucket_codec.specs.declared.codec.BadSlot.{BadSlot as Bad}
use Rattle.oram_stash.specs.Entries.{held}
use Rattle.oram_contents.specs.Contents.{entries_of}
use Rattle.oram_contents.specs.PathRead.{join_entry, join_slots, join_bucket, join_buckets, then_join}

ok_is : {a b : List Entry} → (let r : Result (List Entry) Evidence = Ok a in r ≡ Ok b) → a ≡ b
ok_is e = cc

not_ok : {e : Evidence} {b : List Entry} {P : Type 0} → (let r : Result (List Entry) Evidence = Err e in r ≡ Ok b) → P
not_ok {e} {b} {P} is = absurd (let bad : Err e ≡ Ok b = is in cc)

then_ok : (r : Result (List Entry) Evidence) (next : List Entry → Result (List Entry) Evidence) (joined : List Entry)
    → then_join r next ≡ Ok joined → (mid : List Entry) × (r ≡ Ok mid) × (next mid ≡ Ok joined)
then_ok (Ok mid) next joined is = (mid, refl, is)
then_ok (Err e) next joined is = not_ok is

entry-joined : (levels leaf level slot : ℕ) (entry : Entry) (hand joined : List Entry)
    → join_entry levels leaf level slot entry hand ≡ Ok joined → joined ≡ hand ++ entry ∷ []
entry-joined levels leaf level slot entry hand joined = both
    (bucket_of levels entry.leaf.0 level == bucket_of levels leaf level) (is_some (held hand entry.address))
  where
    both : (b c : Bool) → (if b then (if c then Err (Doubled entry.address) else Ok (hand ++ entry ∷ [])) else Err
        (OffPath (bucket_of levels leaf level) slot)) ≡ Ok joined → joined ≡ hand ++ entry ∷ []
    both true true is = not_ok is
    both true false is = sym (ok_is is)
    both false c is = not_ok is

slots-joined : (levels leaf level slot : ℕ) (slots : List (Option Entry)) (hand joined : List Entry)
    → join_slots levels leaf level slot slots hand ≡ Ok joined → joined ≡ hand ++ flat_map option_to_list slots
slots-joined levels leaf level slot [] hand joined is = sym (ok_is is) ∙ sym (append-nil hand)
slots-joined levels leaf level slot (None ∷ rest) hand joined is = slots-joined levels leaf level
    (slot + 1) rest hand joined is
slots-joined levels leaf level slot (Some entry ∷ rest) hand joined is =
    let parts = then_ok (join_entry levels leaf level slot entry hand)
    (join_slots levels leaf level (slot + 1) rest) joined is in
    slots-joined levels leaf level (slot + 1) rest parts.0 joined parts.2
    ∙ ap (λ h. h ++ flat_map option_to_list rest) (entry-joined levels leaf level slot entry hand parts.0 parts.1)
    ∙ append_assoc hand (entry ∷ []) (flat_map option_to_list rest)

bucket-joined : (levels leaf level : ℕ) (bucket : Result (List (Option Entry)) Bad) (hand joined : List Entry)
    → join_bucket levels leaf level bucket hand ≡ Ok joined → joined ≡ hand ++ entries_of bucket
bucket-joined levels leaf level (Ok slots) hand joined is = slots-joined levels leaf level 0 slots hand joined is
bucket-joined levels leaf level (Err bad) hand joined is = not_ok is

pub buckets-joined : (levels leaf level : ℕ) (buckets : List (Result (List (Option Entry)) Bad))
    (hand joined : List Entry) → join_buckets levels leaf level buckets hand ≡ Ok joined
    → joined ≡ hand ++ flat_map entries_of buckets
buckets-joined levels leaf level [] hand joined is = sym (ok_is is) ∙ sym (append-nil hand)
buckets-joined levels leaf level (bucket ∷ rest) hand joined is =
    let parts = then_ok (join_bucket levels leaf level bucket hand)
    (join_buckets levels leaf (level + 1) rest) joined is in
    buckets-joined levels leaf (level + 1) rest parts.0 joined parts.2
    ∙ ap (λ h. h ++ flat_map entries_of rest) (bucket-joined levels leaf level bucket hand parts.0 parts.1)
    ∙ append_assoc hand (entries_of bucket) (flat_map entries_of rest)
