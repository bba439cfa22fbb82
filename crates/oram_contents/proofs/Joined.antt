-- Where the entries come from that a path read joins.
use Rattle.std.proofs.Common.{◌≡◌, ◌+◌, ◌*◌, ◌⊎◌, inl, inr, ℕ, Bool, true, false}
use Rattle.std.proofs.Common.{if◌then◌else◌, ◌==◌, List, [], ◌∷◌, ◌++◌, map, flat_map, get_or, Option, None}
use Rattle.std.proofs.Common.{Some, Result, Ok, Err, is_some, refl, ◌∙◌, subst}
use Rattle.std.specs.List.{range_with_len}
use Rattle.std.proofs.lemmas.Bool.Decides.{eqb_tells}
use Rattle.asc_base.specs.TreeShape.{bucket_of}
use Rattle.asc_base.specs.declared.block.Entry.{Entry}
use Rattle.asc_base.specs.declared.stop.Evidence.{Evidence}
use Rattle.asc_base.specs.declared.stop.Evidence.TheVariants.{OffPath, Doubled}
use Rattle.bucket_codec.specs.Bucket.{opened}
use Rattle.bucket_codec.specs.declared.codec.BadSlot.{BadSlot as Bad}
use Rattle.bus_watch.specs.declared.log.Altered.{Altered}
use Rattle.oram_stash.specs.Entries.{held}
use Rattle.oram_contents.specs.Contents.{Contents, entries_of, IsReadTo}
use Rattle.oram_contents.specs.PathRead.{reply_at, replies, join_entry, join_slots, join_bucket, join_buckets}
use Rattle.oram_contents.specs.PathRead.{then_join}
use Rattle.oram_contents.proofs.JoinLaws.{buckets-joined}
use Rattle.oram_contents.specs.Entries.{Keys, entries_in, entries_at}
use Rattle.asc_base.specs.Has.{Has}
use Rattle.asc_base.proofs.Members.{has_split, has_map, has_flat_map}
use Rattle.oram_stash.proofs.Apart.{AreApart-append}
use Rattle.oram_stash.specs.Entries.{AreApart}

-- a reply is the bucket as last written, or one of the altered replies
reply_from : (mirror : List (List ℕ)) (altered : List Altered) (at bucket : ℕ)
    → (reply_at mirror altered at bucket ≡ get_or mirror bucket [])
    ⊎ ((reply : Altered) × Has reply altered × (reply_at mirror altered at bucket ≡ reply.bytes))
reply_from mirror [] at bucket = inl refl
reply_from mirror (reply ∷ altered) at bucket = elim (eqb_tells reply.time at) [
  | inl same ↦ inr (reply, inl refl, rw same.0 refl)
  | inr other ↦ rw other.0 (elim (reply_from mirror altered at bucket)
      [ inl l ↦ inl l | inr r ↦ inr (r.0, inr r.1, r.2) ])
]

-- the entry came by an altered reply, or stands in a bucket
abbrev pub CameBy : Keys → List Altered → List (List ℕ) → Entry → Type 0
CameBy keys altered mirror e = ((reply : Altered) × Has reply altered × Has e (entries_in keys reply.bytes))
    ⊎ ((bucket : ℕ) × Has e (entries_at keys mirror bucket))

-- each entry that is at hand after a read was so before, or came by a reply
pub joined_from : (keys : Keys) (start leaf : ℕ) (altered : List Altered) (now : Contents) (joined : List Entry)
    (e : Entry)
    → IsReadTo keys.pads keys.shape start leaf altered now joined → Has e joined
    → Has e now.hand ⊎ CameBy keys altered now.mirror e
joined_from keys start leaf altered now joined e is h =
    let all = map (opened keys.pads keys.shape) (replies keys.shape.levels start leaf now.mirror altered) in
    let whole : joined ≡ now.hand ++ flat_map entries_of all = buckets-joined keys.shape.levels leaf 0 all now.hand
    joined is in
    elim (has_split e now.hand (flat_map entries_of all) (subst (λ x. Has e x) whole h))
    [ inl l ↦ inl l | inr r ↦ inr (came r) ]
  where
    by_reply : (text : List ℕ) → Has e (entries_in keys text) → (at bucket : ℕ)
        → text ≡ reply_at now.mirror altered at bucket → CameBy keys altered now.mirror e
    by_reply text stands at bucket is = elim (reply_from now.mirror altered at bucket) [
      | inl l ↦ inr (bucket, subst (λ t. Has e (entries_in keys t)) (is ∙ l) stands)
      | inr r ↦ inl (r.0, r.1, subst (λ t. Has e (entries_in keys t)) (is ∙ r.2) stands)
    ]

    came : Has e (flat_map entries_of (map (opened keys.pads keys.shape)
        (replies keys.shape.levels start leaf now.mirror altered))) → CameBy keys altered now.mirror e
    came r =
        let of_bucket = has_flat_map entries_of e (map (opened keys.pads keys.shape)
        (replies keys.shape.levels start leaf now.mirror altered)) r in
        let of_text = has_map (opened keys.pads keys.shape) of_bucket.0
        (replies keys.shape.levels start leaf now.mirror altered) of_bucket.1 in
        let of_level = has_map (λ level. reply_at now.mirror altered (start + 40 * level)
        (bucket_of keys.shape.levels leaf level)) of_text.0 (range_with_len 0 (keys.shape.levels + 1)) of_text.1 in
        by_reply of_text.0 (subst (λ b. Has e (entries_of b)) of_text.2 of_bucket.2) (start + 40 * of_level.0)
        (bucket_of keys.shape.levels leaf of_level.0) of_level.2

-- addresses stay apart
none_of : (o : Option Entry) → is_some o ≡ false → o ≡ None
none_of None is = refl
none_of (Some e) is = absurd (let bad : true ≡ false = is in cc)

not_ok : {e : Evidence} {b : List Entry} {P : Type 0} → (let r : Result (List Entry) Evidence = Err e in r ≡ Ok b) → P
not_ok {e} {b} {P} is = absurd (let bad : Err e ≡ Ok b = is in cc)

ok_is : {a b : List Entry} → (let r : Result (List Entry) Evidence = Ok a in r ≡ Ok b) → a ≡ b
ok_is e = cc

then_ok : (r : Result (List Entry) Evidence) (next : List Entry → Result (List Entry) Evidence) (joined : List Entry)
    → then_join r next ≡ Ok joined → (mid : List Entry) × (r ≡ Ok mid) × (next mid ≡ Ok joined)
then_ok (Ok mid) next joined is = (mid, refl, is)
then_ok (Err e) next joined is = not_ok is

entry-apart : (levels leaf level slot : ℕ) (entry : Entry) (hand joined : List Entry)
    → join_entry levels leaf level slot entry hand ≡ Ok joined → AreApart hand → AreApart joined
entry-apart levels leaf level slot entry hand joined is apart = both
    (bucket_of levels entry.leaf.0 level == bucket_of levels leaf level) (is_some (held hand entry.address)) refl is
  where
    both : (b c : Bool) → is_some (held hand entry.address) ≡ c
        → (if b then (if c then Err (Doubled entry.address) else Ok (hand ++ entry ∷ [])) else Err
        (OffPath (bucket_of levels leaf level) slot)) ≡ Ok joined → AreApart joined
    both true true at is = not_ok is
    both true false at is = subst AreApart (ok_is is) (AreApart-append hand entry apart
        (none_of (held hand entry.address) at))
    both false c at is = not_ok is

slots-apart : (levels leaf level slot : ℕ) (slots : List (Option Entry)) (hand joined : List Entry)
    → join_slots levels leaf level slot slots hand ≡ Ok joined → AreApart hand → AreApart joined
slots-apart levels leaf level slot [] hand joined is apart = subst AreApart (ok_is is) apart
slots-apart levels leaf level slot (None ∷ rest) hand joined is apart = slots-apart levels leaf level
    (slot + 1) rest hand joined is apart
slots-apart levels leaf level slot (Some entry ∷ rest) hand joined is apart =
    let parts = then_ok (join_entry levels leaf level slot entry hand)
    (join_slots levels leaf level (slot + 1) rest) joined is in
    slots-apart levels leaf level (slot + 1) rest parts.0 joined parts.2
    (entry-apart levels leaf level slot entry hand parts.0 parts.1 apart)

bucket-apart : (levels leaf level : ℕ) (bucket : Result (List (Option Entry)) Bad) (hand joined : List Entry)
    → join_bucket levels leaf level bucket hand ≡ Ok joined → AreApart hand → AreApart joined
bucket-apart levels leaf level (Ok slots) hand joined is = slots-apart levels leaf level 0 slots hand joined is
bucket-apart levels leaf level (Err bad) hand joined is = not_ok is

pub buckets-apart : (levels leaf level : ℕ) (buckets : List (Result (List (Option Entry)) Bad))
    (hand joined : List Entry) → join_buckets levels leaf level buckets hand ≡ Ok joined → AreApart hand
    → AreApart joined
buckets-apart levels leaf level [] hand joined is apart = subst AreApart (ok_is is) apart
buckets-apart levels leaf level (bucket ∷ rest) hand joined is apart =
    let parts = then_ok (join_bucket levels leaf level bucket hand)
    (join_buckets levels leaf (level + 1) rest) joined is in
    buckets-apart levels leaf (level + 1) rest parts.0 joined parts.2
    (bucket-apart levels leaf level bucket hand parts.0 parts.1 apart)
