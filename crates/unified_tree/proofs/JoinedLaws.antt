-- What is at hand after a path read, up to the first evidence: addresses stay apart, and each entry was there before or
-- came by a reply.
use Rattle.std.proofs.Common.{◌≡◌, ◌+◌, ◌*◌, ◌⊎◌, inl, inr, ℕ, Bool, true, false, if◌then◌else◌, ◌==◌, List, [], ◌∷◌}
use Rattle.std.proofs.Common.{◌++◌, map, flat_map, get_or, Option, None, Some, Result, Ok, Err, is_some, refl, sym, ◌∙◌}
use Rattle.std.proofs.Common.{zero, suc, take, ap, subst, append-nil, append_assoc}
use Rattle.std.specs.List.{range_with_len}
use Rattle.std.specs.Option.{option_to_list}
use Rattle.std.proofs.lemmas.Bool.Decides.{eqb_tells}
use Rattle.asc_base.proofs.Members.{has_left, has_right, has_last, has_map, has_flat_map}
use Rattle.asc_base.specs.Has.{Has}
use Rattle.asc_base.specs.TreeShape.{bucket_of}
use Rattle.asc_base.specs.declared.block.Entry.{Entry}
use Rattle.asc_base.specs.declared.stop.Evidence.{Evidence}
use Rattle.asc_base.specs.declared.stop.Evidence.TheVariants.{OffPath, Doubled}
use Rattle.bucket_codec.specs.Bucket.{opened}
use Rattle.bucket_codec.specs.declared.codec.BadSlot.{BadSlot as Bad}
use Rattle.bus_watch.specs.declared.log.Altered.{Altered}
use Rattle.oram_contents.specs.Contents.{entries_of}
use Rattle.oram_contents.specs.Entries.{Keys, entries_in}
use Rattle.oram_contents.specs.PathRead.{reply_at, replies, then_join, join_slots, join_bucket}
use Rattle.oram_contents.specs.PathRead.{join_buckets}
use Rattle.oram_contents.proofs.JoinLaws.{buckets-joined}
use Rattle.oram_contents.proofs.Joined.{CameBy}
use Rattle.oram_stash.specs.Entries.{held, AreApart}
use Rattle.oram_stash.proofs.Apart.{AreApart-append}
use Rattle.unified_tree.specs.Joined.{hand_then, slots_joined, buckets_joined, path_joined}

-- what an entry's slot gives, by the two tests
abbrev slot_by : Bool → Bool → ℕ → ℕ → Entry → List Entry → Result (List Entry) Evidence
slot_by shared double bucket slot entry hand =
    (if shared then (if double then Err (Doubled entry.address) else Ok (hand ++ entry ∷ [])) else Err
    (OffPath bucket slot))

none_of : (o : Option Entry) → is_some o ≡ false → o ≡ None
none_of None is = refl
none_of (Some e) is = absurd (let bad : true ≡ false = is in cc)

ok_is : {a b : List Entry} → (let r : Result (List Entry) Evidence = Ok a in r ≡ Ok b) → a ≡ b
ok_is e = cc

not_ok : {e : Evidence} {b : List Entry} {P : Type 0} → (let r : Result (List Entry) Evidence = Err e in r ≡ Ok b) → P
not_ok {e} {b} {P} is = absurd (let bad : Err e ≡ Ok b = is in cc)

-- where all slots join, this is the hand after them
slots_same : (levels leaf level slot : ℕ) (slots : List (Option Entry)) (hand joined : List Entry)
    → join_slots levels leaf level slot slots hand ≡ Ok joined
    → slots_joined levels leaf level slot slots hand ≡ joined
slots_same levels leaf level slot [] hand joined is = ok_is is
slots_same levels leaf level slot (None ∷ rest) hand joined is =
    slots_same levels leaf level (slot + 1) rest hand joined is
slots_same levels leaf level slot (Some entry ∷ rest) hand joined is = both
    (bucket_of levels entry.leaf.0 level == bucket_of levels leaf level) (is_some (held hand entry.address))
    (λ next same. slots_same levels leaf level (slot + 1) rest next joined same) is
  where
    both : (b c : Bool) → ((next : List Entry) → join_slots levels leaf level (slot + 1) rest next ≡ Ok joined
        → slots_joined levels leaf level (slot + 1) rest next ≡ joined)
        → then_join (slot_by b c (bucket_of levels leaf level) slot entry hand)
        (join_slots levels leaf level (slot + 1) rest) ≡ Ok joined
        → hand_then (slot_by b c (bucket_of levels leaf level) slot entry hand) hand
        (slots_joined levels leaf level (slot + 1) rest) ≡ joined
    both true true later is = not_ok is
    both true false later is = later (hand ++ entry ∷ []) is
    both false c later is = not_ok is

-- what holds of the hand before, and still where an entry joins of whose address there is none
module _ (P : List Entry → Type 0) where
  abbrev Keeps : List Entry → Type 0
  Keeps entries = (hand : List Entry) (entry : Entry) → Has entry entries → held hand entry.address ≡ None → P hand
      → P (hand ++ entry ∷ [])

  slots_keep : (levels leaf level slot : ℕ) (slots : List (Option Entry)) (hand : List Entry)
      → Keeps (flat_map option_to_list slots) → P hand → P (slots_joined levels leaf level slot slots hand)
  slots_keep levels leaf level slot [] hand keeps p = p
  slots_keep levels leaf level slot (None ∷ rest) hand keeps p =
      slots_keep levels leaf level (slot + 1) rest hand keeps p
  slots_keep levels leaf level slot (Some entry ∷ rest) hand keeps p = both
      (bucket_of levels entry.leaf.0 level == bucket_of levels leaf level) (is_some (held hand entry.address)) refl
      (λ next q. slots_keep levels leaf level (slot + 1) rest next (λ h x at. keeps h x (inr at)) q)
    where
      both : (b c : Bool) → is_some (held hand entry.address) ≡ c
          → ((next : List Entry) → P next → P (slots_joined levels leaf level (slot + 1) rest next))
          → P (hand_then (slot_by b c (bucket_of levels leaf level) slot entry hand) hand
          (slots_joined levels leaf level (slot + 1) rest))
      both true true is later = p
      both true false is later =
          later (hand ++ entry ∷ []) (keeps hand entry (inl refl) (none_of (held hand entry.address) is) p)
      both false c is later = p

  buckets_keep : (levels leaf level : ℕ) (buckets : List (Result (List (Option Entry)) Bad)) (hand : List Entry)
      → Keeps (flat_map entries_of buckets) → P hand → P (buckets_joined levels leaf level buckets hand)
  buckets_keep levels leaf level [] hand keeps p = p
  buckets_keep levels leaf level (Err bad ∷ rest) hand keeps p = p
  buckets_keep levels leaf level (Ok slots ∷ rest) hand keeps p = both
      (join_bucket levels leaf level (Ok slots) hand) refl
      (λ next q. buckets_keep levels leaf (level + 1) rest next
      (λ h x at. keeps h x (has_right x (flat_map option_to_list slots) (flat_map entries_of rest) at)) q)
    where
      joined : P (slots_joined levels leaf level 0 slots hand)
      joined = slots_keep levels leaf level 0 slots hand
          (λ h x at. keeps h x (has_left x (flat_map option_to_list slots) (flat_map entries_of rest) at)) p

      both : (r : Result (List Entry) Evidence) → join_bucket levels leaf level (Ok slots) hand ≡ r
          → ((next : List Entry) → P next → P (buckets_joined levels leaf (level + 1) rest next))
          → P (hand_then r (slots_joined levels leaf level 0 slots hand) (buckets_joined levels leaf (level + 1) rest))
      both (Ok next) is later = later next (subst P (slots_same levels leaf level 0 slots hand next is) joined)
      both (Err evidence) is later = joined

-- addresses stay apart
pub joined_apart : (levels leaf : ℕ) (buckets : List (Result (List (Option Entry)) Bad)) (hand : List Entry)
    → AreApart hand → AreApart (buckets_joined levels leaf 0 buckets hand)
joined_apart levels leaf buckets hand apart =
    buckets_keep AreApart levels leaf 0 buckets hand (λ h entry at none p. AreApart-append h entry p none) apart

-- a reply is the bucket as last written, or one of the altered replies
reply_from : (mirror : List (List ℕ)) (altered : List Altered) (at bucket : ℕ)
    → (reply_at mirror altered at bucket ≡ get_or mirror bucket [])
    ⊎ ((reply : Altered) × Has reply altered × (reply_at mirror altered at bucket ≡ reply.bytes))
reply_from mirror [] at bucket = inl refl
reply_from mirror (reply ∷ altered) at bucket = elim (eqb_tells reply.time at) [
  | inl same ↦ inr (reply, inl refl, rw same.0 refl)
  | inr other ↦ rw other.0 (elim (reply_from mirror altered at bucket)
      [ inl l ↦ inl l | inr r ↦ inr (r.0, inr r.1, r.2) ])
]

-- each entry that is at hand then was so before, or came by a reply
pub joined_came : (keys : Keys) (start leaf : ℕ) (mirror : List (List ℕ)) (altered : List Altered) (hand : List Entry)
    (e : Entry) → Has e (path_joined keys.pads keys.shape leaf
    (replies keys.shape.levels start leaf mirror altered) hand) → Has e hand ⊎ CameBy keys altered mirror e
joined_came keys start leaf mirror altered hand e h = elim (from e h) [ inl l ↦ inl l | inr r ↦ inr (came r) ]
  where
    texts : List (List ℕ)
    texts = replies keys.shape.levels start leaf mirror altered

    all : List (Result (List (Option Entry)) Bad)
    all = map (opened keys.pads keys.shape) texts

    from : (x : Entry) → Has x (buckets_joined keys.shape.levels leaf 0 all hand)
        → Has x hand ⊎ Has x (flat_map entries_of all)
    from = buckets_keep (λ now. (x : Entry) → Has x now → Has x hand ⊎ Has x (flat_map entries_of all))
        keys.shape.levels leaf 0 all hand (λ now entry at none p x there. elim (has_last x entry now there)
        [ inl l ↦ p x l | inr is ↦ inr (subst (λ y. Has y (flat_map entries_of all)) (sym is) at) ])
        (λ x there. inl there)

    by_reply : (text : List ℕ) → Has e (entries_in keys text) → (at bucket : ℕ)
        → text ≡ reply_at mirror altered at bucket → CameBy keys altered mirror e
    by_reply text stands at bucket is = elim (reply_from mirror altered at bucket) [
      | inl l ↦ inr (bucket, subst (λ t. Has e (entries_in keys t)) (is ∙ l) stands)
      | inr r ↦ inl (r.0, r.1, subst (λ t. Has e (entries_in keys t)) (is ∙ r.2) stands)
    ]

    came : Has e (flat_map entries_of all) → CameBy keys altered mirror e
    came r =
        let of_bucket = has_flat_map entries_of e all r in
        let of_text = has_map (opened keys.pads keys.shape) of_bucket.0 texts of_bucket.1 in
        let of_level = has_map (λ level. reply_at mirror altered (start + 40 * level)
        (bucket_of keys.shape.levels leaf level)) of_text.0 (range_with_len 0 (keys.shape.levels + 1)) of_text.1 in
        by_reply of_text.0 (subst (λ b. Has e (entries_of b)) of_text.2 of_bucket.2) (start + 40 * of_level.0)
        (bucket_of keys.shape.levels leaf of_level.0) of_level.2

-- a beginning of a list is one of a longer list, and goes on behind a list
begin_left : (n : ℕ) (xs ys : List Entry) → (k : ℕ) × (take k (xs ++ ys) ≡ take n xs)
begin_left zero xs ys = (0, refl)
begin_left (suc n) [] ys = (0, refl)
begin_left (suc n) (x ∷ xs) ys = let later = begin_left n xs ys in (suc later.0, ap (λ l. x ∷ l) later.1)

begin_more : (n : ℕ) (xs ys : List Entry) → (k : ℕ) × (take k (xs ++ ys) ≡ xs ++ take n ys)
begin_more n [] ys = (n, refl)
begin_more n (x ∷ xs) ys = let later = begin_more n xs ys in (suc later.0, ap (λ l. x ∷ l) later.1)

slots_begin : (levels leaf level slot : ℕ) (slots : List (Option Entry)) (hand : List Entry)
    → (n : ℕ) × (slots_joined levels leaf level slot slots hand ≡ hand ++ take n (flat_map option_to_list slots))
slots_begin levels leaf level slot [] hand = (0, sym (append-nil hand))
slots_begin levels leaf level slot (None ∷ rest) hand = slots_begin levels leaf level (slot + 1) rest hand
slots_begin levels leaf level slot (Some entry ∷ rest) hand = both
    (bucket_of levels entry.leaf.0 level == bucket_of levels leaf level) (is_some (held hand entry.address))
    (slots_begin levels leaf level (slot + 1) rest (hand ++ entry ∷ []))
  where
    both : (b c : Bool)
        → ((n : ℕ) × (slots_joined levels leaf level (slot + 1) rest (hand ++ entry ∷ [])
        ≡ (hand ++ entry ∷ []) ++ take n (flat_map option_to_list rest)))
        → (n : ℕ) × (hand_then (slot_by b c (bucket_of levels leaf level) slot entry hand) hand
        (slots_joined levels leaf level (slot + 1) rest)
        ≡ hand ++ take n (entry ∷ flat_map option_to_list rest))
    both true true later = (0, sym (append-nil hand))
    both true false later = (
      suc later.0,
      later.1 ∙ append_assoc hand (entry ∷ []) (take later.0 (flat_map option_to_list rest)),
    )
    both false c later = (0, sym (append-nil hand))

-- where all slots of a bucket join, they are all its entries
slots_whole : (levels leaf level : ℕ) (slots : List (Option Entry)) (hand joined : List Entry)
    → join_bucket levels leaf level (Ok slots) hand ≡ Ok joined → joined ≡ hand ++ flat_map option_to_list slots
slots_whole levels leaf level slots hand joined is =
    buckets-joined levels leaf level (Ok slots ∷ []) hand joined
    (ap (λ r. then_join r (join_buckets levels leaf (level + 1) [])) is)
    ∙ ap (λ l. hand ++ l) (append-nil (flat_map option_to_list slots))

-- behind the hand joins a beginning of what the buckets hold
pub buckets_begin : (levels leaf level : ℕ) (buckets : List (Result (List (Option Entry)) Bad)) (hand : List Entry)
    → (n : ℕ) × (buckets_joined levels leaf level buckets hand ≡ hand ++ take n (flat_map entries_of buckets))
buckets_begin levels leaf level [] hand = (0, sym (append-nil hand))
buckets_begin levels leaf level (Err bad ∷ rest) hand = (0, sym (append-nil hand))
buckets_begin levels leaf level (Ok slots ∷ rest) hand = both (join_bucket levels leaf level (Ok slots) hand) refl
    (λ next. buckets_begin levels leaf (level + 1) rest next)
  where
    here : List Entry
    here = flat_map option_to_list slots

    below : List Entry
    below = flat_map entries_of rest

    both : (r : Result (List Entry) Evidence) → join_bucket levels leaf level (Ok slots) hand ≡ r
        → ((next : List Entry) → (n : ℕ)
        × (buckets_joined levels leaf (level + 1) rest next ≡ next ++ take n below))
        → (n : ℕ) × (hand_then r (slots_joined levels leaf level 0 slots hand)
        (buckets_joined levels leaf (level + 1) rest) ≡ hand ++ take n (here ++ below))
    both (Ok next) is later =
        let rest_of = later next in
        let more = begin_more rest_of.0 here below in (
          more.0,
          rest_of.1 ∙ ap (λ h. h ++ take rest_of.0 below) (slots_whole levels leaf level slots hand next is)
              ∙ append_assoc hand here (take rest_of.0 below) ∙ ap (λ l. hand ++ l) (sym more.1),
        )
    both (Err evidence) is later =
        let part = slots_begin levels leaf level 0 slots hand in
        let left = begin_left part.0 here below in (left.0, part.1 ∙ ap (λ l. hand ++ l) (sym left.1))

-- where there is no evidence this is the hand after the read
pub buckets_same : (levels leaf level : ℕ) (buckets : List (Result (List (Option Entry)) Bad))
    (hand joined : List Entry) → join_buckets levels leaf level buckets hand ≡ Ok joined
    → buckets_joined levels leaf level buckets hand ≡ joined
buckets_same levels leaf level [] hand joined is = ok_is is
buckets_same levels leaf level (Err bad ∷ rest) hand joined is = not_ok is
buckets_same levels leaf level (Ok slots ∷ rest) hand joined is = both
    (join_bucket levels leaf level (Ok slots) hand) (λ next same. buckets_same levels leaf (level + 1) rest next joined
    same) is
  where
    both : (r : Result (List Entry) Evidence)
        → ((next : List Entry) → join_buckets levels leaf (level + 1) rest next ≡ Ok joined
        → buckets_joined levels leaf (level + 1) rest next ≡ joined)
        → then_join r (join_buckets levels leaf (level + 1) rest) ≡ Ok joined
        → hand_then r (slots_joined levels leaf level 0 slots hand) (buckets_joined levels leaf (level + 1) rest)
        ≡ joined
    both (Ok next) later is = later next is
    both (Err evidence) later is = not_ok is
