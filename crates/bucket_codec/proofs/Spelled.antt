-- What is read gives back the bytes that it was read from.
use Rattle.std.proofs.Common.{◌≡◌, ◌≢◌, ◌↔◌, ℕ, ◌+◌, ◌*◌, ◌^◌, ◌<◌, ◌≤◌, ◌==◌, Bool, true, false}
use Rattle.std.proofs.Common.{◌⊎◌, List, [], ◌∷◌, ◌++◌, length, take, drop, Option, Some, None, Ok, Err}
use Rattle.std.proofs.Common.{refl, sym, ap, ◌∙◌, subst, inl, inr, lit<, append-nil, below_none, below_more}
use Rattle.std.proofs.Common.{length-drop, arith}
use Rattle.std.specs.Int.{w32, to_be_bytes, from_be_bytes}
use Rattle.std.specs.Str.{bytes_eq}
use Rattle.std.proofs.lemmas.Bool.Decides.{Decides-ltb}
use Rattle.std.proofs.lemmas.List.{take-append-drop, drop-drop, length-take-le, take_all}
use Rattle.std.proofs.lemmas.List.Elements.{All-take, All-drop}
use Rattle.std.proofs.lemmas.Nat.{be_bytes_4}
use Rattle.std.proofs.lemmas.Slice.Eq.{bytes_eq-Decides}
use Rattle.asc_base.proofs.Bytes.{byte_of, both}
use Rattle.asc_base.specs.Bytes.{AreBytes}
use Rattle.asc_base.specs.declared.block.Entry.{Entry}
use Rattle.asc_base.specs.declared.shape.Shape.{Shape}
use Rattle.bucket_codec.proofs.Slots.{slot_in-text, slot_in-empty, slot_in-no_flag, slot_in-outside}
use Rattle.bucket_codec.proofs.Slots.{slot_in-entry}
use Rattle.bucket_codec.proofs.Buckets.{slots_in-four}
use Rattle.bucket_codec.specs.Bucket.{body_text, seed_in, body_in, part, slot_at, slots_in, opened}
use Rattle.bucket_codec.specs.Bucket.{IsFirstBad}
use Rattle.bucket_codec.specs.declared.codec.BadSlot.{BadSlot}
use Rattle.bucket_codec.specs.Slot.{flag, entry_text, empty_text, slot_text, entry_in, is_placed, slot_in, IsEntry}
use Rattle.bucket_codec.specs.Slot.{IsInRange, Spells}

-- a part of a list of bytes is one
bytes_part : (n place : ℕ) (text : List ℕ) → AreBytes text → AreBytes (take n (drop place text))
bytes_part n place text bytes =
    All-take (λ b. b < 256) n (drop place text) (All-drop (λ b. b < 256) place text bytes)

-- four bytes are a number's
number_back : (place : ℕ) (text : List ℕ) → length text ≡ 92 → place < 89 → AreBytes text
    → to_be_bytes w32 (from_be_bytes w32 (take 4 (drop place text))) ≡ take 4 (drop place text)
number_back place text long h bytes =
    let enough : 4 ≤ length (drop place text) = omega (arith, length-drop place text) in
    let part = bytes_part 4 place text bytes in
    be_bytes_4 (take 4 (drop place text)) _ (length-take-le 4 (drop place text) enough)
    (λ i. byte_of (take 4 (drop place text)) i part) refl

-- the rest of a list, a part before what follows it
parted : (place n next : ℕ) (text : List ℕ) → place + n ≡ next
    → drop place text ≡ take n (drop place text) ++ drop next text
parted place n next text e =
    sym (take-append-drop n (drop place text))
    ∙ ap (λ t. take n (drop place text) ++ t) (drop-drop n place text ∙ ap (λ k. drop k text) e)

-- an entry's bytes are those that it was read from
entry_back : (text : List ℕ) → length text ≡ 92 → AreBytes text → take 4 text ≡ flag → entry_text (entry_in text) ≡ text
unfolding entry_text entry_in
entry_back text long bytes flagged =
    let tail : take 16 (drop 76 text) ≡ drop 76 text =
    take_all 16 (drop 76 text) (omega (arith, length-drop 76 text)) in
    let line : take 64 (drop 12 text) ++ take 16 (drop 76 text) ≡ drop 12 text =
    ap (λ t. take 64 (drop 12 text) ++ t) tail ∙ sym (parted 12 64 76 text refl) in
    let leaf : to_be_bytes w32 (from_be_bytes w32 (take 4 (drop 8 text)))
    ++ (take 64 (drop 12 text) ++ take 16 (drop 76 text)) ≡ drop 8 text =
    ap (λ t. t ++ (take 64 (drop 12 text) ++ take 16 (drop 76 text))) (number_back 8 text long (lit< tt) bytes)
    ∙ ap (λ t. take 4 (drop 8 text) ++ t) line ∙ sym (parted 8 4 12 text refl) in
    let rest =
    to_be_bytes w32 (from_be_bytes w32 (take 4 (drop 8 text))) ++ (take 64 (drop 12 text) ++ take 16 (drop 76 text)) in
    let address : to_be_bytes w32 (from_be_bytes w32 (take 4 (drop 4 text))) ++ rest ≡ drop 4 text =
    ap (λ t. t ++ rest) (number_back 4 text long (lit< tt) bytes) ∙ ap (λ t. take 4 (drop 4 text) ++ t) leaf
    ∙ sym (parted 4 4 8 text refl) in
    ap (λ t. flag ++ t) address ∙ ap (λ t. t ++ drop 4 text) (sym flagged) ∙ take-append-drop 4 text

number_bound : (bs : List ℕ) → AreBytes bs → from_be_bytes w32 bs < 2 ^ 32
number_bound bs h = omega (arith, byte_of bs 0 h, byte_of bs 1 h, byte_of bs 2 h, byte_of bs 3 h)

entry_is : (text : List ℕ) → length text ≡ 92 → AreBytes text → IsEntry (entry_in text)
unfolding entry_in
entry_is text long bytes = record {
  address = number_bound (take 4 (drop 4 text)) (bytes_part 4 4 text bytes);
  leaf = number_bound (take 4 (drop 8 text)) (bytes_part 4 8 text bytes);
  line = length-take-le 64 (drop 12 text) (omega (arith, length-drop 12 text));
  tag = length-take-le 16 (drop 76 text) (omega (arith, length-drop 76 text));
}

-- a test, either way
pub decided : (b : Bool) → (b ≡ true) ⊎ (b ≡ false)
decided true = inl refl
decided false = inr refl

pub placed_range : (shape : Shape) (entry : Entry) → is_placed shape entry ≡ true → IsInRange shape (Some entry)
placed_range shape entry e =
    let tests = both _ _ e in
    ((Decides-ltb entry.address.0 shape.total).0 tests.0, (Decides-ltb entry.leaf.0 (2 ^ shape.levels)).0 tests.1)

pub slot_spells : (shape : Shape) (text : List ℕ) (slot : Option Entry) → length text ≡ 92 → AreBytes text
    → slot_in shape text ≡ Some slot → Spells shape slot text
slot_spells shape text slot long bytes e =
    elim (decided (bytes_eq text empty_text)) [
      | inl same ↦ (
          let none : None ≡ slot = let told = sym (slot_in-empty shape text same) ∙ e in cc in
          let empty : text ≡ empty_text = (bytes_eq-Decides text empty_text).0 same in
          subst (λ s. Spells shape s text) none (record { spelled = sym empty; is = tt; range = tt })
          )
      | inr other ↦ elim (decided (bytes_eq (take 4 text) flag)) [
        | inl flagged ↦ elim (decided (is_placed shape (entry_in text))) [
          | inl inside ↦ (
              let some : Some (entry_in text) ≡ slot =
              let told = sym (slot_in-entry shape text other flagged inside) ∙ e in cc in
              subst (λ s. Spells shape s text) some (record {
                spelled = entry_back text long bytes ((bytes_eq-Decides (take 4 text) flag).0 flagged);
                is = entry_is text long bytes;
                range = placed_range shape (entry_in text) inside;
              })
              )
          | inr outside ↦ (let told = sym (slot_in-outside shape text other flagged outside) ∙ e in absurd (cc))
        ]
        | inr bare ↦ (let told = sym (slot_in-no_flag shape text other bare) ∙ e in absurd (cc))
      ]
    ]

-- and the other way
pub slot_spelled : (shape : Shape) (text : List ℕ) (slot : Option Entry) → Spells shape slot text
    → slot_in shape text ≡ Some slot
slot_spelled shape text slot h = ap (slot_in shape) (sym h.spelled) ∙ slot_in-text shape slot h.is h.range

-- a slot that is read, or isn't
seen : {X : Type 0} (o : Option X) → (o ≡ None) ⊎ ((x : X) × (o ≡ Some x))
seen None = inl refl
seen (Some x) = inr (x, refl)

-- the first slot that isn't there, by its number
bad_0 : (shape : Shape) (body : List ℕ) → slot_at shape body 0 ≡ None → slots_in shape body ≡ Err (record { slot = 0 })
bad_0 shape body e = rw e refl

bad_1 : (shape : Shape) (body : List ℕ) (a : Option Entry) → slot_at shape body 0 ≡ Some a → slot_at shape body 1 ≡ None
    → slots_in shape body ≡ Err (record { slot = 1 })
bad_1 shape body a ea e = rw (ea, e) refl

bad_2 : (shape : Shape) (body : List ℕ) (a b : Option Entry) → slot_at shape body 0 ≡ Some a
    → slot_at shape body 1 ≡ Some b → slot_at shape body 2 ≡ None → slots_in shape body ≡ Err (record { slot = 2 })
bad_2 shape body a b ea eb e = rw (ea, eb, e) refl

bad_3 : (shape : Shape) (body : List ℕ) (a b c : Option Entry) → slot_at shape body 0 ≡ Some a
    → slot_at shape body 1 ≡ Some b → slot_at shape body 2 ≡ Some c → slot_at shape body 3 ≡ None
    → slots_in shape body ≡ Err (record { slot = 3 })
bad_3 shape body a b c ea eb ec e = rw (ea, eb, ec, e) refl

-- four slots that were read
pub record Read (shape : Shape) (body : List ℕ) : Type 0 where
  pub a : Option Entry
  pub b : Option Entry
  pub c : Option Entry
  pub d : Option Entry
  pub is_a : slot_at shape body 0 ≡ Some a
  pub is_b : slot_at shape body 1 ≡ Some b
  pub is_c : slot_at shape body 2 ≡ Some c
  pub is_d : slot_at shape body 3 ≡ Some d

-- the answer's cases
unfoldable pub Answer : Shape → List ℕ → Type 0
Answer shape body =
    ((r : Read shape body) × (slots_in shape body ≡ Ok (r.a ∷ r.b ∷ r.c ∷ r.d ∷ [])))
    ⊎ ((slot : ℕ) × (slots_in shape body ≡ Err (record { slot = slot })) × IsFirstBad shape body slot)

there : {X : Type 0} (o : Option X) (x : X) → o ≡ Some x → o ≢ None
there o x e none = absurd (let told = sym none ∙ e in cc)

pub answer : (shape : Shape) (body : List ℕ) → Answer shape body
unfolding Answer
answer shape body =
    let P = λ (k : ℕ). slot_at shape body k ≢ None in
    elim (seen (slot_at shape body 0)) [
      | inl n ↦ inr (0, bad_0 shape body n, record { below = lit< tt; bad = n; before = below_none P })
      | inr a ↦ elim (seen (slot_at shape body 1)) [
        | inl n ↦ (
            let before = below_more P 0 (below_none P) (there (slot_at shape body 0) a.0 a.1) in
            inr (1, bad_1 shape body a.0 a.1 n, record { below = lit< tt; bad = n; before = before })
            )
        | inr b ↦ elim (seen (slot_at shape body 2)) [
          | inl n ↦ (
              let before = below_more P 0 (below_none P) (there (slot_at shape body 0) a.0 a.1) in
              let before_2 = below_more P 1 before (there (slot_at shape body 1) b.0 b.1) in
              inr (2, bad_2 shape body a.0 b.0 a.1 b.1 n, record { below = lit< tt; bad = n; before = before_2 })
              )
          | inr c ↦ elim (seen (slot_at shape body 3)) [
            | inl n ↦ (
                let before = below_more P 0 (below_none P) (there (slot_at shape body 0) a.0 a.1) in
                let before_2 = below_more P 1 before (there (slot_at shape body 1) b.0 b.1) in
                let before_3 = below_more P 2 before_2 (there (slot_at shape body 2) c.0 c.1) in
                inr (
                  3,
                  bad_3 shape body a.0 b.0 c.0 a.1 b.1 c.1 n,
                  record { below = lit< tt; bad = n; before = before_3 },
                )
                )
            | inr d ↦ inl (
              record { a = a.0; b = b.0; c = c.0; d = d.0; is_a = a.1; is_b = b.1; is_c = c.1; is_d = d.1 },
              slots_in-four shape body a.0 b.0 c.0 d.0 a.1 b.1 c.1 d.1,
            )
          ]
        ]
      ]
    ]

-- the slot that is named is the first that isn't in the form
pub first_bad : (shape : Shape) (body : List ℕ) (bad : BadSlot) → slots_in shape body ≡ Err bad
    → IsFirstBad shape body bad.slot
unfolding Answer
first_bad shape body bad e =
    elim (answer shape body) [
      | inl r ↦ (let told = sym r.1 ∙ e in absurd (cc))
      | inr n ↦ (
          let same : record { slot = n.0 } ≡ bad = let told = sym n.1 ∙ e in cc in
          subst (λ (b : BadSlot). IsFirstBad shape body b.slot) same n.2
          )
    ]

pub opened_first_bad : (key : List ℕ) (shape : Shape) (bytes : List ℕ) (bad : BadSlot)
    → opened key shape bytes ≡ Err bad → IsFirstBad shape (body_in key bytes) bad.slot
unfolding opened
opened_first_bad key shape bytes bad e =
    elim (decided (seed_in bytes == 0)) [
      | inl none ↦ (let told = rw none at e in absurd (cc))
      | inr some ↦ first_bad shape (body_in key bytes) bad (rw some at e)
    ]

-- the bytes of four slots that were read
pub part_spells : (shape : Shape) (body : List ℕ) (place : ℕ) (slot : Option Entry) → length body ≡ 368
    → AreBytes body → place < 4 → slot_at shape body place ≡ Some slot → Spells shape slot (part body place)
unfolding slot_at
part_spells shape body place slot long bytes h e =
    let enough : 92 ≤ length (drop (92 * place) body) = omega (arith, length-drop (92 * place) body) in
    slot_spells shape (part body place) slot (length-take-le 92 (drop (92 * place) body) enough)
    (bytes_part 92 (92 * place) body bytes) e

-- four slots that were read have these bytes
pub spelled_of : (shape : Shape) (body : List ℕ) (r : Read shape body) → length body ≡ 368 → AreBytes body
    → body_text (r.a ∷ r.b ∷ r.c ∷ r.d ∷ []) ≡ body
unfolding body_text
spelled_of shape body r long bytes =
    let a = part_spells shape body 0 r.a long bytes (lit< tt) r.is_a in
    let b = part_spells shape body 1 r.b long bytes (lit< tt) r.is_b in
    let c = part_spells shape body 2 r.c long bytes (lit< tt) r.is_c in
    let d = part_spells shape body 3 r.d long bytes (lit< tt) r.is_d in
    let end : take 92 (drop 276 body) ≡ drop 276 body =
    take_all 92 (drop 276 body) (omega (arith, length-drop 276 body)) in
    let td = slot_text r.d ++ [] in
    let tc = slot_text r.c ++ td in
    let tb = slot_text r.b ++ tc in
    let sd : td ≡ drop 276 body = append-nil (slot_text r.d) ∙ d.spelled ∙ end in
    let sc : tc ≡ drop 184 body =
    ap (λ t. slot_text r.c ++ t) sd ∙ ap (λ t. t ++ drop 276 body) c.spelled ∙ sym (parted 184 92 276 body refl) in
    let sb : tb ≡ drop 92 body =
    ap (λ t. slot_text r.b ++ t) sc ∙ ap (λ t. t ++ drop 184 body) b.spelled ∙ sym (parted 92 92 184 body refl) in
    ap (λ t. slot_text r.a ++ t) sb ∙ ap (λ t. t ++ drop 92 body) a.spelled ∙ sym (parted 0 92 92 body refl)

-- a slot's bytes are in the form exactly as they are spelled
pub spells_both : (shape : Shape) (text : List ℕ) (slot : Option Entry) → length text ≡ 92 → AreBytes text
    → (slot_in shape text ≡ Some slot) ↔ Spells shape slot text
spells_both shape text slot long all =
    (slot_spells shape text slot long all, slot_spelled shape text slot)
