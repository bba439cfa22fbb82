-- Buckets and their bytes.
use Rattle.std.proofs.Common.{◌≡◌, ℕ, ◌+◌, ◌*◌, ◌^◌, ◌<◌, ◌==◌, false, List, [], ◌∷◌, ◌++◌, length, take, drop, get_or}
use Rattle.std.proofs.Common.{flat_map, Option, Some, None, Ok, refl, sym, ap, ◌∙◌, lit<, append-nil, length-append}
use Rattle.std.proofs.Common.{length-drop, arith}
use Rattle.std.specs.Int.{w64, to_be_bytes}
use Rattle.std.proofs.lemmas.List.{drop-drop, take_more}
use Rattle.std.proofs.lemmas.List.Concat.{flat_map-append}
use Rattle.asc_base.specs.declared.block.Entry.{Entry}
use Rattle.asc_base.specs.declared.shape.Shape.{Shape}
use Rattle.bucket_codec.proofs.Lists.{taken, dropped, placed}
use Rattle.std.proofs.lemmas.Bool.Decides.{Decides-eqb}
use Rattle.std.proofs.lemmas.Nat.{from_be_bytes-to_be_bytes_8}
use Rattle.bucket_codec.proofs.Pads.{length-pad_of, length-masked, masked-twice}
use Rattle.bucket_codec.proofs.Slots.{is_false, slot_in-text, slot_of_text, length-slot_text}
use Rattle.bucket_codec.specs.Pad.{pad_of, masked}
use Rattle.bucket_codec.specs.Slot.{slot_text, slot_in, IsSlot, IsInRange}
use Rattle.bucket_codec.specs.Bucket.{body_text, bucket_text, seed_in, body_in, part, slot_at, slots_in, opened}
use Rattle.bucket_codec.specs.Bucket.{AreSlots, AreInRange}

-- one slot more
body_text-more : (slots : List (Option Entry)) (place : ℕ) → place < length slots
    → body_text (take (place + 1) slots) ≡ body_text (take place slots) ++ slot_text (get_or slots place None)
unfolding body_text
body_text-more slots place h =
    ap (flat_map slot_text) (take_more slots place None h)
    ∙ flat_map-append slot_text (take place slots) (get_or slots place None ∷ [])
    ∙ ap (λ t. flat_map slot_text (take place slots) ++ t) (append-nil (slot_text (get_or slots place None)))

-- the bytes after one slot more is written
pub body-more : (slots : List (Option Entry)) (zeros body text : List ℕ) (place : ℕ) → place < 4 → length slots ≡ 4
    → length zeros ≡ 368 → length body ≡ 368 → text ≡ slot_text (get_or slots place None)
    → body ≡ body_text (take place slots) ++ drop (92 * place) zeros
    → take (92 * place) body ++ (text ++ drop 92 (drop (92 * place) body))
    ≡ body_text (take (place + 1) slots) ++ drop (92 * (place + 1)) zeros
body-more slots zeros body text place h four z b t e =
    let done = body_text (take place slots) in
    let rest = drop (92 * place) zeros in
    let long : length done ≡ 92 * place =
    omega (arith, length-append done rest, length-drop (92 * place) zeros, ap length e) in
    let next : 92 * place + 92 ≡ 92 * (place + 1) = omega arith in
    let ends : drop 92 rest ≡ drop (92 * (place + 1)) zeros =
    drop-drop 92 (92 * place) zeros ∙ ap (λ n. drop n zeros) next in
    let begins : body_text (take (place + 1) slots) ≡ done ++ text =
    body_text-more slots place (omega arith) ∙ ap (λ x. done ++ x) (sym t) in
    rw e (placed done rest text (92 * place) 92 long ∙ rw (ends, begins) refl)

-- four slots
pub slots_in-four : (shape : Shape) (body : List ℕ) (a b c d : Option Entry) → slot_at shape body 0 ≡ Some a
    → slot_at shape body 1 ≡ Some b → slot_at shape body 2 ≡ Some c → slot_at shape body 3 ≡ Some d
    → slots_in shape body ≡ Ok (a ∷ b ∷ c ∷ d ∷ [])
slots_in-four shape body a b c d ea eb ec ed = rw (ea, eb, ec, ed) refl

-- the bytes of a slot among those of four
part-first : (text rest : List ℕ) → length text ≡ 92 → part (text ++ rest) 0 ≡ text
part-first text rest e = taken text rest 92 e

part-next : (text rest : List ℕ) (slot : ℕ) → length text ≡ 92 → part (text ++ rest) (slot + 1) ≡ part rest slot
part-next text rest slot e =
    let place : 92 * (slot + 1) ≡ 92 + 92 * slot = omega arith in
    ap (take 92) (ap (λ n. drop n (text ++ rest)) place ∙ sym (drop-drop (92 * slot) 92 (text ++ rest))
    ∙ ap (drop (92 * slot)) (dropped text rest 92 e))

-- four slots' bytes have the bytes of each
record Parts (a b c d : Option Entry) : Type 0 where
  first : part (body_text (a ∷ b ∷ c ∷ d ∷ [])) 0 ≡ slot_text a
  second : part (body_text (a ∷ b ∷ c ∷ d ∷ [])) 1 ≡ slot_text b
  third : part (body_text (a ∷ b ∷ c ∷ d ∷ [])) 2 ≡ slot_text c
  last : part (body_text (a ∷ b ∷ c ∷ d ∷ [])) 3 ≡ slot_text d

parts_of : (a b c d : Option Entry) → IsSlot a → IsSlot b → IsSlot c → IsSlot d → Parts a b c d
unfolding body_text
parts_of a b c d ha hb hc hd =
    let la = length-slot_text a ha in
    let lb = length-slot_text b hb in
    let lc = length-slot_text c hc in
    let ld = length-slot_text d hd in
    let rd = slot_text d ++ [] in
    let rc = slot_text c ++ rd in
    let rb = slot_text b ++ rc in
    record {
      first = part-first (slot_text a) rb la;
      second = part-next (slot_text a) rb 0 la ∙ part-first (slot_text b) rc lb;
      third = part-next (slot_text a) rb 1 la ∙ part-next (slot_text b) rc 0 lb ∙ part-first (slot_text c) rd lc;
      last =
          part-next (slot_text a) rb 2 la ∙ part-next (slot_text b) rc 1 lb ∙ part-next (slot_text c) rd 0 lc
          ∙ part-first (slot_text d) [] ld;
    }

length-four : (a b c d : Option Entry) → IsSlot a → IsSlot b → IsSlot c → IsSlot d
    → length (body_text (a ∷ b ∷ c ∷ d ∷ [])) ≡ 368
unfolding body_text
length-four a b c d ha hb hc hd =
    let rd = slot_text d ++ [] in
    let rc = slot_text c ++ rd in
    let rb = slot_text b ++ rc in
    omega (
      arith,
      length-slot_text a ha,
      length-slot_text b hb,
      length-slot_text c hc,
      length-slot_text d hd,
      length-append (slot_text a) rb,
      length-append (slot_text b) rc,
      length-append (slot_text c) rd,
      ap length (append-nil (slot_text d)),
    )

-- a bucket's seed and its slots' bytes
pub seed_in-bucket : (key : List ℕ) (seed : ℕ) (slots : List (Option Entry)) → seed < 2 ^ 64
    → seed_in (bucket_text key seed slots) ≡ seed
unfolding seed_in bucket_text
seed_in-bucket key seed slots h = from_be_bytes-to_be_bytes_8 seed h

body_in-bucket : (key : List ℕ) (seed : ℕ) (slots : List (Option Entry)) → seed < 2 ^ 64
    → length (body_text slots) ≡ 368 → body_in key (bucket_text key seed slots) ≡ body_text slots
unfolding body_in bucket_text
body_in-bucket key seed slots h long =
    ap (λ n. masked (pad_of key n) (masked (pad_of key seed) (body_text slots))) (seed_in-bucket key seed slots h)
    ∙ masked-twice (pad_of key seed) (body_text slots) (length-pad_of key seed ∙ sym long)

-- a sealed bucket, opened
opened_four : (key : List ℕ) (shape : Shape) (seed : ℕ) (a b c d : Option Entry) → 0 < seed → seed < 2 ^ 64
    → IsSlot a → IsSlot b → IsSlot c → IsSlot d
    → IsInRange shape a → IsInRange shape b → IsInRange shape c → IsInRange shape d
    → opened key shape (bucket_text key seed (a ∷ b ∷ c ∷ d ∷ [])) ≡ Ok (a ∷ b ∷ c ∷ d ∷ [])
unfolding opened slot_at
opened_four key shape seed a b c d some below ha hb hc hd ra rb rc rd =
    let slots = a ∷ b ∷ c ∷ d ∷ [] in
    let same = seed_in-bucket key seed slots below in
    let test : (seed_in (bucket_text key seed slots) == 0) ≡ false =
    is_false _ (seed_in (bucket_text key seed slots) ≡ 0) (Decides-eqb _ 0)
    (λ zero. absurd (omega (arith, same, zero))) in
    let body = body_in-bucket key seed slots below (length-four a b c d ha hb hc hd) in
    let parts = parts_of a b c d ha hb hc hd in
    rw (test, body) (slots_in-four shape (body_text slots) a b c d
    (ap (slot_in shape) parts.first ∙ slot_in-text shape a ha ra)
    (ap (slot_in shape) parts.second ∙ slot_in-text shape b hb rb)
    (ap (slot_in shape) parts.third ∙ slot_in-text shape c hc rc)
    (ap (slot_in shape) parts.last ∙ slot_in-text shape d hd rd))

pub opened_bucket : (key : List ℕ) (shape : Shape) (seed : ℕ) (slots : List (Option Entry)) → 0 < seed → seed < 2 ^ 64
    → AreSlots slots → AreInRange shape slots → opened key shape (bucket_text key seed slots) ≡ Ok slots
opened_bucket key shape seed [] some below is range = absurd (omega (arith, is.four))
opened_bucket key shape seed (a ∷ []) some below is range = absurd (omega (arith, is.four))
opened_bucket key shape seed (a ∷ b ∷ []) some below is range = absurd (omega (arith, is.four))
opened_bucket key shape seed (a ∷ b ∷ c ∷ []) some below is range = absurd (omega (arith, is.four))
opened_bucket key shape seed (a ∷ b ∷ c ∷ d ∷ []) some below is range =
    opened_four key shape seed a b c d some below (is.each 0 a (lit< tt)) (is.each 1 a (lit< tt))
    (is.each 2 a (lit< tt))
    (is.each 3 a (lit< tt)) (range 0 a (lit< tt)) (range 1 a (lit< tt)) (range 2 a (lit< tt)) (range 3 a (lit< tt))
opened_bucket key shape seed (a ∷ b ∷ c ∷ d ∷ e ∷ rest) some below is range = absurd (omega (arith, is.four))

-- different slots have different bytes
differs_four : (key : List ℕ) (seed : ℕ) (a b c d e f g h : Option Entry) → IsSlot a → IsSlot b → IsSlot c → IsSlot d
    → IsSlot e → IsSlot f → IsSlot g → IsSlot h
    → bucket_text key seed (a ∷ b ∷ c ∷ d ∷ []) ≡ bucket_text key seed (e ∷ f ∷ g ∷ h ∷ [])
    → (a ∷ b ∷ c ∷ d ∷ []) ≡ (e ∷ f ∷ g ∷ h ∷ [])
unfolding bucket_text
differs_four key seed a b c d e f g h ha hb hc hd he hf hg hh same =
    let x = body_text (a ∷ b ∷ c ∷ d ∷ []) in
    let y = body_text (e ∷ f ∷ g ∷ h ∷ []) in
    let pad = pad_of key seed in
    let lx = length-pad_of key seed ∙ sym (length-four a b c d ha hb hc hd) in
    let ly = length-pad_of key seed ∙ sym (length-four e f g h he hf hg hh) in
    let under : masked pad x ≡ masked pad y = ap (drop 8) same in
    let bodies : x ≡ y = sym (masked-twice pad x lx) ∙ ap (masked pad) under ∙ masked-twice pad y ly in
    let p = parts_of a b c d ha hb hc hd in
    let q = parts_of e f g h he hf hg hh in
    let first : a ≡ e = slot_of_text a e ha he (sym p.first ∙ ap (λ t. part t 0) bodies ∙ q.first) in
    let second : b ≡ f = slot_of_text b f hb hf (sym p.second ∙ ap (λ t. part t 1) bodies ∙ q.second) in
    let third : c ≡ g = slot_of_text c g hc hg (sym p.third ∙ ap (λ t. part t 2) bodies ∙ q.third) in
    let last : d ≡ h = slot_of_text d h hd hh (sym p.last ∙ ap (λ t. part t 3) bodies ∙ q.last) in
    cc

-- the four of a list of slots
record Four (slots : List (Option Entry)) : Type 0 where
  a : Option Entry
  b : Option Entry
  c : Option Entry
  d : Option Entry
  whole : slots ≡ a ∷ b ∷ c ∷ d ∷ []
  is_a : IsSlot a
  is_b : IsSlot b
  is_c : IsSlot c
  is_d : IsSlot d

four_of : (slots : List (Option Entry)) → AreSlots slots → Four slots
four_of [] is = absurd (omega (arith, is.four))
four_of (a ∷ []) is = absurd (omega (arith, is.four))
four_of (a ∷ b ∷ []) is = absurd (omega (arith, is.four))
four_of (a ∷ b ∷ c ∷ []) is = absurd (omega (arith, is.four))
four_of (a ∷ b ∷ c ∷ d ∷ []) is = record {
  a = a;
  b = b;
  c = c;
  d = d;
  whole = refl;
  is_a = is.each 0 a (lit< tt);
  is_b = is.each 1 a (lit< tt);
  is_c = is.each 2 a (lit< tt);
  is_d = is.each 3 a (lit< tt);
}
four_of (a ∷ b ∷ c ∷ d ∷ e ∷ rest) is = absurd (omega (arith, is.four))

slots_of_text : (key : List ℕ) (seed : ℕ) (xs ys : List (Option Entry)) → AreSlots xs → AreSlots ys
    → bucket_text key seed xs ≡ bucket_text key seed ys → xs ≡ ys
slots_of_text key seed xs ys hx hy same =
    let p = four_of xs hx in
    let q = four_of ys hy in
    let told = sym (ap (bucket_text key seed) p.whole) ∙ same ∙ ap (bucket_text key seed) q.whole in
    p.whole
    ∙ differs_four key seed p.a p.b p.c p.d q.a q.b q.c q.d p.is_a p.is_b p.is_c p.is_d q.is_a q.is_b q.is_c q.is_d told
    ∙ sym q.whole

-- four slots have 368 bytes, and their bucket has 376
length-body_text : (slots : List (Option Entry)) → AreSlots slots → length (body_text slots) ≡ 368
length-body_text slots is =
    let p = four_of slots is in
    ap (λ s. length (body_text s)) p.whole ∙ length-four p.a p.b p.c p.d p.is_a p.is_b p.is_c p.is_d

pub length-bucket_text : (key : List ℕ) (seed : ℕ) (slots : List (Option Entry)) → AreSlots slots
    → length (bucket_text key seed slots) ≡ 376
unfolding bucket_text
length-bucket_text key seed slots is =
    let pad = pad_of key seed in
    let body = length-body_text slots is in
    let under = length-masked pad (body_text slots) (length-pad_of key seed ∙ sym body) in
    omega (arith, length-append (to_be_bytes w64 seed) (masked pad (body_text slots)), under, body)

-- equal texts have equal seeds and slots
pub parts_of_text : (key : List ℕ) (m n : ℕ) (xs ys : List (Option Entry)) → m < 2 ^ 64 → n < 2 ^ 64
    → AreSlots xs → AreSlots ys → bucket_text key m xs ≡ bucket_text key n ys → (m ≡ n) × (xs ≡ ys)
parts_of_text key m n xs ys hm hn hx hy same =
    let seeds : m ≡ n = sym (seed_in-bucket key m xs hm) ∙ ap seed_in same ∙ seed_in-bucket key n ys hn in
    (seeds, slots_of_text key n xs ys hx hy (ap (λ s. bucket_text key s xs) (sym seeds) ∙ same))
