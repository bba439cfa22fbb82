-- A file part in its place among bytes.
use Rattle.std.proofs.Common.{◌≡◌, ℕ, ◌+◌, ◌-◌, ◌≤◌, ◌<◌, inl, inr, List, ◌++◌, length, get_or, take, drop, refl, ap}
use Rattle.std.proofs.Common.{◌∙◌, arith, true, false, ◌&&◌, ◌==◌, nat_le, nat_lt, length-append, length-drop}
use Rattle.std.proofs.lemmas.Bool.{cases_lt}
use Rattle.std.proofs.lemmas.Bool.Decides.{nat_tests}
use Rattle.std.proofs.lemmas.List.{get_or-take, get_or-drop, length-take-le}
use Rattle.std.proofs.Math.ListN.{get_or-append}
use Rattle.std.proofs.Math.Seq.{get_or-append_right}
use Rattle.elf_loader.specs.declared.header.ProgramHeader.{ProgramHeader}
use Rattle.elf_loader.specs.Layout.{IsPlaced}

-- an address that a part covers is in it, and one that it doesn't is before or behind it
from : (k v n x : ℕ) → (k == 1 && nat_le v x && nat_lt x (v + n)) ≡ true → v ≤ x
from k v n x covered = grind (arith, nat_tests)

below : (k v n x : ℕ) → (k == 1 && nat_le v x && nat_lt x (v + n)) ≡ true → x < v + n
below k v n x covered = grind (arith, nat_tests)

beyond : (k v n x : ℕ) → k ≡ 1 → (k == 1 && nat_le v x && nat_lt x (v + n)) ≡ false → v ≤ x → v + n ≤ x
beyond k v n x load uncovered later = grind (arith, nat_tests)

-- what stands in a list with a part in its place, before the part, in it and behind it
at_front : (a part c : List ℕ) (k : ℕ) → k < length a → get_or (a ++ part ++ c) k 0 ≡ get_or a k 0
at_front a part c k early =
    let inside : k < length (a ++ part) = omega (arith, length-append a part) in
    get_or-append (a ++ part) c 0 k inside ∙ get_or-append a part 0 k early

at_part : (a part c : List ℕ) (k : ℕ) → length a ≤ k → k < length a + length part →
    get_or (a ++ part ++ c) k 0 ≡ get_or part (k - length a) 0
at_part a part c k later early =
    let inside : k < length (a ++ part) = omega (arith, length-append a part) in
    get_or-append (a ++ part) c 0 k inside ∙ get_or-append_right a part k 0 later

at_back : (a part c : List ℕ) (k : ℕ) → length a + length part ≤ k →
    get_or (a ++ part ++ c) k 0 ≡ get_or c (k - (length a + length part)) 0
at_back a part c k later =
    let late : length (a ++ part) ≤ k = omega (arith, length-append a part) in
    get_or-append_right (a ++ part) c k 0 late ∙ ap (λ n. get_or c (k - n) 0) (length-append a part)

-- the bytes `new` are `old` with `part`, which a file has from `offset` on, from `start` on
record Put (start offset : ℕ) (file part old new : List ℕ) : Type 0 where
  same : new ≡ take start old ++ part ++ drop (start + length part) old
  taken : part ≡ take (length part) (drop offset file)
  fits : start + length part ≤ length old

front_len : (start : ℕ) (old : List ℕ) → start ≤ length old → length (take start old) ≡ start
front_len start old fits = length-take-le start old fits

old_before : {start offset : ℕ} {file part old new : List ℕ} → Put start offset file part old new →
    (k : ℕ) → k < start → get_or new k 0 ≡ get_or old k 0
old_before {start} {offset} {file} {part} {old} {new} p k early =
    let e : length (take start old) ≡ start = front_len start old (omega (arith, p.fits)) in
    ap (λ xs. get_or xs k 0) p.same
    ∙ at_front (take start old) part (drop (start + length part) old) k (omega arith)
    ∙ get_or-take start old k 0 early

byte_within : {start offset : ℕ} {file part old new : List ℕ} → Put start offset file part old new →
    (k : ℕ) → start ≤ k → k < start + length part → get_or new k 0 ≡ get_or file (offset + (k - start)) 0
byte_within {start} {offset} {file} {part} {old} {new} p k later early =
    let e : length (take start old) ≡ start = front_len start old (omega (arith, p.fits)) in
    ap (λ xs. get_or xs k 0) p.same
    ∙ at_part (take start old) part (drop (start + length part) old) k (omega arith) (omega arith)
    ∙ ap (λ n. get_or part (k - n) 0) e
    ∙ ap (λ xs. get_or xs (k - start) 0) p.taken
    ∙ get_or-take (length part) (drop offset file) (k - start) 0 (omega arith)
    ∙ get_or-drop offset file (k - start) 0

old_behind : {start offset : ℕ} {file part old new : List ℕ} → Put start offset file part old new →
    (k : ℕ) → start + length part ≤ k → get_or new k 0 ≡ get_or old k 0
old_behind {start} {offset} {file} {part} {old} {new} p k later =
    let e : length (take start old) ≡ start = front_len start old (omega (arith, p.fits)) in
    ap (λ xs. get_or xs k 0) p.same
    ∙ at_back (take start old) part (drop (start + length part) old) k (omega arith)
    ∙ get_or-drop (start + length part) old (k - (length (take start old) + length part)) 0
    ∙ ap (λ n. get_or old n 0) (let same : start + length part + (k - (length (take start old) + length part))
    ≡ k = omega arith in same)

put_len : {start offset : ℕ} {file part old new : List ℕ} → Put start offset file part old new → length new ≡ length old
put_len {start} {offset} {file} {part} {old} {new} p =
    let e : length (take start old) ≡ start = front_len start old (omega (arith, p.fits)) in
    ap length p.same ∙ simp (length-append, length-drop) (omega (arith, p.fits))

placed : {start offset : ℕ} {file part old new : List ℕ} → (base : ℕ) (header : ProgramHeader) →
    Put start offset file part old new → header.kind ≡ 1 → base + start ≡ header.address →
    length part ≡ header.file_size → offset ≡ header.offset → IsPlaced base file header old new
placed {start} {offset} {file} {part} {old} {new} base header p load there long is = record {
  len = put_len p;
  part = λ place within covered.
      let later : header.address ≤ base + place = from header.kind header.address header.file_size
      (base + place) covered in
      let early : base + place < header.address + header.file_size =
      below header.kind header.address header.file_size (base + place) covered in
      byte_within p place (omega arith) (omega arith)
      ∙ ap (λ n. get_or file n 0) (let same : offset + (place - start) ≡ header.offset
      + (base + place - header.address) = omega arith in same);
  rest = λ place within uncovered. elim (cases_lt place start) [
    | inl early ↦ old_before p place early
    | inr later ↦
        let behind : header.address + header.file_size ≤ base + place =
        beyond header.kind header.address header.file_size (base + place) load uncovered (omega arith) in
        old_behind p place (omega arith)
  ];
}

pub placed_part : (base : ℕ) (file : List ℕ) (header : ProgramHeader) (start : ℕ) (part old new : List ℕ) →
    new ≡ take start old ++ part ++ drop (start + length part) old →
    part ≡ take header.file_size (drop header.offset file) → length part ≡ header.file_size →
    start + length part ≤ length old → header.kind ≡ 1 → base + start ≡ header.address
    → IsPlaced base file header old new
placed_part base file header start part old new same taken long fits load there =
    placed base header (record { same = same; taken = rw long taken; fits = fits }) load there long refl
