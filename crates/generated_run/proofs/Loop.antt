-- The loop: each turn keeps its invariant, and all turns take all words.
use Rattle.std.proofs.Common.{◌≡◌, ◌∙◌, ℕ, suc, ◌+◌, ◌*◌, ◌%◌, ◌^◌, ◌<◌, List, [], ◌∷◌, ◌++◌, length, ap, sym, refl}
use Rattle.std.proofs.Common.{subst, arith, append_assoc, length-append, Bool, true}
use Rattle.std.specs.Prelude.{nat_lt, ◌&&◌}
use Rattle.std.specs.List.{All, list_all, fold}
use Rattle.std.proofs.lemmas.Bool.{ltb-true, lt-ltb}
use Rattle.std.proofs.lemmas.List.{append-nil}
use Rattle.std.proofs.lemmas.List.Folds.{list_all-append}
use Rattle.std.proofs.lemmas.List.Sums.{fold-append}
use Rattle.rv32_core.specs.Machine.{Machine}
use Rattle.rv32_asm.proofs.TestLaws.{and_first, and_second, and_both}
use Rattle.generated_run.specs.Hash.{hash_after}
use Rattle.generated_run.specs.Leads.{Leads}
use Rattle.generated_run.specs.States.{code, laid, Surroundings, HasRoom, regs, machine_before, address_of_word}
use Rattle.generated_run.specs.States.{turn_at, IsTurning}
use Rattle.generated_run.proofs.LeadLaws.{leads_none, ◌▸◌}
use Rattle.generated_run.proofs.Coded.{length_code}
use Rattle.generated_run.proofs.Turn.{bytes, room_after, leads_to_branch, goes_on, turns}

abbrev pub is_word : ℕ → Bool
is_word number = nat_lt number (2 ^ 32)

-- after so many instructions the loop goes on with these words taken and left
pub record Turned (around : Surroundings) (all taken left : List ℕ) (count : ℕ) (machine : Machine) (memory : List ℕ)
    : Type 0 where
  pub next : Machine
  pub after : List ℕ
  pub leads : Leads count machine memory next after
  pub turning : IsTurning around all taken left next after

-- the branch at a turn's end
branches : (around : Surroundings) (rest left : List ℕ) (t0 t1 s0 hash : ℕ)
    (room : HasRoom around (length (code ++ rest)))
    → Leads 1 (machine_before around 13 (regs t0 t1 s0 (length left) hash 0 0 0) []) (bytes around rest room)
    (machine_before around (turn_at left) (regs t0 t1 s0 (length left) hash 0 0 0) []) (bytes around rest room)
branches around rest [] t0 t1 s0 hash room = goes_on around rest room t0 t1 s0 hash
branches around rest (word ∷ left) t0 t1 s0 hash room = turns around rest room t0 t1 s0 hash (length left)

-- the eight instructions of a turn
eight : (around : Surroundings) (count : ℕ) (places : List ℕ) (word : ℕ) (left : List ℕ) (t0 t1 hash : ℕ)
    → word < 2 ^ 32 → length left < 2 ^ 31
    → HasRoom around (length (code ++ (count ∷ (places ++ (word ∷ left)))))
    → Leads 8
    (machine_before around 6 (regs t0 t1 (address_of_word (length places)) (suc (length left)) hash 0 0 0) [])
    (laid around.front (code ++ (count ∷ (places ++ (word ∷ left)))) around.back)
    (machine_before around (turn_at left)
    (regs word (hash * 32 % 2 ^ 32) (address_of_word (length places + 1)) (length left) (hash_after hash word) 0 0 0)
    [])
    (laid around.front (code ++ (count ∷ (places ++ (hash_after hash word ∷ left)))) around.back)
eight around count places word left t0 t1 hash few short room =
    leads_to_branch around count places word left t0 t1 hash few short room
    ▸ branches around (count ∷ (places ++ (hash_after hash word ∷ left))) left word (hash * 32 % 2 ^ 32)
    (address_of_word (length places + 1)) (hash_after hash word)
    (room_after around count places word left t0 t1 hash few short room)

module _ (around : Surroundings) (all : List ℕ) (words : list_all is_word all ≡ true)
    (room : HasRoom around (30 + length all)) where
  -- a word that is left
  word_left : (taken left : List ℕ) (word : ℕ) → all ≡ taken ++ (word ∷ left) → word < 2 ^ 32
  word_left taken left word split =
      let parts : (list_all is_word taken && list_all is_word (word ∷ left)) ≡ true =
      sym (list_all-append is_word taken (word ∷ left)) ∙ ap (list_all is_word) (sym split) ∙ words in
      ltb-true word (2 ^ 32)
      (and_first (is_word word) (list_all is_word left)
      (and_second (list_all is_word taken) (list_all is_word (word ∷ left)) parts))

  length_split : (taken left : List ℕ) (word : ℕ) → all ≡ taken ++ (word ∷ left)
      → length all ≡ length taken + suc (length left)
  length_split taken left word split = ap length split ∙ length-append taken (word ∷ left)

  room_for : (places left : List ℕ) (word : ℕ) → length all ≡ length places + suc (length left)
      → HasRoom around (length (code ++ (length all ∷ (places ++ (word ∷ left)))))
  room_for places left word same =
      let cells : length (code ++ (length all ∷ (places ++ (word ∷ left)))) ≡ 30 + length all =
      length-append code (length all ∷ (places ++ (word ∷ left)))
      ∙ ap (λ n. length code + suc n) (length-append places (word ∷ left))
      ∙ omega (arith, same, length_code) in
      subst (HasRoom around) (sym cells) room

  pub turned : (taken left : List ℕ) (word : ℕ) (machine : Machine) (memory : List ℕ)
      → IsTurning around all taken (word ∷ left) machine memory
      → Turned around all (taken ++ (word ∷ [])) left 8 machine memory
  turned taken left word machine memory turning =
      let places : List ℕ = turning.places in
      let hash : ℕ = fold hash_after 0 taken in
      let long : length all ≡ length taken + suc (length left) = length_split taken left word turning.split in
      let few : word < 2 ^ 32 = word_left taken left word turning.split in
      let here : HasRoom around (length (code ++ (length all ∷ (places ++ (word ∷ left))))) =
      room_for places left word (long ∙ ap (λ n. n + suc (length left)) (sym turning.replaced)) in
      let short : length left < 2 ^ 31 = omega (arith, long, room.high, room.below) in
      let new : ℕ = hash_after hash word in
      let from : ℕ → Machine = λ n.
      machine_before around 6 (regs turning.t0 turning.t1 (address_of_word n) (suc (length left)) hash 0 0 0) [] in
      let to : ℕ → ℕ → Machine = λ n h.
      machine_before around (turn_at left)
      (regs word (hash * 32 % 2 ^ 32) (address_of_word n) (length left) h 0 0 0) [] in
      let row : List ℕ → List ℕ = λ some. laid around.front (code ++ (length all ∷ some)) around.back in
      let one_more : length places + 1 ≡ length (taken ++ (word ∷ [])) =
      ap (λ n. n + 1) turning.replaced ∙ sym (length-append taken (word ∷ [])) in
      let next : Machine = to (length places + 1) new in
      let after : List ℕ = row (places ++ (new ∷ left)) in
      let P : Machine → Type 0 = λ m. Leads 8 m memory next after in
      let Q : List ℕ → Type 0 = λ l. Leads 8 (from (length places)) l next after in
      record {
        next = next;
        after = after;
        leads = subst P (sym (turning.registers ∙ ap from (sym turning.replaced)))
            (subst Q (sym turning.bytes)
            (eight around (length all) places word left turning.t0 turning.t1 hash few short here));
        turning = record {
          t0 = word;
          t1 = hash * 32 % 2 ^ 32;
          places = places ++ (new ∷ []);
          split = turning.split ∙ sym (append_assoc taken (word ∷ []) left);
          replaced = length-append places (new ∷ []) ∙ one_more;
          registers = ap (λ n. to n new) one_more
              ∙ ap (to (length (taken ++ (word ∷ [])))) (sym (fold-append hash_after 0 taken (word ∷ [])));
          bytes = ap row (sym (append_assoc places (new ∷ []) left));
        };
      }

  pub looped : (left taken : List ℕ) (machine : Machine) (memory : List ℕ)
      → IsTurning around all taken left machine memory
      → Turned around all (taken ++ left) [] (8 * length left) machine memory
  looped [] taken machine memory turning =
      let P : List ℕ → Type 0 = λ some. IsTurning around all some [] machine memory in
      record {
        next = machine;
        after = memory;
        leads = leads_none machine memory;
        turning = subst P (sym (append-nil taken)) turning;
      }
  looped (word ∷ left) taken machine memory turning =
      let one : Turned around all (taken ++ (word ∷ [])) left 8 machine memory =
      turned taken left word machine memory turning in
      let more : Turned around all ((taken ++ (word ∷ [])) ++ left) [] (8 * length left) one.next one.after =
      looped left (taken ++ (word ∷ [])) one.next one.after one.turning in
      let P : List ℕ → Type 0 = λ some. IsTurning around all some [] more.next more.after in
      let Q : ℕ → Type 0 = λ n. Leads n machine memory more.next more.after in
      let count : 8 + 8 * length left ≡ 8 * suc (length left) = omega arith in
      record {
        next = more.next;
        after = more.after;
        leads = subst Q count (one.leads ▸ more.leads);
        turning = subst P (append_assoc taken (word ∷ []) left) more.turning;
      }

-- words by index
pub words_pass : (all : List ℕ) → All (λ word. word < 2 ^ 32) all → list_all is_word all ≡ true
words_pass [] each = refl
words_pass (word ∷ all) each =
    and_both (is_word word) (list_all is_word all) (lt-ltb word (2 ^ 32) (each 0 0 (omega arith)))
    (words_pass all (λ k d less. each (suc k) d (omega arith)))
