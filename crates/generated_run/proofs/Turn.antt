-- The instructions of the program, up to the loop and one turn of it.
use Rattle.std.proofs.Common.{◌≡◌, ◌∙◌, ℕ, suc, ◌+◌, ◌-◌, ◌*◌, ◌%◌, ◌^◌, ◌<◌, List, [], ◌∷◌, ◌++◌, length, ap, sym}
use Rattle.std.proofs.Common.{refl, subst, arith, length-append, lit<}
use Rattle.std.specs.Prelude.{◌==◌, not, if◌then◌else◌, false, pos, slice_index, slice_set}
use Rattle.std.proofs.lemmas.List.{get_or-append-add, set-append_right}
use Rattle.std.proofs.Math.Seq.{get_or-append_seam, set-append_seam}
use Rattle.std.proofs.lemmas.Bool.{ne_eqb}
use Rattle.rv32_table.specs.Meaning.{register_meaning, branch_meaning}
use Rattle.rv32_core.specs.Machine.{Machine, effect_of}
use Rattle.rv32_core.specs.FlatMachine.{set_to, stepped, effected}
use Rattle.rv32_core.specs.declared.effect.Effect.{Effect}
use Rattle.rv32_core.specs.declared.effect.Effect.TheVariants.{Passes, Sets, Jumps}
use Rattle.rv32_asm.specs.Generator.{start, program}
use Rattle.generated_run.specs.Hash.{hash_after}
use Rattle.generated_run.specs.Leads.{Leads}
use Rattle.generated_run.specs.States.{code, laid, Surroundings, HasRoom, Registers, regs, machine_before}
use Rattle.generated_run.specs.States.{address_of_word}
use Rattle.generated_run.proofs.LeadLaws.{◌▸◌}
use Rattle.generated_run.proofs.Steps.{leads_to, leads_sets, leads_load, leads_store}
use Rattle.generated_run.proofs.Coded.{instr_at, coded, length_code}

module _ (around : Surroundings) (rest : List ℕ) (room : HasRoom around (length (code ++ rest))) where
  -- the bytes with these words behind the instructions
  abbrev pub bytes : List ℕ
  bytes = laid around.front (code ++ rest) around.back

  pub within : (k : ℕ) → k < 29 → k < length (code ++ rest)
  within k few = omega (arith, length-append code rest, length_code)

  module _ (k : ℕ) (few : k < 29) (r : Registers) (output : List ℕ) where
    pub does : (effect : Effect) (next : Machine) (after : List ℕ)
        → effect_of (machine_before around k r output) (instr_at k) ≡ effect
        → ((cost : ℕ) → effected (machine_before around k r output) bytes cost effect ≡ stepped next after cost)
        → Leads 1 (machine_before around k r output) bytes next after
    does effect next after is makes =
        leads_to around (code ++ rest) room k r output (instr_at k) (within k few) (coded rest k few) effect next after
        is (makes _)

    pub sets : (index value : ℕ) (next : Machine)
        → effect_of (machine_before around k r output) (instr_at k) ≡ Sets index value
        → set_to (machine_before around k r output) index value ≡ next
        → Leads 1 (machine_before around k r output) bytes next bytes
    sets index value next is to =
        leads_sets around (code ++ rest) room k r output (instr_at k) (within k few) (coded rest k few) index value next
        is to

-- up to the loop
module _ (around : Surroundings) (count : ℕ) (row : List ℕ) (few : count < 2 ^ 32)
    (room : HasRoom around (length (code ++ (count ∷ row)))) where
  at : ℕ → Registers → Machine
  at k r = machine_before around k r []

  set : (k : ℕ) → k < 29 → (r : Registers) (index value : ℕ) (next : Machine)
      → effect_of (machine_before around k r []) (instr_at k) ≡ Sets index value
      → set_to (machine_before around k r []) index value ≡ next
      → Leads 1 (machine_before around k r []) (bytes around (count ∷ row) room) next
      (bytes around (count ∷ row) room)
  set k small r = sets around (count ∷ row) room k small r []

  count_stands : 29 < length (code ++ (count ∷ row))
  count_stands = omega (arith, length-append code (count ∷ row), length_code)

  pub leads_to_loop : Leads 6 (machine_before around 0 (regs 0 0 0 0 0 0 0 0) []) (bytes around (count ∷ row) room)
      (machine_before around 6 (regs 0 0 (address_of_word 0) count 0 0 0 0) []) (bytes around (count ∷ row) room)
  unfolding at program register_meaning
  leads_to_loop =
      set 0 (lit< tt) (regs 0 0 0 0 0 0 0 0) 8 65_536 (at 1 (regs 0 0 65_536 0 0 0 0 0)) refl refl
      ▸ set 1 (lit< tt) (regs 0 0 65_536 0 0 0 0 0) 8 65_652 (at 2 (regs 0 0 65_652 0 0 0 0 0)) refl refl
      ▸ leads_load around (code ++ (count ∷ row)) room 2 (regs 0 0 65_652 0 0 0 0 0) [] 9 8 (pos 0)
      (within around (count ∷ row) room 2 (lit< tt)) (coded (count ∷ row) 2 (lit< tt)) 29 count
      (at 3 (regs 0 0 65_652 count 0 0 0 0)) count_stands refl refl few refl
      ▸ set 3 (lit< tt) (regs 0 0 65_652 count 0 0 0 0) 8 65_656 (at 4 (regs 0 0 65_656 count 0 0 0 0)) refl refl
      ▸ set 4 (lit< tt) (regs 0 0 65_656 count 0 0 0 0) 10 0 (at 5 (regs 0 0 65_656 count 0 0 0 0)) refl refl
      ▸ set 5 (lit< tt) (regs 0 0 65_656 count 0 0 0 0) 10 0 (at 6 (regs 0 0 65_656 count 0 0 0 0)) refl refl

-- one turn of the loop, up to its branch
module _ (around : Surroundings) (count : ℕ) (places : List ℕ) (word : ℕ) (left : List ℕ) (t0 t1 hash : ℕ)
    (few : word < 2 ^ 32) (short : length left < 2 ^ 31)
    (room : HasRoom around (length (code ++ (count ∷ (places ++ (word ∷ left)))))) where
  abbrev pub row : List ℕ
  row = places ++ (word ∷ left)

  abbrev pub place : ℕ
  place = 30 + length places

  prefix : List ℕ
  prefix = code ++ (count ∷ [])

  there : place < length (code ++ (count ∷ row))
  there =
      omega (arith, length-append code (count ∷ row), length_code, length-append places (word ∷ left))

  low_enough : start + 4 * place + 4 < 2 ^ 32
  low_enough = omega (arith, there, room.high, room.below)

  loaded : slice_index (code ++ (count ∷ row)) place ≡ word
  unfolding program
  loaded =
      get_or-append-add (code ++ (count ∷ [])) row (length places) 0 ∙ get_or-append_seam places word left 0

  stored : (value : ℕ) → slice_set (code ++ (count ∷ row)) place value ≡ code ++ (count ∷ (places ++ (value ∷ left)))
  unfolding program
  stored value =
      set-append_right (code ++ (count ∷ [])) row 30 place value refl (omega arith)
      ∙ ap (λ n. (code ++ (count ∷ [])) ++ slice_set row n value) (omega arith)
      ∙ ap (λ more. (code ++ (count ∷ [])) ++ more) (set-append_seam places word left value)

  abbrev pub shifted : ℕ
  shifted = hash * 32 % 2 ^ 32

  hashed : ((hash + hash * 32 % 2 ^ 32) % 2 ^ 32 + word) % 2 ^ 32 ≡ hash_after hash word
  hashed = omega arith

  same_address : (start + 4 * place + 0) % 2 ^ 32 ≡ start + 4 * place
  same_address = omega (arith, low_enough)

  next_address : (start + 4 * place + 4) % 2 ^ 32 ≡ address_of_word (length places + 1)
  next_address = omega (arith, low_enough)

  one_less : (suc (length left) + (2 ^ 32 - 1)) % 2 ^ 32 ≡ length left
  one_less = omega (arith, short)

  pub room_after : HasRoom around (length (code ++ (count ∷ (places ++ (hash_after hash word ∷ left)))))
  room_after =
      let old : length (code ++ (count ∷ row)) ≡ length code + suc (length places + suc (length left)) =
      length-append code (count ∷ row)
      ∙ ap (λ n. length code + suc n) (length-append places (word ∷ left)) in
      let new : length (code ++ (count ∷ (places ++ (hash_after hash word ∷ left))))
      ≡ length code + suc (length places + suc (length left)) =
      length-append code (count ∷ (places ++ (hash_after hash word ∷ left)))
      ∙ ap (λ n. length code + suc n) (length-append places (hash_after hash word ∷ left)) in
      subst (HasRoom around) (old ∙ sym new) room

  -- the bytes before the turn, and after its store
  abbrev bytes_before : List ℕ
  bytes_before = bytes around (count ∷ row) room

  abbrev bytes_after : List ℕ
  bytes_after = bytes around (count ∷ (places ++ (hash_after hash word ∷ left))) room_after

  in_turn : ℕ → Registers → Machine
  in_turn k r = machine_before around k r []

  set_before : (k : ℕ) → k < 29 → (r : Registers) (index value : ℕ) (next : Machine)
      → effect_of (machine_before around k r []) (instr_at k) ≡ Sets index value
      → set_to (machine_before around k r []) index value ≡ next
      → Leads 1 (machine_before around k r []) bytes_before next bytes_before
  set_before k small r = sets around (count ∷ row) room k small r []

  set_after : (k : ℕ) → k < 29 → (r : Registers) (index value : ℕ) (next : Machine)
      → effect_of (machine_before around k r []) (instr_at k) ≡ Sets index value
      → set_to (machine_before around k r []) index value ≡ next
      → Leads 1 (machine_before around k r []) bytes_after next bytes_after
  set_after k small r = sets around (count ∷ (places ++ (hash_after hash word ∷ left))) room_after k small r []

  abbrev here : ℕ
  here = start + 4 * place

  abbrev further : ℕ
  further = address_of_word (length places + 1)

  abbrev many : ℕ
  many = suc (length left)

  abbrev new_hash : ℕ
  new_hash = hash_after hash word

  stores : Leads 1 (machine_before around 10 (regs word shifted here many new_hash 0 0 0) []) bytes_before
      (machine_before around 11 (regs word shifted here many new_hash 0 0 0) []) bytes_after
  unfolding program
  stores =
      let from : Machine = machine_before around 10 (regs word shifted here many new_hash 0 0 0) [] in
      let next : Machine = machine_before around 11 (regs word shifted here many new_hash 0 0 0) [] in
      let P : List ℕ → Type 0 = λ cells. Leads 1 from bytes_before next (laid around.front cells around.back) in
      subst P (stored new_hash)
      (leads_store around (code ++ (count ∷ row)) room 10 (regs word shifted here many new_hash 0 0 0) [] 8 10 (pos 0)
      (within around (count ∷ row) room 10 (lit< tt)) (coded (count ∷ row) 10 (lit< tt)) place new_hash next there
      same_address refl refl)

  pub leads_to_branch :
      Leads 7 (machine_before around 6 (regs t0 t1 here many hash 0 0 0) []) bytes_before
      (machine_before around 13 (regs word shifted further (length left) new_hash 0 0 0) []) bytes_after
  unfolding in_turn program register_meaning
  leads_to_branch =
      leads_load around (code ++ (count ∷ row)) room 6 (regs t0 t1 here many hash 0 0 0) [] 5 8 (pos 0)
      (within around (count ∷ row) room 6 (lit< tt)) (coded (count ∷ row) 6 (lit< tt)) place word
      (in_turn 7 (regs word t1 here many hash 0 0 0)) there same_address loaded few refl
      ▸ set_before 7 (lit< tt) (regs word t1 here many hash 0 0 0) 6 shifted
      (in_turn 8 (regs word shifted here many hash 0 0 0)) refl refl
      ▸ set_before 8 (lit< tt) (regs word shifted here many hash 0 0 0) 10 ((hash + shifted) % 2 ^ 32)
      (in_turn 9 (regs word shifted here many ((hash + shifted) % 2 ^ 32) 0 0 0)) refl refl
      ▸ set_before 9 (lit< tt) (regs word shifted here many ((hash + shifted) % 2 ^ 32) 0 0 0) 10 new_hash
      (in_turn 10 (regs word shifted here many new_hash 0 0 0)) (ap (Sets 10) hashed) refl
      ▸ stores
      ▸ set_after 11 (lit< tt) (regs word shifted here many new_hash 0 0 0) 8 further
      (in_turn 12 (regs word shifted further many new_hash 0 0 0)) (ap (Sets 8) next_address) refl
      ▸ set_after 12 (lit< tt) (regs word shifted further many new_hash 0 0 0) 9 (length left)
      (in_turn 13 (regs word shifted further (length left) new_hash 0 0 0)) (ap (Sets 9) one_less) refl

-- the branch: back to the loop's first instruction where words are left, and else on
module _ (around : Surroundings) (rest : List ℕ) (room : HasRoom around (length (code ++ rest)))
    (t0 t1 s0 a0 : ℕ) where
  pub goes_on : Leads 1 (machine_before around 13 (regs t0 t1 s0 0 a0 0 0 0) []) (bytes around rest room)
      (machine_before around 14 (regs t0 t1 s0 0 a0 0 0 0) []) (bytes around rest room)
  unfolding program branch_meaning
  goes_on =
      does around rest room 13 (lit< tt) (regs t0 t1 s0 0 a0 0 0 0) [] Passes
      (machine_before around 14 (regs t0 t1 s0 0 a0 0 0 0) []) (bytes around rest room) refl (λ cost. refl)

  not_none : (n : ℕ) → (suc n == 0) ≡ false
  not_none n = ne_eqb (suc n) 0 (omega arith)

  pub turns : (n : ℕ) → Leads 1 (machine_before around 13 (regs t0 t1 s0 (suc n) a0 0 0 0) []) (bytes around rest room)
      (machine_before around 6 (regs t0 t1 s0 (suc n) a0 0 0 0) []) (bytes around rest room)
  unfolding program branch_meaning
  turns n =
      does around rest room 13 (lit< tt) (regs t0 t1 s0 (suc n) a0 0 0 0) [] (Jumps 0 65_560)
      (machine_before around 6 (regs t0 t1 s0 (suc n) a0 0 0 0) []) (bytes around rest room)
      (ap (λ none. if not none then Jumps 0 65_560 else Passes) (not_none n)) (λ cost. refl)
