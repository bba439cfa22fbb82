-- The instructions behind the loop: the hash is written, and the program exits.
use Rattle.std.proofs.Common.{◌≡◌, ◌∙◌, ℕ, suc, ◌<◌, List, [], ◌∷◌, ◌++◌, length, ap, sym, refl, subst, arith}
use Rattle.std.proofs.Common.{length-append, lit<}
use Rattle.std.specs.Prelude.{if◌then◌else◌, pos}
use Rattle.std.specs.Int.{to_le_bytes, w32}
use Rattle.rv32_table.specs.Meaning.{register_meaning}
use Rattle.rv32_core.specs.Machine.{Machine, effect_of, bad_buffer}
use Rattle.rv32_core.specs.FlatMachine.{FlatStep, set_to, stepped, after_write}
use Rattle.rv32_core.specs.FlatRun.{Exited, run_from, flat_run}
use Rattle.rv32_core.specs.declared.effect.Effect.TheVariants.{Sets, Writes, Answers}
use Rattle.rv32_asm.specs.Generator.{program}
use Rattle.generated_run.specs.Leads.{Leads}
use Rattle.generated_run.specs.States.{code, laid, Surroundings, HasRoom, Registers, regs, machine_before}
use Rattle.generated_run.proofs.LeadLaws.{◌▸◌}
use Rattle.generated_run.proofs.Steps.{leads_store, inside, bytes_are, fetched}
use Rattle.generated_run.proofs.Coded.{instr_at, coded, length_code}
use Rattle.generated_run.proofs.Turn.{bytes, within, does, sets}

module _ (around : Surroundings) (count : ℕ) (row : List ℕ) (t0 t1 s0 hash : ℕ)
    (room : HasRoom around (length (code ++ (count ∷ row)))) where
  room_after : HasRoom around (length (code ++ (hash ∷ row)))
  room_after =
      let same : length (code ++ (count ∷ row)) ≡ length (code ++ (hash ∷ row)) =
      length-append code (count ∷ row) ∙ sym (length-append code (hash ∷ row)) in
      subst (HasRoom around) same room

  abbrev bytes_before : List ℕ
  bytes_before = bytes around (count ∷ row) room

  abbrev bytes_after : List ℕ
  bytes_after = bytes around (hash ∷ row) room_after

  abbrev written : List ℕ
  written = to_le_bytes w32 hash

  there : 29 < length (code ++ (count ∷ row))
  there = omega (arith, length-append code (count ∷ row), length_code)

  there_after : 29 < length (code ++ (hash ∷ row))
  there_after = omega (arith, length-append code (hash ∷ row), length_code)

  set_before : (k : ℕ) → k < 29 → (r : Registers) (index value : ℕ) (next : Machine)
      → effect_of (machine_before around k r []) (instr_at k) ≡ Sets index value
      → set_to (machine_before around k r []) index value ≡ next
      → Leads 1 (machine_before around k r []) bytes_before next bytes_before
  set_before k small r = sets around (count ∷ row) room k small r []

  set_after : (k : ℕ) → k < 29 → (r : Registers) (output : List ℕ) (index value : ℕ) (next : Machine)
      → effect_of (machine_before around k r output) (instr_at k) ≡ Sets index value
      → set_to (machine_before around k r output) index value ≡ next
      → Leads 1 (machine_before around k r output) bytes_after next bytes_after
  set_after k small r output = sets around (hash ∷ row) room_after k small r output

  -- the machine with these values of a0, a1, a2 and a7
  at : ℕ → List ℕ → (a0 a1 a2 a7 : ℕ) → Machine
  at k output a0 a1 a2 a7 = machine_before around k (regs t0 t1 s0 0 a0 a1 a2 a7) output

  stores : Leads 1 (machine_before around 16 (regs t0 t1 s0 0 hash 65_652 0 0) []) bytes_before
      (machine_before around 17 (regs t0 t1 s0 0 hash 65_652 0 0) []) bytes_after
  unfolding program
  stores =
      leads_store around (code ++ (count ∷ row)) room 16 (regs t0 t1 s0 0 hash 65_652 0 0) [] 11 10 (pos 0)
      (within around (count ∷ row) room 16 (lit< tt)) (coded (count ∷ row) 16 (lit< tt)) 29 hash
      (machine_before around 17 (regs t0 t1 s0 0 hash 65_652 0 0) []) there refl refl refl

  -- the host takes the four bytes of the hash
  writes : Leads 1 (machine_before around 23 (regs t0 t1 s0 0 1 65_652 4 64) []) bytes_after
      (machine_before around 24 (regs t0 t1 s0 0 4 65_652 4 64) written) bytes_after
  unfolding program
  writes =
      let m : Machine = machine_before around 23 (regs t0 t1 s0 0 1 65_652 4 64) [] in
      does around (hash ∷ row) room_after 23 (lit< tt) (regs t0 t1 s0 0 1 65_652 4 64) [] (Writes 65_652 4)
      (machine_before around 24 (regs t0 t1 s0 0 4 65_652 4 64) written) bytes_after
      (ap (λ inside. if inside then Writes 65_652 4 else Answers bad_buffer)
      (inside around (code ++ (hash ∷ row)) room_after 29 there_after))
      (λ cost. ap (λ output. stepped (after_write m output 4) bytes_after cost)
      (bytes_are around (code ++ (hash ∷ row)) room_after 29 there_after))

  pub leads_to_exit :
      Leads 14 (machine_before around 14 (regs t0 t1 s0 0 hash 0 0 0) []) (bytes around (count ∷ row) room)
      (machine_before around 28 (regs t0 t1 s0 0 0 65_652 4 93) (to_le_bytes w32 hash))
      (laid around.front (code ++ (hash ∷ row)) around.back)
  unfolding at program register_meaning
  leads_to_exit =
      set_before 14 (lit< tt) (regs t0 t1 s0 0 hash 0 0 0) 11 65_536 (at 15 [] hash 65_536 0 0) refl refl
      ▸ set_before 15 (lit< tt) (regs t0 t1 s0 0 hash 65_536 0 0) 11 65_652 (at 16 [] hash 65_652 0 0) refl refl
      ▸ stores
      ▸ set_after 17 (lit< tt) (regs t0 t1 s0 0 hash 65_652 0 0) [] 10 0 (at 18 [] 0 65_652 0 0) refl refl
      ▸ set_after 18 (lit< tt) (regs t0 t1 s0 0 0 65_652 0 0) [] 10 1 (at 19 [] 1 65_652 0 0) refl refl
      ▸ set_after 19 (lit< tt) (regs t0 t1 s0 0 1 65_652 0 0) [] 12 0 (at 20 [] 1 65_652 0 0) refl refl
      ▸ set_after 20 (lit< tt) (regs t0 t1 s0 0 1 65_652 0 0) [] 12 4 (at 21 [] 1 65_652 4 0) refl refl
      ▸ set_after 21 (lit< tt) (regs t0 t1 s0 0 1 65_652 4 0) [] 17 0 (at 22 [] 1 65_652 4 0) refl refl
      ▸ set_after 22 (lit< tt) (regs t0 t1 s0 0 1 65_652 4 0) [] 17 64 (at 23 [] 1 65_652 4 64) refl refl
      ▸ writes
      ▸ set_after 24 (lit< tt) (regs t0 t1 s0 0 4 65_652 4 64) written 10 0 (at 25 written 0 65_652 4 64) refl refl
      ▸ set_after 25 (lit< tt) (regs t0 t1 s0 0 0 65_652 4 64) written 10 0 (at 26 written 0 65_652 4 64) refl refl
      ▸ set_after 26 (lit< tt) (regs t0 t1 s0 0 0 65_652 4 64) written 17 0 (at 27 written 0 65_652 4 0) refl refl
      ▸ set_after 27 (lit< tt) (regs t0 t1 s0 0 0 65_652 4 0) written 17 93 (at 28 written 0 65_652 4 93) refl refl

  -- the last instruction
  pub exits : (more : ℕ)
      → flat_run (suc more) (machine_before around 28 (regs t0 t1 s0 0 0 65_652 4 93) (to_le_bytes w32 hash))
      (laid around.front (code ++ (hash ∷ row)) around.back)
      ≡ record {
        instructions = 1;
        machine = machine_before around 28 (regs t0 t1 s0 0 0 65_652 4 93) (to_le_bytes w32 hash);
        memory = laid around.front (code ++ (hash ∷ row)) around.back;
        ending = Exited 0;
      }
  unfolding program flat_run
  exits more =
      ap (λ (s : FlatStep). run_from (flat_run more) s (s.done.ended))
      (fetched around (code ++ (hash ∷ row)) room_after 28 (regs t0 t1 s0 0 0 65_652 4 93) written (instr_at 28)
      (within around (hash ∷ row) room_after 28 (lit< tt)) (coded (hash ∷ row) 28 (lit< tt)))
