-- The whole run: to the loop, all turns, and to the exit.
use Rattle.std.proofs.Common.{◌≡◌, ◌∙◌, ℕ, suc, ◌+◌, ◌-◌, ◌*◌, ◌^◌, ◌<◌, ◌≤◌, List, [], ◌∷◌, ◌++◌, length, ap, sym}
use Rattle.std.proofs.Common.{refl, subst, arith, length-append, true}
use Rattle.std.specs.List.{list_all, fold}
use Rattle.std.specs.Int.{to_le_bytes, w32}
use Rattle.std.proofs.lemmas.List.{append-nil}
use Rattle.rv32_core.specs.Machine.{Machine}
use Rattle.rv32_core.specs.FlatRun.{FlatRun, Exited, finished_before, flat_run}
use Rattle.generated_run.specs.Hash.{hash_after}
use Rattle.generated_run.specs.Leads.{Leads}
use Rattle.generated_run.specs.Written.{IsWritten}
use Rattle.generated_run.specs.States.{code, laid, Surroundings, HasRoom, regs, machine_before, address_of_word}
use Rattle.generated_run.specs.States.{turn_at, IsTurning}
use Rattle.generated_run.proofs.LeadLaws.{◌▸◌}
use Rattle.generated_run.proofs.Coded.{length_code}
use Rattle.generated_run.proofs.Turn.{leads_to_loop}
use Rattle.generated_run.proofs.Loop.{is_word, Turned, looped}
use Rattle.generated_run.proofs.Finish.{leads_to_exit, exits}

-- so many instructions, and then an exit
module _ (count hash : ℕ) (machine next : Machine) (memory after : List ℕ)
    (output : next.files.output ≡ to_le_bytes w32 hash) where
  done_after : Leads count machine memory next after
      → ((more : ℕ) → flat_run (suc more) next after
      ≡ record { instructions = 1; machine = next; memory = after; ending = Exited 0 })
      → (n : ℕ) → count + 1 ≤ n → IsWritten (count + 1) hash (flat_run n machine memory)
  done_after leads last n enough =
      let more : ℕ = n - (count + 1) in
      let whole : count + suc more ≡ n = omega arith in
      let P : FlatRun → Type 0 = IsWritten (count + 1) hash in
      let at_end : FlatRun = record { instructions = count + 1; machine = next; memory = after; ending = Exited 0 } in
      let is : at_end ≡ flat_run n machine memory =
      sym (ap (finished_before count) (last more)) ∙ sym (leads.goes_on (suc more))
      ∙ ap (λ k. flat_run k machine memory) whole in
      subst P is (record { ending = refl; instructions = refl; output = output })

-- so far from an exit, with the output written
record ToExit (hash : ℕ) (machine : Machine) (memory : List ℕ) : Type 0 where
  pub last : Machine
  pub end : List ℕ
  pub output : last.files.output ≡ to_le_bytes w32 hash
  pub leads : Leads 14 machine memory last end
  pub exits : (more : ℕ) → flat_run (suc more) last end
      ≡ record { instructions = 1; machine = last; memory = end; ending = Exited 0 }

turn_at_some : (left : List ℕ) → 1 ≤ length left → turn_at left ≡ 6
turn_at_some [] some = absurd (omega arith)
turn_at_some (word ∷ left) some = refl

module _ (around : Surroundings) (all : List ℕ) (room : HasRoom around (30 + length all)) where
  room_of : (row : List ℕ) → length row ≡ length all → HasRoom around (length (code ++ (length all ∷ row)))
  room_of row same =
      let cells : length (code ++ (length all ∷ row)) ≡ 30 + length all =
      length-append code (length all ∷ row) ∙ omega (arith, same, length_code) in
      subst (HasRoom around) (sym cells) room

  abbrev pub at_start : Machine
  at_start = machine_before around 0 (regs 0 0 0 0 0 0 0 0) []

  abbrev pub at_loop : Machine
  at_loop = machine_before around 6 (regs 0 0 (address_of_word 0) (length all) 0 0 0 0) []

  abbrev pub bytes_at_start : List ℕ
  bytes_at_start = laid around.front (code ++ (length all ∷ all)) around.back

  -- from behind the last turn to the exit
  to_exit : (machine : Machine) (memory : List ℕ) → IsTurning around all all [] machine memory
      → ToExit (fold hash_after 0 all) machine memory
  to_exit machine memory t =
      let hash : ℕ = fold hash_after 0 all in
      let row : List ℕ = t.places ++ [] in
      let s0 : ℕ = address_of_word (length all) in
      let last : Machine =
      machine_before around 28 (regs t.t0 t.t1 s0 0 0 65_652 4 93) (to_le_bytes w32 hash) in
      let end : List ℕ = laid around.front (code ++ (hash ∷ row)) around.back in
      let here : HasRoom around (length (code ++ (length all ∷ row))) =
      room_of row (ap length (append-nil t.places) ∙ t.replaced) in
      let P : Machine → Type 0 = λ m. Leads 14 m memory last end in
      let Q : List ℕ → Type 0 = λ l.
      Leads 14 (machine_before around 14 (regs t.t0 t.t1 s0 0 hash 0 0 0) []) l last end in
      record {
        last = last;
        end = end;
        output = refl;
        leads = subst P (sym t.registers)
            (subst Q (sym t.bytes) (leads_to_exit around (length all) row t.t0 t.t1 s0 hash here));
        exits = exits around (length all) row t.t0 t.t1 s0 hash here;
      }

  pub last_written : (machine : Machine) (memory : List ℕ) → IsTurning around all all [] machine memory → (n : ℕ)
      → 15 ≤ n → IsWritten 15 (fold hash_after 0 all) (flat_run n machine memory)
  last_written machine memory turning n enough =
      let rest : ToExit (fold hash_after 0 all) machine memory = to_exit machine memory turning in
      done_after 14 (fold hash_after 0 all) machine rest.last memory rest.end rest.output rest.leads rest.exits n enough

  pub first_turn : 1 ≤ length all → IsTurning around all [] all at_loop bytes_at_start
  first_turn some = record {
    t0 = 0;
    t1 = 0;
    places = [];
    split = refl;
    replaced = refl;
    registers = ap (λ k. machine_before around k (regs 0 0 (address_of_word 0) (length all) 0 0 0 0) [])
        (sym (turn_at_some all some));
    bytes = refl;
  }

  pub to_loop : Leads 6 at_start bytes_at_start at_loop bytes_at_start
  to_loop =
      let few : length all < 2 ^ 32 = omega (arith, room.high, room.below) in
      leads_to_loop around (length all) all few (room_of all refl)

  module _ (words : list_all is_word all ≡ true) where
    pub run_is_done : 1 ≤ length all → (n : ℕ) → 8 * length all + 21 ≤ n
        → IsWritten (8 * length all + 21) (fold hash_after 0 all) (flat_run n at_start bytes_at_start)
    run_is_done some n enough =
        let hash : ℕ = fold hash_after 0 all in
        let turned : Turned around all all [] (8 * length all) at_loop bytes_at_start =
        looped around all words room all [] at_loop bytes_at_start (first_turn some) in
        let rest : ToExit hash turned.next turned.after = to_exit turned.next turned.after turned.turning in
        let whole : Leads (6 + (8 * length all + 14)) at_start bytes_at_start rest.last rest.end =
        to_loop ▸ turned.leads ▸ rest.leads in
        let count : (6 + (8 * length all + 14)) + 1 ≡ 8 * length all + 21 = omega arith in
        let R : ℕ → Type 0 = λ k. IsWritten k hash (flat_run n at_start bytes_at_start) in
        subst R count
        (done_after (6 + (8 * length all + 14)) hash at_start rest.last bytes_at_start rest.end rest.output whole
        rest.exits n (omega (arith, enough)))
