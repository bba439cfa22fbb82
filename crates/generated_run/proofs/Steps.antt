-- One instruction of a program whose words stand in the memory.
use Rattle.std.proofs.Common.{◌≡◌, ◌∙◌, ℕ, ◌+◌, ◌-◌, ◌*◌, ◌%◌, ◌^◌, ◌<◌, List, length, ap, refl, arith, Bool, true}
use Rattle.std.proofs.Common.{false}
use Rattle.std.specs.Prelude.{◌==◌, nat_le, ◌&&◌, if◌then◌else◌, ℤ, slice_index, slice_set, Option, Some}
use Rattle.std.specs.Int.{from_le_bytes, to_le_bytes, w32}
use Rattle.std.proofs.lemmas.Bool.{le-leb, eq-eqb}
use Rattle.std.proofs.lemmas.Nat.{from_le_bytes-to_le_bytes_4}
use Rattle.rv32_table.specs.Meaning.{address_of, load_meaning}
use Rattle.rv32_table.specs.Table.{decoded}
use Rattle.rv32_table.specs.declared.instruction.Instr.{Instr}
use Rattle.rv32_table.specs.declared.instruction.Instr.TheVariants.{Load, Store}
use Rattle.rv32_table.specs.declared.instruction.LoadOp.TheVariants.{Lw}
use Rattle.rv32_table.specs.declared.instruction.StoreOp.TheVariants.{Sw}
use Rattle.rv32_core.specs.Access.{slice_of, spliced}
use Rattle.rv32_core.specs.Machine.{Machine, register, at_pc, next_pc, effect_of_decoded, effect_of, cost_of_decoded}
use Rattle.rv32_core.specs.Machine.{load_from, store_at}
use Rattle.rv32_core.specs.FlatMachine.{FlatStep, set_to, stepped, effected, flat_step}
use Rattle.rv32_core.specs.declared.effect.Effect.{Effect}
use Rattle.rv32_core.specs.declared.effect.Effect.TheVariants.{Sets, Loads, Stores}
use Rattle.rv32_asm.specs.Generator.{start}
use Rattle.generated_run.specs.Leads.{Leads}
use Rattle.generated_run.specs.States.{laid, Surroundings, HasRoom, Registers, machine_before}
use Rattle.generated_run.proofs.LeadLaws.{leads_one}
use Rattle.generated_run.proofs.Cells.{cell_bytes, cell_replaced}

if_true : {A : Type 0} (test : Bool) → test ≡ true → (x y : A) → (if test then x else y) ≡ x
if_true true is x y = refl
if_true false is x y = absurd (cc)

and_both : (a b : Bool) → a ≡ true → b ≡ true → (a && b) ≡ true
and_both true b first second = second
and_both false b first second = first

-- the word of this index is that of this instruction
pub record IsCoded (cells : List ℕ) (index : ℕ) (instr : Instr) : Type 0 where
  pub word : ℕ
  pub at : slice_index cells index ≡ word
  pub small : word < 2 ^ 32
  pub decodes : decoded word ≡ Some instr

module _ (around : Surroundings) (cells : List ℕ) (room : HasRoom around (length cells)) where
  abbrev pub memory : List ℕ
  memory = laid around.front cells around.back

  pub inside : (k : ℕ) → k < length cells
      → (nat_le around.base (start + 4 * k) && nat_le (start + 4 * k + 4) (around.base + around.size)) ≡ true
  inside k within =
      and_both (nat_le around.base (start + 4 * k)) _ (le-leb around.base (start + 4 * k) (omega (arith, room.low)))
      (le-leb (start + 4 * k + 4) (around.base + around.size) (omega (arith, room.high)))

  offset : (k : ℕ) → (start + 4 * k) - around.base ≡ length around.front + 4 * k
  offset k = omega (arith, room.low, room.front)

  -- the word that room there
  pub bytes_are : (k : ℕ) → k < length cells
      → slice_of memory ((start + 4 * k) - around.base) 4 ≡ to_le_bytes w32 (slice_index cells k)
  bytes_are k within =
      ap (λ n. slice_of memory n 4) (offset k) ∙ cell_bytes around.front cells around.back k within

  word_is : (k word : ℕ) → k < length cells → slice_index cells k ≡ word → word < 2 ^ 32
      → from_le_bytes w32 (slice_of memory ((start + 4 * k) - around.base) 4) ≡ word
  word_is k word within is small =
      ap (from_le_bytes w32) (bytes_are k within ∙ ap (to_le_bytes w32) is) ∙ from_le_bytes-to_le_bytes_4 word small

  module _ (k : ℕ) (r : Registers) (output : List ℕ) (instr : Instr) (within : k < length cells)
      (coded : IsCoded cells k instr) where
    abbrev pub machine : Machine
    machine = machine_before around k r output

    abbrev pub cost : ℕ
    cost = cost_of_decoded (Some instr) (effect_of machine instr)

    by_word : ℕ → FlatStep
    by_word word =
        effected machine memory (cost_of_decoded (decoded word) (effect_of_decoded machine (decoded word)))
        (effect_of_decoded machine (decoded word))

    by_decoded : Option Instr → FlatStep
    by_decoded found =
        effected machine memory (cost_of_decoded found (effect_of_decoded machine found))
        (effect_of_decoded machine found)

    pub fetched : flat_step machine memory ≡ effected machine memory cost (effect_of machine instr)
    unfolding by_word by_decoded
    fetched =
        if_true (nat_le around.base (start + 4 * k) && nat_le (start + 4 * k + 4) (around.base + around.size))
        (inside k within) _ _
        ∙ ap by_word (word_is k coded.word within coded.at coded.small)
        ∙ ap by_decoded coded.decodes

    pub leads_to : (effect : Effect) (next : Machine) (after : List ℕ) → effect_of machine instr ≡ effect
        → effected machine memory cost effect ≡ stepped next after cost → Leads 1 machine memory next after
    leads_to effect next after is makes =
        leads_one machine next memory after cost (fetched ∙ ap (effected machine memory cost) is ∙ makes)

    -- a register is set, and the next instruction follows
    pub leads_sets : (index value : ℕ) (next : Machine) → effect_of machine instr ≡ Sets index value
        → set_to machine index value ≡ next → Leads 1 machine memory next memory
    leads_sets index value next is sets =
        leads_to (Sets index value) next memory is (ap (λ m. stepped m memory cost) sets)

  -- a word is loaded
  pub leads_load : (k : ℕ) (r : Registers) (output : List ℕ) (rd rs : ℕ) (imm : ℤ) → k < length cells
      → IsCoded cells k (Load Lw rd rs imm) → (j value : ℕ) (next : Machine) → j < length cells
      → address_of (register (machine_before around k r output).core rs) imm ≡ start + 4 * j
      → slice_index cells j ≡ value → value < 2 ^ 32 → set_to (machine_before around k r output) rd value ≡ next
      → Leads 1 (machine_before around k r output) memory next memory
  unfolding load_meaning
  leads_load k r output rd rs imm within coded j value next there address is small sets =
      let m : Machine = machine_before around k r output in
      let c : ℕ = cost k r output (Load Lw rd rs imm) within coded in
      let aligned : (start + 4 * j) % 4 ≡ 0 = omega arith in
      leads_to k r output (Load Lw rd rs imm) within coded (Loads Lw rd (start + 4 * j)) next memory
      (ap (load_from m.core Lw rd) address
      ∙ if_true ((start + 4 * j) % 4 == 0) (eq-eqb ((start + 4 * j) % 4) 0 aligned) _ _
      ∙ if_true (nat_le around.base (start + 4 * j) && nat_le (start + 4 * j + 4) (around.base + around.size))
      (inside j there) _ _)
      (ap (λ v. stepped (set_to m rd v) memory c) (word_is j value there is small)
      ∙ ap (λ n. stepped n memory c) sets)

  -- a word is stored
  pub leads_store : (k : ℕ) (r : Registers) (output : List ℕ) (rs1 rs2 : ℕ) (imm : ℤ) → k < length cells
      → IsCoded cells k (Store Sw rs1 rs2 imm) → (j value : ℕ) (next : Machine) → j < length cells
      → address_of (register (machine_before around k r output).core rs1) imm ≡ start + 4 * j
      → register (machine_before around k r output).core rs2 ≡ value
      → record (machine_before around k r output) {
        core = at_pc (machine_before around k r output).core (next_pc (machine_before around k r output).core);
      } ≡ next
      → Leads 1 (machine_before around k r output) memory next (laid around.front (slice_set cells j value) around.back)
  leads_store k r output rs1 rs2 imm within coded j value next there address is moves =
      let m : Machine = machine_before around k r output in
      let c : ℕ = cost k r output (Store Sw rs1 rs2 imm) within coded in
      let aligned : (start + 4 * j) % 4 ≡ 0 = omega arith in
      let after : List ℕ = laid around.front (slice_set cells j value) around.back in
      leads_to k r output (Store Sw rs1 rs2 imm) within coded (Stores Sw (start + 4 * j) value) next after
      (ap (λ a. store_at m.core Sw a (register m.core rs2)) address
      ∙ if_true ((start + 4 * j) % 4 == 0) (eq-eqb ((start + 4 * j) % 4) 0 aligned) _ _
      ∙ if_true (nat_le around.base (start + 4 * j) && nat_le (start + 4 * j + 4) (around.base + around.size))
      (inside j there) _ _
      ∙ ap (Stores Sw (start + 4 * j)) is)
      (ap
      (λ n. stepped (record m { core = at_pc m.core (next_pc m.core) }) (spliced memory n (to_le_bytes w32 value)) c)
      (offset j)
      ∙ ap (λ l. stepped (record m { core = at_pc m.core (next_pc m.core) }) l c)
      (cell_replaced around.front cells around.back j value there)
      ∙ ap (λ n. stepped n after c) moves)
