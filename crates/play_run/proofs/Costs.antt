-- What an instruction costs at most, and so how far the clock goes.
use Rattle.std.proofs.Common.{◌≤◌, ℕ, zero, suc, ◌+◌, Bool, true, false, IsTrue, List, Option, Some, None, ap, subst}
use Rattle.std.proofs.Common.{arith}
use Rattle.std.specs.Int.{from_le_bytes, w32}
use Rattle.cycle_table.specs.Costs.{cost_of, register_cost}
use Rattle.data_cache.specs.CacheLists.{Lines}
use Rattle.rv32_core.specs.FlatMachine.{FlatStep, flat_step, effected, bytes_at}
use Rattle.rv32_core.specs.Machine.{CoreState, Machine, IsEffect, is_buffer, is_inside, is_jump, moved_by}
use Rattle.rv32_core.specs.Machine.{cost_of_decoded}
use Rattle.rv32_core.specs.Machine.{cost_of_word, effect_of_word}
use Rattle.rv32_core.specs.declared.effect.Effect.{Effect}
use Rattle.rv32_core.specs.declared.effect.Effect.TheVariants.{Passes, Sets, Jumps, Loads, Stores, Answers, Breaks}
use Rattle.rv32_core.specs.declared.effect.Effect.TheVariants.{Reads, Writes, Exits, Traps}
use Rattle.rv32_core.specs.declared.outcome.TrapKind.TheVariants.{FetchFault}
use Rattle.rv32_core.proofs.EffectLaws.{effect_of_word-fine, is_buffer-above, is_buffer-below}
use Rattle.rv32_core.proofs.ItemLaws.{step-if}
use Rattle.rv32_table.specs.Table.{decoded}
use Rattle.rv32_table.specs.declared.instruction.Instr.{Instr}
use Rattle.rv32_table.specs.declared.instruction.Instr.TheVariants.{Lui, Auipc, Jal, Jalr, Branch, Load, Store, OpImm}
use Rattle.rv32_table.specs.declared.instruction.Instr.TheVariants.{Op, Fence, FenceI, Ecall, Ebreak}
use Rattle.rv32_table.specs.declared.instruction.RegOp.{RegOp}
use Rattle.rv32_table.specs.declared.instruction.RegOp.TheVariants.{Add, Sub, Sll, Slt, Sltu, Xor, Srl, Sra, Or, And}
use Rattle.rv32_table.specs.declared.instruction.RegOp.TheVariants.{Mul, Mulh, Mulhsu, Mulhu, Div, Divu, Rem, Remu}
use Rattle.run_play.specs.Play.{instruction}
use Rattle.run_play.proofs.Flat.{instruction-flat}

register-low : (op : RegOp) (most : ℕ) → register_cost op ≤ 34 + most
register-low Add most = omega arith
register-low Sub most = omega arith
register-low Sll most = omega arith
register-low Slt most = omega arith
register-low Sltu most = omega arith
register-low Xor most = omega arith
register-low Srl most = omega arith
register-low Sra most = omega arith
register-low Or most = omega arith
register-low And most = omega arith
register-low Mul most = omega arith
register-low Mulh most = omega arith
register-low Mulhsu most = omega arith
register-low Mulhu most = omega arith
register-low Div most = omega arith
register-low Divu most = omega arith
register-low Rem most = omega arith
register-low Remu most = omega arith

branch-low : (taken : Bool) (most : ℕ) (op : _) (rs1 rs2 : ℕ) (offset : _) (moved : ℕ)
    → cost_of (Branch op rs1 rs2 offset) taken moved ≤ 34 + most
branch-low true most op rs1 rs2 offset moved = omega arith
branch-low false most op rs1 rs2 offset moved = omega arith

-- a division is the dearest, or a host call
cost-low : (instr : Instr) (taken : Bool) (moved most : ℕ) → moved ≤ most → cost_of instr taken moved ≤ 34 + most
cost-low (Lui rd imm) taken moved most low = omega arith
cost-low (Auipc rd imm) taken moved most low = omega arith
cost-low (Jal rd offset) taken moved most low = omega arith
cost-low (Jalr rd rs1 imm) taken moved most low = omega arith
cost-low (Branch op rs1 rs2 offset) taken moved most low = branch-low taken most op rs1 rs2 offset moved
cost-low (Load op rd rs1 imm) taken moved most low = omega arith
cost-low (Store op rs1 rs2 imm) taken moved most low = omega arith
cost-low (OpImm op rd rs1 imm) taken moved most low = omega arith
cost-low (Op op rd rs1 rs2) taken moved most low = register-low op most
cost-low (Fence rest) taken moved most low = omega arith
cost-low (FenceI rest) taken moved most low = omega arith
cost-low Ecall taken moved most low = omega arith
cost-low Ebreak taken moved most low = omega arith

decoded-low : (instr : Option Instr) (effect : Effect) (most : ℕ) → moved_by effect ≤ most
    → cost_of_decoded instr effect ≤ 34 + most
decoded-low (Some instr) effect most low = cost-low instr (is_jump effect) (moved_by effect) most low
decoded-low None effect most low = omega arith

-- a host call moves no more bytes than there are
buffer-low : (core : CoreState) (address count : ℕ) → IsTrue (is_buffer core address count) → count ≤ core.size
buffer-low core address zero fits = omega arith
buffer-low core address (suc n) fits =
    let above : core.base ≤ address = is_buffer-above core address (suc n) fits (omega arith) in
    let below : address + suc n ≤ core.base + core.size = is_buffer-below core address (suc n) fits (omega arith) in
    omega arith

moved-low : (machine : Machine) (effect : Effect) → IsEffect machine effect → moved_by effect ≤ machine.core.size
moved-low machine Passes fine = omega arith
moved-low machine (Sets index value) fine = omega arith
moved-low machine (Jumps index target) fine = omega arith
moved-low machine (Loads op index address) fine = omega arith
moved-low machine (Stores op address value) fine = omega arith
moved-low machine (Answers value) fine = omega arith
moved-low machine (Breaks value) fine = omega arith
moved-low machine (Reads address count) fine = buffer-low machine.core address count fine.0
moved-low machine (Writes address count) fine = buffer-low machine.core address count fine.0
moved-low machine (Exits status) fine = omega arith
moved-low machine (Traps kind) fine = omega arith

effected-low : (machine : Machine) (memory : List ℕ) (cost most : ℕ) (effect : Effect) → cost ≤ most
    → (effected machine memory cost effect).done.cost ≤ most
effected-low machine memory cost most Passes low = low
effected-low machine memory cost most (Sets index value) low = low
effected-low machine memory cost most (Jumps index target) low = low
effected-low machine memory cost most (Loads op index address) low = low
effected-low machine memory cost most (Stores op address value) low = low
effected-low machine memory cost most (Answers value) low = low
effected-low machine memory cost most (Breaks value) low = low
effected-low machine memory cost most (Reads address count) low = low
effected-low machine memory cost most (Writes address count) low = low
effected-low machine memory cost most (Exits status) low = low
effected-low machine memory cost most (Traps kind) low = omega arith

-- a word's cost
pub word-low : (machine : Machine) (memory : List ℕ) (word : ℕ)
    → (effected machine memory (cost_of_word machine word) (effect_of_word machine word)).done.cost
    ≤ 34 + machine.core.size
word-low machine memory word =
    effected-low machine memory (cost_of_word machine word) (34 + machine.core.size) (effect_of_word machine word)
    (decoded-low (decoded word) (effect_of_word machine word) machine.core.size
    (moved-low machine (effect_of_word machine word) (effect_of_word-fine machine word)))

flat-low : (machine : Machine) (memory : List ℕ) → (flat_step machine memory).done.cost ≤ 34 + machine.core.size
flat-low machine memory =
    let word : ℕ = from_le_bytes w32 (bytes_at machine memory machine.core.pc 4) in
    let most : ℕ = 34 + machine.core.size in
    step-if (λ (s : FlatStep). s.done.cost ≤ most) (is_inside machine.core machine.core.pc 4)
    (effected machine memory (cost_of_word machine word) (effect_of_word machine word))
    (effected machine memory 0 (Traps FetchFault)) (word-low machine memory word) (omega arith)

-- An instruction's cost.
pub instruction-low : (ways : ℕ) (machine : Machine) (lines : Lines)
    → (((instruction ways machine lines).outcome).1).cost ≤ 34 + machine.core.size
instruction-low ways machine lines =
    subst (λ n. n ≤ 34 + machine.core.size)
    (ap (λ (s : FlatStep). s.done.cost) (instruction-flat ways machine lines)) (flat-low machine lines.memory)
